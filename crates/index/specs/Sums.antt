-- The bucket of a string of bytes.
use Rattle.std.specs.Prelude.{ℕ, ◌+◌, ◌-◌, ◌*◌, ◌/◌, ◌%◌, ◌^◌, cond, nat_le, List, length, take, drop, bit_xor}
use Rattle.std.specs.List.{fold}
use Rattle.std.specs.Int.{w64, from_le_bytes}
use Rattle.std.specs.Simd.{first_chunks}

-- A sum with one word more, all of them below 2 ^ 64. The product makes the low bits count in all higher ones, and the
-- exclusive or makes the high half count in the low one, and so in what comes after.
abbrev pub mixed : ℕ → ℕ → ℕ
mixed sum word = let product = (sum + word) % 2 ^ 64 * 11400714819323198485 % 2 ^ 64 in bit_xor product (product / 2 ^ 32)

-- eight bytes, as one word
abbrev pub mixed_eight : ℕ → List ℕ → ℕ
mixed_eight sum bytes = mixed sum (from_le_bytes w64 bytes)

-- a sum with some bytes more: with each eight of them, and with each one that is left
abbrev pub summed : ℕ → List ℕ → ℕ
summed sum bytes =
    let eights = first_chunks 8 (length bytes / 8) bytes in
    let rest = drop (length bytes / 8 * 8) bytes in
    fold mixed (fold mixed_eight sum eights) rest

-- the sum of a string: of its length and all its bytes
abbrev pub sum_of : List ℕ → ℕ
sum_of bytes = summed (length bytes) bytes

-- The sum of a string by its ends: of its length and all its bytes, or, where these are more than 64, of its length,
-- the first 32 and the last 32. Strings of one length that differ only between these ends have one bucket.
abbrev pub sum_of_ends : List ℕ → ℕ
sum_of_ends bytes =
    let n = length bytes in
    cond (nat_le n 64) (summed n bytes) (summed (summed n (take 32 bytes)) (drop (n - 32) bytes))

-- the highest ten bits of the sum
unfoldable pub bucket_of : List ℕ → ℕ
bucket_of bytes = sum_of bytes / 2 ^ 54

-- those of the sum by the ends
unfoldable pub bucket_of_ends : List ℕ → ℕ
bucket_of_ends bytes = sum_of_ends bytes / 2 ^ 54
