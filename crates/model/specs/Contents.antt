-- Contents, and the pool that numbers them.
use Rattle.std.specs.Prelude.{ℕ, zero, suc, ◌+◌, ◌-◌, Bool, cond, ◌&&◌, List, [], ◌∷◌, ◌++◌, length, take, Some, None, Option, nat_le, slice_index_or}
use Rattle.std.specs.List.{list_any}
use Rattle.std.specs.Str.{bytes_eq}

-- A content is a list of bytes.
abbrev pub Content : Type 0
Content = List ℕ

-- The contents in order of arrival: the first has the number 1, and 0 is the number of none. Places and room never change.
pub record Pool : Type 0 where
  pub contents : List Content
  pub places : ℕ  -- how many contents it may hold
  pub room : ℕ  -- how many bytes they may have together

abbrev pub count : Pool → ℕ
count p = length p.contents

-- the bytes that contents have together
abbrev pub used : List Content → ℕ
used [] = 0
used (x ∷ xs) = length x + used xs

-- a number is in the pool
abbrev pub holds : Pool → ℕ → Bool
holds p n = nat_le 1 n && nat_le n (count p)

-- the content of a number that is in the pool
abbrev pub content : Pool → ℕ → Content
content p n = slice_index_or p.contents (n - 1) []

-- what a number stands for
abbrev pub told : Pool → ℕ → Option Content
told p n = cond (holds p n) (Some (content p n)) None

-- a number, read as 0 if it is not in the pool
abbrev pub known : Pool → ℕ → ℕ
known p n = cond (nat_le n (count p)) n 0

abbrev pub mem : Content → List Content → Bool
mem x xs = list_any (bytes_eq x) xs

abbrev pub up : ℕ → ℕ
up zero = zero
up (suc n) = suc (suc n)

-- the number of an equal content, or 0; in a pool no two are equal, so there is one such number at most
abbrev pub find : Content → List Content → ℕ
find x [] = 0
find x (y ∷ xs) = cond (bytes_eq x y) 1 (up (find x xs))

-- there is a place and room for one more content
abbrev pub fits : Pool → Content → Bool
fits p x = nat_le (length x) 4096 && nat_le (count p + 1) p.places && nat_le (used p.contents + length x) p.room

-- PUT: the number that a content gets, 0 if it is refused; and the pool after
abbrev pub given : Pool → Content → ℕ
given p x = cond (mem x p.contents) (find x p.contents) (cond (fits p x) (count p + 1) 0)

abbrev pub put : Pool → Content → Pool
put p x = record {
  contents = cond (mem x p.contents) p.contents (cond (fits p x) (p.contents ++ x ∷ []) p.contents);
  places = p.places;
  room = p.room;
}

-- the pool with its first n contents
abbrev pub cut : ℕ → Pool → Pool
cut n p = record { contents = take n p.contents; places = p.places; room = p.room }
