-- Contents that are put from a list: each is its length in two bytes, most significant first, and then its bytes.
use Rattle.std.specs.Prelude.{ℕ, zero, suc, ◌+◌, ◌*◌, min, cond, List, [], ◌∷◌, length, take, drop, Some, None, Option, nat_le}
use Rattle.model.specs.Contents.{Content, Pool, given, put}

-- a content, and the list after it
pub record Cut : Type 0 where
  pub content : Content
  pub rest : List ℕ

abbrev pub cut_at : Content → List ℕ → Cut
cut_at x bs = record { content = x; rest = bs }

-- so many bytes, if there are as many
abbrev pub piece : ℕ → List ℕ → Option Cut
piece n bs = cond (nat_le n (length bs)) (Some (cut_at (take n bs) (drop n bs))) None

-- the content that a list begins with; none where it is not whole
abbrev pub first : List ℕ → Option Cut
first [] = None
first (h ∷ []) = None
first (h ∷ l ∷ bs) = piece (h * 256 + l) bs

-- the numbers that the contents of a list get, at most n of them: 0 for one that the pool refuses
abbrev pub given_to : Option Cut → Pool → (Pool → List ℕ → List ℕ) → List ℕ
given_to None p more = []
given_to (Some c) p more = given p c.content ∷ more (put p c.content) c.rest

abbrev pub numbers_given : ℕ → Pool → List ℕ → List ℕ
numbers_given zero p bs = []
numbers_given (suc n) p bs = given_to (first bs) p (numbers_given n)

-- a pool without contents, over so many places and bytes
abbrev pub fresh_pool : ℕ → ℕ → Pool
fresh_pool places room = record { contents = []; places = min places 1024; room = min room 65536 }
