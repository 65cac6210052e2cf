-- A list of contents is put content by content: the numbers so far, and those that the rest of the list will get.
use Rattle.std.proofs.Common.{◌≡◌, ℕ, zero, suc, ◌+◌, ◌-◌, ◌*◌, ◌<◌, ◌≤◌, List, [], ◌∷◌, length, take, drop, get_or, Some, None, Option, sym, ap, ◌∙◌, subst, arith}
use Rattle.std.proofs.lemmas.List.{length-drop, take_all}
use Rattle.std.specs.List.{flat_map}
use Rattle.model.specs.Contents.{Pool, given, put}
use Rattle.trace.specs.Reads.{two_bytes}
use Rattle.boundary.specs.Puts.{Cut, first, given_to, numbers_given}

-- i contents of a list were put, which led from a pool p to a pool q, and left the rest of the list
pub record SoFar (most : ℕ) (p q : Pool) (list rest : List ℕ) (i : ℕ) : Type 0 where
  pub few : i ≤ length (numbers_given most p list)
  pub left : drop i (numbers_given most p list) ≡ numbers_given (most - i) q rest

pub none_yet : (most : ℕ) (p : Pool) (list : List ℕ) → SoFar most p p list list 0
none_yet most p list =
    let same : most ≡ most - 0 = omega arith in
    record { few = omega arith; left = ap (λ n. numbers_given n p list) same }

-- the front of a list of which some elements are dropped
front : (i : ℕ) (xs : List ℕ) (y : ℕ) (ys : List ℕ) → drop i xs ≡ y ∷ ys → (i < length xs) × (get_or xs i 0 ≡ y) × (drop (suc i) xs ≡ ys)
front zero [] y ys e = cc
front zero (x ∷ xs) y ys e = (omega arith, (cc), (cc))
front (suc i) [] y ys e = cc
front (suc i) (x ∷ xs) y ys e = let r = front i xs y ys e in (omega (arith, r.0), r.1, r.2)

module _ (most : ℕ) (p q : Pool) (list rest : List ℕ) (i : ℕ) (so_far : SoFar most p q list rest i) where
  -- one content more
  module _ (lt : i < most) (c : Cut) (is : first rest ≡ Some c) where
    shape : drop i (numbers_given most p list) ≡ given q c.content ∷ numbers_given (most - suc i) (put q c.content) c.rest
    shape =
        let same : most - i ≡ suc (most - suc i) = omega arith in
        so_far.left
        ∙ ap (λ n. numbers_given n q rest) same
        ∙ ap (λ o. given_to o q (numbers_given (most - suc i))) is

    pub has_next : i < length (numbers_given most p list)
    has_next = (front i _ _ _ shape).0

    pub next_is : get_or (numbers_given most p list) i 0 ≡ given q c.content
    next_is = (front i _ _ _ shape).1

    pub one_more : SoFar most p (put q c.content) list c.rest (i + 1)
    one_more =
        let f = front i _ _ _ shape in
        let up : i + 1 ≡ suc i = omega arith in
        let P : ℕ → Type 0 = λ k. SoFar most p (put q c.content) list c.rest k in
        subst P (sym up) (record { few = omega (arith, f.0); left = f.2 })

  -- nothing more
  nothing_left : drop i (numbers_given most p list) ≡ [] → i ≡ length (numbers_given most p list)
  nothing_left e = let l = length-drop i (numbers_given most p list) in let n = ap length e in omega (arith, l, n, so_far.few)

  pub cut_off : i < most → first rest ≡ None → i ≡ length (numbers_given most p list)
  cut_off lt is =
      let same : most - i ≡ suc (most - suc i) = omega arith in
      nothing_left (so_far.left ∙ ap (λ n. numbers_given n q rest) same ∙ ap (λ o. given_to o q (numbers_given (most - suc i))) is)

  pub no_room : i ≡ most → i ≡ length (numbers_given most p list)
  no_room e =
      let same : most - i ≡ 0 = omega arith in
      nothing_left (so_far.left ∙ ap (λ n. numbers_given n q rest) same)

-- at most so many numbers, of two bytes each
pub given_few : (n : ℕ) (p : Pool) (bs : List ℕ) → length (numbers_given n p bs) ≤ n
given_few zero p bs = omega arith
given_few (suc n) p bs = by (first bs) (λ c. given_few n (put p c.content) c.rest)
  where
    by : (o : Option Cut) → ((c : Cut) → length (numbers_given n (put p c.content) c.rest) ≤ n) → length (given_to o p (numbers_given n)) ≤ suc n
    by None more = omega arith
    by (Some c) more = omega (arith, more c)

pub two_each : (ns : List ℕ) → length (flat_map two_bytes ns) ≡ 2 * length ns
two_each [] = omega arith
two_each (n ∷ ns) = omega (arith, two_each ns)

pub whole : (i : ℕ) (xs : List ℕ) → i ≡ length xs → take i xs ≡ xs
whole i xs e = take_all i xs (omega arith)
