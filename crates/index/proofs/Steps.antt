-- The chains after one element more, and after one less.
use Rattle.std.proofs.Common.{◌≡◌, ℕ, ◌+◌, ◌<◌, ◌≤◌, ◌≢◌, true, List, length, get_or, set, sym, refl, ap, ◌∙◌, inl, inr, arith, add-one, below_more}
use Rattle.std.proofs.lemmas.Bool.{cases_eq}
use Rattle.std.proofs.lemmas.List.{get_or-set_same, get_or-set_other}
use Rattle.index.proofs.Newests.{taken, not_there, set_kept}
use Rattle.index.specs.Chained.{Chained}
use Rattle.index.specs.Newest.{last}

module _ (hs os bs : List ℕ) (n b : ℕ) (h : Chained hs os bs n) where
  module _ (room : n < length bs) where
    abbrev more : List ℕ
    more = set bs n b

    front : (k : ℕ) → k < n → get_or more k 0 ≡ get_or bs k 0
    front k l = let ne : k ≢ n = omega arith in get_or-set_other bs n k b 0 ne

    end : get_or more n 0 ≡ b
    end = get_or-set_same bs n b 0 room

    kept : (c k : ℕ) → k ≤ n → last more c k ≡ last bs c k
    kept c k l = set_kept (λ _. true) c bs n b k l

    head_more : b < length hs → (c : ℕ) → c < 1024 → get_or (set hs b (n + 1)) c 0 ≡ last more c (n + 1)
    head_more in_heads c l =
        elim (cases_eq c b) [
          | inl e ↦ ap (λ c. get_or (set hs b (n + 1)) c 0) e ∙ get_or-set_same hs b (n + 1) 0 in_heads ∙ add-one n ∙ sym (taken (λ _. true) more c n refl (end ∙ sym e)) ∙ ap (last more c) (sym (add-one n))
          | inr ne ↦ get_or-set_other hs b c (n + 1) 0 ne ∙ h.newest c l ∙ sym (kept c n (omega arith)) ∙ sym (not_there (λ _. true) more c n (λ z. ne (sym z ∙ end))) ∙ ap (last more c) (sym (add-one n))
        ]

    older_more : n < length os → b < 1024 → (k : ℕ) → k < n + 1 → get_or (set os n (get_or hs b 0)) k 0 ≡ last more (get_or more k 0) k
    older_more in_before in_range =
        below_more (λ k. get_or (set os n (get_or hs b 0)) k 0 ≡ last more (get_or more k 0) k) n
        (λ k l.
        let ne : k ≢ n = omega arith in
        get_or-set_other os n k (get_or hs b 0) 0 ne ∙ h.older k l ∙ sym (kept (get_or bs k 0) k (omega arith)) ∙ ap (λ c. last more c k) (sym (front k l)))
        (get_or-set_same os n (get_or hs b 0) 0 in_before ∙ h.newest b in_range ∙ sym (kept b n (omega arith)) ∙ ap (λ c. last more c n) (sym end))

    low_more : b < 1024 → (k : ℕ) → k < n + 1 → get_or more k 0 < 1024
    low_more in_range =
        below_more (λ k. get_or more k 0 < 1024) n
        (λ k l. omega (arith, front k l, h.low k l))
        (omega (arith, end))

    pub pushed : b < length hs → n < length os → n < 1024 → b < 1024 → Chained (set hs b (n + 1)) (set os n (get_or hs b 0)) (set bs n b) (n + 1)
    pushed in_heads in_before fits in_range = record {
      fits = omega arith;
      low = low_more in_range;
      newest = head_more in_heads;
      older = older_more in_before in_range;
    }

module _ (hs os bs : List ℕ) (m n : ℕ) (h : Chained hs os bs m) (one : n + 1 ≡ m) where
  head_less : get_or bs n 0 < length hs → (c : ℕ) → c < 1024 → get_or (set hs (get_or bs n 0) (get_or os n 0)) c 0 ≡ last bs c n
  head_less in_heads c l =
      let b = get_or bs n 0 in
      elim (cases_eq c b) [
        | inl e ↦ ap (λ c. get_or (set hs b (get_or os n 0)) c 0) e ∙ get_or-set_same hs b (get_or os n 0) 0 in_heads ∙ h.older n (omega arith) ∙ ap (λ c. last bs c n) (sym e)
        | inr ne ↦ get_or-set_other hs b c (get_or os n 0) 0 ne ∙ h.newest c l ∙ ap (last bs c) (sym one ∙ add-one n) ∙ not_there (λ _. true) bs c n (λ z. ne (sym z))
      ]

  pub popped : get_or bs n 0 < length hs → Chained (set hs (get_or bs n 0) (get_or os n 0)) os bs n
  popped in_heads = record {
    fits = omega (arith, h.fits);
    low = λ k l. h.low k (omega arith);
    newest = head_less in_heads;
    older = λ k l. h.older k (omega arith);
  }
