-- What putting a content answers and leaves, by the ways that it goes.
use Rattle.std.proofs.Common.{◌≡◌, ℕ, zero, suc, ◌+◌, ◌≤◌, true, false, cond, ◌&&◌, ◌||◌, leb, List, [], ◌∷◌, ◌++◌, length, sym, refl, ap, ◌∙◌, inl, inr, arith}
use Rattle.std.proofs.lemmas.Bool.{cond-true, cond-false, cases_Bool, and_parts, leb-true}
use Rattle.std.specs.Str.{bytes_eq}
use Rattle.model.specs.Contents.{Content, Pool, used, mem, find, up, fits, given, put}
use Rattle.pool.specs.Contents.{held, meant}
use Rattle.pool.specs.declared.holder.Pool as Code
use Rattle.pool.proofs.Places.{count_held, used_held}
use Rattle.pool.proofs.Cuts.{with_contents}

not_up : (n : ℕ) → up n ≡ 0 → n ≡ 0
not_up zero e = refl
not_up (suc n) e = absurd (omega arith)

pub mem_none : (x : Content) (xs : List Content) → find x xs ≡ 0 → mem x xs ≡ false
mem_none x [] e = refl
mem_none x (y ∷ xs) e =
    elim (cases_Bool (bytes_eq x y)) [
      | inl t ↦ (let z : ◌≡◌ {A = ℕ} 1 0 = sym (cond-true (bytes_eq x y) 1 (up (find x xs)) t) ∙ e in absurd (omega arith))
      | inr f ↦ ap (λ b. b || mem x xs) f ∙ mem_none x xs (not_up (find x xs) (sym (cond-false (bytes_eq x y) 1 (up (find x xs)) f) ∙ e))
    ]

pub mem_some : (x : Content) (xs : List Content) → (find x xs ≡ 0 → ⊥) → mem x xs ≡ true
mem_some x [] ne = absurd (ne refl)
mem_some x (y ∷ xs) ne =
    elim (cases_Bool (bytes_eq x y)) [
      | inl t ↦ ap (λ b. b || mem x xs) t
      | inr f ↦ ap (λ b. b || mem x xs) f ∙ mem_some x xs (λ z. ne (cond-false (bytes_eq x y) 1 (up (find x xs)) f ∙ ap up z))
    ]

-- a content that is held
pub given_known : (p : Pool) (x : Content) (n : ℕ) → n ≡ find x p.contents → (n ≡ 0 → ⊥) → n ≡ given p x
given_known p x n e ne =
    e ∙ sym (cond-true (mem x p.contents) (find x p.contents) (cond (fits p x) (length p.contents + 1) 0) (mem_some x p.contents (λ z. ne (e ∙ z))))

pub put_known : (p : Pool) (x : Content) (n : ℕ) → n ≡ find x p.contents → (n ≡ 0 → ⊥) → p ≡ put p x
unfolding with_contents
put_known p x n e ne =
    ap (with_contents p) (sym (cond-true (mem x p.contents) p.contents (cond (fits p x) (p.contents ++ x ∷ []) p.contents) (mem_some x p.contents (λ z. ne (e ∙ z)))))

same_pool : (p q : Pool) → p.contents ≡ q.contents → p.places ≡ q.places → p.room ≡ q.room → p ≡ q
same_pool p q a b c =
    ap (λ x. record { contents = x; places = p.places; room = p.room }) a
    ∙ ap (λ x. record { contents = q.contents; places = x; room = p.room }) b
    ∙ ap (λ x. record { contents = q.contents; places = q.places; room = x }) c

-- another content, for which there is room
pub put_fresh : (p q : Pool) (x : Content) → mem x p.contents ≡ false → fits p x ≡ true → q.contents ≡ p.contents ++ x ∷ [] → q.places ≡ p.places → q.room ≡ p.room → q ≡ put p x
unfolding with_contents
put_fresh p q x m f cs places room =
    same_pool q (with_contents p (p.contents ++ x ∷ [])) cs places room
    ∙ ap (with_contents p)
    (sym (cond-false (mem x p.contents) p.contents (cond (fits p x) (p.contents ++ x ∷ []) p.contents) m ∙ cond-true (fits p x) (p.contents ++ x ∷ []) p.contents f))

-- what it says of a pool that a content fits
pub record Fitting (s : Code.Pool) (x : Content) : Type 0 where
  pub short : length x ≤ 4096
  pub place : s.count + 1 ≤ (meant s).places
  pub bytes : s.used + length x ≤ (meant s).room

pub fitting : (s : Code.Pool) → (x : Content) → fits (meant s) x ≡ true → Fitting s x
fitting s x e =
    let p = meant s in
    let outer = and_parts (leb (length x) 4096 && leb (length (held s) + 1) p.places) (leb (used (held s) + length x) p.room) e in
    let inner = and_parts (leb (length x) 4096) (leb (length (held s) + 1) p.places) outer.0 in
    let count = count_held s in
    let filled = used_held s in
    let a = leb-true (length x) 4096 inner.0 in
    let b = leb-true (length (held s) + 1) p.places inner.1 in
    let c = leb-true (used (held s) + length x) p.room outer.1 in
    record { short = a; place = omega arith; bytes = omega arith }
