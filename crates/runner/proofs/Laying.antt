-- Laying content by content: what is left of the starting contents gives the files and the pool.
use Rattle.std.proofs.Common.{◌≡◌, ℕ, ◌+◌, ◌<◌, true, false, cond, eqb, List, map, length, get_or, drop, set, Some, None, Err, Option, Result, sym, refl, ap, ◌∙◌}
use Rattle.std.proofs.lemmas.List.{length-map, at_drop_more}
use Rattle.std.proofs.lemmas.Option.{slice_get-get_or, slice_get-map}
use Rattle.std.proofs.lemmas.Bool.{cond-true, cond-false, eq-eqb, ne_eqb}
use Rattle.std.specs.Option.{option_map}
use Rattle.std.specs.List.{slice_get}
use Rattle.model.specs.Calls.{on_lay}
use Rattle.model.specs.Contents.{Pool, count, given, put, cut}
use Rattle.model.specs.Lay.{Have, Stock, laid, Laid}
use Rattle.model.specs.Promise.{Promised}
use Rattle.model.specs.Records.{Record}
use Rattle.model.specs.World.{World}
use Rattle.model.specs.declared.refusal.Refusal.{Refusal}
use Rattle.model.specs.declared.refusal.Refusal.TheVariants.{RunOpen}
use Rattle.model.proofs.Growth.{Began, began_put}
use Rattle.model.proofs.Promises.{promised}
use Rattle.script.specs.Haves.{have_of, haves_of}
use Rattle.script.specs.Text.{Start}
use Rattle.runner.specs.Stocks.{lay_told, files_laid, pool_laid}
use Rattle.runner.specs.Views.{world_of}
use Rattle.runner.specs.declared.log.Inner.{Inner}
use Rattle.runner.proofs.Unless.{while_open, while_shut}

-- the starting content at a place of the list that is handed out
pub at_start : {X : Type 0} (start : X → Start) (xs : List X) (ss : List Start) (i : ℕ) (d : X) → map start xs ≡ ss → i < length xs → Some (have_of (start (get_or xs i d))) ≡ slice_get (haves_of ss) i
at_start start xs ss i d same lt =
    ap (option_map have_of) (ap (option_map start) (sym (slice_get-get_or xs i d lt)) ∙ sym (slice_get-map start xs i) ∙ ap (λ ys. slice_get ys i) same)
    ∙ sym (slice_get-map have_of ss i)

pub length_haves : (ss : List Start) → length (haves_of ss) ≡ length ss
length_haves ss = length-map ss have_of

pub length_starts : {X : Type 0} (start : X → Start) (xs : List X) (ss : List Start) → map start xs ≡ ss → length (haves_of ss) ≡ length xs
length_starts start xs ss same = length_haves ss ∙ ap length (sym same) ∙ length-map xs start

-- what is left gives the answer, and the pool began as it was
pub record Left (hs : List Have) (fs gs : List ℕ) (p q : Pool) (i : ℕ) : Type 0 where
  pub rest : laid (drop i hs) gs q ≡ laid hs fs p
  pub began : Began p q

module _ (hs : List Have) (fs gs : List ℕ) (p q : Pool) (i : ℕ) (inv : Left hs fs gs p q i) where
  -- at the starting content h
  module _ (h : Have) (at : Some h ≡ slice_get hs i) (lt : i < length hs) where
    here : cond (eqb (given q h.bytes) 0) None (laid (drop (i + 1) hs) (set gs h.file (given q h.bytes)) (put q h.bytes)) ≡ laid hs fs p
    here =
        let is : get_or hs i h ≡ h = nth_is in
        ap (λ k. cond (eqb (given q k.bytes) 0) None (laid (drop (i + 1) hs) (set gs k.file (given q k.bytes)) (put q k.bytes))) (sym is)
        ∙ sym (at_drop_more (λ l. laid l gs q) hs i h lt) ∙ inv.rest
      where
        nth_is : get_or hs i h ≡ h
        nth_is = let e : Some h ≡ Some (get_or hs i h) = at ∙ slice_get-get_or hs i h lt in cc

    pub left_more : (gs' : List ℕ) (q' : Pool) (n : ℕ) → n ≡ given q h.bytes → (n ≡ 0 → ⊥) → gs' ≡ set gs h.file n → q' ≡ put q h.bytes → Left hs fs gs' p q' (i + 1)
    left_more gs' q' n e ne f r =
        record {
          rest = rw (f, r, e) (sym (cond-false (eqb (given q h.bytes) 0) None _ (ne_eqb (given q h.bytes) 0 (λ z. ne (e ∙ z)))) ∙ here);
          began = rw r (began_put p q h.bytes inv.began);
        }

    pub left_refused : given q h.bytes ≡ 0 → laid hs fs p ≡ None
    left_refused e = sym here ∙ cond-true (eqb (given q h.bytes) 0) None _ (eq-eqb (given q h.bytes) 0 e)

    pub pool_back : (n : ℕ) (q' z : Pool) → n ≡ count p → q' ≡ put q h.bytes → z ≡ cut n q' → z ≡ p
    pool_back n q' z e f s = s ∙ ap (λ k. cut k q') e ∙ ap (cut (count p)) f ∙ (began_put p q h.bytes inv.began).cut_is

-- THE CALL
pub open_now : (hs : List Have) (w v : World) → true ≡ w.is_open → v ≡ w → Promised (on_lay hs (Err RunOpen)) w v
open_now hs w v e same = promised (record { does = while_open (Err RunOpen) w v (Laid (laid hs w.files w.pool) (Err RunOpen) w v) e refl same })

module _ (hs : List Have) (a : Result (Unit {0}) Refusal) (fs gs : List ℕ) (p q : Pool) (i : Inner) (rs : List Record) (n : ℕ) where
  pub done : false ≡ i.run.opened → a ≡ lay_told (laid hs fs p) → gs ≡ files_laid (laid hs fs p) fs → q ≡ pool_laid (laid hs fs p) p → Promised (on_lay hs a) (world_of fs p i rs n) (world_of gs q i rs n)
  done shut told files pool = promised (record { does = while_shut a (world_of fs p i rs n) (world_of gs q i rs n) (Laid (laid hs fs p) a (world_of fs p i rs n) (world_of gs q i rs n)) shut (by (laid hs fs p) told files pool) })
    where
      by : (o : Option Stock) → a ≡ lay_told o → gs ≡ files_laid o fs → q ≡ pool_laid o p → Laid o a (world_of fs p i rs n) (world_of gs q i rs n)
      by (Some s) t f r = (t, rw (f, r))
      by None t f r = (t, rw (f, r))
