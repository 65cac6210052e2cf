-- What an audit comes to, over the records of the code.
use Rattle.std.proofs.Common.{◌≡◌, ℕ, zero, suc, true, false, List, [], ◌∷◌, map, set, Some, None, Ok, Err, Option, sym, refl, ap, ◌∙◌, subst}
use Rattle.std.specs.Option.{option_map}
use Rattle.std.specs.List.{slice_get}
use Rattle.lists.specs.Altered.{altered}
use Rattle.model.specs.Audit.{finding, judged, at_place, Audited}
use Rattle.model.specs.Calls.{on_audit}
use Rattle.model.specs.Contents.{Pool}
use Rattle.model.specs.Promise.{Promised}
use Rattle.model.specs.Records.{said}
use Rattle.model.specs.World.{World, stocked}
use Rattle.model.specs.declared.record.Record as Code
use Rattle.model.specs.declared.record.Standing.{Standing}
use Rattle.model.specs.declared.refusal.Refusal.TheVariants.{RunOpen, NoSuchRecord}
use Rattle.model.proofs.Promises.{promised}
use Rattle.runner.specs.Standings.{stands_as}
use Rattle.runner.proofs.Unless.{while_open, while_shut}

at_said : (xs : List Code.Record) (k : ℕ) → at_place (map said xs) k ≡ option_map said (slice_get xs k)
at_said [] k = refl
at_said (x ∷ xs) zero = refl
at_said (x ∷ xs) (suc k) = at_said xs k

-- a record with the standing that is found is the judged one
pub judged_said : (s : Standing) (xs : List Code.Record) (k : ℕ) (x : Code.Record) (p : Pool) → Some x ≡ slice_get xs k → s ≡ finding p (said x) → map said (altered (stands_as s) xs k) ≡ set (map said xs) k (judged p (said x))
judged_said s [] k x p e f = refl
judged_said s (y ∷ ys) zero x p e f =
    let same : x ≡ y = cc in
    rw (f, ← same) refl
judged_said s (y ∷ ys) (suc k) x p e f = ap (λ l. said y ∷ l) (judged_said s ys k x p e f)

module _ (k : ℕ) (w v : World) where
  pub open_now : true ≡ w.is_open → v ≡ w → Promised (on_audit k (Err RunOpen)) w v
  open_now e same = promised (record { does = while_open (Err RunOpen) w v (Audited k (at_place w.records k) (Err RunOpen) w v) e refl same })

  module _ (shut : false ≡ w.is_open) (xs : List Code.Record) (are : w.records ≡ map said xs) where
    place_is : (o : Option Code.Record) → o ≡ slice_get xs k → at_place w.records k ≡ option_map said o
    place_is o e = ap (λ rs. at_place rs k) are ∙ at_said xs k ∙ ap (option_map said) (sym e)

    pub no_record : None ≡ slice_get xs k → v ≡ w → Promised (on_audit k (Err NoSuchRecord)) w v
    no_record e same =
        promised (record {
          does = while_shut (Err NoSuchRecord) w v (Audited k (at_place w.records k) (Err NoSuchRecord) w v) shut (subst (λ o. Audited k o (Err NoSuchRecord) w v) (sym (place_is None e)) (refl, same));
        })

    pub judges : (x : Code.Record) (s : Standing) → Some x ≡ slice_get xs k → s ≡ finding w.pool (said x) → v ≡ stocked w w.files w.pool (map said (altered (stands_as s) xs k)) → Promised (on_audit k (Ok s)) w v
    judges x s e f is =
        let new = judged_said s xs k x w.pool e f ∙ ap (λ rs. set rs k (judged w.pool (said x))) (sym are) in
        promised (record {
          does = while_shut (Ok s) w v (Audited k (at_place w.records k) (Ok s) w v) shut (subst (λ o. Audited k o (Ok s) w v) (sym (place_is (Some x) e)) (ap Ok f, is ∙ ap (stocked w w.files w.pool) new));
        })
