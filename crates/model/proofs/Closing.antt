-- A close that keeps leaves what script order leaves; another puts back what begin found; and own records are true.
use Rattle.std.proofs.Common.{◌≡◌, ℕ, Bool, true, false, length, Some, None, Ok, Err, refl, ap, ◌∙◌, arith}
use Rattle.std.proofs.lemmas.Bool.{both_ways}
use Rattle.model.specs.declared.run.Stop.{Stop}
use Rattle.model.specs.declared.answers.Closed.TheVariants.{Kept}
use Rattle.model.specs.declared.answers.CloseRefusal.TheVariants.{Stopped}
use Rattle.model.specs.Contents.{cut}
use Rattle.model.specs.Order.{in_order}
use Rattle.model.specs.World.{World, lines}
use Rattle.model.specs.Begin.{Ticket}
use Rattle.model.specs.Step.{all_ended}
use Rattle.model.specs.Close.{put_back, kept}
use Rattle.model.specs.Past.{Found, found}
use Rattle.model.specs.Promise.{Agrees, KeptAsScriptOrder, PutBackAsFound, OwnRecordsTrue, PoolInRoom, OwnTrue}
use Rattle.model.proofs.Order.{agrees}
use Rattle.model.proofs.Changes.{Ending, nothing_done, stop_back, wish_back, early_back, all_kept, ending}
use Rattle.model.proofs.Sound.{Sound, sound, all_below, own_true_now}

never : {A : Type 0} → ◌≡◌ {A = ℕ} 0 1 → A
never e = absurd (omega arith)

-- a close that kept: of an open run that had not stopped and whose lines had all ended
pub record Keeps (w v : World) : Type 0 where
  pub is_open : w.is_open ≡ true
  pub going : w.notes.stop ≡ None
  pub all : all_ended (lines w) w.entries ≡ true
  pub world : v ≡ kept w

-- a close that told a stop: of a run that had stopped, and was put back
pub record Backs (y : Stop) (w v : World) : Type 0 where
  pub is_open : w.is_open ≡ true
  pub stopped : w.notes.stop ≡ Some y
  pub world : v ≡ put_back w

module _ (t : Ticket) (w v : World) where
  pub keeps_by : Ending t (Ok Kept) w v → Keeps w v
  keeps_by (nothing_done r n e i) = never cc
  keeps_by (stop_back y o s e i) = never cc
  keeps_by (wish_back o e i) = never cc
  keeps_by (early_back o e i) = never cc
  keeps_by (all_kept o s k e i) = record { is_open = o; going = s; all = k; world = i }

  pub backs_by : (x : Stop) → Ending t (Err (Stopped x)) w v → Backs x w v
  backs_by x (nothing_done r n e i) = never cc
  backs_by x (stop_back y o s e i) = record { is_open = o; stopped = s ∙ cc; world = i }
  backs_by x (wish_back o e i) = never cc
  backs_by x (early_back o e i) = never cc
  backs_by x (all_kept o s k e i) = never cc

pub keeps_order : (w v : World) (b : Found) → Sound w b → Keeps w v → Agrees v (in_order b.commands b.files b.pool)
keeps_order w v b s k =
    let o = s.open_run k.is_open in
    let g = o.going k.going in
    let same = ap length o.commands in
    rw k.world (agrees b.commands b.files b.pool o.filed (kept w) g.acts g.corresponds g.steps (λ l lt. all_below (lines w) w.entries k.all l (omega arith)))

pub kept_as_script_order : KeptAsScriptOrder
kept_as_script_order w v p t wish d = keeps_order w v (found p) (sound p) (keeps_by t w v (ending t (Ok Kept) w v wish d.does))

-- PUT BACK

pub put_back_is : (w v : World) (b : Found) → Sound w b → w.is_open ≡ true → v ≡ put_back w → (v.files ≡ b.files) × (v.pool ≡ b.pool)
put_back_is w v b s i e =
    let o = s.open_run i in
    (ap (λ x. x.files) e ∙ o.files, ap (λ x. x.pool) e ∙ ap (λ k. cut k w.pool) o.count_is ∙ o.base.began.cut_is)

pub put_back_as_found : PutBackAsFound
put_back_as_found w v p wish a i d not-kept = by (ending None a w v wish d.does)
  where
    by : Ending None a w v → (v.files ≡ (found p).files) × (v.pool ≡ (found p).pool)
    by (nothing_done r none e k) = absurd (both_ways _ (none refl) i)
    by (stop_back y o s e k) = put_back_is w v (found p) (sound p) i k
    by (wish_back o e k) = put_back_is w v (found p) (sound p) i k
    by (early_back o e k) = put_back_is w v (found p) (sound p) i k
    by (all_kept o s all e k) = absurd (not-kept e)

-- OWN RECORDS, in a run too, and the pool

pub own_records_true : OwnRecordsTrue
own_records_true w p = by w.is_open refl
  where
    by : (b : Bool) → w.is_open ≡ b → OwnTrue w.pool w.records
    by false e = (sound p).closed e
    by true e = own_true_now (found p) w ((sound p).open_run e)

pub pool_in_room : PoolInRoom
pool_in_room w p = ((sound p).fine.places, (sound p).fine.room)
