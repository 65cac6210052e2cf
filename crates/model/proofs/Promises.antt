-- What a call that did as the model says promises, over any past.
use Rattle.std.proofs.Common.{ℕ, List, Ok, Err, Result, sym, refl, subst}
use Rattle.model.specs.declared.command.Command.{Command}
use Rattle.model.specs.declared.answers.Built.{Built}
use Rattle.model.specs.declared.answers.BuildRefusal.{BuildRefusal}
use Rattle.model.specs.declared.answers.Closed.{Closed}
use Rattle.model.specs.declared.answers.CloseRefusal.{CloseRefusal}
use Rattle.model.specs.declared.answers.StepRefusal.{StepRefusal}
use Rattle.model.specs.declared.answers.Stepped.{Stepped}
use Rattle.model.specs.declared.answers.Wish.{Wish}
use Rattle.model.specs.Policies.{Asked}
use Rattle.model.specs.World.{World}
use Rattle.model.specs.Begin.{Ticket}
use Rattle.model.specs.Calls.{Call, on_step, on_close, Did}
use Rattle.model.specs.Past.{Past, call, after, OnePolicy, OneBy}
use Rattle.model.specs.Build.{Builds, built}
use Rattle.model.specs.Promise.{Promised, StepPromised, ClosePromised, BuildPromised}
use Rattle.model.proofs.Closing.{kept_as_script_order, put_back_as_found, own_records_true}
use Rattle.model.proofs.Fronts.{no_line_starves}
use Rattle.model.proofs.Building.{build_as_script_order, stopped_build_puts_back, no_line_starves_in_builds}
use Rattle.model.proofs.Recorded.{kept_lines_recorded}

pub promised : {c : Call} {w v : World} → Did c w v → Promised c w v
promised {c} {w} {v} d = record { did = d; past = λ p. call p c d; own = λ p. own_records_true v (call p c d) }

pub step_promised : {t : Ticket} {a : Asked} {w v : World} (r : Result Stepped StepRefusal) → Did (on_step t a r) w v → StepPromised t a r w v
step_promised {t} {a} {w} {v} r d =
    record {
      call = promised d;
      fair = λ p one f. no_line_starves v (call p (on_step t a r) d) f a.patience a.after (by p one r d);
    }
  where
    by : (p : Past w) → OnePolicy a.patience a.before p → (r : Result Stepped StepRefusal) → Did (on_step t a r) w v → OneBy a.patience a.after (on_step t a r) (λ k. OnePolicy a.patience k p)
    by p one (Ok s) e = (refl, refl, one)
    by p one (Err x) e = subst (λ k. OnePolicy a.patience k p) (sym e.does.1) one

pub close_promised : {t : Ticket} {wish : Wish} {a : Result Closed CloseRefusal} {w v : World} → Did (on_close t wish a) w v → ClosePromised t wish a w v
close_promised {t} {wish} {a} {w} {v} d =
    record {
      call = promised d;
      order = λ p e. kept_as_script_order w v p t wish (rw e at d);
      lines = λ p e. kept_lines_recorded w v p t wish (rw e at d);
      back = λ p live o k. put_back_as_found w v p wish a o (rw live at d) k;
    }

pub build_promised : {cs : List Command} {m n k : ℕ} {a : Result Built BuildRefusal} {u v : World} → Builds cs m n u a k v → BuildPromised cs m n a k u v
build_promised {cs} {m} {n} {k} {a} {u} {v} b =
    record {
      calls = b;
      order = λ p. build_as_script_order u v p cs m n k a b;
      back = λ p y o e. stopped_build_puts_back u v p cs m n k y o (rw e at b);
      fair = λ p. no_line_starves_in_builds u v p cs m n k a b;
      past = λ p. after p (built b);
      own = λ p. own_records_true v (after p (built b));
    }
