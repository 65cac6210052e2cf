-- A run that is closed at its end, with the wish to keep, is a whole run; and a build is made of one or two of them.
use Rattle.std.proofs.Common.{◌≡◌, ℕ, ◌+◌, List, Some, None, Ok, Err, Option, Result, sym, refl, ap, ◌∙◌, subst, arith}
use Rattle.model.specs.Begin.{Ticket}
use Rattle.model.specs.Build.{executed, skipped, end, answer, Builds, refused, once, twice}
use Rattle.model.specs.Calls.{Did, on_begin, on_close}
use Rattle.model.specs.Close.{back, keeping, closing, ClosesBy}
use Rattle.model.specs.Promise.{BuildPromised}
use Rattle.model.specs.World.{World}
use Rattle.model.specs.declared.answers.BuildRefusal.{BuildRefusal}
use Rattle.model.specs.declared.answers.BuildRefusal.TheVariants.{By}
use Rattle.model.specs.declared.answers.Built.{Built}
use Rattle.model.specs.declared.answers.Closed.{Closed}
use Rattle.model.specs.declared.answers.CloseRefusal.{CloseRefusal}
use Rattle.model.specs.declared.answers.CloseRefusal.TheVariants.{Stopped}
use Rattle.model.specs.declared.answers.Wish.TheVariants.{Keep}
use Rattle.model.specs.declared.command.Command.{Command}
use Rattle.model.specs.declared.refusal.Refusal.{Refusal}
use Rattle.model.specs.declared.run.Stop.{Stop}
use Rattle.model.proofs.Again.{begins_anywhere}
use Rattle.model.proofs.Promises.{build_promised}
use Rattle.runner.specs.Ends.{Begun, Counted, Over, WholeRun, stop_told}

-- a run that is over is kept or has stopped
end_is : (w v : World) (r : Result Closed CloseRefusal) → Over w → Did (on_close None Keep r) w v → r ≡ end (stop_told r)
end_is w v r o d = by w.notes.stop refl
  where
    told : (a : Result Closed CloseRefusal) → a ≡ end (stop_told a) → r ≡ a → r ≡ end (stop_told r)
    told a h e = rw e h

    by : (y : Option Stop) → w.notes.stop ≡ y → r ≡ end (stop_told r)
    by (Some y) e =
        let k : closing None Keep w ≡ back (Err (Stopped y)) = rw (o.is_open, e) in
        told (Err (Stopped y)) refl (subst (λ z. ClosesBy z r w v) k d.does).0
    by None e =
        let k : closing None Keep w ≡ keeping = rw (o.is_open, e, o.all e) in
        told _ refl (subst (λ z. ClosesBy z r w v) k d.does).0

module _ (cs : List Command) (m n k : ℕ) (u x w v : World) (e s : ℕ) (r : Result Closed CloseRefusal) (y : Option Stop) where
  pub whole_run : Did (on_begin cs None) u x → Counted m n x k w e s → Over w → Did (on_close None Keep r) w v → y ≡ stop_told r → WholeRun cs m n y u k v e s
  whole_run begin c o close stop =
      rw stop (record {
        run = record { opened = x; begin = begin; passes = k; last = w; steps = c.steps; close = subst (λ z. Did (on_close None Keep z) w v) (end_is w v r o close) close };
        passes = refl;
        executes = c.executes;
        skips = c.skips;
      })

-- A BUILD, by its runs
module _ (cs : List Command) (m n : ℕ) (u v : World) where
  pub refused_build : (t : Ticket) (r : Refusal) → t ≡ Some r → Did (on_begin cs t) u v → BuildPromised cs m n (Err (By r)) n u v
  refused_build t r e d = build_promised (refused r (rw e at d))

  pub built_once : (k e s : ℕ) (y : Option Stop) → y ≡ None → WholeRun cs m n y u k v e s → BuildPromised cs m n (Ok (record { first = None; executed = e; skipped = s })) k u v
  built_once k e s y none h =
      let r : WholeRun cs m n None u k v e s = rw none at h in
      rw (← r.passes, ← r.executes, ← r.skips) (build_promised (once r.run))

  module _ (k e s : ℕ) (y : Stop) (z : Option Stop) (is : z ≡ Some y) (h : WholeRun cs m n z u k v e s) where
    first : WholeRun cs m n (Some y) u k v e s
    first = rw is at h

    -- the second begin is accepted
    pub live_again : (t : Ticket) (x : World) → Did (on_begin cs t) v x → t ≡ None
    live_again None x d = refl
    live_again (Some r) x d =
        let accepts = begins_anywhere u v cs m n y first.run in
        let refuses = d.does.0 in
        let z : ◌≡◌ {A = ℕ} 0 1 = cc in
        absurd (omega arith)

    pub begun_again : (t : Ticket) (x : World) → Did (on_begin cs t) v x → Begun x
    begun_again t x d = record { found = v; commands = cs; begin = rw (live_again t x d) at d }

    pub built_twice :
        (t : Ticket) (x w : World) (q : Option Stop) (j e' s' : ℕ) → Did (on_begin cs t) v x → ((ds : List Command) (o : World) → Did (on_begin ds None) o x → WholeRun ds 0 0 q o j w e' s') → (a : Result Built BuildRefusal) →
        a ≡ answer q (record { first = Some y; executed = e + e'; skipped = s + s' }) → BuildPromised cs m n a k u w
    built_twice t x w q j e' s' d run a is =
        let r = run cs v (rw (live_again t x d) at d) in
        let f = first in
        let lines : executed f.run.steps + executed r.run.steps ≡ e + e' = let a = f.executes in let b = r.executes in cc in
        let skips : skipped f.run.steps + skipped r.run.steps ≡ s + s' = let a = f.skips in let b = r.skips in cc in
        let same = ap (λ l. answer q (record { first = Some y; executed = l; skipped = skipped f.run.steps + skipped r.run.steps })) lines ∙ ap (λ l. answer q (record { first = Some y; executed = e + e'; skipped = l })) skips ∙ sym is in
        build_promised (subst (λ i. Builds cs m n u a i w) f.passes (subst (λ b. Builds cs m n u b f.run.passes w) same (twice y q f.run r.run)))
