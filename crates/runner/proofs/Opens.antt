-- A run that begins: what it notes, and what is always so of it.
use Rattle.std.proofs.Common.{◌≡◌, ℕ, ◌+◌, ◌*◌, ◌<◌, ◌≤◌, cond, List, [], length, get_or, replicate, None, sym, ap, ◌∙◌, arith}
use Rattle.std.proofs.lemmas.List.{get_or-replicate}
use Rattle.lists.specs.Held.{held, room}
use Rattle.model.specs.Contents.{count}
use Rattle.model.specs.Hazards.{fresh, ended}
use Rattle.model.specs.World.{Notes}
use Rattle.model.specs.declared.command.Command.{Command}
use Rattle.model.specs.declared.run.LineState.TheVariants.{Waiting}
use Rattle.runner.specs.Inner.{Kept, all_below, made}
use Rattle.runner.specs.States.{is_ended, is_waiting}
use Rattle.runner.specs.Views.{notes}
use Rattle.runner.specs.declared.log.Inner.{Inner}

-- what a run that begins notes
abbrev pub begun_notes : List Command → List ℕ → ℕ → Notes
begun_notes cs fs n = record { commands = cs; files = fs; count = n; stop = None; states = replicate 64 Waiting }

module _ (i j : Inner) (cs : List Command) (fs : List ℕ) (n : ℕ) (empty : held j.entries ≡ []) (same : room j.entries ≡ room i.entries) (noted : notes j.run ≡ begun_notes cs fs n) where
  waiting : (l : ℕ) → l < 64 → get_or j.run.states l Waiting ≡ Waiting
  waiting l h = ap (λ m. get_or m.states l Waiting) noted ∙ get_or-replicate 64 l Waiting Waiting h

  pub kept_open : length cs ≤ 64 → 17 * length cs ≤ room i.entries → j.run.lines ≡ length cs → Kept j
  kept_open few h k =
      record {
        roomy = omega arith;
        inside = ap (all_below j.run.lines) empty;
        few = λ l.
            let e = ap (λ es. made l es + cond (ended l es) 0 1) empty in
            omega arith;
        follows = λ l b.
            let w = waiting l (omega arith) in
            (ap is_ended w ∙ sym (ap (ended l) empty), ap is_waiting w ∙ sym (ap (fresh l) empty));
      }
