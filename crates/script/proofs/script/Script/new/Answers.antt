-- An empty script keeps to all that a script keeps to.
use Rattle.std.proofs.Common.{sym, subst}
use Rattle.script.proofs.Facts.{starts_fit, acts_fit}
use Rattle.script.proofs.Sounds.{sound_nothing}
use Rattle.script.proofs.script.Script.new.Goals as goal
use Rattle.script.specs.Sound.{Sound}

pub invariant_of-result : goal.invariant_of-result
invariant_of-result c =
    let s = subst Sound (sym c.new.ensures) sound_nothing in
    record { short = s.short; apart = s.apart; starts = starts_fit _ s; acts = acts_fit _ s }
