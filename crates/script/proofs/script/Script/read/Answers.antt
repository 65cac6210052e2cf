-- An empty script is sound, and so is what a text gives that is not refused.
use Rattle.std.proofs.Common.{sym, subst}
use Rattle.script.proofs.Facts.{starts_fit, acts_fit}
use Rattle.script.proofs.Sounds.{sound_nothing}
use Rattle.script.proofs.script.Script.read.Goals as goal
use Rattle.script.specs.Sound.{Sound}

pub invariant_of-self : goal.invariant_of-self
invariant_of-self c =
    let s = c.in-Ok.ensures.sound in
    record { short = s.short; apart = s.apart; starts = starts_fit _ s; acts = acts_fit _ s }

pub invariant_of-self-in-Err : goal.invariant_of-self-in-Err
invariant_of-self-in-Err c =
    let s = subst Sound (sym c.clear.ensures) sound_nothing in
    record { short = s.short; apart = s.apart; starts = starts_fit _ s; acts = acts_fit _ s }
