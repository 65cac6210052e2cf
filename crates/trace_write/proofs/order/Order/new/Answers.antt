-- No number is listed, and each place of the table is 0.
use Rattle.std.proofs.Common.{sym, refl, ap, ◌∙◌, subst, arith}
use Rattle.std.proofs.lemmas.List.{get_or-replicate}
use Rattle.std.specs.List.{AllByRecursion}
use Rattle.trace_write.specs.Rooms.{Number, Apart}
use Rattle.trace_write.specs.Saves.{place_listed}
use Rattle.trace_write.proofs.order.Order.new.Goals as goal

pub invariant_of-result : goal.invariant_of-result
invariant_of-result c =
    record {
      all = subst (AllByRecursion Number) (sym c.new.ensures) tt;
      apart = subst Apart (sym c.new.ensures) tt;
      long = refl;
      placed = λ n few. get_or-replicate 1025 n 0 0 (omega (arith, few)) ∙ ap (place_listed n) (sym c.new.ensures);
    }
