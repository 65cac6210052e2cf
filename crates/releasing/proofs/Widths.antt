-- Where script order goes on to the end, there are as many files as before.
use Rattle.std.proofs.Common.{◌≡◌, ℕ, zero, suc, List, length, sym, refl, ap, ◌∙◌, ⊎_elim, length-set}
use Rattle.model.specs.Acts.{State, Outcome, goes, stops, then, act}
use Rattle.model.specs.Commands.{wants}
use Rattle.model.specs.Contents.{Pool}
use Rattle.model.specs.Order.{carry, in_order}
use Rattle.model.specs.declared.command.Command.{Command}
use Rattle.model.proofs.Correspond.{goes_is, not_goes}
use Rattle.model.proofs.Script.{ReadAct, WriteAct, was, upto, script_is}
use Rattle.model.proofs.Sound.{carry_keeps}

abbrev width : State → ℕ
width s = length s.files

act_width : (cs : List Command) (l : ℕ) (s r : State) → act (wants cs l) l s ≡ goes r → width r ≡ width s
act_width cs l s r e = ⊎_elim
    (λ (a : ReadAct cs l s r). ap width a.is)
    (λ (a : WriteAct cs l s r). ap width a.is ∙ length-set s.files a.file (suc a.number))
    (was cs l s r e)

upto_width : (cs : List Command) (n : ℕ) (s r : State) → upto cs n s ≡ goes r → width r ≡ width s
upto_width cs zero s r e = ap width (sym (goes_is e))
upto_width cs (suc n) s r e = by (upto cs n s) refl e (upto_width cs n s)
  where
    by : (t : Outcome) → upto cs n s ≡ t → then t (carry (wants cs n) 17 n) ≡ goes r → ((u : State) → upto cs n s ≡ goes u → width u ≡ width s) → width r ≡ width s
    by (goes u) i k ih = carry_keeps (λ x. width x ≡ width s) (wants cs n) n (λ x y h still j. act_width cs n x y j ∙ h) 17 u r (ih u i) k
    by (stops u y) i k ih = not_goes k

pub order_width : (cs : List Command) (fs : List ℕ) (p : Pool) (s : State) → in_order cs fs p ≡ goes s → length s.files ≡ length fs
order_width cs fs p s e = upto_width cs (length cs) _ s (sym (script_is cs _) ∙ e)
