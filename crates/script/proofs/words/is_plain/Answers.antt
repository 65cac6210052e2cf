-- Every byte is tested, and all the answers are joined.
use Rattle.std.proofs.Common.{◌≡◌, ℕ, Bool, true, false, List, [], ◌∷◌, ◌&&◌, ◌∙◌, refl, rules, tests}
use Rattle.std.proofs.lemmas.Iterator.{YieldsList-from_slice}
use Rattle.std.proofs.lemmas.Iterator.Consumers.{fold_from_yields_List}
use Rattle.std.specs.List.{fold, list_all}
use Rattle.script.proofs.words.is_plain.Goals as goal
use Rattle.script.specs.Text.{plain}

joined : (p : ℕ → Bool) (ok : Bool) (bs : List ℕ) → fold (λ ok b. ok && p b) ok bs ≡ (ok && list_all p bs)
joined p true [] = refl
joined p false [] = refl
joined p true (b ∷ bs) = joined p (p b) bs
joined p false (b ∷ bs) = joined p false bs

pub returns : goal.returns
returns c =
    fold_from_yields_List {all = c.args.line.now} _ (λ ok b. ok && plain b) _ _ c.fold.ensures.ran (YieldsList-from_slice _ cc) (λ a x b q k. (search (rules, tests), search rules))
    ∙ joined plain true c.args.line.now
