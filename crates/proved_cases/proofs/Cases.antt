-- Each case of the table is a build of the model.
use Rattle.std.proofs.Common.{◌≡◌, All, ℕ, ◌+◌, ◌≤◌, Bool, true, false, cond, eqb, length, Some, Ok, sym, refl, ap, ◌∙◌, subst, ⊎_elim, arith}
use Rattle.std.proofs.lemmas.Bool.{cases_eq, ne_eqb}
use Rattle.std.proofs.lemmas.List.Elements.{All-from_recursion}
use Rattle.model.specs.Policies.{Answered}
use Rattle.model.specs.Lay.{Stock, laid, Laid}
use Rattle.model.specs.Calls.{Did, on_lay}
use Rattle.model.specs.Past.{Past, new, call}
use Rattle.model.specs.Build.{Builds}
use Rattle.model.proofs.Building.{build_as_script_order}
use Rattle.policy.specs.Lines.{highest}
use Rattle.policy.specs.Choices.{takes}
use Rattle.policy.proofs.Choices.{passed_by}
use Rattle.script.specs.Text.{Meaning, reading}
use Rattle.proved_cases.specs.Runs.{highest_line_first, build, IsPolicy}
use Rattle.proved_cases.specs.Comes.{Case, nothing_laid, world_with, starts, built_on, built_from, built, IsBuild}
use Rattle.proved_cases.specs.Table.{table}
use Rattle.proved_cases.proofs.Builds.{front_answered, script_order_is_policy, computes_builds}

highest_first_is_policy : (m : ℕ) → IsPolicy (highest_line_first m)
highest_first_is_policy m set front passes leads bound = by (takes set front m passes (highest set 64 front)) refl
  where
    by : (b : Bool) → takes set front m passes (highest set 64 front) ≡ b →
        Answered set front (cond b (highest set 64 front) front) (record { patience = m; before = passes; after = cond (eqb (cond b (highest set 64 front) front) front) 0 (passes + 1) })
    by false e = front_answered set front m passes bound
    by true e = ⊎_elim
        (λ is. rw is (front_answered set front m passes bound))
        (λ ne. rw (ne_eqb (highest set 64 front) front ne) (passed_by set front m passes (highest set 64 front) (sym e) bound ne))
        (cases_eq (highest set 64 front) front)

-- a past: nothing, and a lay
laid_past : (c : Case) (m : Meaning) (s : Stock) → laid (starts c m) nothing_laid.files nothing_laid.pool ≡ Some s → Past (world_with s)
laid_past c m s e =
    let did : Did (on_lay (starts c m) (Ok tt)) (world_with nothing_laid) (world_with s) =
    record { does = subst (λ o. Laid o (Ok tt) (world_with nothing_laid) (world_with s)) (sym e) (refl, refl) } in
    call (new (record { files = refl; pool = refl; entries = refl; is_open = refl; records = refl })) (on_lay (starts c m) (Ok tt)) did

is_build : (c : Case) (m : Meaning) (s : Stock) → IsPolicy c.policy → reading c.text ≡ Ok m → laid (starts c m) nothing_laid.files nothing_laid.pool ≡ Some s → length m.commands ≤ 64 → IsBuild c
is_build c m s is_policy r l few =
    let is : built c ≡ build c.policy 0 m.commands (world_with s) = ap (λ x. built_from x c) r ∙ ap (λ o. built_on o c.policy m.commands) l in
    let past = laid_past c m s l in
    let b : Builds m.commands c.policy.patience 0 (world_with s) (built c).answer (built c).passes (built c).world =
    subst (λ x. Builds m.commands c.policy.patience 0 (world_with s) x.answer x.passes x.world) (sym is) (computes_builds c.policy is_policy 0 (omega arith) m.commands few (world_with s) past) in
    record { meaning = m; stock = s; read = r; lays = l; past = past; builds = b; order = build_as_script_order (world_with s) (built c).world past m.commands c.policy.patience 0 (built c).passes (built c).answer b }

-- the facts of a list's elements, one after the other
infixr 5 ◌also◌
◌also◌ : {A B : Type 0} → A → B → A × B
◌also◌ h hs = (h, hs)

pub are_builds : All IsBuild table
are_builds = All-from_recursion IsBuild table (
    is_build _ _ _ script_order_is_policy refl refl (omega arith) also
    is_build _ _ _ script_order_is_policy refl refl (omega arith) also
    is_build _ _ _ script_order_is_policy refl refl (omega arith) also
    is_build _ _ _ script_order_is_policy refl refl (omega arith) also
    is_build _ _ _ script_order_is_policy refl refl (omega arith) also
    is_build _ _ _ script_order_is_policy refl refl (omega arith) also
    is_build _ _ _ script_order_is_policy refl refl (omega arith) also
    is_build _ _ _ script_order_is_policy refl refl (omega arith) also
    is_build _ _ _ (highest_first_is_policy 8) refl refl (omega arith) also
    is_build _ _ _ (highest_first_is_policy 8) refl refl (omega arith) also
    tt)
