-- What a run and a build come to, computed by the model's own begin, working steps and close, under a policy that is a function.
use Rattle.std.specs.Prelude.{◌==◌, ◌&&◌, ◌+◌, ◌*◌, ◌≤◌, find}
use Rattle.std.specs.List.{range_with_len}
use Rattle.model.specs.Words.{Bool, cond, not, List, ℕ, zero, suc, length, Option, Some, None, Result, Ok, Err}
use Rattle.model.specs.declared.command.Command.{Command}
use Rattle.model.specs.declared.refusal.Refusal.{Refusal}
use Rattle.model.specs.declared.run.Stop.{Stop}
use Rattle.model.specs.declared.answers.Built.{Built}
use Rattle.model.specs.declared.answers.BuildRefusal.{BuildRefusal}
use Rattle.model.specs.declared.answers.Wish.TheVariants.{Keep}
use Rattle.model.specs.declared.answers.BuildRefusal.TheVariants.{By}
use Rattle.model.specs.Hazards.{fresh}
use Rattle.model.specs.World.{World, lines}
use Rattle.model.specs.Begin.{begin_refusal, begun}
use Rattle.model.specs.Step.{left, record_for, skipping, work, after_work}
use Rattle.model.specs.Close.{Closing, nothing, back, keeping, closing, put_back, kept}
use Rattle.model.specs.Policies.{Front, Answered}
use Rattle.model.specs.Past.{Past}
use Rattle.model.specs.Build.{answer, Builds}
use Rattle.policy.specs.Choices.{highest_first}

-- POLICIES

-- What it answers for the set of lines that are left, the front, its patience and its passes; and its patience.
pub record Policy : Type 0 where
  pub choice : (ℕ → Bool) → ℕ → ℕ → ℕ → ℕ
  pub patience : ℕ

-- the policy without patience, which answers the front
abbrev pub script_order : Policy
script_order = record { choice = λ set front patience passes. front; patience = 0 }

abbrev pub highest_line_first : ℕ → Policy
highest_line_first patience = record { choice = highest_first; patience = patience }

-- A RUN

-- A run on its way: the world, the passes of its policy, and how many lines were executed and skipped.
pub record Run : Type 0 where
  pub world : World
  pub passes : ℕ
  pub executed : ℕ
  pub skipped : ℕ

-- the lowest line that has not ended
abbrev pub front_of : World → Option ℕ
front_of w = find (left (lines w) w.entries) (range_with_len 0 (lines w))

-- the line that the policy answers where the front is f
abbrev pub answered : Policy → ℕ → Run → ℕ
answered p f r = p.choice (left (lines r.world) r.world.entries) f p.patience r.passes

-- a working step on line l where the front is f
abbrev pub stepped_on : ℕ → ℕ → Run → Run
stepped_on f l r =
    let w = r.world in
    let skips = skipping (record_for w l) in
    record {
      world = after_work w l (work w l);
      passes = cond (l == f) 0 (r.passes + 1);
      executed = r.executed + cond (not skips && fresh l w.entries) 1 0;
      skipped = r.skipped + cond skips 1 0;
    }

-- it is over where it has stopped or no line is left; else it goes on from its front
abbrev pub unless_over : Option Stop → Option ℕ → Run → (ℕ → Run) → Run
unless_over (Some y) f r next = r
unless_over None None r next = r
unless_over None (Some f) r next = next f

-- at most k working steps
abbrev pub steps : Policy → ℕ → Run → Run
steps p zero r = r
steps p (suc k) r = unless_over r.world.notes.stop (front_of r.world) r (λ f. steps p k (stepped_on f (answered p f r) r))

-- from its begin, by a policy whose passes are n; no line makes more than 17 acts
abbrev pub run : Policy → ℕ → List Command → World → Run
run p n cs w = steps p (17 * length cs) (record { world = begun cs w; passes = n; executed = 0; skipped = 0 })

-- what the close of a run, with the wish to keep, leaves
abbrev pub closed_by : Closing → World → World
closed_by (nothing r) w = w
closed_by (back a) w = put_back w
closed_by keeping w = kept w

abbrev pub closed : World → World
closed w = closed_by (closing None Keep w) w

-- A BUILD

-- Its answer, the passes of its policy, the world at the end of its last run, and the world after its close.
pub record Build : Type 0 where
  pub answer : Result Built BuildRefusal
  pub passes : ℕ
  pub last : World
  pub world : World

-- a second run, in script order, after a first one that stopped with y
abbrev pub ended_twice : Stop → Run → Run → Build
ended_twice y first second = record {
  answer = answer second.world.notes.stop (record { first = Some y; executed = first.executed + second.executed; skipped = first.skipped + second.skipped });
  passes = first.passes;
  last = second.world;
  world = closed second.world;
}

-- by the stop of the first run, if it has one
abbrev pub after_first : Option Stop → List Command → Run → Build
after_first None cs r = record { answer = Ok (record { first = None; executed = r.executed; skipped = r.skipped }); passes = r.passes; last = r.world; world = closed r.world }
after_first (Some y) cs r = ended_twice y r (run script_order 0 cs (closed r.world))

-- by the refusal of its begin, if it has one
abbrev pub begun_by : Option Refusal → Policy → ℕ → List Command → World → Build
begun_by (Some why) p n cs w = record { answer = Err (By why); passes = n; last = w; world = w }
begun_by None p n cs w = let r = run p n cs w in after_first r.world.notes.stop cs r

abbrev pub build : Policy → ℕ → List Command → World → Build
build p n cs w = begun_by (begin_refusal cs w) p n cs w

-- THE MODEL'S BUILDS

-- its answers keep the rules of every policy
abbrev pub IsPolicy : Policy → Type 0
IsPolicy p =
    (set : ℕ → Bool) (front passes : ℕ) → Front set front → passes ≤ p.patience →
    let line = p.choice set front p.patience passes in
    Answered set front line (record { patience = p.patience; before = passes; after = cond (line == front) 0 (passes + 1) })

-- By every policy and over any past, what is computed here is a build of the model.
abbrev pub ComputesBuilds : Type 0
ComputesBuilds =
    (p : Policy) → IsPolicy p → (n : ℕ) → n ≤ p.patience → (cs : List Command) → length cs ≤ 64 → (u : World) → Past u →
    let b = build p n cs u in
    Builds cs p.patience n u b.answer b.passes b.world
