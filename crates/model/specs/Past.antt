-- Pasts: how a world came about, and what is read off that.
use Rattle.std.specs.Prelude.{◌≡◌, ◌&&◌, ◌+◌}
use Rattle.model.specs.Words.{List, [], Bool, cond, ℕ, Some, None, Ok, Err, Command}
use Rattle.model.specs.Contents.{Pool}
use Rattle.model.specs.World.{World, lines, Fresh}
use Rattle.model.specs.Step.{left, all_ended}
use Rattle.model.specs.Calls.{Call, on_lay, on_load, on_audit, on_begin, on_step, on_close, Did}

-- Any list of calls, refused ones included, from the state without any past.
pub data Past : World → Type 0 where
  new : {w : World} → Fresh w → Past w
  call : {w v : World} → Past w → (c : Call) → Did c w v → Past v

-- Calls from one world to another.
pub data Ran (u : World) : World → Type 0 where
  none : Ran u u
  more : {v w : World} → Ran u v → (c : Call) → Did c v w → Ran u w

abbrev pub after : {u w : World} → Past u → Ran u w → Past w
after p none = p
after p (more h c d) = call (after p h) c d

abbrev pub joined : {u v w : World} → Ran u v → Ran v w → Ran u w
joined h none = h
joined h (more k c d) = more (joined h k) c d

-- WHAT BEGIN FOUND: what the last accepted begin was given, and the files and the pool at that time

pub record Found : Type 0 where
  pub commands : List Command
  pub files : List ℕ
  pub pool : Pool

abbrev pub found_by : Call → World → Found → Found
found_by (on_lay hs a) w b = b
found_by (on_load t a) w b = b
found_by (on_audit k a) w b = b
found_by (on_begin cs None) w b = record { commands = cs; files = w.files; pool = w.pool }
found_by (on_begin cs (Some r)) w b = b
found_by (on_step t q a) w b = b
found_by (on_close t wish a) w b = b

abbrev pub found : {w : World} → Past w → Found
found (new {w} e) = record { commands = []; files = w.files; pool = w.pool }
found (call {w} p c d) = found_by c w (found p)

-- HOW OFTEN A LINE WAS THE FRONT at the start of a working step, since the last accepted begin

-- line f is the front: it has not ended, and the lines below it have
abbrev pub is_front : ℕ → World → Bool
is_front f w = w.is_open && (left (lines w) w.entries f && all_ended f w.entries)

-- w is the world before the call
abbrev pub fronts_by : ℕ → Call → World → ℕ → ℕ
fronts_by f (on_lay hs a) w k = k
fronts_by f (on_load t a) w k = k
fronts_by f (on_audit i a) w k = k
fronts_by f (on_begin cs None) w k = 0
fronts_by f (on_begin cs (Some r)) w k = k
fronts_by f (on_step t q (Ok s)) w k = cond (is_front f w) (k + 1) k
fronts_by f (on_step t q (Err r)) w k = k
fronts_by f (on_close t wish a) w k = k

abbrev pub fronts : {w : World} → ℕ → Past w → ℕ
fronts f (new e) = 0
fronts f (call {w} p c d) = fronts_by f c w (fronts f p)

-- ONE POLICY: the working steps since the last accepted begin all asked a policy of patience m, which now has n passes

abbrev pub OneBy : ℕ → ℕ → Call → (ℕ → Type 0) → Type 0
OneBy m n (on_lay hs a) before = before n
OneBy m n (on_load t a) before = before n
OneBy m n (on_audit i a) before = before n
OneBy m n (on_begin cs None) before = Unit {0}
OneBy m n (on_begin cs (Some r)) before = before n
OneBy m n (on_step t q (Ok s)) before = (q.patience ≡ m) × (q.after ≡ n) × before q.before
OneBy m n (on_step t q (Err r)) before = before n
OneBy m n (on_close t wish a) before = before n

abbrev pub OnePolicy : {w : World} → ℕ → ℕ → Past w → Type 0
OnePolicy m n (new e) = Unit {0}
OnePolicy m n (call p c d) = OneBy m n c (λ k. OnePolicy m k p)
