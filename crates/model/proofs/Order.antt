-- A run by any choices whose lines have all ended agrees with script order. Assumes nothing.
use Rattle.std.proofs.Common.{◌≡◌, ℕ, suc, ◌<◌, ◌≤◌, true, List, [], ◌∷◌, length, get_or, sym, refl, ap, ◌∙◌, subst, arith}
use Rattle.model.specs.declared.command.Command.{Command}
use Rattle.model.specs.Contents.{Pool, count}
use Rattle.model.specs.Acts.{State}
use Rattle.model.specs.Order.{in_order}
use Rattle.model.specs.World.{World, state}
use Rattle.model.specs.Promise.{acts_of, Agrees}
use Rattle.model.proofs.Trace as Trace
use Rattle.model.proofs.Trace.{Trace, Start, line, mine, ends, Steps}
use Rattle.model.proofs.Swap.{mine_other}
use Rattle.model.proofs.Sort.{sort, Below, Rising, below_more, sort_rising, sorted}
use Rattle.model.proofs.Entries.{acts_in, acts_trace}
use Rattle.model.proofs.Correspond.{start, Corresponds, acts, ended_is}
use Rattle.model.proofs.Script.{upto, script_is, Done, all_done, act_goes}

abbrev Ended : ℕ → Trace → Type 0
Ended l t = (m : ℕ) → m < l → Trace.ended m t ≡ true

-- each act is of the lowest line that has not ended
abbrev Low : Trace → Type 0
Low [] = Unit {0}
Low (a ∷ t) = Ended (line a) t × Low t

pub inside : (w : Start) (t : Trace) → Steps w t → Below w.lines t
inside w [] r = tt
inside w (a ∷ t) r = (r.0.inside, inside w t r.1)

lowest : (k : ℕ) (t : Trace) → Rising t → Below (suc k) t → Ended k t → Low t
lowest k [] s b h = tt
lowest k (a ∷ t) s b h =
    let done : Ended (line a) t = λ m lt. sym (ap ends (mine_other m a t (λ e. omega arith))) ∙ h m (omega (arith, b.0)) in
    (done, lowest (line a) t s.1 s.0 done)

module _ (cs : List Command) (fs : List ℕ) (p : Pool) (filed : (f : ℕ) → get_or fs f 0 ≤ count p) where
  abbrev w : Start
  w = start cs fs p

  abbrev s₀ : State
  s₀ = record { files = fs; pool = p; entries = [] }

  pub corresponds_new : Corresponds w s₀ []
  corresponds_new = record { traced = refl; pools = refl; places = refl; bytes = refl; files = λ f. refl; width = refl; filed = filed; numbered = tt }

  -- a trace of lowest lines, made again on numbers, is on the way of script order
  record Replay (t : Trace) : Type 0 where
    at : State
    corresponds : Corresponds w at t
    way : upto cs (length cs) s₀ ≡ upto cs (length cs) at

  replay : (t : Trace) → Steps w t → Low t → Replay t
  replay [] r h = record { at = s₀; corresponds = corresponds_new; way = refl }
  replay (a ∷ t) r h =
      let was = replay t r.1 h.1 in
      let made = acts cs fs p was.at t was.corresponds a r.0 in
      let done : Done cs (line a) was.at = λ m lt. sym (ended_is cs fs p was.at t was.corresponds m) ∙ h.0 m lt in
      record {
        at = made.after;
        corresponds = made.next;
        way = was.way ∙ act_goes cs (line a) was.at done (length cs) r.0.inside made.still made.after made.does;
      }

  acts_is : (s : State) (t : Trace) → Corresponds w s t → (l : ℕ) → acts_of s.pool l s.entries ≡ acts_in (mine l t)
  acts_is s t b l = sym (ap (λ u. acts_in (mine l u)) (sym b.traced) ∙ acts_trace s.pool l [] s.entries b.numbered)

  pub agrees : (v : World) (t : Trace) → Corresponds w (state v) t → Steps w t → Done cs (length cs) (state v) → Agrees v (in_order cs fs p)
  agrees v t b r done =
      let both = sorted w t r in
      let over : Ended (length cs) (sort t) = λ l lt. ap ends (both.1.acts l) ∙ ended_is cs fs p (state v) t b l ∙ done l lt in
      let low = lowest (length cs) (sort t) (sort_rising t) (below_more _ _ (sort t) (omega arith) (inside w (sort t) both.0)) over in
      let end = replay (sort t) both.0 low in
      let finish : Done cs (length cs) end.at = λ m lt. sym (ended_is cs fs p end.at (sort t) end.corresponds m) ∙ over m lt in
      subst (Agrees v) (sym (script_is cs s₀ ∙ end.way ∙ all_done cs (length cs) end.at finish)) (
        λ f. sym (b.files f) ∙ sym (both.1.files f) ∙ end.corresponds.files f,
        λ l. acts_is (state v) t b l ∙ ap acts_in (sym (both.1.acts l)) ∙ sym (acts_is end.at (sort t) end.corresponds l),
      )
