-- In an open run the state of each line is the one that its entries tell: a step turns its own line, and no other line's state changes.
use Rattle.std.proofs.Common.{◌≡◌, ℕ, ◌<◌, ◌≤◌, true, false, ◌&&◌, eqb, List, [], ◌∷◌, ◌++◌, length, get_or, sym, refl, ap, ◌∙◌, ⊎_elim, append-nil, arith, length-set, get_or-set_other, get_or-set_same}
use Rattle.std.proofs.lemmas.Bool.{cases_eq, ne_eqb}
use Rattle.std.proofs.lemmas.List.Folds.{list_any-append}
use Rattle.std.proofs.Math.Bool.{or-false}
use Rattle.model.specs.declared.run.Entry.{Entry}
use Rattle.model.specs.declared.run.LineState.TheVariants.{Waiting}
use Rattle.model.specs.declared.answers.Stepped.{Stepped}
use Rattle.model.specs.Contents.{Content, Pool, put}
use Rattle.model.specs.Commands.{Want, wants}
use Rattle.model.specs.Hazards.{has_read}
use Rattle.model.specs.Acts.{reached, read_absent, line_state}
use Rattle.model.specs.Policies.{Asked}
use Rattle.model.specs.World.{World, lines}
use Rattle.model.specs.Begin.{Ticket}
use Rattle.model.specs.Step.{Worked, record_for, work}
use Rattle.model.specs.Past.{Past, found}
use Rattle.model.specs.Laws.{StatesFollow}
use Rattle.model.proofs.Pools.{Grows, grows_refl, grows_trans, grows_put, grows_holds}
use Rattle.model.proofs.Entries.{Numbered}
use Rattle.model.proofs.Script.{has_read_more}
use Rattle.model.proofs.Growth.{work_pool}
use Rattle.model.proofs.Changes.{open_law}
use Rattle.model.proofs.Sound.{sound, Open, left_parts}
use Rattle.model.proofs.Adds.{Of, Adds, most_new, work_adds, adds_other}
use Rattle.model.proofs.Lists.{get_or-same}

-- OTHER LINES

of_other : (p : Pool) (l m : ℕ) → (m ≡ l → ⊥) → (es : List Entry) → Of l es → (has_read p m es ≡ []) × (read_absent m es ≡ false)
of_other p l m ne [] h = (refl, refl)
of_other p l m ne (e ∷ es) h =
    let out : eqb m e.line ≡ false = ne_eqb m e.line (λ i. ne (i ∙ h.0)) in
    let ih = of_other p l m ne es h.1 in
    (rw out ih.0, rw out ih.1)

has_read_grown : (p q : Pool) → Grows p q → (l : ℕ) (es : List Entry) → Numbered p es → has_read q l es ≡ has_read p l es
has_read_grown p q g l [] h = refl
has_read_grown p q g l (e ∷ es) h = rw ((grows_holds p q g e.number h.0).1, has_read_grown p q g l es h.1)

state_same : (k : List Content → Want) (p q : Pool) → Grows p q → (n l : ℕ) (es ds : List Entry) → Numbered p es → Adds n l es ds → (m : ℕ) → (m ≡ l → ⊥) → line_state k m q ds ≡ line_state k m p es
state_same k p q g n l es ds h a m ne =
    let o = adds_other n l es ds a m ne in
    let x = of_other q l m ne a.new a.of in
    let seen : has_read q m ds ≡ has_read p m es = ap (has_read q m) a.is ∙ has_read_more q m es a.new ∙ ap (λ ys. has_read q m es ++ ys) x.0 ∙ append-nil _ ∙ has_read_grown p q g m es h in
    let missed : read_absent m ds ≡ read_absent m es = ap (read_absent m) a.is ∙ list_any-append (λ e. eqb m e.line && eqb e.number 0) es a.new ∙ rw x.1 (or-false (read_absent m es)) in
    rw (o.0, o.1, seen, missed)

-- THE TABLE

pub record Table (w : World) : Type 0 where
  pub all : length w.notes.states ≡ 64
  pub few : lines w ≤ 64
  pub right : (l : ℕ) → l < lines w → get_or w.notes.states l Waiting ≡ line_state (wants w.notes.commands l) l w.pool w.entries

module _ {w : World} (p : Past w) (v : World) (t : Ticket) (a : Asked) (st : Stepped) (d : Worked t a st w v) (ih : Table w) where
  abbrev l : ℕ
  l = st.line

  o : Open (found p) w
  o = (sound p).open_run d.is_open

  grown : Grows w.pool (reached (work w l)).pool
  grown = work_pool (Grows w.pool) (λ q x g. grows_trans w.pool q (put q x) g (grows_put q x)) w l (grows_refl w.pool)

  inside : l < lines w
  inside = (left_parts (lines w) w.entries l (d.answer.member d.leads)).0

  table_step : Table v
  table_step = rw d.world (record {
    all = length-set w.notes.states l _ ∙ ih.all;
    few = ih.few;
    right = λ m lt. ⊎_elim
        (λ (i : m ≡ l). rw i (get_or-set_same w.notes.states l _ Waiting (omega (arith, inside, ih.few, ih.all))))
        (λ (ne : m ≡ l → ⊥). get_or-set_other w.notes.states l m _ Waiting ne ∙ ih.right m lt ∙ sym (state_same (wants w.notes.commands m) w.pool (reached (work w l)).pool grown (most_new (record_for w l)) l w.entries _ (o.going d.going).corresponds.numbered (work_adds w l) m ne))
        (cases_eq m l);
  })

pub table : {w : World} → Past w → w.is_open ≡ true → Table w
table = open_law Table (λ w cs e few. record { all = refl; few = few; right = λ l lt. get_or-same 64 l Waiting }) (λ w p v t a st d h. table_step p v t a st d h)

pub states_follow : StatesFollow
states_follow w p i l lt = (table p i).right l lt
