-- What a line has read, by the numbers of its reads.
use Rattle.std.proofs.Common.{◌≡◌, ℕ, zero, suc, ◌+◌, ◌-◌, Bool, true, false, cond, eqb, List, [], ◌∷◌, map, length, drop, Some, None, Option, sym, refl, ap, ◌∙◌, arith}
use Rattle.std.proofs.lemmas.List.{length-map, length-drop}
use Rattle.std.proofs.lemmas.List.Sums.{length-filter}
use Rattle.std.specs.List.{slice_get, count_by}
use Rattle.model.specs.declared.command.Command.{Command}
use Rattle.model.specs.declared.command.Kind.{Kind}
use Rattle.model.specs.declared.command.Kind.TheVariants.{Gather}
use Rattle.model.specs.declared.run.Entry.{Entry}
use Rattle.model.specs.Commands.{reads, writes, all_bytes, next, want, gathers, listed, next_listed}
use Rattle.model.specs.Hazards.{has_read}
use Rattle.model.specs.Contents.{Content, Pool, content}
use Rattle.model.proofs.Adds.{starts}
use Rattle.engine.specs.Reads.{reads_by, reads_in, numbers}
use Rattle.engine.specs.Nexts.{wanted, gather_next, turn_next}
use Rattle.engine.proofs.Listing.{by_parts}

move : (f : ℕ → Content) (b : Bool) (e : Entry) (es : List Entry) → map f (map (λ d. d.number) (cond b (e ∷ es) es)) ≡ cond b (f e.number ∷ map f (map (λ d. d.number) es)) (map f (map (λ d. d.number) es))
move f true e es = refl
move f false e es = refl

pub read_numbers : (p : Pool) (l : ℕ) (es : List Entry) → has_read p l es ≡ map (content p) (numbers l es)
read_numbers p l [] = refl
read_numbers p l (e ∷ es) =
    by_parts (eqb l e.line) e.wrote (content p e.number ∷ has_read p l es) (has_read p l es)
    ∙ ap (λ xs. cond (reads_by l e) (content p e.number ∷ xs) xs) (read_numbers p l es)
    ∙ sym (move (content p) (reads_by l e) e (reads_in l es))

-- how many there are
pub numbers_long : (l : ℕ) (es : List Entry) → count_by (reads_by l) es ≡ length (numbers l es)
numbers_long l es = sym (length-map (reads_in l es) (λ e. e.number) ∙ length-filter (reads_by l) es)

-- what is left of a list from a place on
pub nth_drop : (ns : List ℕ) (k n : ℕ) → Some n ≡ slice_get ns k → drop k ns ≡ n ∷ drop (k + 1) ns
nth_drop [] k n e = let z : ◌≡◌ {A = ℕ} 0 1 = cc in absurd (omega arith)
nth_drop (x ∷ ns) zero n e = let z : x ≡ n = cc in ap (λ y. y ∷ ns) z
nth_drop (x ∷ ns) (suc k) n e =
    let s : suc k + 1 ≡ suc (k + 1) = omega arith in
    nth_drop ns k n e ∙ ap (λ i. n ∷ drop i (x ∷ ns)) (sym s)

pub nth_end : (ns : List ℕ) (k : ℕ) → None ≡ slice_get ns k → drop k ns ≡ []
nth_end [] zero e = refl
nth_end [] (suc k) e = refl
nth_end (x ∷ ns) zero e = let z : ◌≡◌ {A = ℕ} 0 1 = cc in absurd (omega arith)
nth_end (x ∷ ns) (suc k) e = nth_end ns k e

-- the first reads
module _ (p : Pool) (l : ℕ) (es : List Entry) where
  pub read_none : None ≡ slice_get (numbers l es) 0 → has_read p l es ≡ []
  read_none e = read_numbers p l es ∙ ap (map (content p)) (nth_end (numbers l es) 0 e)

  pub read_one : (m : ℕ) → Some m ≡ slice_get (numbers l es) 0 → has_read p l es ≡ content p m ∷ map (content p) (drop 1 (numbers l es))
  read_one m e = read_numbers p l es ∙ ap (map (content p)) (nth_drop (numbers l es) 0 m e)

  pub read_only : (m : ℕ) → Some m ≡ slice_get (numbers l es) 0 → None ≡ slice_get (numbers l es) 1 → has_read p l es ≡ content p m ∷ []
  read_only m e h = read_numbers p l es ∙ ap (map (content p)) (nth_drop (numbers l es) 0 m e ∙ ap (λ ns. m ∷ ns) (nth_end (numbers l es) 1 h))

  pub read_two : (m n : ℕ) → Some m ≡ slice_get (numbers l es) 0 → Some n ≡ slice_get (numbers l es) 1 → has_read p l es ≡ content p m ∷ content p n ∷ map (content p) (drop 2 (numbers l es))
  read_two m n e h = read_numbers p l es ∙ ap (map (content p)) (nth_drop (numbers l es) 0 m e ∙ ap (λ ns. m ∷ ns) (nth_drop (numbers l es) 1 n h))

-- a command of a known kind that has read ys
pub by_kind : (k : Command) (q : Kind) (xs ys : List Content) → k.kind ≡ q → xs ≡ ys → next q k.a k.b k.c k.d ys ≡ want k xs
by_kind k q xs ys e h = ap (λ t. next t k.a k.b k.c k.d ys) (sym e) ∙ ap (want k) (sym h)

-- each command reads its first file first
pub first_read : (k : Command) (xs : List Content) → xs ≡ [] → reads k.a ≡ want k xs
first_read k xs e = sym (starts k.kind k.a k.b k.c k.d) ∙ ap (want k) (sym e)

-- a gather
gathers_turn : (p : Pool) (l : ℕ) (es : List Entry) (b : ℕ) (xs : List Content) (fs : List ℕ) → all_bytes (drop 1 (has_read p l es)) ≡ all_bytes xs → wanted p l es (turn_next b fs) ≡ next_listed b xs fs
gathers_turn p l es b xs [] e = ap (writes b) e
gathers_turn p l es b xs (f ∷ fs) e = refl

gathers_next : (p : Pool) (l : ℕ) (es : List Entry) (b : ℕ) (xs : List Content) (o : Option (List ℕ)) → all_bytes (drop 1 (has_read p l es)) ≡ all_bytes xs → wanted p l es (gather_next b o (length xs)) ≡ gathers b xs o
gathers_next p l es b xs None e = refl
gathers_next p l es b xs (Some fs) e = gathers_turn p l es b xs (drop (length xs) fs) e

pub gather_wanted : (p : Pool) (l : ℕ) (es : List Entry) (k : Command) (m n : ℕ) → k.kind ≡ Gather → Some m ≡ slice_get (numbers l es) 0 → n ≡ length (numbers l es) → wanted p l es (gather_next k.b (listed (content p m)) (n - 1)) ≡ want k (has_read p l es)
gather_wanted p l es k m n g e h =
    let xs = map (content p) (drop 1 (numbers l es)) in
    let shape = read_one p l es m e in
    let size : n - 1 ≡ length xs = omega (arith, length-drop 1 (numbers l es), length-map (drop 1 (numbers l es)) (content p)) in
    ap (λ i. wanted p l es (gather_next k.b (listed (content p m)) i)) size
    ∙ gathers_next p l es k.b xs (listed (content p m)) (ap (λ t. all_bytes (drop 1 t)) shape)
    ∙ by_kind k Gather (has_read p l es) (content p m ∷ xs) g shape
