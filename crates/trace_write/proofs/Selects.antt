-- What is so of the records that are chosen: each may be saved, no two have one command, and there are at most 256.
use Rattle.std.proofs.Common.{◌≡◌, ℕ, ◌≤◌, Bool, true, false, cond, not, ◌&&◌, ltb, leb, List, [], ◌∷◌, ◌++◌, map, length, sym, refl, ap, ◌∙◌, append_assoc, append-nil, arith}
use Rattle.std.proofs.ByRecursion.{All-append, All-weaker}
use Rattle.std.proofs.lemmas.List.{length_push}
use Rattle.std.proofs.lemmas.Bool.{and_parts, and_from, leb-true, ltb-true}
use Rattle.std.specs.List.{flat_map, list_all, AllByRecursion}
use Rattle.model.specs.Book.{unstruck}
use Rattle.model.specs.Contents.{Pool, count, holds}
use Rattle.model.specs.Records.{Record, said}
use Rattle.model.specs.declared.command.Command.{Command}
use Rattle.model.specs.declared.record.Record as Code
use Rattle.model.specs.declared.record.Use.{Use}
use Rattle.pool.specs.Sound.{Sound}
use Rattle.trace.specs.Format.{push, count_ok, files_ok, known_command}
use Rattle.trace.specs.Reads.{after, each}
use Rattle.trace_write.specs.Rooms.{Number, Named}
use Rattle.trace_write.specs.Saves.{use_savable, savable, is_new, choice, numbers_in}

abbrev pub with_command : List Command → Record → List Command
with_command cs r = push cs r.command

pub commands_after : (cs : List Command) (ss : List Record) → after with_command cs ss ≡ cs ++ map (λ s. s.command) ss
commands_after cs [] = sym (append-nil cs)
commands_after cs (s ∷ ss) = commands_after (push cs s.command) ss ∙ append_assoc cs (s.command ∷ []) (map (λ r. r.command) ss)

pub each_push : {S X : Type 0} (ok : S → X → Bool) (next : S → X → S) (s : S) (xs : List X) (x : X) → each ok next s xs ≡ true → ok (after next s xs) x ≡ true → each ok next s (xs ++ x ∷ []) ≡ true
each_push ok next s [] x a b = and_from (ok s x) true b refl
each_push ok next s (y ∷ xs) x a b =
    let t = and_parts (ok s y) (each ok next (next s y) xs) a in and_from (ok s y) _ t.0 (each_push ok next (next s y) xs x t.1 b)

-- a number is in the pool
abbrev pub In : Pool → ℕ → Type 0
In p n = (1 ≤ n) × (n ≤ count p)

module _ (p : Pool) where
  abbrev pub chosen_ok : List Command → Record → Bool
  chosen_ok cs r = savable p r && not (known_command r.command cs)

  pub chosen_all : (ss rs : List Record) → each chosen_ok with_command [] ss ≡ true → length ss ≤ 256 → (each chosen_ok with_command [] (after (choice p) ss rs) ≡ true) × (length (after (choice p) ss rs) ≤ 256)
  chosen_all ss [] a b = (a, b)
  chosen_all ss (r ∷ rs) a b = by (savable p r && is_new ss r) refl (λ xs. chosen_all xs rs)
    where
      by : (t : Bool) → (savable p r && is_new ss r) ≡ t → ((xs : List Record) → each chosen_ok with_command [] xs ≡ true → length xs ≤ 256 → (each chosen_ok with_command [] (after (choice p) xs rs) ≡ true) × (length (after (choice p) xs rs) ≤ 256)) → (each chosen_ok with_command [] (after (choice p) (cond t (ss ++ r ∷ []) ss) rs) ≡ true) × (length (after (choice p) (cond t (ss ++ r ∷ []) ss) rs) ≤ 256)
      by false e more = more ss a b
      by true e more =
          let x = and_parts (savable p r) (is_new ss r) e in
          let y = and_parts (not (known_command r.command (map (λ s. s.command) ss))) (ltb (length ss) 256) x.1 in
          let few = ltb-true (length ss) 256 y.1 in
          let fresh = ap (λ cs. not (known_command r.command cs)) (commands_after [] ss) ∙ y.0 in
          more (ss ++ r ∷ []) (each_push chosen_ok with_command [] ss r a (and_from (savable p r) _ x.0 fresh)) (omega (arith, length_push ss r))

  -- the parts of what may be saved
  pub record Savable (r : Record) : Type 0 where
    pub files : files_ok r.command ≡ true
    pub count : count_ok (length r.reads) ≡ true
    pub reads : list_all (use_savable p) r.reads ≡ true
    pub write : use_savable p r.write ≡ true

  pub savable_parts : (r : Record) → savable p r ≡ true → Savable r
  savable_parts r e =
      let a = and_parts (unstruck r.standing) _ e in
      let b = and_parts (files_ok r.command) _ a.1 in
      let c = and_parts (count_ok (length r.reads)) _ b.1 in
      let d = and_parts (list_all (use_savable p) r.reads) (use_savable p r.write) c.1 in
      record { files = b.0; count = c.0; reads = d.0; write = d.1 }

  use_in : (u : Use) → use_savable p u ≡ true → In p u.number
  use_in u e =
      let a = and_parts (leb u.file 63) (holds p u.number) e in
      let b = and_parts (leb 1 u.number) (leb u.number (count p)) a.1 in
      (leb-true 1 u.number b.0, leb-true u.number (count p) b.1)

  uses_in : (us : List Use) → list_all (use_savable p) us ≡ true → AllByRecursion (In p) (map (λ u. u.number) us)
  uses_in [] e = tt
  uses_in (u ∷ us) e = let a = and_parts (use_savable p u) (list_all (use_savable p) us) e in (use_in u a.0, uses_in us a.1)

  pub numbers_in_pool : (r : Record) → savable p r ≡ true → AllByRecursion (In p) (numbers_in r)
  numbers_in_pool r e =
      let s = savable_parts r e in
      All-append (In p) (map (λ u. u.number) r.reads) (r.write.number ∷ []) (uses_in r.reads s.reads) (use_in r.write s.write, tt)

  pub all_numbers : (cs : List Command) (ss : List Record) → each chosen_ok with_command cs ss ≡ true → AllByRecursion (In p) (flat_map numbers_in ss)
  all_numbers cs [] e = tt
  all_numbers cs (s ∷ ss) e =
      let a = and_parts (chosen_ok cs s) _ e in
      let b = and_parts (savable p s) (not (known_command s.command cs)) a.0 in
      All-append (In p) (numbers_in s) (flat_map numbers_in ss) (numbers_in_pool s b.0) (all_numbers (push cs s.command) ss a.1)

  in_number : Sound p → (ns : List ℕ) → AllByRecursion (In p) ns → AllByRecursion Number ns
  in_number sound = All-weaker (In p) Number (λ n h. (h.0, omega (arith, h.1, sound.count, sound.places)))

  pub all_named : Sound p → (cs : List Command) (rs : List Code.Record) → each chosen_ok with_command cs (map said rs) ≡ true → AllByRecursion Named rs
  all_named sound cs [] e = tt
  all_named sound cs (r ∷ rs) e =
      let a = and_parts (chosen_ok cs (said r)) _ e in
      let b = and_parts (savable p (said r)) (not (known_command r.command cs)) a.0 in
      (in_number sound (numbers_in (said r)) (numbers_in_pool (said r) b.0), all_named sound (push cs r.command) rs a.1)
