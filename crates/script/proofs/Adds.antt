-- A label more.
use Rattle.std.proofs.Common.{◌≡◌, ℕ, ◌<◌, true, false, not, ◌&&◌, eqb, [], length, get_or, set, is_some, Ok, Err, sym, ap, ◌∙◌, Bor, List}
use Rattle.std.proofs.lemmas.List.{map-set, get_or-map}
use Rattle.std.proofs.lemmas.Bool.{cond-true, and_from}
use Rattle.model.specs.declared.refusal.Refusal.TheVariants.{BadLabel}
use Rattle.script.specs.declared.tables.Tables.{Tables}
use Rattle.script.specs.Text.{add_label, with_label, free, is_label, file_of}
use Rattle.script.specs.Views.{held}

module _ (s : Tables) (n : ℕ) (w : Bor (List ℕ)) where
  at_n : (d : Bor (List ℕ)) → n < length s.labels → eqb (length (get_or s.labels n d).now) 0 ≡ eqb (length (get_or (held s).labels n [])) 0
  at_n d h = ap (λ l. eqb (length l) 0) (sym (get_or-map (λ x. x.now) s.labels n d [] h))

  -- it is a label, and neither the number nor the label is given yet
  pub label_added : (d : Bor (List ℕ)) → n < length s.labels → true ≡ is_label w.now → true ≡ eqb (length (get_or s.labels n d).now) 0 → false ≡ is_some (file_of (held s).labels w.now) → Ok (held (record { labels = set s.labels n w; haves = s.haves; commands = s.commands })) ≡ add_label (held s) n w.now
  label_added d h e f g =
      ap (λ ls. Ok (record { labels = ls; haves = (held s).haves; commands = (held s).commands })) (map-set (λ x. x.now) s.labels n w)
      ∙ sym (cond-true (is_label w.now && free (held s) n w.now) (Ok (with_label (held s) n w.now)) (Err BadLabel)
      (and_from (is_label w.now) _ (sym e) (and_from (eqb (length (get_or (held s).labels n [])) 0) _ (sym (f ∙ at_n d h)) (ap not (sym g)))))
