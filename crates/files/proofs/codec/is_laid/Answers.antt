-- The image is the encoding of what it decodes to, or it is no layout.
use Rattle.std.proofs.Common.{◌≡◌, ℕ, ◌<◌, true, List, get_or, sym, ap, ◌∙◌, subst, rules}
use Rattle.std.proofs.lemmas.Slice.Eq.{slice_eq-Decides, bytes_eq-Decides}
use Rattle.std.proofs.lemmas.Bool.Decides.{same_from_decides, Decides-like, Decides-eqb}
use Rattle.files.specs.Layout.{Map, Rules, layout, mapped}
use Rattle.files.proofs.Rules.{layout_rules, rules_laid}
use Rattle.files.specs.Trips.{laid, mapped_long, means}
use Rattle.files.proofs.codec.is_laid.Goals as goal

pub returns : goal.returns
returns c =
    let image = c.args.image in
    let again = c.encoded.result in
    let canonical : again ≡ layout (mapped image) = c.encoded.ensures.value ∙ ap layout c.decoded.ensures in
    let same = slice_eq-Decides Decides-eqb again image c.eq.result c.eq.ensures in
    let Low : List ℕ → Type 0 = λ bs. (k : ℕ) → get_or (mapped bs) k 0 < 65536 in
    let low : (k : ℕ) → get_or image k 0 < 256 = λ k. search rules in
    let lawful : (t : c.eq.result ≡ true) → Map (mapped image) = λ t. record { long = mapped_long image; fits = subst Low (same.0 t) c.encoded.ensures.fits } in
    record {
      value =
          same_from_decides c.eq.result _ (Decides-like c.eq.result (λ h. sym h ∙ canonical) (λ h. canonical ∙ sym h) same) (bytes_eq-Decides image (layout (mapped image)));
      laid = λ t. sym (same.0 t) ∙ canonical;
      fits = λ t. (lawful t).fits;
      rules = λ t. subst Rules (sym canonical ∙ same.0 t) (layout_rules (mapped image) (lawful t));
      kept = λ rules. same.1 (canonical ∙ sym (rules_laid image rules low));
      found = λ ns is e. same.1 (canonical ∙ sym (laid image ns is e));
      same = λ ns is e. means image ns is e;
    }
