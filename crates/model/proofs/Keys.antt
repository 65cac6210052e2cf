-- Two commands with the same key are equal. Assumes nothing.
use Rattle.std.proofs.Common.{◌≡◌, ℕ, true, false, cond, ◌&&◌, eqb, sym, refl, ap, ◌∙◌, ⊎_elim}
use Rattle.std.proofs.lemmas.Bool.{cases_Bool, both_ways, and_parts, eqb-true, eq-eqb}
use Rattle.model.specs.declared.command.Kind.{Kind}
use Rattle.model.specs.declared.command.Kind.TheVariants.{Copy, Join, Gather, Choose, Tally, Check}
use Rattle.model.specs.declared.command.Command.{Command}
use Rattle.model.specs.Numbers.{kind_number}
use Rattle.model.specs.Book.{same_command}

abbrev decode : ℕ → Kind
decode n = cond (eqb n 1) Copy (cond (eqb n 2) Join (cond (eqb n 3) Gather (cond (eqb n 4) Choose (cond (eqb n 5) Tally Check))))

decoded : (k : Kind) → decode (kind_number k) ≡ k
decoded Copy = refl
decoded Join = refl
decoded Gather = refl
decoded Choose = refl
decoded Tally = refl
decoded Check = refl

pub same_is : (c d : Command) → same_command c d ≡ true → c ≡ d
same_is c d h =
    let a = and_parts (eqb (kind_number c.kind) (kind_number d.kind) && eqb c.a d.a && eqb c.b d.b && eqb c.c d.c) (eqb c.d d.d) h in
    let b = and_parts (eqb (kind_number c.kind) (kind_number d.kind) && eqb c.a d.a && eqb c.b d.b) (eqb c.c d.c) a.0 in
    let e = and_parts (eqb (kind_number c.kind) (kind_number d.kind) && eqb c.a d.a) (eqb c.b d.b) b.0 in
    let f = and_parts (eqb (kind_number c.kind) (kind_number d.kind)) (eqb c.a d.a) e.0 in
    let kind : c.kind ≡ d.kind = sym (decoded c.kind) ∙ ap decode (eqb-true _ _ f.0) ∙ decoded d.kind in
    let all : ◌≡◌ {A = Command} (record { kind = c.kind; a = c.a; b = c.b; c = c.c; d = c.d }) (record { kind = d.kind; a = d.a; b = d.b; c = d.c; d = d.d }) =
    rw (kind, eqb-true _ _ f.1, eqb-true _ _ e.1, eqb-true _ _ b.1, eqb-true _ _ a.1) in
    all

pub same_self : (c : Command) → same_command c c ≡ true
same_self c = rw (eq-eqb (kind_number c.kind) (kind_number c.kind) refl, eq-eqb c.a c.a refl, eq-eqb c.b c.b refl, eq-eqb c.c c.c refl, eq-eqb c.d c.d refl)

pub unlike : (c d : Command) → same_command c d ≡ false → same_command d c ≡ false
unlike c d h = ⊎_elim (λ e. absurd (both_ways _ h (rw (same_is d c e) (same_self c)))) (λ e. e) (cases_Bool (same_command d c))
