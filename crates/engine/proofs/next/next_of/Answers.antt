-- By the kind of the command and what its line has read.
use Rattle.std.proofs.Common.{◌-◌, cond, sym, ap, ◌∙◌, arith}
use Rattle.std.proofs.lemmas.Option.{slice_get_within}
use Rattle.model.specs.Commands.{reads, is_yes, listed}
use Rattle.model.specs.declared.command.Kind.TheVariants.{Copy, Join, Choose, Tally, Check}
use Rattle.pool.specs.Contents.{meant}
use Rattle.engine.specs.Nexts.{wanted, gather_next}
use Rattle.engine.proofs.Nexts.{read_none, read_one, read_only, read_two, by_kind, first_read, gather_wanted, numbers_long}
use Rattle.engine.proofs.next.next_of.Goals as goal

pub returns-in_default : goal.returns-in_default
returns-in_default c = first_read c.args.command _ (read_none (meant c.args.pool.now) c.args.acts.now.line c.args.acts.now.entries.now c.in_default.ensures)

pub overflow_sub-count : goal.overflow_sub-count
overflow_sub-count c = omega (arith, slice_get_within _ 0 _ (sym c.in-Some.ensures), c.count.ensures, numbers_long c.args.acts.now.line c.args.acts.now.entries.now)

pub returns-in-Copy : goal.returns-in-Copy
returns-in-Copy c =
    by_kind c.args.command Copy _ _ c.in-Copy.is (read_one (meant c.args.pool.now) c.args.acts.now.line c.args.acts.now.entries.now _ c.in-Some.ensures)

pub returns-in-Some-second : goal.returns-in-Some-second
returns-in-Some-second c =
    by_kind c.args.command Join _ _ c.in-Join.is
    (read_two (meant c.args.pool.now) c.args.acts.now.line c.args.acts.now.entries.now _ _ c.in-Some.ensures c.in-Some-second.ensures)

pub returns-in-None : goal.returns-in-None
returns-in-None c =
    by_kind c.args.command Join _ _ c.in-Join.is
    (read_only (meant c.args.pool.now) c.args.acts.now.line c.args.acts.now.entries.now _ c.in-Some.ensures c.in-None.ensures)

pub returns-in-Gather : goal.returns-in-Gather
returns-in-Gather c =
    let p = meant c.args.pool.now in
    ap (wanted p c.args.acts.now.line c.args.acts.now.entries.now) (c.gather_next.ensures ∙ ap (λ x. gather_next c.args.command.b (listed x) (c.count.result - 1)) c.bytes.ensures.value)
    ∙ gather_wanted p c.args.acts.now.line c.args.acts.now.entries.now c.args.command _ _ c.in-Gather.is c.in-Some.ensures (c.count.ensures ∙ numbers_long c.args.acts.now.line c.args.acts.now.entries.now)

pub returns-in-Some-second-2 : goal.returns-in-Some-second-2
returns-in-Some-second-2 c =
    by_kind c.args.command Choose _ _ c.in-Choose.is
    (read_two (meant c.args.pool.now) c.args.acts.now.line c.args.acts.now.entries.now _ _ c.in-Some.ensures c.in-Some-second-2.ensures)

pub returns-then-agrees : goal.returns-then-agrees
returns-then-agrees c =
    let k = c.args.command in
    ap (λ t. reads (cond t k.b k.c)) (c.if-agrees.ensures ∙ ap is_yes c.bytes-in-None-second.ensures.value)
    ∙ by_kind k Choose _ _ c.in-Choose.is
    (read_only (meant c.args.pool.now) c.args.acts.now.line c.args.acts.now.entries.now _ c.in-Some.ensures c.in-None-second.ensures)

pub returns-else-agrees : goal.returns-else-agrees
returns-else-agrees c =
    let k = c.args.command in
    ap (λ t. reads (cond t k.b k.c)) (c.if-agrees.ensures ∙ ap is_yes c.bytes-in-None-second.ensures.value)
    ∙ by_kind k Choose _ _ c.in-Choose.is
    (read_only (meant c.args.pool.now) c.args.acts.now.line c.args.acts.now.entries.now _ c.in-Some.ensures c.in-None-second.ensures)

pub returns-in-Tally : goal.returns-in-Tally
returns-in-Tally c =
    by_kind c.args.command Tally _ _ c.in-Tally.is (read_one (meant c.args.pool.now) c.args.acts.now.line c.args.acts.now.entries.now _ c.in-Some.ensures)

pub returns-in-Some-second-3 : goal.returns-in-Some-second-3
returns-in-Some-second-3 c =
    by_kind c.args.command Check _ _ c.in-Check.is
    (read_two (meant c.args.pool.now) c.args.acts.now.line c.args.acts.now.entries.now _ _ c.in-Some.ensures c.in-Some-second-3.ensures)

pub returns-in-None-second-2 : goal.returns-in-None-second-2
returns-in-None-second-2 c =
    by_kind c.args.command Check _ _ c.in-Check.is
    (read_only (meant c.args.pool.now) c.args.acts.now.line c.args.acts.now.entries.now _ c.in-Some.ensures c.in-None-second-2.ensures)
