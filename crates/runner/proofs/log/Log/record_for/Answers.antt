-- Each test of the code is a test of the record that is meant.
use Rattle.std.proofs.Common.{true, false, refl}
use Rattle.model.specs.Records.{said}
use Rattle.pool.specs.Contents.{meant}
use Rattle.runner.specs.Views.{records, places}
use Rattle.runner.proofs.Always.{always}
use Rattle.runner.proofs.Works.{not_waiting, not_found, by_tests}
use Rattle.runner.proofs.log.Log.record_for.Goals as goal

pub returns-then-not-is_waiting : goal.returns-then-not-is_waiting
returns-then-not-is_waiting g c =
    not_waiting c.args.self.now.inner c.args.line c.requires (g.F.FileStore.map c.args.files.now) (meant c.args.pool.now) (records c.args.book.now) (places c.args.book.now) (always c.args.self.now) _
    c.if-not-is_waiting.ensures

pub returns-in_default : goal.returns-in_default
returns-in_default g c =
    not_found c.args.self.now.inner c.args.line c.requires (g.F.FileStore.map c.args.files.now) (meant c.args.pool.now) (records c.args.book.now) (places c.args.book.now) (always c.args.self.now) _
    _ c.if-not-is_waiting.ensures c.in_default.ensures

pub returns-then-not-is_own : goal.returns-then-not-is_own
returns-then-not-is_own g c =
    by_tests c.args.self.now.inner c.args.line c.requires (g.F.FileStore.map c.args.files.now) (meant c.args.pool.now) (records c.args.book.now) (places c.args.book.now) (always c.args.self.now) _
    _ (said c.in-Some.record) _ false _ refl c.if-not-is_waiting.ensures c.in-Some.ensures c.if-not-is_own.ensures refl

pub returns-then-not-can_skip : goal.returns-then-not-can_skip
returns-then-not-can_skip g c =
    by_tests c.args.self.now.inner c.args.line c.requires (g.F.FileStore.map c.args.files.now) (meant c.args.pool.now) (records c.args.book.now) (places c.args.book.now) (always c.args.self.now) _
    _ (said c.in-Some.record) c.reads.result.now true false c.reads.ensures.value c.if-not-is_waiting.ensures c.in-Some.ensures c.if-not-is_own.ensures c.if-not-can_skip.ensures

pub returns : goal.returns
returns g c =
    by_tests c.args.self.now.inner c.args.line c.requires (g.F.FileStore.map c.args.files.now) (meant c.args.pool.now) (records c.args.book.now) (places c.args.book.now) (always c.args.self.now) _
    _ (said c.in-Some.record) c.reads.result.now true true c.reads.ensures.value c.if-not-is_waiting.ensures c.in-Some.ensures c.if-not-is_own.ensures c.if-not-can_skip.ensures
