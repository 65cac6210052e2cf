-- The record goes to the place that a search found, or to the end, or nowhere.
use Rattle.std.proofs.Common.{◌<◌, ◌≤◌, length, arith}
use Rattle.lists.specs.Held.{held, room}
use Rattle.runner.specs.Views.{places}
use Rattle.runner.proofs.Keeps.{kept_found, kept_last, kept_freed, kept_out}
use Rattle.runner.proofs.book.Book.keep.Goals as goal

pub returns-in-Some-clause-records : goal.returns-in-Some-clause-records
returns-in-Some-clause-records c =
    let b = c.args.self.now in
    kept_found c.args.commands.now (places b) c.args.own (held b.list) (held c.replace.new.self) c.replace.result c.in-Some.at c.in-Some.ensures c.replace.ensures.fits c.replace.ensures.held

pub returns-then-len-places-clause-records : goal.returns-then-len-places-clause-records
returns-then-len-places-clause-records c =
    let b = c.args.self.now in
    let h : length (held b.list) < places b = omega arith in
    kept_last c.args.commands.now (places b) c.args.own (held b.list) (held c.push.new.self) c.push.result (room b.list) c.in_default.ensures h (omega arith) c.push.ensures.fits c.push.ensures.held

pub returns-in-Some-free_place-clause-records : goal.returns-in-Some-free_place-clause-records
returns-in-Some-free_place-clause-records c =
    let b = c.args.self.now in
    let h : places b ≤ length (held b.list) = omega arith in
    kept_freed c.args.commands.now (places b) c.args.own (held b.list) (held c.replace-in-Some-free_place.new.self) c.replace-in-Some-free_place.result c.in-Some-free_place.at c.in_default.ensures h c.in-Some-free_place.ensures c.replace-in-Some-free_place.ensures.fits c.replace-in-Some-free_place.ensures.held

pub returns-in_default-free_place-clause-records : goal.returns-in_default-free_place-clause-records
returns-in_default-free_place-clause-records c =
    let b = c.args.self.now in
    let h : places b ≤ length (held b.list) = omega arith in
    kept_out c.args.commands.now (places b) c.args.own (held b.list) c.in_default.ensures h c.in_default-free_place.ensures
