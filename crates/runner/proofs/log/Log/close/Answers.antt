-- Each ending of a close, by the tests that led to it.
use Rattle.std.proofs.Common.{length, sym, refl, ◌∙◌}
use Rattle.lists.specs.Held.{held}
use Rattle.pool.specs.Contents.{meant}
use Rattle.runner.specs.Views.{notes, records, places}
use Rattle.runner.proofs.Asks.{none_left}
use Rattle.runner.proofs.Closes.{blank, shut, stopped, wished, early, kept_all}
use Rattle.runner.proofs.log.Log.close.Goals as goal

pub returns-in-Some : goal.returns-in-Some
returns-in-Some g c = blank _ _ _ c.in-Some.refusal c.args.wish (sym c.in-Some.ensures) refl

pub returns-then-not-is_open : goal.returns-then-not-is_open
returns-then-not-is_open g c = shut _ _ _ (sym c.in_default.ensures) c.args.wish (sym c.if-not-is_open.ensures) refl

pub returns-in-Some-stop : goal.returns-in-Some-stop
returns-in-Some-stop g c =
    let b = c.args.book.now in
    stopped _ _ _ (sym c.in_default.ensures) (sym c.if-not-is_open.ensures) c.in-Some-stop.stop c.args.wish (sym c.in-Some-stop.ensures) (c.put_back.ensures (records b) (places b))

pub returns-in-PutBack : goal.returns-in-PutBack
returns-in-PutBack g c =
    let b = c.args.book.now in
    rw c.in-PutBack.is (wished _ _ _ (sym c.in_default.ensures) (sym c.if-not-is_open.ensures) (sym c.in_default-stop.ensures) (c.put_back-in-PutBack.ensures (records b) (places b)))

pub returns-in-Some-lowest : goal.returns-in-Some-lowest
returns-in-Some-lowest g c =
    let b = c.args.book.now in
    let f = c.in-Some-lowest.field-0 in
    rw c.in_default-wish.is (early _ _ _ (sym c.in_default.ensures) (sym c.if-not-is_open.ensures) (sym c.in_default-stop.ensures) f (sym (c.left.ensures f) ∙ c.in-Some-lowest.ensures.member) (c.put_back-in-Some-lowest.ensures (records b) (places b)))

pub returns : goal.returns
returns g c =
    let l = c.args.self.now.inner in
    let all = none_left (length (notes l.run).commands) (held l.entries) (λ k m. c.in_default-lowest.ensures k (c.left.ensures k ∙ m)) in
    rw c.in_default-wish.is (kept_all _ _ _ (sym c.in_default.ensures) (sym c.if-not-is_open.ensures) (sym c.in_default-stop.ensures) all (c.keep.ensures (g.F.FileStore.map c.args.files.now) (meant c.args.pool.now)))
