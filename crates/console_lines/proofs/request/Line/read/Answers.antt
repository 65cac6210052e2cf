-- The words of the line are read up to its seventh.
use Rattle.std.proofs.Common.{◌≡◌, map, take, ap, ◌∙◌, subst}
use Rattle.std.specs.Result.{IfOk}
use Rattle.script.specs.Text.{words}
use Rattle.console_lines.specs.Meanings.{line_says}
use Rattle.console_lines.specs.Requests.{Said}
use Rattle.console_lines.proofs.Few.{read_on}
use Rattle.console_lines.proofs.request.Line.read.Goals as goal

pub returns-in-len1-up : goal.returns-in-len1-up
returns-in-len1-up c =
    let ws = c.as_slice.result.now in
    let all : map (λ x. x.now) ws ≡ take 7 (words c.args.line.now) = ap (map (λ x. x.now)) c.as_slice.ensures.value ∙ c.words_of-words.ensures in
    let P : Said → Type 0 = λ s. IfOk c.line_of.result (λ said. line_says said ≡ s) in
    subst P (read_on c.args.line.now ws _ c.in-len1-up.len_at_least all) c.line_of.ensures
