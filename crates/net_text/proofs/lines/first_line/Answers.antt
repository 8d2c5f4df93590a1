use Rattle.std.proofs.Common.{ℕ, ◌+◌, ◌∷◌, List, take, ap, ◌∙◌, sym}
use Rattle.text_words.specs.Words.{lines_of}
use Rattle.net_text.proofs.FirstLine.{one_line, line_before, to_the_end}
use Rattle.net_text.proofs.lines.first_line.Goals as goal

pub returns-in-Some-clause-lines : goal.returns-in-Some-clause-lines
returns-in-Some-clause-lines c =
    let text = c.args.text.now in
    let end = c.in-Some.end in
    line_before text end c.in-Some.ensures ∙ ap (λ (rest : List ℕ). take end text ∷ lines_of rest) (sym (to_the_end text (end + 1)))

pub returns-in-None-clause-lines : goal.returns-in-None-clause-lines
returns-in-None-clause-lines c = one_line c.args.text.now c.in-None.ensures
