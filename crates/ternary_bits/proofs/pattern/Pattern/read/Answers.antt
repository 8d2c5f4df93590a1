use Rattle.std.proofs.Common.{◌∙◌, sym}
use Rattle.std.proofs.lemmas.Result.{on_err_weaker}
use Rattle.ternary_bits.specs.Letters.{has_width, pattern_letters}
use Rattle.ternary_bits.proofs.Reading.{word_none, pattern-letters}
use Rattle.ternary_bits.proofs.pattern.Pattern.read.Goals as goal

pub returns-clause-err : goal.returns-clause-err
returns-clause-err c =
    let text = c.args.text.now in
    on_err_weaker c.read_letters.result (λ none. word_none (has_width text) (pattern_letters text) (λ wide. sym (pattern-letters text) ∙ none wide)) c.read_letters.ensures.err
