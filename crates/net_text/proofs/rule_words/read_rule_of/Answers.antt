use Rattle.std.proofs.Common.{◌≡◌, ℕ, List, [], length, get_or, false, Bor, sym, ◌∙◌}
use Rattle.std.proofs.lemmas.Result.{err_from_is_err_and}
use Rattle.net_types.specs.Rules.{in_port}
use Rattle.net_text.specs.Declarations as text
use Rattle.net_text.specs.Declarations.{Good, Bad, Outcome, numeral, letters, out_port, rewrite, rule_of}
use Rattle.net_text.proofs.Rules.{Words, texts, too_long, few_words, rule_of-words, bad_priority, bad_inp, bad_pattern, bad_out, bad_rewrite, good_rewrite, rest}
use Rattle.net_text.proofs.rule_words.read_rule_of.Goals as goal

-- a word that is asked for past the last one
abbrev no_word : Bor (List ℕ)
no_word = record { ref_ptr = (0, 0); now = [] }

abbrev word : Words → ℕ → List ℕ
word ws i = (get_or ws i no_word).now

pub returns-in_default : goal.returns-in_default
returns-in_default c = sym (few_words c.args.version c.args.words.now c.in_default.len_below)

pub returns-in_err-priority : goal.returns-in_err-priority
returns-in_err-priority c =
    let ws = c.args.words.now in
    let fits : too_long (word ws 5) (length (rest ws)) ≡ false = sym c.if-is_too_long.ensures in
    let parts = rule_of-words c.args.version ws no_word c.in-len6-up.len_at_least fits in
    let id : Good c.in_ok-id.id ≡ numeral (word ws 0) = c.in_ok-id.ensures in
    let at : Good c.in_ok-at.at ≡ numeral (word ws 1) = c.in_ok-at.ensures in
    let f = c.in_err-priority.field-0.0 in
    let bad : Bad f ≡ numeral (word ws 2) = c.in_err-priority.ensures in
    let p = err_from_is_err_and c.from_residual-in_err-priority.result c.from_residual-in_err-priority.ensures.1 in
    rw (p.1, p.2) (bad_priority c.in_ok-id.id c.in_ok-at.at f (numeral (word ws 0)) (numeral (word ws 1)) (numeral (word ws 2)) (text.in_port (word ws 3)) (letters (word ws 4)) (out_port (word ws 5)) (λ p. rewrite c.args.version p (texts (rest ws))) id at bad ∙ sym parts)

pub returns-in_err-inp : goal.returns-in_err-inp
returns-in_err-inp c =
    let ws = c.args.words.now in
    let fits : too_long (word ws 5) (length (rest ws)) ≡ false = sym c.if-is_too_long.ensures in
    let parts = rule_of-words c.args.version ws no_word c.in-len6-up.len_at_least fits in
    let id : Good c.in_ok-id.id ≡ numeral (word ws 0) = c.in_ok-id.ensures in
    let at : Good c.in_ok-at.at ≡ numeral (word ws 1) = c.in_ok-at.ensures in
    let priority : Good c.in_ok-priority.priority ≡ numeral (word ws 2) = c.in_ok-priority.ensures in
    let f = c.in_err-inp.field-0.0 in
    let bad : Bad f ≡ text.in_port (word ws 3) = c.in_err-inp.ensures in
    let p = err_from_is_err_and c.from_residual-in_err-inp.result c.from_residual-in_err-inp.ensures.1 in
    rw (p.1, p.2) (bad_inp c.in_ok-id.id c.in_ok-at.at c.in_ok-priority.priority f (numeral (word ws 0)) (numeral (word ws 1)) (numeral (word ws 2)) (text.in_port (word ws 3)) (letters (word ws 4)) (out_port (word ws 5)) (λ p. rewrite c.args.version p (texts (rest ws))) id at priority bad ∙ sym parts)

pub returns-in_err-pattern : goal.returns-in_err-pattern
returns-in_err-pattern c =
    let ws = c.args.words.now in
    let fits : too_long (word ws 5) (length (rest ws)) ≡ false = sym c.if-is_too_long.ensures in
    let parts = rule_of-words c.args.version ws no_word c.in-len6-up.len_at_least fits in
    let id : Good c.in_ok-id.id ≡ numeral (word ws 0) = c.in_ok-id.ensures in
    let at : Good c.in_ok-at.at ≡ numeral (word ws 1) = c.in_ok-at.ensures in
    let priority : Good c.in_ok-priority.priority ≡ numeral (word ws 2) = c.in_ok-priority.ensures in
    let inp : Good (in_port c.in_ok-inp.inp) ≡ text.in_port (word ws 3) = c.in_ok-inp.ensures in
    let f = c.in_err-pattern.field-0.0 in
    let bad : Bad f ≡ letters (word ws 4) = c.in_err-pattern.ensures in
    let p = err_from_is_err_and c.from_residual-in_err-pattern.result c.from_residual-in_err-pattern.ensures.1 in
    rw (p.1, p.2) (bad_pattern c.in_ok-id.id c.in_ok-at.at c.in_ok-priority.priority (in_port c.in_ok-inp.inp) f (numeral (word ws 0)) (numeral (word ws 1)) (numeral (word ws 2)) (text.in_port (word ws 3)) (letters (word ws 4)) (out_port (word ws 5)) (λ p. rewrite c.args.version p (texts (rest ws))) id at priority inp bad ∙ sym parts)

pub returns-in_err-out : goal.returns-in_err-out
returns-in_err-out c =
    let ws = c.args.words.now in
    let fits : too_long (word ws 5) (length (rest ws)) ≡ false = sym c.if-is_too_long.ensures in
    let parts = rule_of-words c.args.version ws no_word c.in-len6-up.len_at_least fits in
    let id : Good c.in_ok-id.id ≡ numeral (word ws 0) = c.in_ok-id.ensures in
    let at : Good c.in_ok-at.at ≡ numeral (word ws 1) = c.in_ok-at.ensures in
    let priority : Good c.in_ok-priority.priority ≡ numeral (word ws 2) = c.in_ok-priority.ensures in
    let inp : Good (in_port c.in_ok-inp.inp) ≡ text.in_port (word ws 3) = c.in_ok-inp.ensures in
    let pattern : Good c.in_ok-pattern.pattern ≡ letters (word ws 4) = c.in_ok-pattern.ensures in
    let f = c.in_err-out.field-0.0 in
    let bad : Bad f ≡ out_port (word ws 5) = c.in_err-out.ensures in
    let p = err_from_is_err_and c.from_residual-in_err-out.result c.from_residual-in_err-out.ensures.1 in
    rw (p.1, p.2) (bad_out c.in_ok-id.id c.in_ok-at.at c.in_ok-priority.priority (in_port c.in_ok-inp.inp) c.in_ok-pattern.pattern f (numeral (word ws 0)) (numeral (word ws 1)) (numeral (word ws 2)) (text.in_port (word ws 3)) (letters (word ws 4)) (out_port (word ws 5)) (λ p. rewrite c.args.version p (texts (rest ws))) id at priority inp pattern bad ∙ sym parts)

pub returns-in_err-rewrite : goal.returns-in_err-rewrite
returns-in_err-rewrite c =
    let ws = c.args.words.now in
    let fits : too_long (word ws 5) (length (rest ws)) ≡ false = sym c.if-is_too_long.ensures in
    let parts = rule_of-words c.args.version ws no_word c.in-len6-up.len_at_least fits in
    let id : Good c.in_ok-id.id ≡ numeral (word ws 0) = c.in_ok-id.ensures in
    let at : Good c.in_ok-at.at ≡ numeral (word ws 1) = c.in_ok-at.ensures in
    let priority : Good c.in_ok-priority.priority ≡ numeral (word ws 2) = c.in_ok-priority.ensures in
    let inp : Good (in_port c.in_ok-inp.inp) ≡ text.in_port (word ws 3) = c.in_ok-inp.ensures in
    let pattern : Good c.in_ok-pattern.pattern ≡ letters (word ws 4) = c.in_ok-pattern.ensures in
    let out : Good c.in_ok-out.out ≡ out_port (word ws 5) = c.in_ok-out.ensures in
    let f = c.in_err-rewrite.field-0.0 in
    let bad : Bad f ≡ rewrite c.args.version c.in_ok-pattern.pattern (texts (rest ws)) = c.in_err-rewrite.ensures in
    let p = err_from_is_err_and c.from_residual-in_err-rewrite.result c.from_residual-in_err-rewrite.ensures.1 in
    rw (p.1, p.2) (bad_rewrite c.in_ok-id.id c.in_ok-at.at c.in_ok-priority.priority (in_port c.in_ok-inp.inp) c.in_ok-pattern.pattern c.in_ok-out.out f (numeral (word ws 0)) (numeral (word ws 1)) (numeral (word ws 2)) (text.in_port (word ws 3)) (letters (word ws 4)) (out_port (word ws 5)) (λ p. rewrite c.args.version p (texts (rest ws))) id at priority inp pattern out bad ∙ sym parts)

pub returns : goal.returns
returns c =
    let ws = c.args.words.now in
    let fits : too_long (word ws 5) (length (rest ws)) ≡ false = sym c.if-is_too_long.ensures in
    let parts = rule_of-words c.args.version ws no_word c.in-len6-up.len_at_least fits in
    let id : Good c.in_ok-id.id ≡ numeral (word ws 0) = c.in_ok-id.ensures in
    let at : Good c.in_ok-at.at ≡ numeral (word ws 1) = c.in_ok-at.ensures in
    let priority : Good c.in_ok-priority.priority ≡ numeral (word ws 2) = c.in_ok-priority.ensures in
    let inp : Good (in_port c.in_ok-inp.inp) ≡ text.in_port (word ws 3) = c.in_ok-inp.ensures in
    let pattern : Good c.in_ok-pattern.pattern ≡ letters (word ws 4) = c.in_ok-pattern.ensures in
    let out : Good c.in_ok-out.out ≡ out_port (word ws 5) = c.in_ok-out.ensures in
    let moves : Good c.in_ok-rewrite.rewrite ≡ rewrite c.args.version c.in_ok-pattern.pattern (texts (rest ws)) = c.in_ok-rewrite.ensures in
    rw (c.of.ensures, c.of-2.ensures, c.action.ensures) (good_rewrite c.in_ok-id.id c.in_ok-at.at c.in_ok-priority.priority (in_port c.in_ok-inp.inp) c.in_ok-pattern.pattern c.in_ok-out.out c.in_ok-rewrite.rewrite (numeral (word ws 0)) (numeral (word ws 1)) (numeral (word ws 2)) (text.in_port (word ws 3)) (letters (word ws 4)) (out_port (word ws 5)) (λ p. rewrite c.args.version p (texts (rest ws))) id at priority inp pattern out moves ∙ sym parts)
