use Rattle.std.proofs.Common.{◌≡◌, ℕ, ◌+◌, ◌-◌, ◌∷◌, ◌≤◌, List, [], Option, map, take, length, Bor, sym, ap, ◌∙◌, subst, refl, arith}
use Rattle.std.specs.Option.{option_map}
use Rattle.net_text.specs.declared.fault.TextFault.TheVariants.{NoHead}
use Rattle.net_text.specs.declared.reader.TheConstants.{MOST_WORDS}
use Rattle.text_words.specs.Words.{words_of}
use Rattle.net_text.specs.Declarations.{Good}
use Rattle.net_text.specs.Text.{reading}
use Rattle.net_text.specs.Lines.{lines_left, most_left}
use Rattle.net_text.specs.Building.{Whole, Broken, advance, ending, built_from}
use Rattle.net_text.proofs.Built.{of_reading, built-reading}
use Rattle.net_text.proofs.FirstLine.{none_left, less_left}
use Rattle.net_text.proofs.Advance.{built-turn, faulty-from, answers-from, stopped-from}
use Rattle.net_text.proofs.reader.read.Goals as goal

-- the lines that are left
abbrev lines_at : Option (Bor (List ℕ)) → List (List ℕ)
lines_at left = lines_left (option_map (λ rest. rest.now) left)

pub returns-in-Err : goal.returns-in-Err
returns-in-Err c =
    let text = c.args.bytes.now in
    let n = c.loop-left.number in
    let line = c.first_line.result.0.now in
    let ls = lines_at c.first_line.result.1 in
    let own : lines_at c.loop-left.left ≡ line ∷ ls = ap lines_at c.in-Some.is ∙ c.first_line.ensures.lines in
    let words = map (λ (w : Bor (List ℕ)). w.now) c.deref.result.now in
    let first : words ≡ take MOST_WORDS (words_of line) = ap (λ ws. map (λ (w : Bor (List ℕ)). w.now) ws) c.deref.ensures.value ∙ c.in_ok-split_words.ensures.ok in
    let due = advance c.loop-left.text words in
    let says = built-reading text ∙ c.loop-left.invariant.rest ∙ ap (λ l. built_from l (n + 1) c.loop-left.text) own ∙ built-turn ls n c.loop-left.text line words due first refl in
    rw c.at_line.ensures (stopped-from text (n + 1) c.in-Err.stop (built_from ls) due says c.in-Err.ensures)

pub loop-left-preserved : goal.loop-left-preserved
loop-left-preserved c =
    let text = c.args.bytes.now in
    let n = c.loop-left.number in
    let line = c.first_line.result.0.now in
    let ls = lines_at c.first_line.result.1 in
    let own : lines_at c.loop-left.left ≡ line ∷ ls = ap lines_at c.in-Some.is ∙ c.first_line.ensures.lines in
    let words = map (λ (w : Bor (List ℕ)). w.now) c.deref.result.now in
    let first : words ≡ take MOST_WORDS (words_of line) = ap (λ ws. map (λ (w : Bor (List ℕ)). w.now) ws) c.deref.ensures.value ∙ c.in_ok-split_words.ensures.ok in
    let Within : Option (Bor (List ℕ)) → Type 0 = λ left. n + most_left (option_map (λ rest. rest.now) left) ≤ length text + 1 in
    record {
      counted = less_left n (length c.in-Some.rest.now) (length text + 1) c.first_line.result.1 (subst Within c.in-Some.is c.loop-left.invariant.counted) c.first_line.ensures.shorter;
      rest = c.loop-left.invariant.rest ∙ ap (λ l. built_from l (n + 1) c.loop-left.text) own ∙ built-turn ls n c.loop-left.text line words (Good c.read_line.new.text) first c.in_default-read_line.ensures;
    }

pub returns-in-Some-text : goal.returns-in-Some-text
returns-in-Some-text c =
    let text = c.args.bytes.now in
    let n = c.loop-left.number in
    let ended : lines_at c.loop-left.left ≡ [] = none_left c.loop-left.left c.in_default.not-Some in
    let says : of_reading (reading text) ≡ Whole c.in-Some-text.text.builder = built-reading text ∙ c.loop-left.invariant.rest ∙ ap (λ l. built_from l (n + 1) c.loop-left.text) ended ∙ ap (ending (n + 1)) c.in-Some-text.is in
    answers-from text c.in_ok-finish-in-Some-text.field-0 (says ∙ ap Whole (sym c.in_ok-finish-in-Some-text.ensures))

pub returns : goal.returns
returns c =
    let text = c.args.bytes.now in
    let n = c.loop-left.number in
    let ended : lines_at c.loop-left.left ≡ [] = none_left c.loop-left.left c.in_default.not-Some in
    let says : of_reading (reading text) ≡ Broken (n + 1 - 1) NoHead = built-reading text ∙ c.loop-left.invariant.rest ∙ ap (λ l. built_from l (n + 1) c.loop-left.text) ended ∙ ap (ending (n + 1)) c.in-None.is in
    let last : n + 1 - 1 ≡ n = omega arith in
    faulty-from (reading text) n NoHead (says ∙ ap (λ k. Broken k NoHead) last)
