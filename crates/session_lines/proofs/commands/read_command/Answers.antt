use Rattle.std.proofs.Common.{◌≡◌, ℕ, ◌-◌, ◌≤◌, List, [], ◌∷◌, length, map, take, drop, get_or, Bor, Ok, Some, sym, ap, ◌∙◌, arith}
use Rattle.std.proofs.lemmas.List.{take_all}
use Rattle.session_lines.specs.Commands.{and_then, said}
use Rattle.session_lines.proofs.FirstSaid.{said_first}
use Rattle.text_words.specs.Words.{words_of}
use Rattle.session_lines.proofs.commands.read_command.Goals as goal

-- a word that is asked for past the last one
abbrev no_word : Bor (List ℕ)
no_word = record { ref_ptr = (0, 0); now = [] }

abbrev texts : List (Bor (List ℕ)) → List (List ℕ)
texts ws = map (λ w. w.now) ws

parts : (ws : List (Bor (List ℕ))) → 1 ≤ length ws → texts ws ≡ (get_or ws 0 no_word).now ∷ texts (take (length ws - 1) (drop 1 ws))
parts [] h = absurd (omega arith)
parts (w ∷ ws) h = ap (λ t. w.now ∷ texts t) (sym (take_all (length (w ∷ ws) - 1) ws (omega arith)))

pub returns-in-Ok : goal.returns-in-Ok
returns-in-Ok c =
    let ws = c.as_slice.result.now in
    let words : texts ws ≡ take 9 (words_of c.args.line.now) = ap texts c.as_slice.ensures.value ∙ c.first_words-words.ensures in
    ap (λ r. and_then r (λ k. Ok (Some k))) c.in-Ok.ensures ∙ ap said (sym (parts ws c.in-len1-up.len_at_least) ∙ words) ∙ said_first (words_of c.args.line.now)

pub returns-in-Err : goal.returns-in-Err
returns-in-Err c =
    let ws = c.as_slice.result.now in
    let words : texts ws ≡ take 9 (words_of c.args.line.now) = ap texts c.as_slice.ensures.value ∙ c.first_words-words.ensures in
    ap (λ r. and_then r (λ k. Ok (Some k))) c.in-Err.ensures ∙ ap said (sym (parts ws c.in-len1-up.len_at_least) ∙ words) ∙ said_first (words_of c.args.line.now)
