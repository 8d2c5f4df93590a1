use Rattle.std.proofs.Common.{◌≡◌, ◌++◌, ◌∷◌, [], ℕ, List, codes, ap, ◌∙◌, append_assoc}
use Rattle.std.proofs.lemmas.Result.{on_ok_weaker}
use Rattle.session_lines.specs.ReplyTexts.{verdict_word}
use Rattle.session_lines.proofs.refusals.put_already_counted.Goals as goal

parts : (old front word : List ℕ) → ((old ++ front) ++ word) ++ 10 ∷ [] ≡ old ++ (front ++ (word ++ 10 ∷ []))
parts old front word = append_assoc (old ++ front) word (10 ∷ []) ∙ append_assoc old front (word ++ 10 ∷ [])

pub returns : goal.returns
returns c =
    let old = c.args.text.now.items in
    let front : List ℕ = codes "no already-counted " in
    let word = verdict_word c.args.verdict in
    let before : c.put-2.new.text.items ≡ (old ++ front) ++ word = cc (c.in_ok-put.ensures.ok, c.in_ok-put-2.ensures.ok, c.verdict_word.ensures) in
    on_ok_weaker c.put-3.result (λ e. e ∙ ap (λ t. t ++ 10 ∷ []) before ∙ parts old front word) c.put-3.ensures.ok
