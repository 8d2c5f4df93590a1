use Rattle.std.proofs.Common.{◌≡◌, ◌++◌, ◌∷◌, [], ℕ, List, codes, decimal, sym, ap, ◌∙◌, append_assoc}
use Rattle.std.proofs.lemmas.Result.{on_ok_weaker}
use Rattle.text_lines.specs.Lines.{line, number_list}
use Rattle.session_lines.specs.ReplyTexts.{optional_number}
use Rattle.session_lines.proofs.replies.put_report.Goals as goal

flat : (a b c d e f g h : List ℕ) → ((((((a ++ b) ++ c) ++ d) ++ e) ++ f) ++ g) ++ h ≡ a ++ (b ++ (c ++ (d ++ (e ++ (f ++ (g ++ h))))))
flat a b c d e f g h = simp append_assoc

-- words with spaces between them, of which some stand with the spaces around them
joined : (name round a suspects b guilty c odd d next end : List ℕ)
    → (name ++ 32 ∷ (round ++ 32 ∷ (a ++ 32 ∷ (suspects ++ 32 ∷ (b ++ 32 ∷ (guilty ++ 32 ∷ (c ++ 32 ∷ (odd ++ 32 ∷ (d ++ 32 ∷ next))))))))) ++ end
    ≡ name ++ ((32 ∷ round) ++ (((32 ∷ (a ++ 32 ∷ [])) ++ suspects) ++ (((32 ∷ (b ++ 32 ∷ [])) ++ guilty) ++ (((32 ∷ (c ++ 32 ∷ [])) ++ odd) ++ (((32 ∷ (d ++ 32 ∷ [])) ++ next) ++ end)))))
joined name round a suspects b guilty c odd d next end = simp append_assoc

-- what was put one after another is the line
whole : (old name round suspects guilty odd next : List ℕ)
    → ((((((old ++ name) ++ 32 ∷ round) ++ (codes " suspects " ++ suspects)) ++ (codes " guilty " ++ guilty)) ++ (codes " odd " ++ odd)) ++ (codes " next " ++ next)) ++ 10 ∷ []
    ≡ old ++ line (name ∷ round ∷ codes "suspects" ∷ suspects ∷ codes "guilty" ∷ guilty ∷ codes "odd" ∷ odd ∷ codes "next" ∷ next ∷ [])
whole old name round suspects guilty odd next =
    flat old name (32 ∷ round) (codes " suspects " ++ suspects) (codes " guilty " ++ guilty) (codes " odd " ++ odd) (codes " next " ++ next) (10 ∷ [])
    ∙ ap (λ t. old ++ t) (sym (joined name round (codes "suspects") suspects (codes "guilty") guilty (codes "odd") odd (codes "next") next (10 ∷ [])))

pub returns : goal.returns
returns c =
    let old = c.args.text.now.items in
    let r = c.args.report.now in
    let before : c.put_entry-2.new.text.items ≡ (((((old ++ c.args.name.now) ++ 32 ∷ decimal c.args.round) ++ (codes " suspects " ++ number_list r.suspects)) ++ (codes " guilty " ++ number_list r.guilty)) ++ (codes " odd " ++ optional_number r.odd)) ++ (codes " next " ++ optional_number r.next) =
    cc (c.in_ok-put.ensures.ok, c.in_ok-put_next_number.ensures.ok, c.in_ok-put_rules.ensures, c.in_ok-put_rules-2.ensures, c.in_ok-put_entry.ensures, c.in_ok-put_entry-2.ensures) in
    on_ok_weaker c.put-2.result (λ e. e ∙ ap (λ t. t ++ 10 ∷ []) before ∙ whole old c.args.name.now (decimal c.args.round) (number_list r.suspects) (number_list r.guilty) (optional_number r.odd) (optional_number r.next)) c.put-2.ensures.ok
