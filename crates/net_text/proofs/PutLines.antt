-- Words put at the end of a text one after another, as a line.
use Rattle.std.proofs.Common.{◌≡◌, ℕ, List, [], ◌∷◌, ◌++◌, refl, sym, ap, ◌∙◌, append_assoc, append-nil}
use Rattle.std.specs.List.{join_with_byte}
use Rattle.text_lines.specs.Lines.{line}
use Rattle.net_text.specs.Putting.{next_words}

joined : (word : List ℕ) (words : List (List ℕ)) → join_with_byte 32 (word ∷ words) ≡ word ++ next_words words
joined word [] = sym (append-nil word)
joined word (next ∷ words) = ap (λ t. word ++ 32 ∷ t) (joined next words)

-- words put one by one, each behind a space
abbrev puts : List ℕ → List (List ℕ) → List ℕ
puts text [] = text
puts text (word ∷ words) = puts (text ++ (32 ∷ word)) words

puts-words : (text : List ℕ) (words : List (List ℕ)) → puts text words ≡ text ++ next_words words
puts-words text [] = sym (append-nil text)
puts-words text (word ∷ words) = puts-words (text ++ (32 ∷ word)) words ∙ append_assoc text (32 ∷ word) (next_words words)

next_words-append : (words more : List (List ℕ)) → next_words words ++ next_words more ≡ next_words (words ++ more)
next_words-append [] more = refl
next_words-append (word ∷ words) more = ap (λ t. 32 ∷ t) (append_assoc word (next_words words) (next_words more) ∙ ap (λ t. word ++ t) (next_words-append words more))

-- a first word, five put one by one, some more, and the line feed
pub line_put : (text a b c d e f : List ℕ) (more : List (List ℕ))
    → (((((((text ++ a) ++ (32 ∷ b)) ++ (32 ∷ c)) ++ (32 ∷ d)) ++ (32 ∷ e)) ++ (32 ∷ f)) ++ next_words more) ++ 10 ∷ [] ≡ text ++ line (a ∷ b ∷ c ∷ d ∷ e ∷ f ∷ more)
line_put text a b c d e f more =
    let five : List (List ℕ) = b ∷ c ∷ d ∷ e ∷ f ∷ [] in
    let ended : List ℕ → List ℕ = λ t. t ++ 10 ∷ [] in
    ap (λ t. ended (t ++ next_words more)) (puts-words (text ++ a) five)
    ∙ ap ended (append_assoc (text ++ a) (next_words five) (next_words more) ∙ ap (λ t. (text ++ a) ++ t) (next_words-append five more))
    ∙ ap ended (append_assoc text a (next_words (five ++ more)) ∙ ap (λ t. text ++ t) (sym (joined a (five ++ more))))
    ∙ append_assoc text (join_with_byte 32 (a ∷ five ++ more)) (10 ∷ [])
