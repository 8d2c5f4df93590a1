-- A name and numbers, put one after another.
--     numbers_so_far    the numbers, each behind a space
--     numbers-more      one number more
--     numbers-line      with all of them and a line feed this is the line
use Rattle.std.proofs.Common.{◌≡◌, ℕ, ◌+◌, ◌<◌, List, [], ◌∷◌, ◌++◌, length, map, take, get_or, decimal, sym, ap, ◌∙◌, append_assoc, append-nil}
use Rattle.std.specs.List.{flat_map, join_with_byte}
use Rattle.std.proofs.lemmas.List.{take_more}
use Rattle.text_lines.specs.Lines.{number_line}

abbrev pub numbers_so_far : List ℕ → List ℕ
numbers_so_far ns = flat_map (λ n. 32 ∷ decimal n) ns

joined : (word : List ℕ) (ns : List ℕ) → join_with_byte 32 (word ∷ map decimal ns) ≡ word ++ numbers_so_far ns
joined word [] = sym (append-nil word)
joined word (n ∷ ns) = ap (λ t. word ++ 32 ∷ t) (joined (decimal n) ns)

so_far-push : (ns : List ℕ) (n : ℕ) → numbers_so_far (ns ++ n ∷ []) ≡ numbers_so_far ns ++ (32 ∷ decimal n)
so_far-push [] n = append-nil (32 ∷ decimal n)
so_far-push (m ∷ ns) n = ap (λ t. 32 ∷ (decimal m ++ t)) (so_far-push ns n) ∙ ap (λ t. 32 ∷ t) (sym (append_assoc (decimal m) (numbers_so_far ns) (32 ∷ decimal n)))

pub numbers-more : (text : List ℕ) (ns : List ℕ) (i : ℕ) (d : ℕ) → i < length ns
    → (text ++ numbers_so_far (take i ns)) ++ (32 ∷ decimal (get_or ns i d)) ≡ text ++ numbers_so_far (take (i + 1) ns)
numbers-more text ns i d inside =
    append_assoc text (numbers_so_far (take i ns)) (32 ∷ decimal (get_or ns i d))
    ∙ ap (λ t. text ++ t) (sym (so_far-push (take i ns) (get_or ns i d)))
    ∙ ap (λ xs. text ++ numbers_so_far xs) (sym (take_more ns i d inside))

pub numbers-line : (text name : List ℕ) (ns : List ℕ) → ((text ++ name) ++ numbers_so_far ns) ++ 10 ∷ [] ≡ text ++ number_line name ns
numbers-line text name ns =
    ap (λ t. t ++ 10 ∷ []) (append_assoc text name (numbers_so_far ns) ∙ ap (λ t. text ++ t) (sym (joined name ns)))
    ∙ append_assoc text (join_with_byte 32 (name ∷ map decimal ns)) (10 ∷ [])
