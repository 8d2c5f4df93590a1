-- The first words of a line, up to some number of them.
use Rattle.std.proofs.Common.{◌≡◌, ℕ, ◌+◌, ◌<◌, Bool, true, false, cond, List, [], ◌∷◌, ◌++◌, length, map, get_or, take, drop, Bor, sym, ap, ◌∙◌, refl, subst, arith, inl, inr}
use Rattle.std.specs.List.{filter}
use Rattle.std.proofs.lemmas.List.{take_all, take-append-le, take-append-drop, append-nil, map-append, length-append, length-take, length-take-le, length-map, length_push}
use Rattle.std.proofs.lemmas.Bool.{cases_lt}
use Rattle.std.proofs.lemmas.List.Elements.{filter_more, filter-append}
use Rattle.text_words.specs.Words.{is_word}

abbrev pub first_words : ℕ → List (List ℕ) → List (List ℕ)
first_words most parts = take most (filter is_word parts)

no_word-length : (w : List ℕ) → length w ≡ 0 → is_word w ≡ false
no_word-length [] h = refl
no_word-length (b ∷ bs) h = absurd (omega arith)

word-length : (w : List ℕ) → 0 < length w → is_word w ≡ true
word-length [] h = absurd (omega arith)
word-length (b ∷ bs) h = refl

filter_at : (parts : List (List ℕ)) (n : ℕ) (d : List ℕ) (own : Bool) → n < length parts → is_word (get_or parts n d) ≡ own
    → filter is_word (take (n + 1) parts) ≡ filter is_word (take n parts) ++ cond own (get_or parts n d ∷ []) []
filter_at parts n d own inside h = filter_more is_word parts n d inside ∙ ap (λ t. filter is_word (take n parts) ++ cond t (get_or parts n d ∷ []) []) h

pub first_words_blank : (most : ℕ) (parts : List (List ℕ)) (n : ℕ) (d : List ℕ) → n < length parts → length (get_or parts n d) ≡ 0 → first_words most (take (n + 1) parts) ≡ first_words most (take n parts)
first_words_blank most parts n d inside empty =
    ap (take most) (filter_at parts n d false inside (no_word-length (get_or parts n d) empty) ∙ append-nil (filter is_word (take n parts)))

-- there is room for one more, so all so far are there
short : (most : ℕ) (xs : List (List ℕ)) → length (take most xs) < most → length xs < most
short most xs h = omega (arith, length-take most xs)

pub first_words_more : (most : ℕ) (parts : List (List ℕ)) (n : ℕ) (d : List ℕ) → n < length parts → 0 < length (get_or parts n d) → length (first_words most (take n parts)) < most
    → first_words most (take (n + 1) parts) ≡ first_words most (take n parts) ++ get_or parts n d ∷ []
first_words_more most parts n d inside word room =
    let had = filter is_word (take n parts) in
    let w = get_or parts n d in
    let few : length had < most = short most had room in
    ap (take most) (filter_at parts n d true inside (word-length w word))
    ∙ take_all most (had ++ w ∷ []) (omega (arith, length-append had (w ∷ [])))
    ∙ ap (λ ws. ws ++ w ∷ []) (sym (take_all most had (omega arith)))

abbrev Words : Type 0
Words = List (Bor (List ℕ))

abbrev texts : Words → List (List ℕ)
texts ws = map (λ w. w.now) ws

-- the part at a place of all parts
abbrev pub IsPart : List (List ℕ) → ℕ → Bor (List ℕ) → Type 0
IsPart parts n part = (n < length parts) × (part.now ≡ get_or parts n part.now)

-- after so many parts and a further one, that is a word
pub words_pushed : (most : ℕ) (parts : List (List ℕ)) (yielded old new : Words) (part : Bor (List ℕ)) → IsPart parts (length yielded) part
    → texts old ≡ first_words most (take (length yielded) parts) → 0 < length part.now → (length old ≡ most → ⊥) → new ≡ old ++ part ∷ []
    → texts new ≡ first_words most (take (length (yielded ++ part ∷ [])) parts)
words_pushed most parts yielded old new part at had word room more =
    let n = length yielded in
    let size : length old ≡ length (first_words most (take n parts)) = sym (length-map old (λ w. w.now)) ∙ ap length had in
    let few : length (first_words most (take n parts)) < most = omega (arith, length-take most (filter is_word (take n parts))) in
    let own = at.1 in
    ap texts more ∙ map-append (λ w. w.now) old (part ∷ [])
    ∙ ap (λ ws. ws ++ part.now ∷ []) had
    ∙ ap (λ w. first_words most (take n parts) ++ w ∷ []) own
    ∙ sym (first_words_more most parts n part.now at.0 (subst (λ w. 0 < length w) own word) few)
    ∙ ap (λ k. first_words most (take k parts)) (sym (length_push yielded part))

-- and one that is empty
pub words_kept : (most : ℕ) (parts : List (List ℕ)) (yielded old : Words) (part : Bor (List ℕ)) → IsPart parts (length yielded) part
    → texts old ≡ first_words most (take (length yielded) parts) → length part.now ≡ 0
    → texts old ≡ first_words most (take (length (yielded ++ part ∷ [])) parts)
words_kept most parts yielded old part at had empty =
    had ∙ sym (first_words_blank most parts (length yielded) part.now at.0 (ap length (sym at.1) ∙ empty))
    ∙ ap (λ k. first_words most (take k parts)) (sym (length_push yielded part))

-- with as many as that, the later ones don't matter
pub first_words_enough : (most : ℕ) (parts : List (List ℕ)) (n : ℕ) → length (first_words most (take n parts)) ≡ most → first_words most parts ≡ first_words most (take n parts)
first_words_enough most parts n full =
    let had = filter is_word (take n parts) in
    let more = filter is_word (drop n parts) in
    ap (λ ps. first_words most ps) (sym (take-append-drop n parts))
    ∙ ap (take most) (filter-append is_word (take n parts) (drop n parts))
    ∙ take-append-le most had more (omega (arith, length-take most had))

pub words_full : (most : ℕ) (parts : List (List ℕ)) (n : ℕ) (old : Words) → texts old ≡ first_words most (take n parts) → length old ≡ most → texts old ≡ first_words most parts
words_full most parts n old had full =
    had ∙ sym (first_words_enough most parts n (ap length (sym had) ∙ length-map old (λ w. w.now) ∙ full))

-- as many of some words as there are among the first ones, when more may follow
take_front : (most : ℕ) (had more : List (List ℕ)) → take most had ≡ take (length (take most had)) (had ++ more)
take_front most had more =
    let some : take (length (take most had)) (had ++ more) ≡ take (length (take most had)) had =
    take-append-le (length (take most had)) had more (omega (arith, length-take most had)) in
    elim (cases_lt most (length had)) [
      | inl few ↦ sym (some ∙ ap (λ n. take n had) (length-take-le most had (omega arith)))
      | inr all ↦ take_all most had (omega arith) ∙ sym (some ∙ take_all (length (take most had)) had (omega (arith, length-take most had)))
    ]

-- the words so far are the first ones of the line, some number of them
pub words_cut : (most : ℕ) (parts : List (List ℕ)) (n : ℕ) (old : Words) → texts old ≡ first_words most (take n parts) → texts old ≡ take (length old) (filter is_word parts)
words_cut most parts n old had =
    let front = filter is_word (take n parts) in
    let more = filter is_word (drop n parts) in
    let size : length old ≡ length (take most front) = sym (length-map old (λ w. w.now)) ∙ ap length had in
    had ∙ take_front most front more ∙ ap (λ k. take k (front ++ more)) (sym size)
    ∙ ap (take (length old)) (sym (filter-append is_word (take n parts) (drop n parts)) ∙ ap (filter is_word) (take-append-drop n parts))
