-- The word at a place of a line.
use Rattle.std.proofs.Common.{◌≡◌, ℕ, zero, suc, ◌+◌, ◌<◌, ◌≤◌, Bool, true, false, cond, List, [], ◌∷◌, ◌++◌, length, get_or, take, Some, None, refl, sym, ap, ◌∙◌, arith, Bor}
use Rattle.std.specs.List.{filter, slice_get}
use Rattle.std.proofs.lemmas.List.{length-append, length_push, take_all}
use Rattle.std.proofs.lemmas.List.Elements.{filter_more}
use Rattle.std.proofs.lemmas.Option.{slice_get_past}
use Rattle.text_words.specs.Words.{is_word}
use Rattle.text_words.proofs.FirstWords.{IsPart}

-- how many words there are before a part
abbrev pub words_before : List (List ℕ) → ℕ → ℕ
words_before parts n = length (filter is_word (take n parts))

empty_part : (w : List ℕ) → length w ≡ 0 → is_word w ≡ false
empty_part [] e = refl
empty_part (b ∷ bs) e = absurd (omega arith)

word_part : (w : List ℕ) → 0 < length w → is_word w ≡ true
word_part [] l = absurd (omega arith)
word_part (b ∷ bs) l = refl

-- a part that is a word stands behind those before it
pub word_at : (parts : List (List ℕ)) (n : ℕ) (d : List ℕ) → n < length parts → 0 < length (get_or parts n d)
    → slice_get (filter is_word parts) (words_before parts n) ≡ Some (get_or parts n d)
word_at [] n d inside word = absurd (omega arith)
word_at (p ∷ ps) zero d inside word = ap (λ b. slice_get (cond b (p ∷ filter is_word ps) (filter is_word ps)) 0) (word_part p word)
word_at (p ∷ ps) (suc n) d inside word = by_part (is_word p) (word_at ps n d (omega arith) word)
  where
    by_part : (b : Bool) → slice_get (filter is_word ps) (words_before ps n) ≡ Some (get_or ps n d)
        → slice_get (cond b (p ∷ filter is_word ps) (filter is_word ps)) (length (cond b (p ∷ filter is_word (take n ps)) (filter is_word (take n ps)))) ≡ Some (get_or ps n d)
    by_part true later = later
    by_part false later = later

count_more : (parts : List (List ℕ)) (n : ℕ) (d : List ℕ) (own : Bool) → n < length parts → is_word (get_or parts n d) ≡ own
    → words_before parts (n + 1) ≡ words_before parts n + length (cond own (get_or parts n d ∷ []) [])
count_more parts n d own inside is =
    ap length (filter_more is_word parts n d inside ∙ ap (λ t. filter is_word (take n parts) ++ cond t (get_or parts n d ∷ []) []) is)
    ∙ length-append (filter is_word (take n parts)) (cond own (get_or parts n d ∷ []) [])

-- one word more
pub one_word_more : (parts : List (List ℕ)) (yielded : List (Bor (List ℕ))) (part : Bor (List ℕ)) (before : ℕ) → IsPart parts (length yielded) part
    → before ≡ words_before parts (length yielded) → 0 < length part.now → before + 1 ≡ words_before parts (length (yielded ++ part ∷ []))
one_word_more parts yielded part before at had word =
    let own : is_word (get_or parts (length yielded) part.now) ≡ true = ap is_word (sym at.1) ∙ word_part part.now word in
    ap (λ n. n + 1) had ∙ sym (count_more parts (length yielded) part.now true at.0 own) ∙ ap (words_before parts) (sym (length_push yielded part))

-- an empty part more
pub no_word_more : (parts : List (List ℕ)) (yielded : List (Bor (List ℕ))) (part : Bor (List ℕ)) (before : ℕ) → IsPart parts (length yielded) part
    → before ≡ words_before parts (length yielded) → length part.now ≡ 0 → before ≡ words_before parts (length (yielded ++ part ∷ []))
no_word_more parts yielded part before at had empty =
    let own : is_word (get_or parts (length yielded) part.now) ≡ false = ap is_word (sym at.1) ∙ empty_part part.now empty in
    let same : words_before parts (length yielded + 1) ≡ words_before parts (length yielded) = omega (arith, count_more parts (length yielded) part.now false at.0 own) in
    had ∙ sym same ∙ ap (words_before parts) (sym (length_push yielded part))

pub found_word : (parts : List (List ℕ)) (yielded : List (Bor (List ℕ))) (part : Bor (List ℕ)) (before : ℕ) → IsPart parts (length yielded) part
    → before ≡ words_before parts (length yielded) → 0 < length part.now → Some part.now ≡ slice_get (filter is_word parts) before
found_word parts yielded part before at had word =
    let here : 0 < length (get_or parts (length yielded) part.now) = omega (arith, ap length at.1) in
    ap (λ w. Some w) at.1 ∙ sym (word_at parts (length yielded) part.now at.0 here) ∙ ap (slice_get (filter is_word parts)) (sym had)

-- fewer words than that
pub no_such_word : (parts : List (List ℕ)) (n before place : ℕ) → length parts ≤ n → before ≡ words_before parts n → before ≤ place
    → None ≡ slice_get (filter is_word parts) place
no_such_word parts n before place all had few =
    let count : words_before parts n ≡ length (filter is_word parts) = ap (λ ps. length (filter is_word ps)) (take_all n parts all) in
    sym (slice_get_past (filter is_word parts) place (omega arith))
