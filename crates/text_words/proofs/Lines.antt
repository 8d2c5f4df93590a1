-- A line of words reads back as these words.
--     split_joined    words joined by a byte that is in none of them are the parts at it
--     IsWord          some bytes, none of which ends a word
--     IsWord-test     the same by a test, which computes
--     words_of-line   the words of words parted by single spaces
--     lines_of-line   the line, and the lines after it
use Rattle.std.proofs.Common.{◌≡◌, ℕ, Bool, true, false, not, ◌&&◌, ◌||◌, ◌==◌, List, [], ◌∷◌, ◌++◌, length, All, ap, ◌∙◌, refl, arith, append_assoc, take_all}
use Rattle.std.specs.List.{AllByRecursion, before_first, slice_split, filter, join_with_byte, position_or_len, list_all}
use Rattle.std.proofs.lemmas.Bool.{and_parts, or_parts, not-true}
use Rattle.std.proofs.lemmas.List.Elements.{All-nil, All-cons, All-append, All-weaker}
use Rattle.std.proofs.lemmas.List.Splits.{slice_split_at, slice_split_none}
use Rattle.std.proofs.lemmas.List.Sums.{position_or_len_is, AllPass-from_list_all}
use Rattle.text_lines.specs.Lines.{line}
use Rattle.text_words.specs.Words.{lines_of, is_blank, is_word, words_of}

-- a blank, a `#` or a line feed
abbrev pub ends_word : ℕ → Bool
ends_word b = is_blank b || ((b == 35) || (b == 10))

-- some bytes, and none that ends a word
pub record IsWord (word : List ℕ) : Type 0 where
  pub some : is_word word ≡ true
  pub within : All (λ b. ends_word b ≡ false) word

-- the same by a test
pub IsWord-test : (word : List ℕ) → (is_word word && list_all (λ b. not (ends_word b)) word) ≡ true → IsWord word
IsWord-test word h =
    let parts = and_parts (is_word word) _ h in
    record {
      some = parts.0;
      within = All-weaker _ (λ b. ends_word b ≡ false) (λ b. not-true (ends_word b)) word (AllPass-from_list_all _ word parts.1);
    }

-- a byte that ends no word is no blank
no_blank : (b : ℕ) → ends_word b ≡ false → is_blank b ≡ false
no_blank b h = (or_parts (is_blank b) _ h).0

-- and no `#`
no_hash : (b : ℕ) → ends_word b ≡ false → (b == 35) ≡ false
no_hash b h = (or_parts (b == 35) _ (or_parts (is_blank b) _ h).1).0

-- and no line feed
no_feed : (b : ℕ) → ends_word b ≡ false → (b == 10) ≡ false
no_feed b h = (or_parts (b == 35) _ (or_parts (is_blank b) _ h).1).1

-- what holds of a word's bytes
within_word : (P : ℕ → Type 0) (word : List ℕ) → ((b : ℕ) → ends_word b ≡ false → P b) → IsWord word → All P word
within_word P word each ok = All-weaker (λ b. ends_word b ≡ false) P each word ok.within

-- what holds of a word's bytes and of a space holds of each byte of a line
All-joined : (P : ℕ → Type 0) (words : List (List ℕ)) → ((b : ℕ) → ends_word b ≡ false → P b) → P 32
    → AllByRecursion IsWord words → All P (join_with_byte 32 words)
All-joined P [] each space ok = All-nil P
All-joined P (w ∷ []) each space ok = within_word P w each ok.0
All-joined P (w ∷ v ∷ words) each space ok =
    All-append P w (32 ∷ join_with_byte 32 (v ∷ words)) (within_word P w each ok.0)
    (All-cons P 32 (join_with_byte 32 (v ∷ words)) space (All-joined P (v ∷ words) each space ok.1))

-- what stands before the first element that passes is all where none does
before_first-none : (p : ℕ → Bool) (xs : List ℕ) → All (λ x. p x ≡ false) xs → before_first p xs ≡ xs
before_first-none p xs none =
    let all : position_or_len p xs ≡ length xs =
    position_or_len_is p xs (length xs) 0 (omega arith) (λ k inside. none k 0 inside) (λ more. absurd (omega arith))
    in
    take_all (position_or_len p xs) xs (omega arith)

-- words joined by a byte that ends a part, where no word has one, are the parts
pub split_joined : (p : ℕ → Bool) (c : ℕ) (w : List ℕ) (words : List (List ℕ)) → p c ≡ true → AllByRecursion (All (λ b. p b ≡ false)) (w ∷ words)
    → slice_split p (join_with_byte c (w ∷ words)) ≡ w ∷ words
split_joined p c w [] ends none = slice_split_none p w none.0
split_joined p c w (v ∷ words) ends none =
    slice_split_at p w c (join_with_byte c (v ∷ words)) none.0 ends ∙ ap (λ l. w ∷ l) (split_joined p c v words ends none.1)

-- no word has a blank
no_blanks : (words : List (List ℕ)) → AllByRecursion IsWord words → AllByRecursion (All (λ b. is_blank b ≡ false)) words
no_blanks [] ok = ok
no_blanks (w ∷ words) ok = (within_word _ w no_blank ok.0, no_blanks words ok.1)

-- none of them is empty
filter-words : (words : List (List ℕ)) → AllByRecursion IsWord words → filter is_word words ≡ words
filter-words [] ok = refl
filter-words (w ∷ words) ok = simp ok.0.some (ap (λ l. w ∷ l) (filter-words words ok.1))

-- the words of a line are its words
pub words_of-line : (words : List (List ℕ)) → AllByRecursion IsWord words → words_of (join_with_byte 32 words) ≡ words
words_of-line [] ok = refl
words_of-line (w ∷ words) ok =
    ap (λ l. filter is_word (slice_split is_blank l))
    (before_first-none (λ b. b == 35) _ (All-joined (λ b. (b == 35) ≡ false) (w ∷ words) no_hash refl ok))
    ∙ ap (filter is_word) (split_joined is_blank 32 w words refl (no_blanks (w ∷ words) ok))
    ∙ filter-words (w ∷ words) ok

-- the lines of a text that begins with a line of words
pub lines_of-line : (words : List (List ℕ)) (text : List ℕ) → AllByRecursion IsWord words
    → lines_of (line words ++ text) ≡ join_with_byte 32 words ∷ lines_of text
lines_of-line words text ok =
    ap lines_of (append_assoc (join_with_byte 32 words) (10 ∷ []) text)
    ∙ slice_split_at (λ b. b == 10) (join_with_byte 32 words) 10 text (All-joined (λ b. (b == 10) ≡ false) words no_feed refl ok) refl
