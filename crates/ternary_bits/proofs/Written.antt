-- What is written as letters reads back as what it was.
use Rattle.std.proofs.Common.{◌≡◌, ℕ, suc, ◌+◌, ◌<◌, ◌≤◌, ◌^◌, ◌==◌, Bool, true, false, ◌&&◌, List, [], ◌∷◌, map, length, All, decimal, Some, None, inl, inr, refl, sym, ap, subst, ◌∙◌, leb, arith}
use Rattle.std.specs.List.{AllByRecursion}
use Rattle.std.proofs.lemmas.Bool.{le-leb, leb-true, cond-true, cond-false, cases_Bool, cases_eq, eqb-true, eq-eqb, ne_eqb, and_parts}
use Rattle.std.proofs.lemmas.List.{length-map}
use Rattle.std.proofs.lemmas.List.Elements.{All-nil, All-cons, All-head, All-tail, All-weaker}
use Rattle.std.proofs.lemmas.List.Sums.{AllPass-from_list_all}
use Rattle.text_words.specs.Numbers.{is_digit}
use Rattle.text_words.proofs.DecimalWords.{digits-decimal, number-decimal}
use Rattle.text_words.proofs.Lines.{split_joined}
use Rattle.network_model.specs.Bits.{Header, Letter, Bit, Any, Pattern}
use Rattle.network_model.specs.Rewrites.{Item, Set, Old, Rewrite, LiesWithin, AreWithin}
use Rattle.ternary_bits.specs.Letters.{onto, has_width, bit_letter, header_letter, header_letters, header_word, header_text, pattern_letter, pattern_letters, pattern_word, pattern_text, letter_of, rewrite_letters, item_letter, letters_text}
use Rattle.ternary_bits.specs.Moves.{comma, old_bit, moving_item, moving_items, joined_items, begins_with_at, letters_or_moves, stays, item_text, item_texts, moving_text, rewrite_text}
use Rattle.ternary_bits.specs.Words.{rewrite_of, AreRewrite}
use Rattle.ternary_bits.proofs.Rewriting.{length-rewrite_of, rewrite_within}

header_letter-written : (bit : Bool) → header_letter (bit_letter bit) ≡ Some bit
header_letter-written true = refl
header_letter-written false = refl

header_letters-written : (h : Header) → header_letters (header_text h) ≡ Some h
header_letters-written [] = refl
header_letters-written (b ∷ h) = ap (λ first. onto first (header_letters (header_text h))) (header_letter-written b) ∙ ap (onto (Some b)) (header_letters-written h)

pattern_letter-written : (letter : Letter) → pattern_letter (letter_of letter) ≡ Some letter
pattern_letter-written (Bit true) = refl
pattern_letter-written (Bit false) = refl
pattern_letter-written Any = refl

pattern_letters-written : (p : Pattern) → pattern_letters (pattern_text p) ≡ Some p
pattern_letters-written [] = refl
pattern_letters-written (l ∷ p) = ap (λ first. onto first (pattern_letters (pattern_text p))) (pattern_letter-written l) ∙ ap (onto (Some l)) (pattern_letters-written p)

letters-written : (place : ℕ) (r : Rewrite) → stays place r ≡ true → rewrite_letters place (letters_text r) ≡ Some r
letters-written place [] still = refl
letters-written place (Set true ∷ r) still = ap (onto (Some (Set true))) (letters-written (place + 1) r still)
letters-written place (Set false ∷ r) still = ap (onto (Some (Set false))) (letters-written (place + 1) r still)
letters-written place (Old old ∷ r) still =
    let parts = and_parts (old == place) (stays (place + 1) r) still in
    ap (onto (Some (Old place))) (letters-written (place + 1) r parts.1) ∙ ap (λ k. Some (Old k ∷ r)) (sym (eqb-true old place parts.0))

has_width-mapped : {A : Type 0} (f : A → ℕ) (xs : List A) → 1 ≤ length xs → length xs ≤ 128 → has_width (map f xs) ≡ true
has_width-mapped f xs low high =
    ap (λ n. leb 1 n && leb n 128) (length-map xs f)
    ∙ ap (λ b. b && leb (length xs) 128) (le-leb 1 (length xs) low)
    ∙ le-leb (length xs) 128 high

pub header_word-written : (h : Header) (text : List ℕ) → 1 ≤ length h → length h ≤ 128 → text ≡ header_text h → header_word text ≡ Some h
header_word-written h text low high is =
    ap header_word is ∙ cond-true (has_width (header_text h)) _ None (has_width-mapped bit_letter h low high) ∙ header_letters-written h

pub pattern_word-written : (p : Pattern) (text : List ℕ) → 1 ≤ length p → length p ≤ 128 → text ≡ pattern_text p → pattern_word text ≡ Some p
pattern_word-written p text low high is =
    ap pattern_word is ∙ cond-true (has_width (pattern_text p)) _ None (has_width-mapped letter_of p low high) ∙ pattern_letters-written p

no_at : (r : Rewrite) → begins_with_at (letters_text r) ≡ false
no_at [] = refl
no_at (Set true ∷ r) = refl
no_at (Set false ∷ r) = refl
no_at (Old old ∷ r) = refl

letters_word-written : (r : Rewrite) → stays 1 r ≡ true → 1 ≤ length r → length r ≤ 128 → letters_or_moves (letters_text r) ≡ Some r
letters_word-written r still low high =
    cond-false _ _ _ (no_at r) ∙ cond-true (has_width (letters_text r)) _ None (has_width-mapped item_letter r low high) ∙ letters-written 1 r still

-- ---- moving words

old_bit-some : (place : ℕ) → 1 ≤ place → old_bit (Some place) ≡ Some (Old place)
old_bit-some place low = cond-false _ _ _ (ne_eqb place 0 (λ none. omega arith))

item-written : (count place : ℕ) (it : Item) → count ≤ 128 → LiesWithin count it → moving_item count place (item_text place it) ≡ Some it
item-written count place (Set true) small within = refl
item-written count place (Set false) small within = refl
item-written count place (Old old) small within =
    elim (cases_eq old place) [
      | inl own ↦ ap (moving_item count place) (cond-true _ _ _ (eq-eqb old place own)) ∙ ap (λ k. Some (Old k)) (sym own)
      | inr other ↦
          ap (moving_item count place) (cond-false _ _ _ (ne_eqb old place other))
          ∙ ap old_bit (number-decimal count old (omega arith) within.1)
          ∙ old_bit-some old within.0
    ]

items-written : (count place : ℕ) (r : Rewrite) → count ≤ 128 → AreWithin count r → moving_items count place (item_texts place r) ≡ Some r
items-written count place [] small within = refl
items-written count place (it ∷ r) small within =
    ap (λ first. onto first (moving_items count (place + 1) (item_texts (place + 1) r))) (item-written count place it small (All-head (LiesWithin count) it r within))
    ∙ ap (onto (Some it)) (items-written count (place + 1) r small (All-tail (LiesWithin count) it r within))

length-item_texts : (place : ℕ) (r : Rewrite) → length (item_texts place r) ≡ length r
length-item_texts place [] = refl
length-item_texts place (it ∷ r) = ap suc (length-item_texts (place + 1) r)

-- no item has a comma in it
no_comma : (b : ℕ) → is_digit b ≡ true → comma b ≡ false
no_comma b digit = let low : 48 ≤ b = leb-true 48 b (and_parts _ _ digit).0 in ne_eqb b 44 (λ e. omega arith)

digits_without : (n : ℕ) → n < 2 ^ 64 → All (λ b. comma b ≡ false) (decimal n)
digits_without n small = All-weaker _ (λ b. comma b ≡ false) no_comma (decimal n) (AllPass-from_list_all is_digit (decimal n) (digits-decimal n small))

item_without : (count place : ℕ) (it : Item) → count ≤ 128 → LiesWithin count it → All (λ b. comma b ≡ false) (item_text place it)
item_without count place (Set true) small within = All-cons (λ b. comma b ≡ false) 49 [] refl (All-nil (λ b. comma b ≡ false))
item_without count place (Set false) small within = All-cons (λ b. comma b ≡ false) 48 [] refl (All-nil (λ b. comma b ≡ false))
item_without count place (Old old) small within =
    let P : List ℕ → Type 0 = All (λ b. comma b ≡ false) in
    elim (cases_eq old place) [
      | inl own ↦ subst P (sym (cond-true _ _ _ (eq-eqb old place own))) (All-cons (λ b. comma b ≡ false) 45 [] refl (All-nil (λ b. comma b ≡ false)))
      | inr other ↦
          let high = within.1 in
          subst P (sym (cond-false _ _ _ (ne_eqb old place other))) (All-cons (λ b. comma b ≡ false) 98 (decimal old) refl (digits_without old (omega arith)))
    ]

items_without : (count place : ℕ) (r : Rewrite) → count ≤ 128 → AreWithin count r → AllByRecursion (All (λ b. comma b ≡ false)) (item_texts place r)
items_without count place [] small within = tt
items_without count place (it ∷ r) small within = (
  item_without count place it small (All-head (LiesWithin count) it r within),
  items_without count (place + 1) r small (All-tail (LiesWithin count) it r within),
)

moving_word-written : (r : Rewrite) → 1 ≤ length r → length r ≤ 128 → AreWithin (length r) r → letters_or_moves (moving_text r) ≡ Some r
moving_word-written [] low high within = absurd (omega arith)
moving_word-written (it ∷ r) low high within =
    let count : ℕ = length (it ∷ r) in
    let words : List (List ℕ) = item_texts 1 (it ∷ r) in
    let width : length words ≡ count = length-item_texts 1 (it ∷ r) in
    ap joined_items (split_joined comma 44 (item_text 1 it) (item_texts 2 r) refl (items_without count 1 (it ∷ r) high within))
    ∙ cond-true (leb (length words) 128) _ None (le-leb (length words) 128 (omega arith))
    ∙ ap (λ n. moving_items n 1 words) width
    ∙ items-written count 1 (it ∷ r) high within

-- either word
pub rewrite-written : (r : Rewrite) → 1 ≤ length r → length r ≤ 128 → AreWithin (length r) r → letters_or_moves (rewrite_text r) ≡ Some r
rewrite-written r low high within =
    elim (cases_Bool (stays 1 r)) [
      | inr moves ↦ ap letters_or_moves (cond-false _ _ _ moves) ∙ moving_word-written r low high within
      | inl still ↦ ap letters_or_moves (cond-true _ _ _ still) ∙ letters_word-written r still low high
    ]

pub rewrite_back : (w s v m : ℕ) (from : List ℕ) (r : Rewrite) → AreRewrite w s v m from → rewrite_of w s v from ≡ r → letters_or_moves (rewrite_text r) ≡ Some r
rewrite_back w s v m from r ok view =
    let width : length r ≡ w = length-rewrite_of w s v from r view in
    let low = ok.low in
    let high = ok.high in
    rewrite-written r (omega arith) (omega arith) (subst (λ n. AreWithin n r) (sym width) (rewrite_within w s v m from r ok view))
