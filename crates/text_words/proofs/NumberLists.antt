-- Lists of numbers in words.
--     numbers-turn      the numbers so far and one more
--     numbers-stop      a part that says no number
--     numbers-all       no part left
--     numbers-spell     a word says numbers exactly where it is their digits joined by commas
--     numbers-said      the same of what a word is found to say
use Rattle.std.proofs.Common.{◌≡◌, ◌↔◌, ℕ, ◌+◌, ◌<◌, ◌≤◌, ◌^◌, true, false, ◌==◌, List, [], ◌∷◌, ◌++◌, length, map, get_or, drop, Option, Some, None, decimal, All, sym, ap, ◌∙◌, refl, subst, arith, add-one, drop-cons, append_assoc}
use Rattle.std.specs.List.{AllByRecursion, slice_split, join_with_byte}
use Rattle.std.proofs.lemmas.Bool.{and_parts, leb-true, ne_eqb}
use Rattle.std.proofs.lemmas.List.{append-nil, drop_all, length-map}
use Rattle.std.proofs.lemmas.List.Elements.{All-nil, All-cons, All-head, All-tail, All-weaker}
use Rattle.std.proofs.lemmas.List.Splits.{join_with_byte-slice_split, length-slice_split}
use Rattle.std.proofs.lemmas.List.Sums.{AllPass-from_list_all}
use Rattle.text_words.specs.Numbers.{is_digit, number_upto, number_before, numbers_of, numbers_upto, IsNumberIn, AreNumbersIn}
use Rattle.text_words.proofs.Lines.{split_joined}
use Rattle.text_words.proofs.DecimalWords.{digits-decimal, number-decimal, number-spells}

-- numbers before those of more words
abbrev after : List ℕ → Option (List ℕ) → Option (List ℕ)
after found None = None
after found (Some more) = Some (found ++ more)

after-nil : (o : Option (List ℕ)) → after [] o ≡ o
after-nil None = refl
after-nil (Some ns) = refl

-- with the numbers that are left, these are all
abbrev pub Finding : ℕ → List (List ℕ) → ℕ → List ℕ → Type 0
Finding most parts i found = after found (numbers_of most (drop i parts)) ≡ numbers_of most parts

pub Finding-start : (most : ℕ) (parts : List (List ℕ)) → Finding most parts 0 []
Finding-start most parts = after-nil (numbers_of most parts)

after_more : (found : List ℕ) (n : ℕ) (more : Option (List ℕ)) → after found (number_before (Some n) more) ≡ after (found ++ n ∷ []) more
after_more found n None = refl
after_more found n (Some more) = ap Some (sym (append_assoc found (n ∷ []) more))

drop_next : (parts : List (List ℕ)) (i : ℕ) (d : List ℕ) → i < length parts → drop i parts ≡ get_or parts i d ∷ drop (i + 1) parts
drop_next parts i d inside = drop-cons parts i d inside ∙ rw add-one refl

turn : (most : ℕ) (parts : List (List ℕ)) (i : ℕ) (found : List ℕ) (word : List ℕ) (said : Option ℕ) → i < length parts → word ≡ get_or parts i word
    → said ≡ number_upto most word → Finding most parts i found
    → after found (number_before said (numbers_of most (drop (i + 1) parts))) ≡ numbers_of most parts
turn most parts i found word said inside is says had =
    ap (λ o. after found (number_before o (numbers_of most (drop (i + 1) parts)))) (says ∙ ap (number_upto most) is)
    ∙ ap (λ ws. after found (numbers_of most ws)) (sym (drop_next parts i word inside))
    ∙ had

pub numbers-turn : (most : ℕ) (parts : List (List ℕ)) (i : ℕ) (found : List ℕ) (word : List ℕ) (n : ℕ) → i < length parts → word ≡ get_or parts i word
    → Some n ≡ number_upto most word → Finding most parts i found → Finding most parts (i + 1) (found ++ n ∷ [])
numbers-turn most parts i found word n inside is says had =
    sym (after_more found n (numbers_of most (drop (i + 1) parts))) ∙ turn most parts i found word (Some n) inside is says had

pub numbers-stop : (most : ℕ) (parts : List (List ℕ)) (i : ℕ) (found : List ℕ) (word : List ℕ) → i < length parts → word ≡ get_or parts i word
    → None ≡ number_upto most word → Finding most parts i found → None ≡ numbers_of most parts
numbers-stop most parts i found word inside is says had = turn most parts i found word None inside is says had

-- with no part left, they are all
pub numbers-all : (most : ℕ) (parts : List (List ℕ)) (i : ℕ) (found : List ℕ) → length parts ≤ i → Finding most parts i found → Some found ≡ numbers_of most parts
numbers-all most parts i found ended had =
    sym (ap (λ ws. after found (numbers_of most ws)) (drop_all i parts ended) ∙ ap Some (append-nil found)) ∙ had

-- what words say numbers are these numbers' digits
record AreDigits (most : ℕ) (words : List (List ℕ)) (ns : List ℕ) : Type 0 where
  within : All (λ n. n ≤ most) ns
  digits : words ≡ map decimal ns

before_some : (most : ℕ) (word : List ℕ) (words : List (List ℕ)) (said : Option ℕ) (others : Option (List ℕ)) (ns : List ℕ)
    → ((n : ℕ) → said ≡ Some n → IsNumberIn most word n) → ((ms : List ℕ) → others ≡ Some ms → AreDigits most words ms)
    → number_before said others ≡ Some ns → AreDigits most (word ∷ words) ns
before_some most word words None others ns one rest h = absurd cc
before_some most word words (Some n) None ns one rest h = absurd cc
before_some most word words (Some n) (Some ms) ns one rest h =
    let first = one n refl in
    let more = rest ms refl in
    let all : n ∷ ms ≡ ns = cc in
    let here : AreDigits most (word ∷ words) (n ∷ ms) = record {
      within = All-cons (λ n. n ≤ most) n ms first.within more.within;
      digits = ap (λ w. w ∷ words) first.digits ∙ ap (λ ws. decimal n ∷ ws) more.digits;
    } in
    subst (AreDigits most (word ∷ words)) all here

are_digits : (most : ℕ) (words : List (List ℕ)) (ns : List ℕ) → most < 2 ^ 64 → numbers_of most words ≡ Some ns → AreDigits most words ns
are_digits most [] ns narrow h =
    let none : [] ≡ ns = cc in
    subst (AreDigits most []) none (record { within = All-nil (λ n. n ≤ most); digits = refl })
are_digits most (word ∷ words) ns narrow h =
    before_some most word words (number_upto most word) (numbers_of most words) ns
    (λ n says. (number-spells most n word narrow).0 says) (λ ms says. are_digits most words ms narrow says) h

-- no digit is a comma
no_comma : (b : ℕ) → is_digit b ≡ true → (b == 44) ≡ false
no_comma b h = let low : 48 ≤ b = leb-true 48 b (and_parts _ _ h).0 in ne_eqb b 44 (λ e. omega arith)

no_commas : (most : ℕ) (ns : List ℕ) → most < 2 ^ 64 → All (λ n. n ≤ most) ns → AllByRecursion (All (λ b. (b == 44) ≡ false)) (map decimal ns)
no_commas most [] narrow within = tt
no_commas most (n ∷ ns) narrow within =
    let small : n ≤ most = All-head (λ n. n ≤ most) n ns within in (
      All-weaker _ (λ b. (b == 44) ≡ false) no_comma (decimal n) (AllPass-from_list_all is_digit (decimal n) (digits-decimal n (omega arith))),
      no_commas most ns narrow (All-tail (λ n. n ≤ most) n ns within),
    )

numbers_of-decimal : (most : ℕ) (ns : List ℕ) → most < 2 ^ 64 → All (λ n. n ≤ most) ns → numbers_of most (map decimal ns) ≡ Some ns
numbers_of-decimal most [] narrow within = refl
numbers_of-decimal most (n ∷ ns) narrow within =
    ap (λ o. number_before o (numbers_of most (map decimal ns))) (number-decimal most n narrow (All-head (λ n. n ≤ most) n ns within))
    ∙ ap (number_before (Some n)) (numbers_of-decimal most ns narrow (All-tail (λ n. n ≤ most) n ns within))

joined_says : (most : ℕ) (ns : List ℕ) → most < 2 ^ 64 → 1 ≤ length ns → All (λ n. n ≤ most) ns → numbers_upto most (join_with_byte 44 (map decimal ns)) ≡ Some ns
joined_says most [] narrow some within = absurd (omega arith)
joined_says most (n ∷ ns) narrow some within =
    ap (numbers_of most) (split_joined (λ b. b == 44) 44 (decimal n) (map decimal ns) refl (no_commas most (n ∷ ns) narrow within))
    ∙ numbers_of-decimal most (n ∷ ns) narrow within

spells : (most : ℕ) (word : List ℕ) (ns : List ℕ) → most < 2 ^ 64 → numbers_upto most word ≡ Some ns → AreNumbersIn most word ns
spells most word ns narrow h =
    let parts = slice_split (λ b. b == 44) word in
    let are = are_digits most parts ns narrow h in
    record {
      some = omega (arith, length-slice_split (λ b. b == 44) word, ap length are.digits, length-map ns decimal);
      within = are.within;
      digits = sym (join_with_byte-slice_split 44 word) ∙ ap (join_with_byte 44) are.digits;
    }

pub numbers-spell : (most : ℕ) (word : List ℕ) (ns : List ℕ) → most < 2 ^ 64 → (numbers_upto most word ≡ Some ns) ↔ AreNumbersIn most word ns
numbers-spell most word ns narrow = (spells most word ns narrow, λ h. ap (numbers_upto most) h.digits ∙ joined_says most ns narrow h.some h.within)

-- what holds of the numbers that a word is said to have
pub numbers-said : (most : ℕ) (word : List ℕ) (said : Option (List ℕ)) → most < 2 ^ 64 → said ≡ numbers_upto most word
    → (ns : List ℕ) → (said ≡ Some ns) ↔ AreNumbersIn most word ns
numbers-said most word said narrow is ns =
    let law = numbers-spell most word ns narrow in
    (λ h. law.0 (sym is ∙ h), λ h. is ∙ law.1 h)
