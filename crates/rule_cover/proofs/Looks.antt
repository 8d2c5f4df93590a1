-- A look at an entry's places: what is counted, and what is covered, up to one place more.
use Rattle.std.specs.Prelude.{◌≡◌, ℕ, ◌+◌, ◌<◌, Bool, true, false, ◌||◌, List, [], ◌∷◌, ◌++◌, length, take, not, nat_eq, slice_index, slice_index_or, slice_set}
use Rattle.std.specs.List.{list_any}
use Rattle.std.specs.List.Sorted.{IsStrictlyIncreasing}
use Rattle.std.proofs.Common.{sym, ap, ◌∙◌, subst, arith, append_assoc}
use Rattle.std.proofs.lemmas.Bool.{or_right}
use Rattle.std.proofs.lemmas.List.{length-map, get_or-map, get_or_default, get_or-set_same, get_or-set_other, take_more, map_push}
use Rattle.network_model.specs.Cover.{fresh}
use Rattle.rule_cover.specs.Places.{rules_there, ArePlaces, Tells}
use Rattle.rule_cover.proofs.Gains.{fresh_new, fresh_old}
use Rattle.rule_cover.proofs.PlaceLists.{places_same, places_more, tells_more}

rule_at : (numbers places : List ℕ) (i : ℕ) → i < length places → slice_index (rules_there numbers places) i ≡ slice_index numbers (slice_index places i)
rule_at numbers places i l = get_or-map (slice_index numbers) places i 0 0 l

rule_here : (numbers places : List ℕ) (i : ℕ) → i < length places → let r = slice_index numbers (slice_index places i) in r ≡ slice_index_or (rules_there numbers places) i r
rule_here numbers places i l =
    let r = slice_index numbers (slice_index places i) in
    let size : i < length (rules_there numbers places) = omega (arith, length-map places (slice_index numbers)) in
    sym (rule_at numbers places i l) ∙ get_or_default (rules_there numbers places) i 0 r size

not_before : (numbers rules places : List ℕ) (i : ℕ) → ArePlaces numbers rules places → i < length places → list_any (nat_eq (slice_index numbers (slice_index places i))) (take i (rules_there numbers places)) ≡ false
not_before numbers rules places i p l = subst (λ (n : ℕ). list_any (nat_eq n) (take i (rules_there numbers places)) ≡ false) (rule_at numbers places i l) (p.once i l)

-- a rule that is not covered counts
pub counts_open : (numbers rules places known : List ℕ) (test : ℕ → Bool) (i : ℕ) → ArePlaces numbers rules places → Tells numbers known test → i < length places → test (slice_index places i) ≡ false
    → fresh known (take (i + 1) (rules_there numbers places)) ≡ fresh known (take i (rules_there numbers places)) + 1
counts_open numbers rules places known test i p told l open_ =
    let there = rules_there numbers places in
    let r = slice_index numbers (slice_index places i) in
    let unseen : list_any (nat_eq r) known ≡ false = sym (told (slice_index places i) (p.inside i l)) ∙ open_ in
    let size : i < length there = omega (arith, length-map places (slice_index numbers)) in
    fresh_new known there i r size (rule_here numbers places i l)
    (ap (λ (b : Bool). not (b || list_any (nat_eq r) known)) (not_before numbers rules places i p l) ∙ ap not unseen)

-- one that is does not
pub counts_covered : (numbers rules places known : List ℕ) (test : ℕ → Bool) (i : ℕ) → ArePlaces numbers rules places → Tells numbers known test → i < length places → test (slice_index places i) ≡ true
    → fresh known (take (i + 1) (rules_there numbers places)) ≡ fresh known (take i (rules_there numbers places))
counts_covered numbers rules places known test i p told l covered =
    let there = rules_there numbers places in
    let r = slice_index numbers (slice_index places i) in
    let seen : list_any (nat_eq r) known ≡ true = sym (told (slice_index places i) (p.inside i l)) ∙ covered in
    let size : i < length there = omega (arith, length-map places (slice_index numbers)) in
    fresh_old known there i r size (rule_here numbers places i l) (ap not (or_right (list_any (nat_eq r) (take i there)) (list_any (nat_eq r) known) seen))

-- one more place is covered
pub covers_next : (numbers rules places known : List ℕ) (covered : List Bool) (i : ℕ) → IsStrictlyIncreasing numbers → ArePlaces numbers rules places → i < length places → slice_index places i < length covered
    → Tells numbers (known ++ take i (rules_there numbers places)) (λ p. slice_index_or covered p false)
    → Tells numbers (known ++ take (i + 1) (rules_there numbers places)) (λ p. slice_index_or (slice_set covered (slice_index places i) true) p false)
covers_next numbers rules places known covered i rises p l within told =
    let there = rules_there numbers places in
    let place = slice_index places i in
    let size : i < length there = omega (arith, length-map places (slice_index numbers)) in
    let more : take (i + 1) there ≡ take i there ++ slice_index numbers place ∷ [] = take_more there i 0 size ∙ ap (λ (n : ℕ). take i there ++ n ∷ []) (rule_at numbers places i l) in
    let grown : (known ++ take i there) ++ slice_index numbers place ∷ [] ≡ known ++ take (i + 1) there = append_assoc known (take i there) (slice_index numbers place ∷ []) ∙ sym (ap (λ (xs : List ℕ). known ++ xs) more) in
    subst (λ (xs : List ℕ). Tells numbers xs (λ p. slice_index_or (slice_set covered place true) p false)) grown
    (tells_more numbers (known ++ take i there) place (λ p. slice_index_or covered p false) (λ p. slice_index_or (slice_set covered place true) p false) rises (p.inside i l)
    (get_or-set_same covered place true false within) (λ q ne. get_or-set_other covered place q true false ne) told)

-- ---- what is listed
-- a rule whose place has the number of this list is on it
pub listed_same : (numbers rules places latest : List ℕ) (number place r : ℕ) → ArePlaces numbers rules places → Tells numbers (rules_there numbers places) (λ p. nat_eq number (slice_index latest p)) → place < length numbers
    → slice_index numbers place ≡ r → nat_eq number (slice_index latest place) ≡ true → ArePlaces numbers (rules ++ r ∷ []) places
listed_same numbers rules places latest number place r p told l e on =
    places_same numbers rules places r p (subst (λ (n : ℕ). list_any (nat_eq n) (rules_there numbers places) ≡ true) e (sym (told place l) ∙ on))

-- any other is added
pub listed_more : (numbers rules places latest : List ℕ) (number place r : ℕ) → ArePlaces numbers rules places → Tells numbers (rules_there numbers places) (λ p. nat_eq number (slice_index latest p)) → place < length numbers
    → slice_index numbers place ≡ r → nat_eq number (slice_index latest place) ≡ false → ArePlaces numbers (rules ++ r ∷ []) (places ++ place ∷ [])
listed_more numbers rules places latest number place r p told l e off =
    places_more numbers rules places place r p l e (subst (λ (n : ℕ). list_any (nat_eq n) (rules_there numbers places) ≡ false) e (sym (told place l) ∙ off))

pub told_more : (numbers places latest : List ℕ) (number place : ℕ) → IsStrictlyIncreasing numbers → place < length numbers → place < length latest → nat_eq number number ≡ true
    → Tells numbers (rules_there numbers places) (λ p. nat_eq number (slice_index latest p))
    → Tells numbers (rules_there numbers (places ++ place ∷ [])) (λ p. nat_eq number (slice_index (slice_set latest place number) p))
told_more numbers places latest number place rises l m same told =
    subst (λ (xs : List ℕ). Tells numbers xs (λ p. nat_eq number (slice_index (slice_set latest place number) p))) (sym (map_push (slice_index numbers) places place))
    (tells_more numbers (rules_there numbers places) place (λ p. nat_eq number (slice_index latest p)) (λ p. nat_eq number (slice_index (slice_set latest place number) p)) rises l
    (ap (nat_eq number) (get_or-set_same latest place number 0 m) ∙ same) (λ q ne. ap (nat_eq number) (get_or-set_other latest place q number 0 ne)) told)
