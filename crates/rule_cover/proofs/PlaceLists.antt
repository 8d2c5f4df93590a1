-- Lists of places that grow, and tests of places that tell more.
use Rattle.std.specs.Prelude.{◌≡◌, ℕ, ◌+◌, ◌<◌, ◌≤◌, Bool, true, false, cond, ◌||◌, List, [], ◌∷◌, ◌++◌, length, take, nat_eq, slice_index, slice_index_or, slice_get, Contains, Result, Err, MatchResult}
use Rattle.std.specs.List.{list_any}
use Rattle.std.specs.List.Sorted.{IsStrictlyIncreasing, IsBinarySearchResult}
use Rattle.std.specs.Ordering.{nat_cmp}
use Rattle.std.proofs.Common.{refl, sym, ap, ◌∙◌, subst, arith, ⊎_elim}
use Rattle.std.proofs.lemmas.Bool.{cases_lt, cases_eq, cases_order, eq-eqb, ne_eqb, or_right}
use Rattle.std.proofs.lemmas.List.{get_or_default, get_or_append_left, get_or_push, take-append-le, take_at, length_push, length-map, map_push}
use Rattle.std.proofs.lemmas.List.Folds.{list_any-append}
use Rattle.std.proofs.lemmas.List.Kept.{AllPairs-from_increasing}
use Rattle.std.proofs.lemmas.List.Sorted.{searched}
use Rattle.network_model.specs.Table.{Entry}
use Rattle.network_model.specs.Cover.{fresh, rules_at}
use Rattle.rule_cover.specs.Places.{rules_there, ArePlaces, Tells}
use Rattle.rule_cover.proofs.Gains.{fresh_push}

or_false : (b : Bool) → (b || false) ≡ b
or_false true = refl
or_false false = refl

-- one more number
any_push : (xs : List ℕ) (r q : ℕ) → list_any (nat_eq q) (xs ++ r ∷ []) ≡ (list_any (nat_eq q) xs || nat_eq q r)
any_push xs r q = list_any-append (nat_eq q) xs (r ∷ []) ∙ ap (λ (b : Bool). list_any (nat_eq q) xs || b) (or_false (nat_eq q r))

pub any_last : (xs : List ℕ) (r q : ℕ) → q ≡ r → list_any (nat_eq q) (xs ++ r ∷ []) ≡ true
any_last xs r q e = any_push xs r q ∙ or_right (list_any (nat_eq q) xs) (nat_eq q r) (eq-eqb q r e)

pub any_other : (xs : List ℕ) (r q : ℕ) → (q ≡ r → ⊥) → list_any (nat_eq q) (xs ++ r ∷ []) ≡ list_any (nat_eq q) xs
any_other xs r q ne = any_push xs r q ∙ (ap (λ (b : Bool). list_any (nat_eq q) xs || b) (ne_eqb q r ne) ∙ or_false (list_any (nat_eq q) xs))

any_again : (xs : List ℕ) (r : ℕ) → list_any (nat_eq r) xs ≡ true → (q : ℕ) → list_any (nat_eq q) (xs ++ r ∷ []) ≡ list_any (nat_eq q) xs
any_again xs r on q =
    ⊎_elim (λ (e : q ≡ r). any_last xs r q e ∙ sym (subst (λ (k : ℕ). list_any (nat_eq k) xs ≡ true) (sym e) on)) (λ (ne : q ≡ r → ⊥). any_other xs r q ne) (cases_eq q r)

pub no_places : (numbers : List ℕ) → ArePlaces numbers [] []
no_places numbers = record {
  inside = λ i l. absurd (omega arith);
  once = λ i l. absurd (omega arith);
  members = λ r. refl;
  adds = λ known. refl;
}

-- a rule that is on the list
pub places_same : (numbers rules places : List ℕ) (r : ℕ) → ArePlaces numbers rules places → list_any (nat_eq r) (rules_there numbers places) ≡ true → ArePlaces numbers (rules ++ r ∷ []) places
places_same numbers rules places r p on =
    let there : list_any (nat_eq r) rules ≡ true = sym (p.members r) ∙ on in
    record {
      inside = p.inside;
      once = p.once;
      members = λ q. p.members q ∙ sym (any_again rules r there q);
      adds = λ known.
          let before = p.adds known in
          let after = fresh_push known rules r in
          let none : cond {A = ℕ} (list_any (nat_eq r) rules || list_any (nat_eq r) known) 0 1 ≡ 0 = ap (λ (b : Bool). cond {A = ℕ} (b || list_any (nat_eq r) known) 0 1) there in
          omega arith;
    }

once_push : (xs : List ℕ) (r i : ℕ) → i < length (xs ++ r ∷ []) → ((k : ℕ) → k < length xs → list_any (nat_eq (slice_index xs k)) (take k xs) ≡ false) → list_any (nat_eq r) xs ≡ false
    → list_any (nat_eq (slice_index (xs ++ r ∷ []) i)) (take i (xs ++ r ∷ [])) ≡ false
once_push xs r i l h off =
    ⊎_elim (λ (c : i < length xs).
    ap (λ (n : ℕ). list_any (nat_eq n) (take i (xs ++ r ∷ []))) (get_or_append_left xs (r ∷ []) 0 i c)
    ∙ (ap (λ (ys : List ℕ). list_any (nat_eq (slice_index xs i)) ys) (take-append-le i xs (r ∷ []) (omega arith)) ∙ h i c))
    (λ (c : length xs ≤ i). let at : length xs ≡ i = omega (arith, length_push xs r) in
    ap (λ (n : ℕ). list_any (nat_eq n) (take i (xs ++ r ∷ []))) (get_or_push xs r 0 i at)
    ∙ (ap (λ (ys : List ℕ). list_any (nat_eq r) ys) (take_at xs (r ∷ []) i at) ∙ off))
    (cases_lt i (length xs))

-- a rule that is not
pub places_more : (numbers rules places : List ℕ) (place r : ℕ) → ArePlaces numbers rules places → place < length numbers → slice_index numbers place ≡ r → list_any (nat_eq r) (rules_there numbers places) ≡ false
    → ArePlaces numbers (rules ++ r ∷ []) (places ++ place ∷ [])
places_more numbers rules places place r p l e off =
    let there = rules_there numbers places in
    let grown : rules_there numbers (places ++ place ∷ []) ≡ there ++ r ∷ [] = map_push (slice_index numbers) places place ∙ ap (λ (n : ℕ). there ++ n ∷ []) e in
    let size : length there ≡ length places = length-map places (slice_index numbers) in
    record {
      inside = λ i b. ⊎_elim (λ (c : i < length places). subst (λ (q : ℕ). q < length numbers) (sym (get_or_append_left places (place ∷ []) 0 i c)) (p.inside i c))
          (λ (c : length places ≤ i). let at : length places ≡ i = omega (arith, length_push places place) in subst (λ (q : ℕ). q < length numbers) (sym (get_or_push places place 0 i at)) l)
          (cases_lt i (length places));
      once = λ i b. subst (λ (xs : List ℕ). list_any (nat_eq (slice_index xs i)) (take i xs) ≡ false) (sym grown)
          (once_push there r i (omega (arith, length_push there r, length_push places place)) (λ k c. p.once k (omega arith)) off);
      members = λ q. ap (λ (xs : List ℕ). list_any (nat_eq q) xs) grown ∙ (any_push there r q ∙ (ap (λ (b : Bool). b || nat_eq q r) (p.members q) ∙ sym (any_push rules r q)));
      adds = λ known.
          let before = p.adds known in
          let one : cond {A = ℕ} (list_any (nat_eq r) there || list_any (nat_eq r) known) 0 1 ≡ cond {A = ℕ} (list_any (nat_eq r) rules || list_any (nat_eq r) known) 0 1 =
          ap (λ (b : Bool). cond {A = ℕ} (b || list_any (nat_eq r) known) 0 1) (p.members r) in
          let left = fresh_push known there r in
          let right = fresh_push known rules r in
          let whole : fresh known (there ++ r ∷ []) ≡ fresh known (rules ++ r ∷ []) = omega arith in
          ap (λ (xs : List ℕ). fresh known xs) grown ∙ whole;
    }

-- numbers that rise differ
rises_apart : (numbers : List ℕ) → IsStrictlyIncreasing numbers → (p q : ℕ) → p < length numbers → q < length numbers → (p ≡ q → ⊥) → slice_index numbers p ≡ slice_index numbers q → ⊥
rises_apart numbers rises p q l m ne e =
    ⊎_elim (λ s. ne s) (λ apart. ⊎_elim (λ (less : p < q). omega (arith, AllPairs-from_increasing numbers rises p q 0 less m)) (λ (more : q < p). omega (arith, AllPairs-from_increasing numbers rises q p 0 more l)) apart) (cases_order p q)

-- a test that turns true at a place
pub tells_more : (numbers known : List ℕ) (place : ℕ) (old new : ℕ → Bool) → IsStrictlyIncreasing numbers → place < length numbers → new place ≡ true → ((p : ℕ) → (p ≡ place → ⊥) → new p ≡ old p) → Tells numbers known old
    → Tells numbers (known ++ slice_index numbers place ∷ []) new
tells_more numbers known place old new rises l here others told p inside =
    ⊎_elim (λ (e : p ≡ place). ap new e ∙ (here ∙ sym (any_last known (slice_index numbers place) (slice_index numbers p) (ap (slice_index numbers) e))))
    (λ (ne : p ≡ place → ⊥). others p ne ∙ (told p inside ∙ sym (any_other known (slice_index numbers place) (slice_index numbers p) (rises_apart numbers rises p place inside l ne))))
    (cases_eq p place)

-- rules of the same numbers
pub tells_alike : (numbers known more : List ℕ) (test : ℕ → Bool) → ((r : ℕ) → list_any (nat_eq r) known ≡ list_any (nat_eq r) more) → Tells numbers known test → Tells numbers more test
tells_alike numbers known more test same told p inside = told p inside ∙ same (slice_index numbers p)

-- the rules at the places are those of the list
pub joined_alike : (numbers rules places known : List ℕ) → ArePlaces numbers rules places → (r : ℕ) → list_any (nat_eq r) (known ++ rules_there numbers places) ≡ list_any (nat_eq r) (known ++ rules)
joined_alike numbers rules places known p r =
    list_any-append (nat_eq r) known (rules_there numbers places) ∙ (ap (λ (b : Bool). list_any (nat_eq r) known || b) (p.members r) ∙ sym (list_any-append (nat_eq r) known rules))

-- none is told where the numbers at all places are less
pub none_told : (numbers latest : List ℕ) (number : ℕ) → ((p : ℕ) → slice_index latest p < number) → Tells numbers [] (λ p. nat_eq number (slice_index latest p))
none_told numbers latest number below p inside = ne_eqb number (slice_index latest p) (λ e. let less = below p in omega arith)

-- a list adds at most as many as it has
pub adds_most : (known xs : List ℕ) → fresh known xs ≤ length xs
adds_most known [] = omega arith
adds_most known (x ∷ xs) =
    let rest = adds_most (x ∷ known) xs in
    let one = one_at_most (list_any (nat_eq x) known) in
    omega arith
  where
    one_at_most : (b : Bool) → cond {A = ℕ} b 0 1 ≤ 1
    one_at_most true = omega arith
    one_at_most false = omega arith

-- ---- the search for a place
not_falling : (numbers : List ℕ) → IsStrictlyIncreasing numbers → (i j : ℕ) → i ≤ j → j < length numbers → slice_index numbers i ≤ slice_index numbers j
not_falling numbers rises i j l m =
    ⊎_elim (λ (less : i < j). let rise = AllPairs-from_increasing numbers rises i j 0 less m in omega arith)
    (λ (more : j ≤ i). let e : i ≡ j = omega arith in let same = ap (slice_index numbers) e in omega arith) (cases_lt i j)

not_missed : (numbers : List ℕ) (rule i : ℕ) → Contains numbers rule → ((k : ℕ) → k < i → slice_index numbers k < rule) → ((k : ℕ) → i ≤ k → k < length numbers → rule < slice_index numbers k) → ⊥
not_missed numbers rule i c below above =
    let at : slice_index numbers c.0 ≡ rule = get_or_default numbers c.0 0 rule c.1 ∙ c.2 in
    ⊎_elim (λ (l : c.0 < i). let b = below c.0 l in omega arith) (λ (l : i ≤ c.0). let a = above c.0 l c.1 in omega arith) (cases_lt c.0 i)

-- what is there is found
pub is_found : (numbers : List ℕ) (rule : ℕ) (r : Result ℕ ℕ) → IsStrictlyIncreasing numbers → Contains numbers rule → IsBinarySearchResult (λ y. nat_cmp y rule) numbers r → (i : ℕ) → r ≡ Err i → ⊥
is_found numbers rule r rises c position i e =
    let whole = searched numbers rule r position (not_falling numbers rises) in
    let parts = subst (λ (q : Result ℕ ℕ). MatchResult q (λ i. (i < length numbers) × (slice_index numbers i ≡ rule)) (λ i. (i ≤ length numbers) × ((k : ℕ) → k < i → slice_index numbers k < rule) × ((k : ℕ) → i ≤ k → k < length numbers → rule < slice_index numbers k))) e whole in
    not_missed numbers rule i c parts.1 parts.2

-- ---- one more entry
pub lists_more : (numbers : List ℕ) (table : List Entry) (lists : List (List ℕ)) (list : List ℕ) (row : ℕ) → length lists ≡ row → ((k : ℕ) → k < row → ArePlaces numbers (rules_at (slice_get table k)) (slice_index_or lists k []))
    → ArePlaces numbers (rules_at (slice_get table row)) list → (k : ℕ) → k < row + 1 → ArePlaces numbers (rules_at (slice_get table k)) (slice_index_or (lists ++ list ∷ []) k [])
lists_more numbers table lists list row count each added k below =
    ⊎_elim (λ (l : k < row). subst (ArePlaces numbers (rules_at (slice_get table k))) (sym (get_or_append_left lists (list ∷ []) [] k (omega arith))) (each k l))
    (λ (l : row ≤ k).
    let e : row ≡ k = omega arith in
    subst (ArePlaces numbers (rules_at (slice_get table k))) (sym (get_or_push lists list [] k (count ∙ e))) (subst (λ (n : ℕ). ArePlaces numbers (rules_at (slice_get table n)) list) e added))
    (cases_lt k row)
