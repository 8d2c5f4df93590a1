-- Marks of rules at their places.
use Rattle.std.specs.Prelude.{◌≡◌, ◌⊎◌, ℕ, ◌+◌, ◌<◌, Bool, true, false, ◌||◌, List, [], ◌∷◌, ◌++◌, length, take, nat_eq, slice_index, slice_index_or, slice_set, Contains}
use Rattle.std.specs.List.Sorted.{IsStrictlyIncreasing}
use Rattle.std.proofs.Common.{refl, sym, ap, ◌∙◌, subst, ⊎_elim, arith}
use Rattle.std.proofs.lemmas.Bool.{cases_eq, cases_order, eq-eqb, ne_eqb, or_left, or_right}
use Rattle.std.proofs.lemmas.List.{get_or_read, get_or-set_same, get_or-set_other, take_more}
use Rattle.std.proofs.lemmas.List.Folds.{list_any-append}
use Rattle.std.proofs.lemmas.List.Kept.{AllPairs-from_increasing}
use Rattle.fault_model.specs.Outcomes.{has}
use Rattle.suspect_book.specs.Marked.{Tells}

-- each element of the rules is one of the numbers
pub item_among : (numbers rules : List ℕ) (i r : ℕ) → ((k : ℕ) → k < length rules → Contains numbers (slice_index rules k)) → i < length rules → r ≡ slice_index_or rules i r
    → Contains numbers r
item_among numbers rules i r among l is = subst (Contains numbers) (sym (get_or_read rules i r l is 0)) (among i l)

-- one more element
pub item_taken : (rules : List ℕ) (i r : ℕ) → i < length rules → r ≡ slice_index_or rules i r → take (i + 1) rules ≡ take i rules ++ r ∷ []
item_taken rules i r l is = take_more rules i r l ∙ ap (λ (q : ℕ). take i rules ++ q ∷ []) (sym is)

-- different places have different numbers
pub apart : (numbers : List ℕ) → IsStrictlyIncreasing numbers → (p q : ℕ) → p < length numbers → q < length numbers → (p ≡ q → ⊥) → slice_index numbers p ≡ slice_index numbers q → ⊥
apart numbers rises p q l m ne e =
    ⊎_elim (λ (same : p ≡ q). ne same) (λ (other : (p < q) ⊎ (q < p)). ⊎_elim
    (λ (less : p < q). let rise = AllPairs-from_increasing numbers rises p q 0 less m in omega arith)
    (λ (more : q < p). let rise = AllPairs-from_increasing numbers rises q p 0 more l in omega arith) other) (cases_order p q)

-- a number at the end of a list
pub has_last : (xs : List ℕ) (r q : ℕ) → q ≡ r → has (xs ++ r ∷ []) q ≡ true
has_last xs r q same =
    list_any-append (nat_eq q) xs (r ∷ []) ∙ or_right (has xs q) (nat_eq q r || false) (or_left (nat_eq q r) false (eq-eqb q r same))

pub has_other : (xs : List ℕ) (r q : ℕ) → (q ≡ r → ⊥) → has (xs ++ r ∷ []) q ≡ has xs q
has_other xs r q other =
    list_any-append (nat_eq q) xs (r ∷ []) ∙ (ap (λ (b : Bool). has xs q || (b || false)) (ne_eqb q r other) ∙ or_nothing (has xs q))
  where
    or_nothing : (b : Bool) → (b || (false || false)) ≡ b
    or_nothing true = refl
    or_nothing false = refl

-- a mark at one more place
pub mark_more : (numbers : List ℕ) (test : ℕ → Bool) (known : List ℕ) (marks : List Bool) (place r : ℕ) → IsStrictlyIncreasing numbers → length marks ≡ length numbers
    → place < length numbers → slice_index numbers place ≡ r → Tells numbers (λ q. has known q || test q) marks
    → Tells numbers (λ q. has (known ++ r ∷ []) q || test q) (slice_set marks place true)
mark_more numbers test known marks place r rises room inside found told p l =
    let q = slice_index numbers p in
    ⊎_elim (λ (same : p ≡ place).
    let here : slice_index_or (slice_set marks place true) p false ≡ true =
    ap (λ (k : ℕ). slice_index_or (slice_set marks place true) k false) same ∙ get_or-set_same marks place true false (omega arith) in
    let own : q ≡ r = ap (slice_index numbers) same ∙ found in
    here ∙ sym (or_left (has (known ++ r ∷ []) q) (test q) (has_last known r q own)))
    (λ (other : p ≡ place → ⊥).
    let own : q ≡ r → ⊥ = λ e. apart numbers rises p place l inside other (e ∙ sym found) in
    get_or-set_other marks place p true false other ∙ (told p l ∙ sym (ap (λ (b : Bool). b || test q) (has_other known r q own))))
    (cases_eq p place)
