-- The order of all rules by box and precedence: what a sort makes, and where the rules of one box stand.
use Rattle.std.proofs.Common.{◌≡◌, ◌≢◌, ℕ, suc, ◌+◌, ◌<◌, ◌≤◌, eqb, ltb, leb, Bool, true, false, List, [], ◌∷◌, ◌++◌, length, map, get_or, take, drop, sym, ap, refl, arith, ◌∙◌, ◌⊎◌, inl, inr, rules}
use Rattle.std.specs.Cmp.{IsTotalOrder, IsStrictWeakOrder}
use Rattle.std.specs.List.{filter, AllPairs, All}
use Rattle.std.specs.List.Sorted.{IsPermutation, IsStrictlyIncreasing, IsSortedBy, IsNonDecreasingBy, IsPartitionedBy, IsPartitionPoint, IsStableByKey, ties}
use Rattle.std.specs.declared.cmp.Ordering.{Ordering}
use Rattle.std.specs.declared.cmp.Ordering.TheVariants.{Less, Equal, Greater}
use Rattle.std.specs.Ordering.{nat_cmp, is_lt}
use Rattle.std.proofs.lemmas.Bool.Decides.{nat_tests, Decides-eqb}
use Rattle.std.proofs.lemmas.Cmp.{nat_cmp_total, on_total, then_total, back_total}
use Rattle.std.proofs.lemmas.List.{take-append-drop, append-nil, get_or-take, get_or-drop, length-take, length-drop}
use Rattle.std.proofs.lemmas.List.Elements.{filter-append, filter_agree}
use Rattle.std.proofs.lemmas.List.Sorted.{ranks_by, sorted_far, Contains-permutation, IsPermutation-sym, IsPermutation-map}
use Rattle.std.proofs.lemmas.List.Kept.{AllPairs-from_increasing}
use Rattle.std.proofs.lemmas.Map.Keys.{IsDistinct-IsPermutation}
use Rattle.std.proofs.lemmas.Map.Made.{AllPairs-from_IsDistinct, IsDistinct-from_AllPairs}
use Rattle.list_laws.proofs.Pairs.{AllPairs-from_map}
use Rattle.net_types.specs.declared.parts.Port.{Port}
use Rattle.net_types.specs.declared.rule.Rule.{Rule}
use Rattle.net_types.specs.Tables.{precedence_cmp, comes_before, IsInPrecedence, IsPlaceInPrecedence}

precedence_total : IsTotalOrder precedence_cmp
precedence_total =
    then_total (on_total (λ (r : Rule). r.«at») nat_cmp_total)
    (then_total (on_total (λ (r : Rule). r.priority) (back_total nat_cmp_total)) (on_total (λ (r : Rule). r.id) nat_cmp_total))

pub precedence_order : IsStrictWeakOrder (λ a b. is_lt (precedence_cmp a b))
precedence_order = ranks_by precedence_total (λ (r : Rule). r)

precedence_means : (a b : Rule) → is_lt (precedence_cmp a b) ≡ comes_before a b
precedence_means a b = grind (arith, nat_tests)

pub one_first : (a b : Rule) → comes_before b a ≡ false → a.id ≢ b.id → comes_before a b ≡ true
one_first a b not_later differ = grind (arith, nat_tests, not_later)

pub not_both : (a b : Rule) → comes_before a b ≡ true → comes_before b a ≡ false
not_both a b before = grind (arith, nat_tests, before)

pub in_precedence_from_sort : (rules ordered : List Rule) → IsStrictlyIncreasing (map (λ r. r.id) rules) → IsPermutation rules ordered → IsSortedBy (λ a b. is_lt (precedence_cmp a b)) ordered → IsInPrecedence rules ordered
in_precedence_from_sort rules ordered rises same sorted = record {
  sound = λ r. Contains-permutation ordered rules r (IsPermutation-sym rules ordered same);
  complete = λ r. Contains-permutation rules ordered r same;
  order = λ i j d before inside. one_first (get_or ordered i d) (get_or ordered j d)
      (sym (precedence_means (get_or ordered j d) (get_or ordered i d)) ∙ sorted_far (λ a b. is_lt (precedence_cmp a b)) precedence_order ordered sorted i j d (omega arith) inside)
      (differ i j d before inside);
}
  where
    apart : AllPairs (λ a b. a ≢ b) (map (λ (r : Rule). r.id) rules)
    apart i j d before inside = let less = AllPairs-from_increasing (map (λ r. r.id) rules) rises i j d before inside in λ equal. omega arith

    differ : AllPairs (λ a b. a.id ≢ b.id) ordered
    differ = AllPairs-from_map (λ (r : Rule). r.id) (λ a b. a ≢ b) ordered
        (AllPairs-from_IsDistinct Decides-eqb (map (λ r. r.id) ordered)
        (IsDistinct-IsPermutation eqb (λ x y. grind (arith, nat_tests)) _ _ (IsPermutation-map (λ (r : Rule). r.id) rules ordered same)
        (IsDistinct-from_AllPairs Decides-eqb _ apart)))

less_of : (o : Ordering) → is_lt o ≡ true → o ≡ Less
less_of Less test = refl
less_of Equal test = absurd (cc)
less_of Greater test = absurd (cc)

-- what a search for a rule's place finds
pub precedence_parts : (rule : Rule) (ordered : List Rule) → AllPairs (λ a b. comes_before a b ≡ true) ordered → IsPartitionedBy (λ other. is_lt (precedence_cmp other rule)) ordered
precedence_parts rule ordered order i j d le inside later = by_place (places i j le)
  where
    places : (m n : ℕ) → m ≤ n → (m ≡ n) ⊎ (m < n)
    places m n le = grind arith

    by_place : (i ≡ j) ⊎ (i < j) → is_lt (precedence_cmp (get_or ordered i d) rule) ≡ true
    by_place (inl same) = rw same later
    by_place (inr less) =
        let first : precedence_cmp (get_or ordered i d) (get_or ordered j d) ≡ Less = less_of _ (precedence_means (get_or ordered i d) (get_or ordered j d) ∙ order i j d less inside) in
        ap is_lt (precedence_total.trans (get_or ordered i d) (get_or ordered j d) rule first (less_of _ later))

pub place_found : (rule : Rule) (ordered : List Rule) (i : ℕ) → i ≤ length ordered → IsPartitionPoint (λ other. is_lt (precedence_cmp other rule) ≡ true) (λ other. is_lt (precedence_cmp other rule) ≡ false) ordered i → IsPlaceInPrecedence rule ordered i
place_found rule ordered i inside parted = record {
  inside = inside;
  before = λ k d below. sym (precedence_means (get_or ordered k d) rule) ∙ parted.0 k d (omega arith) below;
  after = λ k d le below. sym (precedence_means (get_or ordered k d) rule) ∙ parted.1 k d le below;
}

-- boxes do not fall along that order
pub boxes_rise : (ordered : List Rule) → AllPairs (λ a b. comes_before a b ≡ true) ordered → IsNonDecreasingBy (λ (r : Rule). r.«at») ordered
boxes_rise ordered order i j d le inside =
    grind (arith, nat_tests, order i j d, λ (same : i ≡ j). ap (λ n. (get_or ordered n d).«at») same)

-- a filter that keeps none, all, or a part
filter_none : {X : Type 0} (p : X → Bool) (xs : List X) → All (λ x. p x ≡ false) xs → filter p xs ≡ []
filter_none p [] fail = refl
filter_none p (x ∷ xs) fail =
    let rest : filter p xs ≡ [] = filter_none p xs (λ k d below. fail (suc k) d (omega arith)) in
    grind (arith, fail 0 x (omega arith), rest)

pub filter_all : {X : Type 0} (p : X → Bool) (xs : List X) → All (λ x. p x ≡ true) xs → filter p xs ≡ xs
filter_all p [] pass = refl
filter_all p (x ∷ xs) pass =
    let rest : filter p xs ≡ xs = filter_all p xs (λ k d below. pass (suc k) d (omega arith)) in
    grind (arith, pass 0 x (omega arith), rest)

filter_middle : {X : Type 0} (p : X → Bool) (i k : ℕ) (xs : List X) → All (λ x. p x ≡ false) (take i xs) → All (λ x. p x ≡ true) (take k (drop i xs)) → All (λ x. p x ≡ false) (drop k (drop i xs)) → filter p xs ≡ take k (drop i xs)
filter_middle p i k xs before inside after =
    ap (filter p) (sym (take-append-drop i xs))
    ∙ filter-append p (take i xs) (drop i xs)
    ∙ ap (λ front. front ++ filter p (drop i xs)) (filter_none p (take i xs) before)
    ∙ ap (filter p) (sym (take-append-drop k (drop i xs)))
    ∙ filter-append p (take k (drop i xs)) (drop k (drop i xs))
    ∙ ap (λ back. filter p (take k (drop i xs)) ++ back) (filter_none p _ after)
    ∙ ap (λ front. front ++ []) (filter_all p _ inside)
    ∙ append-nil _

-- what stands between the first row of a box, or where it would be, and the first of a later box
pub section : {X : Type 0} (home : X → ℕ) (rows : List X) (box i k : ℕ) → i ≤ length rows → k ≤ length (drop i rows) → IsPartitionPoint (λ r. ltb (home r) box ≡ true) (λ r. ltb (home r) box ≡ false) rows i → IsPartitionPoint (λ r. leb (home r) box ≡ true) (λ r. leb (home r) box ≡ false) (drop i rows) k → filter (λ r. eqb (home r) box) rows ≡ take k (drop i rows)
section {X} home rows box i k i_in k_in lower upper = filter_middle (λ r. eqb (home r) box) i k rows before inside after
  where
    before : All (λ r. eqb (home r) box ≡ false) (take i rows)
    before n d below =
        let inside_i : n < i = omega (arith, length-take i rows) in
        let less : ltb (home (get_or rows n d)) box ≡ true = lower.0 n d (omega arith) inside_i in
        rw (get_or-take i rows n d inside_i) (grind (arith, nat_tests, less))

    inside : All (λ r. eqb (home r) box ≡ true) (take k (drop i rows))
    inside n d below =
        let inside_k : n < k = omega (arith, length-take k (drop i rows)) in
        let at_most : leb (home (get_or (drop i rows) n d)) box ≡ true = upper.0 n d (omega arith) inside_k in
        let not_less : ltb (home (get_or rows (i + n) d)) box ≡ false = lower.1 (i + n) d (omega arith) (omega (arith, length-drop i rows)) in
        let same : get_or (drop i rows) n d ≡ get_or rows (i + n) d = get_or-drop i rows n d in
        rw (get_or-take k (drop i rows) n d inside_k, same) (let at_most_there : leb (home (get_or rows (i + n) d)) box ≡ true = rw same at at_most in grind (arith, nat_tests, not_less, at_most_there))

    after : All (λ r. eqb (home r) box ≡ false) (drop k (drop i rows))
    after n d below =
        let more : leb (home (get_or (drop i rows) (k + n) d)) box ≡ false = upper.1 (k + n) d (omega arith) (omega (arith, length-drop k (drop i rows))) in
        rw (get_or-drop k (drop i rows) n d) (grind (arith, nat_tests, more))

-- a stable sort by box keeps the order of each box's ports
abbrev ties_at : ℕ → Port → Bool
ties_at box = ties (λ (a b : Port). is_lt (nat_cmp a.«at» b.«at»)) (record { id = 0; «at» = box })

ties_same : (box : ℕ) (p : Port) → ties_at box p ≡ eqb p.«at» box
ties_same box p = grind (arith, nat_tests)

pub box_stable : (ports by_box : List Port) → IsStableByKey (λ (p : Port). p.«at») nat_cmp ports by_box → (box : ℕ) → filter (λ (p : Port). eqb p.«at» box) by_box ≡ filter (λ (p : Port). eqb p.«at» box) ports
box_stable ports by_box stable box =
    sym (filter_agree (ties_at box) (λ (p : Port). eqb p.«at» box) (ties_same box) by_box)
    ∙ stable (record { id = 0; «at» = box })
    ∙ filter_agree (ties_at box) (λ (p : Port). eqb p.«at» box) (ties_same box) ports
