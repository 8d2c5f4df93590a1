-- The rules by number, from all rules in order and where each of them stands.
use Rattle.std.proofs.Common.{◌≡◌, ◌≢◌, ℕ, zero, suc, ◌+◌, ◌-◌, ◌<◌, ◌≤◌, eqb, ltb, Bool, true, false, not, ◌||◌, cond, List, [], ◌∷◌, length, map, get_or, set, Option, Some, refl, sym, ap, subst, ◌∙◌, ◌⊎◌, inl, inr, arith, add-one}
use Rattle.std.specs.List.{slice_get, find, filter, insert, remove, All, AllPairs, Contains}
use Rattle.std.specs.Option.{option_and_then}
use Rattle.std.specs.List.Sorted.{IsStrictlyIncreasing}
use Rattle.std.proofs.lemmas.Bool.Decides.{nat_tests}
use Rattle.std.proofs.lemmas.List.{length-map, get_or-map, length-set, get_or-set_same, get_or-set_other, same_lists}
use Rattle.std.proofs.lemmas.List.Elements.{All-nil, All-cons, All-head, All-tail}
use Rattle.net_types.specs.declared.rule.Rule.{Rule}
use Rattle.net_types.specs.declared.network.RulePlace.{RulePlace}
use Rattle.net_types.specs.Places.{IsAt, IsGap}
use Rattle.net_types.specs.Tables.{at_places, IsPlaced, raised, lowered, comes_before, IsInPrecedence, IsPlaceInPrecedence}
use Rattle.net_types.proofs.InPrecedence.{filter_all}
use Rattle.net_types.proofs.Rows.{one_place, rises_far}

-- ---- reading
-- what stands at a place
pub read_at : {X : Type 0} (xs : List X) (k : ℕ) (x : X) → slice_get xs k ≡ Some x → (k < length xs) × ((d : X) → get_or xs k d ≡ x)
read_at [] k x is = absurd (cc)
read_at (y ∷ xs) zero x is = (omega arith, λ d. (cc))
read_at (y ∷ xs) (suc k) x is = (let rest = read_at xs k x is in (omega (arith, rest.0), rest.1))

pub get_at : {X : Type 0} (xs : List X) (k : ℕ) (d : X) → k < length xs → slice_get xs k ≡ Some (get_or xs k d)
get_at [] k d inside = absurd (omega arith)
get_at (x ∷ xs) zero d inside = refl
get_at (x ∷ xs) (suc k) d inside = get_at xs k d (omega arith)

-- ---- the rules of rows
module _ (ordered : List Rule) where
  pub ids_at : (rows : List RulePlace) → All (IsPlaced ordered) rows → map (λ r. r.id) (at_places ordered rows) ≡ map (λ row. row.id) rows
  ids_at [] placed = refl
  ids_at (row ∷ rows) placed =
      let here = All-head (IsPlaced ordered) row rows placed in
      rw here.there (let rest = ids_at rows (All-tail (IsPlaced ordered) row rows placed) in let number = here.number in cc)

  pub length-at : (rows : List RulePlace) → All (IsPlaced ordered) rows → length (at_places ordered rows) ≡ length rows
  length-at rows placed =
      sym (length-map (at_places ordered rows) (λ r. r.id)) ∙ ap length (ids_at rows placed) ∙ length-map rows (λ row. row.id)

  pub get-at_places : (rows : List RulePlace) (i : ℕ) → All (IsPlaced ordered) rows → slice_get (at_places ordered rows) i ≡ option_and_then (λ row. slice_get ordered row.place) (slice_get rows i)
  get-at_places [] i placed = refl
  get-at_places (row ∷ rows) zero placed = let here = All-head (IsPlaced ordered) row rows placed in rw here.there refl
  get-at_places (row ∷ rows) (suc i) placed =
      let here = All-head (IsPlaced ordered) row rows placed in
      rw here.there (get-at_places rows i (All-tail (IsPlaced ordered) row rows placed))

  pub find-at_places : (rows : List RulePlace) (id : ℕ) → All (IsPlaced ordered) rows
      → find (λ (r : Rule). eqb r.id id) (at_places ordered rows) ≡ option_and_then (λ row. slice_get ordered row.place) (find (λ (row : RulePlace). eqb row.id id) rows)
  find-at_places [] id placed = refl
  find-at_places (row ∷ rows) id placed = by_test (eqb row.id id) refl (All-head (IsPlaced ordered) row rows placed) (find-at_places rows id (All-tail (IsPlaced ordered) row rows placed))
    where
      by_test : (b : Bool) → eqb row.id id ≡ b → IsPlaced ordered row
          → find (λ (r : Rule). eqb r.id id) (at_places ordered rows) ≡ option_and_then (λ row. slice_get ordered row.place) (find (λ (row : RulePlace). eqb row.id id) rows)
          → find (λ (r : Rule). eqb r.id id) (at_places ordered (row ∷ rows)) ≡ option_and_then (λ row. slice_get ordered row.place) (find (λ (row : RulePlace). eqb row.id id) (row ∷ rows))
      by_test true test here rest =
          let own : eqb here.rule.id id ≡ true = ap (λ n. eqb n id) here.number ∙ test in
          rw (here.there, own, test) (sym here.there)
      by_test false test here rest =
          let own : eqb here.rule.id id ≡ false = ap (λ n. eqb n id) here.number ∙ test in
          rw (here.there, own, test) rest

  pub rule_by_row : (rows : List RulePlace) (id : ℕ) (row : Option RulePlace) → All (IsPlaced ordered) rows → row ≡ find (λ (row : RulePlace). eqb row.id id) rows
      → option_and_then (λ (row : RulePlace). slice_get ordered row.place) row ≡ find (λ (r : Rule). eqb r.id id) (at_places ordered rows)
  rule_by_row rows id row placed is = ap (option_and_then (λ (row : RulePlace). slice_get ordered row.place)) is ∙ sym (find-at_places rows id placed)

  pub at_places-insert : (rows : List RulePlace) (i : ℕ) (row : RulePlace) (rule : Rule) → All (IsPlaced ordered) rows → slice_get ordered row.place ≡ Some rule → i ≤ length rows
      → at_places ordered (insert rows i row) ≡ insert (at_places ordered rows) i rule
  at_places-insert rows zero row rule placed there inside = rw there refl
  at_places-insert [] (suc i) row rule placed there inside = absurd (omega arith)
  at_places-insert (other ∷ rows) (suc i) row rule placed there inside =
      let here = All-head (IsPlaced ordered) other rows placed in
      rw here.there (ap (λ l. here.rule ∷ l) (at_places-insert rows i row rule (All-tail (IsPlaced ordered) other rows placed) there (omega arith)))

  -- a number goes among the rows where it goes among their rules
  pub gap_at : (rows : List RulePlace) (id i : ℕ) → All (IsPlaced ordered) rows → IsGap (λ (row : RulePlace). row.id) rows id i → IsGap (λ (r : Rule). r.id) (at_places ordered rows) id i
  gap_at rows id i placed gap = record {
    inside = omega (arith, gap.inside, length-at rows placed);
    before = λ k d below. (let number = same k d (omega (arith, gap.inside)) in let less = gap.before k row below in omega arith);
    after = λ k d le below. (let number = same k d (omega (arith, length-at rows placed)) in let more = gap.after k row le (omega (arith, length-at rows placed)) in omega arith);
  }
    where
      row : RulePlace
      row = record { id = 0; place = 0 }

      same : (k : ℕ) (d : Rule) → k < length rows → (get_or (at_places ordered rows) k d).id ≡ (get_or rows k row).id
      same k d inside =
          sym (get_or-map (λ (r : Rule). r.id) (at_places ordered rows) k d 0 (omega (arith, length-at rows placed)))
          ∙ ap (λ ns. get_or ns k 0) (ids_at rows placed)
          ∙ get_or-map (λ (row : RulePlace). row.id) rows k row 0 inside

-- the same rows of other rules
pub at_places-map : (ordered others : List Rule) (f : RulePlace → RulePlace) (rows : List RulePlace) → All (λ row. slice_get others (f row).place ≡ slice_get ordered row.place) rows
    → at_places others (map f rows) ≡ at_places ordered rows
at_places-map ordered others f [] same = refl
at_places-map ordered others f (row ∷ rows) same =
    let Same : RulePlace → Type 0 = λ row. slice_get others (f row).place ≡ slice_get ordered row.place in
    rw (All-head Same row rows same) (let rest = at_places-map ordered others f rows (All-tail Same row rows same) in rw rest refl)

pub placed-map : (ordered others : List Rule) (f : RulePlace → RulePlace) (rows : List RulePlace) → ((row : RulePlace) → (f row).id ≡ row.id)
    → All (λ row. slice_get others (f row).place ≡ slice_get ordered row.place) rows → All (IsPlaced ordered) rows → All (IsPlaced others) (map f rows)
placed-map ordered others f [] kept same placed = All-nil (IsPlaced others)
placed-map ordered others f (row ∷ rows) kept same placed =
    let Same : RulePlace → Type 0 = λ row. slice_get others (f row).place ≡ slice_get ordered row.place in
    let here = All-head (IsPlaced ordered) row rows placed in
    let moved : IsPlaced others (f row) = record { rule = here.rule; there = All-head Same row rows same ∙ here.there; number = here.number ∙ sym (kept row) } in
    All-cons (IsPlaced others) (f row) (map f rows) moved
    (placed-map ordered others f rows kept (All-tail Same row rows same) (All-tail (IsPlaced ordered) row rows placed))

-- ---- one more rule
pub get-inserted : {X : Type 0} (xs : List X) (j : ℕ) (x : X) → j ≤ length xs → slice_get (insert xs j x) j ≡ Some x
get-inserted xs zero x inside = refl
get-inserted [] (suc j) x inside = absurd (omega arith)
get-inserted (y ∷ xs) (suc j) x inside = get-inserted xs j x (omega arith)

get-above : {X : Type 0} (xs : List X) (j k : ℕ) (x : X) → j ≤ length xs → j ≤ k → slice_get (insert xs j x) (suc k) ≡ slice_get xs k
get-above xs zero k x inside above = refl
get-above [] (suc j) k x inside above = absurd (omega arith)
get-above (y ∷ xs) (suc j) zero x inside above = absurd (omega arith)
get-above (y ∷ xs) (suc j) (suc k) x inside above = get-above xs j k x (omega arith) (omega arith)

get-below : {X : Type 0} (xs : List X) (j k : ℕ) (x : X) → j ≤ length xs → k < j → slice_get (insert xs j x) k ≡ slice_get xs k
get-below xs zero k x inside below = absurd (omega arith)
get-below [] (suc j) k x inside below = absurd (omega arith)
get-below (y ∷ xs) (suc j) zero x inside below = refl
get-below (y ∷ xs) (suc j) (suc k) x inside below = get-below xs j k x (omega arith) (omega arith)

-- the other rules are found where they are now
pub raised_same : (ordered : List Rule) (j id : ℕ) (rule : Rule) (row : RulePlace) → j ≤ length ordered → row.id ≢ id
    → slice_get (insert ordered j rule) (raised id j row).place ≡ slice_get ordered row.place
raised_same ordered j id rule row inside apart = by_test (ltb row.place j) refl
  where
    other : eqb row.id id ≡ false
    other = grind (arith, nat_tests)

    by_test : (b : Bool) → ltb row.place j ≡ b → slice_get (insert ordered j rule) (raised id j row).place ≡ slice_get ordered row.place
    by_test true test = rw (other, test) (get-below ordered j row.place rule inside (grind (arith, nat_tests, test)))
    by_test false test = rw (other, test, add-one) (get-above ordered j row.place rule inside (grind (arith, nat_tests, test)))

pub raised_id : (id j : ℕ) (row : RulePlace) → (raised id j row).id ≡ row.id
raised_id id j row = elim (eqb row.id id || ltb row.place j) as (λ b. (cond b row (record row { place = row.place + 1 })).id ≡ row.id) [ true ↦ refl | false ↦ refl ]

map-insert : {X : Type 0} (f : X → X) (xs : List X) (i : ℕ) (x : X) → map f (insert xs i x) ≡ insert (map f xs) i (f x)
map-insert f xs zero x = refl
map-insert f [] (suc i) x = refl
map-insert f (y ∷ xs) (suc i) x = ap (λ l. f y ∷ l) (map-insert f xs i x)

pub All-put_in : {X : Type 0} (P : X → Type 0) (xs : List X) (i : ℕ) (x : X) → P x → All P xs → All P (insert xs i x)
All-put_in P xs zero x here all = All-cons P x xs here all
All-put_in P [] (suc i) x here all = All-cons P x [] here all
All-put_in P (y ∷ xs) (suc i) x here all = All-cons P y (insert xs i x) (All-head P y xs all) (All-put_in P xs i x here (All-tail P y xs all))

-- no row has a number that has a gap
gap_apart : (rows : List RulePlace) (id i : ℕ) → IsGap (λ (row : RulePlace). row.id) rows id i → All (λ row. row.id ≢ id) rows
gap_apart rows id i gap k d below = λ same. by_side (side k i) same
  where
    side : (m n : ℕ) → (m < n) ⊎ (n ≤ m)
    side m n = grind arith

    by_side : (k < i) ⊎ (i ≤ k) → (get_or rows k d).id ≡ id → ⊥
    by_side (inl low) same = (let less = gap.before k d low in omega arith)
    by_side (inr high) same = (let more = gap.after k d high below in omega arith)

abbrev pub wider : List RulePlace → ℕ → ℕ → ℕ → List RulePlace
wider rows i id j = map (raised id j) (insert rows i (record { id = id; place = j }))

module _ (ordered : List Rule) (rows : List RulePlace) (i j : ℕ) (rule : Rule) (placed : All (IsPlaced ordered) rows) (gap : IsGap (λ (row : RulePlace). row.id) rows rule.id i) (inside : j ≤ length ordered) where
  abbrev new_row : RulePlace
  new_row = record { id = rule.id; place = j }

  new_kept : raised rule.id j new_row ≡ new_row
  new_kept = (let own : eqb rule.id rule.id ≡ true = grind (arith, nat_tests) in rw own refl)

  wider_is : wider rows i rule.id j ≡ insert (map (raised rule.id j) rows) i new_row
  wider_is = map-insert (raised rule.id j) rows i new_row ∙ ap (λ row. insert (map (raised rule.id j) rows) i row) new_kept

  others_same : All (λ row. slice_get (insert ordered j rule) (raised rule.id j row).place ≡ slice_get ordered row.place) rows
  others_same k d below = raised_same ordered j rule.id rule (get_or rows k d) inside (gap_apart rows rule.id i gap k d below)

  moved : All (IsPlaced (insert ordered j rule)) (map (raised rule.id j) rows)
  moved = placed-map ordered (insert ordered j rule) (raised rule.id j) rows (raised_id rule.id j) others_same placed

  pub put_placed : All (IsPlaced (insert ordered j rule)) (wider rows i rule.id j)
  put_placed = rw wider_is (All-put_in (IsPlaced (insert ordered j rule)) (map (raised rule.id j) rows) i new_row
      (record { rule = rule; there = get-inserted ordered j rule inside; number = refl }) moved)

  pub put_rules : at_places (insert ordered j rule) (wider rows i rule.id j) ≡ insert (at_places ordered rows) i rule
  put_rules =
      ap (at_places (insert ordered j rule)) wider_is
      ∙ at_places-insert (insert ordered j rule) (map (raised rule.id j) rows) i new_row rule moved (get-inserted ordered j rule inside) (omega (arith, gap.inside, length-map rows (raised rule.id j)))
      ∙ ap (λ l. insert l i rule) (at_places-map ordered (insert ordered j rule) (raised rule.id j) rows others_same)

-- ---- one rule fewer
kept_test : (a b : ℕ) → a ≢ b → not (eqb a b) ≡ true
kept_test a b apart = grind (arith, nat_tests)

gone_test : (a b : ℕ) → a ≡ b → not (eqb a b) ≡ false
gone_test a b same = grind (arith, nat_tests)

-- where one element alone has a number, taking it out leaves those that have another
pub remove_alone : {X : Type 0} (key : X → ℕ) (id : ℕ) (xs : List X) (i : ℕ) → i < length xs → ((x : X) → slice_get xs i ≡ Some x → key x ≡ id) → ((k : ℕ) (x : X) → slice_get xs k ≡ Some x → key x ≡ id → k ≡ i)
    → remove xs i ≡ filter (λ x. not (eqb (key x) id)) xs
remove_alone key id [] i inside has alone = absurd (omega arith)
remove_alone key id (x ∷ xs) zero inside has alone =
    let rest : filter (λ y. not (eqb (key y) id)) xs ≡ xs = filter_all (λ y. not (eqb (key y) id)) xs
    (λ n d below. kept_test (key (get_or xs n d)) id (λ same. let no : suc n ≡ zero = alone (suc n) (get_or xs n d) (get_at xs n d below) same in absurd (omega arith))) in
    rw (gone_test (key x) id (has x refl)) (sym rest)
remove_alone key id (x ∷ xs) (suc i) inside has alone =
    let stays : not (eqb (key x) id) ≡ true = kept_test (key x) id (λ same. let no : zero ≡ suc i = alone zero x refl same in absurd (omega arith)) in
    let rest = remove_alone key id xs i (omega arith) (λ y there. has y there) (λ n y there same. let e : suc n ≡ suc i = alone (suc n) y there same in omega arith) in
    rw stays (ap (λ l. x ∷ l) rest)

-- of all rules one alone has the number, at this place
pub record HasAlone (ordered : List Rule) (id gap : ℕ) : Type 0 where
  pub has : (r : Rule) → slice_get ordered gap ≡ Some r → r.id ≡ id
  pub alone : (k : ℕ) (r : Rule) → slice_get ordered k ≡ Some r → r.id ≡ id → k ≡ gap

abbrev pub others : ℕ → List Rule → List Rule
others id ordered = filter (λ (r : Rule). not (eqb r.id id)) ordered

pub others_left : (ordered : List Rule) (id gap : ℕ) → gap < length ordered → HasAlone ordered id gap → remove ordered gap ≡ others id ordered
others_left ordered id gap inside one = remove_alone (λ (r : Rule). r.id) id ordered gap inside one.has one.alone

-- the rows of the other rules
abbrev pub other_rows : ℕ → List RulePlace → List RulePlace
other_rows id rows = filter (λ (row : RulePlace). not (eqb row.id id)) rows

pub rows_left : (rows : List RulePlace) (id i : ℕ) → IsStrictlyIncreasing (map (λ (row : RulePlace). row.id) rows) → IsAt (λ (row : RulePlace). row.id) rows id i → remove rows i ≡ other_rows id rows
rows_left rows id i rises is_at = remove_alone (λ (row : RulePlace). row.id) id rows i is_at.inside has alone
  where
    has : (row : RulePlace) → slice_get rows i ≡ Some row → row.id ≡ id
    has row is = (let at = read_at rows i row is in let here = at.1 row in let number = is_at.same row in cc)

    alone : (k : ℕ) (row : RulePlace) → slice_get rows k ≡ Some row → row.id ≡ id → k ≡ i
    alone k row is same =
        let at = read_at rows k row is in
        let here : (get_or rows k row).id ≡ id = ap (λ (r : RulePlace). r.id) (at.1 row) ∙ same in
        let number = is_at.same row in
        let lt : k < i → ⊥ = λ less. let far = rises_far (λ (r : RulePlace). r.id) rows rises k i row less is_at.inside in omega arith in
        let gt : i < k → ⊥ = λ less. let far = rises_far (λ (r : RulePlace). r.id) rows rises i k row less at.0 in omega arith in
        grind (arith, lt, gt)

abbrev pub lowered_place : ℕ → ℕ → ℕ
lowered_place gap k = cond (ltb gap k) (k - 1) k

lowered-suc : (gap k : ℕ) → suc gap ≢ suc k → lowered_place (suc gap) (suc k) ≡ suc (lowered_place gap k)
lowered-suc gap k apart = grind (arith, nat_tests)

pub get-others : (ordered : List Rule) (id gap k : ℕ) (r : Rule) → HasAlone ordered id gap → slice_get ordered k ≡ Some r → r.id ≢ id → slice_get (others id ordered) (lowered_place gap k) ≡ Some r
get-others [] id gap k r one is apart = absurd (cc)
get-others (x ∷ ordered) id zero zero r one is apart = absurd (apart (one.has r is))
get-others (x ∷ ordered) id zero (suc k) r one is apart =
    let rest : others id ordered ≡ ordered = filter_all (λ (y : Rule). not (eqb y.id id)) ordered
    (λ n d below. kept_test (get_or ordered n d).id id (λ same. let no : suc n ≡ zero = one.alone (suc n) (get_or ordered n d) (get_at ordered n d below) same in absurd (omega arith))) in
    let first : (ltb 0 (suc k)) ≡ true = grind (arith, nat_tests) in
    rw (gone_test x.id id (one.has x refl), rest, first) (rw (sub_one k) is)
  where
    sub_one : (n : ℕ) → suc n - 1 ≡ n
    sub_one n = omega arith
get-others (x ∷ ordered) id (suc gap) zero r one is apart =
    let here : x ≡ r = (cc) in
    let stays : not (eqb x.id id) ≡ true = kept_test x.id id (λ same. apart (ap (λ (y : Rule). y.id) (sym here) ∙ same)) in
    let first : ltb (suc gap) 0 ≡ false = grind (arith, nat_tests) in
    rw (stays, first) is
get-others (x ∷ ordered) id (suc gap) (suc k) r one is apart =
    let stays : not (eqb x.id id) ≡ true = kept_test x.id id (λ same. let no : zero ≡ suc gap = one.alone zero x refl same in absurd (omega arith)) in
    let rest = get-others ordered id gap k r (record { has = λ y. one.has y; alone = λ n y there same. let e : suc n ≡ suc gap = one.alone (suc n) y there same in omega arith }) is apart in
    let moved : lowered_place (suc gap) (suc k) ≡ suc (lowered_place gap k) = lowered-suc gap k (λ same. apart (one.has r (subst (λ n. slice_get (x ∷ ordered) n ≡ Some r) (sym same) is))) in
    rw (stays, moved) rest

pub lowered_at : (gap : ℕ) (row : RulePlace) → ((lowered gap row).place ≡ lowered_place gap row.place) × ((lowered gap row).id ≡ row.id)
lowered_at gap row = elim (ltb gap row.place) as (λ b. ((cond b (record row { place = row.place - 1 }) row).place ≡ cond b (row.place - 1) row.place) × ((cond b (record row { place = row.place - 1 }) row).id ≡ row.id)) [ true ↦ (refl, refl) | false ↦ (refl, refl) ]

abbrev pub narrower : ℕ → ℕ → List RulePlace → List RulePlace
narrower id gap rows = map (lowered gap) (other_rows id rows)

module _ (ordered : List Rule) (id gap : ℕ) (one : HasAlone ordered id gap) where
  kept_at : (row : RulePlace) (here : IsPlaced ordered row) → row.id ≢ id → slice_get (others id ordered) (lowered gap row).place ≡ Some here.rule
  kept_at row here apart =
      rw (lowered_at gap row).0 (get-others ordered id gap row.place here.rule one here.there (λ same. apart (sym here.number ∙ same)))

  pub cut_rules : (rows : List RulePlace) → All (IsPlaced ordered) rows → at_places (others id ordered) (narrower id gap rows) ≡ others id (at_places ordered rows)
  cut_rules [] placed = refl
  cut_rules (row ∷ rows) placed = by_test (eqb row.id id) refl (All-head (IsPlaced ordered) row rows placed) (cut_rules rows (All-tail (IsPlaced ordered) row rows placed))
    where
      by_test : (b : Bool) → eqb row.id id ≡ b → IsPlaced ordered row → at_places (others id ordered) (narrower id gap rows) ≡ others id (at_places ordered rows)
          → at_places (others id ordered) (narrower id gap (row ∷ rows)) ≡ others id (at_places ordered (row ∷ rows))
      by_test true test here rest =
          let own : eqb here.rule.id id ≡ true = ap (λ n. eqb n id) here.number ∙ test in
          rw (here.there, own, test) rest
      by_test false test here rest =
          let own : eqb here.rule.id id ≡ false = ap (λ n. eqb n id) here.number ∙ test in
          let moved = kept_at row here (grind (arith, nat_tests, test)) in
          rw (here.there, own, test, moved) (ap (λ l. here.rule ∷ l) rest)

  pub cut_placed : (rows : List RulePlace) → All (IsPlaced ordered) rows → All (IsPlaced (others id ordered)) (narrower id gap rows)
  cut_placed [] placed = All-nil (IsPlaced (others id ordered))
  cut_placed (row ∷ rows) placed = by_test (eqb row.id id) refl (All-head (IsPlaced ordered) row rows placed) (cut_placed rows (All-tail (IsPlaced ordered) row rows placed))
    where
      by_test : (b : Bool) → eqb row.id id ≡ b → IsPlaced ordered row → All (IsPlaced (others id ordered)) (narrower id gap rows) → All (IsPlaced (others id ordered)) (narrower id gap (row ∷ rows))
      by_test true test here rest = rw test rest
      by_test false test here rest =
          let moved = kept_at row here (grind (arith, nat_tests, test)) in
          let lowered_here : IsPlaced (others id ordered) (lowered gap row) = record { rule = here.rule; there = moved; number = here.number ∙ sym (lowered_at gap row).1 } in
          rw test (All-cons (IsPlaced (others id ordered)) (lowered gap row) (narrower id gap rows) lowered_here rest)

-- ---- where a rule stands
not_itself : (a : Rule) → comes_before a a ≡ false
not_itself a = grind (arith, nat_tests)

-- the rule of a number stands where its row says, and no other rule has the number
pub has_alone : (ordered : List Rule) (rows : List RulePlace) (row : RulePlace) → IsInPrecedence (at_places ordered rows) ordered → IsStrictlyIncreasing (map (λ (r : Rule). r.id) (at_places ordered rows))
    → IsPlaced ordered row → HasAlone ordered row.id row.place
has_alone ordered rows row by_box rises here = record {
  has = λ r is. (let e : Some r ≡ Some here.rule = sym is ∙ here.there in let same : r ≡ here.rule = cc in ap (λ (q : Rule). q.id) same ∙ here.number);
  alone = λ k r is same. one_index k r is (one_place (λ (q : Rule). q.id) (at_places ordered rows) rises r here.rule (among k r is) (among row.place here.rule here.there) (same ∙ sym here.number));
}
  where
    among : (k : ℕ) (r : Rule) → slice_get ordered k ≡ Some r → Contains (at_places ordered rows) r
    among k r is = (let at = read_at ordered k r is in by_box.sound r (k, at.0, at.1 r))

    one_index : (k : ℕ) (r : Rule) → slice_get ordered k ≡ Some r → r ≡ here.rule → k ≡ row.place
    one_index k r is same =
        let at = read_at ordered k r is in
        let own = read_at ordered row.place here.rule here.there in
        let lt : k < row.place → ⊥ = λ less. let order = by_box.order k row.place r less own.0 in
        let twice : comes_before r r ≡ true = subst (λ q. comes_before q r ≡ true) (at.1 r) (subst (λ q. comes_before (get_or ordered k r) q ≡ true) (own.1 r ∙ sym same) order) in
        let no = not_itself r in absurd (cc) in
        let gt : row.place < k → ⊥ = λ less. let order = by_box.order row.place k r less at.0 in
        let twice : comes_before r r ≡ true = subst (λ q. comes_before q r ≡ true) (own.1 r ∙ sym same) (subst (λ q. comes_before (get_or ordered row.place r) q ≡ true) (at.1 r) order) in
        let no = not_itself r in absurd (cc) in
        grind (arith, lt, gt)

-- a search for a rule that is there finds it
pub stands_there : (rule : Rule) (ordered : List Rule) (j : ℕ) → AllPairs (λ a b. comes_before a b ≡ true) ordered → Contains ordered rule → IsPlaceInPrecedence rule ordered j → slice_get ordered j ≡ Some rule
stands_there rule ordered j order (k, inside, is) place =
    let not_less : k < j → ⊥ = λ less. let first : comes_before rule rule ≡ true = subst (λ q. comes_before q rule ≡ true) is (place.before k rule less) in
    let no = not_itself rule in absurd (cc) in
    let not_more : j < k → ⊥ = λ more. let first : comes_before (get_or ordered j rule) rule ≡ true = subst (λ q. comes_before (get_or ordered j rule) q ≡ true) is (order j k rule more inside) in
    let no = place.after j rule (omega arith) (omega arith) in absurd (cc) in
    let same : j ≡ k = grind (arith, not_less, not_more) in
    rw same (get_at ordered k rule inside ∙ ap Some is)

-- ---- a change of each row in turn
pub record IsDone (f : RulePlace → RulePlace) (before now : List RulePlace) (i : ℕ) : Type 0 where
  pub long : length now ≡ length before
  pub done : (k : ℕ) (d : RulePlace) → k < i → k < length before → get_or now k d ≡ f (get_or before k d)
  pub left : (k : ℕ) (d : RulePlace) → i ≤ k → get_or now k d ≡ get_or before k d

pub none_done : (f : RulePlace → RulePlace) (before : List RulePlace) → IsDone f before before 0
none_done f before = record { long = refl; done = λ k d below inside. absurd (omega arith); left = λ k d le. refl }

pub one_done : (f : RulePlace → RulePlace) (before now : List RulePlace) (i : ℕ) (row : RulePlace) → IsDone f before now i → i < length now → row ≡ get_or now i row → IsDone f before (set now i (f row)) (i + 1)
one_done f before now i row h inside is = record {
  long = length-set now i (f row) ∙ h.long;
  done = λ k d below within. by_place k d below within (place k i);
  left = λ k d le. get_or-set_other now i k (f row) d (λ same. omega arith) ∙ h.left k d (omega arith);
}
  where
    any_default : (xs : List RulePlace) (k : ℕ) (d e : RulePlace) → k < length xs → get_or xs k d ≡ get_or xs k e
    any_default [] k d e inside = absurd (omega arith)
    any_default (x ∷ xs) zero d e inside = refl
    any_default (x ∷ xs) (suc k) d e inside = any_default xs k d e (omega arith)

    place : (m n : ℕ) → (m ≡ n) ⊎ (m ≢ n)
    place m n = grind arith

    by_place : (k : ℕ) (d : RulePlace) → k < i + 1 → k < length before → (k ≡ i) ⊎ (k ≢ i) → get_or (set now i (f row)) k d ≡ f (get_or before k d)
    by_place k d below within (inl same) = rw same (get_or-set_same now i (f row) d inside ∙ ap f (is ∙ h.left i row (omega arith) ∙ any_default before i row d (omega (arith, h.long))))
    by_place k d below within (inr apart) = get_or-set_other now i k (f row) d apart ∙ h.done k d (omega arith) within

pub all_done : (f : RulePlace → RulePlace) (before now : List RulePlace) (i : ℕ) → IsDone f before now i → length before ≤ i → now ≡ map f before
all_done f before now i h all = same_lists now (map f before) (h.long ∙ sym (length-map before f))
    (λ k d below. h.done k d (omega (arith, h.long)) (omega (arith, h.long)) ∙ sym (get_or-map f before k d d (omega (arith, h.long))))

-- the numbers of the rows rise
pub rows_rise : (ordered : List Rule) (rows : List RulePlace) → All (IsPlaced ordered) rows → IsStrictlyIncreasing (map (λ (r : Rule). r.id) (at_places ordered rows)) → IsStrictlyIncreasing (map (λ (row : RulePlace). row.id) rows)
rows_rise ordered rows placed rises = subst IsStrictlyIncreasing (ids_at ordered rows placed) rises
