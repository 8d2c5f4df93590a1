-- Going on with the telling entry.
use Rattle.std.specs.Prelude.{◌≡◌, ◌⊎◌, ℕ, zero, suc, ◌+◌, ◌<◌, ◌≤◌, Bool, true, false, not, ◌&&◌, cond, List, [], ◌∷◌, ◌++◌, length, map, Option, None, Some, Contains}
use Rattle.std.specs.List.{filter}
use Rattle.std.proofs.Common.{refl, sym, ap, ◌∙◌, subst, inl, inr, ⊎_elim, append_assoc, arith}
use Rattle.std.proofs.lemmas.Bool.{cases_lt, and_parts, both_ways, not_from_true, not_from_false}
use Rattle.std.proofs.lemmas.List.{append-nil, length-append, map-append}
use Rattle.std.proofs.lemmas.List.Elements.{Contains-append_left, Contains-append_right, Contains-append_cases}
use Rattle.list_laws.proofs.Members.{Contains-cons_same, Contains-cons_cases, Contains-nil, Contains-one, Contains-filter, Contains-from_filter, passes_of, filter_shorter}
use Rattle.network_model.specs.Network.{Network}
use Rattle.network_model.specs.Cover.{rules_at, entry_at}
use Rattle.network_model.specs.Plan.{Plan, reserved}
use Rattle.fault_model.specs.Outcomes.{Outcome, entries_of, has}
use Rattle.fault_model.specs.Findings.{is_only, suspects, suspects_on, has_one, has_verdict, telling, IsOneSuspect}
use Rattle.fault_model.specs.Follow.{outcome_of, and_told, and_telling, follow}
use Rattle.fault_model.proofs.Listed.{has-true, has-from, has-false, not_in, any_place, find_some, only_same}

-- a telling entry is reserved, has no verdict and has one suspect rule
pub telling_reserved : (plan : Plan) (outcomes : List Outcome) (n : ℕ) → telling plan outcomes ≡ Some n → Contains (reserved plan) n
telling_reserved plan outcomes n h =
    (find_some (λ (m : ℕ). not (has_verdict outcomes m) && has_one (suspects_on plan.table outcomes m)) (reserved plan) n h).0

telling_passes : (plan : Plan) (outcomes : List Outcome) (n : ℕ) → telling plan outcomes ≡ Some n
    → (not (has_verdict outcomes n) ≡ true) × (has_one (suspects_on plan.table outcomes n) ≡ true)
telling_passes plan outcomes n h =
    let passes = (find_some (λ (m : ℕ). not (has_verdict outcomes m) && has_one (suspects_on plan.table outcomes m)) (reserved plan) n h).1 in
    and_parts (not (has_verdict outcomes n)) (has_one (suspects_on plan.table outcomes n)) passes

pub telling_new : (plan : Plan) (outcomes : List Outcome) (n : ℕ) → telling plan outcomes ≡ Some n → not (has_verdict outcomes n) ≡ true
telling_new plan outcomes n h = (telling_passes plan outcomes n h).0

-- it has one suspect rule
pub telling_one : (plan : Plan) (outcomes : List Outcome) (n : ℕ) → telling plan outcomes ≡ Some n → (r : ℕ) × IsOneSuspect plan.table outcomes n r
telling_one plan outcomes n h =
    let test = has (suspects plan.table outcomes) in
    let rules = rules_at (entry_at plan.table n) in
    let place = any_place (is_only (filter test rules)) (filter test rules) (telling_passes plan outcomes n h).1 in (
      place.0,
      record {
        on = Contains-from_filter test rules place.0 place.1.0;
        suspect = has-true (suspects plan.table outcomes) place.0 (passes_of test rules place.0 place.1.0);
        one = λ q on is. sym (only_same (filter test rules) place.0 q place.1.1
            (Contains-filter test rules q on (has-from (suspects plan.table outcomes) q is)));
      },
    )

-- lists that are parted at one place
too_short : (xs sent : List Outcome) (o : Outcome) (later : List Outcome) → xs ≡ sent ++ o ∷ later → length xs ≤ length sent → ⊥
too_short xs sent o later e long =
    let same : length xs ≡ length sent + length (o ∷ later) = ap length e ∙ length-append sent (o ∷ later) in
    omega arith

same_at_seam : {A : Type 0} (xs ys : List A) (x y : A) (us vs : List A) → xs ++ x ∷ us ≡ ys ++ y ∷ vs → length xs ≡ length ys → (xs ≡ ys) × (x ≡ y)
same_at_seam [] [] x y us vs e l = (refl, cc)
same_at_seam [] (b ∷ ys) x y us vs e l = absurd (omega arith)
same_at_seam (a ∷ xs) [] x y us vs e l = absurd (omega arith)
same_at_seam {A} (a ∷ xs) (b ∷ ys) x y us vs e l =
    let heads : a ≡ b = cc in
    let tails : xs ++ x ∷ us ≡ ys ++ y ∷ vs = cc in
    let rest = same_at_seam xs ys x y us vs tails (omega arith) in
    let fronts : xs ≡ ys = rest.0 in
    (cc, rest.1)

-- of two fronts of one list the longer has the shorter
pub longer_front : {A : Type 0} (xs ys us vs : List A) → xs ++ us ≡ ys ++ vs → length xs ≤ length ys → (more : List A) × (ys ≡ xs ++ more)
longer_front [] ys us vs e l = (ys, refl)
longer_front (x ∷ xs) [] us vs e l = absurd (omega arith)
longer_front {A} (x ∷ xs) (y ∷ ys) us vs e l =
    let heads : x ≡ y = cc in
    let tails : xs ++ us ≡ ys ++ vs = cc in
    let rest = longer_front xs ys us vs tails (omega arith) in
    let same : ys ≡ xs ++ rest.0 = rest.1 in
    (rest.0, cc)

-- a test that fewer pass keeps no more, and fewer where one that passed doesn't pass
no_more_kept : (p q : ℕ → Bool) (xs : List ℕ) → ((n : ℕ) → q n ≡ true → p n ≡ true) → length (filter q xs) ≤ length (filter p xs)
no_more_kept p q [] weaker = omega arith
no_more_kept p q (x ∷ xs) weaker = by_test (no_more_kept p q xs weaker) (p x) (q x) refl refl
  where
    by_test : length (filter q xs) ≤ length (filter p xs) → (b c : Bool) → p x ≡ b → q x ≡ c → length (cond c (x ∷ filter q xs) (filter q xs)) ≤ length (cond b (x ∷ filter p xs) (filter p xs))
    by_test less true true b_is c_is = omega arith
    by_test less true false b_is c_is = omega arith
    by_test less false true b_is c_is = absurd (both_ways (p x) b_is (weaker x c_is))
    by_test less false false b_is c_is = less

fewer_kept : (p q : ℕ → Bool) (xs : List ℕ) (x : ℕ) → ((n : ℕ) → q n ≡ true → p n ≡ true) → Contains xs x → p x ≡ true → q x ≡ false
    → length (filter q xs) < length (filter p xs)
fewer_kept p q [] x weaker c passes fails = absurd (Contains-nil x c)
fewer_kept p q (y ∷ ys) x weaker c passes fails = by_test (λ d. fewer_kept p q ys x weaker d passes fails) (p y) (q y) refl refl
  where
    by_test : (Contains ys x → length (filter q ys) < length (filter p ys)) → (b d : Bool) → p y ≡ b → q y ≡ d
        → length (cond d (y ∷ filter q ys) (filter q ys)) < length (cond b (y ∷ filter p ys) (filter p ys))
    by_test go_on true true b_is d_is =
        ⊎_elim (λ (same : y ≡ x). absurd (both_ways (q x) fails (subst (λ (z : ℕ). q z ≡ true) same d_is)))
        (λ (later : Contains ys x). let less = go_on later in omega arith) (Contains-cons_cases y x ys c)
    by_test go_on true false b_is d_is = let less = no_more_kept p q ys weaker in omega arith
    by_test go_on false true b_is d_is = absurd (both_ways (p y) b_is (weaker y d_is))
    by_test go_on false false b_is d_is =
        ⊎_elim (λ (same : y ≡ x). absurd (both_ways (p x) (subst (λ (z : ℕ). p z ≡ false) same b_is) passes))
        (λ (later : Contains ys x). go_on later) (Contains-cons_cases y x ys c)

module _ (net : Network) (hops : ℕ) (plan : Plan) (bad : List ℕ) where
  -- what stands is kept, and each further outcome is that of a reserved entry
  pub telling_kept : (times : ℕ) (outcomes : List Outcome) (o : Outcome) → Contains outcomes o → Contains (and_telling net hops plan bad times outcomes) o
  telling_kept zero outcomes o c = c
  telling_kept (suc times) outcomes o c = by_next (telling_kept times) (telling plan outcomes)
    where
      by_next : ((more : List Outcome) (p : Outcome) → Contains more p → Contains (and_telling net hops plan bad times more) p) → (next : Option ℕ)
          → Contains (and_told net hops plan bad (and_telling net hops plan bad times) outcomes next) o
      by_next go_on None = c
      by_next go_on (Some n) =
          let more = outcome_of net hops bad plan.table n ∷ [] in
          go_on (outcomes ++ more) o (Contains-append_left outcomes more o c)

  pub telling_cases : (times : ℕ) (outcomes : List Outcome) (o : Outcome) → Contains (and_telling net hops plan bad times outcomes) o
      → Contains outcomes o ⊎ ((n : ℕ) × (Contains (reserved plan) n × (o ≡ outcome_of net hops bad plan.table n)))
  telling_cases zero outcomes o c = inl c
  telling_cases (suc times) outcomes o c = by_next (telling_cases times) (telling plan outcomes) refl c
    where
      by_next : ((more : List Outcome) (p : Outcome) → Contains (and_telling net hops plan bad times more) p
          → Contains more p ⊎ ((n : ℕ) × (Contains (reserved plan) n × (p ≡ outcome_of net hops bad plan.table n))))
          → (next : Option ℕ) → telling plan outcomes ≡ next → Contains (and_told net hops plan bad (and_telling net hops plan bad times) outcomes next) o
          → Contains outcomes o ⊎ ((n : ℕ) × (Contains (reserved plan) n × (o ≡ outcome_of net hops bad plan.table n)))
      by_next go_on None is d = inl d
      by_next go_on (Some n) is d =
          let more = outcome_of net hops bad plan.table n ∷ [] in
          let new : o ≡ outcome_of net hops bad plan.table n → (m : ℕ) × (Contains (reserved plan) m × (o ≡ outcome_of net hops bad plan.table m)) = λ e. (n, (telling_reserved plan outcomes n is, e)) in
          ⊎_elim (λ before. ⊎_elim (λ old. inl old) (λ last. inr (new (Contains-one (outcome_of net hops bad plan.table n) o last))) (Contains-append_cases outcomes more o before))
          (λ later. inr later) (go_on (outcomes ++ more) o d)

  -- what stands comes first
  pub telling_front : (times : ℕ) (outcomes : List Outcome) → (more : List Outcome) × (and_telling net hops plan bad times outcomes ≡ outcomes ++ more)
  telling_front zero outcomes = ([], sym (append-nil outcomes))
  telling_front (suc times) outcomes = by_next (telling_front times) (telling plan outcomes)
    where
      by_next : ((some : List Outcome) → (more : List Outcome) × (and_telling net hops plan bad times some ≡ some ++ more)) → (next : Option ℕ)
          → (more : List Outcome) × (and_told net hops plan bad (and_telling net hops plan bad times) outcomes next ≡ outcomes ++ more)
      by_next go_on None = ([], sym (append-nil outcomes))
      by_next go_on (Some n) =
          let last = outcome_of net hops bad plan.table n ∷ [] in
          let rest = go_on (outcomes ++ last) in
          (last ++ rest.0, rest.1 ∙ append_assoc outcomes last rest.0)

  -- each outcome past the first ones is that of the entry that told before it
  pub telling_next : (times : ℕ) (outcomes sent : List Outcome) (o : Outcome) (later : List Outcome)
      → and_telling net hops plan bad times outcomes ≡ sent ++ o ∷ later → length outcomes ≤ length sent → telling plan sent ≡ Some o.entry
  telling_next zero outcomes sent o later e long = absurd (too_short outcomes sent o later e long)
  telling_next (suc times) outcomes sent o later e long = by_next (λ more f l. telling_next times more sent o later f l) (telling plan outcomes) refl e
    where
      by_next : ((more : List Outcome) → and_telling net hops plan bad times more ≡ sent ++ o ∷ later → length more ≤ length sent → telling plan sent ≡ Some o.entry)
          → (next : Option ℕ) → telling plan outcomes ≡ next → and_told net hops plan bad (and_telling net hops plan bad times) outcomes next ≡ sent ++ o ∷ later
          → telling plan sent ≡ Some o.entry
      by_next go_on None is d = absurd (too_short outcomes sent o later d long)
      by_next go_on (Some n) is d =
          let new = outcome_of net hops bad plan.table n in
          let last = new ∷ [] in
          let one : length (outcomes ++ last) ≡ length outcomes + length last = length-append outcomes last in
          ⊎_elim (λ (more : length outcomes < length sent). go_on (outcomes ++ last) d (omega (arith, one)))
          (λ (less : length sent ≤ length outcomes).
          let front = telling_front times (outcomes ++ last) in
          let parted : outcomes ++ new ∷ front.0 ≡ sent ++ o ∷ later = sym (append_assoc outcomes last front.0) ∙ (sym front.1 ∙ d) in
          let same = same_at_seam outcomes sent new o front.0 later parted (omega arith) in
          sym (ap (telling plan) same.0) ∙ (is ∙ ap (λ (x : Outcome). Some x.entry) same.1))
          (cases_lt (length outcomes) (length sent))

  -- how many reserved entries have no verdict
  abbrev still_open : List Outcome → ℕ
  still_open outcomes = length (filter (λ n. not (has_verdict outcomes n)) (reserved plan))

  -- one fewer after each telling entry
  fewer_open : (outcomes : List Outcome) (n : ℕ) → telling plan outcomes ≡ Some n → still_open (outcomes ++ outcome_of net hops bad plan.table n ∷ []) < still_open outcomes
  fewer_open outcomes n is =
      let new = outcome_of net hops bad plan.table n in
      let before : List ℕ = entries_of outcomes in
      let after : List ℕ = entries_of (outcomes ++ new ∷ []) in
      let more : after ≡ before ++ n ∷ [] = map-append (λ (o : Outcome). o.entry) outcomes (new ∷ []) in
      fewer_kept (λ m. not (has before m)) (λ m. not (has after m)) (reserved plan) n
      (λ m free. not_from_false (has before m) (has-false before m (λ c. not_in after m free (subst (λ (l : List ℕ). Contains l m) (sym more) (Contains-append_left before (n ∷ []) m c)))))
      (telling_reserved plan outcomes n is)
      (telling_new plan outcomes n is)
      (not_from_true (has after n) (has-from after n (subst (λ (l : List ℕ). Contains l n) (sym more) (Contains-append_right before (n ∷ []) n (Contains-cons_same n [])))))

  -- after as many as have no verdict none is left to tell
  pub telling_ends : (times : ℕ) (outcomes : List Outcome) → still_open outcomes ≤ times → telling plan (and_telling net hops plan bad times outcomes) ≡ None
  telling_ends zero outcomes few = by_next (telling plan outcomes) refl
    where
      by_next : (next : Option ℕ) → telling plan outcomes ≡ next → next ≡ None
      by_next None is = refl
      by_next (Some n) is = let less = fewer_open outcomes n is in absurd (omega arith)
  telling_ends (suc times) outcomes few = by_next (telling_ends times) (telling plan outcomes) refl
    where
      by_next : ((more : List Outcome) → still_open more ≤ times → telling plan (and_telling net hops plan bad times more) ≡ None) → (next : Option ℕ)
          → telling plan outcomes ≡ next → telling plan (and_told net hops plan bad (and_telling net hops plan bad times) outcomes next) ≡ None
      by_next go_on None is = is
      by_next go_on (Some n) is =
          let less = fewer_open outcomes n is in
          go_on (outcomes ++ outcome_of net hops bad plan.table n ∷ []) (omega arith)

  pub follow_ends : telling plan (follow net hops plan bad) ≡ None
  follow_ends =
      let first = map (outcome_of net hops bad plan.table) plan.probes in
      telling_ends (length (reserved plan)) first (filter_shorter (λ n. not (has_verdict first n)) (reserved plan))
