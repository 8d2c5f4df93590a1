-- What the lists of findings have.
use Rattle.std.specs.Prelude.{◌≡◌, ℕ, Bool, true, false, not, List, [], ◌∷◌, None, Some, Contains, nat_eq}
use Rattle.std.specs.List.{filter, find, list_any, list_all}
use Rattle.std.proofs.Common.{refl, sym, ap, subst, ⊎_elim}
use Rattle.std.proofs.lemmas.Bool.{eqb-true, true≢false, or_cases, or_left, or_right, and_parts, not-true, not_from_false, both_ways, false_from_ne_true}
use Rattle.std.proofs.lemmas.Cmp.{nat_eq_equiv}
use Rattle.std.proofs.lemmas.List.Elements.{Contains-append_left, Contains-append_right, Contains-append_cases}
use Rattle.std.proofs.lemmas.Map.Views.{Contains-from_any, list_any-from_Contains}
use Rattle.list_laws.proofs.Members.{Contains-cons_same, Contains-cons_later, Contains-cons_cases, Contains-nil, Contains-map, Contains-from_map, Contains-filter, Contains-from_filter, passes_of}
use Rattle.network_model.specs.Table.{Entry}
use Rattle.network_model.specs.Cover.{rules_at, entry_at, rules_of}
use Rattle.fault_model.specs.Outcomes.{Verdict, Pass, Fail, Outcome, is_pass, is_fail, passed, failed, has, meets}
use Rattle.fault_model.specs.Findings.{cleared, outside, is_only}

pub has-true : (xs : List ℕ) (n : ℕ) → has xs n ≡ true → Contains xs n
has-true xs n h = Contains-from_any eqb-true n xs h

pub has-from : (xs : List ℕ) (n : ℕ) → Contains xs n → has xs n ≡ true
has-from xs n c = list_any-from_Contains nat_eq_equiv n xs c

pub has-false : (xs : List ℕ) (n : ℕ) → (Contains xs n → ⊥) → has xs n ≡ false
has-false xs n never = false_from_ne_true (has xs n) (λ h. never (has-true xs n h))

-- an element that passes a test, and one that passes it from an element
pub any_place : {A : Type 0} (p : A → Bool) (xs : List A) → list_any p xs ≡ true → (x : A) × (Contains xs x × (p x ≡ true))
any_place p [] h = absurd (true≢false (sym h))
any_place {A} p (x ∷ xs) h =
    ⊎_elim (λ here. (x, (Contains-cons_same x xs, here)))
    (λ later. let rest = any_place p xs later in (rest.0, (Contains-cons_later x rest.0 xs rest.1.0, rest.1.1)))
    (or_cases (p x) (list_any p xs) h)

pub any_from : {A : Type 0} (p : A → Bool) (xs : List A) (x : A) → Contains xs x → p x ≡ true → list_any p xs ≡ true
any_from p [] x c h = absurd (Contains-nil x c)
any_from p (y ∷ ys) x c h =
    ⊎_elim (λ same. or_left (p y) (list_any p ys) (subst (λ z. p z ≡ true) (sym same) h))
    (λ later. or_right (p y) (list_any p ys) (any_from p ys x later h))
    (Contains-cons_cases y x ys c)

-- each element passes where all do, and one doesn't where not all do
pub all_at : {A : Type 0} (p : A → Bool) (xs : List A) (x : A) → list_all p xs ≡ true → Contains xs x → p x ≡ true
all_at p [] x h c = absurd (Contains-nil x c)
all_at p (y ∷ ys) x h c =
    let parts = and_parts (p y) (list_all p ys) h in
    ⊎_elim (λ same. subst (λ z. p z ≡ true) same parts.0) (λ later. all_at p ys x parts.1 later) (Contains-cons_cases y x ys c)

pub all_from : {A : Type 0} (p : A → Bool) (xs : List A) → ((x : A) → Contains xs x → p x ≡ true) → list_all p xs ≡ true
all_from p [] each = refl
all_from p (x ∷ xs) each =
    let here : p x ≡ true = each x (Contains-cons_same x xs) in
    rw here (all_from p xs (λ y c. each y (Contains-cons_later x y xs c)))

pub not_all_place : {A : Type 0} (p : A → Bool) (xs : List A) → list_all p xs ≡ false → (x : A) × (Contains xs x × (p x ≡ false))
not_all_place p [] h = absurd (true≢false h)
not_all_place {A} p (x ∷ xs) h = by_test (not_all_place p xs) (p x) refl
  where
    by_test : (list_all p xs ≡ false → (y : A) × (Contains xs y × (p y ≡ false))) → (b : Bool) → p x ≡ b → (y : A) × (Contains (x ∷ xs) y × (p y ≡ false))
    by_test go_on false is = (x, (Contains-cons_same x xs, is))
    by_test go_on true is =
        let rest = go_on (rw is at h) in
        (rest.0, (Contains-cons_later x rest.0 xs rest.1.0, rest.1.1))

-- what a search finds passes, and where it finds nothing nothing passes
pub find_some : {A : Type 0} (p : A → Bool) (xs : List A) (x : A) → find p xs ≡ Some x → Contains xs x × (p x ≡ true)
find_some p [] x h = cc
find_some {A} p (y ∷ ys) x h = by_test (find_some p ys x) (p y) refl
  where
    by_test : (find p ys ≡ Some x → Contains ys x × (p x ≡ true)) → (b : Bool) → p y ≡ b → Contains (y ∷ ys) x × (p x ≡ true)
    by_test go_on true is =
        let found : Some y ≡ Some x = rw is at h in
        let same : y ≡ x = cc in
        (subst (Contains (y ∷ ys)) same (Contains-cons_same y ys), subst (λ z. p z ≡ true) same is)
    by_test go_on false is =
        let rest = go_on (rw is at h) in
        (Contains-cons_later y x ys rest.0, rest.1)

pub find_none : {A : Type 0} (p : A → Bool) (xs : List A) (x : A) → find p xs ≡ None → Contains xs x → p x ≡ false
find_none p [] x h c = absurd (Contains-nil x c)
find_none {A} p (y ∷ ys) x h c = by_test (find_none p ys x) (p y) refl
  where
    by_test : (find p ys ≡ None → Contains ys x → p x ≡ false) → (b : Bool) → p y ≡ b → p x ≡ false
    by_test go_on true is = let found : Some y ≡ None = rw is at h in cc
    by_test go_on false is =
        ⊎_elim (λ same. subst (λ z. p z ≡ false) same is) (λ later. go_on (rw is at h) later) (Contains-cons_cases y x ys c)

pub find_none_from : {A : Type 0} (p : A → Bool) (xs : List A) → ((x : A) → Contains xs x → p x ≡ false) → find p xs ≡ None
find_none_from p [] each = refl
find_none_from p (x ∷ xs) each =
    let here : p x ≡ false = each x (Contains-cons_same x xs) in
    rw here (find_none_from p xs (λ y c. each y (Contains-cons_later x y xs c)))

-- the rules of some entries
pub rules_of_has : (table : List Entry) (ns : List ℕ) (n r : ℕ) → Contains ns n → Contains (rules_at (entry_at table n)) r → Contains (rules_of table ns) r
rules_of_has table [] n r c on = absurd (Contains-nil n c)
rules_of_has table (m ∷ ns) n r c on =
    let own = rules_at (entry_at table m) in
    ⊎_elim (λ same. Contains-append_left own (rules_of table ns) r (subst (λ k. Contains (rules_at (entry_at table k)) r) (sym same) on))
    (λ later. Contains-append_right own (rules_of table ns) r (rules_of_has table ns n r later on))
    (Contains-cons_cases m n ns c)

pub rules_of_place : (table : List Entry) (ns : List ℕ) (r : ℕ) → Contains (rules_of table ns) r → (n : ℕ) × (Contains ns n × Contains (rules_at (entry_at table n)) r)
rules_of_place table [] r c = absurd (Contains-nil r c)
rules_of_place table (m ∷ ns) r c =
    ⊎_elim (λ own. (m, (Contains-cons_same m ns, own)))
    (λ rest. let place = rules_of_place table ns r rest in (place.0, (Contains-cons_later m place.0 ns place.1.0, place.1.1)))
    (Contains-append_cases (rules_at (entry_at table m)) (rules_of table ns) r c)

-- an outcome of this entry with this verdict
abbrev pub HasOutcome : List Outcome → ℕ → Verdict → Type 0
HasOutcome outcomes n verdict = (o : Outcome) × (Contains outcomes o × (o.entry ≡ n) × (o.verdict ≡ verdict))

pass_is : (v : Verdict) → is_pass v ≡ true → v ≡ Pass
pass_is Pass h = refl
pass_is Fail h = cc

fail_is : (v : Verdict) → is_fail v ≡ true → v ≡ Fail
fail_is Pass h = cc
fail_is Fail h = refl

pub passed_outcome : (outcomes : List Outcome) (n : ℕ) → Contains (passed outcomes) n → HasOutcome outcomes n Pass
passed_outcome outcomes n c =
    let test = λ (o : Outcome). is_pass o.verdict in
    let place = Contains-from_map (λ (o : Outcome). o.entry) (filter test outcomes) n c in
    (place.0, (Contains-from_filter test outcomes place.0 place.1.0, place.1.1, pass_is place.0.verdict (passes_of test outcomes place.0 place.1.0)))

pub failed_outcome : (outcomes : List Outcome) (n : ℕ) → Contains (failed outcomes) n → HasOutcome outcomes n Fail
failed_outcome outcomes n c =
    let test = λ (o : Outcome). is_fail o.verdict in
    let place = Contains-from_map (λ (o : Outcome). o.entry) (filter test outcomes) n c in
    (place.0, (Contains-from_filter test outcomes place.0 place.1.0, place.1.1, fail_is place.0.verdict (passes_of test outcomes place.0 place.1.0)))

pub passed_has : (outcomes : List Outcome) (o : Outcome) → Contains outcomes o → o.verdict ≡ Pass → Contains (passed outcomes) o.entry
passed_has outcomes o c is =
    let test = λ (x : Outcome). is_pass x.verdict in
    Contains-map (λ (x : Outcome). x.entry) (filter test outcomes) o (Contains-filter test outcomes o c (ap is_pass is))

pub failed_has : (outcomes : List Outcome) (o : Outcome) → Contains outcomes o → o.verdict ≡ Fail → Contains (failed outcomes) o.entry
failed_has outcomes o c is =
    let test = λ (x : Outcome). is_fail x.verdict in
    Contains-map (λ (x : Outcome). x.entry) (filter test outcomes) o (Contains-filter test outcomes o c (ap is_fail is))

-- a rule on an entry that passed is cleared
pub cleared_has : (table : List Entry) (outcomes : List Outcome) (o : Outcome) (r : ℕ) → Contains outcomes o → o.verdict ≡ Pass
    → Contains (rules_at (entry_at table o.entry)) r → Contains (cleared table outcomes) r
cleared_has table outcomes o r c is on = rules_of_has table (passed outcomes) o.entry r (passed_has outcomes o c is) on

-- the rules of an entry that are not cleared
pub outside_has : (table : List Entry) (outcomes : List Outcome) (n r : ℕ) → Contains (rules_at (entry_at table n)) r
    → (Contains (cleared table outcomes) r → ⊥) → Contains (outside table outcomes n) r
outside_has table outcomes n r on never =
    Contains-filter (λ q. not (has (cleared table outcomes) q)) (rules_at (entry_at table n)) r on
    (not_from_false (has (cleared table outcomes) r) (has-false (cleared table outcomes) r never))

pub not_in : (xs : List ℕ) (r : ℕ) → not (has xs r) ≡ true → Contains xs r → ⊥
not_in xs r h c = both_ways (has xs r) (not-true (has xs r) h) (has-from xs r c)

pub outside_on : (table : List Entry) (outcomes : List Outcome) (n r : ℕ) → Contains (outside table outcomes n) r
    → Contains (rules_at (entry_at table n)) r × (Contains (cleared table outcomes) r → ⊥)
outside_on table outcomes n r c =
    let test = λ (q : ℕ). not (has (cleared table outcomes) q) in (
      Contains-from_filter test (rules_at (entry_at table n)) r c,
      not_in (cleared table outcomes) r (passes_of test (rules_at (entry_at table n)) r c),
    )

-- the only number of a list
pub only_has : (xs : List ℕ) (n : ℕ) → is_only xs n ≡ true → Contains xs n
only_has xs n h = has-true xs n (and_parts (has xs n) (list_all (nat_eq n) xs) h).0

pub only_same : (xs : List ℕ) (n m : ℕ) → is_only xs n ≡ true → Contains xs m → n ≡ m
only_same xs n m h c = eqb-true n m (all_at (nat_eq n) xs m (and_parts (has xs n) (list_all (nat_eq n) xs) h).1 c)

pub only_from : (xs : List ℕ) (n : ℕ) → Contains xs n → ((m : ℕ) → Contains xs m → n ≡ m) → is_only xs n ≡ true
only_from xs n c each =
    let here : has xs n ≡ true = has-from xs n c in
    rw here (all_from (nat_eq n) xs (λ m d. subst (λ k. nat_eq n k ≡ true) (each m d) (has-itself n)))
  where
    has-itself : (k : ℕ) → nat_eq k k ≡ true
    has-itself k = nat_eq_equiv.refl k

-- rules that meet others have one in common
pub meets_place : (bad rules : List ℕ) → meets bad rules ≡ true → (r : ℕ) × (Contains rules r × Contains bad r)
meets_place bad rules h = let place = any_place (has bad) rules h in (place.0, (place.1.0, has-true bad place.0 place.1.1))

pub meets_from : (bad rules : List ℕ) (r : ℕ) → Contains rules r → Contains bad r → meets bad rules ≡ true
meets_from bad rules r on is = any_from (has bad) rules r on (has-from bad r is)
