-- How many numbers of a list are new, where more of them were seen.
use Rattle.std.specs.Prelude.{◌≡◌, ℕ, ◌+◌, ◌<◌, ◌≤◌, Bool, true, false, cond, ◌||◌, List, [], ◌∷◌, ◌++◌, length, take, slice_index_or as get_or, not, nat_eq}
use Rattle.std.specs.List.{list_any}
use Rattle.std.proofs.Common.{refl, sym, ap, ◌∙◌, arith, ⊎_elim}
use Rattle.std.proofs.lemmas.Bool.{true≢false, eq-eqb, not-true, not-false, or_cases, or_left, or_right}
use Rattle.std.proofs.lemmas.List.{take_more}
use Rattle.network_model.specs.Cover.{fresh}

or_moved : (a b c : Bool) → (a || (b || c)) ≡ ((b || a) || c)
or_moved true true c = refl
or_moved true false c = refl
or_moved false true c = refl
or_moved false false c = refl

-- a last number counts unless it stands among those seen or earlier in the list
pub fresh_push : (known xs : List ℕ) (r : ℕ) → fresh known (xs ++ r ∷ []) ≡ fresh known xs + cond (list_any (nat_eq r) xs || list_any (nat_eq r) known) 0 1
fresh_push known [] r = omega arith
fresh_push known (x ∷ xs) r =
    let rest = fresh_push (x ∷ known) xs r in
    let same : cond {A = ℕ} (list_any (nat_eq r) xs || (nat_eq r x || list_any (nat_eq r) known)) 0 1 ≡ cond {A = ℕ} ((nat_eq r x || list_any (nat_eq r) xs) || list_any (nat_eq r) known) 0 1 =
    ap (λ (b : Bool). cond {A = ℕ} b 0 1) (or_moved (list_any (nat_eq r) xs) (nat_eq r x) (list_any (nat_eq r) known)) in
    omega arith

fresh_at : (known xs : List ℕ) (i r : ℕ) → i < length xs → r ≡ get_or xs i r → fresh known (take (i + 1) xs) ≡ fresh known (take i xs) + cond (list_any (nat_eq r) (take i xs) || list_any (nat_eq r) known) 0 1
fresh_at known xs i r l e =
    ap (λ (l : List ℕ). fresh known l) (take_more xs i r l) ∙ (ap (λ (k : ℕ). fresh known (take i xs ++ k ∷ [])) (sym e) ∙ fresh_push known (take i xs) r)

pub fresh_new : (known xs : List ℕ) (i r : ℕ) → i < length xs → r ≡ get_or xs i r → not (list_any (nat_eq r) (take i xs) || list_any (nat_eq r) known) ≡ true → fresh known (take (i + 1) xs) ≡ fresh known (take i xs) + 1
fresh_new known xs i r l e h =
    fresh_at known xs i r l e ∙ ap (λ (b : Bool). fresh known (take i xs) + cond b 0 1) (not-true (list_any (nat_eq r) (take i xs) || list_any (nat_eq r) known) h)

pub fresh_old : (known xs : List ℕ) (i r : ℕ) → i < length xs → r ≡ get_or xs i r → not (list_any (nat_eq r) (take i xs) || list_any (nat_eq r) known) ≡ false → fresh known (take (i + 1) xs) ≡ fresh known (take i xs)
fresh_old known xs i r l e h =
    let seen : fresh known (take (i + 1) xs) ≡ fresh known (take i xs) + 0 = fresh_at known xs i r l e ∙ ap (λ (b : Bool). fresh known (take i xs) + cond b 0 1) (not-false (list_any (nat_eq r) (take i xs) || list_any (nat_eq r) known) h) in
    omega arith

-- all numbers of one list are in the other
abbrev pub Within : List ℕ → List ℕ → Type 0
Within xs ys = (r : ℕ) → list_any (nat_eq r) xs ≡ true → list_any (nat_eq r) ys ≡ true

within_cons : (x : ℕ) (known more : List ℕ) → Within known more → Within (x ∷ known) (x ∷ more)
within_cons x known more h r e =
    ⊎_elim (or_left (nat_eq r x) (list_any (nat_eq r) more)) (λ f. or_right (nat_eq r x) (list_any (nat_eq r) more) (h r f)) (or_cases (nat_eq r x) (list_any (nat_eq r) known) e)

one_fewer : (a b : Bool) → (a ≡ true → b ≡ true) → cond {A = ℕ} b 0 1 ≤ cond {A = ℕ} a 0 1
one_fewer true true h = omega arith
one_fewer true false h = absurd (true≢false (sym (h refl)))
one_fewer false true h = omega arith
one_fewer false false h = omega arith

-- no more numbers are new where more were seen
pub fresh_fewer : (known more xs : List ℕ) → Within known more → fresh more xs ≤ fresh known xs
fresh_fewer known more [] h = omega arith
fresh_fewer known more (x ∷ xs) h =
    let one = one_fewer (list_any (nat_eq x) known) (list_any (nat_eq x) more) (h x) in
    let rest = fresh_fewer (x ∷ known) (x ∷ more) xs (within_cons x known more h) in
    omega arith

-- no number is new where all were seen
pub fresh_none : (more xs : List ℕ) → Within xs more → fresh more xs ≡ 0
fresh_none more [] h = refl
fresh_none more (x ∷ xs) h =
    let first : list_any (nat_eq x) more ≡ true = h x (or_left (nat_eq x x) (list_any (nat_eq x) xs) (eq-eqb x x refl)) in
    let none : cond {A = ℕ} (list_any (nat_eq x) more) 0 1 ≡ 0 = ap (λ (b : Bool). cond {A = ℕ} b 0 1) first in
    let rest = fresh_none (x ∷ more) xs (λ r e. or_right (nat_eq r x) (list_any (nat_eq r) more) (h r (or_right (nat_eq r x) (list_any (nat_eq r) xs) e))) in
    omega arith
