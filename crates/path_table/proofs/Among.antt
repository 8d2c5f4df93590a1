-- A test by number tells whether the number is in a list, and a loop keeps what passes a test.
use Rattle.std.specs.Prelude.{Contains}
use Rattle.std.proofs.Common.{◌≡◌, ◌↔◌, ℕ, ◌<◌, ◌+◌, Bool, true, false, cond, ◌||◌, List, [], ◌∷◌, ◌++◌, length, get_or, take, ⊎_elim, refl, sym, ap, ◌∙◌, subst, nat_eq}
use Rattle.std.specs.List.{list_any, filter}
use Rattle.std.proofs.lemmas.Bool.{eq-eqb, eqb-true}
use Rattle.std.proofs.lemmas.List.{append-nil}
use Rattle.std.proofs.lemmas.List.Elements.{filter_more}
use Rattle.std.proofs.lemmas.Map.Views.{Contains-from_any}
use Rattle.list_laws.proofs.Members.{Contains-nil, Contains-cons_cases}

any_later : (b c : Bool) → c ≡ true → (b || c) ≡ true
any_later true c e = refl
any_later false c e = e

any_there : (xs : List ℕ) (x : ℕ) → Contains xs x → list_any (λ y. nat_eq y x) xs ≡ true
any_there [] x there = absurd (Contains-nil x there)
any_there (y ∷ ys) x there = ⊎_elim
    (λ same. ap (λ (b : Bool). b || list_any (λ z. nat_eq z x) ys) (eq-eqb y x same))
    (λ later. any_later (nat_eq y x) (list_any (λ z. nat_eq z x) ys) (any_there ys x later))
    (Contains-cons_cases y x ys there)

pub among : (xs : List ℕ) (x : ℕ) → (list_any (λ y. nat_eq y x) xs ≡ true) ↔ Contains xs x
among xs x = (
  λ found. Contains-from_any {eq = λ (z y : ℕ). nat_eq y z} (λ z y same. sym (eqb-true y z same)) x xs found,
  any_there xs x,
)

pub passed : {X : Type 0} (p : X → Bool) (xs some : List X) (i : ℕ) (x : X) → i < length xs → x ≡ get_or xs i x → some ≡ filter p (take i xs) → p x ≡ true
    → some ++ x ∷ [] ≡ filter p (take (i + 1) xs)
passed {X} p xs some i x inside is so_far passes =
    let at : p (get_or xs i x) ≡ true = subst (λ (y : X). p y ≡ true) is passes in
    ap (λ (l : List X). l ++ x ∷ []) so_far ∙ ap (λ (y : X). filter p (take i xs) ++ y ∷ []) is
    ∙ sym (filter_more p xs i x inside ∙ ap (λ (b : Bool). filter p (take i xs) ++ cond b (get_or xs i x ∷ []) []) at)

pub passed_over : {X : Type 0} (p : X → Bool) (xs some : List X) (i : ℕ) (x : X) → i < length xs → x ≡ get_or xs i x → some ≡ filter p (take i xs) → p x ≡ false
    → some ≡ filter p (take (i + 1) xs)
passed_over {X} p xs some i x inside is so_far fails =
    let at : p (get_or xs i x) ≡ false = subst (λ (y : X). p y ≡ false) is fails in
    so_far ∙ sym (filter_more p xs i x inside ∙ ap (λ (b : Bool). filter p (take i xs) ++ cond b (get_or xs i x ∷ []) []) at ∙ append-nil (filter p (take i xs)))
