-- One more number of a list that a test keeps or leaves out.
use Rattle.std.specs.Prelude.{None, ◌≡◌, ℕ, zero, suc, ◌+◌, ◌<◌, Bool, true, false, cond, List, [], ◌∷◌, ◌++◌, length, map, take, nat_eq, slice_get, slice_index_or as get_or, Some}
use Rattle.std.specs.List.{filter, list_any, range_with_len}
use Rattle.std.proofs.Common.{ap, ◌∙◌, arith, add-one}
use Rattle.std.proofs.lemmas.List.{append-nil, map-append, take_more, length-map, get_or-map}
use Rattle.std.proofs.lemmas.List.Elements.{filter-append}
use Rattle.std.proofs.lemmas.Option.{slice_get_within, get_or_from_slice_get}
use Rattle.network_model.specs.Network.{Numbered}
use Rattle.rule_cover.specs.Places.{Tells}

-- a list that grows by a number which the test keeps
pub kept_push : (p : ℕ → Bool) (whole part : List ℕ) (r : ℕ) → whole ≡ part ++ r ∷ [] → p r ≡ true → filter p whole ≡ filter p part ++ r ∷ []
kept_push p whole part r e t =
    ap (λ (l : List ℕ). filter p l) e ∙ (filter-append p part (r ∷ []) ∙ ap (λ (b : Bool). filter p part ++ cond b (r ∷ []) []) t)

-- and by one which it leaves out
pub left_out_push : (p : ℕ → Bool) (whole part : List ℕ) (r : ℕ) → whole ≡ part ++ r ∷ [] → p r ≡ false → filter p whole ≡ filter p part
left_out_push p whole part r e t =
    ap (λ (l : List ℕ). filter p l) e ∙ (filter-append p part (r ∷ []) ∙ (ap (λ (b : Bool). filter p part ++ cond b (r ∷ []) []) t ∙ append-nil (filter p part)))

range_suc : (a k : ℕ) → range_with_len a (suc k) ≡ range_with_len a k ++ (a + k) ∷ []
range_suc a zero = ap (λ (n : ℕ). n ∷ []) (omega arith)
range_suc a (suc k) =
    let last : a + 1 + k ≡ a + suc k = omega arith in
    ap (λ (l : List ℕ). a ∷ l) (range_suc (a + 1) k ∙ ap (λ (n : ℕ). range_with_len (a + 1) k ++ n ∷ []) last)

pub range_more : (k : ℕ) → range_with_len 1 (k + 1) ≡ range_with_len 1 k ++ (k + 1) ∷ []
range_more k =
    let last : 1 + k ≡ k + 1 = omega arith in
    ap (λ (n : ℕ). range_with_len 1 n) (add-one k) ∙ (range_suc 1 k ∙ ap (λ (n : ℕ). range_with_len 1 k ++ n ∷ []) last)

pub map_take_more : {X : Type 0} (f : X → ℕ) (xs : List X) (i : ℕ) (x : X) → slice_get xs i ≡ Some x → map f (take (i + 1) xs) ≡ map f (take i xs) ++ f x ∷ []
map_take_more {X} f xs i x e =
    let l : i < length xs = slice_get_within xs i x e in
    ap (λ (ys : List X). map f ys) (take_more xs i x l)
    ∙ (map-append f (take i xs) (get_or xs i x ∷ []) ∙ ap (λ (y : X). map f (take i xs) ++ f y ∷ []) (get_or_from_slice_get xs i x x e))

pub none_within : {X : Type 0} (xs : List X) (i : ℕ) → i < length xs → None ≡ slice_get xs i → ⊥
none_within [] i l e = omega arith
none_within (x ∷ xs) zero l e = cc
none_within (x ∷ xs) (suc i) l e = none_within xs i (omega arith) e

-- a test of places at a rule's place
pub told_rule : (rules : List Numbered) (known : List ℕ) (test : ℕ → Bool) (i : ℕ) (r : Numbered) → Tells (map (λ (x : Numbered). x.0) rules) known test → slice_get rules i ≡ Some r → test i ≡ list_any (nat_eq r.0) known
told_rule rules known test i r told e =
    let number : Numbered → ℕ = λ (x : Numbered). x.0 in
    let l : i < length rules = slice_get_within rules i r e in
    told i (omega (arith, length-map rules number)) ∙ ap (λ (n : ℕ). list_any (nat_eq n) known) (get_or-map number rules i r 0 l ∙ ap number (get_or_from_slice_get rules i r r e))
