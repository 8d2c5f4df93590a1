-- At unnamed ports of one box the same rule takes a header.
use Rattle.std.specs.Prelude.{◌≡◌, ◌≢◌, ◌&&◌, ℕ, Bool, true, false, not, List, [], ◌∷◌, Some, Contains}
use Rattle.std.proofs.Common.{refl, sym, ap, ◌∙◌, cond, eqb}
use Rattle.std.specs.List.{find, list_all}
use Rattle.std.proofs.lemmas.Bool.{eqb-true, ne_eqb}
use Rattle.list_laws.proofs.Members.{Contains-cons_same, Contains-cons_later}
use Rattle.network_model.specs.Bits.{Header, matches}
use Rattle.network_model.specs.Network.{value_at, Network, Numbered, InPort, AnyPort, OnePort, port_fits, takes, precedes, is_first, hit}
use Rattle.twin_laws.specs.Twins.{IsUnnamed}

-- tests that agree on the members of a list agree on the list
all_alike : {A : Type 0} (p q : A → Bool) (xs : List A) → ((x : A) → Contains xs x → p x ≡ q x) → list_all p xs ≡ list_all q xs
all_alike p q [] alike = refl
all_alike p q (x ∷ xs) alike =
    ap (λ b. b && list_all p xs) (alike x (Contains-cons_same x xs))
    ∙ ap (λ b. q x && b) (all_alike p q xs (λ y there. alike y (Contains-cons_later x y xs there)))

find_alike : {A : Type 0} (p q : A → Bool) (xs : List A) → ((x : A) → Contains xs x → p x ≡ q x) → find p xs ≡ find q xs
find_alike p q [] alike = refl
find_alike p q (x ∷ xs) alike =
    ap (λ b. cond b (Some x) (find p xs)) (alike x (Contains-cons_same x xs))
    ∙ ap (λ rest. cond (q x) (Some x) rest) (find_alike p q xs (λ y there. alike y (Contains-cons_later x y xs there)))

module _ (net : Network) (box p q : ℕ) (in_p : value_at net.ports p ≡ Some box) (in_q : value_at net.ports q ≡ Some box)
    (p_unnamed : IsUnnamed net box p) (q_unnamed : IsUnnamed net box q) (header : Header) where
  same_takes : (r : Numbered) → Contains net.rules r → takes net p header r ≡ takes net q header r
  same_takes r there = rw (in_p, in_q) (by_box (eqb box r.1.at) refl)
    where
      other : (own port : ℕ) → r.1.inp ≡ OnePort own → r.1.inp ≢ OnePort port → eqb own port ≡ false
      other own port is unnamed = ne_eqb own port (λ same. unnamed (is ∙ ap (λ n. OnePort n) same))

      by_port : eqb box r.1.at ≡ true → (i : InPort) → r.1.inp ≡ i → port_fits i p ≡ port_fits i q
      by_port here AnyPort is = refl
      by_port here (OnePort own) is =
          let at : r.1.at ≡ box = sym (eqb-true box r.1.at here) in
          other own p is (p_unnamed r there at) ∙ sym (other own q is (q_unnamed r there at))

      by_box : (c : Bool) → eqb box r.1.at ≡ c
          → (eqb box r.1.at && (port_fits r.1.inp p && matches r.1.pattern header)) ≡ (eqb box r.1.at && (port_fits r.1.inp q && matches r.1.pattern header))
      by_box false is = rw is refl
      by_box true is = ap (λ b. eqb box r.1.at && (b && matches r.1.pattern header)) (by_port is r.1.inp refl)

  same_first : (r : Numbered) → Contains net.rules r → is_first net p header r ≡ is_first net q header r
  same_first r there =
      ap (λ b. b && list_all (λ other. not (takes net p header other && precedes other r)) net.rules) (same_takes r there)
      ∙ ap (λ b. takes net q header r && b)
      (all_alike (λ other. not (takes net p header other && precedes other r)) (λ other. not (takes net q header other && precedes other r)) net.rules
      (λ other inside. ap (λ b. not (b && precedes other r)) (same_takes other inside)))

  pub same_hit : hit net p header ≡ hit net q header
  same_hit = find_alike (is_first net p header) (is_first net q header) net.rules same_first
