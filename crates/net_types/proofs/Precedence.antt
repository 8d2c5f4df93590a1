-- Of a box's rules in the order in which it tries them, the first that takes a packet is the one that hits.
use Rattle.std.proofs.Common.{◌≡◌, ℕ, ◌<◌, Bool, true, false, not, ◌&&◌, List, length, get_or, Some, sym, ap, refl, subst, arith, ◌∙◌, ◌⊎◌, inl, inr}
use Rattle.std.specs.List.{find, Contains, AllPairs, list_all}
use Rattle.std.proofs.lemmas.List.Sums.{AllPass-from_list_all, list_all-from_AllPass}
use Rattle.std.proofs.lemmas.List.Elements.{Contains-get_or, All-contains}
use Rattle.std.proofs.lemmas.Bool.Decides.{nat_tests}
use Rattle.model_laws.proofs.Precedence.{not_itself}
use Rattle.network_model.specs.Bits.{Header}
use Rattle.network_model.specs.Network.{Network, Numbered, takes, precedes, is_first, hit}
use Rattle.network_model.specs.WellFormed.{Rises}
use Rattle.net_types.proofs.Finds.{Nowhere, First, found, find_only, find_nothing}
use Rattle.net_types.proofs.Rows.{one_place}

-- of two rules with different numbers one precedes the other
pub neither : (a b : Numbered) → precedes a b ≡ false → precedes b a ≡ false → a.0 ≡ b.0
neither a b ab ba = grind (arith, nat_tests)

module _ (net : Network) (port : ℕ) (header : Header) where
  pub first_takes : (r : Numbered) → is_first net port header r ≡ true → takes net port header r ≡ true
  first_takes r first = grind (arith, first)

  pub first_preceded : (r other : Numbered) → is_first net port header r ≡ true → Contains net.rules other → takes net port header other ≡ true → precedes other r ≡ false
  first_preceded r other first contained taken =
      let all : list_all (λ o. not (takes net port header o && precedes o r)) net.rules ≡ true = grind (arith, first) in
      let here : not (takes net port header other && precedes other r) ≡ true =
      All-contains (λ o. not (takes net port header o && precedes o r) ≡ true) net.rules other (AllPass-from_list_all _ net.rules all) contained in
      grind (arith, here, taken)

  -- a rule that takes the packet and that no other such rule precedes
  pub is_first_from : (r : Numbered) → takes net port header r ≡ true → ((other : Numbered) → Contains net.rules other → takes net port header other ≡ true → precedes other r ≡ false) → is_first net port header r ≡ true
  is_first_from r taken least =
      let each : (other : Numbered) → Contains net.rules other → (b : Bool) → takes net port header other ≡ b → not (takes net port header other && precedes other r) ≡ true =
      λ other contained b is. by_taken other contained b is in
      let all : list_all (λ o. not (takes net port header o && precedes o r)) net.rules ≡ true =
      list_all-from_AllPass _ net.rules (λ k d below. each (get_or net.rules k d) (Contains-get_or net.rules k d below) _ refl) in
      grind (arith, all, taken)
    where
      by_taken : (other : Numbered) → Contains net.rules other → (b : Bool) → takes net port header other ≡ b → not (takes net port header other && precedes other r) ≡ true
      by_taken other contained true is = let last = least other contained is in grind (arith, is, last)
      by_taken other contained false is = grind (arith, is)

  module _ (rises : Rises net.rules) (order : List Numbered) (sound : (r : Numbered) → Contains order r → Contains net.rules r) (complete : (r : Numbered) → Contains net.rules r → takes net port header r ≡ true → Contains order r) (sorted : AllPairs (λ a b. precedes b a ≡ false) order) where
    at_first : (i : ℕ) (r : Numbered) → i < length order → ((d : Numbered) → get_or order i d ≡ r) → takes net port header r ≡ true → ((j : ℕ) (d : Numbered) → j < i → takes net port header (get_or order j d) ≡ false) → hit net port header ≡ Some r
    at_first i r inside is taken fail =
        find_only (is_first net port header) net.rules r contained first only
      where
        contained : Contains net.rules r
        contained = sound r (i, inside, is r)

        least_at : (other : Numbered) (j : ℕ) → j < length order → get_or order j other ≡ other → takes net port header other ≡ true → (j < i) ⊎ ((j ≡ i) ⊎ (i < j)) → precedes other r ≡ false
        least_at other j j_in j_is other_taken (inl before) = absurd (let fails = fail j other before in grind (arith, fails, j_is, other_taken))
        least_at other j j_in j_is other_taken (inr (inl same)) =
            let one : other ≡ r = sym j_is ∙ ap (λ n. get_or order n other) same ∙ is other in
            rw one (not_itself r)
        least_at other j j_in j_is other_taken (inr (inr after)) =
            let pair : precedes (get_or order j other) (get_or order i other) ≡ false = sorted i j other after j_in in
            subst (λ (o : Numbered). precedes o r ≡ false) j_is (subst (λ (o : Numbered). precedes (get_or order j other) o ≡ false) (is other) pair)

        three : (m n : ℕ) → (m < n) ⊎ ((m ≡ n) ⊎ (n < m))
        three m n = grind arith

        least : (other : Numbered) → Contains net.rules other → takes net port header other ≡ true → precedes other r ≡ false
        least other other_in other_taken = let (j, j_in, j_is) = complete other other_in other_taken in least_at other j j_in j_is other_taken (three j i)

        first : is_first net port header r ≡ true
        first = is_first_from r taken least

        only : (x : Numbered) → Contains net.rules x → is_first net port header x ≡ true → x ≡ r
        only x x_in x_first = one_place (λ (e : Numbered). e.0) net.rules rises x r x_in contained
            (neither x r (first_preceded r x first x_in (first_takes x x_first)) (first_preceded x r x_first contained taken))

    pub hit_in_order : hit net port header ≡ find (takes net port header) order
    hit_in_order = elim (found (takes net port header) order) [
      | Nowhere none fail ↦ find_nothing (is_first net port header) net.rules (λ j d below.
          no_first (get_or net.rules j d) (Contains-get_or net.rules j d below) fail _ refl) ∙ sym none
      | First i r some inside is taken fail ↦ at_first i r inside is taken fail ∙ sym some
    ]
      where
        no_first : (x : Numbered) → Contains net.rules x → ((r : Numbered) → Contains order r → takes net port header r ≡ false) → (b : Bool) → takes net port header x ≡ b → is_first net port header x ≡ false
        no_first x x_in fail true is = absurd (let fails = fail x (complete x x_in is) in cc)
        no_first x x_in fail false is = grind (arith, is)
