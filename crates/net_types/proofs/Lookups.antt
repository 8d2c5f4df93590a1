-- What look-ups of a network's parts give.
use Rattle.std.proofs.Common.{◌≡◌, ℕ, zero, suc, eqb, true, List, [], ◌∷◌, Bor, map, Option, Some, None, sym, ap, refl, arith, ◌∙◌}
use Rattle.std.specs.List.{find, list_any, slice_get}
use Rattle.std.specs.Option.{option_map, option_copied, is_some}
use Rattle.std.proofs.lemmas.Bool.Decides.{nat_tests}
use Rattle.net_types.specs.declared.rule.Rule.{Rule}
use Rattle.net_types.specs.Rules.{numbered, model_of, rule_with}
use Rattle.network_model.specs.Network.{value_at}
use Rattle.std.specs.Slice.{IsItemAt}
use Rattle.std.proofs.lemmas.Option.{slice_get_past}
use Rattle.net_types.proofs.Placed.{get_at}
use Rattle.net_types.proofs.Finds.{Nowhere, First, found, looked_up}

-- the rule that is found has the number
pub with_number : (rules : List Rule) (id : ℕ) (answer : Option Rule) → answer ≡ find (λ r. eqb r.id id) rules → option_map numbered answer ≡ rule_with id (option_map model_of answer)
with_number rules id None is = refl
with_number rules id (Some r) is = elim (found (λ (r : Rule). eqb r.id id) rules) [
  | Nowhere none fail ↦ absurd (let gone = is ∙ none in cc)
  | First i x some inside at passes fail ↦
      let same : r ≡ x = (let both = is ∙ some in cc) in
      let number : r.id ≡ id = (let here : eqb x.id id ≡ true = passes in rw same (grind (arith, nat_tests, here))) in
      ap (λ n. Some (n, model_of r)) number
]

pub rule_looked_up : (rules : List Rule) (id : ℕ) (answer : Option Rule) → answer ≡ find (λ r. eqb r.id id) rules → option_map numbered answer ≡ rule_with id (value_at (map numbered rules) id)
rule_looked_up rules id answer is = with_number rules id answer is ∙ ap (rule_with id) (looked_up numbered rules id answer is)

-- what a read of a list gives
pub got_item : {X : Type 0} (xs : List X) (i : ℕ) (r : Option (Bor X)) → IsItemAt xs i r → option_copied r ≡ slice_get xs i
got_item xs i None h = sym (slice_get_past xs i (grind (arith, nat_tests, h.0)))
got_item xs i (Some x) h = ap Some h.1 ∙ sym (get_at xs i x.now (grind (arith, nat_tests, h.0)))

-- an element as what it means
pub get-map : {X Y : Type 0} (f : X → Y) (xs : List X) (k : ℕ) → slice_get (map f xs) k ≡ option_map f (slice_get xs k)
get-map f [] k = refl
get-map f (x ∷ xs) zero = refl
get-map f (x ∷ xs) (suc k) = get-map f xs k

among : (ns : List ℕ) (id : ℕ) → is_some (find (λ n. eqb n id) ns) ≡ list_any (eqb id) ns
among [] id = refl
among (n ∷ ns) id = (let rest = among ns id in grind (arith, nat_tests, rest))

-- whether a box is found
pub box_found : (boxes : List ℕ) (id : ℕ) (answer : Option (Bor ℕ)) → option_copied answer ≡ find (λ n. eqb n id) boxes → is_some answer ≡ list_any (eqb id) boxes
box_found boxes id answer is = copied answer ∙ ap is_some is ∙ among boxes id
  where
    copied : (o : Option (Bor ℕ)) → is_some o ≡ is_some (option_copied o)
    copied None = refl
    copied (Some n) = refl
