-- The rules of a network, declared in order where all else stands.
use Rattle.std.proofs.Common.{◌≡◌, ℕ, true, List, [], ◌∷◌, ◌++◌, map, length, Option, Some, ap, ◌∙◌, refl}
use Rattle.std.specs.Prelude.{not}
use Rattle.std.specs.Option.{is_some}
use Rattle.std.proofs.lemmas.Bool.{and_from, eq-eqb}
use Rattle.network_model.specs.Network.{Network, Numbered, InPort, AnyPort, OnePort, Action, Drop, Out, is_at, value_at}
use Rattle.network_model.specs.WellFormed.{IsWellFormed, FitsIn, FitsOut, FitsRule}
use Rattle.net_types.specs.Parts.{IsWithin}
use Rattle.net_types.specs.Refusals.{Twice, Unknown, Limit, Width, known_in, known_out, moves_fit}
use Rattle.network_model.specs.Limits.{most_rules}
use Rattle.net_text.specs.Declarations.{DeclareRule}
use Rattle.net_text.proofs.Takes.{TakesAll}
use Rattle.net_text.proofs.InOrder.{taken_in_order}
use Rattle.net_text.proofs.Rising.{All-place, keys_below, others_below, value_absent, put-last}
use Rattle.net_text.proofs.RebuiltPlaces.{passes, room, box_found}

-- what is at the box is found there
stands_at : (o : Option ℕ) (box : ℕ) → o ≡ Some box → is_at o box ≡ true
stands_at o box here = ap (λ o. is_at o box) here ∙ eq-eqb box box refl

-- of a rule that fits, the ports are known and the moves are as many as the width
in_known : (net : Network) (box : ℕ) (inp : InPort) → FitsIn net box inp → known_in net box inp ≡ true
in_known net box AnyPort fits = refl
in_known net box (OnePort port) fits = stands_at (value_at net.ports port) box fits

out_known : (net : Network) (box : ℕ) (action : Action) → FitsOut net box action → known_out net box action ≡ true
out_known net box Drop fits = refl
out_known net box (Out port moves) fits = stands_at (value_at net.ports port) box fits.0

moves_wide : (net : Network) (box : ℕ) (action : Action) → FitsOut net box action → moves_fit net.width action ≡ true
moves_wide net box Drop fits = refl
moves_wide net box (Out port moves) fits = eq-eqb (length moves) net.width fits.1

-- the network of all else and these rules
abbrev pub rules_so_far : Network → List Numbered → Network
rules_so_far net rules = record net { rules = rules }

-- rules do not matter to what is known
known_same_in : (net : Network) (rules : List Numbered) (box : ℕ) (inp : InPort) → known_in (rules_so_far net rules) box inp ≡ known_in net box inp
known_same_in net rules box AnyPort = refl
known_same_in net rules box (OnePort port) = refl

known_same_out : (net : Network) (rules : List Numbered) (box : ℕ) (action : Action)
    → known_out (rules_so_far net rules) box action ≡ known_out net box action
known_same_out net rules box Drop = refl
known_same_out net rules box (Out port moves) = refl

-- one more rule
rule_taken : (net : Network) → IsWellFormed net → IsWithin net → (before : List Numbered) (r : Numbered) (after : List Numbered)
    → before ++ r ∷ after ≡ net.rules
    → TakesAll (rules_so_far net before) (DeclareRule r.0 r.1 ∷ []) (rules_so_far net (before ++ r ∷ []))
rule_taken net formed within before r after split =
    let few = room most_rules before r after net.rules split within.rules in
    let low = keys_below before r after net.rules split formed.rules in
    let absent = value_absent r.0 before (others_below r.0 before low) in
    let Ruled : Numbered → Type 0 = λ r. FitsRule net r.1 in
    let fits = All-place Ruled before r after net.rules split formed.ruled in
    let inp = known_same_in net before r.1.at r.1.inp ∙ in_known net r.1.at r.1.inp fits.inp in
    let out = known_same_out net before r.1.at r.1.action ∙ out_known net r.1.at r.1.action fits.out in
    let known = and_from _ _ (box_found net r.1.at fits.box) (and_from _ _ inp out) in
    let wide = and_from _ _ (eq-eqb (length r.1.pattern) net.width fits.pattern) (moves_wide net r.1.at r.1.action fits.out) in (
      passes _ Twice _ (ap is_some absent)
          (passes _ Unknown _ (ap not known) (passes _ Limit _ few (passes _ Width _ (ap not wide) refl))),
      ap (rules_so_far net) (put-last r.0 r.1 before low),
    )

pub rules_taken : (net : Network) → IsWellFormed net → IsWithin net
    → TakesAll (rules_so_far net []) (map (λ r. DeclareRule r.0 r.1) net.rules) net
rules_taken net formed within = taken_in_order (rules_so_far net) (λ r. DeclareRule r.0 r.1) net.rules (rule_taken net formed within)
