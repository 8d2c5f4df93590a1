-- The boxes of a network and then its ports, declared in order from the empty network.
use Rattle.std.proofs.Common.{◌≡◌, ℕ, ◌≤◌, Bool, true, false, cond, List, [], ◌∷◌, ◌++◌, map, length, Option, Some, None, ap, ◌∙◌, refl, arith}
use Rattle.std.specs.Prelude.{nat_eq, nat_le, not}
use Rattle.std.specs.Cmp.{nat_eq_equiv}
use Rattle.std.specs.List.{Contains, list_any}
use Rattle.std.specs.Option.{is_some}
use Rattle.std.proofs.lemmas.Bool.{cond-false, lt-leb}
use Rattle.std.proofs.lemmas.Map.Views.{list_any-from_Contains}
use Rattle.network_model.specs.Network.{Network}
use Rattle.network_model.specs.Building.{empty}
use Rattle.network_model.specs.WellFormed.{IsWellFormed}
use Rattle.net_types.specs.Parts.{IsWithin}
use Rattle.net_types.specs.Refusals.{Refusal, Twice, Unknown, Limit}
use Rattle.network_model.specs.Limits.{most_boxes, most_ports}
use Rattle.net_text.specs.Declarations.{DeclareBox, DeclarePort}
use Rattle.net_text.proofs.Takes.{TakesAll}
use Rattle.net_text.proofs.InOrder.{taken_in_order}
use Rattle.net_text.proofs.Rising.{length_before, All-place, numbers_below, number_absent, put_number-last, keys_below, others_below, value_absent, put-last}

-- a test that fails refuses nothing
pub passes : (test : Bool) (r : Refusal) (rest : Option Refusal) → test ≡ false → rest ≡ None → cond test (Some r) rest ≡ None
passes test r rest fails none = cond-false test (Some r) rest fails ∙ none

-- there is room for one more
pub room : (most : ℕ) {X : Type 0} (before : List X) (x : X) (after whole : List X) → before ++ x ∷ after ≡ whole → length whole ≤ most
    → nat_le most (length before) ≡ false
room most before x after whole split within =
    let less = length_before before x after whole split in lt-leb most (length before) (omega arith)

-- a box that the network has is found
pub box_found : (net : Network) (box : ℕ) → Contains net.boxes box → list_any (nat_eq box) net.boxes ≡ true
box_found net box there = list_any-from_Contains nat_eq_equiv box net.boxes there

-- the network of these boxes
abbrev pub boxes_so_far : Network → List ℕ → Network
boxes_so_far net boxes = record (empty net.width) { boxes = boxes }

-- one more box
box_taken : (net : Network) → IsWellFormed net → IsWithin net → (before : List ℕ) (id : ℕ) (after : List ℕ) → before ++ id ∷ after ≡ net.boxes
    → TakesAll (boxes_so_far net before) (DeclareBox id ∷ []) (boxes_so_far net (before ++ id ∷ []))
box_taken net formed within before id after split =
    let low = numbers_below before id after net.boxes split formed.boxes in (
      passes _ Twice _ (number_absent before id low) (passes _ Limit _ (room most_boxes before id after net.boxes split within.boxes) refl),
      ap (boxes_so_far net) (put_number-last id before low),
    )

pub boxes_taken : (net : Network) → IsWellFormed net → IsWithin net
    → TakesAll (empty net.width) (map DeclareBox net.boxes) (boxes_so_far net net.boxes)
boxes_taken net formed within = taken_in_order (boxes_so_far net) DeclareBox net.boxes (box_taken net formed within)

-- the network of all boxes and these ports
abbrev pub ports_so_far : Network → List (ℕ × ℕ) → Network
ports_so_far net ports = record (boxes_so_far net net.boxes) { ports = ports }

-- one more port
port_taken : (net : Network) → IsWellFormed net → IsWithin net → (before : List (ℕ × ℕ)) (p : ℕ × ℕ) (after : List (ℕ × ℕ))
    → before ++ p ∷ after ≡ net.ports
    → TakesAll (ports_so_far net before) (DeclarePort p.0 p.1 ∷ []) (ports_so_far net (before ++ p ∷ []))
port_taken net formed within before p after split =
    let low = keys_below before p after net.ports split formed.ports in
    let absent = value_absent p.0 before (others_below p.0 before low) in
    let Home : ℕ × ℕ → Type 0 = λ p. Contains net.boxes p.1 in
    let home = box_found net p.1 (All-place Home before p after net.ports split formed.homes) in (
      passes _ Twice _ (ap is_some absent)
          (passes _ Unknown _ (ap not home) (passes _ Limit _ (room most_ports before p after net.ports split within.ports) refl)),
      ap (ports_so_far net) (put-last p.0 p.1 before low),
    )

pub ports_taken : (net : Network) → IsWellFormed net → IsWithin net
    → TakesAll (boxes_so_far net net.boxes) (map (λ p. DeclarePort p.0 p.1) net.ports) (ports_so_far net net.ports)
ports_taken net formed within = taken_in_order (ports_so_far net) (λ p. DeclarePort p.0 p.1) net.ports (port_taken net formed within)
