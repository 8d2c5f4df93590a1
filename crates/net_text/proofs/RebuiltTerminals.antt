-- The terminals of a network, declared in order where boxes, ports and links stand, then what each permits, and then what
-- each forbids.
use Rattle.std.proofs.Common.{◌≡◌, ◌≢◌, ℕ, ◌<◌, ◌≤◌, false, eqb, leb, List, [], ◌∷◌, ◌++◌, map, length, Option, Some, None, sym, ap, ◌∙◌, refl, subst}
use Rattle.std.specs.Prelude.{not, IsNone}
use Rattle.std.specs.List.{All, flat_map}
use Rattle.std.specs.Option.{is_some}
use Rattle.std.proofs.lemmas.Bool.{cond-true, cond-false, ne_eqb, eq-eqb}
use Rattle.std.proofs.lemmas.List.{append-nil, append_assoc, map-append, length-map}
use Rattle.std.proofs.lemmas.List.Elements.{All-head, All-tail, All-map, All-weaker}
use Rattle.std.proofs.lemmas.List.Folds.{list_any_none}
use Rattle.network_model.specs.Bits.{Pattern}
use Rattle.network_model.specs.Network.{Network, Terminal, value_at}
use Rattle.network_model.specs.Building.{change_at, permitting, forbidding}
use Rattle.network_model.specs.WellFormed.{IsWellFormed, FitsTerminal}
use Rattle.net_types.specs.Parts.{IsWithin}
use Rattle.net_types.specs.Refusals.{Twice, Unknown, Limit, PortTaken, EdgeLinked, Width, permit_refusal_at, forbid_refusal_at}
use Rattle.network_model.specs.Limits.{most_terminals, most_permits, most_forbids}
use Rattle.model_laws.proofs.Numbered.{change_at-absent}
use Rattle.net_text.specs.Declarations.{DeclareTerminal, DeclarePermit, DeclareForbid}
use Rattle.net_text.specs.Printing.{permits_of, forbids_of}
use Rattle.net_text.proofs.Takes.{TakesAll}
use Rattle.net_text.proofs.InOrder.{taken_in_order, taken_in_turn}
use Rattle.net_text.proofs.Rising.{All-place, AllPairs-before, keys_below, keys_above, others_below, others_above, value_absent, put-last}
use Rattle.net_text.proofs.RebuiltPlaces.{passes, room}
use Rattle.net_text.proofs.RebuiltLinks.{links_so_far}

-- the network of all boxes, ports and links and these terminals
abbrev pub terminals_so_far : Network → List (ℕ × Terminal) → Network
terminals_so_far net terminals = record (links_so_far net net.links) { terminals = terminals }

-- a terminal with these permits, which forbids nothing
abbrev permitted : ℕ × Terminal → List Pattern → ℕ × Terminal
permitted t patterns = (t.0, record { port = t.1.port; role = t.1.role; permits = patterns; forbids = [] })

-- a terminal as it is declared, and as it is after its permits
abbrev pub bare : ℕ × Terminal → ℕ × Terminal
bare t = permitted t []

abbrev pub cleared : ℕ × Terminal → ℕ × Terminal
cleared t = (t.0, record t.1 { forbids = [] })

-- ---- terminals
-- a port without a link is not linked
none_is_no : (o : Option ℕ) → IsNone o → is_some o ≡ false
none_is_no None h = refl
none_is_no (Some n) h = absurd (cc)

-- one more terminal
terminal_taken : (net : Network) → IsWellFormed net → IsWithin net → (before : List (ℕ × Terminal)) (t : ℕ × Terminal) (after : List (ℕ × Terminal))
    → before ++ t ∷ after ≡ net.terminals
    → TakesAll (terminals_so_far net (map bare before)) (DeclareTerminal t.0 t.1.port t.1.role ∷ [])
    (terminals_so_far net (map bare (before ++ t ∷ [])))
terminal_taken net formed within before t after split =
    let Low : ℕ × Terminal → Type 0 = λ e. e.0 < t.0 in
    let low = All-map Low bare before (keys_below before t after net.terminals split formed.terminals) in
    let absent = value_absent t.0 (map bare before) (others_below t.0 (map bare before) low) in
    let Fits : ℕ × Terminal → Type 0 = λ t. FitsTerminal net t.1 in
    let fits = All-place Fits before t after net.terminals split formed.placed in
    let Apart : ℕ × Terminal → ℕ × Terminal → Type 0 = λ s t. s.1.port ≢ t.1.port in
    let apart = AllPairs-before Apart before t after net.terminals split formed.apart in
    let Other : ℕ × Terminal → Type 0 = λ s. eqb s.1.port t.1.port ≡ false in
    let others = All-weaker (λ s. Apart s t) Other (λ s differ. ne_eqb s.1.port t.1.port differ) before apart in
    let no_edge = list_any_none (λ s. eqb s.1.port t.1.port) (map bare before) (All-map Other bare before others) in
    let few = ap (λ n. leb most_terminals n) (length-map before bare) ∙ room most_terminals before t after net.terminals split within.terminals in (
      passes _ Twice _ (ap is_some absent)
          (passes _ Unknown _ (ap not fits.port)
          (passes _ Limit _ few (passes _ PortTaken _ no_edge (passes _ EdgeLinked _ (none_is_no _ fits.unlinked) refl)))),
      ap (terminals_so_far net) (put-last t.0 (bare t).1 (map bare before) low ∙ sym (map-append bare before (t ∷ []))),
    )

pub terminals_taken : (net : Network) → IsWellFormed net → IsWithin net
    → TakesAll (links_so_far net net.links) (map (λ t. DeclareTerminal t.0 t.1.port t.1.role) net.terminals)
    (terminals_so_far net (map bare net.terminals))
terminals_taken net formed within =
    taken_in_order (λ ts. terminals_so_far net (map bare ts)) (λ t. DeclareTerminal t.0 t.1.port t.1.role) net.terminals
    (terminal_taken net formed within)

-- ---- permits
-- the entry at a number, and its change, where no other entry has the number
value_placed : {A : Type 0} (id : ℕ) (v : A) (front back : List (ℕ × A)) → All (λ e. eqb e.0 id ≡ false) front
    → value_at (front ++ (id, v) ∷ back) id ≡ Some v
value_placed id v [] back h = cond-true (eqb id id) (Some v) (value_at back id) (eq-eqb id id refl)
value_placed {A} id v (e ∷ front) back h =
    let Other : ℕ × A → Type 0 = λ e. eqb e.0 id ≡ false in
    cond-false (eqb e.0 id) (Some e.1) (value_at (front ++ (id, v) ∷ back) id) (All-head Other e front h)
    ∙ value_placed id v front back (All-tail Other e front h)

-- where no entry has the number, none changes
change_others : {A : Type 0} (id : ℕ) (f : A → A) (es : List (ℕ × A)) → All (λ e. eqb e.0 id ≡ false) es → change_at id f es ≡ es
change_others id f es h = change_at-absent id f es (value_absent id es h)

change_placed : {A : Type 0} (id : ℕ) (v : A) (f : A → A) (front back : List (ℕ × A)) → All (λ e. eqb e.0 id ≡ false) front
    → All (λ e. eqb e.0 id ≡ false) back
    → change_at id f (front ++ (id, v) ∷ back) ≡ front ++ (id, f v) ∷ back
change_placed id v f [] back low high =
    ap (λ e. e ∷ change_at id f back) (cond-true (eqb id id) (id, f v) (id, v) (eq-eqb id id refl))
    ∙ ap (λ es. (id, f v) ∷ es) (change_others id f back high)
change_placed {A} id v f (e ∷ front) back low high =
    let Other : ℕ × A → Type 0 = λ e. eqb e.0 id ≡ false in
    ap (λ d. d ∷ change_at id f (front ++ (id, v) ∷ back)) (cond-false (eqb e.0 id) (e.0, f e.1) e (All-head Other e front low))
    ∙ ap (λ es. e ∷ es) (change_placed id v f front back (All-tail Other e front low) high)

-- one more permit of a terminal
permit_taken : (net : Network) (t : ℕ × Terminal) (front back : List (ℕ × Terminal)) → All (λ e. eqb e.0 t.0 ≡ false) front
    → All (λ e. eqb e.0 t.0 ≡ false) back
    → All (λ (p : Pattern). length p ≡ net.width) t.1.permits → length t.1.permits ≤ most_permits
    → (before : List Pattern) (p : Pattern) (after : List Pattern) → before ++ p ∷ after ≡ t.1.permits
    → TakesAll (terminals_so_far net (front ++ permitted t before ∷ back)) (DeclarePermit t.0 p ∷ [])
    (terminals_so_far net (front ++ permitted t (before ++ p ∷ []) ∷ back))
permit_taken net t front back low high wide few before p after split =
    let v = (permitted t before).1 in
    let Wide : Pattern → Type 0 = λ p. length p ≡ net.width in
    let fits = eq-eqb (length p) net.width (All-place Wide before p after t.1.permits split wide) in (
      ap (λ o. permit_refusal_at net.width o p) (value_placed t.0 v front back low)
          ∙ passes _ Limit _ (room most_permits before p after t.1.permits split few) (passes _ Width _ (ap not fits) refl),
      ap (terminals_so_far net) (change_placed t.0 v (permitting p) front back low high),
    )

-- all permits of the terminal between those that have theirs and those that have none yet
permits_at : (net : Network) → IsWellFormed net → IsWithin net → (before : List (ℕ × Terminal)) (t : ℕ × Terminal) (after : List (ℕ × Terminal))
    → before ++ t ∷ after ≡ net.terminals
    → TakesAll (terminals_so_far net (map cleared before ++ map bare (t ∷ after))) (permits_of t)
    (terminals_so_far net (map cleared (before ++ t ∷ []) ++ map bare after))
permits_at net formed within before t after split =
    let front = map cleared before in
    let back = map bare after in
    let Low : ℕ × Terminal → Type 0 = λ e. e.0 < t.0 in
    let High : ℕ × Terminal → Type 0 = λ e. t.0 < e.0 in
    let low = All-map Low cleared before (keys_below before t after net.terminals split formed.terminals) in
    let high = All-map High bare after (keys_above before t after net.terminals split formed.terminals) in
    let Fits : ℕ × Terminal → Type 0 = λ t. FitsTerminal net t.1 in
    let fits = All-place Fits before t after net.terminals split formed.placed in
    let Few : ℕ × Terminal → Type 0 = λ t. length t.1.permits ≤ most_permits in
    let few = All-place Few before t after net.terminals split within.permits in
    let taken = taken_in_order (λ ps. terminals_so_far net (front ++ permitted t ps ∷ back)) (DeclarePermit t.0) t.1.permits
    (permit_taken net t front back (others_below t.0 front low) (others_above t.0 back high) fits.permits few) in
    let same : front ++ cleared t ∷ back ≡ map cleared (before ++ t ∷ []) ++ back =
    sym (ap (λ xs. xs ++ back) (map-append cleared before (t ∷ [])) ∙ append_assoc front (cleared t ∷ []) back) in
    let start = terminals_so_far net (front ++ bare t ∷ back) in
    let Ends : List (ℕ × Terminal) → Type 0 = λ ts. TakesAll start (permits_of t) (terminals_so_far net ts) in
    subst Ends same taken

pub permits_taken : (net : Network) → IsWellFormed net → IsWithin net
    → TakesAll (terminals_so_far net (map bare net.terminals)) (flat_map permits_of net.terminals) (terminals_so_far net (map cleared net.terminals))
permits_taken net formed within =
    let whole = net.terminals in
    let start = terminals_so_far net (map bare whole) in
    let Ends : List (ℕ × Terminal) → Type 0 = λ ts. TakesAll start (flat_map permits_of whole) (terminals_so_far net ts) in
    subst Ends (append-nil (map cleared whole))
    (taken_in_turn (λ before after. terminals_so_far net (map cleared before ++ map bare after)) permits_of whole (permits_at net formed within))

-- ---- forbidden patterns
-- a terminal with its permits, and these forbidden patterns
abbrev forbidden : ℕ × Terminal → List Pattern → ℕ × Terminal
forbidden t patterns = (t.0, record t.1 { forbids = patterns })

-- one more forbidden pattern of a terminal
forbid_taken : (net : Network) (t : ℕ × Terminal) (front back : List (ℕ × Terminal)) → All (λ e. eqb e.0 t.0 ≡ false) front
    → All (λ e. eqb e.0 t.0 ≡ false) back
    → All (λ (p : Pattern). length p ≡ net.width) t.1.forbids → length t.1.forbids ≤ most_forbids
    → (before : List Pattern) (p : Pattern) (after : List Pattern) → before ++ p ∷ after ≡ t.1.forbids
    → TakesAll (terminals_so_far net (front ++ forbidden t before ∷ back)) (DeclareForbid t.0 p ∷ [])
    (terminals_so_far net (front ++ forbidden t (before ++ p ∷ []) ∷ back))
forbid_taken net t front back low high wide few before p after split =
    let v = (forbidden t before).1 in
    let Wide : Pattern → Type 0 = λ p. length p ≡ net.width in
    let fits = eq-eqb (length p) net.width (All-place Wide before p after t.1.forbids split wide) in (
      ap (λ o. forbid_refusal_at net.width o p) (value_placed t.0 v front back low)
          ∙ passes _ Limit _ (room most_forbids before p after t.1.forbids split few) (passes _ Width _ (ap not fits) refl),
      ap (terminals_so_far net) (change_placed t.0 v (forbidding p) front back low high),
    )

-- all forbidden patterns of the terminal between those that have theirs and those that have none yet
forbids_at : (net : Network) → IsWellFormed net → IsWithin net → (before : List (ℕ × Terminal)) (t : ℕ × Terminal) (after : List (ℕ × Terminal))
    → before ++ t ∷ after ≡ net.terminals
    → TakesAll (terminals_so_far net (before ++ map cleared (t ∷ after))) (forbids_of t)
    (terminals_so_far net ((before ++ t ∷ []) ++ map cleared after))
forbids_at net formed within before t after split =
    let back = map cleared after in
    let High : ℕ × Terminal → Type 0 = λ e. t.0 < e.0 in
    let low = keys_below before t after net.terminals split formed.terminals in
    let high = All-map High cleared after (keys_above before t after net.terminals split formed.terminals) in
    let Fits : ℕ × Terminal → Type 0 = λ t. FitsTerminal net t.1 in
    let fits = All-place Fits before t after net.terminals split formed.placed in
    let Few : ℕ × Terminal → Type 0 = λ t. length t.1.forbids ≤ most_forbids in
    let few = All-place Few before t after net.terminals split within.forbids in
    let taken = taken_in_order (λ ps. terminals_so_far net (before ++ forbidden t ps ∷ back)) (DeclareForbid t.0) t.1.forbids
    (forbid_taken net t before back (others_below t.0 before low) (others_above t.0 back high) fits.forbids few) in
    let start = terminals_so_far net (before ++ cleared t ∷ back) in
    let Ends : List (ℕ × Terminal) → Type 0 = λ ts. TakesAll start (forbids_of t) (terminals_so_far net ts) in
    subst Ends (sym (append_assoc before (t ∷ []) back)) taken

pub forbids_taken : (net : Network) → IsWellFormed net → IsWithin net
    → TakesAll (terminals_so_far net (map cleared net.terminals)) (flat_map forbids_of net.terminals) (terminals_so_far net net.terminals)
forbids_taken net formed within =
    let whole = net.terminals in
    let start = terminals_so_far net (map cleared whole) in
    let Ends : List (ℕ × Terminal) → Type 0 = λ ts. TakesAll start (flat_map forbids_of whole) (terminals_so_far net ts) in
    subst Ends (append-nil whole)
    (taken_in_turn (λ before after. terminals_so_far net (before ++ map cleared after)) forbids_of whole (forbids_at net formed within))
