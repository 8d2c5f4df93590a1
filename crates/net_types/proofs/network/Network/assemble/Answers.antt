use Rattle.std.proofs.Common.{◌≡◌, ◌≢◌, ℕ, length, ap, sym, ◌∙◌, arith}
use Rattle.std.proofs.lemmas.List.Elements.{Contains-get_or}
use Rattle.list_laws.proofs.Pairs.{AllPairs-from_map}
use Rattle.network_model.specs.Network as model
use Rattle.net_types.specs.Parts.{terminal_of}
use Rattle.net_types.specs.Rules.{numbered}
use Rattle.net_types.specs.Tables.{IsInPrecedence, at_places}
use Rattle.net_types.proofs.Placed.{length-at}
use Rattle.net_types.proofs.Rows.{rises_rows}
use Rattle.net_types.proofs.network.Network.assemble.Goals as goal

pub in_precedence-requires : goal.in_precedence-requires
in_precedence-requires c = rw c.deref.ensures.value (rises_rows numbered c.args.by_number.items c.requires.well_formed.rules)

pub places_of-requires-clause-there : goal.places_of-requires-clause-there
places_of-requires-clause-there c =
    let order : IsInPrecedence c.args.by_number.items c.in_ok-rules.rules.items = rw c.deref.ensures.value at c.in_ok-rules.ensures.order in
    rw (c.deref-2.ensures.value, c.deref-3.ensures.value) (λ k d below. order.complete _ (Contains-get_or c.args.by_number.items k d below))

pub receivers_of-requires : goal.receivers_of-requires
receivers_of-requires c = rw c.deref-4.ensures.value (AllPairs-from_map terminal_of (λ (s t : ℕ × model.Terminal). s.1.port ≢ t.1.port) c.args.parts.terminals.items c.requires.well_formed.apart)

pub invariant_of-result : goal.invariant_of-result
invariant_of-result c =
    let order : IsInPrecedence c.args.by_number.items c.in_ok-rules.rules.items = rw c.deref.ensures.value at c.in_ok-rules.ensures.order in
    let same : at_places c.in_ok-rules.rules.items c.in_ok-places.places.items ≡ c.args.by_number.items = rw (c.deref-2.ensures.value, c.deref-3.ensures.value) at c.in_ok-places.ensures.rules in
    let placed = rw c.deref-3.ensures.value at c.in_ok-places.ensures.placed in
    let as_many : length c.in_ok-rules.rules.items ≡ length c.args.by_number.items = c.in_ok-rules.ensures.as_many ∙ ap length c.deref.ensures.value in
    record {
      well_formed = rw same c.requires.well_formed;
      within = rw same c.requires.within;
      placed = placed;
      as_many = as_many ∙ ap length (sym same) ∙ length-at c.in_ok-rules.rules.items c.in_ok-places.places.items placed;
      by_box = rw same order;
      by_port = rw c.deref-4.ensures.value at c.in_ok-receivers.ensures;
      ports = rw c.deref-5.ensures.value at c.in_ok-ports_by_box.ensures;
    }
