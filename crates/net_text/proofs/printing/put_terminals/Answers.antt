use Rattle.std.proofs.Common.{◌≡◌, Some, map, sym, ap, ◌∙◌, arith, subst}
use Rattle.std.specs.List.{slice_get}
use Rattle.std.specs.Option.{option_map}
use Rattle.network_model.specs.Network.{value_at}
use Rattle.net_types.specs.Terminals.{role_of, answered_place}
use Rattle.net_text.specs.Declarations.{Declaration, DeclareTerminal}
use Rattle.net_text.specs.Putting.{PutsLine}
use Rattle.net_text.proofs.Appending.{Appending-step, Appending-ended, past_end}
use Rattle.net_text.proofs.Parted.{terminal_declared, entry_at, value_there, none_mapped, StandsAt, stands_at, place_there}
use Rattle.net_text.proofs.printing.put_terminals.Goals as goal

pub returns-in_default : goal.returns-in_default
returns-in_default c =
    let terminals = c.args.net.now.terminals in
    let past = past_end terminals c.loop-place.place (none_mapped (λ t. t.0) (slice_get terminals c.loop-place.place) c.in_default.ensures) in
    Appending-ended terminal_declared terminals c.loop-place.place c.args.text.now.items (map terminal_declared terminals) c.loop-place.text.items past c.loop-place.invariant

pub unwrap-port-requires : goal.unwrap-port-requires
unwrap-port-requires c =
    let terminals = c.args.net.now.terminals in
    place_there c.term.result (value_at terminals c.in-Some.terminal) c.term.ensures
    (value_there terminals c.loop-place.place c.in-Some.terminal c.requires.well_formed.terminals c.in-Some.ensures)

pub loop-place-preserved : goal.loop-place-preserved
loop-place-preserved c =
    let terminals = c.args.net.now.terminals in
    let id = c.in-Some.terminal in
    let place = c.unwrap-port.result in
    let at : StandsAt (value_at terminals id) place.0 (role_of place.1) = stands_at (value_at terminals id) place.0 (role_of place.1) (sym (ap answered_place c.unwrap-port.ensures) ∙ c.term.ensures) in
    let found : slice_get terminals c.loop-place.place ≡ Some (id, at.terminal) =
    entry_at terminals c.loop-place.place id c.requires.well_formed.terminals c.in-Some.ensures ∙ ap (option_map (λ v. (id, v))) at.there
    in
    let same : DeclareTerminal id place.0 (role_of place.1) ≡ terminal_declared (id, at.terminal) =
    ap (λ p. DeclareTerminal id p (role_of place.1)) (sym at.same_port) ∙ ap (DeclareTerminal id at.terminal.port) (sym at.same_role)
    in
    let Put : Declaration → Type 0 = λ d. PutsLine c.loop-place.text.items c.put_terminal.new.text.items d in
    Appending-step terminal_declared terminals c.loop-place.place (id, at.terminal) c.args.text.now.items (map terminal_declared terminals) _ _ found c.loop-place.invariant
    (subst Put same c.in_ok-put_terminal.ensures)

pub returns : goal.returns
returns c =
    let terminals = c.args.net.now.terminals in
    Appending-ended terminal_declared terminals c.loop-place.place c.args.text.now.items (map terminal_declared terminals) c.loop-place.text.items (omega arith) c.loop-place.invariant
