use Rattle.std.proofs.Common.{◌≡◌, Some, map, sym, ap, ◌∙◌, arith, subst}
use Rattle.std.specs.Prelude.{IsSome}
use Rattle.std.specs.List.{slice_get}
use Rattle.std.specs.Option.{option_map}
use Rattle.net_text.proofs.Appending.{Appending-step, Appending-ended, past_end}
use Rattle.net_text.proofs.Parted.{port_declared, entry_at, value_there, none_mapped}
use Rattle.net_text.proofs.printing.put_ports.Goals as goal

pub returns-in_default : goal.returns-in_default
returns-in_default c =
    let ports = c.args.net.now.ports in
    let past = past_end ports c.loop-place.place (none_mapped (λ p. p.0) (slice_get ports c.loop-place.place) c.in_default.ensures) in
    Appending-ended port_declared ports c.loop-place.place c.args.text.now.items (map port_declared ports) c.loop-place.text.items past c.loop-place.invariant

pub unwrap-requires : goal.unwrap-requires
unwrap-requires c =
    subst IsSome (sym c.box_of.ensures) (value_there c.args.net.now.ports c.loop-place.place c.in-Some.port c.requires.well_formed.ports c.in-Some.ensures)

pub loop-place-preserved : goal.loop-place-preserved
loop-place-preserved c =
    let ports = c.args.net.now.ports in
    let port = c.in-Some.port in
    let found : slice_get ports c.loop-place.place ≡ Some (port, c.unwrap.result) =
    entry_at ports c.loop-place.place port c.requires.well_formed.ports c.in-Some.ensures ∙ ap (option_map (λ v. (port, v))) (sym c.box_of.ensures ∙ c.unwrap.ensures)
    in
    Appending-step port_declared ports c.loop-place.place (port, c.unwrap.result) c.args.text.now.items (map port_declared ports) _ _ found c.loop-place.invariant c.in_ok-put_port.ensures

pub returns : goal.returns
returns c =
    let ports = c.args.net.now.ports in
    Appending-ended port_declared ports c.loop-place.place c.args.text.now.items (map port_declared ports) c.loop-place.text.items (omega arith) c.loop-place.invariant
