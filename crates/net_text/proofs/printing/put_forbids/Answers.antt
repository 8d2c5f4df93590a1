use Rattle.std.proofs.Common.{◌≡◌, ◌+◌, List, ◌++◌, drop, Some, ap, ◌∙◌, arith, subst}
use Rattle.std.specs.List.{slice_get, flat_map}
use Rattle.std.specs.Option.{option_map}
use Rattle.std.proofs.lemmas.List.{drop_all}
use Rattle.list_laws.proofs.Places.{drop_found}
use Rattle.network_model.specs.Network.{value_at}
use Rattle.net_text.specs.Declarations.{Declaration}
use Rattle.net_text.specs.Printing.{forbids_of}
use Rattle.net_text.proofs.Appending.{Appending, Appending-all, Appending-end, past_end}
use Rattle.net_text.proofs.Parted.{entry_at, value_there, some_value, none_mapped}
use Rattle.net_text.proofs.printing.put_forbids.Goals as goal

pub returns-in_default : goal.returns-in_default
returns-in_default c =
    let terminals = c.args.net.now.terminals in
    let past = past_end terminals c.loop-place.place (none_mapped (λ t. t.0) (slice_get terminals c.loop-place.place) c.in_default.ensures) in
    let Left : List Declaration → Type 0 = λ ds. Appending c.args.text.now.items (flat_map forbids_of terminals) c.loop-place.text.items ds in
    Appending-end c.args.text.now.items (flat_map forbids_of terminals) c.loop-place.text.items
    (subst Left (ap (flat_map forbids_of) (drop_all c.loop-place.place terminals past)) c.loop-place.invariant)

pub loop-place-preserved : goal.loop-place-preserved
loop-place-preserved c =
    let terminals = c.args.net.now.terminals in
    let i = c.loop-place.place in
    let id = c.in-Some.terminal in
    let old = c.args.text.now.items in
    let rises = c.requires.well_formed.terminals in
    let here = some_value (value_at terminals id) (value_there terminals i id rises c.in-Some.ensures) in
    let found : slice_get terminals i ≡ Some (id, here.0) = entry_at terminals i id rises c.in-Some.ensures ∙ ap (option_map (λ v. (id, v))) here.1 in
    let left : flat_map forbids_of (drop i terminals) ≡ forbids_of (id, here.0) ++ flat_map forbids_of (drop (i + 1) terminals) = ap (flat_map forbids_of) (drop_found terminals i (id, here.0) found) in
    let Left : List Declaration → Type 0 = λ ds. Appending old (flat_map forbids_of terminals) c.loop-place.text.items ds in
    Appending-all old (flat_map forbids_of terminals) _ _ (forbids_of (id, here.0)) (flat_map forbids_of (drop (i + 1) terminals))
    (subst Left left c.loop-place.invariant) (c.in_ok-put_forbids_of.ensures here.0 here.1)

pub returns : goal.returns
returns c =
    let terminals = c.args.net.now.terminals in
    let Left : List Declaration → Type 0 = λ ds. Appending c.args.text.now.items (flat_map forbids_of terminals) c.loop-place.text.items ds in
    Appending-end c.args.text.now.items (flat_map forbids_of terminals) c.loop-place.text.items
    (subst Left (ap (flat_map forbids_of) (drop_all c.loop-place.place terminals (omega arith))) c.loop-place.invariant)
