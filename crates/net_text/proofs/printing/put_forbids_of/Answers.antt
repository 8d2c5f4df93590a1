use Rattle.std.proofs.Common.{◌≡◌, ◌≤◌, length, Some, None, map, sym, ap, ◌∙◌, arith}
use Rattle.std.specs.List.{slice_get}
use Rattle.std.specs.Option.{option_copied, option_and_then}
use Rattle.network_model.specs.Network.{Terminal}
use Rattle.net_types.proofs.Maps.{All-value_at}
use Rattle.net_text.specs.Declarations.{DeclareForbid}
use Rattle.net_text.proofs.Appending.{Appending-step, Appending-ended, past_end}
use Rattle.net_text.proofs.printing.put_forbids_of.Goals as goal

pub returns-in_default : goal.returns-in_default
returns-in_default c t there =
    let i = c.loop-place.place in
    let none : slice_get t.forbids i ≡ None = sym (ap (option_and_then (λ (s : Terminal). slice_get s.forbids i)) there) ∙ sym c.forbid_at.ensures ∙ ap option_copied c.in_default.is in
    Appending-ended (DeclareForbid c.args.terminal) t.forbids i c.args.text.now.items (map (DeclareForbid c.args.terminal) t.forbids) c.loop-place.text.items
    (past_end t.forbids i none) (c.loop-place.invariant t there)

pub loop-place-preserved : goal.loop-place-preserved
loop-place-preserved c t there =
    let i = c.loop-place.place in
    let found : slice_get t.forbids i ≡ Some c.in-Some.pattern.now =
    sym (ap (option_and_then (λ (s : Terminal). slice_get s.forbids i)) there) ∙ sym c.forbid_at.ensures ∙ ap option_copied c.in-Some.is
    in
    Appending-step (DeclareForbid c.args.terminal) t.forbids i c.in-Some.pattern.now c.args.text.now.items (map (DeclareForbid c.args.terminal) t.forbids) _ _
    found (c.loop-place.invariant t there) c.in_ok-put_forbid.ensures

pub returns : goal.returns
returns c t there =
    let few : length t.forbids ≤ 64 = All-value_at (λ e. length e.1.forbids ≤ 64) c.args.net.now.terminals c.args.terminal t c.requires.within.forbids there in
    Appending-ended (DeclareForbid c.args.terminal) t.forbids c.loop-place.place c.args.text.now.items (map (DeclareForbid c.args.terminal) t.forbids) c.loop-place.text.items
    (omega arith) (c.loop-place.invariant t there)
