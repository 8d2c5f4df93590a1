use Rattle.std.proofs.Common.{◌≡◌, eqb, Some, None, ap, sym, ◌∙◌}
use Rattle.std.specs.List.{find}
use Rattle.std.specs.Option.{option_copied, option_map}
use Rattle.net_types.specs.declared.parts.Terminal.{Terminal}
use Rattle.net_types.specs.Parts.{terminal_of}
use Rattle.net_types.proofs.SameParts.{placed, terminal_found}
use Rattle.net_types.proofs.network.Network.terminal_at.Goals as goal

pub returns-in_err-terminal : goal.returns-in_err-terminal
returns-in_err-terminal c =
    let terminals = c.self.inside.parts.terminals.items in
    let none : None ≡ find (λ (t : Terminal). eqb t.port c.args.p) terminals =
    sym (ap option_copied c.in_err-terminal.was) ∙ (rw c.deref.ensures.value at c.terminal_by_port.ensures) in
    rw (c.from_residual.ensures, ← c.self.view_is) (ap (option_map (λ (t : Terminal). placed (terminal_of t))) none ∙ terminal_found c.args.p terminals)

pub returns : goal.returns
returns c =
    let terminals = c.self.inside.parts.terminals.items in
    let some : Some c.in_ok-terminal.terminal.now ≡ find (λ (t : Terminal). eqb t.port c.args.p) terminals =
    sym (ap option_copied c.in_ok-terminal.was) ∙ (rw c.deref.ensures.value at c.terminal_by_port.ensures) in
    rw (← c.self.view_is) (ap (option_map (λ (t : Terminal). placed (terminal_of t))) some ∙ terminal_found c.args.p terminals)
