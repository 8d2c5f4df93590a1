use Rattle.std.proofs.Common.{◌∙◌, sym, refl, arith}
use Rattle.net_types.proofs.Steps.{terminal_shown, terminal_built, edge_undone, same_terminals_built, after_ok, after_err}
use Rattle.net_types.proofs.builder.NetBuilder.add_term.Goals as goal

pub invariant_of-self-else-is_err : goal.invariant_of-self-else-is_err
invariant_of-self-else-is_err c =
    terminal_built c.self.inside _ c.args.id c.args.«at» _ c.insert-2.new.self c.insert.new.self c.self.view_is
    (sym c.has_terminal.ensures ∙ c.if-has_terminal.false)
    (after_ok _ _ (sym c.is_err.ensures.value ∙ c.if-is_err.false) c.insert-2.ensures.entries)
    refl c.new.ensures.items c.new-2.ensures.items c.in_ok-insert.ensures.keys refl
    (sym c.has_port.ensures ∙ c.if-not-has_port.false)
    (sym c.is_edge.ensures ∙ c.if-is_edge.false) (sym c.is_linked.ensures ∙ c.if-is_linked.false) (omega arith) c.self.invariant

pub returns-clause-ok : goal.returns-clause-ok
returns-clause-ok c =
    terminal_shown c.self.inside _ c.args.id c.args.«at» _ c.insert-2.new.self c.insert.new.self c.self.view_is
    (sym c.has_terminal.ensures ∙ c.if-has_terminal.false)
    (after_ok _ _ (sym c.is_err.ensures.value ∙ c.if-is_err.false) c.insert-2.ensures.entries)
    refl c.new.ensures.items c.new-2.ensures.items

pub invariant_of-self-then-is_err : goal.invariant_of-self-then-is_err
invariant_of-self-then-is_err c =
    same_terminals_built c.self.inside c.insert-2.new.self c.remove.new.self
    (after_err _ _ (sym c.is_err.ensures.value ∙ c.if-is_err.true) c.insert-2.ensures.err)
    (edge_undone c.self.inside _ c.args.«at» c.insert.new.self c.remove.new.self c.self.view_is
    (sym c.is_edge.ensures ∙ c.if-is_edge.false) c.in_ok-insert.ensures.keys c.remove.ensures.keys c.self.invariant)
    c.self.invariant
