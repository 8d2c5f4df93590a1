use Rattle.std.proofs.Common.{◌∙◌, sym}
use Rattle.net_types.proofs.Steps.{link_shown, link_built, link_undone, same_links, same_links_built, after_ok, after_err}
use Rattle.net_types.proofs.builder.NetBuilder.add_link.Goals as goal

pub invariant_of-self-2 : goal.invariant_of-self-2
invariant_of-self-2 c =
    link_built c.self.inside _ c.args.a c.args.b c.insert.new.self c.insert-2.new.self c.self.view_is
    (sym c.eq.ensures ∙ c.if-eq.false)
    (sym c.is_linked.ensures ∙ c.if-is_linked.false) (sym c.is_linked-else-is_linked.ensures ∙ c.if-is_linked-2.false)
    c.in_ok-insert.ensures.entries (after_ok _ _ (sym c.is_err.ensures.value ∙ c.if-is_err.false) c.insert-2.ensures.entries)
    (sym c.has_port.ensures ∙ c.if-not-has_port.false) (sym c.has_port-else-not-has_port.ensures ∙ c.if-not-has_port-2.false)
    (sym c.is_edge.ensures ∙ c.if-is_edge.false) (sym c.is_edge-else-is_edge.ensures ∙ c.if-is_edge-2.false)
    c.self.invariant

pub returns-clause-ok : goal.returns-clause-ok
returns-clause-ok c =
    link_shown c.self.inside _ c.args.a c.args.b c.insert.new.self c.insert-2.new.self c.self.view_is
    (sym c.eq.ensures ∙ c.if-eq.false)
    (sym c.is_linked.ensures ∙ c.if-is_linked.false) (sym c.is_linked-else-is_linked.ensures ∙ c.if-is_linked-2.false)
    c.in_ok-insert.ensures.entries (after_ok _ _ (sym c.is_err.ensures.value ∙ c.if-is_err.false) c.insert-2.ensures.entries)

pub invariant_of-self-then-is_err : goal.invariant_of-self-then-is_err
invariant_of-self-then-is_err c =
    same_links_built c.self.inside c.remove.new.self
    (link_undone c.self.inside _ c.args.a c.args.b c.insert.new.self c.insert-2.new.self c.remove.new.self c.self.view_is
    (sym c.is_linked-else-is_linked.ensures ∙ c.if-is_linked-2.false) c.in_ok-insert.ensures.entries
    (after_err _ _ (sym c.is_err.ensures.value ∙ c.if-is_err.true) c.insert-2.ensures.err) c.remove.ensures.entries)
    c.self.invariant

pub returns-then-is_err-clause-err : goal.returns-then-is_err-clause-err
returns-then-is_err-clause-err c =
    same_links c.self.inside c.remove.new.self
    (link_undone c.self.inside _ c.args.a c.args.b c.insert.new.self c.insert-2.new.self c.remove.new.self c.self.view_is
    (sym c.is_linked-else-is_linked.ensures ∙ c.if-is_linked-2.false) c.in_ok-insert.ensures.entries
    (after_err _ _ (sym c.is_err.ensures.value ∙ c.if-is_err.true) c.insert-2.ensures.err) c.remove.ensures.entries)
    ∙ c.self.view_is
