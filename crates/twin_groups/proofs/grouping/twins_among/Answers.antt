use Rattle.std.proofs.Common.{[], sym, subst}
use Rattle.std.proofs.lemmas.List.{take_all}
use Rattle.twin_laws.specs.Shared.{AreTwinned}
use Rattle.twin_groups.specs.Splits.{AreSplit}
use Rattle.twin_groups.proofs.Splits.{split_none, next_split}
use Rattle.twin_groups.proofs.grouping.twins_among.Goals as goal

pub loop-terminal-init : goal.loop-terminal-init
loop-terminal-init c =
    subst (λ l. AreSplit c.args.net.now [] l c.new-twins.result.items) (sym c.new-leads.ensures.items)
    (subst (λ t. AreSplit c.args.net.now [] [] t) (sym c.new-twins.ensures.items) (split_none c.args.net.now))

pub loop-terminal-preserved : goal.loop-terminal-preserved
loop-terminal-preserved c =
    next_split c.args.net.now c.args.terminals.now c.loop-terminal.terminal-index c.terminal-item.result c.loop-terminal-test.true (sym c.terminal-item.is) c.requires.apart
    c.loop-terminal.leads.items c.loop-terminal.twins.items c.place.new.leads.items c.place.new.twins.items c.loop-terminal.invariant c.in_ok-place.ensures

pub returns : goal.returns
returns c =
    subst (λ l. AreTwinned c.args.net.now l c.loop-terminal.twins.items) (take_all c.loop-terminal.terminal-index c.args.terminals.now c.loop-terminal-test.false)
    c.loop-terminal.invariant.twinned
