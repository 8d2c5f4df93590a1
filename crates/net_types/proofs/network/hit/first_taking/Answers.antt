use Rattle.std.proofs.Common.{◌≡◌, ◌≤◌, length, get_or, Some, true, sym, ap, ◌∙◌, arith}
use Rattle.net_types.specs.Tables.{takes_packet}
use Rattle.net_types.proofs.Finds.{find_first, find_nothing}
use Rattle.net_types.proofs.network.hit.first_taking.Goals as goal

-- the rule at the index takes it, and no earlier one does
pub returns-then-takes : goal.returns-then-takes
returns-then-takes c =
    let rule = c.rule-item.result in
    let taken : takes_packet c.args.port c.args.header.now rule ≡ true = sym c.takes.ensures ∙ c.if-takes.true in
    let taken_there : takes_packet c.args.port c.args.header.now (get_or c.args.rules.now c.loop-rule.rule-index rule) ≡ true = rw (← c.rule-item.is) taken in
    ap Some c.rule-item.is ∙ sym (find_first (takes_packet c.args.port c.args.header.now) c.args.rules.now c.loop-rule.rule-index rule (omega arith) taken_there
    (λ j below. c.loop-rule.invariant j rule below))

pub returns : goal.returns
returns c =
    let all : length c.args.rules.now ≤ c.loop-rule.rule-index = omega arith in
    sym (find_nothing (takes_packet c.args.port c.args.header.now) c.args.rules.now (λ j d below. c.loop-rule.invariant j d (omega arith)))
