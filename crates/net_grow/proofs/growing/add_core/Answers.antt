use Rattle.std.proofs.Common.{ℕ, ◌+◌, ◌++◌, sym, ap, ◌∙◌, arith}
use Rattle.std.proofs.lemmas.List.{append-nil}
use Rattle.network_model.specs.Network.{Numbered}
use Rattle.net_types.specs.Rules.{numbered}
use Rattle.net_grow.proofs.Made.{core_number}
use Rattle.net_grow.proofs.OneMore.{core_rules-none}
use Rattle.net_grow.proofs.Steps.{core_more}
use Rattle.net_grow.proofs.Taking.{takes_later}
use Rattle.net_grow.proofs.growing.add_core.Goals as goal

pub loop-edge-init : goal.loop-edge-init
loop-edge-init c =
    let start = c.args.net.now.rules in
    record { rules = sym (append-nil start) ∙ ap (λ rs. start ++ rs) (sym core_rules-none); takes = c.requires }

pub add-requires-clause-number : goal.add-requires-clause-number
add-requires-clause-number c =
    let number = ap (λ (r : Numbered). r.0) c.core.ensures.rule ∙ core_number c.loop-edge.edge in
    omega (arith, number)

pub add-requires-clause-takes : goal.add-requires-clause-takes
add-requires-clause-takes c =
    let number = ap (λ (r : Numbered). r.0) c.core.ensures.rule ∙ core_number c.loop-edge.edge in
    takes_later c.loop-edge.net (3000 + c.loop-edge.edge) _ (omega (arith, number)) c.loop-edge.invariant.takes

pub loop-edge-preserved : goal.loop-edge-preserved
loop-edge-preserved c =
    let e : ℕ = c.loop-edge.edge in
    let number = ap (λ (r : Numbered). r.0) c.core.ensures.rule ∙ core_number e in
    record {
      rules =
          core_more c.args.net.now.rules c.loop-edge.net.rules c.add.new.net.rules e (numbered c.core.result)
          c.core.ensures.rule c.loop-edge.invariant.rules c.in_ok-add.ensures.rules;
      takes = takes_later c.add.new.net (c.core.result.id + 1) _ (omega (arith, number)) c.in_ok-add.ensures.takes;
    }
