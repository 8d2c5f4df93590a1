use Rattle.std.proofs.Common.{◌≡◌, ◌-◌, length, subst, arith}
use Rattle.network_model.specs.Table.{HasMore}
use Rattle.class_tree.specs.Growth.{GoesOnFrom}
use Rattle.frontier_waves.proofs.gathering.take_class.Goals as goal

pub returns-in-Err-Full-clause-full : goal.returns-in-Err-Full-clause-full
returns-in-Err-Full-clause-full c most h =
    let same : most ≡ c.args.limit = cc in
    let full = c.in-Err-Full.ensures.full c.in-Err-Full.field-0-0 (cc) in
    let old = c.args.next.now.found.entries in
    let left : c.args.limit - c.len.result ≡ c.args.limit - length old.items = omega (arith, c.len.ensures, old.ok.0) in
    (same, subst (λ n. HasMore c.args.net.now c.args.hops (GoesOnFrom c.args.class.now c.args.stride) n) left full)
