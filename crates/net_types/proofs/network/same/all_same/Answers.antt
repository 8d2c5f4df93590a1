use Rattle.std.proofs.Common.{refl, arith}
use Rattle.net_types.proofs.Sames.{zip_from_reads}
use Rattle.net_types.proofs.network.same.all_same.Goals as goal

pub returns : goal.returns
returns g c =
    (λ _. zip_from_reads g.T.Same.alike c.args.a.now c.args.b.now (omega arith) (λ k d below. c.loop-i.invariant k d (omega arith)), λ _. refl)
