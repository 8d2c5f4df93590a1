use Rattle.net_types.proofs.Walks.{IsOnTheWay}
use Rattle.net_types.proofs.network.Network.walk.Given as goal

abbrev pub invariant-loop : goal.invariant-loop
invariant-loop l = IsOnTheWay l.self l.fn.hops l.fn.port l.fn.header l.fn.path l.counter l.port l.header l.path
