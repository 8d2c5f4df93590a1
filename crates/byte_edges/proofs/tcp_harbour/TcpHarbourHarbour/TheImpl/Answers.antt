use Rattle.std.proofs.Common.{refl, arith}
use Rattle.std.proofs.lemmas.Result.{MatchResult-weaker}
use Rattle.byte_edges.proofs.tcp_harbour.TcpHarbourHarbour.TheImpl.Goals as goal

pub open-tells : goal.open-tells
open-tells g c = record {
  first = MatchResult-weaker c.result c.ensures.door (λ _ _. refl) (λ _ _. tt);
  kept = MatchResult-weaker c.result c.ensures.door (λ _ _. tt) (λ _ _. refl);
  failed = λ failed. let once = c.ensures.failed failed in omega arith;
  steady = c.ensures.steady;
  steady_memory = c.ensures.steady_memory;
  no_fall = c.ensures.no_fall;
}
