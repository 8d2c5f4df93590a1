use Rattle.fault_model.proofs.Followed.{follow_suspects}
use Rattle.fault_model.proofs.laws.exercised_bad_suspected.Goals as goal

pub returns : goal.returns
returns c = follow_suspects
