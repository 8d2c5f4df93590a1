use Rattle.fault_model.proofs.Explained.{odd_iff}
use Rattle.fault_model.proofs.laws.odd_unexplained.Goals as goal

pub returns : goal.returns
returns c = odd_iff
