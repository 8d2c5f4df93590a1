use Rattle.network_model.proofs.CoverLaws.{same_covers}
use Rattle.network_model.proofs.laws.one_cover.Goals as goal

pub returns : goal.returns
returns c = same_covers
