use Rattle.network_model.proofs.ClassCount.{different_classes_fit}
use Rattle.network_model.proofs.laws.classes_fit.Goals as goal

pub returns : goal.returns
returns c = different_classes_fit
