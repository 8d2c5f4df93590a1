use Rattle.atpgd.proofs.AskedWords.{are_names}
use Rattle.atpgd.proofs.words.parse.Goals as goal

pub judge-requires : goal.judge-requires
judge-requires c = are_names
