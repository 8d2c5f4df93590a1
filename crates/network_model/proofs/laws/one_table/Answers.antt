use Rattle.network_model.proofs.TableLaws.{same_tables}
use Rattle.network_model.proofs.laws.one_table.Goals as goal

pub returns : goal.returns
returns c = same_tables
