use Rattle.network_model.proofs.SomeTable.{table_of}
use Rattle.network_model.proofs.laws.some_table.Goals as goal

pub returns : goal.returns
returns c = table_of
