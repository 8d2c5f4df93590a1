use Rattle.network_model.proofs.TableLaws.{packets_permitted, packets_travelled}
use Rattle.network_model.proofs.laws.packets_travel.Goals as goal

pub returns-clause-permitted : goal.returns-clause-permitted
returns-clause-permitted c = packets_permitted

pub returns-clause-travels : goal.returns-clause-travels
returns-clause-travels c = packets_travelled
