use Rattle.network_model.proofs.Numbers.{number_of_below, number_of_exact}
use Rattle.network_model.proofs.laws.one_number.Goals as goal

pub returns-clause-below : goal.returns-clause-below
returns-clause-below c = number_of_below

pub returns-clause-exact : goal.returns-clause-exact
returns-clause-exact c = number_of_exact
