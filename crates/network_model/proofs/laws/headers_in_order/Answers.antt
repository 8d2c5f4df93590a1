use Rattle.network_model.proofs.HeaderOrder.{header_cmp_total, header_cmp_exact}
use Rattle.network_model.proofs.Numbers.{header_cmp_by_number}
use Rattle.network_model.proofs.laws.headers_in_order.Goals as goal

pub returns-clause-total : goal.returns-clause-total
returns-clause-total c = header_cmp_total

pub returns-clause-exact : goal.returns-clause-exact
returns-clause-exact c = header_cmp_exact

pub returns-clause-numbers : goal.returns-clause-numbers
returns-clause-numbers c = header_cmp_by_number
