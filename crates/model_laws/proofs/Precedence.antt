-- The order in which a box tries its rules.
use Rattle.std.proofs.Common.{◌≡◌, false, arith}
use Rattle.std.proofs.lemmas.Bool.Decides.{nat_tests}
use Rattle.network_model.specs.Network.{Numbered, precedes}

-- no rule precedes itself
pub not_itself : (a : Numbered) → precedes a a ≡ false
not_itself a = grind (arith, nat_tests)
