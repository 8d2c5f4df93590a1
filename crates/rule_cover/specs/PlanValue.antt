-- A plan with the network and the hop limit that it is the plan of, and the pairs of a terminal and a box that it touches.
--     IsListed    these are the plan of the network and hop limit, the pairs, its reserved entries and its idle rules
use Rattle.std.specs.Prelude.{◌≡◌, ℕ, List}
use Rattle.network_model.specs.Network as model
use Rattle.network_model.specs.Plan as plans
use Rattle.path_table.specs.Touching.{AreTouched}

pub record PlanValue : Type 0 where
  pub net : model.Network
  pub hops : ℕ
  pub plan : plans.Plan
  pub touched : List (ℕ × ℕ)

pub record IsListed (net : model.Network) (hops : ℕ) (plan : plans.Plan) (touched : List (ℕ × ℕ)) (reserved idle : List ℕ) : Type 0 where
  pub planned : plans.IsPlan net hops plan
  pub touched_are : AreTouched net hops touched
  pub reserved_are : reserved ≡ plans.reserved plan
  pub idle_are : idle ≡ plans.idle net plan
