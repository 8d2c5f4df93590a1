-- Policies, and the headers that obey them.
--     is_delivered    a walk ends at the terminal
--     passes          some rule of the list is of the box
--     meets           a walk meets a demand on what comes to a terminal
--     obeys           the walk of a header, as it is sent, meets the demand of a policy
--     is_of           a header of the policy: permitted, and matching its pattern
--     AllObey         each header of the policy obeys it
--     Breaks          a header of the policy that does not
--     IsLeastBreach   the least of them
use Rattle.std.specs.Prelude.{◌≡◌, ◌≢◌, ℕ, ◌==◌, Bool, false, not, ◌&&◌, ◌||◌, List, Option, None, Some, IsTrue}
use Rattle.std.specs.List.{list_any}
use Rattle.std.specs.declared.cmp.Ordering.TheVariants.{Less}
use Rattle.network_model.specs.Bits.{Header, matches, header_cmp}
use Rattle.network_model.specs.Network.{value_at, Network, Rule}
use Rattle.network_model.specs.Walk.{End, Delivered, Unmatched, Dropped, Lost, Overlong, Walk}
use Rattle.network_model.specs.Classes.{permits, walk_from}
use Rattle.policy_check.specs.declared.policy.Demand.{Demand}
use Rattle.policy_check.specs.declared.policy.Demand.TheVariants.{Never, Must, Via}
use Rattle.policy_check.specs.declared.policy.Policy.{Policy}

abbrev pub is_delivered : End → ℕ → Bool
is_delivered (Delivered terminal header) to = terminal == to
is_delivered Unmatched to = false
is_delivered (Dropped rule) to = false
is_delivered (Lost port) to = false
is_delivered Overlong to = false

abbrev pub is_at_box : Option Rule → ℕ → Bool
is_at_box None box = false
is_at_box (Some rule) box = rule.at == box

abbrev pub passes : Network → ℕ → List ℕ → Bool
passes net box rules = list_any (λ rule. is_at_box (value_at net.rules rule) box) rules

abbrev pub meets : Network → Demand → ℕ → Walk → Bool
meets net Never to walk = not (is_delivered walk.end to)
meets net Must to walk = is_delivered walk.end to
meets net (Via box) to walk = not (is_delivered walk.end to) || passes net box walk.rules

abbrev pub obeys : Network → ℕ → Policy → Header → Bool
obeys net hops policy header = meets net policy.demand policy.to (walk_from net hops policy.«from» header)

abbrev pub is_of : Network → Policy → Header → Bool
is_of net policy header = permits net policy.«from» header && matches policy.pattern header

abbrev pub AllObey : Network → ℕ → Policy → Type 0
AllObey net hops policy = (header : Header) → IsTrue (is_of net policy header) → IsTrue (obeys net hops policy header)

abbrev pub Breaks : Network → ℕ → Policy → Header → Type 0
Breaks net hops policy header = IsTrue (is_of net policy header) × (obeys net hops policy header ≡ false)

pub record IsLeastBreach (net : Network) (hops : ℕ) (policy : Policy) (header : Header) : Type 0 where
  pub breaks : Breaks net hops policy header
  pub least : (other : Header) → Breaks net hops policy other → header_cmp other header ≢ Less
