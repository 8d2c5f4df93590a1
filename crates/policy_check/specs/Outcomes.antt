-- What a rule leads to, for the packets that it takes.
--     BreaksFrom     a header whose packet, as it stands at a port, walks on so that the demand is not met
--     outcome_of     whether the demand is met behind a rule, or by which port it goes on
--     IsUnmatchedBreach   a header whose packet no rule takes at the port, where that does not meet the demand
--     rest_meets     the walk of a packet behind the rule meets the demand
use Rattle.std.specs.Prelude.{◌≡◌, ℕ, ◌==◌, Bool, true, false, Option, None, Some, IsTrue, if◌then◌else◌}
use Rattle.network_model.specs.Bits.{Header}
use Rattle.network_model.specs.Rewrites.{rewritten}
use Rattle.network_model.specs.Network.{value_at, Network, Rule, Action, Drop, Out, hit}
use Rattle.network_model.specs.Walk as model
use Rattle.header_sets.specs.Spaces.{holds}
use Rattle.policy_check.specs.declared.policy.Demand.{Demand}
use Rattle.policy_check.specs.declared.policy.Demand.TheVariants.{Never, Must, Via}
use Rattle.policy_check.specs.declared.policy.Policy.{Policy}
use Rattle.policy_check.specs.declared.outcome.Outcome.{Outcome}
use Rattle.policy_check.specs.declared.outcome.Outcome.TheVariants.{Obeys, Breaks, GoesOn}
use Rattle.policy_check.specs.declared.search.Part.{Part}
use Rattle.policy_check.specs.Policies.{meets}

abbrev pub BreaksFrom : Network → Policy → ℕ → Part → Header → Type 0
BreaksFrom net policy left part header =
    IsTrue (holds part.space header)
    × (meets net policy.demand policy.to (model.walk net left part.port (rewritten part.rewrite header)) ≡ false)

-- of packets that come to no terminal
abbrev pub undelivered : Demand → Outcome
undelivered Never = Obeys
undelivered Must = Breaks
undelivered (Via box) = Obeys

-- of packets that come to the terminal, and never to the box asked for
abbrev pub delivered : Demand → Outcome
delivered Never = Breaks
delivered Must = Obeys
delivered (Via box) = Breaks

abbrev pub at_terminal : Demand → ℕ → ℕ → Outcome
at_terminal demand to terminal = if terminal == to then delivered demand else undelivered demand

abbrev pub behind_port : Demand → ℕ → model.Next → Outcome
behind_port demand to (model.Term terminal) = at_terminal demand to terminal
behind_port demand to (model.Far port) = GoesOn port
behind_port demand to model.Nothing = undelivered demand

abbrev pub behind_action : Network → Demand → ℕ → Action → Outcome
behind_action net demand to Drop = undelivered demand
behind_action net demand to (Out port rewrite) = behind_port demand to (model.next net port)

abbrev pub IsUnmatchedBreach : Network → Demand → Part → Header → Type 0
IsUnmatchedBreach net demand part header =
    IsTrue (holds part.space header) × (hit net part.port (rewritten part.rewrite header) ≡ None) × (undelivered demand ≡ Breaks)

-- the box is the one asked for
abbrev pub is_asked : Demand → ℕ → Bool
is_asked Never at = false
is_asked Must at = false
is_asked (Via box) at = at == box

abbrev pub behind_rule : Network → Demand → ℕ → Option Rule → Outcome
behind_rule net demand to None = Obeys
behind_rule net demand to (Some rule) = if is_asked demand rule.at then Obeys else behind_action net demand to rule.action

abbrev pub outcome_of : Network → Policy → ℕ → Outcome
outcome_of net policy rule = behind_rule net policy.demand policy.to (value_at net.rules rule)

abbrev pub moved : Action → Header → Header
moved Drop header = header
moved (Out port rewrite) header = rewritten rewrite header

abbrev pub rest_meets : Network → Demand → ℕ → ℕ → Action → Header → Outcome → Bool
rest_meets net demand to left action header Obeys = true
rest_meets net demand to left action header Breaks = false
rest_meets net demand to left action header (GoesOn port) = meets net demand to (model.walk net left port (moved action header))
