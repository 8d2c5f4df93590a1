-- What a command comes to, at a desk of any kind and a planner whose tables have at most so many entries.
--     IsPlanFor    a plan of this network and hop limit, within the limit
--     AfterPin     what follows the reply to the pin that a plan begins with
--     Performed    the command's answer, and the desk after it
use Rattle.std.specs.Prelude.{◌≡◌, ℕ, ◌<◌, ◌≤◌, List, length, Bool, true, false}
use Rattle.std.specs.Arc.{arc_value}
use Rattle.network_model.specs.Network.{Network}
use Rattle.network_model.specs.Table.{Entry, IsTable}
use Rattle.rule_cover.specs.PlanValue.{PlanValue}
use Rattle.desk_core.specs.declared.event.Event.{Event}
use Rattle.desk_core.specs.declared.event.Event.TheVariants.{Pin, Post}
use Rattle.desk_core.specs.declared.reply.Reply.{Reply}
use Rattle.desk_core.specs.declared.reply.Reply.TheVariants.{Pinned, Posted}
use Rattle.desk_core.specs.declared.performing.Command.{Command}
use Rattle.desk_core.specs.declared.performing.Command.TheVariants.{Ask, Plan, Quit, Stop}
use Rattle.desk_core.specs.declared.performing.Answer.{Answer}
use Rattle.desk_core.specs.declared.performing.Answer.TheVariants.{Replied, Planned, TableFull, NoMemory, Bye}

pub record IsPlanFor (net : Network) (hops limit : ℕ) (plan : PlanValue) : Type 0 where
  pub net_is : plan.net ≡ net
  pub hops_are : plan.hops ≡ hops
  pub within : length plan.plan.table ≤ limit

abbrev pub is_posted : Reply → Bool
is_posted (Posted entries) = true
is_posted _ = false

-- what follows a pin of this network
abbrev pub Planning : {D : Type 0} → (D → Event → Reply → D → Type 0) → ℕ → ℕ → D → ℕ → ℕ → Network → Answer → D → Type 0
Planning asked limit hops pinned round version net (Replied reply) after =
    (plan : _) × IsPlanFor net hops limit (arc_value plan) × asked pinned (Post round plan) reply after × (is_posted reply ≡ false)
Planning asked limit hops pinned round version net (Planned of pinned_version plan) after =
    (of ≡ round) × (pinned_version ≡ version) × IsPlanFor net hops limit (arc_value plan)
    × ((entries : ℕ) × (posted : _) × (arc_value posted ≡ arc_value plan) × asked pinned (Post round posted) (Posted entries) after)
Planning asked limit hops pinned round version net (TableFull most) after = (most ≡ limit) × ((table : List Entry) × IsTable net hops table × (limit < length table)) × (after ≡ pinned)
Planning asked limit hops pinned round version net NoMemory after = after ≡ pinned
Planning asked limit hops pinned round version net Bye after = ⊥

abbrev pub AfterPin : {D : Type 0} → (D → Event → Reply → D → Type 0) → ℕ → ℕ → D → ℕ → Reply → Answer → D → Type 0
AfterPin asked limit hops pinned round (Pinned version net) answer after = Planning asked limit hops pinned round version (arc_value net) answer after
AfterPin asked limit hops pinned round reply answer after = (answer ≡ Replied reply) × (after ≡ pinned)

abbrev pub Performed : {D : Type 0} → (D → Event → Reply → D → Type 0) → ℕ → ℕ → D → Command → Answer → D → Type 0
Performed asked limit hops before (Ask event) answer after = (reply : Reply) × (answer ≡ Replied reply) × asked before event reply after
Performed asked limit hops before (Plan round) answer after =
    (reply : Reply) × (pinned : _) × asked before (Pin round) reply pinned × AfterPin asked limit hops pinned round reply answer after
Performed asked limit hops before Quit answer after = (answer ≡ Bye) × (after ≡ before)
Performed asked limit hops before Stop answer after = (answer ≡ Bye) × (after ≡ before)
