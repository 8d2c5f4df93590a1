-- The packets that a rule sends on, and what lies behind the port by which they leave.
--     exit_of         the port by which a rule sends packets on
--     class_behind    the class of a branch's packets at the other end of a link
--     IsEntryOf       the entry of a branch's packets at a terminal
--     LiesBehind      a branch's packets are delivered, come to the other end of a link, or are lost
use Rattle.std.specs.Prelude.{◌≡◌, ◌≢◌, ℕ, Option, None, Some, IsTrue, option_and_then}
use Rattle.std.specs.declared.cmp.Ordering.TheVariants.{Less}
use Rattle.network_model.specs.Prefixes.{extended}
use Rattle.network_model.specs.Bits.{Header, header_cmp}
use Rattle.network_model.specs.Rewrites.{rewritten}
use Rattle.network_model.specs.Network.{value_at, Network, Rule, Action, Drop, Out}
use Rattle.network_model.specs.Walk as model
use Rattle.header_sets.specs.Spaces.{holds}
use Rattle.box_step.specs.declared.branches.Branch.{Branch}
use Rattle.path_table.specs.declared.entry.Entry.{Entry}
use Rattle.class_tree.specs.declared.class.Class.{Class}
use Rattle.class_tree.specs.declared.expansion.Behind.{Behind}
use Rattle.class_tree.specs.declared.expansion.Behind.TheVariants.{Arrival, Onward, Nothing}

abbrev pub exit : Action → Option ℕ
exit Drop = None
exit (Out port rewrite) = Some port

abbrev pub exit_of : Network → ℕ → Option ℕ
exit_of net rule = option_and_then (λ (r : Rule). exit r.action) (value_at net.rules rule)

abbrev pub class_behind : Class → Branch → ℕ → Class
class_behind class branch port =
    record { «from» = class.«from»; port = port; space = branch.space; rewrite = branch.rewrite; rules = extended class.rules branch.rule }

pub record IsEntryOf (class : Class) (branch : Branch) (terminal : ℕ) (e : Entry) : Type 0 where
  pub starts : e.«from» ≡ class.«from»
  pub arrives_at : e.to ≡ terminal
  pub rules : e.rules ≡ extended class.rules branch.rule
  pub least : IsTrue (holds branch.space e.least)
  pub greatest : IsTrue (holds branch.space e.greatest)
  pub between : (h : Header) → IsTrue (holds branch.space h) → (header_cmp h e.least ≢ Less) × (header_cmp e.greatest h ≢ Less)
  pub becomes : e.arrives ≡ rewritten branch.rewrite e.least

abbrev pub LiesBehind : Class → Branch → model.Next → Behind → Type 0
LiesBehind class branch (model.Term terminal) (Arrival e) = IsEntryOf class branch terminal e
LiesBehind class branch (model.Far far) (Onward next) = next ≡ class_behind class branch far
LiesBehind class branch model.Nothing Nothing = Unit {0}
LiesBehind class branch next behind = ⊥
