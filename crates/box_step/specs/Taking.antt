-- One rule and the headers of a set that earlier rules have left.
--     takes_sent    a rule takes a header that came in as this one
--     is_left       a header of the set that no earlier rule takes
--     IsTaken       a rule's branch, and the headers that the rule takes
--     IsKept        a rule took these headers of the set, and they are found under its number
--     Recalls       what is kept is what rules of the same box took that precede a rule
use Rattle.std.specs.Prelude.{◌≡◌, ℕ, Bool, true, not, ◌&&◌, List, Some, IsTrue, length, Contains}
use Rattle.std.specs.Ordering.{nat_cmp}
use Rattle.std.specs.BTreeMap.{BTreeMap, get}
use Rattle.network_model.specs.Bits.{Header, Pattern, matches}
use Rattle.network_model.specs.Rewrites.{Rewrite, rewritten}
use Rattle.network_model.specs.Network.{Network, port_fits, precedes}
use Rattle.net_types.specs.declared.rule.Rule.{Rule}
use Rattle.net_types.specs.Rules.{numbered, in_port, action}
use Rattle.header_sets.specs.Spaces.{SpaceValue, any_matches, holds}
use Rattle.box_step.specs.declared.branches.Branch.{Branch}
use Rattle.box_step.specs.declared.taken.Taken.{Taken}
use Rattle.box_step.specs.Branches.{onward}

abbrev pub takes_sent : ℕ → Rewrite → Rule → Header → Bool
takes_sent port rewrite rule header = port_fits (in_port rule.inp) port && matches rule.pattern (rewritten rewrite header)

abbrev pub is_left : SpaceValue → List Pattern → Header → Bool
is_left space earlier header = holds space header && not (any_matches earlier header)

pub record IsTaken (port : ℕ) (rewrite : Rewrite) (rule : Rule) (space : SpaceValue) (earlier : List Pattern) (branch : Branch) (sources : Pattern) : Type 0 where
  pub number : branch.rule ≡ rule.id
  pub rewrites : branch.rewrite ≡ onward rewrite (action rule.action)
  pub width : branch.space.width ≡ space.width
  pub headers : (h : Header) → holds branch.space h ≡ (is_left space earlier h && takes_sent port rewrite rule h)
  pub sources_width : length sources ≡ length rewrite
  pub takes : (h : Header) → IsTrue (holds space h) → matches sources h ≡ takes_sent port rewrite rule h
  pub some : (h : Header) × IsTrue (holds branch.space h)

pub record IsKept (net : Network) (port : ℕ) (rewrite : Rewrite) (space : SpaceValue) (by_number : BTreeMap ℕ Pattern) (rule : Rule) (sources : Pattern) : Type 0 where
  pub among : Contains net.rules (numbered rule)
  pub found : get nat_cmp by_number rule.id ≡ Some sources
  pub takes : (h : Header) → IsTrue (holds space h) → matches sources h ≡ takes_sent port rewrite rule h

pub record Recalls (net : Network) (port : ℕ) (rewrite : Rewrite) (space : SpaceValue) (taken : Taken) (rule : Rule) : Type 0 where
  pub each : (sources : Pattern) → Contains taken.patterns.items sources → (other : Rule) × (IsKept net port rewrite space taken.by_number other sources × ((other.«at» ≡ rule.«at») × (precedes (numbered other) (numbered rule) ≡ true)))
  pub only : (number : ℕ) (sources : Pattern) → get nat_cmp taken.by_number number ≡ Some sources → Contains taken.patterns.items sources
