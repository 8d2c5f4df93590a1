-- How the rules of a port's box divide a set of headers, each as it was where its packet came in.
--     onward      what becomes of a packet behind a rule
--     IsBranch    a branch has just those headers that its rule hits
--     IsSplit     the branches are those of the rules that hit some header, in order of precedence
--     sends       a rule sends its packets on
--     is_wanted   a rule sends its packets on, or those that drop are wanted too
--     IsSplitOf   the same of some of the rules alone
--     IsSent      the same of those that send their packets on
use Rattle.std.specs.Prelude.{◌≡◌, ℕ, ◌↔◌, Bool, true, false, ◌||◌, List, Some, IsTrue, AllPairs, Contains}
use Rattle.std.specs.List.{AllZip}
use Rattle.network_model.specs.Bits.{Header}
use Rattle.network_model.specs.Rewrites.{Rewrite, rewritten, composed}
use Rattle.network_model.specs.Network.{Network, Numbered, Action, Drop, Out, hit, precedes}
use Rattle.header_sets.specs.Spaces.{SpaceValue, holds}
use Rattle.box_step.specs.declared.branches.Branch.{Branch}

-- the rewrite so far and then that of the rule; a rule that drops has none
abbrev pub onward : Rewrite → Action → Rewrite
onward rewrite Drop = rewrite
onward rewrite (Out port later) = composed rewrite later

-- a header of the set that the rule hits, rewritten as it was so far
abbrev pub IsHit : Network → ℕ → SpaceValue → Rewrite → Numbered → Header → Type 0
IsHit net port space rewrite rule header = IsTrue (holds space header) × (hit net port (rewritten rewrite header) ≡ Some rule)

pub record IsBranch (net : Network) (port : ℕ) (space : SpaceValue) (rewrite : Rewrite) (rule : Numbered) (branch : Branch) : Type 0 where
  pub number : branch.rule ≡ rule.0
  pub width : branch.space.width ≡ net.width
  pub headers : (h : Header) → IsTrue (holds branch.space h) ↔ IsHit net port space rewrite rule h
  pub rewrites : branch.rewrite ≡ onward rewrite rule.1.action

pub record IsSplit (net : Network) (port : ℕ) (space : SpaceValue) (rewrite : Rewrite) (branches : List Branch) : Type 0 where
  pub rules : List Numbered
  pub each : AllZip (IsBranch net port space rewrite) rules branches
  pub exact : (rule : Numbered) → Contains rules rule ↔ ((h : Header) × IsHit net port space rewrite rule h)
  pub order : AllPairs (λ a b. IsTrue (precedes a b)) rules

abbrev pub sends : Action → Bool
sends Drop = false
sends (Out port rewrite) = true

abbrev pub is_wanted : Bool → Numbered → Bool
is_wanted drops rule = drops || sends rule.1.action

pub record IsSplitOf (keeps : Numbered → Bool) (net : Network) (port : ℕ) (space : SpaceValue) (rewrite : Rewrite) (branches : List Branch) : Type 0 where
  pub rules : List Numbered
  pub each : AllZip (IsBranch net port space rewrite) rules branches
  pub exact : (rule : Numbered) → Contains rules rule ↔ ((keeps rule ≡ true) × ((h : Header) × IsHit net port space rewrite rule h))
  pub order : AllPairs (λ a b. IsTrue (precedes a b)) rules

abbrev pub IsSent : Network → ℕ → SpaceValue → Rewrite → List Branch → Type 0
IsSent net port space rewrite branches = IsSplitOf (λ rule. sends rule.1.action) net port space rewrite branches
