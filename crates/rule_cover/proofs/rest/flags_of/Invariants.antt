use Rattle.std.proofs.Common.{◌≡◌, length, take}
use Rattle.rule_cover.proofs.Members.{AreFlagged}
use Rattle.rule_cover.proofs.rest.flags_of.Given as goal

-- the numbers so far are flagged
abbrev pub invariant-loop-number : goal.invariant-loop-number
invariant-loop-number l = record {
  count : length l.flags.items ≡ l.most;
  told : AreFlagged l.most (take l.number-index l.listed) l.flags.items;
}
