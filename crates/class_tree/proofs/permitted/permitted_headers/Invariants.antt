use Rattle.std.proofs.Common.{◌≡◌, take}
use Rattle.std.specs.Prelude.{not, ◌&&◌}
use Rattle.network_model.specs.Bits.{Header}
use Rattle.header_sets.specs.Spaces.{any_matches, holds}
use Rattle.class_tree.specs.Permitted.{sent_by}
use Rattle.class_tree.proofs.permitted.permitted_headers.Given as goal

-- the permits without the forbidden patterns so far
abbrev pub invariant-loop-pattern : goal.invariant-loop-pattern
invariant-loop-pattern l = record {
  width : l.space.width ≡ l.net.width;
  set : (h : Header) → holds l.space h ≡ any_matches (sent_by l.net l.fn.terminal) h && not (any_matches (take l.pattern-index l.pattern-items) h);
}
