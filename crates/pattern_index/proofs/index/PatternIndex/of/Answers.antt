use Rattle.std.proofs.Common.{◌<◌, ℕ, List, length, map, sym, subst}
use Rattle.std.specs.List.{Contains}
use Rattle.std.proofs.lemmas.Option.{slice_get_within}
use Rattle.pattern_index.proofs.index.PatternIndex.of.Goals as goal

pub returns-clause-patterns : goal.returns-clause-patterns
returns-clause-patterns c = record {
  own = c.in_ok-add_part.ensures.own;
  every = λ place pattern at.
      let inside : place < length c.args.patterns.now = slice_get_within c.args.patterns.now place pattern at in
      let listed = c.in_ok-keys.ensures place inside in
      c.in_ok-add_part.ensures.every place pattern
      (subst (λ (keys : List (ℕ × ℕ)). Contains (map (λ (key : ℕ × ℕ). key.1) keys) place) (sym c.deref.ensures.value) listed) at;
}
