use Rattle.std.proofs.Common.{ℕ, List, map, subst, refl, arith}
use Rattle.std.specs.List.{Contains}
use Rattle.std.proofs.lemmas.List.Sorted.{Contains-permutation}
use Rattle.list_laws.proofs.Members.{Contains-map, Contains-from_map}
use Rattle.pattern_index.proofs.Placing.{keyed_push}
use Rattle.pattern_index.proofs.keys.sorted_keys.Goals as goal

pub loop-place-preserved : goal.loop-place-preserved
loop-place-preserved c =
    rw c.in_ok-push.ensures.items
    (keyed_push c.loop-place.keys.items (c.key_of.result, c.loop-place.place) c.loop-place.place refl c.loop-place.invariant)

pub returns : goal.returns
returns c place inside =
    let second : ℕ × ℕ → ℕ = λ key. key.1 in
    let sorted : List (ℕ × ℕ) = c.sort.new.self.items in
    let (x, (contained, is)) = Contains-from_map second c.loop-place.keys.items place (c.loop-place.invariant place (omega (arith, inside, c.loop-place-test.false))) in
    subst (λ (k : ℕ). Contains (map second sorted) k) is (Contains-map second sorted x (Contains-permutation c.loop-place.keys.items sorted x c.in_ok-sort.ensures.permutation contained))
