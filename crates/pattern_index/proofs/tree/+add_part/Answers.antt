use Rattle.std.proofs.Common.{◌≡◌, ◌≤◌, ◌-◌, ◌∙◌, ◌++◌, ℕ, inl, inr, List, length, map, take, drop, sym, ap, subst, arith}
use Rattle.std.specs.List.{All, Contains}
use Rattle.std.proofs.lemmas.List.{map-append, take_all, length-drop, take-append-drop}
use Rattle.std.proofs.lemmas.List.Elements.{Contains-append_left, Contains-append_cases}
use Rattle.pattern_index.specs.declared.tree.Entry.{Entry}
use Rattle.pattern_index.specs.Hulls.{IsWithin}
use Rattle.pattern_index.specs.Trees.{own_entry}
use Rattle.pattern_index.proofs.Trees.{tree_hull}
use Rattle.pattern_index.proofs.tree.+add_part.Goals as goal

pub returns-in_ok-push-in_default-clause-tree : goal.returns-in_ok-push-in_default-clause-tree
returns-in_ok-push-in_default-clause-tree t c =
    let so_far : List Entry = c.add_part-in_default.new.entries.items in
    let first = c.len-first.result in
    let hull = c.hull_of-pattern.result in
    let inside : first ≤ length so_far = omega (arith, c.len-first.ensures, c.in_ok-add_part-in_default.ensures.grown, c.in_ok-add_part-in_default-2.ensures.grown) in
    let P : List Entry → Type 0 = λ es. All (λ (e : Entry). IsWithin e.pattern hull) es in
    let part : take (length c.deref.result.now - first) (drop first c.deref.result.now) ≡ drop first so_far =
    take_all (length c.deref.result.now - first) (drop first c.deref.result.now) (rw (length-drop first c.deref.result.now) (omega arith)) ∙ ap (λ (es : List Entry). drop first es) c.deref.ensures.value in
    let all : P (drop first so_far) = subst P part c.hull_of-pattern.ensures.within in
    rw c.in_ok-push-in_default.ensures.items
    (tree_hull c.args.bits so_far hull first c.in_ok-add_part-in_default-2.ensures.tree c.hull_of-pattern.ensures.width inside all)

pub returns-in_ok-push-in_default-clause-kept : goal.returns-in_ok-push-in_default-clause-kept
returns-in_ok-push-in_default-clause-kept t c entry there =
    let so_far : List Entry = c.add_part-in_default.new.entries.items in
    rw c.in_ok-push-in_default.ensures.items
    (Contains-append_left so_far _ entry (c.in_ok-add_part-in_default-2.ensures.kept entry (c.in_ok-add_part-in_default.ensures.kept entry there)))

pub returns-in_ok-push-in_default-clause-every : goal.returns-in_ok-push-in_default-clause-every
returns-in_ok-push-in_default-clause-every t c place pattern listed at =
    let second : ℕ × ℕ → ℕ = λ key. key.1 in
    let left : List (ℕ × ℕ) = c.split_at.result.0.now in
    let right : List (ℕ × ℕ) = c.split_at.result.1.now in
    let so_far : List Entry = c.add_part-in_default.new.entries.items in
    let parts : left ++ right ≡ c.args.keys.now =
    ap (λ (ks : List (ℕ × ℕ)). ks ++ right) c.split_at.ensures.front ∙ ap (λ (ks : List (ℕ × ℕ)). take c.first_part.result c.args.keys.now ++ ks) c.split_at.ensures.back
    ∙ take-append-drop c.first_part.result c.args.keys.now in
    let apart : Contains (map second left ++ map second right) place =
    subst (λ (ps : List ℕ). Contains ps place) (map-append second left right)
    (subst (λ (ks : List (ℕ × ℕ)). Contains (map second ks) place) (sym parts) listed) in
    rw c.in_ok-push-in_default.ensures.items
    (Contains-append_left so_far _ (own_entry pattern place) (elim (Contains-append_cases (map second left) (map second right) place apart) [
      | inl here ↦ c.in_ok-add_part-in_default-2.ensures.kept (own_entry pattern place) (c.in_ok-add_part-in_default.ensures.every place pattern here at)
      | inr there ↦ c.in_ok-add_part-in_default-2.ensures.every place pattern there at
    ]))
