use Rattle.std.proofs.Common.{◌≡◌, ◌+◌, rules, subst, length, get_or, ap, refl, ◌∙◌}
use Rattle.std.proofs.lemmas.List.Sorted.{answers_always, length_permutation}
use Rattle.std.specs.List.Sorted.{IsPermutation, IsSortedBy}
use Rattle.std.specs.declared.cmp.Ordering.{Ordering}
use Rattle.std.specs.declared.cmp.Ordering.TheVariants.{Less, Equal, Greater}
use Rattle.std.specs.Ordering.{is_lt, nat_cmp, ordering_then}
use Rattle.net_types.specs.declared.rule.Rule.{Rule}
use Rattle.net_types.specs.Tables.{precedence_cmp}
use Rattle.net_types.proofs.InPrecedence.{in_precedence_from_sort}
use Rattle.net_types.proofs.network.precedence.in_precedence.Goals as goal

first_decides : (x y z : Ordering) → ordering_then x (ordering_then y z) ≡ ordering_then (ordering_then x y) z
first_decides Less y z = refl
first_decides Equal y z = refl
first_decides Greater y z = refl

-- the keys compare as the rules do
keys_compare : (a b : Rule) → is_lt (precedence_cmp a b) ≡ is_lt (ordering_then (ordering_then (nat_cmp a.«at» b.«at») (nat_cmp b.priority a.priority)) (nat_cmp a.id b.id))
keys_compare a b = ap is_lt (first_decides (nat_cmp a.«at» b.«at») (nat_cmp b.priority a.priority) (nat_cmp a.id b.id))

pub returns-clause-order : goal.returns-clause-order
returns-clause-order c =
    let ordered = c.sort_by_cached_key.new.self.items in
    let by_key = c.in_ok-sort_by_cached_key.ensures.sorted (λ (rule : Rule). (rule.«at», record { 0 = rule.priority }, rule.id)) (answers_always _ _ _ (λ f a r k called. search rules)) in
    let sorted : IsSortedBy (λ a b. is_lt (precedence_cmp a b)) ordered = λ k d low high. keys_compare (get_or ordered (k + 1) d) (get_or ordered k d) ∙ by_key k d low high in
    in_precedence_from_sort c.args.rules.now ordered c.requires (subst (λ l. IsPermutation l ordered) c.in_ok-ordered.ensures.items c.sort_by_cached_key.ensures.permutation) sorted

pub returns-clause-as_many : goal.returns-clause-as_many
returns-clause-as_many c = length_permutation _ _ c.sort_by_cached_key.ensures.permutation ∙ ap length c.in_ok-ordered.ensures.items
