use Rattle.std.proofs.Common.{◌≡◌, ◌∙◌, ℕ, Some, Err, nat_cmp, sym, subst}
use Rattle.std.specs.List.Sorted.{IsBinarySearchResult}
use Rattle.network_model.specs.Network.{value_at}
use Rattle.class_tree.specs.Among.{HasJoined}
use Rattle.class_tree.proofs.Joining.{joined_insert}
use Rattle.class_tree.proofs.growth.touch.Goals as goal

pub returns-in_ok-insert : goal.returns-in_ok-insert
returns-in_ok-insert c =
    let there : value_at c.args.net.now.ports c.args.port ≡ Some c.in-Some.at = sym c.box_of.ensures ∙ c.in-Some.is in
    let place : IsBinarySearchResult (λ (y : ℕ). nat_cmp y c.in-Some.at) c.args.touched.now.items (Err c.in-Err.place) =
    subst (λ l. IsBinarySearchResult (λ (y : ℕ). nat_cmp y c.in-Some.at) l (Err c.in-Err.place)) c.deref.ensures.value c.in-Err.ensures.position in
    subst (λ l. HasJoined (λ box. value_at c.args.net.now.ports c.args.port ≡ Some box) c.args.touched.now.items l) (sym c.in_ok-insert.ensures.items)
    (joined_insert c.args.touched.now.items c.in-Some.at c.in-Err.place (λ box. value_at c.args.net.now.ports c.args.port ≡ Some box) place there
    (λ m other. let both : Some m ≡ Some c.in-Some.at = sym other ∙ there in cc))
