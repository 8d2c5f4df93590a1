-- The class of a terminal that sends some header.
use Rattle.std.proofs.Common.{◌≡◌, ℕ, List, [], sym, ap, ◌∙◌, subst}
use Rattle.network_model.specs.Rewrites.{kept, Rewrite}
use Rattle.net_types.specs.Terminals.{answered_place, role_of}
use Rattle.class_tree.specs.Roots.{IsRoot}
use Rattle.class_tree.proofs.Rooted.{root_is}
use Rattle.class_tree.proofs.starting.root_of.Goals as goal

pub returns-clause-some : goal.returns-clause-some
returns-clause-some c =
    let net = c.args.net.now in
    let t = c.args.terminal in
    let placed = sym c.term.ensures ∙ ap answered_place c.in-Some.is in
    let is : IsRoot net t (record { «from» = t; port = c.in-Some.place.0; space = c.in_ok-space.space; rewrite = kept net.width; rules = [] }) =
    root_is net c.requires.well_formed t c.in-Some.place.0 (role_of c.in-Some.place.1) c.in_ok-space.space placed c.in_ok-space.ensures.width c.in_ok-space.ensures.set c.if-is_empty.ensures.member in
    let rewrite : kept net.width ≡ c.keep.result = sym (c.keep.ensures ∙ ap kept c.requires.bits) in
    subst (λ (r : List ℕ). IsRoot net t (record { «from» = t; port = c.in-Some.place.0; space = c.in_ok-space.space; rewrite = c.keep.result; rules = r })) (sym c.new.ensures)
    (subst (λ (r : Rewrite). IsRoot net t (record { «from» = t; port = c.in-Some.place.0; space = c.in_ok-space.space; rewrite = r; rules = [] })) rewrite is)
