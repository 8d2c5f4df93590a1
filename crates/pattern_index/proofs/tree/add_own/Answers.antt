use Rattle.std.proofs.Common.{◌≡◌, ◌∙◌, ◌++◌, ◌∷◌, [], Some, None, get_or, length, sym, ap, subst}
use Rattle.std.specs.List.{slice_get, Contains}
use Rattle.std.proofs.lemmas.List.Elements.{All-push, Contains-push}
use Rattle.std.specs.Option.{option_copied}
use Rattle.std.proofs.lemmas.Option.{slice_get_within, get_or_from_slice_get}
use Rattle.network_model.specs.Bits.{Pattern}
use Rattle.pattern_index.specs.Trees.{IsOwn, own_entry}
use Rattle.pattern_index.proofs.Trees.{tree_own, own_is}
use Rattle.pattern_index.proofs.tree.add_own.Goals as goal

pub returns-in_ok-push-clause-tree : goal.returns-in_ok-push-clause-tree
returns-in_ok-push-clause-tree c =
    let own : Pattern = c.in-Some.pattern.now in
    let at : slice_get c.args.patterns.now c.args.place ≡ Some own = sym c.pattern_at.ensures ∙ ap (λ o. option_copied o) c.in-Some.is in
    let is : get_or c.args.patterns.now c.args.place own ≡ own = get_or_from_slice_get c.args.patterns.now c.args.place own own at in
    let width : length own ≡ c.args.bits = ap (λ (p : Pattern). length p) (sym is) ∙ c.requires.widths c.args.place own (slice_get_within c.args.patterns.now c.args.place own at) in
    rw c.in_ok-push.ensures.items (tree_own c.args.bits c.args.entries.now.items own c.args.place c.requires.tree width)

pub returns-in_ok-push-clause-own : goal.returns-in_ok-push-clause-own
returns-in_ok-push-clause-own c =
    let own : Pattern = c.in-Some.pattern.now in
    let at : slice_get c.args.patterns.now c.args.place ≡ Some own = sym c.pattern_at.ensures ∙ ap (λ o. option_copied o) c.in-Some.is in
    rw c.in_ok-push.ensures.items
    (All-push (IsOwn c.args.patterns.now) c.args.entries.now.items (own_entry own c.args.place) c.requires.own (own_is c.args.patterns.now own c.args.place at))

pub returns-in_ok-push-clause-every : goal.returns-in_ok-push-clause-every
returns-in_ok-push-clause-every c pattern at =
    let own : Pattern = c.in-Some.pattern.now in
    let here : slice_get c.args.patterns.now c.args.place ≡ Some own = sym c.pattern_at.ensures ∙ ap (λ o. option_copied o) c.in-Some.is in
    let both : Some own ≡ Some pattern = sym here ∙ at in
    let same : own ≡ pattern = cc in
    rw c.in_ok-push.ensures.items
    (subst (λ (p : Pattern). Contains (c.args.entries.now.items ++ own_entry own c.args.place ∷ []) (own_entry p c.args.place)) same
    (Contains-push c.args.entries.now.items (own_entry own c.args.place)))

pub returns-in_default-clause-every : goal.returns-in_default-clause-every
returns-in_default-clause-every c pattern at =
    let none : slice_get c.args.patterns.now c.args.place ≡ None = sym c.pattern_at.ensures ∙ ap (λ o. option_copied o) c.in_default.is in
    let both : None ≡ Some pattern = sym none ∙ at in
    absurd (cc)
