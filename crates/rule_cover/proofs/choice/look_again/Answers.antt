use Rattle.std.proofs.Common.{◌≡◌, ◌≤◌, ℕ, suc, Bool, List, [], ◌∷◌, ◌++◌, length, take, drop, false, slice_index, slice_index_or, slice_set, sym, ap, ◌∙◌, subst, add-one, arith}
use Rattle.std.proofs.lemmas.List.{take_at, get_or_read}
use Rattle.std.specs.List.{slice_get}
use Rattle.network_model.specs.Cover.{rules_at, rules_of, gain, IsBest}
use Rattle.rule_cover.specs.Places.{ArePlaces, Tells}
use Rattle.rule_cover.specs.Choices.{IsUnderway}
use Rattle.rule_cover.proofs.Choices.{is_best, one_more_probe}
use Rattle.rule_cover.proofs.choice.look_again.Goals as goal

pub returns-clause-underway : goal.returns-clause-underway
returns-clause-underway c =
    let numbers = c.args.lists.now.numbers.items in
    let table = c.args.lists.now.table.now in
    let lists = c.args.lists.now.lists in
    let choice = c.args.choice.now in
    let row = c.args.row in
    let probes = choice.probes.items in
    let old = choice.covered.items in
    let kept = choice.kept.items in
    let rules = rules_at (slice_get table row) in
    let known = rules_of table probes in
    let u = c.requires.underway in
    let own : c.list-places.result.now ≡ slice_index_or lists row [] = c.list-places.ensures in
    let listed : ArePlaces numbers rules c.list-places.result.now = subst (ArePlaces numbers rules) (sym own) (c.requires.lists.each row c.requires.inside) in
    let gained : c.gain_of-gain.result ≡ gain table probes (suc row) =
    c.gain_of-gain.ensures numbers rules known listed (subst (λ (cs : List Bool). Tells numbers known (λ p. slice_index_or cs p false)) (sym c.deref.ensures.value) u.told) in
    let keeps : c.index.result.now ≡ slice_index kept row = get_or_read kept row c.index.result.now (omega (arith, u.count)) c.index.ensures 0 in
    let still : slice_index kept row ≤ gain table probes (suc row) = omega (arith, c.if-gain-index.false) in
    let best : IsBest table probes (suc row) = is_best numbers table probes old kept row u c.requires.inside c.requires.positive c.requires.greatest c.requires.first still in
    let new = c.cover_rules.new.covered in
    let covers : Tells numbers (known ++ rules) (λ p. slice_index_or new p false) =
    c.cover_rules.ensures numbers rules known c.requires.lists.rises listed (subst (λ (cs : List Bool). Tells numbers known (λ p. slice_index_or cs p false)) (sym c.deref_mut.ensures.value) u.told) in
    let size : length new ≡ length old = c.cover_rules.auto.covered ∙ ap length c.deref_mut.ensures.value in
    let more = take choice.covered.len (new ++ drop (length new) old) in
    let same : more ≡ new = take_at new (drop (length new) old) choice.covered.len (omega arith) in
    let pushed : c.push.new.self.items ≡ probes ++ suc row ∷ [] = c.in_ok-push.ensures.items ∙ ap (λ (n : ℕ). probes ++ n ∷ []) (add-one row) in
    subst (λ (ps : List ℕ). IsUnderway numbers table ps more (slice_set kept row 0)) (sym pushed)
    (subst (λ (cs : List Bool). IsUnderway numbers table (probes ++ suc row ∷ []) cs (slice_set kept row 0)) (sym same)
    (one_more_probe numbers table probes old new kept row u c.requires.inside best (size ∙ u.flags) covers))
