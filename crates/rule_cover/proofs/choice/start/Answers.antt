use Rattle.std.proofs.Common.{◌≡◌, ℕ, ◌+◌, ◌<◌, ◌++◌, ◌∷◌, [], Bool, List, false, length, map, take, get_or, replicate, slice_index_or, sym, ap, ◌∙◌, subst, arith}
use Rattle.std.proofs.lemmas.List.{take_all, take_more, map-append, get_or-replicate, length-replicate}
use Rattle.rule_cover.specs.Choices.{IsUnderway}
use Rattle.rule_cover.proofs.Choices.{underway_start}
use Rattle.rule_cover.proofs.choice.start.Goals as goal

pub loop-row-preserved : goal.loop-row-preserved
loop-row-preserved c =
    let lists = c.args.lists.now.lists in
    let row = c.loop-row.row in
    let inside : row < length lists = omega (arith, c.loop-row-test.true, c.len-row-end.ensures) in
    let more : map length (take (row + 1) lists) ≡ map length (take row lists) ++ length c.list.result.now ∷ [] =
    ap (map length) (take_more lists row [] inside) ∙ (map-append length (take row lists) (get_or lists row [] ∷ [])
    ∙ ap (λ (l : List ℕ). map length (take row lists) ++ length l ∷ []) (sym c.list.ensures)) in
    c.in_ok-push.ensures.items ∙ (ap (λ (ns : List ℕ). ns ++ length c.list.result.now ∷ []) c.loop-row.invariant ∙ sym more)

pub returns : goal.returns
returns c =
    let lists = c.args.lists.now in
    let covered = c.in_ok-vec.field-0.items in
    let numbers = lists.numbers.items in
    let table = lists.table.now in
    let count = c.len.result in
    let kept : c.loop-row.kept.items ≡ map length lists.lists = c.loop-row.invariant ∙ ap (λ (xs : List (List ℕ)). map length xs) (take_all c.loop-row.row lists.lists (omega (arith, c.loop-row-test.false))) in
    let filled : covered ≡ replicate count false = c.in_ok-vec.ensures.items_if_clones_equal (λ y e. e) in
    let counted : count ≡ length numbers = omega (arith, c.len.ensures) in
    let size : length covered ≡ length numbers = ap length filled ∙ (length-replicate count false ∙ counted) in
    let none : (p : ℕ) → p < length numbers → slice_index_or covered p false ≡ false = λ p l. ap (λ (cs : List Bool). slice_index_or cs p false) filled ∙ get_or-replicate count p false false (omega arith) in
    subst (λ (ps : List ℕ). IsUnderway numbers table ps covered c.loop-row.kept.items) (sym c.new.ensures.items)
    (underway_start numbers table lists.lists covered c.loop-row.kept.items c.requires size none kept)
