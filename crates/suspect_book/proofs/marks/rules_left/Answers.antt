use Rattle.std.proofs.Common.{◌≡◌, ℕ, List, ◌++◌, ◌∷◌, [], ◌≤◌, take, length, ◌+◌, sym, ap, ◌∙◌}
use Rattle.std.specs.List.{filter}
use Rattle.std.proofs.lemmas.List.{take_all, get_or_read}
use Rattle.rule_cover.proofs.Kept.{kept_push, left_out_push}
use Rattle.suspect_book.proofs.Marking.{item_taken}
use Rattle.suspect_book.proofs.marks.rules_left.Goals as goal
use Rattle.suspect_book.proofs.marks.rules_left.Goals.{then-is_left_at+in_ok-push, else-is_left_at}

pub loop-place-preserved : goal.loop-place-preserved
loop-place-preserved c test told =
    let numbers = c.args.numbers.now in
    let i = c.loop-place.place in
    let r = c.index-numbers-place.result in
    let more = item_taken numbers i r c.loop-place-test.true c.index-numbers-place.is in
    let tests : c.is_left_at.result ≡ test r =
    c.is_left_at.ensures ∙ (told i c.loop-place-test.true ∙ ap test (sym (get_or_read numbers i r c.loop-place-test.true c.index-numbers-place.is 0))) in
    elim c.if-is_left_at.branch [
      | then-is_left_at+in_ok-push w ↦
          rw w.list-is (w.in_ok-push.ensures.ok ∙ (ap (λ (l : List ℕ). l ++ r ∷ []) (c.loop-place.invariant test told)
          ∙ sym (kept_push test (take (i + 1) numbers) (take i numbers) r more (sym tests ∙ w.if-is_left_at.true))))
      | else-is_left_at w ↦
          rw w.list-is (c.loop-place.invariant test told
          ∙ sym (left_out_push test (take (i + 1) numbers) (take i numbers) r more (sym tests ∙ w.if-is_left_at.false)))
    ]

pub returns : goal.returns
returns c test told =
    let numbers = c.args.numbers.now in
    let whole : length numbers ≤ c.loop-place.place = c.loop-place-test.false in
    c.loop-place.invariant test told ∙ ap (filter test) (take_all c.loop-place.place numbers whole)
