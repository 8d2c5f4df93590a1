use Rattle.std.proofs.Common.{◌≡◌, ◌+◌, ◌<◌, ◌++◌, ◌∷◌, [], ℕ, List, Bool, false, length, not, nat_eq, sym, ap, ◌∙◌, arith}
use Rattle.std.specs.List.{list_any, range_with_len}
use Rattle.std.proofs.lemmas.Bool.{not_from_false, not_from_true}
use Rattle.std.proofs.lemmas.List.{get_or_default}
use Rattle.rule_cover.proofs.Kept.{kept_push, left_out_push, range_more}
use Rattle.rule_cover.proofs.rest.unchosen.Goals as goal
use Rattle.rule_cover.proofs.rest.unchosen.Goals.{then-not-index+in_ok-push, else-not-index}

pub loop-row-preserved : goal.loop-row-preserved
loop-row-preserved c =
    let probes = c.args.probes.now in
    let row = c.loop-row.row in
    let kept : ℕ → Bool = λ (k : ℕ). not (list_any (nat_eq k) probes) in
    let flags = c.in_ok-chosen.chosen.items in
    let below : row < c.len.result = omega (arith, c.loop-row-test.true, c.len.ensures, c.len-row-end.ensures) in
    let inside : row < length flags = omega (arith, c.in_ok-chosen.ensures.count, below) in
    let has : c.index.result.now ≡ list_any (nat_eq (row + 1)) probes =
    c.index.ensures ∙ (get_or_default flags row c.index.result.now false inside ∙ c.in_ok-chosen.ensures.told row below) in
    elim c.if-not-index.branch [
      | then-not-index+in_ok-push w ↦
          rw w.rest-is (w.in_ok-push.ensures.items ∙ (ap (λ (l : List ℕ). l ++ (row + 1) ∷ []) c.loop-row.invariant
          ∙ sym (kept_push kept (range_with_len 1 (row + 1)) (range_with_len 1 row) (row + 1) (range_more row) (not_from_false (list_any (nat_eq (row + 1)) probes) (sym has ∙ w.if-not-index.true)))))
      | else-not-index w ↦
          rw w.rest-is (c.loop-row.invariant
          ∙ sym (left_out_push kept (range_with_len 1 (row + 1)) (range_with_len 1 row) (row + 1) (range_more row) (not_from_true (list_any (nat_eq (row + 1)) probes) (sym has ∙ w.if-not-index.false))))
    ]
