use Rattle.std.proofs.Common.{◌+◌, ◌++◌, ◌∷◌, [], ℕ, List, Bool, false, map, take, not, nat_eq, slice_index_or, sym, ap, ◌∙◌, arith}
use Rattle.std.specs.List.{list_any}
use Rattle.std.proofs.lemmas.Bool.{not_from_false, not_from_true}
use Rattle.std.proofs.lemmas.List.{length-map}
use Rattle.network_model.specs.Network.{Numbered}
use Rattle.rule_cover.proofs.Kept.{kept_push, left_out_push, map_take_more, none_within, told_rule}
use Rattle.rule_cover.proofs.rest.uncovered.Goals as goal
use Rattle.rule_cover.proofs.rest.uncovered.Goals.{in-Some+then-not-is_covered+in_ok-push, in-Some+else-not-is_covered, in_default}

pub loop-i-preserved : goal.loop-i-preserved
loop-i-preserved c known told =
    let i = c.loop-i.i in
    let rules = c.args.net.now.rules in
    let number : Numbered → ℕ = λ (r : Numbered). r.0 in
    let whole = map number (take (i + 1) rules) in
    let part = map number (take i rules) in
    let kept : ℕ → Bool = λ (r : ℕ). not (list_any (nat_eq r) known) in
    let test : ℕ → Bool = λ (q : ℕ). slice_index_or c.args.covered.now q false in
    elim c.match-rule_at.branch [
      | in-Some+then-not-is_covered+in_ok-push w ↦
          let id = w.in-Some.rule.now.id in
          rw w.rest-is (w.in_ok-push.ensures.items ∙ (ap (λ (l : List ℕ). l ++ id ∷ []) (c.loop-i.invariant known told)
          ∙ sym (kept_push kept whole part id (map_take_more number rules i _ (sym w.in-Some.ensures))
          (not_from_false (list_any (nat_eq id) known) (sym (told_rule rules known test i _ told (sym w.in-Some.ensures)) ∙ w.if-not-is_covered.true)))))
      | in-Some+else-not-is_covered w ↦
          let id = w.in-Some.rule.now.id in
          rw w.rest-is (c.loop-i.invariant known told
          ∙ sym (left_out_push kept whole part id (map_take_more number rules i _ (sym w.in-Some.ensures))
          (not_from_true (list_any (nat_eq id) known) (sym (told_rule rules known test i _ told (sym w.in-Some.ensures)) ∙ w.if-not-is_covered.false))))
      | in_default w ↦ absurd (none_within rules i (omega (arith, c.loop-i-test.true, c.requires, length-map rules number)) w.in_default.ensures)
    ]
