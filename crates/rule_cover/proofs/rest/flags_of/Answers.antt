use Rattle.std.proofs.Common.{◌≡◌, ℕ, ◌+◌, ◌-◌, ◌<◌, ◌≤◌, List, Bool, true, false, Vec, Global, replicate, length, get_or, slice_set, ap, ◌∙◌, subst, arith}
use Rattle.std.proofs.lemmas.List.{length-replicate, length-set, take_all, get_or_default, get_or-set_other}
use Rattle.std.proofs.lemmas.Grind.{get_or-set_at}
use Rattle.rule_cover.proofs.Members.{AreFlagged, none_flagged, flagged_more}
use Rattle.rule_cover.proofs.rest.flags_of.Goals as goal
use Rattle.rule_cover.proofs.rest.flags_of.Goals.{then-number-ge1+then-number-most, else-number-ge1, else-number-ge1-via-then-number-ge1+else-number-most, else-number-ge1-via-else-number-ge1}

pub loop-number-init : goal.loop-number-init
loop-number-init c =
    let filled : c.in_ok-flags.flags.items ≡ replicate c.args.most false = c.in_ok-flags.ensures.items_if_clones_equal (λ y e. e) in
    record { count = ap length filled ∙ length-replicate c.args.most false; told = none_flagged c.args.most c.in_ok-flags.flags.items filled }

pub loop-number-preserved : goal.loop-number-preserved
loop-number-preserved c =
    let listed = c.args.listed.now in
    let k = c.loop-number.number-index in
    let number = get_or listed k 0 in
    let old = c.loop-number.flags.items in
    let new = c.if-number-ge1.flags.items in
    let size = c.loop-number.invariant.count in
    let at : get_or listed k number ≡ number = get_or_default listed k number 0 c.loop-number-test.true in
    let more = flagged_more c.args.most listed k number old new c.loop-number-test.true at c.loop-number.invariant.told in
    elim c.if-number-ge1.branch [
      | then-number-ge1+then-number-most w ↦
          let items : new ≡ slice_set old (number - 1) true = ap (λ (v : Vec Bool Global). v.items) w.flags-is in
          let one : 1 ≤ number = w.if-number-ge1.true in
          let few : number ≤ c.args.most = w.if-number-most.true in
          record {
            count = ap length items ∙ (length-set old (number - 1) true ∙ size);
            told = more
                (λ i below same. ap (λ (fs : List Bool). get_or fs i false) items ∙ get_or-set_at old (number - 1) i true false (omega (arith, same)) (omega (arith, size, one, few)))
                (λ i below other. ap (λ (fs : List Bool). get_or fs i false) items
                ∙ get_or-set_other old (number - 1) i true false (λ e. other (omega (arith, e, one))));
          }
      | else-number-ge1 w ↦
          let items : new ≡ old = ap (λ (v : Vec Bool Global). v.items) w.flags-is in
          let out : (i : ℕ) → i < c.args.most → i + 1 ≡ number → ⊥ = λ i below same. elim w.else-number-ge1.branch [
            | else-number-ge1-via-then-number-ge1+else-number-most w' ↦ let many : c.args.most < number = w'.if-number-most.false in omega (arith, below, same, many)
            | else-number-ge1-via-else-number-ge1 w' ↦ let none : number < 1 = w'.if-number-ge1.false in omega (arith, same, none)
          ] in
          record {
            count = ap length items ∙ size;
            told = more (λ i below same. absurd (out i below same)) (λ i below other. ap (λ (fs : List Bool). get_or fs i false) items);
          }
    ]

pub returns-clause-told : goal.returns-clause-told
returns-clause-told c = subst (λ l. AreFlagged c.args.most l c.loop-number.flags.items) (take_all c.loop-number.number-index c.args.listed.now (omega (arith, c.loop-number-test.false))) c.loop-number.invariant.told
