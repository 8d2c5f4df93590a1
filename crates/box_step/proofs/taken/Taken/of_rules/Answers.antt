use Rattle.std.proofs.Common.{◌≡◌, ◌∙◌, ◌+◌, ◌++◌, ◌∷◌, [], ℕ, List, Some, None, inl, inr, take, sym, ap, subst}
use Rattle.std.specs.List.{Contains}
use Rattle.std.specs.Option.{option_copied}
use Rattle.std.specs.Ordering.{nat_cmp}
use Rattle.std.specs.BTreeMap.{get}
use Rattle.std.proofs.lemmas.List.{take_all, take_more}
use Rattle.std.proofs.lemmas.List.Elements.{Contains-append_left, Contains-push, Contains-push_cases}
use Rattle.network_model.specs.Bits.{Pattern}
use Rattle.box_step.proofs.taken.Taken.of_rules.Goals as goal
use Rattle.box_step.proofs.taken.Taken.of_rules.Goals.{in-Some+in_ok-push, in_default}

pub loop-number-preserved : goal.loop-number-preserved
loop-number-preserved c =
    let numbers : List ℕ = c.args.numbers.now in
    let i = c.loop-number.number-index in
    let n : ℕ = c.number-item.result in
    let kept = c.args.self.now.by_number in
    let own : List Pattern = c.loop-number.own.items in
    let seen : take (i + 1) numbers ≡ take i numbers ++ n ∷ [] = take_more numbers i n c.loop-number-test.true ∙ ap (λ (k : ℕ). take i numbers ++ k ∷ []) (sym c.number-item.is) in
    elim c.match-get.branch [
      | in-Some+in_ok-push w ↦
          let now : Pattern = w.in-Some.sources.now in
          let found : get nat_cmp kept n ≡ Some now = ap (λ k. get nat_cmp kept k) (sym c.get.ensures) ∙ sym w.in-Some.ensures.value in
          rw (w.own-is, w.in_ok-push.ensures.items, seen)
          (record {
            all = λ s contained. elim (Contains-push_cases own now s contained) [
              | inl before ↦ c.loop-number.invariant.all s before
              | inr same ↦ (n, found ∙ ap (λ (p : Pattern). Some p) same)
            ];
            every = λ k s contained is. elim (Contains-push_cases (take i numbers) n k contained) [
              | inl before ↦ Contains-append_left own (now ∷ []) s (c.loop-number.invariant.every k s before is)
              | inr same ↦
                  let both : Some now ≡ Some s = sym found ∙ ap (λ j. get nat_cmp kept j) same ∙ is in
                  let one : now ≡ s = cc in
                  subst (λ (p : Pattern). Contains (own ++ now ∷ []) p) one (Contains-push own now)
            ];
          })
      | in_default w ↦
          let nothing : get nat_cmp kept n ≡ None = ap (λ k. get nat_cmp kept k) (sym c.get.ensures) ∙ sym c.get-in-loop-number.ensures.value ∙ ap (λ r. option_copied r) w.in_default.is in
          rw (w.own-is, seen)
          (record {
            all = c.loop-number.invariant.all;
            every = λ k s contained is. elim (Contains-push_cases (take i numbers) n k contained) [
              | inl before ↦ c.loop-number.invariant.every k s before is
              | inr same ↦ let both : None ≡ Some s = sym nothing ∙ ap (λ j. get nat_cmp kept j) same ∙ is in absurd (cc)
            ];
          })
    ]

pub returns-clause-every : goal.returns-clause-every
returns-clause-every c n s contained found =
    c.loop-number.invariant.every n s
    (subst (λ (ns : List ℕ). Contains ns n) (sym (take_all c.loop-number.number-index c.args.numbers.now c.loop-number-test.false)) contained) found
