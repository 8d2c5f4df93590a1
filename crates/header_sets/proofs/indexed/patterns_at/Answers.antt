use Rattle.std.proofs.Common.{◌≡◌, ◌+◌, ◌∙◌, ◌++◌, ◌∷◌, [], ℕ, inl, inr, List, Some, None, get_or, take, sym, ap, subst}
use Rattle.std.specs.Prelude.{slice_get}
use Rattle.std.specs.Option.{option_copied}
use Rattle.std.specs.List.{Contains}
use Rattle.std.proofs.lemmas.List.{take_all, take_more}
use Rattle.std.proofs.lemmas.List.Elements.{All-push, Contains-append_left, Contains-push, Contains-push_cases}
use Rattle.std.proofs.lemmas.Option.{slice_get_within, get_or_from_slice_get}
use Rattle.network_model.specs.Bits.{Pattern}
use Rattle.header_sets.proofs.indexed.patterns_at.Goals as goal
use Rattle.header_sets.proofs.indexed.patterns_at.Goals.{in-Some+in_ok-push, in_default}

pub loop-place-preserved : goal.loop-place-preserved
loop-place-preserved c =
    let i = c.loop-place.place-index in
    let places : List ℕ = c.args.places.now in
    let patterns : List Pattern = c.args.patterns.now in
    let p = get_or places i 0 in
    let found : List Pattern = c.loop-place.found.items in
    let seen : take (i + 1) places ≡ take i places ++ p ∷ [] = take_more places i 0 c.loop-place-test.true in
    elim c.match-pattern_at.branch [
      | in-Some+in_ok-push w ↦
          let own : Pattern = w.in-Some.pattern.now in
          let is : slice_get patterns p ≡ Some own = sym c.pattern_at.ensures ∙ ap (λ o. option_copied o) w.in-Some.is in
          rw (w.found-is, w.in_ok-push.ensures.items)
          (record {
            listed = All-push (λ (q : Pattern). Contains patterns q) found own c.loop-place.invariant.listed
                (p, slice_get_within patterns p own is, get_or_from_slice_get patterns p own own is);
            every = λ place other c2 at. elim (Contains-push_cases (take i places) p place (subst (λ (ps : List ℕ). Contains ps place) seen c2)) [
              | inl before ↦ Contains-append_left found (own ∷ []) other (c.loop-place.invariant.every place other before at)
              | inr same ↦
                  let both : Some own ≡ Some other = sym is ∙ ap (λ k. slice_get patterns k) same ∙ at in
                  let one : own ≡ other = cc in
                  subst (λ (q : Pattern). Contains (found ++ own ∷ []) q) one (Contains-push found own)
            ];
          })
      | in_default w ↦
          let is : slice_get patterns p ≡ None = sym c.pattern_at.ensures ∙ ap (λ o. option_copied o) w.in_default.is in
          rw w.found-is
          (record {
            listed = c.loop-place.invariant.listed;
            every = λ place other c2 at. elim (Contains-push_cases (take i places) p place (subst (λ (ps : List ℕ). Contains ps place) seen c2)) [
              | inl before ↦ c.loop-place.invariant.every place other before at
              | inr same ↦
                  let both : None ≡ Some other = sym is ∙ ap (λ k. slice_get patterns k) same ∙ at in
                  absurd (cc)
            ];
          })
    ]

pub returns-clause-every : goal.returns-clause-every
returns-clause-every c place pattern there at =
    c.loop-place.invariant.every place pattern (subst (λ (ps : List ℕ). Contains ps place) (sym (take_all c.loop-place.place-index c.args.places.now c.loop-place-test.false)) there) at
