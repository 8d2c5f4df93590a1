use Rattle.std.proofs.Common.{◌≡◌, ◌≤◌, ◌+◌, ℕ, List, [], ◌∷◌, ◌++◌, length, map, take, Some, sym, ap, ◌∙◌, subst, arith}
use Rattle.std.specs.Prelude.{slice_get}
use Rattle.std.proofs.lemmas.List.{length-map}
use Rattle.std.proofs.lemmas.Option.{slice_get-map, slice_get_past}
use Rattle.network_model.specs.Network.{Network, Terminal}
use Rattle.change_laws.specs.Unchanged.{IsUnchanged}
use Rattle.plan_build.specs.Keeping.{numbers_of, AreParted, IsKept}
use Rattle.plan_build.proofs.Parting.{parted_none, one_kept, one_other, parted_all}
use Rattle.plan_build.proofs.rebuilding.part.Goals as goal
use Rattle.plan_build.proofs.rebuilding.part.Goals.{then-hops+then-is_as_wide+then-is_unchanged+in_ok-push, else-hops+in_ok-push-2, else-hops-via-then-hops+then-is_as_wide+else-is_unchanged, else-hops-via-then-hops+else-is_as_wide, else-hops-via-else-hops}

pub loop-place-preserved : goal.loop-place-preserved
loop-place-preserved c =
    let old = c.args.old.now in
    let new = c.args.net.now in
    let hops = c.args.hops in
    let ids : List ℕ = numbers_of new in
    let i = c.loop-place.place in
    let kept : List ℕ = c.loop-place.kept.items in
    let others : List ℕ = c.loop-place.others.items in
    let terminal : ℕ = c.unwrap-terminal.result in
    let at : slice_get ids i ≡ Some terminal = slice_get-map (λ (t : ℕ × Terminal). t.0) new.terminals i ∙ (sym c.term_at.ensures ∙ c.unwrap-terminal.ensures) in
    let mine : c.bits.result ≡ old.net.width = c.bits.ensures.width ∙ ap (λ (n : Network). n.width) (c.deref.ensures ∙ c.net.ensures.net) in
    let its : c.bits-2.result ≡ new.width = c.bits-2.ensures.width in
    elim c.if-hops.branch [
      | then-hops+then-is_as_wide+then-is_unchanged+in_ok-push w ↦
          let same : old.hops ≡ hops = sym c.hops.ensures.hops ∙ w.if-hops.true in
          let wide : old.net.width ≡ new.width = sym mine ∙ w.if-is_as_wide.true ∙ its in
          let is : IsKept old new hops terminal = record {
            hops_same = same;
            width_same = wide;
            unchanged = subst (λ n. IsUnchanged old.net new n terminal) same (w.is_unchanged.ensures.0 w.if-is_unchanged.true);
          } in
          subst (λ (l : List ℕ). AreParted old new hops (take (i + 1) ids) l c.if-hops.others.items) (sym (ap (λ v. v.items) w.kept-is ∙ w.in_ok-push.ensures.items))
          (subst (λ (l : List ℕ). AreParted old new hops (take (i + 1) ids) (kept ++ terminal ∷ []) l) (sym (ap (λ v. v.items) w.others-is))
          (one_kept old new hops ids kept others i terminal at c.loop-place.invariant is))
      | else-hops+in_ok-push-2 w ↦
          let is_not : IsKept old new hops terminal → ⊥ = λ k. elim w.else-hops.branch [
            | else-hops-via-then-hops+then-is_as_wide+else-is_unchanged v ↦
                let held = v.is_unchanged.ensures.1 (subst (λ n. IsUnchanged old.net new n terminal) (sym k.hops_same) k.unchanged) in
                let failed = v.if-is_unchanged.false in
                cc
            | else-hops-via-then-hops+else-is_as_wide v ↦ v.if-is_as_wide.false (mine ∙ k.width_same ∙ sym its)
            | else-hops-via-else-hops v ↦ v.if-hops.false (c.hops.ensures.hops ∙ k.hops_same)
          ] in
          subst (λ (l : List ℕ). AreParted old new hops (take (i + 1) ids) l c.if-hops.others.items) (sym (ap (λ v. v.items) w.kept-is))
          (subst (λ (l : List ℕ). AreParted old new hops (take (i + 1) ids) kept l) (sym (ap (λ v. v.items) w.others-is ∙ w.in_ok-push-2.ensures.items))
          (one_other old new hops ids kept others i terminal at c.loop-place.invariant is_not))
    ]

pub returns-clause-parted : goal.returns-clause-parted
returns-clause-parted c =
    let net = c.args.net.now in
    let past : length (numbers_of net) ≤ c.loop-place.place =
    omega (arith, length-map net.terminals (λ (t : ℕ × Terminal). t.0), c.term_count-place-end.ensures.count, c.loop-place-test.false) in
    parted_all c.args.old.now net c.args.hops (numbers_of net) c.loop-place.kept.items c.loop-place.others.items c.loop-place.place
    (slice_get_past (numbers_of net) c.loop-place.place past) c.loop-place.invariant
