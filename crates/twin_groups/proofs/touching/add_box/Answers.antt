use Rattle.std.proofs.Common.{refl, inl, inr, ⊎_elim}
use Rattle.twin_groups.proofs.touching.add_box.Goals as goal

pub returns-in_ok-add : goal.returns-in_ok-add
returns-in_ok-add c terminal box =
    let added = c.in_ok-add.ensures.added terminal box in
    let has = c.if-has.ensures.0 refl in (
      (λ there. ⊎_elim (λ old. inl old) (λ here. inr (here.0, has, here.1)) (added.0 there)),
      (λ there. added.1 (⊎_elim (λ old. inl old) (λ here. inr (here.0, here.2)) there)),
    )
