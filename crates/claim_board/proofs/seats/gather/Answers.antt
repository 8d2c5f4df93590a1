use Rattle.std.proofs.Common.{◌≡◌, ◌∙◌, List, ◌∷◌, ◌++◌, All, Contains, refl, sym, ap, subst, arith}
use Rattle.std.proofs.lemmas.List.Elements.{All-contains, Contains-append_right}
use Rattle.claim_board.specs.Claims.{Claims}
use Rattle.claim_board.proofs.Steps.{gathers}
use Rattle.claim_board.proofs.seats.gather.Goals as goal

-- what holds of each seat holds of the next one
of_next : (P : Claims → Type 0) (all front rest more : List Claims) (x : Claims) → all ≡ front ++ rest → rest ≡ x ∷ more → All P all → P x
of_next P all front rest more x split next each =
    let there : Contains (x ∷ more) x = (0, omega arith, refl) in
    All-contains P all x each (subst (λ (l : List Claims). Contains l x) (sym split) (Contains-append_right front rest x (subst (λ (l : List Claims). Contains l x) (sym next) there)))

pub join_seat-requires : goal.join_seat-requires
join_seat-requires c =
    let h = c.loop-other.invariant in let words = c.requires.0 in let seats = h.4 in let u = c.other.inside.seat in
    let of_table = of_next (λ s. s.board.table ≡ c.args.shared.now.table_id) c.args.others.items c.loop-other.yielded _ _ c.in-Some.other h.2 c.in-Some.ensures.steps.0 c.requires.2 in (
      h.3,
      ap (λ (s : Claims). s.board.table) c.other.view_is ∙ of_table,
      c.other.invariant.0,
      omega arith,
      gathers c.args.shared.now.key c.loop-other.whole.id c.loop-other.whole.me.0 u.id u.me.0 (omega arith),
    )
