use Rattle.std.proofs.Common.{◌≡◌, ◌∙◌, List, [], ◌∷◌, ◌++◌, All, Contains, refl, sym, ap, subst, arith}
use Rattle.std.proofs.lemmas.List.{append_assoc}
use Rattle.std.proofs.lemmas.List.Elements.{All-contains, Contains-append_right, All-push}
use Rattle.atomic_table.specs.Table.{Me}
use Rattle.desk_turns.specs.declared.rule.Known.{Known}
use Rattle.desk_turns.specs.Shared.{PassValue}
use Rattle.desk_turns.specs.Passes.{HasOwnCalls}
use Rattle.desk_turns.specs.Rule.{Slot}
use Rattle.desk_turns.proofs.Seen.{seen, may_join, joined}
use Rattle.desk_turns.proofs.closing.gather.Goals as goal

-- what holds of each pass holds of the next one
of_next : (P : PassValue → Type 0) (all front rest more : List PassValue) (x : PassValue) → all ≡ front ++ rest → rest ≡ x ∷ more → All P all → P x
of_next P all front rest more x split next each =
    let there : Contains (x ∷ more) x = (0, omega arith, refl) in
    All-contains P all x each (subst (λ (l : List PassValue). Contains l x) (sym split) (Contains-append_right front rest x (subst (λ (l : List PassValue). Contains l x) (sym next) there)))

pub join_seat-requires : goal.join_seat-requires
join_seat-requires c =
    let h = c.loop-other.invariant in let words = c.requires.0 in let u = c.other.inside.seat in
    let s = seen c.other.inside c.in-Some.other c.other.invariant c.other.view_is in
    let of_table = of_next (λ p. p.desk.table ≡ c.args.shared.now.table_id) c.args.others.items c.loop-other.yielded _ _ c.in-Some.other h.2 c.in-Some.ensures.steps.0 c.requires.2 in (
      h.3,
      s.table ∙ of_table,
      ap (λ (m : Me Slot (List Known)). m.1) s.me,
      omega arith,
      may_join c.args.shared.now.key c.loop-other.whole.id u.id c.loop-other.whole.me u.me c.args.last c.loop-other.yielded h.4 h.6,
    )

pub loop-other-preserved : goal.loop-other-preserved
loop-other-preserved c =
    let h = c.loop-other.invariant in
    let s = seen c.other.inside c.in-Some.other c.other.invariant c.other.view_is in
    let told = c.join_seat.ensures in (
      tt,
      tt,
      split c.args.others.items c.loop-other.yielded _ _ c.in-Some.other h.2 c.in-Some.ensures.steps.0,
      told.0 ∙ h.3,
      joined c.loop-other.whole.me c.other.inside.seat.me c.join_seat.new.seat.me c.args.last c.loop-other.yielded c.in-Some.other h.4 s.me told.2,
      All-push HasOwnCalls (c.args.last ∷ c.loop-other.yielded) c.in-Some.other h.5 s.own,
      h.6,
    )
  where
    split : (all front rest more : List PassValue) (x : PassValue) → all ≡ front ++ rest → rest ≡ x ∷ more → all ≡ (front ++ x ∷ []) ++ more
    split all front rest more x e f = e ∙ (ap (λ l. front ++ l) f ∙ sym (append_assoc front (x ∷ []) more))
