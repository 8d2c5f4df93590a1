use Rattle.std.proofs.Common.{ℕ, ◌≡◌, List, [], ◌∷◌, sym, ap, ◌∙◌, subst, arith, length, ◌≤◌}
use Rattle.std.specs.Prelude.{Some, None}
use Rattle.atomic_table.specs.Table.{Me, Allows, rest}
use Rattle.desk_core.specs.Past.{past_of}
use Rattle.desk_core.specs.Legal.{IsLegal}
use Rattle.desk_core.specs.DeskValue.{DeskValue}
use Rattle.desk_turns.specs.declared.rule.Known.{Known}
use Rattle.desk_turns.specs.Rule.{Slot, opened, lifted, founded, IsTurns}
use Rattle.desk_turns.proofs.Founding.{lifts, founds}
use Rattle.desk_turns.proofs.dealing.found.Goals as goal
use Rattle.desk_turns.specs.declared.rule.Opened.{Opened}

abbrev me_of : List Known → List (ℕ × Slot) → Me Slot (List Known)
me_of ks c = (ks, c)

pub load-requires : goal.load-requires
load-requires c =
    let of = c.args.shared.now.key in let words = c.requires.table.1 in (
      c.requires.table.0,
      omega arith,
      subst (λ (m : Me Slot (List Known)). Allows (IsTurns of) c.args.shared.now.table_id.slots c.args.first.id m 0 (λ n. n) (λ found after. after ≡ (lifted m.0, (0, None) ∷ [])))
          (sym c.requires.first) (lifts of c.args.first.id c.args.shared.now.table_id.slots),
    )

with_desk : (of : Opened) (m0 m1 m2 : Me Slot (List Known)) (desk : DeskValue) → m0 ≡ (opened of, []) → m1 ≡ (lifted m0.0, (0, None) ∷ []) → m2 ≡ (m1.0, (0, Some desk) ∷ rest m1.1) → desk ≡ of.desk
    → m2 ≡ (lifted (opened of), (0, Some of.desk) ∷ [])
with_desk of m0 m1 m2 desk e0 e1 e2 is =
    let first : m1 ≡ me_of (lifted (opened of)) ((0, None) ∷ []) = e1 ∙ ap (λ (m : Me Slot (List Known)). me_of (lifted m.0) ((0, None) ∷ [])) e0 in
    e2
    ∙ (ap (λ (m : Me Slot (List Known)). me_of m.0 ((0, Some desk) ∷ rest m.1)) first
    ∙ ap (λ (d : DeskValue). me_of (lifted (opened of)) ((0, Some d) ∷ [])) is)

pub load-requires-2 : goal.load-requires-2
load-requires-2 c =
    let of = c.args.shared.now.key in let words = c.requires.table.1 in (
      c.exchange.ensures.0 ∙ (c.load.ensures.0 ∙ c.requires.table.0),
      omega arith,
      subst (λ (m : Me Slot (List Known)). Allows (IsTurns of) c.args.shared.now.table_id.slots c.exchange.new.seat.id m 0 (λ n. n) (λ found after. after ≡ (founded m.0, [])))
          (sym (with_desk of c.args.first.me c.load.new.seat.me c.exchange.new.seat.me c.args.desk c.requires.first c.load.ensures.2 c.exchange.ensures.3 c.requires.desk))
          (founds of c.exchange.new.seat.id c.args.shared.now.table_id.slots
          (subst (λ (d : DeskValue). IsLegal (past_of d.log)) c.requires.desk c.requires.legal)
          (subst (λ (d : DeskValue). length d.log ≤ d.room) c.requires.desk c.requires.within)),
    )
