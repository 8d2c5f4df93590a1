use Rattle.std.proofs.Common.{ℕ, suc, ◌<◌, Bool, false, slice_index_or, List, ◌≡◌, replicate, None, length, sym, ap, ◌∙◌, subst}
use Rattle.std.specs.Arc.{arc_value}
use Rattle.std.specs.List.Sorted.{IsStrictlyIncreasing}
use Rattle.std.specs.Prelude.{Contains}
use Rattle.network_model.specs.Network.{Network}
use Rattle.network_model.specs.Table.{Entry}
use Rattle.network_model.specs.Cover.{rules_at, entry_at}
use Rattle.network_model.specs.Plan.{IsPlan, reserved}
use Rattle.rule_cover.specs.Places.{numbers_of}
use Rattle.rule_cover.specs.PlanValue.{PlanValue}
use Rattle.rule_cover.proofs.NetRules.{table_rules}
use Rattle.fault_model.specs.Outcomes.{has}
use Rattle.suspect_book.specs.Standings.{AreStandings}
use Rattle.suspect_book.proofs.Booked.{book_new}
use Rattle.suspect_book.proofs.book.Book.new.Goals as goal

abbrev Reserved : PlanValue → List Bool → Type 0
Reserved p rows = (k : ℕ) → k < length p.plan.table → slice_index_or rows k false ≡ has (reserved p.plan) (suc k)

pub standings-requires-clause-among : goal.standings-requires-clause-among
standings-requires-clause-among c n r on =
    let plan = arc_value c.args.plan in
    let planned : IsPlan plan.net plan.hops plan.plan = subst (λ (p : PlanValue). IsPlan p.net p.hops p.plan) c.deref.ensures c.net.ensures.is_plan in
    let also : c.deref-4.result.now ≡ plan.net = c.deref-4.ensures ∙ (c.net-2.ensures.net ∙ ap (λ (p : PlanValue). p.net) c.deref-3.ensures) in
    let numbers : c.deref-6.result.now ≡ numbers_of plan.net = c.deref-6.ensures.value ∙ (c.in_ok-numbers.ensures ∙ ap numbers_of also) in
    let table : c.table-2.result.now ≡ plan.plan.table = c.table-2.ensures.table ∙ ap (λ (p : PlanValue). p.plan.table) c.deref-7.ensures in
    subst (λ (xs : List ℕ). Contains xs r) (sym numbers) (table_rules plan.net plan.hops plan.plan.table planned.table n r
    (subst (λ (t : List Entry). Contains (rules_at (entry_at t n)) r) table on))

pub invariant_of-result : goal.invariant_of-result
invariant_of-result c =
    let plan = arc_value c.args.plan in
    let net : c.deref-2.result.now ≡ plan.net = c.deref-2.ensures ∙ (c.net.ensures.net ∙ ap (λ (p : PlanValue). p.net) c.deref.ensures) in
    let also : c.deref-4.result.now ≡ plan.net = c.deref-4.ensures ∙ (c.net-2.ensures.net ∙ ap (λ (p : PlanValue). p.net) c.deref-3.ensures) in
    let numbers : c.in_ok-numbers.numbers.items ≡ numbers_of plan.net = c.in_ok-numbers.ensures ∙ ap numbers_of also in
    let rises : IsStrictlyIncreasing c.in_ok-numbers.numbers.items =
    subst IsStrictlyIncreasing (sym numbers) (subst (λ (n : Network). IsStrictlyIncreasing (numbers_of n)) net c.bits-bits.ensures.well_formed.rules) in
    let count : c.len.result ≡ length plan.plan.table = c.len.ensures ∙ ap length (c.table.ensures.table ∙ ap (λ (p : PlanValue). p.plan.table) c.deref-5.ensures) in
    let planned : IsPlan plan.net plan.hops plan.plan = subst (λ (p : PlanValue). IsPlan p.net p.hops p.plan) c.deref.ensures c.net.ensures.is_plan in
    let table : c.table-2.result.now ≡ plan.plan.table = c.table-2.ensures.table ∙ ap (λ (p : PlanValue). p.plan.table) c.deref-7.ensures in
    let standings : AreStandings c.in_ok-numbers.numbers.items plan.plan.table c.in_ok-lists.lists.items =
    subst (λ (t : List Entry). AreStandings c.in_ok-numbers.numbers.items t c.in_ok-lists.lists.items) table
    (subst (λ (ns : List ℕ). AreStandings ns c.table-2.result.now c.in_ok-lists.lists.items) c.deref-6.ensures.value c.in_ok-lists.ensures) in
    let lent : c.deref-8.result.now ≡ plan = c.deref-8.ensures in
    book_new plan c.in_ok-numbers.numbers.items c.in_ok-verdicts.verdicts.items c.in_ok-sheet.sheet c.in_ok-lists.lists.items c.in_ok-reserved_rows.field-0.items planned numbers rises
    (c.in_ok-verdicts.ensures ∙ ap (λ (n : ℕ). replicate n None) count) standings
    (c.in_ok-reserved_rows.ensures.room ∙ ap (λ (p : PlanValue). length p.plan.table) lent)
    (subst (λ (p : PlanValue). Reserved p c.in_ok-reserved_rows.field-0.items) lent c.in_ok-reserved_rows.ensures.told)
    c.in_ok-sheet.ensures
