use Rattle.std.proofs.Common.{◌≡◌, ◌+◌, ℕ, ◌++◌, true, length, take, drop, sym, ap, ◌∙◌, subst, arith}
use Rattle.std.specs.List.{list_any, range_with_len}
use Rattle.std.proofs.lemmas.Cmp.{nat_eq_equiv}
use Rattle.std.proofs.lemmas.List.{take_at}
use Rattle.network_model.specs.Plan.{IsPlan}
use Rattle.rule_cover.specs.Places.{numbers_of}
use Rattle.rule_cover.specs.PlanValue.{PlanValue}
use Rattle.fault_model.specs.Findings.{is_alone}
use Rattle.suspect_book.specs.BookValue.{BookValue}
use Rattle.suspect_book.specs.Marked.{is_lone}
use Rattle.suspect_book.specs.Verdicts.{outcomes}
use Rattle.suspect_book.proofs.Found.{alone_where_lone}
use Rattle.suspect_book.proofs.Kept.{lone_among, one_among, lone_more, lone_none, tells_same}
use Rattle.suspect_book.proofs.VerdictLists.{are_outcomes}
use Rattle.suspect_book.proofs.book.Book.alone.Goals as goal
use Rattle.suspect_book.proofs.book.Book.alone.Goals.{in-Some, in_default}

pub mark-requires-clause-among : goal.mark-requires-clause-among
mark-requires-clause-among c =
    let now = c.args.self.now in
    let numbers : c.self.inside.numbers.items ≡ numbers_of now.plan.net = c.self.invariant.kept.numbers_are ∙ ap (λ (b : BookValue). numbers_of b.plan.net) c.self.view_is in
    let lent : c.deref.result.now ≡ now.plan = c.deref.ensures ∙ ap (λ (b : BookValue). b.plan) c.self.view_is in
    let is_plan : IsPlan now.plan.net now.plan.hops now.plan.plan = subst (λ (p : PlanValue). IsPlan p.net p.hops p.plan) lent c.table.ensures.is_plan in
    let rule = c.in-Some.rule in
    let lone : is_lone now.plan.plan.table (outcomes now.verdicts) (c.loop-row.row + 1) rule ≡ true = sym (c.in-Some.ensures rule) ∙ nat_eq_equiv.refl rule in
    one_among c.deref-in-Some.result.now rule
    (lone_among now.plan c.deref-in-Some.result.now (outcomes now.verdicts) (c.loop-row.row + 1) rule is_plan (c.deref-in-Some.ensures.value ∙ numbers) lone)

pub loop-row-preserved : goal.loop-row-preserved
loop-row-preserved c =
    let now = c.args.self.now in
    let numbers : c.self.inside.numbers.items ≡ numbers_of now.plan.net = c.self.invariant.kept.numbers_are ∙ ap (λ (b : BookValue). numbers_of b.plan.net) c.self.view_is in
    let table = now.plan.plan.table in
    let os = outcomes now.verdicts in
    let row = c.loop-row.row in
    let old = c.loop-row.marks.items in
    elim c.match-lone.branch [
      | in-Some w ↦
          let new = w.mark.new.marks in
          let size : length new ≡ length old = w.mark.auto.marks ∙ ap length w.deref_mut.ensures.value in
          let whole : take c.loop-row.marks.len (new ++ drop (length new) old) ≡ new = take_at new (drop (length new) old) c.loop-row.marks.len (omega arith) in
          let told = lone_more table os row w.in-Some.rule (numbers_of now.plan.net) old new w.deref-in-Some.result.now w.deref_mut.result.now
          (w.deref-in-Some.ensures.value ∙ numbers) w.deref_mut.ensures.value w.in-Some.ensures w.mark.ensures c.loop-row.invariant.told in
          rw (w.marks-is, whole) (record { room = size ∙ c.loop-row.invariant.room; told = told })
      | in_default w ↦
          rw w.marks-is (record {
            room = c.loop-row.invariant.room;
            told = lone_none table os row (numbers_of now.plan.net) old w.in_default.ensures c.loop-row.invariant.told;
          })
    ]

pub returns-clause-alone : goal.returns-clause-alone
returns-clause-alone c =
    let now = c.args.self.now in
    let numbers : c.self.inside.numbers.items ≡ numbers_of now.plan.net = c.self.invariant.kept.numbers_are ∙ ap (λ (b : BookValue). numbers_of b.plan.net) c.self.view_is in
    let table = now.plan.plan.table in
    let os = outcomes now.verdicts in
    let each : length now.verdicts ≡ length table = subst (λ (b : BookValue). length b.verdicts ≡ length b.plan.plan.table) c.self.view_is c.self.invariant.kept.each in
    let end : c.len-row-end.result ≡ length table = c.len-row-end.ensures ∙ (ap length c.table.ensures.table ∙ (ap (λ (p : PlanValue). length p.plan.table) c.deref.ensures ∙ ap (λ (b : BookValue). length b.plan.plan.table) c.self.view_is)) in
    let last : c.loop-row.row ≡ length table = omega (arith, c.loop-row-test.false, c.loop-row.auto.row-end, end) in
    tells_same (numbers_of now.plan.net) (λ r. list_any (λ n. is_lone table os n r) (range_with_len 1 c.loop-row.row)) (is_alone table os) c.loop-row.marks.items
    (λ r. ap (λ (k : ℕ). list_any (λ n. is_lone table os n r) (range_with_len 1 k)) last ∙ alone_where_lone table os (are_outcomes table now.verdicts each) r)
    c.loop-row.invariant.told
