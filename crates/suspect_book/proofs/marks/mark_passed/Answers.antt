use Rattle.std.proofs.Common.{◌≡◌, ℕ, Bool, List, ◌||◌, ◌≤◌, ◌+◌, take, length, slice_set, true, sym, ap, ◌∙◌, subst, arith}
use Rattle.std.proofs.lemmas.List.{length-set, take_all}
use Rattle.fault_model.specs.Outcomes.{has}
use Rattle.suspect_book.specs.Marked.{Tells}
use Rattle.suspect_book.specs.Sheets.{SheetValue}
use Rattle.suspect_book.proofs.Marking.{item_among, item_taken, mark_more}
use Rattle.suspect_book.proofs.marks.mark_passed.Goals as goal

pub place_of-requires-clause-among : goal.place_of-requires-clause-among
place_of-requires-clause-among c =
    item_among c.args.numbers.now c.args.rules.now c.loop-rule.rule-index c.rule-item.result c.requires.among c.loop-rule-test.true c.rule-item.is

pub loop-rule-preserved : goal.loop-rule-preserved
loop-rule-preserved c =
    let numbers = c.args.numbers.now in
    let rules = c.args.rules.now in
    let i = c.loop-rule.rule-index in
    let r = c.rule-item.result in
    let place = c.place_of.result in
    let old = c.loop-rule.sheet.passed in
    let new : SheetValue = c.pass.new.self in
    let set : new.passed ≡ slice_set old place true = ap (λ (s : SheetValue). s.passed) c.pass.ensures in
    let room : length old ≡ length numbers = c.loop-rule.invariant.room ∙ c.requires.room in
    let lists : new.lists ≡ c.args.sheet.now.lists = ap (λ (s : SheetValue). s.lists) c.pass.ensures ∙ ap (λ (s : SheetValue). s.lists) c.loop-rule.invariant.stays in
    let others : new.failed ≡ c.args.sheet.now.failed = ap (λ (s : SheetValue). s.failed) c.pass.ensures ∙ ap (λ (s : SheetValue). s.failed) c.loop-rule.invariant.stays in
    let opens : new.opens ≡ c.args.sheet.now.opens = ap (λ (s : SheetValue). s.opens) c.pass.ensures ∙ ap (λ (s : SheetValue). s.opens) c.loop-rule.invariant.stays in
    record {
      told = λ test told.
          subst (λ (ms : List Bool). Tells numbers (λ q. has (take (i + 1) rules) q || test q) ms) (sym set)
          (subst (λ (l : List ℕ). Tells numbers (λ q. has l q || test q) (slice_set old place true)) (sym (item_taken rules i r c.loop-rule-test.true c.rule-item.is))
          (mark_more numbers test (take i rules) old place r c.requires.rises room c.place_of.ensures.inside c.place_of.ensures.found (c.loop-rule.invariant.told test told)));
      room = ap length set ∙ (length-set old place true ∙ c.loop-rule.invariant.room);
      stays = λ j. record { lists = lists j; failed = others j; passed = new.passed; opens = opens j };
    }

pub returns-clause-passed : goal.returns-clause-passed
returns-clause-passed c test told =
    let rules = c.args.rules.now in
    let whole : length rules ≤ c.loop-rule.rule-index = omega arith in
    subst (λ (l : List ℕ). Tells c.args.numbers.now (λ q. has l q || test q) c.loop-rule.sheet.passed) (take_all c.loop-rule.rule-index rules whole) (c.loop-rule.invariant.told test told)
