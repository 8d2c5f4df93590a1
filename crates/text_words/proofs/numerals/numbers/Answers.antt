use Rattle.std.proofs.Common.{◌≡◌, ◌==◌, ℕ, List, length, Some, None, rules, tests, arith}
use Rattle.std.specs.List.{slice_split}
use Rattle.std.proofs.lemmas.List.{length_push}
use Rattle.std.proofs.lemmas.Iterator.Consumers.{YieldsList-turn, YieldsList-end}
use Rattle.std.proofs.lemmas.Iterator.Splits.{YieldsList-from_slice_split}
use Rattle.text_words.specs.Numbers.{numbers_upto}
use Rattle.text_words.proofs.FirstWords.{IsPart}
use Rattle.text_words.proofs.NumberLists.{Finding-start, numbers-turn, numbers-stop, numbers-all, numbers-said}
use Rattle.text_words.proofs.numerals.numbers.Goals as goal

abbrev parts_of : List ℕ → List (List ℕ)
parts_of word = slice_split (λ b. b == 44) word

pub loop-part-init : goal.loop-part-init
loop-part-init c = rw c.new-found.ensures.items (Finding-start c.args.most (parts_of c.args.word.now))

pub returns-in_default : goal.returns-in_default
returns-in_default c =
    let parts = parts_of c.args.word.now in
    let at : IsPart parts (length c.loop-part.yielded) c.in-Some.part = YieldsList-turn (YieldsList-from_slice_split _ (λ b. b == 44) c.args.word.now (cc) (cc) (cc) (λ x b q k. search (rules, tests))) c.loop-part.yielded _ c.loop-part.yielded_by _ _ c.in-Some.part c.in-Some.is c.next.ensures.steps in
    let none : None ≡ numbers_upto c.args.most c.args.word.now = numbers-stop c.args.most parts (length c.loop-part.yielded) c.loop-part.found.items c.in-Some.part.now at.0 at.1 c.in_default.ensures.value c.loop-part.invariant in
    record { value = none; some = numbers-said c.args.most c.args.word.now None (omega arith) none }

pub loop-part-preserved : goal.loop-part-preserved
loop-part-preserved c =
    let parts = parts_of c.args.word.now in
    let at : IsPart parts (length c.loop-part.yielded) c.in-Some.part = YieldsList-turn (YieldsList-from_slice_split _ (λ b. b == 44) c.args.word.now (cc) (cc) (cc) (λ x b q k. search (rules, tests))) c.loop-part.yielded _ c.loop-part.yielded_by _ _ c.in-Some.part c.in-Some.is c.next.ensures.steps in
    let more = numbers-turn c.args.most parts (length c.loop-part.yielded) c.loop-part.found.items c.in-Some.part.now c.in-Some-number.number at.0 at.1 c.in-Some-number.ensures.value c.loop-part.invariant in
    rw (c.in_ok-push.ensures.items, length_push c.loop-part.yielded c.in-Some.part) more

pub returns : goal.returns
returns c =
    let parts = parts_of c.args.word.now in
    let all = YieldsList-end (YieldsList-from_slice_split _ (λ b. b == 44) c.args.word.now (cc) (cc) (cc) (λ x b q k. search (rules, tests))) c.loop-part.yielded _ c.loop-part.yielded_by _ _ c.in-None.is c.next.ensures.steps in
    let found : Some c.loop-part.found.items ≡ numbers_upto c.args.most c.args.word.now = numbers-all c.args.most parts (length c.loop-part.yielded) c.loop-part.found.items (omega (arith, all.1)) c.loop-part.invariant in
    record { value = found; some = numbers-said c.args.most c.args.word.now (Some c.loop-part.found.items) (omega arith) found }
