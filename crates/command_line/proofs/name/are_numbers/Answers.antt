use Rattle.std.proofs.Common.{◌≡◌, ◌==◌, ◌++◌, [], ◌∷◌, ℕ, List, length, true, Option, Some, None, rules, tests, refl, sym, ◌∙◌, arith}
use Rattle.std.specs.List.{slice_split}
use Rattle.std.specs.Option.{is_some}
use Rattle.std.proofs.lemmas.List.{length_push}
use Rattle.std.proofs.lemmas.Iterator.Consumers.{YieldsList-turn, YieldsList-end}
use Rattle.std.proofs.lemmas.Iterator.Splits.{YieldsList-from_slice_split}
use Rattle.list_laws.proofs.Tests.{none_at}
use Rattle.text_words.specs.Numbers.{numbers_upto}
use Rattle.text_words.proofs.FirstWords.{IsPart}
use Rattle.text_words.proofs.NumberLists.{numbers-turn, numbers-stop, numbers-all, numbers-said}
use Rattle.command_line.proofs.name.are_numbers.Goals as goal

abbrev parts_of : List ℕ → List (List ℕ)
parts_of word = slice_split (λ b. b == 44) word

found_some : (o : Option ℕ) → is_some o ≡ true → (n : ℕ) × (o ≡ Some n)
found_some None h = absurd (cc)
found_some (Some n) h = (n, refl)

pub returns-then-is_none : goal.returns-then-is_none
returns-then-is_none c =
    let parts = parts_of c.args.word.now in
    let at : IsPart parts (length c.loop-part.yielded) c.in-Some.part = YieldsList-turn (YieldsList-from_slice_split _ (λ b. b == 44) c.args.word.now (cc) (cc) (cc) (λ x b q k. search (rules, tests))) c.loop-part.yielded _ c.loop-part.yielded_by _ _ c.in-Some.part c.in-Some.is c.next.ensures.steps in
    let none : None ≡ numbers_upto c.args.most c.args.word.now = numbers-stop c.args.most parts (length c.loop-part.yielded) c.loop-part.invariant.0 c.in-Some.part.now at.0 at.1 (sym (none_at c.number.result c.if-is_none.ensures) ∙ c.number.ensures.value) c.loop-part.invariant.1 in
    (λ no. absurd (cc), λ (ns, are). let some = (numbers-said c.args.most c.args.word.now None (omega arith) none ns).1 are in absurd (cc))

pub loop-part-preserved : goal.loop-part-preserved
loop-part-preserved c =
    let parts = parts_of c.args.word.now in
    let at : IsPart parts (length c.loop-part.yielded) c.in-Some.part = YieldsList-turn (YieldsList-from_slice_split _ (λ b. b == 44) c.args.word.now (cc) (cc) (cc) (λ x b q k. search (rules, tests))) c.loop-part.yielded _ c.loop-part.yielded_by _ _ c.in-Some.part c.in-Some.is c.next.ensures.steps in
    let (n, is) = found_some c.number.result c.if-is_none.ensures in
    let more = numbers-turn c.args.most parts (length c.loop-part.yielded) c.loop-part.invariant.0 c.in-Some.part.now n at.0 at.1 (sym is ∙ c.number.ensures.value) c.loop-part.invariant.1 in
    (c.loop-part.invariant.0 ++ n ∷ [], rw (length_push c.loop-part.yielded c.in-Some.part) more)

pub returns : goal.returns
returns c =
    let parts = parts_of c.args.word.now in
    let all = YieldsList-end (YieldsList-from_slice_split _ (λ b. b == 44) c.args.word.now (cc) (cc) (cc) (λ x b q k. search (rules, tests))) c.loop-part.yielded _ c.loop-part.yielded_by _ _ c.in-None.is c.next.ensures.steps in
    let found : Some c.loop-part.invariant.0 ≡ numbers_upto c.args.most c.args.word.now = numbers-all c.args.most parts (length c.loop-part.yielded) c.loop-part.invariant.0 (omega (arith, all.1)) c.loop-part.invariant.1 in
    (λ yes. (c.loop-part.invariant.0, (numbers-said c.args.most c.args.word.now (Some c.loop-part.invariant.0) (omega arith) found c.loop-part.invariant.0).0 refl), λ are. refl)
