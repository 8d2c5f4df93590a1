use Rattle.std.proofs.Common.{◌∷◌, ◌++◌, [], Result, Ok, Err, ap, ◌∙◌, take_all, append_assoc, take}
use Rattle.std.specs.Prelude.{OnErr}
use Rattle.std.proofs.lemmas.Result.{on_ok_weaker}
use Rattle.text_lines.proofs.Joined.{numbers_so_far, numbers-line}
use Rattle.text_lines.proofs.put_words.Goals as goal

on_err : {T E : Type 0} {P : Type 0} (r : Result T E) → P → OnErr r P
on_err (Ok x) p = tt
on_err (Err e) p = p

pub returns-in_err-put_next_number-clause-err : goal.returns-in_err-put_next_number-clause-err
returns-in_err-put_next_number-clause-err c =
    let name = c.args.name.now in
    let some = numbers_so_far (take c.loop-number.number-index c.args.numbers.now) in
    on_err c.from_residual-in_err-put_next_number.result
    (name ++ some, c.in_err-put_next_number.ensures.err ∙ c.loop-number.invariant ∙ append_assoc c.args.text.now.items name some)

pub returns-clause-ok : goal.returns-clause-ok
returns-clause-ok c =
    on_ok_weaker c.put-2.result (λ h.
    h ∙ ap (λ t. t ++ 10 ∷ []) (c.loop-number.invariant
    ∙ ap (λ ns. (c.args.text.now.items ++ c.args.name.now) ++ numbers_so_far ns) (take_all c.loop-number.number-index c.args.numbers.now c.loop-number-test.false))
    ∙ numbers-line c.args.text.now.items c.args.name.now c.args.numbers.now)
    c.put-2.ensures.ok
