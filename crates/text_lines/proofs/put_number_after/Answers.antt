use Rattle.std.proofs.Common.{◌≡◌, ◌∷◌, ◌≤◌, ◌-◌, ◌∙◌, ◌++◌, ap, refl, length, drop, arith}
use Rattle.std.specs.Fmt.{decimal}
use Rattle.std.proofs.lemmas.Result.{on_ok_weaker}
use Rattle.std.proofs.lemmas.Slice.{between_to_end}
use Rattle.text_lines.proofs.Spaced.{digits_few, spaced}
use Rattle.text_lines.proofs.put_number_after.Goals as goal

pub write_digits-start-requires : goal.write_digits-start-requires
write_digits-start-requires c =
    let few : length (decimal c.args.number) ≤ 20 = digits_few c.args.number c.ranges.number.fits in
    (omega arith, omega arith)

pub overflow_sub-start : goal.overflow_sub-start
overflow_sub-start c =
    let few : length (decimal c.args.number) ≤ 20 = digits_few c.args.number c.ranges.number.fits in
    let ends = c.write_digits-start.ensures.start in
    omega arith

pub returns-clause-ok : goal.returns-clause-ok
returns-clause-ok c =
    let start = c.write_digits-start.result in
    let letters = c.write_digits-start.new.buf in
    let size : length letters ≡ 21 = c.write_digits-start.auto.buf in
    let word : drop (start - 1) letters ≡ c.args.before ∷ decimal c.args.number =
    spaced c.args.before letters _ start c.args.number c.ranges.number.fits c.write_digits-start.ensures.start size refl c.write_digits-start.ensures.before c.write_digits-start.ensures.written
    in
    on_ok_weaker c.put.result (λ is. is ∙ ap (λ bytes. c.args.text.now.items ++ bytes) (between_to_end letters (start - 1) 21 (omega arith) ∙ word)) c.put.ensures.ok
