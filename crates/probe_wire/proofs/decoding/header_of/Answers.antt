use Rattle.std.proofs.Common.{◌≡◌, ◌≢◌, ◌∙◌, sym, ap, refl, ◌+◌, ◌-◌, ◌%◌, ◌^◌, ◌<◌, Some, arith}
use Rattle.std.proofs.lemmas.Nat.{shr_below}
use Rattle.std.proofs.lemmas.List.{take_rest}
use Rattle.probe_wire.specs.Packet.{word_of, IsBadWidth}
use Rattle.probe_wire.proofs.Fields.{none_past, same_header, bad_zero, bad_wide, bad_past, not_bad, past_mask}
use Rattle.probe_wire.proofs.decoding.header_of.Goals as goal
use Rattle.probe_wire.proofs.decoding.header_of.Goals.{then-width-eq0-via-then-width-eq0, then-width-eq0-via-else-width-eq0+then-width-gt128}

pub returns-then-width-eq0-clause-none : goal.returns-then-width-eq0-clause-none
returns-then-width-eq0-clause-none c =
    let field = c.args.field.now in
    let bad : IsBadWidth field = elim c.then-width-eq0.branch [
      | then-width-eq0-via-then-width-eq0 w ↦ bad_zero field c.from-width.result c.from-width.ensures (omega arith)
      | then-width-eq0-via-else-width-eq0+then-width-gt128 w ↦ bad_wide field c.from-width.result c.from-width.ensures (omega arith)
    ]
    in
    (λ _. bad, λ _. refl)

pub returns-then-word-past-ne0-clause-read : goal.returns-then-word-past-ne0-clause-read
returns-then-word-past-ne0-clause-read c = λ h some within e.
    let word = c.word128-word.result in
    let w = c.from-width.result in
    let none = none_past c.args.field.now w word h c.from-width.ensures (omega arith) (c.word128-word.ensures.bytes ∙ take_rest c.args.field.now 1) within e in
    absurd (c.if-word-past-ne0.true (past_mask word w (omega arith) (omega arith) ∙ none))

pub returns-then-word-past-ne0-clause-none : goal.returns-then-word-past-ne0-clause-none
returns-then-word-past-ne0-clause-none c =
    let word = c.word128-word.result in
    let w = c.from-width.result in
    let past : word % 2 ^ (128 - w) ≢ 0 = λ e. c.if-word-past-ne0.true (past_mask word w (omega arith) (omega arith) ∙ e) in
    (λ _. bad_past c.args.field.now w word c.from-width.ensures (c.word128-word.ensures.value ∙ ap word_of (take_rest c.args.field.now 1)) past, λ _. refl)

pub of_number-requires-clause-fits : goal.of_number-requires-clause-fits
of_number-requires-clause-fits c =
    let word = c.word128-word.result in
    let w = c.from-width.result in
    let all : w + (128 - w) ≡ 128 = omega arith in
    let fits : word < 2 ^ 128 = omega arith in
    let fits' : word < 2 ^ (w + (128 - w)) = rw all fits in
    shr_below word w (128 - w) fits'

pub returns-clause-read : goal.returns-clause-read
returns-clause-read c = λ h some within e.
    ap Some (same_header c.args.field.now c.from-width.result c.word128-word.result h c.of_number.result c.from-width.ensures (omega arith)
    (c.word128-word.ensures.bytes ∙ take_rest c.args.field.now 1) within e c.of_number.ensures.width c.of_number.ensures.number)

pub returns-clause-none : goal.returns-clause-none
returns-clause-none c =
    let word = c.word128-word.result in
    let w = c.from-width.result in
    let none : word % 2 ^ (128 - w) ≡ 0 = sym (past_mask word w (omega arith) (omega arith)) ∙ c.if-word-past-ne0.false in
    (λ e. absurd (cc), λ bad. absurd (not_bad c.args.field.now w word c.from-width.ensures (c.word128-word.ensures.value ∙ ap word_of (take_rest c.args.field.now 1)) (omega arith) (omega arith) none bad))
