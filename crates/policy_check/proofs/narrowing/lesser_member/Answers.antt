use Rattle.std.proofs.Common.{◌≡◌, ◌<◌, ◌≤◌, length, sym, ◌∙◌, arith}
use Rattle.network_model.specs.Bits.{number_of}
use Rattle.policy_check.proofs.Narrowed.{number_less, number_not_less, not_less}
use Rattle.policy_check.proofs.narrowing.lesser_member.Goals as goal

pub returns-then-number-clause-lesser : goal.returns-then-number-clause-lesser
returns-then-number-clause-lesser c =
    let wide : length c.in-Some.old ≡ c.args.space.now.width = rw c.in-Some.is at c.requires in
    let same : length c.in_ok-first.first ≡ length c.in-Some.old = c.bits-2.ensures.headers c.in_ok-first.first c.in_ok-first.ensures.member ∙ c.bits-2.ensures.width ∙ sym wide in
    let less : number_of c.in_ok-first.first < number_of c.in-Some.old = omega (arith, c.number.ensures.number, c.number-2.ensures.number, c.if-number.true) in
    rw c.in-Some.is (number_less c.in_ok-first.first c.in-Some.old same less)

pub returns-else-number-clause-none : goal.returns-else-number-clause-none
returns-else-number-clause-none c h held =
    let wide : length c.in-Some.old ≡ c.args.space.now.width = rw c.in-Some.is at c.requires in
    let same : length c.in_ok-first.first ≡ length c.in-Some.old = c.bits-2.ensures.headers c.in_ok-first.first c.in_ok-first.ensures.member ∙ c.bits-2.ensures.width ∙ sym wide in
    let more : number_of c.in-Some.old ≤ number_of c.in_ok-first.first = omega (arith, c.number.ensures.number, c.number-2.ensures.number, c.if-number.false) in
    rw c.in-Some.is
    (not_less h c.in_ok-first.first c.in-Some.old (c.in_ok-first.ensures.least h held) (number_not_less c.in_ok-first.first c.in-Some.old same more))
