use Rattle.std.proofs.Common.{refl, sym, ap, ◌∙◌, arith}
use Rattle.desk_turns.specs.declared.pass.Pass.TheInside.{Inside as PassFields}
use Rattle.desk_turns.specs.Shared.{DeskId}
use Rattle.desk_turns.proofs.Seen.{seen}
use Rattle.desk_turns.proofs.Whole.{draw, may_answer, answered_pass, answered_call}
use Rattle.desk_turns.proofs.shared.SharedDesk.call.Goals as goal

pub fetch_add-place-requires : goal.fetch_add-place-requires
fetch_add-place-requires g c =
    let p = c.pass.inside in let shared = c.self.inside.table.shared in let words = c.self.invariant.words in
    let s = seen p c.args.pass.now c.pass.invariant c.pass.view_is in (
      s.table ∙ (c.requires ∙ sym (ap (λ (d : DeskId). d.table) c.self.view_is)),
      omega arith,
      draw p c.args.pass.now s shared.key shared.table_id.slots c.in_default.is,
    )

pub answer-reply-requires-clause-turn : goal.answer-reply-requires-clause-turn
answer-reply-requires-clause-turn g c =
    let p = c.pass.inside in let past = c.if-place-pass.false in
    let s = seen p c.args.pass.now c.pass.invariant c.pass.view_is in
    may_answer p c.args.pass.now s c.in_default.is c.fetch_add-place.result c.fetch_add-place.new.seat.me c.fetch_add-place.ensures.2 (omega arith) c.wait.new.seat.me c.wait.ensures.turn

pub invariant_of-pass-2 : goal.invariant_of-pass-2
invariant_of-pass-2 g c =
    let p = c.pass.inside in let past = c.if-place-pass.false in
    let s = seen p c.args.pass.now c.pass.invariant c.pass.view_is in
    let q : PassFields = record { seat = c.answer-reply.new.seat; number = p.number; room = p.room; full = p.full } in
    answered_pass p c.args.pass.now s c.in_default.is c.fetch_add-place.result c.fetch_add-place.new.seat.me c.fetch_add-place.ensures.2 (omega arith) c.wait.new.seat.me c.wait.ensures.turn
    q (c.answer-reply.ensures.table ∙ (c.wait.ensures.table ∙ c.fetch_add-place.ensures.0)) refl refl refl c.args.event c.answer-reply.result c.answer-reply.ensures.answered

pub returns-clause-answered : goal.returns-clause-answered
returns-clause-answered g c =
    let p = c.pass.inside in let past = c.if-place-pass.false in
    let s = seen p c.args.pass.now c.pass.invariant c.pass.view_is in
    let q : PassFields = record { seat = c.answer-reply.new.seat; number = p.number; room = p.room; full = p.full } in
    answered_call p c.args.pass.now s c.in_default.is c.fetch_add-place.result c.fetch_add-place.new.seat.me c.fetch_add-place.ensures.2 (omega arith) c.wait.new.seat.me c.wait.ensures.turn
    q (c.answer-reply.ensures.table ∙ (c.wait.ensures.table ∙ c.fetch_add-place.ensures.0)) refl refl refl c.args.event c.answer-reply.result c.answer-reply.ensures.answered
