use Rattle.std.proofs.Common.{◌∙◌, arith}
use Rattle.std.specs.Prelude.{Some}
use Rattle.desk_turns.specs.Shared.{desk_at}
use Rattle.desk_turns.proofs.Calls.{carries, desk_found, put_back, may_store}
use Rattle.desk_turns.proofs.turns.answer.Goals as goal

pub exchange-requires : goal.exchange-requires
exchange-requires c = let t = c.requires.turn in (c.requires.table.0, (Some (desk_at t.0.of.desk t.1), carries c.args.seat.now.me t.0 t.1 t.2))

pub store-requires : goal.store-requires
store-requires c =
    let t = c.requires.turn in let words = c.requires.table.1 in
    let first = c.exchange.ensures in let second = c.exchange-2.ensures in
    let me = put_back c.args.seat.now.me c.exchange.new.seat.me c.exchange-2.new.seat.me t.0 t.1 c.apply-reply.new.self t.2 first.3 second.3 in
    let desk = desk_found c.args.seat.now.me t.0 t.1 c.exchange.result c.in-Some.desk t.2 first.2 c.in-Some.is in (
      second.0 ∙ (first.0 ∙ c.requires.table.0),
      omega arith,
      may_store c.args.shared.now.key c.exchange-2.new.seat.id c.args.shared.now.table_id.slots c.args.caller c.args.place c.args.event c.apply-reply.result c.exchange-2.new.seat.me t.0 t.1 c.in-Some.desk c.apply-reply.new.self
          me desk c.apply-reply.ensures.applied c.apply-reply.ensures.legal t.3 t.4 t.5 t.7 t.8,
    )
