use Rattle.std.proofs.Common.{refl}
use Rattle.std.specs.Prelude.{None}
use Rattle.desk_turns.specs.declared.pass.Pass.TheInside.{Inside as PassFields}
use Rattle.desk_turns.specs.Shared.{fresh}
use Rattle.desk_turns.specs.Passes.{desk_id}
use Rattle.desk_turns.proofs.Answered.{fresh_held, fresh_pass, held_value}
use Rattle.desk_turns.proofs.pass.Pass.new.Goals as goal

fields : goal.Start → PassFields
fields c = record { seat = c.args.seat; number = c.args.number; room = c.args.room; full = None }

pub invariant_of-result : goal.invariant_of-result
unfolding fields
invariant_of-result c = let t = c.requires.seat in fresh_pass (fields c) t.0 t.1 c.requires.number t.2 refl c.requires.room t.3

pub returns : goal.returns
unfolding fields
returns c of me = held_value (fields c) (fresh (desk_id c.args.seat.table_id of) c.args.number) (fresh_held (fields c) of me)
