use Rattle.std.proofs.Common.{length, drop, sym, ap, ◌∙◌, arith}
use Rattle.std.proofs.lemmas.List.{length-take-le, take_at}
use Rattle.field_sim.proofs.field.put.Goals as goal

pub slice_bounds-copy_from_slice-end-2 : goal.slice_bounds-copy_from_slice-end-2
slice_bounds-copy_from_slice-end-2 c = sym (length-take-le 33 c.args.into.now (omega arith))

pub copy_from_slice-requires : goal.copy_from_slice-requires
copy_from_slice-requires c = length-take-le 33 c.args.into.now (omega arith) ∙ sym (ap length c.as_slice-packet.ensures ∙ c.told-bytes)

pub returns-clause-front : goal.returns-clause-front
returns-clause-front c =
    take_at c.copy_from_slice.new.self (drop 33 c.args.into.now) 33 (c.copy_from_slice.ensures.len ∙ length-take-le 33 c.args.into.now (omega arith))
    ∙ c.copy_from_slice.ensures.after ∙ c.as_slice-packet.ensures
