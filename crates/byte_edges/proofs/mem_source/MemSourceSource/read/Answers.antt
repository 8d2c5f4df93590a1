use Rattle.std.proofs.Common.{◌≡◌, ℕ, ◌≤◌, ◌-◌, List, Some, ap, length, take, drop, arith}
use Rattle.byte_edges.proofs.Pieces.{given_first, given_length}
use Rattle.byte_edges.proofs.mem_source.MemSourceSource.read.Goals as goal

pub returns-clause-gave : goal.returns-clause-gave
returns-clause-gave c =
    let bytes = c.self.inside.bytes.items in
    let at = c.self.inside.at in
    let n = c.min-n.result in
    let into = c.args.into.now in
    let copied = c.copy_from_slice.new.self in
    let is_copy : copied ≡ take n (take (length bytes - at) (drop at bytes)) = rw c.deref.ensures.value at c.copy_from_slice.ensures.after in
    let amount : n ≤ length (take (length c.deref.result.now - at) (drop at c.deref.result.now)) = omega arith in
    let fits : n ≤ length (take (length bytes - at) (drop at bytes)) = rw c.deref.ensures.value at amount in
    let given = given_length bytes into copied at n fits is_copy in
    rw (← c.self.view_is) (record {
      front = ap (λ (left : List ℕ). Some left) (given_first bytes into copied at n fits is_copy);
      counted = omega arith;
    })
