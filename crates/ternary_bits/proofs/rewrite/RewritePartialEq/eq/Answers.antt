use Rattle.std.proofs.Common.{arith}
use Rattle.ternary_bits.proofs.Rewriting.{known}
use Rattle.ternary_bits.proofs.rewrite.RewritePartialEq.eq.Goals as goal

pub returns : goal.returns
returns c =
    let r = c.t1-1.inside in
    let t = c.t2-1.inside in
    let mine = known r.bits r.set r.value r.moved r.sources c.args.self.now c.t1-1.invariant c.t1-1.view_is in
    let theirs = known t.bits t.set t.value t.moved t.sources c.args.other.now c.t2-1.invariant c.t2-1.view_is in
    rw (mine.sources, theirs.sources, mine.moved, theirs.moved, mine.set, theirs.set, mine.value, theirs.value, mine.bits, theirs.bits) (grind arith)
