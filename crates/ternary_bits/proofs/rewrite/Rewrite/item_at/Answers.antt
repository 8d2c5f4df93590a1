use Rattle.std.proofs.Common.{◌∙◌, sym, true, false, arith}
use Rattle.ternary_bits.proofs.Rewriting.{length-rewrite_of}
use Rattle.ternary_bits.proofs.ItemsAt.{bit_seen, stays_seen, moves_seen}
use Rattle.ternary_bits.proofs.rewrite.Rewrite.item_at.Goals as goal

pub has_one-requires : goal.has_one-requires
has_one-requires c =
    let r = c.self.inside in
    let width = length-rewrite_of r.bits r.set r.value r.sources c.args.self.now c.self.view_is in
    let high = c.self.invariant.high in
    let inside = c.requires in
    omega arith

pub has_one-requires-then-has_one : goal.has_one-requires-then-has_one
has_one-requires-then-has_one c =
    let r = c.self.inside in
    let width = length-rewrite_of r.bits r.set r.value r.sources c.args.self.now c.self.view_is in
    let high = c.self.invariant.high in
    let inside = c.requires in
    omega arith

pub returns-then-has_one-2-clause-item : goal.returns-then-has_one-2-clause-item
returns-then-has_one-2-clause-item c =
    let r = c.self.inside in
    let width = length-rewrite_of r.bits r.set r.value r.sources c.args.self.now c.self.view_is in
    let high = c.self.invariant.high in
    let inside = c.requires in
    bit_seen r.bits r.set r.value r.sources c.args.self.now c.args.place true c.self.view_is c.requires (sym c.has_one.ensures ∙ c.if-has_one.true) (sym c.has_one-then-has_one.ensures ∙ c.if-has_one-2.true)

pub returns-else-has_one-2-clause-item : goal.returns-else-has_one-2-clause-item
returns-else-has_one-2-clause-item c =
    let r = c.self.inside in
    let width = length-rewrite_of r.bits r.set r.value r.sources c.args.self.now c.self.view_is in
    let high = c.self.invariant.high in
    let inside = c.requires in
    bit_seen r.bits r.set r.value r.sources c.args.self.now c.args.place false c.self.view_is c.requires (sym c.has_one.ensures ∙ c.if-has_one.true) (sym c.has_one-then-has_one.ensures ∙ c.if-has_one-2.false)

pub bounds-self-inside-place : goal.bounds-self-inside-place
bounds-self-inside-place c =
    let r = c.self.inside in
    let width = length-rewrite_of r.bits r.set r.value r.sources c.args.self.now c.self.view_is in
    let high = c.self.invariant.high in
    let inside = c.requires in
    omega arith

pub overflow_sub-result : goal.overflow_sub-result
overflow_sub-result c =
    let r = c.self.inside in
    let width = length-rewrite_of r.bits r.set r.value r.sources c.args.self.now c.self.view_is in
    let high = c.self.invariant.high in
    let inside = c.requires in
    omega arith

pub returns-then-source-eq0-clause-item : goal.returns-then-source-eq0-clause-item
returns-then-source-eq0-clause-item c =
    let r = c.self.inside in
    let width = length-rewrite_of r.bits r.set r.value r.sources c.args.self.now c.self.view_is in
    let high = c.self.invariant.high in
    let inside = c.requires in
    stays_seen r.bits r.set r.value r.sources c.args.self.now c.args.place c.self.view_is c.requires (sym c.has_one.ensures ∙ c.if-has_one.false) c.if-source-eq0.true

pub returns-then-source-eq0-clause-within : goal.returns-then-source-eq0-clause-within
returns-then-source-eq0-clause-within c =
    let r = c.self.inside in
    let width = length-rewrite_of r.bits r.set r.value r.sources c.args.self.now c.self.view_is in
    let high = c.self.invariant.high in
    let inside = c.requires in
    (omega arith, omega arith)

pub returns-else-source-eq0-clause-item : goal.returns-else-source-eq0-clause-item
returns-else-source-eq0-clause-item c =
    let r = c.self.inside in
    let width = length-rewrite_of r.bits r.set r.value r.sources c.args.self.now c.self.view_is in
    let high = c.self.invariant.high in
    let inside = c.requires in
    moves_seen r.bits r.set r.value r.sources c.args.self.now c.args.place c.self.view_is c.requires (sym c.has_one.ensures ∙ c.if-has_one.false) c.if-source-eq0.false

pub returns-else-source-eq0-clause-within : goal.returns-else-source-eq0-clause-within
returns-else-source-eq0-clause-within c =
    let r = c.self.inside in
    let width = length-rewrite_of r.bits r.set r.value r.sources c.args.self.now c.self.view_is in
    let high = c.self.invariant.high in
    let inside = c.requires in
    let below = c.self.invariant.within c.args.place in
    let some = c.if-source-eq0.false in
    (omega arith, omega arith)
