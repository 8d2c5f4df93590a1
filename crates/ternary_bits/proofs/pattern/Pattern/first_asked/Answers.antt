use Rattle.std.proofs.Common.{◌∙◌, ap, sym, ◌<◌, ◌^◌, arith}
use Rattle.std.specs.Int.{w128, bit_not}
use Rattle.std.proofs.Math.Nat.{pow-suc}
use Rattle.std.proofs.lemmas.Nat.{leading_top, and_le_l}
use Rattle.ternary_bits.specs.Asking.{first_asked}
use Rattle.ternary_bits.specs.Words.{pattern_of}
use Rattle.ternary_bits.proofs.Matching.{same_width}
use Rattle.ternary_bits.proofs.Cutting.{free_word}
use Rattle.ternary_bits.proofs.Asking.{none_asked, some_asked, top_inside}
use Rattle.ternary_bits.proofs.pattern.Pattern.first_asked.Goals as goal

pub returns-then-free-eq0 : goal.returns-then-free-eq0
returns-then-free-eq0 c =
    let p = c.self.inside in
    let q = c.other.inside in
    let other = same_width p.bits p.care p.value q.bits q.care q.value c.args.self.now c.args.other.now c.self.view_is c.other.view_is c.requires in
    sym (none_asked p.bits p.care p.value q.care q.value (omega arith) c.self.invariant.1 c.if-free-eq0.true)
    ∙ ap (first_asked (pattern_of p.bits p.care p.value)) other.1 ∙ ap (λ l. first_asked l c.args.other.now) c.self.view_is

pub overflow_sub-result : goal.overflow_sub-result
overflow_sub-result c =
    let p = c.self.inside in
    let q = c.other.inside in
    let other = same_width p.bits p.care p.value q.bits q.care q.value c.args.self.now c.args.other.now c.self.view_is c.other.view_is c.requires in
    let fits : q.care < 2 ^ p.bits = rw (← other.0) c.other.invariant.2 in
    let top = leading_top 128 (free_word p.care q.care) (omega arith) (omega (arith, and_le_l q.care (bit_not w128 p.care))) in
    let inside : top.0 < p.bits = top_inside p.bits p.care q.care top.0 fits top.2 in
    omega (arith, top.1)

pub returns : goal.returns
returns c =
    let p = c.self.inside in
    let q = c.other.inside in
    let other = same_width p.bits p.care p.value q.bits q.care q.value c.args.self.now c.args.other.now c.self.view_is c.other.view_is c.requires in
    let fits : q.care < 2 ^ p.bits = rw (← other.0) c.other.invariant.2 in
    let top = leading_top 128 (free_word p.care q.care) (omega arith) (omega (arith, and_le_l q.care (bit_not w128 p.care))) in
    let inside : top.0 < p.bits = top_inside p.bits p.care q.care top.0 fits top.2 in
    sym (some_asked p.bits p.care p.value q.care q.value top.0 _ c.self.invariant.1 (omega arith) fits top.2 (omega (arith, top.3, pow-suc 2 top.0)) (omega (arith, top.1)))
    ∙ ap (first_asked (pattern_of p.bits p.care p.value)) other.1 ∙ ap (λ l. first_asked l c.args.other.now) c.self.view_is
