use Rattle.std.proofs.Common.{◌∙◌, sym, inl, inr}
use Rattle.std.specs.Cmp.Lexicographic.{same_text, bytes_decides}
use Rattle.std.proofs.lemmas.Bool.{eq-eqb, false≢true}
use Rattle.ternary_bits.proofs.Sameness.{equal_words, words_equal}
use Rattle.ternary_bits.proofs.rewrite.Rewrite.same.Goals as goal

pub returns-then-self-eq0 : goal.returns-then-self-eq0
returns-then-self-eq0 c =
    let r = c.self.inside in
    let t = c.other.inside in
    (λ yes. equal_words r.bits r.set r.value r.moved t.bits t.set t.value t.moved r.sources t.sources c.args.self.now c.args.other.now c.self.invariant c.other.invariant c.self.view_is c.other.view_is (sym c.eq.ensures ∙ c.if-eq.true) (inl c.if-self-eq0.true), λ same. eq-eqb r.moved 0 c.if-self-eq0.true)

pub returns-else-self-eq0 : goal.returns-else-self-eq0
returns-else-self-eq0 c =
    let r = c.self.inside in
    let t = c.other.inside in
    (λ yes. equal_words r.bits r.set r.value r.moved t.bits t.set t.value t.moved r.sources t.sources c.args.self.now c.args.other.now c.self.invariant c.other.invariant c.self.view_is c.other.view_is (sym c.eq.ensures ∙ c.if-eq.true) (inr (same_text r.sources t.sources (sym yes ∙ c.eq-else-self-eq0.ensures))), λ same. let equal = (words_equal r.bits r.set r.value r.moved t.bits t.set t.value t.moved r.sources t.sources c.args.self.now c.args.other.now c.self.invariant c.other.invariant c.self.view_is c.other.view_is same).1 in c.eq-else-self-eq0.ensures ∙ (bytes_decides r.sources t.sources).1 equal)

pub returns-else-eq : goal.returns-else-eq
returns-else-eq c =
    let r = c.self.inside in
    let t = c.other.inside in
    (λ yes. absurd (false≢true (sym c.if-eq.false ∙ yes)), λ same. c.eq.ensures ∙ (words_equal r.bits r.set r.value r.moved t.bits t.set t.value t.moved r.sources t.sources c.args.self.now c.args.other.now c.self.invariant c.other.invariant c.self.view_is c.other.view_is same).0)
