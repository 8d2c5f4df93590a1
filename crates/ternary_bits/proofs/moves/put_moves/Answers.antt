use Rattle.std.proofs.Common.{◌≡◌, ◌==◌, ◌+◌, ◌-◌, ◌<◌, ◌∙◌, ◌++◌, ◌∷◌, [], ap, length, get_or, take, if◌then◌else◌, ℕ, rules, arith}
use Rattle.std.proofs.lemmas.Bool.{eq-eqb, ne_eqb, cond-true, cond-false}
use Rattle.network_model.specs.Rewrites.{Set}
use Rattle.std.specs.Prelude.{false}
use Rattle.ternary_bits.specs.Items.{item_of}
use Rattle.ternary_bits.specs.Moves.{item_text}
use Rattle.ternary_bits.proofs.Moving.{front_text, put_more}
use Rattle.ternary_bits.proofs.moves.put_moves.Goals.{then-before-eq0, else-before-eq0}
use Rattle.ternary_bits.proofs.moves.put_moves.Goals as goal

pub loop-before-preserved : goal.loop-before-preserved
loop-before-preserved c =
    let r = c.args.rewrite.now in
    let before = c.loop-before.before in
    let width : c.bits-bits.result ≡ length r = c.loop-before.invariant.width in
    let inside : c.loop-before.before < length r = omega arith in
    let mark : c.if-before-eq0.put.now ≡ (if before == 0 then 64 else 44) ∷ [] =
    elim c.if-before-eq0.branch [
      | then-before-eq0 w ↦ let first = cond-true {A = ℕ} (before == 0) 64 44 (eq-eqb before 0 w.if-before-eq0.true) in search (rules, first)
      | else-before-eq0 w ↦ let later = cond-false {A = ℕ} (before == 0) 64 44 (ne_eqb before 0 w.if-before-eq0.false) in search (rules, later)
    ]
    in
    let place : length r - 1 - (c.bits-bits.result - 1 - c.loop-before.before) ≡ c.loop-before.before = omega arith in
    let item : item_of c.item_at.result ≡ get_or r before (Set false) = c.item_at.ensures.item ∙ ap (λ k. get_or r k (Set false)) place in
    record {
      width = width;
      so_far =
          c.in_ok-put_item.ensures.ok
          ∙ ap (λ t. t ++ item_text (before + 1) (item_of c.item_at.result)) (c.in_ok-put.ensures.ok ∙ ap (λ t. t ++ c.if-before-eq0.put.now) c.loop-before.invariant.so_far ∙ ap (λ m. (c.args.text.now.items ++ front_text (take before r)) ++ m) mark)
          ∙ ap (λ it. ((c.args.text.now.items ++ front_text (take before r)) ++ (if before == 0 then 64 else 44) ∷ []) ++ item_text (before + 1) it) item
          ∙ put_more c.args.text.now.items r before (Set false) inside;
    }
