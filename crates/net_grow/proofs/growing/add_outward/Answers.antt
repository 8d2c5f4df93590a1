use Rattle.std.proofs.Common.{◌≡◌, ℕ, ◌+◌, ◌*◌, ◌++◌, sym, ap, ◌∙◌, arith}
use Rattle.std.proofs.lemmas.List.{append-nil}
use Rattle.network_model.specs.Network.{Numbered}
use Rattle.net_types.specs.Rules.{numbered}
use Rattle.net_grow.specs.Generated.{outward_edges}
use Rattle.net_grow.specs.Words.{after, nth_word}
use Rattle.net_grow.proofs.Made.{outward_number, outward_last_number}
use Rattle.net_grow.proofs.OneMore.{outward_some-none, outward_edges-none}
use Rattle.net_grow.proofs.Sequence.{after_more, after_none}
use Rattle.net_grow.proofs.Steps.{outward_more, outward_done}
use Rattle.net_grow.proofs.Taking.{takes_later}
use Rattle.net_grow.proofs.growing.add_outward.Goals as goal

pub loop-edge-init : goal.loop-edge-init
loop-edge-init c =
    let start = c.args.net.now.rules in
    record {
      rules = sym (append-nil start) ∙ ap (λ rs. start ++ rs) (sym (outward_edges-none (nth_word c.args.words.now)));
      takes = c.requires;
      words = sym (after_none c.args.words.now);
    }

pub loop-index-init : goal.loop-index-init
loop-index-init c =
    let start = c.args.net.now.rules in
    let e : ℕ = c.loop-edge.edge in
    let edges = outward_edges (nth_word c.args.words.now) e in
    let count : 252 * e ≡ 4 * (63 * e + 0) = omega arith in
    record {
      rules =
          c.loop-edge.invariant.rules
          ∙ ap (λ rs. start ++ rs) (sym (append-nil edges) ∙ ap (λ rs. edges ++ rs) (sym (outward_some-none (nth_word c.args.words.now) e)));
      takes = takes_later c.loop-edge.net (1000 + 64 * e) _ (omega arith) c.loop-edge.invariant.takes;
      words = c.loop-edge.invariant.words ∙ ap (λ n. after n c.args.words.now) count;
    }

pub add-requires-clause-number : goal.add-requires-clause-number
add-requires-clause-number c =
    let number = ap (λ (r : Numbered). r.0) c.outward.ensures.rule ∙ outward_number c.loop-edge.edge c.loop-index.index _ _ _ _ in
    omega (arith, number)

pub add-requires-clause-takes : goal.add-requires-clause-takes
add-requires-clause-takes c =
    let number = ap (λ (r : Numbered). r.0) c.outward.ensures.rule ∙ outward_number c.loop-edge.edge c.loop-index.index _ _ _ _ in
    takes_later c.loop-index.net (1000 + 64 * c.loop-edge.edge + c.loop-index.index) _ (omega (arith, number)) c.loop-index.invariant.takes

pub loop-index-preserved : goal.loop-index-preserved
loop-index-preserved c =
    let g = c.args.words.now in
    let e : ℕ = c.loop-edge.edge in
    let j : ℕ = c.loop-index.index in
    let number = ap (λ (r : Numbered). r.0) c.outward.ensures.rule ∙ outward_number e j _ _ _ _ in
    let count : 4 * (63 * e + j) + 4 ≡ 4 * (63 * e + (j + 1)) = omega arith in
    record {
      rules =
          outward_more c.args.net.now.rules c.loop-index.net.rules c.add.new.net.rules c.loop-index.words g e j (numbered c.outward.result)
          c.loop-index.invariant.words c.outward.ensures.rule c.loop-index.invariant.rules c.in_ok-add.ensures.rules;
      takes = takes_later c.add.new.net (c.outward.result.id + 1) _ (omega (arith, number)) c.in_ok-add.ensures.takes;
      words =
          c.outward.ensures.words
          ∙ ap (after 4) c.loop-index.invariant.words
          ∙ after_more 4 (4 * (63 * e + j)) g
          ∙ ap (λ n. after n g) count;
    }

pub add-requires-in-loop-edge-clause-number : goal.add-requires-in-loop-edge-clause-number
add-requires-in-loop-edge-clause-number c =
    let number = ap (λ (r : Numbered). r.0) c.outward_last.ensures.rule ∙ outward_last_number c.loop-edge.edge in
    omega (arith, number)

pub add-requires-in-loop-edge-clause-takes : goal.add-requires-in-loop-edge-clause-takes
add-requires-in-loop-edge-clause-takes c =
    let number = ap (λ (r : Numbered). r.0) c.outward_last.ensures.rule ∙ outward_last_number c.loop-edge.edge in
    takes_later c.loop-index.net (1000 + 64 * c.loop-edge.edge + c.loop-index.index) _ (omega (arith, number)) c.loop-index.invariant.takes

pub loop-edge-preserved : goal.loop-edge-preserved
loop-edge-preserved c =
    let g = c.args.words.now in
    let e : ℕ = c.loop-edge.edge in
    let all : c.loop-index.index ≡ 63 = omega arith in
    let number = ap (λ (r : Numbered). r.0) c.outward_last.ensures.rule ∙ outward_last_number e in
    let count : 4 * (63 * e + c.loop-index.index) ≡ 252 * (e + 1) = omega arith in
    record {
      rules =
          outward_done c.args.net.now.rules c.loop-index.net.rules c.add-in-loop-edge.new.net.rules g e c.loop-index.index (numbered c.outward_last.result)
          all c.outward_last.ensures.rule c.loop-index.invariant.rules c.in_ok-add-2.ensures.rules;
      takes = takes_later c.add-in-loop-edge.new.net (c.outward_last.result.id + 1) _ (omega (arith, number)) c.in_ok-add-2.ensures.takes;
      words = c.loop-index.invariant.words ∙ ap (λ n. after n g) count;
    }
