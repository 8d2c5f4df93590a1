use Rattle.std.specs.String.{string_bytes}
use Rattle.std.specs.Result.{IsErrAnd}
use Rattle.std.proofs.Common.{◌≡◌, ◌+◌, ℕ, Result, Ok, Err, IfErr, map, sym, subst, arith}
use Rattle.std.proofs.lemmas.List.{length-map}
use Rattle.command_line.specs.Table.{named, IsLine, IsBadAt}
use Rattle.command_line.proofs.GoodPairs.{no_pairs, one_pair_more, all_pairs}
use Rattle.command_line.proofs.BadLines.{stuck_bad, short_bad}
use Rattle.command_line.proofs.pairs.judge.Goals as goal

pub loop-at-init : goal.loop-at-init
loop-at-init c = no_pairs (map named c.args.names.now) (map string_bytes c.args.words.now)

-- the place that a `?` hands on
handed_on : (P : ℕ → Type 0) (r : Result (Unit {0}) ℕ) (place : ℕ) → IsErrAnd r (λ at. at ≡ place) → P place → IfErr r P
handed_on P (Ok done) place e bad = tt
handed_on P (Err at) place e bad = subst P (sym e) bad

pub returns-in_err-judge_pair-clause-err : goal.returns-in_err-judge_pair-clause-err
returns-in_err-judge_pair-clause-err c =
    let names = map named c.args.names.now in
    let words = map string_bytes c.args.words.now in
    let many = length-map c.args.words.now string_bytes in
    handed_on (λ at. IsBadAt (IsLine names) words at) c.from_residual.result c.in_err-judge_pair.field-0.0 c.from_residual.ensures.1
    (stuck_bad names words c.loop-at.at c.in_err-judge_pair.field-0.0 c.requires (omega arith) c.loop-at.invariant c.in_err-judge_pair.ensures.err)

pub loop-at-preserved : goal.loop-at-preserved
loop-at-preserved c = one_pair_more (map named c.args.names.now) (map string_bytes c.args.words.now) c.loop-at.at c.loop-at.invariant c.in_ok-judge_pair.ensures.ok

pub returns-then-has_required-clause-ok : goal.returns-then-has_required-clause-ok
returns-then-has_required-clause-ok c =
    let many = length-map c.args.words.now string_bytes in
    record {
      pairs = all_pairs (map named c.args.names.now) (map string_bytes c.args.words.now) c.loop-at.at c.loop-at.invariant (omega arith);
      required = c.has_required.ensures.0 c.if-has_required.true;
    }

pub returns-else-has_required-clause-err : goal.returns-else-has_required-clause-err
returns-else-has_required-clause-err c =
    let names = map named c.args.names.now in
    let words = map string_bytes c.args.words.now in
    let many = length-map c.args.words.now string_bytes in
    subst (λ n. IsBadAt (IsLine names) words (n + 1)) many
    (short_bad names words c.requires (all_pairs names words c.loop-at.at c.loop-at.invariant (omega arith))
    (λ all. let yes = c.has_required.ensures.1 all in let no = c.if-has_required.false in cc))
