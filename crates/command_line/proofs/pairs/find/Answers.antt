use Rattle.std.proofs.Common.{◌≢◌, arith}
use Rattle.command_line.specs.declared.name.Name.{Name}
use Rattle.command_line.specs.Table.{Named, named}
use Rattle.command_line.proofs.Places.{same_word, there_at, and_here, of_all}
use Rattle.command_line.proofs.pairs.find.Goals as goal

pub loop-name-init : goal.loop-name-init
loop-name-init c = λ k x less at. absurd (omega arith)

pub returns-then-eq-clause-some : goal.returns-then-eq-clause-some
returns-then-eq-clause-some c = (there_at named c.args.names.now c.loop-name.name-index _ c.loop-name-test.true, (same_word _ _ c.eq.result c.eq.ensures).0 c.if-eq.true)

pub loop-name-preserved : goal.loop-name-preserved
loop-name-preserved c =
    and_here (λ (x : Name). x.word.now ≢ c.args.word.now) c.args.names.now c.loop-name.name-index _ c.loop-name.invariant
    (λ same. let yes = (same_word _ _ c.eq.result c.eq.ensures).1 same in let no = c.if-eq.false in cc)

pub returns-clause-none : goal.returns-clause-none
returns-clause-none c = of_all named (λ (n : Named). n.word ≢ c.args.word.now) c.args.names.now c.loop-name.name-index c.loop-name.invariant (omega arith)
