use Rattle.std.proofs.Common.{◌≢◌, arith}
use Rattle.command_line.specs.declared.command.Command.{Command}
use Rattle.command_line.specs.Table.{Commanded, commanded}
use Rattle.command_line.proofs.Places.{same_word, there_at, and_here, of_all}
use Rattle.command_line.proofs.command.find_command.Goals as goal

pub loop-command-init : goal.loop-command-init
loop-command-init c = λ k x less at. absurd (omega arith)

pub returns-then-eq-clause-some : goal.returns-then-eq-clause-some
returns-then-eq-clause-some c = (there_at commanded c.args.commands.now c.loop-command.command-index _ c.loop-command-test.true, (same_word _ _ c.eq.result c.eq.ensures).0 c.if-eq.true)

pub loop-command-preserved : goal.loop-command-preserved
loop-command-preserved c =
    and_here (λ (x : Command). x.word.now ≢ c.args.word.now) c.args.commands.now c.loop-command.command-index _ c.loop-command.invariant
    (λ same. let yes = (same_word _ _ c.eq.result c.eq.ensures).1 same in let no = c.if-eq.false in cc)

pub returns-clause-none : goal.returns-clause-none
returns-clause-none c = of_all commanded (λ (n : Commanded). n.word ≢ c.args.word.now) c.args.commands.now c.loop-command.command-index c.loop-command.invariant (omega arith)
