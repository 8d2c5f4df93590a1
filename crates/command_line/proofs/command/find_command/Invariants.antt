use Rattle.std.proofs.Common.{◌≡◌, ◌≢◌, ◌<◌, ℕ, Some}
use Rattle.std.specs.List.{slice_get}
use Rattle.command_line.specs.declared.command.Command.{Command}
use Rattle.command_line.proofs.command.find_command.Given as goal

-- none of the commands so far is this word
abbrev pub invariant-loop-command : goal.invariant-loop-command
invariant-loop-command l = (k : ℕ) (x : Command) → k < l.command-index → slice_get l.commands k ≡ Some x → x.word.now ≢ l.word
