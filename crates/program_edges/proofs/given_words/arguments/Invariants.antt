use Rattle.std.proofs.Common.{IfSome, map}
use Rattle.std.specs.String.{string_bytes}
use Rattle.program_edges.proofs.TakenWords.{AreTakenTo}
use Rattle.program_edges.proofs.given_words.arguments.Given as goal

-- the words before this place are taken
abbrev pub invariant-loop-i : goal.invariant-loop-i
invariant-loop-i g l = IfSome (g.W.Words.words l.given) (λ all. AreTakenTo l.i all (map string_bytes l.words.items))
