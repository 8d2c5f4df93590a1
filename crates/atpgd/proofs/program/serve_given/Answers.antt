use Rattle.std.specs.String.{string_bytes}
use Rattle.std.proofs.Common.{IfSome, map, inl, sym, subst}
use Rattle.program_edges.specs.Arguments.{AreTaken}
use Rattle.atpgd.proofs.program.serve_given.Goals as goal

pub returns-in-Ok : goal.returns-in-Ok
returns-in-Ok g c =
    inl (
      map string_bytes c.deref.result.now,
      subst (λ l. IfSome (g.W.Words.words c.args.given.now) (λ all. AreTaken all (map string_bytes l))) (sym c.deref.ensures.value) c.in-Ok.ensures,
      (_, c.daemon-served.ensures),
    )
