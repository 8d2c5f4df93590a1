use Rattle.std.proofs.Common.{ℕ, List, ◌<◌, length, take, subst}
use Rattle.byte_edges.specs.Writing.{Took}
use Rattle.atpg.proofs.summary.run_growth.Goals as goal

pub returns-in-Ok-clause-write_fault : goal.returns-in-Ok-clause-write_fault
returns-in-Ok-clause-write_fault g c = λ written e.
    let fault = c.write_text.ensures.write_fault written e in
    let at : List ℕ → Type 0 = λ text. (written < length text) × Took (g.K.Sink.taken c.args.sink.now) (g.K.Sink.taken c.write_text.new.sink) (take written text) in
    let took : at c.in-Ok.text.items = subst at c.deref.ensures.value (fault.1, fault.2) in
    (fault.0, (c.in-Ok.text.items, c.in-Ok.ensures.ok, took.0, took.1))
