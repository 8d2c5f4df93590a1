use Rattle.std.proofs.Common.{◌≡◌, ◌==◌, List, Some, None, refl, sym, ap, ◌∙◌}
use Rattle.std.specs.List.{position}
use Rattle.field_sim.specs.declared.field.Waiting.{Waiting}
use Rattle.field_sim.specs.Listed.{all_listed}
use Rattle.field_sim.proofs.Taking.{none_waits, took_first}
use Rattle.field_sim.proofs.field.FieldLink.take.Goals as goal

pub returns-in-Some-clause-taken : goal.returns-in-Some-clause-taken
returns-in-Some-clause-taken c =
    let xs : List Waiting = c.self.inside.waiting.items in
    let found : position (λ (w : Waiting). w.term == c.args.term) xs ≡ Some c.in-Some.at =
    sym (c.in-Some.ensures ∙ ap (λ (ys : List Waiting). position (λ (w : Waiting). w.term == c.args.term) ys) c.deref.ensures.value) in
    rw (← c.self.view_is, c.remove-packet.ensures.items) (all_listed _, refl, took_first c.args.term xs c.in-Some.at c.remove-packet.result c.put.new.into found c.remove-packet.ensures.value c.put.ensures.long c.put.ensures.front)

pub returns-in-None-clause-taken : goal.returns-in-None-clause-taken
returns-in-None-clause-taken c =
    let xs : List Waiting = c.self.inside.waiting.items in
    let found : position (λ (w : Waiting). w.term == c.args.term) xs ≡ None =
    sym (c.in-None.ensures ∙ ap (λ (ys : List Waiting). position (λ (w : Waiting). w.term == c.args.term) ys) c.deref.ensures.value) in
    rw (← c.self.view_is) (none_waits c.args.term xs found, refl)
