use Rattle.std.specs.Prelude.{MatchOption}
use Rattle.std.proofs.Common.{◌≡◌, ℕ, List, Option, take, subst}
use Rattle.byte_edges.specs.Counts.{raised}
use Rattle.byte_edges.specs.Links.{TakesAt}
use Rattle.probe_agents.proofs.Takes.{gave_first, took_one}
use Rattle.probe_agents.proofs.waiting.take_one.Goals as goal

pub returns-in-Ok-Some-clause-ends : goal.returns-in-Ok-Some-clause-ends
returns-in-Ok-Some-clause-ends g c =
    let n = c.in-Ok-Some.n in
    let into : List ℕ = c.take.new.into in
    let old = c.args.link.now in
    let new = c.take.new.self in
    let took = subst (λ (o : Option ℕ). TakesAt c.args.term (g.L.Link.waiting old) (g.L.Link.waiting new) o into) c.in-Ok-Some.field-0-is c.in-Ok-Some.ensures.taken in
    let given = subst (λ (o : Option ℕ). MatchOption o (g.L.Link.given new ≡ g.L.Link.given old) (λ _. g.L.Link.given new ≡ raised (g.L.Link.given old) 1)) c.in-Ok-Some.field-0-is c.in-Ok-Some.ensures.given in
    let dry = subst (λ (o : Option ℕ). MatchOption o (g.L.Link.dry new ≡ raised (g.L.Link.dry old) 1) (λ _. g.L.Link.dry new ≡ g.L.Link.dry old)) c.in-Ok-Some.field-0-is c.in-Ok-Some.ensures.dry in
    took_one c.args.term (take n into) c.args.awaited.now _ _ c.judged.result c.judged.ensures.same c.judged.ensures.other (record {
      waiting = gave_first c.args.term n into (g.L.Link.waiting old) (g.L.Link.waiting new) took;
      adds = c.in-Ok-Some.ensures.rule;
      faults = c.in-Ok-Some.ensures.steady;
      sent = c.in-Ok-Some.ensures.sent;
      given = given;
      dry = dry;
    })
