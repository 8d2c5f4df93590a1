use Rattle.std.proofs.Common.{ℕ, ◌∷◌, ◌++◌, [], List, take, get_or, sym, subst, arith}
use Rattle.std.proofs.lemmas.List.{take_more}
use Rattle.probe_agents.specs.declared.shot.Shot.{Shot}
use Rattle.probe_agents.specs.Seeing.{Seen, seen}
use Rattle.probe_agents.proofs.Answered.{HasAnswered, answered_more}
use Rattle.probe_agents.proofs.shares.fire_each.Goals as goal

pub loop-entry-preserved : goal.loop-entry-preserved
loop-entry-preserved g c =
    let see = seen g.L.Link.waiting g.L.Link.adds g.L.Link.faults g.L.Link.sent g.L.Link.given g.L.Link.dry in
    let plan = c.args.plan.now in
    let id = c.args.id in
    let entries : List ℕ = c.args.entries.now in
    let i : ℕ = c.loop-entry.entry-index in
    let n : ℕ = get_or entries i 0 in
    let shots : List Shot = c.loop-entry.shots.items in
    let shot : Shot = c.in_ok-shot.shot in
    let start : Seen = see c.args.link.now in
    let before : Seen = see c.loop-entry.link in
    let after : Seen = see c.fire.new.link in
    subst (λ (ns : List ℕ). HasAnswered plan id ns c.push.new.self.items start after) (sym (take_more entries i 0 (omega arith)))
    (subst (λ (ss : List Shot). HasAnswered plan id (take i entries ++ n ∷ []) ss start after) (sym c.in_ok-push.ensures.items)
    (answered_more plan id (take i entries) shots n shot start before after c.loop-entry.invariant c.in_ok-shot.ensures.fires c.in_ok-shot.ensures.kept c.in_ok-shot.ensures.field))
