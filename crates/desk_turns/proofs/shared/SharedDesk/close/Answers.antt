use Rattle.std.proofs.Common.{◌≡◌, ◌+◌, List, [], ◌∷◌, ◌++◌, length, vec_len, sym, ap, subst, arith}
use Rattle.desk_turns.specs.Shared.{DeskId, PassValue, IsClosed}
use Rattle.desk_turns.specs.Passes.{desk_id}
use Rattle.desk_turns.proofs.Ended.{last_first}
use Rattle.desk_turns.proofs.shared.SharedDesk.close.Goals as goal

pub returns-clause-closed : goal.returns-clause-closed
returns-clause-closed c =
    let shared = c.self.inside.table.shared in let others = c.pop.new.self in let last = c.in-Some.last in let g = c.gather-whole.ensures in
    let made : shared.key.seats ≡ c.args.self.seats = ap (λ (d : DeskId). d.seats) c.self.view_is in
    let one_less : vec_len others + 1 ≡ vec_len c.args.passes = c.in-Some.ensures.cases in
    let handed = c.requires.count in let counted = others.ok.0 in
    let whole : length (last ∷ others.items) ≡ shared.key.seats = omega arith in
    let closed = c.taken.ensures last others.items g.known (g.numbered, whole, g.own) in
    let all : others.items ++ last ∷ [] ≡ c.args.passes.items = sym c.in-Some.ensures.items in
    subst (λ (d : DeskId). IsClosed d c.args.passes.items c.taken.result) c.self.view_is
    (subst (λ (ps : List PassValue). IsClosed (desk_id shared.table_id shared.key) ps c.taken.result) all (last_first (desk_id shared.table_id shared.key) last others.items c.taken.result closed))
