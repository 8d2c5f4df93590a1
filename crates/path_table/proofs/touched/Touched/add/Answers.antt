use Rattle.std.proofs.Common.{◌≡◌, ◌↔◌, ◌⊎◌, Contains, subst}
use Rattle.path_table.proofs.PairSets.{adds}
use Rattle.path_table.proofs.touched.Touched.add.Goals as goal

pub returns-clause-added : goal.returns-clause-added
returns-clause-added c terminal box =
    let new = c.insert.new.self.keys in
    subst (λ old. Contains new (terminal, box) ↔ (Contains old (terminal, box) ⊎ ((terminal ≡ c.args.t) × (box ≡ c.args.b)))) c.self.view_is
    (adds c.self.inside.pairs.keys new (c.args.t, c.args.b) (terminal, box) (c.in_ok-insert.ensures.updates.0 (terminal, box)))
