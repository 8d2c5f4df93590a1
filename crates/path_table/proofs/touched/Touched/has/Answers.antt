use Rattle.std.proofs.Common.{◌≡◌, ◌↔◌, Contains, true, sym, ◌∙◌, subst}
use Rattle.path_table.proofs.PairSets.{finds}
use Rattle.path_table.proofs.touched.Touched.has.Goals as goal

pub returns : goal.returns
returns c =
    let found = finds c.self.inside.pairs.keys (c.args.t, c.args.b) in
    let tells = c.contains.ensures in
    subst (λ keys. (c.contains.result ≡ true) ↔ Contains keys (c.args.t, c.args.b)) c.self.view_is
    (λ yes. found.0 (sym tells ∙ yes), λ there. tells ∙ found.1 there)
