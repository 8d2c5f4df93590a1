use Rattle.std.proofs.Common.{◌↔◌, ◌⊎◌, ℕ, List, Contains, subst}
use Rattle.path_table.proofs.PairSets.{united}
use Rattle.path_table.proofs.touched.Touched.joined.Goals as goal

pub returns : goal.returns
returns c terminal box =
    let new = c.append.new.self.keys in
    let mine = c.self.inside.pairs.keys in
    let theirs = c.other.inside.pairs.keys in
    subst (λ (keys : List (ℕ × ℕ)). Contains new (terminal, box) ↔ (Contains keys (terminal, box) ⊎ Contains c.args.other (terminal, box))) c.self.view_is
    (subst (λ (keys : List (ℕ × ℕ)). Contains new (terminal, box) ↔ (Contains mine (terminal, box) ⊎ Contains keys (terminal, box))) c.other.view_is
    (united mine theirs new (terminal, box) (c.in_ok-append.ensures.inserts_all.0 (terminal, box))))
