use Rattle.std.proofs.Common.{◌≡◌, ◌↔◌, ℕ, List, Contains, sym, subst, rules}
use Rattle.std.specs.List.{filter}
use Rattle.std.proofs.lemmas.Fn.{filter_same}
use Rattle.path_table.proofs.PairSets.{is_of, restricted}
use Rattle.path_table.proofs.touched.Touched.of_terminals.Goals as goal

pub returns : goal.returns
returns c terminal box =
    let new = c.retain.new.self.keys in
    let old = c.self.inside.pairs.keys in
    let terminals = c.args.terminals.now in
    let kept : new ≡ filter (is_of terminals) old = filter_same _ (is_of terminals) _ (λ x b f' k. search rules) _ _ c.retain.ensures.filtered in
    subst (λ (keys : List (ℕ × ℕ)). Contains new (terminal, box) ↔ (Contains keys (terminal, box) × Contains terminals terminal)) c.self.view_is
    (subst (λ (keys : List (ℕ × ℕ)). Contains keys (terminal, box) ↔ (Contains old (terminal, box) × Contains terminals terminal)) (sym kept)
    (restricted old terminals (terminal, box)))
