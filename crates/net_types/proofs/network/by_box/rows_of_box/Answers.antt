use Rattle.std.proofs.Common.{rules, sym, ap, ◌∙◌, ◌≡◌, ◌-◌, length, take, drop, ltb, leb, arith}
use Rattle.std.proofs.lemmas.List.{take_all, length-drop}
use Rattle.std.proofs.lemmas.List.Sorted.{IsPartitionPoint-from_clause, IsPartitionedBy-ltb, IsPartitionedBy-leb, IsNonDecreasingBy-drop}
use Rattle.net_types.proofs.InPrecedence.{section}
use Rattle.net_types.proofs.network.by_box.rows_of_box.Goals as goal

-- the two searches bound the rows of the box
pub returns : goal.returns
returns g c =
    let rows = c.args.rows.now in
    let home = g.T.AtBox.home in
    let box = c.args.«at» in
    let i = c.partition_point.result in
    let k = c.partition_point-2.result in
    let rise = c.requires in
    let rest_is : take (length rows - i) (drop i rows) ≡ drop i rows = take_all (length rows - i) (drop i rows) (omega (arith, length-drop i rows)) in
    let lower = IsPartitionPoint-from_clause (λ r. ltb (home r) box) rows i c.partition_point.ensures.partitioned (IsPartitionedBy-ltb home rows box rise) (λ a r f called. search rules) in
    let upper = IsPartitionPoint-from_clause (λ r. leb (home r) box) (drop i rows) k (rw rest_is at c.partition_point-2.ensures.partitioned) (IsPartitionedBy-leb home (drop i rows) box (IsNonDecreasingBy-drop home i rows rise)) (λ a r f called. search rules) in
    ap (take k) rest_is ∙ sym (section home rows box i k c.partition_point.ensures.bound (rw rest_is at c.partition_point-2.ensures.bound) lower upper)
