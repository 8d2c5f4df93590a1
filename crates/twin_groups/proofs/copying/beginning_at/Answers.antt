use Rattle.std.proofs.Common.{rules, sym, ap, ◌∙◌, ◌≡◌, ◌-◌, length, take, drop, ltb, leb, eqb, nat_eq, arith}
use Rattle.std.proofs.lemmas.List.{take_all, length-drop}
use Rattle.std.proofs.lemmas.List.Elements.{filter_agree}
use Rattle.std.proofs.lemmas.List.Sorted.{IsPartitionPoint-from_clause, IsPartitionedBy-ltb, IsPartitionedBy-leb, IsNonDecreasingBy-drop}
use Rattle.net_types.proofs.InPrecedence.{section}
use Rattle.path_table.specs.declared.entry.Entry.{Entry}
use Rattle.twin_groups.proofs.Runs.{turned_test}
use Rattle.twin_groups.proofs.copying.beginning_at.Goals as goal

-- the two searches bound the entries of the terminal
pub returns : goal.returns
returns c =
    let entries = c.args.entries.now in
    let start = λ (e : Entry). e.«from» in
    let terminal = c.args.terminal in
    let i = c.partition_point-first.result in
    let k = c.partition_point-count.result in
    let rise = c.requires in
    let rest_is : take (length entries - i) (drop i entries) ≡ drop i entries = take_all (length entries - i) (drop i entries) (omega (arith, length-drop i entries)) in
    let lower = IsPartitionPoint-from_clause (λ (e : Entry). ltb e.«from» terminal) entries i c.partition_point-first.ensures.partitioned (IsPartitionedBy-ltb start entries terminal rise) (λ a r f called. search rules) in
    let upper = IsPartitionPoint-from_clause (λ (e : Entry). leb e.«from» terminal) (drop i entries) k (rw rest_is at c.partition_point-count.ensures.partitioned) (IsPartitionedBy-leb start (drop i entries) terminal (IsNonDecreasingBy-drop start i entries rise)) (λ a r f called. search rules) in
    ap (take k) rest_is ∙ sym (section start entries terminal i k c.partition_point-first.ensures.bound (rw rest_is at c.partition_point-count.ensures.bound) lower upper)
    ∙ filter_agree (λ (e : Entry). eqb e.«from» terminal) (λ (e : Entry). nat_eq terminal e.«from») (λ e. turned_test e.«from» terminal) entries
