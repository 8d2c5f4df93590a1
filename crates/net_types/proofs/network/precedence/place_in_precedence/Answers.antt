use Rattle.std.proofs.Common.{rules}
use Rattle.std.specs.Ordering.{is_lt}
use Rattle.std.proofs.lemmas.List.Sorted.{IsPartitionPoint-from_clause}
use Rattle.net_types.specs.declared.rule.Rule.{Rule}
use Rattle.net_types.specs.Tables.{precedence_cmp}
use Rattle.net_types.proofs.InPrecedence.{precedence_parts, place_found}
use Rattle.net_types.proofs.network.precedence.place_in_precedence.Goals as goal

pub returns : goal.returns
returns c =
    let ordered = c.args.ordered.now in
    let rule = c.args.rule.now in
    let point = IsPartitionPoint-from_clause (λ (other : Rule). is_lt (precedence_cmp other rule)) ordered c.partition_point.result c.partition_point.ensures.partitioned (precedence_parts rule ordered c.requires) (λ a r f called. search rules) in
    place_found rule ordered c.partition_point.result c.partition_point.ensures.bound point
