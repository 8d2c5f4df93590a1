use Rattle.std.proofs.Common.{◌≡◌, Bool, List, false, not, nat_eq, slice_index_or, sym, subst}
use Rattle.std.specs.Arc.{arc_value}
use Rattle.std.specs.List.{filter, list_any}
use Rattle.network_model.specs.Network.{Network}
use Rattle.network_model.specs.Cover.{rules_of}
use Rattle.network_model.proofs.PlanLaws.{rules_of_table}
use Rattle.rule_cover.specs.Places.{numbers_of, Tells}
use Rattle.rule_cover.proofs.NetRules.{table_rules}
use Rattle.rule_cover.proofs.PlaceLists.{tells_alike}
use Rattle.rule_cover.proofs.Probes.{probes_have_all}
use Rattle.rule_cover.proofs.greedy.cover.Goals as goal

pub choose-requires : goal.choose-requires
choose-requires c n r on = rw c.deref.ensures (table_rules (arc_value c.args.net) c.args.hops c.args.table c.requires.table n r on)

pub of-requires-clause-idle : goal.of-requires-clause-idle
of-requires-clause-idle c =
    let net = arc_value c.args.net in
    let table = c.args.table in
    let probes = c.in_ok-choice.choice.probes.items in
    let covered = c.in_ok-choice.choice.covered.items in
    let facts = c.in_ok-choice.ensures in
    let on_probes : Tells (numbers_of net) (rules_of table probes) (λ p. slice_index_or covered p false) =
    subst (λ (n : Network). Tells (numbers_of n) (rules_of table probes) (λ p. slice_index_or covered p false)) c.deref.ensures facts.told in
    let on_entries = tells_alike (numbers_of net) (rules_of table probes) (rules_of_table table) (λ p. slice_index_or covered p false) (probes_have_all table probes facts.greedy) on_probes in
    let lent : Tells (numbers_of net) (rules_of_table table) (λ p. slice_index_or c.deref-4.result.now p false) =
    subst (λ (cs : List Bool). Tells (numbers_of net) (rules_of_table table) (λ p. slice_index_or cs p false)) (sym c.deref-4.ensures.value) on_entries in
    let told : Tells (numbers_of c.deref-3.result.now) (rules_of_table table) (λ p. slice_index_or c.deref-4.result.now p false) =
    subst (λ (n : Network). Tells (numbers_of n) (rules_of_table table) (λ p. slice_index_or c.deref-4.result.now p false)) (sym c.deref-3.ensures) lent in
    subst (λ (n : Network). c.in_ok-idle.idle.items ≡ filter (λ r. not (list_any (nat_eq r) (rules_of_table table))) (numbers_of n)) c.deref-3.ensures (c.in_ok-idle.ensures (rules_of_table table) told)
