use Rattle.std.proofs.Common.{◌≡◌, ◌<◌, ◌++◌, ◌⊎◌, ◌↔◌, ℕ, List, Contains, length, map, refl, sym, ap, ◌∙◌, subst, arith}
use Rattle.std.proofs.lemmas.List.{length-map}
use Rattle.std.proofs.lemmas.Result.{err_from_is_err_and}
use Rattle.std.specs.Arc.{arc_value}
use Rattle.network_model.specs.Table.{Entry, IsOver}
use Rattle.path_table.specs.Entries.{entry_of, IsFound}
use Rattle.path_table.specs.declared.fault.TableFault.{TableFault}
use Rattle.path_table.specs.declared.fault.TableFault.TheVariants as tables
use Rattle.rule_cover.specs.declared.fault.PlanFault.TheVariants as plans
use Rattle.rule_cover.specs.Faults.{without_table}
use Rattle.class_tree.proofs.Faults.{handed_on}
use Rattle.plan_build.specs.Keeping.{Overflows}
use Rattle.plan_build.proofs.Keeping.{ready, kept_are, others_are, pairs_are, flows_over, found_are, over_all, over, all_touched}
use Rattle.plan_build.proofs.rebuilding.rebuild.Goals as goal

pub returns-in_err-found-clause-full : goal.returns-in_err-found-clause-full
returns-in_err-found-clause-full g c most h =
    let old = c.args.old.now in
    let new = arc_value c.args.net in
    let hops = c.args.hops in
    let kept : List ℕ = c.in_ok-terminals.terminals.kept.items in
    let others : List ℕ = c.in_ok-terminals.terminals.others.items in
    let mine : List Entry = map entry_of c.in_ok-kept.kept.items in
    let r = ready old c.deref.result.now new hops kept others c.deref.ensures c.in_ok-terminals.ensures.fit.0 c.in_ok-terminals.ensures.fit.1 c.in_ok-terminals.ensures.parted in
    let first = kept_are old new hops kept others c.deref-2.result.now c.table.result.now mine r c.table.ensures.is_plan.table c.deref-2.ensures.value c.table.ensures.table c.in_ok-kept.ensures in
    let p = err_from_is_err_and c.from_residual-in_err-found.result c.from_residual-in_err-found.ensures.1 in
    let full = c.in_err-found.ensures.full most (handed_on c.from_residual-in_err-found.result c.in_err-found.field-0.0 p.0 _ p.1 p.2 h) in
    let count : c.len.result ≡ length mine = omega (arith, length-map c.in_ok-kept.kept.items entry_of, c.in_ok-kept.kept.ok.0, c.len.ensures) in
    let flows = flows_over c.deref-3.result.now new hops c.deref-4.result.now others c.len.result c.args.limit c.deref-3.ensures c.deref-4.ensures.value full.1 in
    (full.0, over old new hops r.old_fits r.new_fits kept others r.parted mine c.args.limit first (subst (λ n. Overflows new hops others n c.args.limit) count flows))

pub merged-requires : goal.merged-requires
merged-requires g c =
    let old = c.args.old.now in
    let new = arc_value c.args.net in
    let hops = c.args.hops in
    let kept : List ℕ = c.in_ok-terminals.terminals.kept.items in
    let others : List ℕ = c.in_ok-terminals.terminals.others.items in
    let mine : List Entry = map entry_of c.in_ok-kept.kept.items in
    let more : List Entry = map entry_of c.in_ok-found.found.entries.items in
    let r = ready old c.deref.result.now new hops kept others c.deref.ensures c.in_ok-terminals.ensures.fit.0 c.in_ok-terminals.ensures.fit.1 c.in_ok-terminals.ensures.parted in
    let first = kept_are old new hops kept others c.deref-2.result.now c.table.result.now mine r c.table.ensures.is_plan.table c.deref-2.ensures.value c.table.ensures.table c.in_ok-kept.ensures in
    let second = others_are c.deref-3.result.now new hops c.deref-4.result.now others more c.in_ok-found.found.classes c.deref-3.ensures c.deref-4.ensures.value c.in_ok-found.ensures.searched in
    let all = found_are entry_of old new hops kept others c.in_ok-kept.kept.items c.in_ok-found.found.entries.items r first second in
    all.apart

pub returns-in_err-table-clause-full : goal.returns-in_err-table-clause-full
returns-in_err-table-clause-full g c most h =
    let old = c.args.old.now in
    let new = arc_value c.args.net in
    let hops = c.args.hops in
    let kept : List ℕ = c.in_ok-terminals.terminals.kept.items in
    let others : List ℕ = c.in_ok-terminals.terminals.others.items in
    let mine : List Entry = map entry_of c.in_ok-kept.kept.items in
    let more : List Entry = map entry_of c.in_ok-found.found.entries.items in
    let r = ready old c.deref.result.now new hops kept others c.deref.ensures c.in_ok-terminals.ensures.fit.0 c.in_ok-terminals.ensures.fit.1 c.in_ok-terminals.ensures.parted in
    let first = kept_are old new hops kept others c.deref-2.result.now c.table.result.now mine r c.table.ensures.is_plan.table c.deref-2.ensures.value c.table.ensures.table c.in_ok-kept.ensures in
    let second = others_are c.deref-3.result.now new hops c.deref-4.result.now others more c.in_ok-found.found.classes c.deref-3.ensures c.deref-4.ensures.value c.in_ok-found.ensures.searched in
    let all = found_are entry_of old new hops kept others c.in_ok-kept.kept.items c.in_ok-found.found.entries.items r first second in
    let p = err_from_is_err_and c.from_residual-in_err-table.result c.from_residual-in_err-table.ensures.1 in
    let full : p.0 ≡ plans.TableFull most = cc in
    by_fault c.in_err-table.field-0.0 refl (sym p.2 ∙ full) all
  where
    by_fault : (fault : TableFault) → c.in_err-table.field-0.0 ≡ fault → without_table fault ≡ plans.TableFull most
        → IsFound (arc_value c.args.net) c.args.hops (map entry_of (c.in_ok-kept.kept.items ++ c.in_ok-found.found.entries.items))
        → (most ≡ c.args.limit) × IsOver (arc_value c.args.net) c.args.hops c.args.limit
    by_fault (tables.TableFull limit) same given all =
        let longer = c.in_err-table.ensures.full limit (cc) in
        let one : most ≡ limit = cc in
        let count : length (map entry_of (c.in_ok-kept.kept.items ++ c.in_ok-found.found.entries.items)) ≡ length (c.in_ok-kept.kept.items ++ c.in_ok-found.found.entries.items)
        = length-map (c.in_ok-kept.kept.items ++ c.in_ok-found.found.entries.items) entry_of in
        (one ∙ longer.0, over_all (arc_value c.args.net) c.args.hops c.args.limit (map entry_of (c.in_ok-kept.kept.items ++ c.in_ok-found.found.entries.items)) all (omega (arith, longer.1, count)))
    by_fault tables.NoMemory same given all = cc

pub cover-requires-clause-table : goal.cover-requires-clause-table
cover-requires-clause-table g c =
    let old = c.args.old.now in
    let new = arc_value c.args.net in
    let hops = c.args.hops in
    let kept : List ℕ = c.in_ok-terminals.terminals.kept.items in
    let others : List ℕ = c.in_ok-terminals.terminals.others.items in
    let mine : List Entry = map entry_of c.in_ok-kept.kept.items in
    let more : List Entry = map entry_of c.in_ok-found.found.entries.items in
    let r = ready old c.deref.result.now new hops kept others c.deref.ensures c.in_ok-terminals.ensures.fit.0 c.in_ok-terminals.ensures.fit.1 c.in_ok-terminals.ensures.parted in
    let first = kept_are old new hops kept others c.deref-2.result.now c.table.result.now mine r c.table.ensures.is_plan.table c.deref-2.ensures.value c.table.ensures.table c.in_ok-kept.ensures in
    let second = others_are c.deref-3.result.now new hops c.deref-4.result.now others more c.in_ok-found.found.classes c.deref-3.ensures c.deref-4.ensures.value c.in_ok-found.ensures.searched in
    let all = found_are entry_of old new hops kept others c.in_ok-kept.kept.items c.in_ok-found.found.entries.items r first second in
    c.in_ok-table.ensures.table new hops all

pub cover-requires-clause-touched : goal.cover-requires-clause-touched
cover-requires-clause-touched g c =
    let old = c.args.old.now in
    let new = arc_value c.args.net in
    let hops = c.args.hops in
    let kept : List ℕ = c.in_ok-terminals.terminals.kept.items in
    let others : List ℕ = c.in_ok-terminals.terminals.others.items in
    let r = ready old c.deref.result.now new hops kept others c.deref.ensures c.in_ok-terminals.ensures.fit.0 c.in_ok-terminals.ensures.fit.1 c.in_ok-terminals.ensures.parted in
    let pairs = c.of_terminals-pairs.result in
    let found = pairs_are c.deref-3.result.now new hops c.deref-4.result.now others c.in_ok-found.found.touched c.deref-3.ensures c.deref-4.ensures.value c.in_ok-found.ensures.touched in
    let restricted : (terminal box : ℕ) → Contains pairs (terminal, box) ↔ (Contains old.touched (terminal, box) × Contains kept terminal) =
    subst (λ (l : List ℕ). (terminal box : ℕ) → Contains pairs (terminal, box) ↔ (Contains old.touched (terminal, box) × Contains l terminal)) c.deref-5.ensures.value
    (subst (λ (l : List (ℕ × ℕ)). (terminal box : ℕ) → Contains pairs (terminal, box) ↔ (Contains l (terminal, box) × Contains c.deref-5.result.now terminal))
    (c.in_ok-copy.ensures ∙ c.touched.ensures.pairs) c.of_terminals-pairs.ensures) in
    all_touched old new hops r.old_fits r.new_fits kept others r.parted pairs c.in_ok-found.found.touched c.in_ok-touched.touched
    c.touched.ensures.touched found restricted c.in_ok-touched.ensures
