use Rattle.std.proofs.Common.{◌≡◌, map, refl, sym, ◌∙◌, subst, arith}
use Rattle.std.proofs.lemmas.Result.{err_from_is_err_and}
use Rattle.std.specs.Arc.{arc_value}
use Rattle.path_table.specs.declared.fault.TableFault.{TableFault}
use Rattle.path_table.specs.declared.fault.TableFault.TheVariants as tables
use Rattle.path_table.specs.Entries.{entry_of, IsFound}
use Rattle.path_table.specs.Touching.{AreTouched}
use Rattle.rule_cover.specs.declared.fault.PlanFault.TheVariants as plans
use Rattle.rule_cover.specs.Faults.{without_table}
use Rattle.plan_build.proofs.building.build_counted.Goals as goal

-- the search keeps the limit, so that the table is not refused by it
pub returns-in_err-table-clause-full : goal.returns-in_err-table-clause-full
returns-in_err-table-clause-full g c most h =
    let p = err_from_is_err_and c.from_residual-in_err-table.result c.from_residual-in_err-table.ensures.1 in
    let full : p.0 ≡ plans.TableFull most = cc in
    absurd (by_fault c.in_err-table.field-0.0 refl (sym p.2 ∙ full))
  where
    by_fault : (fault : TableFault) → c.in_err-table.field-0.0 ≡ fault → without_table fault ≡ plans.TableFull most → ⊥
    by_fault (tables.TableFull limit) same given =
        let over = (c.in_err-table.ensures.full limit).0 (cc) in
        omega (arith, over.1, c.in_ok-found.ensures.within)
    by_fault tables.NoMemory same given = cc

pub cover-requires-clause-table : goal.cover-requires-clause-table
cover-requires-clause-table g c =
    let found = subst (λ n. IsFound n c.args.hops (map entry_of c.in_ok-found.found.entries.items)) c.deref.ensures c.in_ok-found.ensures.entries in
    c.in_ok-table.ensures.table (arc_value c.args.net) c.args.hops found

pub cover-requires-clause-touched : goal.cover-requires-clause-touched
cover-requires-clause-touched g c = subst (λ n. AreTouched n c.args.hops c.in_ok-found.found.touched) c.deref.ensures c.in_ok-found.ensures.touched
