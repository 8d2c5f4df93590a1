use Rattle.std.proofs.Common.{map}
use Rattle.std.proofs.lemmas.Result.{err_from_is_err_and}
use Rattle.path_table.specs.Entries.{entry_of}
use Rattle.twin_laws.proofs.Shared.{touched_of_all}
use Rattle.class_tree.proofs.Faults.{handed_on}
use Rattle.frontier_waves.proofs.TwinSearch.{searched_for_all, more_for_all}
use Rattle.frontier_waves.proofs.sharing.for_all.Goals as goal

pub returns-clause-searched : goal.returns-clause-searched
returns-clause-searched c hops all twinned is =
    searched_for_all c.args.net.now hops all c.args.twins.now (map entry_of c.args.found.entries.items) (map entry_of c.in_ok-entries.entries.items) c.args.found.classes twinned is
    c.in_ok-entries.ensures.all

pub returns-clause-touched : goal.returns-clause-touched
returns-clause-touched c hops all twinned was =
    touched_of_all c.args.net.now all c.args.twins.now twinned c.bits-bits.ensures.well_formed hops c.args.found.touched c.in_ok-touched.touched was c.in_ok-touched.ensures

pub returns-clause-within : goal.returns-clause-within
returns-clause-within c = c.in_ok-entries.ensures.within

pub returns-in_err-entries-clause-full : goal.returns-in_err-entries-clause-full
returns-in_err-entries-clause-full c most h =
    let p = err_from_is_err_and c.from_residual.result c.from_residual.ensures.1 in
    let full = c.in_err-entries.ensures.full most (handed_on c.from_residual.result c.in_err-entries.field-0.0 p.0 _ p.1 p.2 h) in (
      full.0,
      λ hops all twinned is. more_for_all c.args.net.now hops c.args.limit all c.args.twins.now (map entry_of c.args.found.entries.items) c.args.found.classes twinned is full.1,
    )
