use Rattle.std.proofs.Common.{List, ℕ, map, sym, subst}
use Rattle.std.proofs.lemmas.Result.{err_from_is_err_and}
use Rattle.network_model.specs.Table.{HasMore}
use Rattle.path_table.specs.Entries.{entry_of}
use Rattle.twin_laws.specs.Shared.{AreTwinned}
use Rattle.class_tree.specs.declared.class.Class.{Class}
use Rattle.class_tree.specs.Searched.{StartsAmong}
use Rattle.class_tree.proofs.Faults.{handed_on}
use Rattle.frontier_waves.specs.Starts.{starts_of, AreStarts}
use Rattle.frontier_waves.specs.Waves.{IsSearchedFor, TouchedBy}
use Rattle.frontier_waves.proofs.TwinSearch.{leading_starts, leading, more_leading}
use Rattle.frontier_waves.proofs.search.search.Goals as goal

pub twins_of-requires : goal.twins_of-requires
twins_of-requires g c = subst (λ (cs : List Class). AreStarts c.args.net.now cs) (sym c.deref.ensures.value) c.requires.starts

pub grow_out-requires-clause-starts : goal.grow_out-requires-clause-starts
grow_out-requires-clause-starts g c κs lives =
    subst (λ (cs : List Class). AreStarts c.args.net.now cs) (sym c.without-firsts.ensures)
    (leading_starts c.args.net.now c.as_slice-shared.result.now c.args.starts.items c.requires.starts)

pub returns-clause-searched : goal.returns-clause-searched
returns-clause-searched g c =
    let twins = c.as_slice-shared.result.now in
    let P : List ℕ → Type 0 = λ l. IsSearchedFor c.args.net.now c.args.hops l twins (map entry_of c.in_ok-found.found.entries.items) c.in_ok-found.found.classes in
    c.for_all.ensures.searched c.args.hops (starts_of c.args.starts.items)
    (subst (λ (ts : List (ℕ × ℕ)). AreTwinned c.args.net.now (starts_of c.args.starts.items) ts) (sym c.as_slice-shared.ensures.value)
    (subst (λ (cs : List Class). AreTwinned c.args.net.now (starts_of cs) c.in_ok-twins.twins.items) c.deref.ensures.value c.in_ok-twins.ensures))
    (subst P (leading twins c.args.starts.items)
    (subst (λ (cs : List Class). P (starts_of cs)) c.without-firsts.ensures c.in_ok-found.ensures.searched))

pub returns-clause-touched : goal.returns-clause-touched
returns-clause-touched g c =
    let twins = c.as_slice-shared.result.now in
    let P : List ℕ → Type 0 = λ l. TouchedBy c.args.net.now c.args.hops l c.in_ok-found.found.touched in
    c.for_all.ensures.touched c.args.hops (starts_of c.args.starts.items)
    (subst (λ (ts : List (ℕ × ℕ)). AreTwinned c.args.net.now (starts_of c.args.starts.items) ts) (sym c.as_slice-shared.ensures.value)
    (subst (λ (cs : List Class). AreTwinned c.args.net.now (starts_of cs) c.in_ok-twins.twins.items) c.deref.ensures.value c.in_ok-twins.ensures))
    (subst P (leading twins c.args.starts.items)
    (subst (λ (cs : List Class). P (starts_of cs)) c.without-firsts.ensures c.in_ok-found.ensures.touched))

pub returns-clause-full : goal.returns-clause-full
returns-clause-full g c most h =
    let twins = c.as_slice-shared.result.now in
    let P : List ℕ → Type 0 = λ l. IsSearchedFor c.args.net.now c.args.hops l twins (map entry_of c.in_ok-found.found.entries.items) c.in_ok-found.found.classes in
    let full = c.for_all.ensures.full most h in (
      full.0,
      full.1 c.args.hops (starts_of c.args.starts.items)
          (subst (λ (ts : List (ℕ × ℕ)). AreTwinned c.args.net.now (starts_of c.args.starts.items) ts) (sym c.as_slice-shared.ensures.value)
          (subst (λ (cs : List Class). AreTwinned c.args.net.now (starts_of cs) c.in_ok-twins.twins.items) c.deref.ensures.value c.in_ok-twins.ensures))
          (subst P (leading twins c.args.starts.items)
          (subst (λ (cs : List Class). P (starts_of cs)) c.without-firsts.ensures c.in_ok-found.ensures.searched)),
    )

pub returns-in_err-found-clause-full : goal.returns-in_err-found-clause-full
returns-in_err-found-clause-full g c most h =
    let twins = c.as_slice-shared.result.now in
    let P : List ℕ → Type 0 = λ l. HasMore c.args.net.now c.args.hops (StartsAmong l) c.args.limit in
    let p = err_from_is_err_and c.from_residual-in_err-found.result c.from_residual-in_err-found.ensures.1 in
    let full = c.in_err-found.ensures.full most (handed_on c.from_residual-in_err-found.result c.in_err-found.field-0.0 p.0 _ p.1 p.2 h) in (
      full.0,
      more_leading c.args.net.now c.args.hops c.args.limit twins (starts_of c.args.starts.items)
          (subst P (leading twins c.args.starts.items) (subst (λ (cs : List Class). P (starts_of cs)) c.without-firsts.ensures full.1)),
    )
