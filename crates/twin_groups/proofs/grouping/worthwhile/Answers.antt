use Rattle.std.proofs.Common.{◌≡◌, sym, subst}
use Rattle.std.specs.List.{filter}
use Rattle.std.proofs.lemmas.Result.{IfOk-weaker}
use Rattle.twin_laws.specs.Shared.{AreTwinned}
use Rattle.twin_laws.proofs.Shared.{twinned_part}
use Rattle.twin_groups.specs.Splits.{is_large}
use Rattle.twin_groups.proofs.grouping.worthwhile.Goals as goal

pub returns : goal.returns
returns c net all is =
    let lent = c.deref.result.now in
    let test = is_large lent c.args.workers in
    IfOk-weaker c.large.result (λ kept. kept.items ≡ filter test lent) (λ kept. AreTwinned net all kept.items)
    (λ kept same. subst (λ ts. AreTwinned net all ts) (sym same)
    (twinned_part net all lent test (subst (λ ts. AreTwinned net all ts) (sym c.deref.ensures.value) is))) c.large.ensures
