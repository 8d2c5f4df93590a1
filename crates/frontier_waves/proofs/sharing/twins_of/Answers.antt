use Rattle.std.proofs.Common.{◌≢◌, ◌∙◌, ℕ, sym, subst}
use Rattle.std.specs.List.{AllPairs}
use Rattle.twin_laws.specs.Shared.{AreTwinned}
use Rattle.frontier_waves.specs.Starts.{starts_of}
use Rattle.frontier_waves.proofs.TwinSearch.{starts_differ}
use Rattle.frontier_waves.proofs.sharing.twins_of.Goals as goal

pub twins_among-requires : goal.twins_among-requires
twins_among-requires c =
    record {
      apart = subst (λ l. AllPairs (λ (a b : ℕ). a ≢ b) l) (sym (c.deref.ensures.value ∙ c.in_ok-terminals.ensures)) (starts_differ c.args.net.now c.args.starts.now c.requires);
    }

pub returns : goal.returns
returns c =
    c.worthwhile.ensures c.args.net.now (starts_of c.args.starts.now)
    (subst (λ l. AreTwinned c.args.net.now l c.in_ok-twins.twins.items) (c.deref.ensures.value ∙ c.in_ok-terminals.ensures) c.in_ok-twins.ensures)
