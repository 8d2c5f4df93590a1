use Rattle.std.proofs.Common.{sym, ap, rules, ◌∙◌}
use Rattle.network_model.specs.Network as model
use Rattle.net_types.proofs.Sames.{zip_from_list, list_from_zip, terminal_same}
use Rattle.net_types.proofs.network.same.same_terminal.Goals as goal

pub returns-then-not-all_same : goal.returns-then-not-all_same
returns-then-not-all_same c = (
  λ no. absurd (cc),
  λ same.
      let answer = rw (c.deref.ensures.value, c.deref-2.ensures.value) at c.all_same.ensures in
      sym c.if-not-all_same.true ∙ answer.1 (zip_from_list _ _ (ap (λ (t : model.Terminal). t.permits) same)),
)

pub returns : goal.returns
returns c =
    let permits = rw (c.deref.ensures.value, c.deref-2.ensures.value) at c.all_same.ensures in
    let forbids = rw (c.deref-3.ensures.value, c.deref-4.ensures.value) at c.all_same-2.ensures in (
      λ holds. terminal_same c.args.a.now c.args.b.now (cc) (search rules)
          (list_from_zip _ _ (permits.0 c.if-not-all_same.false)) (list_from_zip _ _ (forbids.0 holds)),
      λ same. forbids.1 (zip_from_list _ _ (ap (λ (t : model.Terminal). t.forbids) same)),
    )
