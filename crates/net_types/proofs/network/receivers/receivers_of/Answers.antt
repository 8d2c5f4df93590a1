use Rattle.std.proofs.Common.{rules, subst, sym, arith, ap, ◌∙◌, ◌≡◌, ◌++◌, [], ◌∷◌}
use Rattle.std.specs.List.{filter_map}
use Rattle.std.specs.List.Sorted.{IsPermutation}
use Rattle.std.proofs.lemmas.List.{take_all}
use Rattle.std.proofs.lemmas.List.Sorted.{IsNonDecreasingBy-from_sort_by_key}
use Rattle.net_types.specs.declared.network.Receiver.{Receiver}
use Rattle.net_types.specs.Tables.{receiving}
use Rattle.net_types.proofs.Receivers.{by_port_from_sort, more_taken, more_left}
use Rattle.net_types.proofs.network.receivers.receivers_of.Goals as goal
use Rattle.net_types.proofs.network.receivers.receivers_of.Goals.{then-receives+in_ok-push, else-receives}

pub returns : goal.returns
returns c =
    let before : c.loop-terminal.receivers.items ≡ filter_map receiving c.args.terminals.now = c.loop-terminal.invariant ∙ ap (filter_map receiving) (take_all c.loop-terminal.terminal-index c.args.terminals.now (omega arith)) in
    by_port_from_sort c.args.terminals.now c.sort_by_key.new.self.items c.requires
    (subst (λ l. IsPermutation l c.sort_by_key.new.self.items) before c.sort_by_key.ensures.permutation)
    (IsNonDecreasingBy-from_sort_by_key (λ (r : Receiver). r.port) _ c.in_ok-sort_by_key.ensures.sorted (λ a r f called. search rules))

pub loop-terminal-preserved : goal.loop-terminal-preserved
loop-terminal-preserved c =
    let ts = c.args.terminals.now in
    let i = c.loop-terminal.terminal-index in
    let t = c.terminal-item.result in
    elim c.if-receives.branch [
      | then-receives+in_ok-push w ↦
          rw w.receivers-is (w.in_ok-push.ensures.items ∙ ap (λ l. l ++ record { port = t.port; term = t.id } ∷ []) c.loop-terminal.invariant
          ∙ sym (more_taken ts i t c.loop-terminal-test.true c.terminal-item.is (sym c.receives.ensures ∙ w.if-receives.true)))
      | else-receives w ↦
          rw w.receivers-is (c.loop-terminal.invariant
          ∙ sym (more_left ts i t c.loop-terminal-test.true c.terminal-item.is (sym c.receives.ensures ∙ w.if-receives.false)))
    ]
