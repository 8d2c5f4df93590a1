use Rattle.std.proofs.Common.{◌∙◌, sym, ap, subst}
use Rattle.std.specs.Option.{option_copied_mut}
use Rattle.net_types.specs.Refusals.{Answers}
use Rattle.net_types.proofs.Maps.{lookup_entries}
use Rattle.net_types.proofs.Steps.{with_forbids, forbid_due, forbid_unknown, forbid_step_built, forbid_step_ok, forbid_step_err}
use Rattle.net_types.proofs.builder.NetBuilder.forbid.Goals as goal

pub returns-in_default-clause-answer : goal.returns-in_default-clause-answer
returns-in_default-clause-answer c =
    forbid_unknown c.self.inside _ c.args.t c.args.p c.self.view_is
    (sym (lookup_entries c.self.inside.terminals.entries c.args.t) ∙ sym c.get_mut.ensures.value ∙ ap option_copied_mut c.in_default.is)

pub returns-clause-answer : goal.returns-clause-answer
returns-clause-answer c =
    let here = sym (lookup_entries c.self.inside.terminals.entries c.args.t) ∙ sym c.get_mut.ensures.value ∙ ap option_copied_mut c.in-Some.is in
    subst (λ due. Answers c.add_pattern.result due) (sym (forbid_due c.self.inside _ c.args.t c.args.p c.in-Some.terminal.now c.self.view_is here)) c.add_pattern.ensures.answer

pub invariant_of-self-2 : goal.invariant_of-self-2
invariant_of-self-2 c =
    let here = sym (lookup_entries c.self.inside.terminals.entries c.args.t) ∙ sym c.get_mut.ensures.value ∙ ap option_copied_mut c.in-Some.is in
    let w = with_forbids c.in-Some.terminal.now c.add_pattern.new.patterns in
    forbid_step_built c.self.inside _ c.args.t c.args.p c.in-Some.terminal.now c.add_pattern.new.patterns (c.get_mut.follows.lender w) c.add_pattern.result c.self.view_is c.self.invariant here
    (c.get_mut.follows.holds w).0
    c.add_pattern.ensures.answer c.add_pattern.ensures.ok c.add_pattern.ensures.err

pub returns-clause-ok : goal.returns-clause-ok
returns-clause-ok c =
    let here = sym (lookup_entries c.self.inside.terminals.entries c.args.t) ∙ sym c.get_mut.ensures.value ∙ ap option_copied_mut c.in-Some.is in
    let w = with_forbids c.in-Some.terminal.now c.add_pattern.new.patterns in
    forbid_step_ok c.self.inside _ c.args.t c.args.p c.in-Some.terminal.now c.add_pattern.new.patterns (c.get_mut.follows.lender w) c.add_pattern.result c.self.view_is c.self.invariant here
    (c.get_mut.follows.holds w).0
    c.add_pattern.ensures.ok

pub returns-clause-err : goal.returns-clause-err
returns-clause-err c =
    let here = sym (lookup_entries c.self.inside.terminals.entries c.args.t) ∙ sym c.get_mut.ensures.value ∙ ap option_copied_mut c.in-Some.is in
    let w = with_forbids c.in-Some.terminal.now c.add_pattern.new.patterns in
    forbid_step_err c.self.inside _ c.args.t c.args.p c.in-Some.terminal.now c.add_pattern.new.patterns (c.get_mut.follows.lender w) c.add_pattern.result c.self.view_is c.self.invariant here
    (c.get_mut.follows.holds w).0
    c.add_pattern.ensures.err
