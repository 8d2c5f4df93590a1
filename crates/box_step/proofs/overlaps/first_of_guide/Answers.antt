use Rattle.std.proofs.Common.{List, ℕ, map, subst, Vec, Global}
use Rattle.std.proofs.lemmas.Result.{IfOk-weaker}
use Rattle.net_types.specs.declared.rule.Rule.{Rule}
use Rattle.box_step.specs.Overlaps.{AreFirst, AreFirstAt}
use Rattle.box_step.proofs.Listing.{first_all}
use Rattle.box_step.proofs.overlaps.first_of_guide.Goals as goal

pub returns : goal.returns
returns c =
    let rules : List Rule = c.args.guide.now.rules.items in
    let rule : Rule = c.args.rule.now in
    let patterns = map (λ (r : Rule). r.pattern) rules in
    let places : List ℕ = c.add_meeting.new.places.items in
    IfOk-weaker c.first_at.result
    (λ (numbers : Vec ℕ Global). AreFirstAt c.deref.result.now c.deref-2.result.now rule numbers.items)
    (λ (numbers : Vec ℕ Global). AreFirst rules rule numbers.items)
    (λ numbers first. first_all rules rule c.new-places.result.items places numbers.items (c.in_ok-add_meeting.ensures patterns c.requires.index)
    (subst (λ (rs : List Rule). AreFirstAt rs places rule numbers.items) c.deref.ensures.value
    (subst (λ (ps : List ℕ). AreFirstAt c.deref.result.now ps rule numbers.items) c.deref-2.ensures.value first)))
    c.first_at.ensures
