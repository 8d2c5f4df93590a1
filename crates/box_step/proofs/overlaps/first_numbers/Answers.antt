use Rattle.std.proofs.Common.{◌∙◌, ℕ, sym, refl, Vec, Global}
use Rattle.std.proofs.lemmas.List.Elements.{All-contains}
use Rattle.std.proofs.lemmas.Result.{IfOk-weaker}
use Rattle.network_model.specs.Network.{Numbered}
use Rattle.network_model.specs.WellFormed.{FitsRule}
use Rattle.net_types.specs.Rules.{numbered}
use Rattle.box_step.specs.Guides.{IsTried, IsGuide}
use Rattle.box_step.specs.Overlaps.{AreFirst, AreFirstIn}
use Rattle.box_step.proofs.Listing.{first_in}
use Rattle.box_step.proofs.overlaps.first_numbers.Goals as goal

pub first_of_guide-requires-clause-widths : goal.first_of_guide-requires-clause-widths
first_of_guide-requires-clause-widths c k d inside =
    let is = All-contains (IsGuide c.args.net.now) c.args.guides.now c.in-Some.guide.now c.requires.guides c.in-Some.ensures.0 in
    let own = All-contains (λ (r : Numbered). FitsRule c.args.net.now r.1) c.args.net.now.rules (numbered c.args.rule.now) c.bits-rises.ensures.well_formed.ruled c.requires.rule in
    (is.tried.fit k d inside).pattern ∙ sym own.pattern

pub first_of_guide-requires-clause-width : goal.first_of_guide-requires-clause-width
first_of_guide-requires-clause-width c =
    let is = All-contains (IsGuide c.args.net.now) c.args.guides.now c.in-Some.guide.now c.requires.guides c.in-Some.ensures.0 in
    let own = All-contains (λ (r : Numbered). FitsRule c.args.net.now r.1) c.args.net.now.rules (numbered c.args.rule.now) c.bits-rises.ensures.well_formed.ruled c.requires.rule in
    is.width ∙ sym own.pattern

pub first_of_guide-requires-clause-index : goal.first_of_guide-requires-clause-index
first_of_guide-requires-clause-index c =
    (All-contains (IsGuide c.args.net.now) c.args.guides.now c.in-Some.guide.now c.requires.guides c.in-Some.ensures.0).patterns

pub first_among-requires : goal.first_among-requires
first_among-requires c k d inside =
    let own = All-contains (λ (r : Numbered). FitsRule c.args.net.now r.1) c.args.net.now.rules (numbered c.args.rule.now) c.bits-rises.ensures.well_formed.ruled c.requires.rule in
    (c.rules_at.ensures.fit k d inside).pattern ∙ sym own.pattern

pub returns-in-Some : goal.returns-in-Some
returns-in-Some c =
    let guide = c.in-Some.guide.now in
    let is = All-contains (IsGuide c.args.net.now) c.args.guides.now guide c.requires.guides c.in-Some.ensures.0 in
    IfOk-weaker c.first_of_guide.result
    (λ (numbers : Vec ℕ Global). AreFirst guide.rules.items c.args.rule.now numbers.items)
    (λ (numbers : Vec ℕ Global). AreFirstIn c.args.net.now (numbered c.args.rule.now) numbers.items)
    (λ numbers first. first_in c.args.net.now guide.«at» guide.rules.items c.args.rule.now numbers.items is.tried (sym c.in-Some.ensures.1) first)
    c.first_of_guide.ensures

pub returns-in-None : goal.returns-in-None
returns-in-None c =
    let tried : IsTried c.args.net.now c.args.rule.now.«at» c.rules_at.result.now = record {
      first = c.rules_at.ensures.first;
      all = λ rule contained. (c.rules_at.ensures.all rule).0 contained;
      every = λ rule contained same. (c.rules_at.ensures.all rule).1 (contained, same);
      order = c.rules_at.ensures.order;
      fit = c.rules_at.ensures.fit;
    } in
    IfOk-weaker c.first_among.result
    (λ (numbers : Vec ℕ Global). AreFirst c.rules_at.result.now c.args.rule.now numbers.items)
    (λ (numbers : Vec ℕ Global). AreFirstIn c.args.net.now (numbered c.args.rule.now) numbers.items)
    (λ numbers first. first_in c.args.net.now c.args.rule.now.«at» c.rules_at.result.now c.args.rule.now numbers.items tried refl first)
    c.first_among.ensures
