use Rattle.std.proofs.Common.{◌∙◌, ap, sym}
use Rattle.std.specs.Option.{option_map, option_copied}
use Rattle.box_step.specs.declared.lists.Listed.{Listed}
use Rattle.box_step.proofs.Listing.{value_listed}
use Rattle.box_step.proofs.overlaps.Overlaps.preceding.Goals as goal

pub returns-in-None : goal.returns-in-None
returns-in-None c =
    ap (λ r. option_map (λ (list : Listed). list.preceding) (option_copied r)) (sym c.in-None.is)
    ∙ ap (λ o. option_map (λ (list : Listed). list.preceding) o) c.of_rule.ensures
    ∙ value_listed c.args.self.now.lists.rows.items c.args.id

pub returns-in-Some : goal.returns-in-Some
returns-in-Some c =
    ap (λ r. option_map (λ (list : Listed). list.preceding) (option_copied r)) (sym c.in-Some.is)
    ∙ ap (λ o. option_map (λ (list : Listed). list.preceding) o) c.of_rule.ensures
    ∙ value_listed c.args.self.now.lists.rows.items c.args.id
