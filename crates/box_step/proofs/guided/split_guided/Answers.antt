use Rattle.std.proofs.lemmas.List.Elements.{All-contains}
use Rattle.box_step.specs.Guides.{IsGuide}
use Rattle.box_step.proofs.guided.split_guided.Goals as goal

pub split_by-requires-clause-guide : goal.split_by-requires-clause-guide
split_by-requires-clause-guide c =
    All-contains (IsGuide c.args.net.now) c.args.over.now.guides.items c.in-Some-guide_at.guide.now c.requires.over.guides c.in-Some-guide_at.ensures.0
