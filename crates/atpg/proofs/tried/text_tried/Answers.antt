use Rattle.std.specs.Arc.{arc_value}
use Rattle.atpg.proofs.OutputLemmas.{tried_from_text}
use Rattle.atpg.proofs.tried.text_tried.Goals as goal

pub returns-in-Ok-clause-ok : goal.returns-in-Ok-clause-ok
returns-in-Ok-clause-ok g c = tried_from_text (arc_value c.args.net) c.args.asked.now c.in-Ok.text.items c.in-Ok.ensures.known c.in-Ok.ensures.text
