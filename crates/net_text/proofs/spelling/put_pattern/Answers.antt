use Rattle.std.proofs.lemmas.Result.{on_ok_weaker}
use Rattle.net_text.proofs.spelling.put_pattern.Goals as goal

pub returns-clause-back : goal.returns-clause-back
returns-clause-back c = on_ok_weaker c.put-2.result (λ _. c.put-2.ensures.back) c.put-2.ensures.ok
