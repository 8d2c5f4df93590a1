use Rattle.std.proofs.Common.{ℕ, ap, ◌∙◌}
use Rattle.rand_pcg.specs.Lcg.{Lcg}
use Rattle.net_grow.proofs.Sequence.{first_word, first_rest}
use Rattle.net_grow.proofs.rules.draw.Goals as goal

pub returns-clause-word : goal.returns-clause-word
returns-clause-word c = ap (λ (p : ℕ × Lcg). p.0) c.next_word.ensures ∙ first_word c.args.words.now

pub returns-clause-rest : goal.returns-clause-rest
returns-clause-rest c = ap (λ (p : ℕ × Lcg). p.1) c.next_word.ensures ∙ first_rest c.args.words.now
