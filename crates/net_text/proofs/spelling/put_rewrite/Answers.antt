use Rattle.std.proofs.lemmas.Result.{on_ok_weaker}
use Rattle.net_text.specs.Spelled.{IsSpellableRewrite}
use Rattle.ternary_bits.proofs.Written.{rewrite-written}
use Rattle.net_text.proofs.spelling.put_rewrite.Goals as goal

pub returns-then-keeps_all-clause-spellable : goal.returns-then-keeps_all-clause-spellable
returns-then-keeps_all-clause-spellable c = record {
  some = c.keeps_all.ensures.range.0;
  few = c.keeps_all.ensures.range.1;
  within = c.keeps_all.ensures.within;
  back = rewrite-written c.args.rewrite.now c.keeps_all.ensures.range.0 c.keeps_all.ensures.range.1 c.keeps_all.ensures.within;
}

pub returns-clause-spellable : goal.returns-clause-spellable
returns-clause-spellable c =
    let can : IsSpellableRewrite c.args.rewrite.now = record {
      some = c.keeps_all.ensures.range.0;
      few = c.keeps_all.ensures.range.1;
      within = c.keeps_all.ensures.within;
      back = c.put-2.ensures.back;
    } in
    on_ok_weaker c.put-2.result (λ _. can) c.put-2.ensures.ok
