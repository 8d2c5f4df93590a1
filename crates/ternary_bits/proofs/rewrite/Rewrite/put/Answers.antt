use Rattle.std.proofs.Common.{◌≡◌, ◌∙◌, ◌++◌, ap, sym}
use Rattle.std.proofs.lemmas.Bool.{cond-true, cond-false}
use Rattle.std.proofs.lemmas.Result.{on_ok_weaker}
use Rattle.ternary_bits.specs.Letters.{letters_text}
use Rattle.ternary_bits.specs.Moves.{moving_text, rewrite_text}
use Rattle.ternary_bits.proofs.Reading.{rewrite-text}
use Rattle.ternary_bits.proofs.Moving.{still_stays, some_move}
use Rattle.ternary_bits.proofs.Written.{rewrite_back}
use Rattle.ternary_bits.proofs.rewrite.Rewrite.put.Goals as goal

pub returns-then-self-eq0-clause-ok : goal.returns-then-self-eq0-clause-ok
returns-then-self-eq0-clause-ok c =
    let r = c.self.inside in
    let still = still_stays r.bits r.set r.value r.moved r.sources c.args.self.now c.self.invariant c.self.view_is c.if-self-eq0.true in
    let word : letters_text c.args.self.now ≡ rewrite_text c.args.self.now = sym (cond-true _ _ _ still) in
    on_ok_weaker c.put_letters.result
    (λ is. is ∙ ap (λ word. c.args.text.now.items ++ word) (rewrite-text r.bits r.set r.value r.moved r.sources c.args.self.now c.self.invariant c.if-self-eq0.true c.self.view_is ∙ word))
    c.put_letters.ensures.ok

pub returns-then-self-eq0-clause-back : goal.returns-then-self-eq0-clause-back
returns-then-self-eq0-clause-back c =
    let r = c.self.inside in
    rewrite_back r.bits r.set r.value r.moved r.sources c.args.self.now c.self.invariant c.self.view_is

pub returns-then-is_err-clause-back : goal.returns-then-is_err-clause-back
returns-then-is_err-clause-back c =
    let r = c.self.inside in
    rewrite_back r.bits r.set r.value r.moved r.sources c.args.self.now c.self.invariant c.self.view_is

pub returns-else-is_err-clause-ok : goal.returns-else-is_err-clause-ok
returns-else-is_err-clause-ok c =
    let r = c.self.inside in
    let moves = some_move r.bits r.set r.value r.moved r.sources c.args.self.now c.self.invariant c.self.view_is c.if-self-eq0.false in
    let word : moving_text c.args.self.now ≡ rewrite_text c.args.self.now = sym (cond-false _ _ _ moves) in
    on_ok_weaker c.put_moves-done.result (λ is. is ∙ ap (λ word. c.args.text.now.items ++ word) word) c.put_moves-done.ensures.ok

pub returns-else-is_err-clause-back : goal.returns-else-is_err-clause-back
returns-else-is_err-clause-back c =
    let r = c.self.inside in
    rewrite_back r.bits r.set r.value r.moved r.sources c.args.self.now c.self.invariant c.self.view_is
