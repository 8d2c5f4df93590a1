use Rattle.std.proofs.Common.{◌<◌, ◌^◌, length, codes, ◌∙◌, arith}
use Rattle.std.specs.Fmt.{decimal}
use Rattle.std.proofs.lemmas.Result.{on_ok_weaker}
use Rattle.ternary_bits.specs.Letters.{pattern_text}
use Rattle.net_types.specs.Rules.{in_port, action}
use Rattle.net_text.specs.Printing.{in_word, out_words}
use Rattle.net_text.proofs.PutLines.{line_put}
use Rattle.net_text.proofs.spelling.put_rule.Goals as goal

pub returns : goal.returns
returns c =
    let rule = c.args.rule.now in
    let words = line_put c.args.text.now.items (codes "rule") (decimal rule.id) (decimal rule.«at») (decimal rule.priority) (in_word (in_port rule.inp)) (pattern_text rule.pattern) (out_words (action rule.action)) in
    let number : rule.id < 2 ^ 32 = omega (arith, c.get.ensures, c.get.type_inv) in
    let box : rule.«at» < 2 ^ 32 = omega (arith, c.get-2.ensures, c.get-2.type_inv) in
    let priority : rule.priority < 2 ^ 32 = omega arith in
    on_ok_weaker c.put-2.result
    (λ put. record {
      text =
          put
          ∙ rw (c.in_ok-put_out.ensures.text, c.in_ok-put_pattern.ensures.text, c.in_ok-put_in.ensures.text, c.in_ok-put_next_number-3.ensures.ok, c.in_ok-put_next_number-2.ensures.ok, c.in_ok-put_next_number.ensures.ok, c.in_ok-put.ensures.ok, c.get.ensures, c.get-2.ensures)
          words;
      spellable = record {
        number = number;
        box = box;
        priority = priority;
        inp = c.in_ok-put_in.ensures.spellable;
        pattern = c.in_ok-put_pattern.ensures.back;
        out = c.in_ok-put_out.ensures.spellable (length rule.pattern) c.requires;
      };
    })
    c.put-2.ensures.ok
