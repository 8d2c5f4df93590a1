use Rattle.std.proofs.Common.{◌≡◌, ◌++◌, ap, ◌∙◌}
use Rattle.net_text.specs.Printing.{head_line, declared_lines, declared_by, network_text}
use Rattle.net_text.specs.Putting.{PutsAll}
use Rattle.net_text.proofs.Printed.{PutsAll-append, read_back}
use Rattle.net_text.proofs.printing.print.Goals as goal
use Rattle.net_text.proofs.printing.print.Goals.{In_ok-put_rules}

-- all lines behind the head
lines : (c : In_ok-put_rules) → PutsAll c.put_head.new.text.items c.put_rules.new.text.items (declared_by c.args.net.now)
lines c =
    PutsAll-append _ _ _ _ _ c.in_ok-put_boxes.ensures
    (PutsAll-append _ _ _ _ _ c.in_ok-put_ports.ensures
    (PutsAll-append _ _ _ _ _ c.in_ok-put_links.ensures
    (PutsAll-append _ _ _ _ _ c.in_ok-put_terminals.ensures
    (PutsAll-append _ _ _ _ _ c.in_ok-put_permits.ensures
    (PutsAll-append _ _ _ _ _ c.in_ok-put_forbids.ensures c.in_ok-put_rules.ensures)))))

whole : (c : In_ok-put_rules) → c.put_rules.new.text.items ≡ network_text c.args.net.now
whole c =
    (lines c).text
    ∙ ap (λ t. t ++ declared_lines (declared_by c.args.net.now))
    (c.in_ok-put_head.ensures ∙ ap (λ t. t ++ head_line c.bits.result) c.new-text.ensures.items ∙ ap head_line c.bits.ensures.width)

pub returns-clause-text : goal.returns-clause-text
returns-clause-text c = whole c

pub returns-clause-back : goal.returns-clause-back
returns-clause-back c = read_back c.args.net.now c.put_rules.new.text.items c.bits.ensures.well_formed c.bits.ensures.within (lines c).spellable (whole c)
