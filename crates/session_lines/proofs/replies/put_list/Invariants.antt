use Rattle.std.proofs.Common.{◌≡◌, ◌∷◌, ◌++◌, drop}
use Rattle.std.specs.List.{flat_map}
use Rattle.std.specs.Fmt.{decimal}
use Rattle.text_lines.specs.Lines.{number_list}
use Rattle.session_lines.proofs.replies.put_list.Given as goal

-- with the numbers that are left behind commas, the text has the whole list
abbrev pub invariant-loop-rule : goal.invariant-loop-rule
invariant-loop-rule l = l.text.items ++ flat_map (λ n. 44 ∷ decimal n) (drop l.rule-index l.rest) ≡ l.fn.text.items ++ number_list l.rules
