use Rattle.std.proofs.Common.{◌∷◌, ◌++◌, [], length, ap, ◌∙◌, subst, arith}
use Rattle.std.specs.List.{All}
use Rattle.std.proofs.lemmas.List.{length-append}
use Rattle.rule_cover.specs.declared.lists.Span.{Span}
use Rattle.rule_cover.specs.Spans.{IsWithin}
use Rattle.rule_cover.proofs.Spans.{one_list_more}
use Rattle.rule_cover.proofs.lists.PlaceLists.push.Goals as goal

pub returns : goal.returns
returns c =
    let inside = c.self.inside in
    let span : Span = record { start = c.len-start.result; end = c.len-end.result } in
    one_list_more inside.places.items c.args.list.now c.extend_from_slice.new.self.items inside.spans.items c.push.new.self.items span
    (subst (λ n. All (IsWithin n) inside.spans.items) inside.places.ok.0 c.self.invariant)
    (omega (arith, c.len-start.ensures, inside.places.ok.0))
    (omega (arith, c.len-end.ensures, c.extend_from_slice.new.self.ok.0, ap length c.in_ok-extend_from_slice.ensures.items, length-append inside.places.items c.args.list.now))
    c.in_ok-extend_from_slice.ensures.items c.in_ok-push.ensures.items
    ∙ ap (λ l. l ++ c.args.list.now ∷ []) c.self.view_is
