use Rattle.std.specs.Prelude.{option_map}
use Rattle.std.specs.String.{string_bytes}
use Rattle.std.proofs.Common.{◌≡◌, ◌+◌, [], ◌∷◌, ◌++◌, map, IfSome, sym, ap, ◌∙◌, subst}
use Rattle.std.specs.List.{slice_get}
use Rattle.std.proofs.lemmas.List.{map-append}
use Rattle.program_edges.specs.Arguments.{IsTaken}
use Rattle.program_edges.proofs.TakenWords.{AreTakenTo, none_told, more_told, all_told}
use Rattle.program_edges.proofs.given_words.arguments.Goals as goal

pub loop-i-init : goal.loop-i-init
loop-i-init g c =
    subst (λ l. IfSome (g.W.Words.words c.args.given.now) (λ all. AreTakenTo 0 all (map string_bytes l))) (sym c.new-words.ensures.items)
    (none_told (g.W.Words.words c.args.given.now))

pub loop-i-preserved : goal.loop-i-preserved
loop-i-preserved g c =
    let told = g.W.Words.words c.args.given.now in
    let i = c.loop-i.i in
    let words = map string_bytes c.loop-i.words.items in
    let text = string_bytes c.in_ok-word-in-Some.field-0 in
    let next : IfSome told (λ all. option_map (λ w. w.items) c.in_ok-bytes.field-0 ≡ slice_get all i) = c.in_ok-bytes.ensures in
    let is : IsTaken c.in-Some.bytes.items text = subst (λ b. IsTaken b text) c.deref.ensures.value c.in_ok-word-in-Some.ensures in
    let longer : map string_bytes c.push.new.self.items ≡ words ++ text ∷ [] =
    ap (λ l. map string_bytes l) c.in_ok-push-in-Some.ensures.items ∙ map-append string_bytes c.loop-i.words.items (c.in_ok-word-in-Some.field-0 ∷ []) in
    subst (λ l. IfSome told (λ all. AreTakenTo (i + 1) all l)) (sym longer)
    (more_told told i words c.in-Some.bytes.items text c.loop-i.invariant
    (subst (λ o. IfSome told (λ all. option_map (λ w. w.items) o ≡ slice_get all i)) c.in-Some.is next) is)

pub returns-in-None : goal.returns-in-None
returns-in-None g c =
    let told = g.W.Words.words c.args.given.now in
    let i = c.loop-i.i in
    let next : IfSome told (λ all. option_map (λ w. w.items) c.in_ok-bytes.field-0 ≡ slice_get all i) = c.in_ok-bytes.ensures in
    all_told told i (map string_bytes c.loop-i.words.items) c.loop-i.invariant
    (subst (λ o. IfSome told (λ all. option_map (λ w. w.items) o ≡ slice_get all i)) c.in-None.is next)
