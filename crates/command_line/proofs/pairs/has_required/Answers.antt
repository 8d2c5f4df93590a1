use Rattle.std.specs.List.{slice_get}
use Rattle.std.specs.Option.{is_some}
use Rattle.std.specs.String.{string_bytes}
use Rattle.std.proofs.Common.{[], slice_index_or, refl, ◌≡◌, ◌+◌, ℕ, true, List, Option, Some, None, IfSome, map, ap, sym, ◌∙◌, arith}
use Rattle.command_line.specs.declared.name.Name.{Name}
use Rattle.command_line.specs.declared.name.Value.TheVariants.{Number}
use Rattle.command_line.specs.Table.{Named, named, IsRequired, IsGiven}
use Rattle.command_line.proofs.Places.{there_at, and_here, of_all, where_some, where_none}
use Rattle.command_line.proofs.pairs.has_required.Goals.{else-is_required-via-then-is_required+else-is_none, else-is_required-via-else-is_required}
use Rattle.command_line.proofs.pairs.has_required.Goals as goal

abbrev no_name : Name
no_name = record { word = record { ref_ptr = (0, 0); now = [] }; value = Number 0 0 None }

pub loop-name-init : goal.loop-name-init
loop-name-init c = λ k x less at. absurd (omega arith)

pub returns-then-is_none : goal.returns-then-is_none
returns-then-is_none c = (
  λ no. absurd (cc),
  λ all. absurd
      (where_none (IsGiven (map string_bytes c.args.words.now) (slice_index_or c.args.names.now c.loop-name.name-index no_name).word.now → ⊥) c.place_of.result c.if-is_none.ensures c.place_of.ensures.none
      (all _ (there_at named c.args.names.now c.loop-name.name-index no_name c.loop-name-test.true) (c.is_required.ensures.0 c.if-is_required.true))),
)

given_by_place : (words : List (List ℕ)) (word : List ℕ) (o : Option ℕ) → is_some o ≡ true → IfSome o (λ at. (j : ℕ) × (at ≡ j + j) × (slice_get words at ≡ Some word)) → IsGiven words word
given_by_place words word o some is =
    let (at, (j, place, stands)) = where_some (λ at. (j : ℕ) × (at ≡ j + j) × (slice_get words at ≡ Some word)) o some is in
    (j, ap (λ i. slice_get words i) (sym place) ∙ stands)

pub loop-name-preserved : goal.loop-name-preserved
loop-name-preserved c =
    let words = map string_bytes c.args.words.now in
    let x = slice_index_or c.args.names.now c.loop-name.name-index no_name in
    and_here (λ (n : Name). IsRequired n.value → IsGiven words n.word.now) c.args.names.now c.loop-name.name-index no_name c.loop-name.invariant
    (elim c.else-is_required.branch [
      | else-is_required-via-then-is_required+else-is_none w ↦ λ must. given_by_place words x.word.now w.place_of.result w.if-is_none.ensures w.place_of.ensures.some
      | else-is_required-via-else-is_required w ↦ λ must. let yes = c.is_required.ensures.1 must in let no = w.if-is_required.false in absurd (cc)
    ])

pub returns : goal.returns
returns c = (
  λ yes. of_all named (λ (n : Named). IsRequired n.value → IsGiven (map string_bytes c.args.words.now) n.word) c.args.names.now c.loop-name.name-index c.loop-name.invariant (omega arith),
  λ all. refl,
)
