use Rattle.std.proofs.Common.{◌≡◌, ◌∙◌, ℕ, List, map, eqb, Some, sym, ap, subst}
use Rattle.std.specs.List.{find}
use Rattle.std.specs.List.Sorted.{IsStrictlyIncreasing}
use Rattle.net_types.proofs.Rows.{found_at, found_nowhere}
use Rattle.box_step.specs.declared.lists.Listed.{Listed}
use Rattle.box_step.proofs.lists.Lists.of_rule.Goals as goal

moved : (rows items : List Listed) (number id : ℕ) → rows ≡ items → number ≡ id → find (λ (row : Listed). eqb row.rule number) rows ≡ find (λ (row : Listed). eqb row.rule id) items
moved rows items number id same_rows same = ap (λ (n : ℕ). find (λ (row : Listed). eqb row.rule n) rows) same ∙ ap (λ (rs : List Listed). find (λ (row : Listed). eqb row.rule id) rs) same_rows

pub returns-in-Ok : goal.returns-in-Ok
returns-in-Ok c =
    let key : Listed → ℕ = λ row. row.rule in
    let rows : List Listed = c.as_slice-rows.result.now in
    let rising : IsStrictlyIncreasing (map key rows) = subst (λ (rs : List Listed). IsStrictlyIncreasing (map key rs)) (sym c.as_slice-rows.ensures.value) c.args.self.now.rising in
    ap (λ (x : Listed). Some x) c.index-rows-place.is
    ∙ sym (found_at key rows rising c.get.result c.in-Ok.place c.index-rows-place.result c.in-Ok.ensures.found)
    ∙ moved rows c.args.self.now.rows.items c.get.result c.args.id c.as_slice-rows.ensures.value c.get.ensures

pub returns-in-Err : goal.returns-in-Err
returns-in-Err c =
    let key : Listed → ℕ = λ row. row.rule in
    let rows : List Listed = c.as_slice-rows.result.now in
    sym (found_nowhere key rows c.get.result c.in-Err.field-0 c.in-Err.ensures.gap)
    ∙ moved rows c.args.self.now.rows.items c.get.result c.args.id c.as_slice-rows.ensures.value c.get.ensures
