use Rattle.std.proofs.Common.{◌≡◌, ◌++◌, List, [], ◌∷◌, Bool, true, map, sym, ap, ◌∙◌}
use Rattle.std.specs.List.{filter}
use Rattle.std.proofs.lemmas.List.{take_all}
use Rattle.list_laws.proofs.Members.{filter-map}
use Rattle.path_table.specs.Entries.{entry_of, starts_among}
use Rattle.path_table.specs.declared.entry.Entry.{Entry}
use Rattle.path_table.proofs.Among.{among, passed, passed_over}
use Rattle.path_table.proofs.table.Table.starting_at.Goals as goal
use Rattle.path_table.proofs.table.Table.starting_at.Goals.{then-is_among+in_ok-copy+in_ok-push, else-is_among}

pub loop-entry-preserved : goal.loop-entry-preserved
loop-entry-preserved c =
    let items : List Entry = c.deref-entry-items.result.now in
    let terminals = c.args.terminals.now in
    let some = c.loop-entry.some.items in
    let i = c.loop-entry.entry-index in
    let e : Entry = c.entry-item.result in
    let kept = c.loop-entry.invariant.kept in
    let test : Entry → Bool = λ (e : Entry). starts_among terminals (entry_of e) in
    elim c.if-is_among.branch [
      | then-is_among+in_ok-copy+in_ok-push w ↦
          let is : starts_among terminals (entry_of e) ≡ true = sym c.is_among.ensures ∙ w.if-is_among.true in
          rw (w.some-is, w.latest-is) (record {
            kept =
                w.in_ok-push.ensures.items ∙ ap (λ (x : Entry). some ++ x ∷ []) w.in_ok-copy.ensures
                ∙ passed test items some i e c.loop-entry-test.true c.entry-item.is kept is;
            latest = (among terminals e.«from»).0 is;
          })
      | else-is_among w ↦
          rw (w.some-is, w.latest-is) (record {
            kept = passed_over test items some i e c.loop-entry-test.true c.entry-item.is kept (sym c.is_among.ensures ∙ w.if-is_among.false);
            latest = c.loop-entry.invariant.latest;
          })
    ]

pub returns : goal.returns
returns c =
    let items : List Entry = c.deref-entry-items.result.now in
    let terminals = c.args.terminals.now in
    ap (map entry_of) (c.loop-entry.invariant.kept ∙ ap (filter (λ (e : Entry). starts_among terminals (entry_of e))) (take_all c.loop-entry.entry-index items c.loop-entry-test.false ∙ c.deref-entry-items.ensures.value))
    ∙ sym (filter-map entry_of (starts_among terminals) c.self.inside.entries.items) ∙ ap (filter (starts_among terminals)) c.self.view_is
