use Rattle.std.proofs.Common.{◌≡◌, ◌+◌, Some, refl, sym, ap, ◌∙◌, add-one}
use Rattle.std.specs.List.{slice_get}
use Rattle.std.specs.Option.{option_copied, option_map}
use Rattle.network_model.specs.Cover.{entry_at}
use Rattle.path_table.specs.Entries.{entry_of}
use Rattle.plan_text.proofs.Lines.{entries_more}
use Rattle.plan_text.proofs.entries.put_entries.Goals as goal

pub loop-place-preserved : goal.loop-place-preserved
loop-place-preserved c =
    let found : option_map entry_of (option_copied c.entry.result) ≡ Some (entry_of c.unwrap-entry.result.now) = ap (λ o. option_map entry_of (option_copied o)) c.unwrap-entry.ensures in
    let number : entry_at c.args.table.now (c.loop-place.place + 1) ≡ slice_get c.args.table.now c.loop-place.place = rw add-one refl in
    rw c.in_ok-put_entry.ensures
    (entries_more c.args.table.now c.loop-place.place (entry_of c.unwrap-entry.result.now) c.loop-place.text.items _ (sym number ∙ sym c.entry.ensures ∙ found) c.loop-place.invariant)
