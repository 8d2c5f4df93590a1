use Rattle.std.proofs.Common.{◌≡◌, ◌-◌, ◌<◌, arith, ap, sym, ◌∙◌, map}
use Rattle.std.proofs.lemmas.Grind.{common_steps}
use Rattle.std.proofs.lemmas.Option.{gets, slice_get-map}
use Rattle.std.specs.List.{slice_get}
use Rattle.std.specs.Option.{option_copied}
use Rattle.network_model.specs.Cover.{entry_at}
use Rattle.path_table.specs.Entries.{entry_of}
use Rattle.path_table.proofs.Ordered.{entry_at_place}
use Rattle.path_table.proofs.table.Table.entry.Goals as goal

pub returns-in_default : goal.returns-in_default
returns-in_default c =
    let items = c.self.inside.entries.items in
    let e : option_copied c.get.result ≡ slice_get items (c.args.n - 1) = grind (arith, common_steps, gets) in
    let positive : 0 < c.args.n = omega arith in
    rw e (sym (slice_get-map entry_of items (c.args.n - 1)) ∙ sym (entry_at_place (map entry_of items) c.args.n positive) ∙ ap (λ table. entry_at table c.args.n) c.self.view_is)
