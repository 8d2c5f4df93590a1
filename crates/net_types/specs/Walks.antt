-- What lies behind a port, and how a walk ends, of the code as of the model; and a walk behind rules met before.
use Rattle.std.specs.Prelude.{ℕ, List, ◌++◌}
use Rattle.net_types.specs.declared.walk.Next.{Next}
use Rattle.net_types.specs.declared.walk.Next.TheVariants.{Term, Far, Nothing}
use Rattle.net_types.specs.declared.walk.End.{End}
use Rattle.net_types.specs.declared.walk.End.TheVariants.{Delivered, Unmatched, Dropped, Lost, Overlong}
use Rattle.network_model.specs.Walk as model

abbrev pub next_of : Next → model.Next
next_of (Term term) = model.Term term
next_of (Far port) = model.Far port
next_of Nothing = model.Nothing

abbrev pub end_of : End → model.End
end_of (Delivered term header) = model.Delivered term header
end_of Unmatched = model.Unmatched
end_of (Dropped rule) = model.Dropped rule
end_of (Lost port) = model.Lost port
end_of Overlong = model.Overlong

abbrev pub after_rules : List ℕ → model.Walk → model.Walk
after_rules rules rest = record { rules = rules ++ rest.rules; end = rest.end }
