-- The items that the code knows, as those of the model.
use Rattle.network_model.specs.Rewrites as model
use Rattle.std.specs.Prelude.{true, false}
use Rattle.ternary_bits.specs.declared.item.Item.{Item}
use Rattle.ternary_bits.specs.declared.item.Item.TheVariants.{Zero, One, Old}

abbrev pub item_of : Item → model.Item
item_of Zero = model.Set false
item_of One = model.Set true
item_of (Old place) = model.Old place
