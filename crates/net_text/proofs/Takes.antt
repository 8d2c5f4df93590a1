-- Declarations that a network takes one after another, none refused.
--     TakesAll         what the network has taken in the end
--     TakesAll-append  some, and then others
use Rattle.std.proofs.Common.{◌≡◌, List, [], ◌∷◌, ◌++◌, None, sym, subst}
use Rattle.network_model.specs.Network.{Network}
use Rattle.net_text.specs.Declarations.{Declaration}
use Rattle.net_text.specs.Text.{declare}
use Rattle.net_text.specs.Building.{due}

abbrev pub TakesAll : Network → List Declaration → Network → Type 0
TakesAll net [] last = net ≡ last
TakesAll net (d ∷ ds) last = (due net d ≡ None) × TakesAll (declare net d) ds last

pub TakesAll-append : (net mid last : Network) (ds es : List Declaration) → TakesAll net ds mid → TakesAll mid es last → TakesAll net (ds ++ es) last
TakesAll-append net mid last [] es first more = let P : Network → Type 0 = λ n. TakesAll n es last in subst P (sym first) more
TakesAll-append net mid last (d ∷ ds) es first more = (first.0, TakesAll-append (declare net d) mid last ds es first.1 more)
