-- Doors opened one after another.
use Rattle.std.proofs.Common.{◌≡◌, List, [], ◌∷◌, ◌++◌, Option, refl, subst}
use Rattle.byte_edges.specs.Opening.{GivesNext}
use Rattle.atpgd.specs.Doors.{AreOpened}

module _ {D : Type 0} where
  -- one more door
  pub opened_more : (before between after : Option (List D)) (doors : List D) (door : D) → AreOpened before doors between → GivesNext between after door → AreOpened before (doors ++ door ∷ []) after
  opened_more before between after [] door same gives = (after, subst (λ (o : Option (List D)). GivesNext o after door) same gives, refl)
  opened_more before between after (first ∷ doors) door (next, gave, rest) gives = (next, gave, opened_more next between after doors door rest gives)
