-- What doors and lines say of themselves.
--     DoorSide     of a door: its lines that are left and those given back, where it tells them, and its counts
--     LineSides    of lines: what is left to read and what was taken, where they tell it, and their counts
--     HasGiven     a door gave these lines and took those back, in order
--     AreOpened    these doors were opened one after another
use Rattle.std.specs.Prelude.{◌≡◌, ℕ, List, [], ◌∷◌, ◌++◌, length, Option, option_map}
use Rattle.byte_edges.specs.Counts.{raised}
use Rattle.byte_edges.specs.Opening.{GivesNext}

pub record DoorSide (L : Type 0) : Type 0 where
  pub lines : Option (List L)
  pub back : Option (List L)
  -- how often it failed, how many lines it gave, and how many answers were None
  pub faults : ℕ
  pub given : ℕ
  pub shut : ℕ

abbrev pub door_side : {D L : Type 0} → (D → Option (List L)) → (D → Option (List L)) → (D → ℕ) → (D → ℕ) → (D → ℕ) → D → DoorSide L
door_side lines back faults given shut door = record { lines = lines door; back = back door; faults = faults door; given = given door; shut = shut door }

pub record LineSides (L : Type 0) : Type 0 where
  pub left : L → Option (List ℕ)
  pub given : L → ℕ
  pub ends : L → ℕ
  pub read_faults : L → ℕ
  pub taken : L → Option (List ℕ)
  pub write_faults : L → ℕ

abbrev pub line_sides : {L : Type 0} → (L → Option (List ℕ)) → (L → ℕ) → (L → ℕ) → (L → ℕ) → (L → Option (List ℕ)) → (L → ℕ) → LineSides L
line_sides left given ends read_faults taken write_faults = record { left = left; given = given; ends = ends; read_faults = read_faults; taken = taken; write_faults = write_faults }

pub record HasGiven {L : Type 0} (before after : DoorSide L) (came gone : List L) : Type 0 where
  pub lines : before.lines ≡ option_map (λ rest. came ++ rest) after.lines
  pub back : after.back ≡ option_map (λ earlier. earlier ++ gone) before.back
  pub given : after.given ≡ raised before.given (length came)

abbrev pub AreOpened : {D : Type 0} → Option (List D) → List D → Option (List D) → Type 0
AreOpened before [] after = after ≡ before
AreOpened before (door ∷ doors) after = (next : Option (List _)) × GivesNext before next door × AreOpened next doors after
