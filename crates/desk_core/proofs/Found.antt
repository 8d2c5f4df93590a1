-- The round that is found by its number among those that are kept.
--     found_open     it is open
--     found_none     where none is found, it is not
use Rattle.std.specs.Prelude.{◌≡◌, ℕ, ◌<◌, ◌==◌, Bool, true, false, List, length, map, None, Some, slice_index_or, Contains}
use Rattle.std.specs.List.{position, range_with_len}
use Rattle.std.proofs.Common.{refl, sym, ◌∙◌, subst}
use Rattle.std.proofs.lemmas.Bool.{eqb-true, eq-eqb}
use Rattle.std.proofs.lemmas.List.Elements.{Contains-get_or}
use Rattle.std.proofs.lemmas.List.Quantifiers.{position-Some}
use Rattle.std.proofs.lemmas.Iterator.Adapters.{position_from-zero}
use Rattle.list_laws.proofs.Members.{Contains-map, Contains-from_map, Contains-filter, passes_of}
use Rattle.desk_core.specs.Past.{Past}
use Rattle.desk_core.specs.Rounds.{openings, is_open, open_rounds}
use Rattle.desk_core.specs.RoundsValue.{RoundValue}
use Rattle.desk_core.proofs.Items.{position_from-none, range_contains}
use Rattle.desk_core.proofs.Opened.{open_inside}

abbrev pub has_number : ℕ → RoundValue → Bool
has_number round r = r.number == round

abbrev pub number_of : RoundValue → ℕ
number_of r = r.number

pub record IsFound (past : Past) (kept : List RoundValue) (round i : ℕ) : Type 0 where
  pub inside : i < length kept
  pub number : (d : RoundValue) → (slice_index_or kept i d).number ≡ round
  pub there : is_open past round ≡ true

-- a number among those of the rounds that are kept
pub kept_open : (past : Past) (kept : List RoundValue) → map number_of kept ≡ open_rounds past → (round : ℕ) → Contains (map number_of kept) round → is_open past round ≡ true
kept_open past kept numbers round c =
    let P : List ℕ → Type 0 = λ l. Contains l round in
    passes_of (is_open past) (range_with_len 1 (length (openings past))) round (subst P numbers c)

pub number_contained : (kept : List RoundValue) (i : ℕ) (d : RoundValue) → i < length kept → Contains (map number_of kept) (slice_index_or kept i d).number
number_contained kept i d l = Contains-map number_of kept (slice_index_or kept i d) (Contains-get_or kept i d l)

pub found_open : (past : Past) (kept : List RoundValue) → map number_of kept ≡ open_rounds past → (round i : ℕ) → (d : RoundValue) → position (has_number round) kept ≡ Some i → IsFound past kept round i
found_open past kept numbers round i d h =
    let at = λ (d : RoundValue). position-Some (has_number round) kept i d h in
    let number = λ (d : RoundValue). eqb-true (slice_index_or kept i d).number round (at d).1 in
    let P : ℕ → Type 0 = λ n. Contains (map number_of kept) n in
    record {
      inside = (at d).0;
      number = number;
      there = kept_open past kept numbers round (subst P (number d) (number_contained kept i d (at d).0));
    }

open_contained : (past : Past) (kept : List RoundValue) → map number_of kept ≡ open_rounds past → (round : ℕ) → is_open past round ≡ true → Contains (map number_of kept) round
open_contained past kept numbers round there =
    let inside = open_inside past round there in
    let P : List ℕ → Type 0 = λ l. Contains l round in
    subst P (sym numbers) (Contains-filter (is_open past) (range_with_len 1 (length (openings past))) round (range_contains (length (openings past)) round inside.0 inside.1) there)

found_no : (past : Past) (kept : List RoundValue) → map number_of kept ≡ open_rounds past → (round : ℕ) → position (has_number round) kept ≡ None
    → (b : Bool) → is_open past round ≡ b → b ≡ false
found_no past kept numbers round h true there =
    let one = Contains-from_map number_of kept round (open_contained past kept numbers round there) in
    let none = position_from-none (has_number round) 0 kept (sym (position_from-zero (has_number round) kept) ∙ h) one.0 one.1.0 in
    let yes = eq-eqb one.0.number round one.1.1 in
    sym yes ∙ none
found_no past kept numbers round h false there = refl

pub found_none : (past : Past) (kept : List RoundValue) → map number_of kept ≡ open_rounds past → (round : ℕ) → position (has_number round) kept ≡ None → is_open past round ≡ false
found_none past kept numbers round h = found_no past kept numbers round h (is_open past round) refl
