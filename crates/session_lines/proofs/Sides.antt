-- What a line keeps of itself when it is read, and when it is written.
--     sink_stays, source_stays    of its other side
--     gave_kept, gave_then        the bytes that it gave, then and later
--     taken_on, taken_end         all that a session says of its source
use Rattle.std.proofs.Common.{◌≡◌, ℕ, ◌<◌, ◌≤◌, true, false, List, [], ◌∷◌, ◌++◌, length, Option, Some, None, refl, sym, ap, ◌∙◌, arith, append-nil, length-append}
use Rattle.std.specs.Prelude.{IfSome}
use Rattle.std.specs.Io.KnownBytes.{prepend_known}
use Rattle.byte_edges.specs.Reading.{Gave, GaveMore}
use Rattle.byte_edges.specs.Sides.{SinkSide, SourceSide}
use Rattle.byte_edges.specs.Counts.{raised}
use Rattle.byte_edges.proofs.Given.{gave_both, raised_none}
use Rattle.session_lines.specs.Sessions.{most_bytes, IsTaken}

module _ {L : Type 0} (beside : L → SinkSide) (taken : L → Option (List ℕ)) (faults : L → ℕ) (keeps : (line : L) → beside line ≡ record { taken = taken line; faults = faults line }) where
  abbrev as_sink : L → SinkSide
  as_sink line = record { taken = taken line; faults = faults line }

  sink_sides : (before after : L) → beside after ≡ beside before → as_sink after ≡ as_sink before
  sink_sides before after h = sym (keeps after) ∙ h ∙ keeps before

  pub taken_stays : (before after : L) → beside after ≡ beside before → taken after ≡ taken before
  taken_stays before after h = ap (λ (s : SinkSide). s.taken) (sink_sides before after h)

  pub sink_faults_stay : (before after : L) → beside after ≡ beside before → faults after ≡ faults before
  sink_faults_stay before after h = ap (λ (s : SinkSide). s.faults) (sink_sides before after h)

module _ {L : Type 0} (beside : L → SourceSide) (left : L → Option (List ℕ)) (faults given ends : L → ℕ) (keeps : (line : L) → beside line ≡ record { left = left line; faults = faults line; given = given line; ends = ends line }) where
  abbrev as_source : L → SourceSide
  as_source line = record { left = left line; faults = faults line; given = given line; ends = ends line }

  source_sides : (before after : L) → beside after ≡ beside before → as_source after ≡ as_source before
  source_sides before after h = sym (keeps after) ∙ h ∙ keeps before

  pub left_stays : (before after : L) → beside after ≡ beside before → left after ≡ left before
  left_stays before after h = ap (λ (s : SourceSide). s.left) (source_sides before after h)

  pub source_faults_stay : (before after : L) → beside after ≡ beside before → faults after ≡ faults before
  source_faults_stay before after h = ap (λ (s : SourceSide). s.faults) (source_sides before after h)

  pub given_stays : (before after : L) → beside after ≡ beside before → given after ≡ given before
  given_stays before after h = ap (λ (s : SourceSide). s.given) (source_sides before after h)

  pub ends_stay : (before after : L) → beside after ≡ beside before → ends after ≡ ends before
  ends_stay before after h = ap (λ (s : SourceSide). s.ends) (source_sides before after h)

module _ {S : Type 0} (left : S → Option (List ℕ)) (given : S → ℕ) where
  -- nothing was read since
  pub gave_kept : (before between after : S) (bytes : List ℕ) → Gave left given before between bytes → left after ≡ left between → given after ≡ given between → Gave left given before after bytes
  gave_kept before between after bytes gave same_left same_given = record {
    front = gave.front ∙ ap (λ (told : Option (List ℕ)). prepend_known bytes told) (sym same_left);
    counted = same_given ∙ gave.counted;
  }

  pub gave_then : (before between after : S) (bytes old new : List ℕ) (n : ℕ) → Gave left given before between bytes → (more : GaveMore left given between after old new n) → Gave left given before after (bytes ++ more.piece)
  gave_then before between after bytes old new n gave more = gave_both left given before between after bytes more.piece gave more.gave

nil_of : (bytes : List ℕ) → length bytes ≡ 0 → bytes ≡ []
nil_of [] h = refl
nil_of (b ∷ bytes) h = absurd (omega arith)

-- nothing is left once some were asked for and none was given
left_empty : (piece : List ℕ) (old new : Option (List ℕ)) → IfSome old (λ told. told ≡ []) → old ≡ prepend_known piece new → IfSome new (λ told. told ≡ [])
left_empty piece old None empty is = tt
left_empty piece None (Some bytes) empty is = cc
left_empty piece (Some told) (Some bytes) empty is =
    let same : told ≡ piece ++ bytes = cc in
    let none : piece ++ bytes ≡ [] = sym same ∙ empty in
    nil_of bytes (omega (arith, ap length none, length-append piece bytes))

module _ {S : Type 0} (left : S → Option (List ℕ)) (given ends : S → ℕ) where
  -- the source is not at its end, or not known to be
  pub taken_on : (before after : S) (bytes : List ℕ) → Gave left given before after bytes → length bytes ≤ most_bytes → ends after ≡ ends before → IsTaken left given ends before after bytes false
  taken_on before after bytes gave within same = record {
    gave = gave;
    within = within;
    ended = same ∙ raised_none (ends before);
    nothing_left = λ (h : false ≡ true). cc;
    room = λ (h : false ≡ true). cc;
  }

  pub taken_end : (before after : S) (bytes : List ℕ) → Gave left given before after bytes → length bytes < most_bytes → ends after ≡ raised (ends before) 1 → IfSome (left after) (λ told. told ≡ []) → IsTaken left given ends before after bytes true
  taken_end before after bytes gave room once empty = record {
    gave = gave;
    within = omega arith;
    ended = once;
    nothing_left = λ h. empty;
    room = λ h. room;
  }

  pub empty_after : (between after : S) (old new : List ℕ) (n : ℕ) → IfSome (left between) (λ told. told ≡ []) → GaveMore left given between after old new n → IfSome (left after) (λ told. told ≡ [])
  empty_after between after old new n empty more = left_empty more.piece (left between) (left after) empty more.gave.front

  -- a read of no bytes leaves what is pending
  pub none_more : (between after : S) (old new : List ℕ) (n : ℕ) → GaveMore left given between after old new n → n ≡ 0 → new ≡ old
  none_more between after old new n more zero =
      let none : more.piece ≡ [] = nil_of more.piece (more.number ∙ zero) in
      more.behind ∙ ap (λ (xs : List ℕ). old ++ xs) none ∙ append-nil old
