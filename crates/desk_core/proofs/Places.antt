-- The place at which a round is found, or is not.
use Rattle.std.specs.Prelude.{◌≡◌, ℕ, zero, suc, ◌<◌, ◌↔◌, Bool, false, List, [], ◌∷◌, length, Option, None, Some, IsTrue, slice_index_or}
use Rattle.std.specs.List.{position}
use Rattle.std.proofs.Common.{refl, sym, ap, ◌∙◌, arith}
use Rattle.std.proofs.lemmas.Bool.{true≢false}
use Rattle.network_model.specs.Network.{Network}
use Rattle.rule_cover.specs.PlanValue.{PlanValue}
use Rattle.suspect_book.specs.declared.verdict.Verdict.{Verdict}
use Rattle.desk_core.specs.declared.event.LoggedEvent.TheVariants.{Post, Depart, Arrive, Locate}
use Rattle.desk_core.specs.declared.reply.Refusal.TheVariants.{NoRound}
use Rattle.desk_core.specs.Past.{Past}
use Rattle.desk_core.specs.Rounds.{is_open, at_opening}
use Rattle.desk_core.specs.Refusals.{no_plan, already_posted, wrong_snapshot, not_sent, refusal}
use Rattle.desk_core.specs.Applying.{Fits}
use Rattle.desk_core.specs.RoundsValue.{RoundValue, RoundsValue}
use Rattle.desk_core.specs.Keeping.{Mirrors}
use Rattle.desk_core.proofs.Found.{has_number, found_open, found_none}
use Rattle.desk_core.proofs.Refused.{stopped, packet_tail}
use Rattle.desk_core.proofs.Steps.{IsAt, round_at, there_at}

same_default : {X : Type 0} (xs : List X) (i : ℕ) (d e : X) → i < length xs → slice_index_or xs i d ≡ slice_index_or xs i e
same_default [] i d e h = let no : ⊥ = omega (arith, h) in absurd no
same_default (x ∷ xs) zero d e h = refl
same_default (x ∷ xs) (suc i) d e h = same_default xs i d e (omega (arith, h))

pub record IsRoundAt (v : RoundsValue) (i : ℕ) (r : RoundValue) (round : ℕ) : Type 0 where
  pub is_at : IsAt v i r
  pub number : r.number ≡ round

pub found_at : (opening : Network) (hops : ℕ) (past : Past) (v : RoundsValue) → Mirrors opening hops past v → (round i : ℕ) (xs : List RoundValue) → xs ≡ v.open_rounds → (o : Option ℕ) → o ≡ position (has_number round) xs → o ≡ Some i
    → (r : RoundValue) → r ≡ slice_index_or v.open_rounds i r → IsRoundAt v i r round
found_at opening hops past v m round i xs same o told is r at =
    let f = found_open past v.open_rounds m.numbers round i r (sym (ap (position (has_number round)) same) ∙ (sym told ∙ is)) in
    record {
      is_at = record { inside = f.inside; at = λ d. same_default v.open_rounds i d r f.inside ∙ sym at };
      number = ap (λ (s : RoundValue). s.number) at ∙ f.number r;
    }

pub absent_at : (opening : Network) (hops : ℕ) (past : Past) (v : RoundsValue) → Mirrors opening hops past v → (round : ℕ) (xs : List RoundValue) → xs ≡ v.open_rounds → (o : Option ℕ) → o ≡ position (has_number round) xs → o ≡ None
    → is_open past round ≡ false
absent_at opening hops past v m round xs same o told is =
    found_none past v.open_rounds m.numbers round (sym (ap (position (has_number round)) same) ∙ (sym told ∙ is))

pub absent_depart : (opening : Network) (past : Past) (caller round e : ℕ) → is_open past round ≡ false → refusal opening 0 past caller (Depart round e) ≡ Some (NoRound round)
absent_depart opening past caller round e shut = stopped (is_open past round) (NoRound round) (no_plan past round ∷ packet_tail opening 0 past round e []) shut

pub absent_arrive : (opening : Network) (past : Past) (caller round e : ℕ) (v : Verdict) → is_open past round ≡ false → refusal opening 0 past caller (Arrive round e v) ≡ Some (NoRound round)
absent_arrive opening past caller round e v shut = stopped (is_open past round) (NoRound round) (no_plan past round ∷ packet_tail opening 0 past round e (not_sent opening 0 past caller round e ∷ [])) shut

pub absent_post : (opening : Network) (past : Past) (caller round : ℕ) (fits : Bool) → is_open past round ≡ false → refusal opening 0 past caller (Post round fits) ≡ Some (NoRound round)
absent_post opening past caller round fits shut = stopped (is_open past round) (NoRound round) (already_posted past round ∷ wrong_snapshot round fits ∷ []) shut

pub absent_locate : (opening : Network) (past : Past) (caller round : ℕ) → is_open past round ≡ false → refusal opening 0 past caller (Locate round) ≡ Some (NoRound round)
absent_locate opening past caller round shut = stopped (is_open past round) (NoRound round) (no_plan past round ∷ []) shut

-- whether a plan fits a round that is found
pub fits_at : (opening : Network) (hops : ℕ) (past : Past) (v : RoundsValue) → Mirrors opening hops past v → (i : ℕ) (r : RoundValue) (round : ℕ) → IsRoundAt v i r round → (plan : PlanValue) (b : Bool)
    → (IsTrue b ↔ ((plan.net ≡ r.pinned.net) × (plan.hops ≡ hops))) → IsTrue b ↔ Fits opening hops past round plan
fits_at opening hops past v m i r round a plan b told =
    let k = round_at opening hops past v m i r a.is_at in
    let there = there_at opening hops past v m i r a.is_at in
    let net_at : r.pinned.net ≡ (at_opening opening past round).net = ap (λ w. w.net) k.pinned_is ∙ ap (λ n. (at_opening opening past n).net) a.number in (
      (λ yes. let both = told.0 yes in record { open_there = sym (ap (is_open past) a.number) ∙ there; net_is = both.0 ∙ net_at; hops_are = both.1 }),
      (λ fits. told.1 (fits.net_is ∙ sym net_at, fits.hops_are)),
    )

pub fits_none : (opening : Network) (hops : ℕ) (past : Past) (round : ℕ) (plan : PlanValue) → is_open past round ≡ false → IsTrue false ↔ Fits opening hops past round plan
fits_none opening hops past round plan shut = ((λ no. absurd (true≢false (sym no))), (λ fits. absurd (true≢false (sym fits.open_there ∙ shut))))
