-- What meets a pattern meets its hull.
use Rattle.std.proofs.Common.{◌≡◌, ℕ, suc, Bool, true, false, [], ◌∷◌, length, Option, Some, None, refl, subst}
use Rattle.std.specs.Prelude.{replicate, cond}
use Rattle.std.specs.Option.{option_map}
use Rattle.std.proofs.lemmas.Bool.{and_parts, and_from, false≢true, true≢false}
use Rattle.network_model.specs.Bits.{Letter, Bit, Any, Pattern}
use Rattle.ternary_bits.specs.Pieces.{meets, letters_meet}
use Rattle.ternary_bits.specs.Asking.{asks, first_asked}
use Rattle.pattern_index.specs.Hulls.{IsWithin}

any_meets : (p : Pattern) → meets p (replicate (length p) Any) ≡ true
any_meets [] = refl
any_meets (Any ∷ ls) = any_meets ls
any_meets (Bit b ∷ ls) = any_meets ls

any_asks : (p : Pattern) → first_asked p (replicate (length p) Any) ≡ None
any_asks [] = refl
any_asks (Any ∷ ls) = let below = any_asks ls in rw below refl
any_asks (Bit b ∷ ls) = let below = any_asks ls in rw below refl

-- the pattern of all headers has those of each
pub within_all : (p : Pattern) (n : ℕ) → length p ≡ n → IsWithin p (replicate n Any)
within_all p n width = subst (λ k. IsWithin p (replicate k Any)) width (record { meeting = any_meets p; asked = any_asks p })

letter_within : (l o m : Letter) → letters_meet l o ≡ true → asks l o ≡ false → letters_meet l m ≡ true → letters_meet o m ≡ true
letter_within Any Any m e f g = refl
letter_within Any (Bit b) m e f g = absurd (true≢false f)
letter_within (Bit a) Any m e f g = refl
letter_within (Bit a) (Bit b) Any e f g = refl
letter_within (Bit true) (Bit true) (Bit c) e f g = g
letter_within (Bit false) (Bit false) (Bit c) e f g = g
letter_within (Bit true) (Bit false) (Bit c) e f g = absurd (false≢true e)
letter_within (Bit false) (Bit true) (Bit c) e f g = absurd (false≢true e)

none_here : (t : Bool) (o : Option ℕ) → cond t (Some 0) (option_map (λ place. suc place) o) ≡ None → (t ≡ false) × (o ≡ None)
none_here true o e = absurd (cc)
none_here false None e = (refl, refl)
none_here false (Some k) e = absurd (cc)

meets_beyond : (p hull q : Pattern) → meets p hull ≡ true → first_asked p hull ≡ None → meets p q ≡ true → meets hull q ≡ true
meets_beyond [] [] [] e f g = refl
meets_beyond [] [] (m ∷ ms) e f g = absurd (false≢true g)
meets_beyond [] (o ∷ os) q e f g = absurd (false≢true e)
meets_beyond (l ∷ ls) [] q e f g = absurd (false≢true e)
meets_beyond (l ∷ ls) (o ∷ os) [] e f g = absurd (false≢true g)
meets_beyond (l ∷ ls) (o ∷ os) (m ∷ ms) e f g =
    let meeting = and_parts (letters_meet l o) (meets ls os) e in
    let unasked = none_here (asks l o) (first_asked ls os) f in
    let other = and_parts (letters_meet l m) (meets ls ms) g in
    and_from (letters_meet o m) (meets os ms) (letter_within l o m meeting.0 unasked.0 other.0) (meets_beyond ls os ms meeting.1 unasked.1 other.1)

-- what meets a pattern meets its hull
pub within_meets : (p hull q : Pattern) → IsWithin p hull → meets p q ≡ true → meets hull q ≡ true
within_meets p hull q is = meets_beyond p hull q is.meeting is.asked
