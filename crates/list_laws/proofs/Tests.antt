-- Tests, and choices by them.
use Rattle.std.proofs.Common.{◌≡◌, ℕ, Bool, true, false, ◌||◌, cond, eqb, Option, Some, None, is_some, refl, arith}
use Rattle.std.proofs.lemmas.Bool.Decides.{nat_tests}

pub or_swap : (a b c : Bool) → (a || (b || c)) ≡ (b || (a || c))
or_swap true true c = refl
or_swap true false c = refl
or_swap false true c = refl
or_swap false false c = refl

pub eqb_comm : (m n : ℕ) → eqb m n ≡ eqb n m
eqb_comm m n = grind (arith, nat_tests)

-- a choice of none passed its first by
pub passed_by : {A : Type 0} (b : Bool) (x : A) (rest : Option A) → cond b (Some x) rest ≡ None → (b ≡ false) × (rest ≡ None)
passed_by true x rest h = absurd (cc)
passed_by false x rest h = (refl, h)

pub none_at : {A : Type 0} (o : Option A) → is_some o ≡ false → o ≡ None
none_at None h = refl
none_at (Some x) h = absurd (cc)
