-- Lists of which each two elements at one place belong together, and a list that was lent as a slice.
use Rattle.std.proofs.Common.{◌≡◌, ◌∙◌, ◌<◌, ◌++◌, ℕ, suc, List, [], ◌∷◌, length, get_or, take, drop, ap, arith}
use Rattle.std.proofs.Math.Seq.{take-append_seam}
use Rattle.std.specs.List.{AllZip}

pub zipped : {A : Type 0} (R : A → A → Type 0) (xs ys : List A) → length xs ≡ length ys → ((i : ℕ) (d : A) → i < length xs → R (get_or xs i d) (get_or ys i d)) → AllZip R xs ys
zipped R [] [] same each = tt
zipped R [] (y ∷ ys) same each = absurd (omega arith)
zipped R (x ∷ xs) [] same each = absurd (omega arith)
zipped R (x ∷ xs) (y ∷ ys) same each = (each 0 x (omega arith), zipped R xs ys (omega arith) (λ i d inside. each (suc i) d (omega arith)))

-- a slice that was lent is written back
pub written_back : {A : Type 0} (len : ℕ) (new old : List A) → len ≡ length new → take len (new ++ drop (length new) old) ≡ new
written_back len new old size = ap (λ n. take n (new ++ drop (length new) old)) size ∙ take-append_seam new (drop (length new) old)
