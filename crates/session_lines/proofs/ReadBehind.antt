-- What is read goes behind the bytes from before.
use Rattle.std.proofs.Common.{◌≡◌, ℕ, ◌+◌, ◌≤◌, List, ◌++◌, length, take, ap, ◌∙◌}
use Rattle.std.proofs.lemmas.List.{take-append-le, length-take-le}
use Rattle.std.proofs.Math.Seq.{take-append-add}

-- what n bytes of a read make of the bytes before them
pub read_behind : (xs into post : List ℕ) (filled n : ℕ) → filled ≤ length xs → n ≤ length into → take (filled + n) (take filled xs ++ (into ++ post)) ≡ take filled xs ++ take n into
read_behind xs into post filled n in_xs in_into =
    let front_long : length (take filled xs) ≡ filled = length-take-le filled xs in_xs in
    let seam : take (length (take filled xs) + n) (take filled xs ++ (into ++ post)) ≡ take filled xs ++ take n (into ++ post) = take-append-add (take filled xs) (into ++ post) n in
    (rw front_long at seam) ∙ ap (λ ys. take filled xs ++ ys) (take-append-le n into post in_into)
