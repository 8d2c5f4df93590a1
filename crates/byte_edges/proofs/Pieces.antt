-- Pieces of a list of bytes that is read from its front.
use Rattle.std.proofs.Common.{◌≡◌, ℕ, ◌+◌, ◌-◌, ◌≤◌, List, ◌++◌, length, take, drop, sym, arith}
use Rattle.std.proofs.lemmas.Grind.{common_steps}
use Rattle.std.proofs.lemmas.List.{take-append-drop, length-take-le}
use Rattle.std.proofs.Math.Seq.{take-append_seam}

-- `bytes[at..]`, as a read of it has it
pub rest_whole : (bytes : List ℕ) (at : ℕ) → take (length bytes - at) (drop at bytes) ≡ drop at bytes
rest_whole bytes at = grind (arith, common_steps)

drop_further : (bytes : List ℕ) (at n : ℕ) → drop (at + n) bytes ≡ drop n (drop at bytes)
drop_further bytes at n = grind (arith, common_steps)

front_of : (piece into : List ℕ) (n : ℕ) → length piece ≡ n → take n (piece ++ drop n into) ≡ piece
front_of piece into n e = rw (← e) (take-append_seam piece (drop (length piece) into))

-- A copy of the first n bytes of what is left, at the front of `into`.
module _ (bytes into copied : List ℕ) (at n : ℕ) (fits : n ≤ length (take (length bytes - at) (drop at bytes))) (is_copy : copied ≡ take n (take (length bytes - at) (drop at bytes))) where
  copied_is : copied ≡ take n (drop at bytes)
  copied_is = rw rest_whole at is_copy

  within : n ≤ length (drop at bytes)
  within = rw rest_whole at fits

  copied_length : length copied ≡ n
  copied_length = rw copied_is (length-take-le n (drop at bytes) within)

  pub copied_front : take n (copied ++ drop n into) ≡ copied
  copied_front = front_of copied into n copied_length

  pub given_length : length (take n (copied ++ drop n into)) ≡ n
  given_length = rw copied_front copied_length

  pub given_first : drop at bytes ≡ take n (copied ++ drop n into) ++ drop (at + n) bytes
  given_first = rw (copied_front, copied_is, drop_further bytes at n) (sym (take-append-drop n (drop at bytes)))
