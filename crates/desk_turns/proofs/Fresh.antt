-- Passes as they are dealt out are of their desk, and each knows what the history says of its calls.
use Rattle.std.proofs.Common.{◌≡◌, ℕ, zero, suc, ◌+◌, List, map, refl, subst, sym, arith}
use Rattle.std.specs.List.{All, range_with_len}
use Rattle.desk_turns.specs.Shared.{DeskId, PassValue, fresh}

pub fresh_here : (d : DeskId) (n count : ℕ) → All (λ (p : PassValue). p.desk.table ≡ d.table) (map (fresh d) (range_with_len n count))
fresh_here d n zero i e under = absurd (omega arith)
fresh_here d n (suc count) zero e under = refl
fresh_here d n (suc count) (suc i) e under = fresh_here d (n + 1) count i e (omega arith)

pub all_fresh_here : (d : DeskId) (n count : ℕ) (ps : List PassValue) → ps ≡ map (fresh d) (range_with_len n count) → All (λ (p : PassValue). p.desk.table ≡ d.table) ps
all_fresh_here d n count ps is = subst (λ (l : List PassValue). All (λ (p : PassValue). p.desk.table ≡ d.table) l) (sym is) (fresh_here d n count)
