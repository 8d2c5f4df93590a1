-- Of a round that has no plan nothing was counted.
use Rattle.std.specs.Prelude.{◌≡◌, ℕ, zero, suc, ◌+◌, Bool, true, false, ◌&&◌, ◌||◌, [], ◌∷◌, map, replicate, slice_index_or, Option, None}
use Rattle.std.specs.List.{range_with_len}
use Rattle.std.proofs.Common.{refl, sym, ap, ◌∙◌}
use Rattle.network_model.specs.Network.{Network}
use Rattle.suspect_book.specs.declared.verdict.Verdict.{Verdict}
use Rattle.desk_core.specs.declared.event.Logged.{Logged}
use Rattle.desk_core.specs.Past.{Past}
use Rattle.desk_core.specs.Events.{posts, departs, arrives}
use Rattle.desk_core.specs.Rounds.{is_open, is_posted, is_current}
use Rattle.desk_core.specs.Counting.{is_entry, is_live, is_caller, sender, counted, verdicts}
use Rattle.desk_core.specs.RoundsValue.{sender_at}
use Rattle.desk_core.proofs.Counts.{counted-not, sender-not}
use Rattle.desk_core.proofs.Kept.{and_false, and_false_right}

or_false : (a b : Bool) → (a || b) ≡ false → b ≡ false
or_false true b h = absurd (cc)
or_false false b h = h

not_posted_before : (entry : Logged) (past : Past) (round : ℕ) → is_posted (entry ∷ past) round ≡ false → is_posted past round ≡ false
not_posted_before entry past round h = or_false (posts round entry && is_open past round) (is_posted past round) h

pub not_live : (opening : Network) (n : ℕ) (past : Past) (round e : ℕ) → is_posted past round ≡ false → is_live opening n past round e ≡ false
not_live opening n past round e h =
    and_false_right (is_open past round) (is_posted past round && (is_current opening past round && is_entry n e))
    (and_false (is_posted past round) (is_current opening past round && is_entry n e) h)

pub none_counted_yet : (opening : Network) (n : ℕ) (past : Past) (round e : ℕ) → is_posted past round ≡ false → counted opening n past round e ≡ None
none_counted_yet opening n [] round e h = refl
none_counted_yet opening n (entry ∷ past) round e h =
    let before = not_posted_before entry past round h in
    counted-not opening n entry past round e
    (and_false_right (arrives round e entry) (is_live opening n past round e && is_caller (sender opening n past round e) entry.caller)
    (and_false (is_live opening n past round e) (is_caller (sender opening n past round e) entry.caller) (not_live opening n past round e before)))
    ∙ none_counted_yet opening n past round e before

pub none_sent_yet : (opening : Network) (n : ℕ) (past : Past) (round e : ℕ) → is_posted past round ≡ false → sender opening n past round e ≡ None
none_sent_yet opening n [] round e h = refl
none_sent_yet opening n (entry ∷ past) round e h =
    let before = not_posted_before entry past round h in
    sender-not opening n entry past round e (and_false_right (departs round e entry) (is_live opening n past round e) (not_live opening n past round e before))
    ∙ none_sent_yet opening n past round e before

replicate-map : (f : ℕ → Option Verdict) (a n : ℕ) → ((k : ℕ) → f k ≡ None) → replicate n None ≡ map f (range_with_len a n)
replicate-map f a zero h = refl
replicate-map f a (suc n) h = ap (λ x. x ∷ replicate n None) (sym (h a)) ∙ ap (λ l. f a ∷ l) (replicate-map f (a + 1) n h)

pub none-verdicts : (opening : Network) (n : ℕ) (past : Past) (round : ℕ) → ((e : ℕ) → counted opening n past round e ≡ None) → replicate n None ≡ verdicts opening n past round
none-verdicts opening n past round h = replicate-map (counted opening n past round) 1 n h

abbrev no_sender : Option ℕ
no_sender = None

none_there : (n k : ℕ) → slice_index_or (replicate n no_sender) k no_sender ≡ no_sender
none_there zero k = refl
none_there (suc n) zero = refl
none_there (suc n) (suc k) = none_there n k

pub none-sender : (n e : ℕ) → sender_at (replicate n None) e ≡ None
none-sender n zero = refl
none-sender n (suc k) = none_there n k
