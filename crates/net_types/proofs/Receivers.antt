-- The terminals that receive, sorted by port: a port has at most one, and a look-up there gives it.
use Rattle.std.proofs.Common.{◌≡◌, ◌≢◌, ℕ, zero, suc, ◌+◌, ◌<◌, eqb, Bool, true, false, ◌&&◌, List, [], ◌∷◌, length, map, get_or, take, ◌++◌, if◌then◌else◌, Option, Some, None, sym, ap, refl, subst, arith, ◌∙◌}
use Rattle.std.specs.List.{find, filter_map, cons_option, All, AllPairs, IsDistinct}
use Rattle.std.specs.List.Sorted.{IsPermutation, IsNonDecreasingBy, IsStrictlyIncreasing}
use Rattle.std.specs.Option.{option_map}
use Rattle.std.proofs.lemmas.Bool.Decides.{Decides-eqb, nat_tests}
use Rattle.std.proofs.lemmas.List.{append-nil, get_or-map, length-map, take_more}
use Rattle.std.proofs.lemmas.List.Elements.{All-cons, All-nil, filter_map-append}
use Rattle.std.proofs.lemmas.List.Kept.{AllPairs-cons}
use Rattle.std.proofs.lemmas.List.Sorted.{IsPermutation-map, IsPermutation-sym, Contains-permutation}
use Rattle.std.proofs.lemmas.Map.Keys.{IsDistinct-IsPermutation, IsStrictlyIncreasing-from_distinct}
use Rattle.std.proofs.lemmas.Map.Made.{IsDistinct-from_AllPairs}
use Rattle.network_model.specs.Network as model
use Rattle.network_model.specs.Walk.{receives}
use Rattle.net_types.specs.declared.parts.Terminal.{Terminal}
use Rattle.net_types.specs.declared.network.Receiver.{Receiver}
use Rattle.net_types.specs.Parts.{terminal_of}
use Rattle.net_types.specs.Tables.{receiving, IsByPort}
use Rattle.net_types.specs.Terminals.{role_of}
use Rattle.net_types.proofs.Finds.{Nowhere, First, found, find_only, find_nothing}
use Rattle.net_types.proofs.Rows.{one_place}

abbrev port_of : Receiver → ℕ
port_of r = r.port

-- what holds of the ports of all terminals holds of those that receive
all_receiving : (P : ℕ → Type 0) (ts : List Terminal) → All (λ t. P t.port) ts → All P (map port_of (filter_map receiving ts))
all_receiving P [] all = All-nil P
all_receiving P (t ∷ ts) all = by_role (receives (role_of t.role)) refl (all_receiving P ts (λ k d below. all (suc k) d (omega arith)))
  where
    by_role : (b : Bool) → receives (role_of t.role) ≡ b → All P (map port_of (filter_map receiving ts)) → All P (map port_of (filter_map receiving (t ∷ ts)))
    by_role true is rest = rw is (All-cons P t.port (map port_of (filter_map receiving ts)) (all 0 t (omega arith)) rest)
    by_role false is rest = rw is rest

ports_differ : (ts : List Terminal) → AllPairs (λ s t. s.port ≢ t.port) ts → AllPairs (λ a b. a ≢ b) (map port_of (filter_map receiving ts))
ports_differ [] apart = λ i j d before inside. absurd (omega arith)
ports_differ (t ∷ ts) apart = by_role (receives (role_of t.role)) refl (ports_differ ts (λ i j d before inside. apart (suc i) (suc j) d (omega arith) (omega arith)))
  where
    by_role : (b : Bool) → receives (role_of t.role) ≡ b → AllPairs (λ a b. a ≢ b) (map port_of (filter_map receiving ts)) → AllPairs (λ a b. a ≢ b) (map port_of (filter_map receiving (t ∷ ts)))
    by_role true is rest = rw is (AllPairs-cons (λ a b. a ≢ b) t.port (map port_of (filter_map receiving ts))
        (all_receiving (λ port. t.port ≢ port) ts (λ k d below. apart 0 (suc k) d (omega arith) (omega arith))) rest)
    by_role false is rest = rw is rest

rises_of_map : (rs : List Receiver) → IsNonDecreasingBy port_of rs → IsNonDecreasingBy (λ n. n) (map port_of rs)
rises_of_map [] sorted i j d le inside = absurd (omega arith)
rises_of_map (r ∷ rs) sorted i j d le inside =
    let below : j < length (r ∷ rs) = omega (arith, length-map (r ∷ rs) port_of) in
    rw (get_or-map port_of (r ∷ rs) i r d (omega arith), get_or-map port_of (r ∷ rs) j r d below) (sorted i j r le below)

pub by_port_from_sort : (ts : List Terminal) (rs : List Receiver) → AllPairs (λ s t. s.port ≢ t.port) ts → IsPermutation (filter_map receiving ts) rs → IsNonDecreasingBy port_of rs → IsByPort ts rs
by_port_from_sort ts rs apart same sorted = record { same = same; rises = IsStrictlyIncreasing-from_distinct (map port_of rs) weakly distinct }
  where
    weakly : IsNonDecreasingBy (λ n. n) (map port_of rs)
    weakly = rises_of_map rs sorted

    distinct : IsDistinct eqb (map port_of rs)
    distinct = IsDistinct-IsPermutation eqb (λ x y. grind (arith, nat_tests)) _ _ (IsPermutation-map port_of _ _ same)
        (IsDistinct-from_AllPairs Decides-eqb _ (ports_differ ts apart))

-- a look-up among those that receive
abbrev HasReceiver : ℕ → List Terminal → Type 0
HasReceiver port ts =
    option_map (λ r. r.term) (find (λ r. eqb r.port port) (filter_map receiving ts))
    ≡ option_map (λ t. t.0) (find (λ (t : ℕ × model.Terminal). eqb t.1.port port && receives t.1.role) (map terminal_of ts))

found_receiver : (port : ℕ) (ts : List Terminal) → HasReceiver port ts
found_receiver port [] = refl
found_receiver port (t ∷ ts) = by_role (receives (role_of t.role)) refl (found_receiver port ts)
  where
    by_role : (b : Bool) → receives (role_of t.role) ≡ b → HasReceiver port ts → HasReceiver port (t ∷ ts)
    by_role true is rest = grind (arith, nat_tests, is, rest)
    by_role false is rest = grind (arith, nat_tests, is, rest)

-- the same in any order, since no other has the port
find_permuted : (port : ℕ) (xs ys : List Receiver) → IsPermutation xs ys → IsStrictlyIncreasing (map port_of ys) → find (λ r. eqb r.port port) ys ≡ find (λ r. eqb r.port port) xs
find_permuted port xs ys same rises = elim (found (λ (r : Receiver). eqb r.port port) ys) [
  | Nowhere none fail ↦ none ∙ sym (find_nothing (λ r. eqb r.port port) xs (λ j d below.
      fail (get_or xs j d) (Contains-permutation xs ys (get_or xs j d) same (j, below, self xs j d below))))
  | First i r some inside is passes fail ↦ some ∙ sym (find_only (λ r. eqb r.port port) xs r
      (Contains-permutation ys xs r (IsPermutation-sym xs ys same) (i, inside, is r)) passes
      (λ x contained has. one_place port_of ys rises x r (Contains-permutation xs ys x same contained) (i, inside, is r) (grind (arith, nat_tests, has, passes))))
]
  where
    self : (l : List Receiver) (j : ℕ) (d : Receiver) → j < length l → get_or l j (get_or l j d) ≡ get_or l j d
    self [] j d below = absurd (omega arith)
    self (x ∷ l) zero d below = refl
    self (x ∷ l) (suc j) d below = self l j d (omega arith)

pub receiver_found : (port : ℕ) (ts : List Terminal) (rs : List Receiver) → IsByPort ts rs → option_map (λ r. r.term) (find (λ r. eqb r.port port) rs) ≡ option_map (λ t. t.0) (find (λ (t : ℕ × model.Terminal). eqb t.1.port port && receives t.1.role) (map terminal_of ts))
receiver_found port ts rs by_port = ap (option_map (λ (r : Receiver). r.term)) (find_permuted port _ rs by_port.same by_port.rises) ∙ found_receiver port ts

-- one more terminal
filter_map_more : (ts : List Terminal) (i : ℕ) (t : Terminal) → i < length ts → t ≡ get_or ts i t → filter_map receiving (take (i + 1) ts) ≡ filter_map receiving (take i ts) ++ cons_option (receiving t) []
filter_map_more ts i t inside is =
    ap (filter_map receiving) (take_more ts i t inside) ∙ filter_map-append receiving (take i ts) (get_or ts i t ∷ []) ∙ ap (λ (x : Terminal). filter_map receiving (take i ts) ++ cons_option (receiving x) []) (sym is)

pub more_taken : (ts : List Terminal) (i : ℕ) (t : Terminal) → i < length ts → t ≡ get_or ts i t → receives (role_of t.role) ≡ true → filter_map receiving (take (i + 1) ts) ≡ filter_map receiving (take i ts) ++ record { port = t.port; term = t.id } ∷ []
more_taken ts i t inside is receiver =
    filter_map_more ts i t inside is ∙ ap (λ b. filter_map receiving (take i ts) ++ cons_option (if b then Some (record { port = t.port; term = t.id }) else None) []) receiver

pub more_left : (ts : List Terminal) (i : ℕ) (t : Terminal) → i < length ts → t ≡ get_or ts i t → receives (role_of t.role) ≡ false → filter_map receiving (take (i + 1) ts) ≡ filter_map receiving (take i ts)
more_left ts i t inside is other =
    filter_map_more ts i t inside is ∙ ap (λ b. filter_map receiving (take i ts) ++ cons_option (if b then Some (record { port = t.port; term = t.id }) else None) []) other ∙ append-nil (filter_map receiving (take i ts))

abbrev model_receiving : ℕ × model.Terminal → Option Receiver
model_receiving t = if receives t.1.role then Some (record { port = t.1.port; term = t.0 }) else None

-- terminals that mean the same have the same receivers
same_receiving : (ts : List Terminal) → filter_map receiving ts ≡ filter_map model_receiving (map terminal_of ts)
same_receiving [] = refl
same_receiving (t ∷ ts) = ap (cons_option (receiving t)) (same_receiving ts)

pub by_port_same : (ts us : List Terminal) (rs : List Receiver) → map terminal_of us ≡ map terminal_of ts → IsByPort ts rs → IsByPort us rs
by_port_same ts us rs same by_port = record {
  same = subst (λ l. IsPermutation l rs) (same_receiving ts ∙ ap (filter_map model_receiving) (sym same) ∙ sym (same_receiving us)) by_port.same;
  rises = by_port.rises;
}
