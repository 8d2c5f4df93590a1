-- What good words ask for.
use Rattle.std.proofs.Common.{◌≡◌, ℕ, zero, ◌<◌, ◌≤◌, List, [], ◌∷◌, Some, None, refl, sym, ◌∙◌, inl, inr, subst, arith}
use Rattle.std.specs.List.{Contains}
use Rattle.command_line.specs.declared.name.Value.{Value}
use Rattle.command_line.specs.declared.name.Value.TheVariants.{Number, Numbers}
use Rattle.command_line.specs.Table.{Named, IsAllowed, IsUsual, IsTable, IsNumberOf}
use Rattle.command_line.proofs.Tables.{apart, no_names, one_name_more}
use Rattle.atpgd.specs.CommandLine.{names, port_name, hops_name, entries_name, workers_name, log_name, seats_name}

pub are_names : IsTable names
are_names =
    one_name_more port_name (hops_name ∷ entries_name ∷ workers_name ∷ log_name ∷ seats_name ∷ [])
    (apart port_name.word hops_name.word refl, (apart port_name.word entries_name.word refl, (apart port_name.word workers_name.word refl, (apart port_name.word log_name.word refl, (apart port_name.word seats_name.word refl, tt))))) (omega arith)
    (one_name_more hops_name (entries_name ∷ workers_name ∷ log_name ∷ seats_name ∷ [])
    (apart hops_name.word entries_name.word refl, (apart hops_name.word workers_name.word refl, (apart hops_name.word log_name.word refl, (apart hops_name.word seats_name.word refl, tt)))) (omega arith)
    (one_name_more entries_name (workers_name ∷ log_name ∷ seats_name ∷ [])
    (apart entries_name.word workers_name.word refl, (apart entries_name.word log_name.word refl, (apart entries_name.word seats_name.word refl, tt))) (omega arith)
    (one_name_more workers_name (log_name ∷ seats_name ∷ [])
    (apart workers_name.word log_name.word refl, (apart workers_name.word seats_name.word refl, tt)) (omega arith)
    (one_name_more log_name (seats_name ∷ []) (apart log_name.word seats_name.word refl, tt) (omega arith)
    (one_name_more seats_name [] tt (omega arith) no_names)))))

pub port_there : Contains names port_name
port_there = (zero, omega arith, refl)

pub hops_there : Contains names hops_name
hops_there = (1, omega arith, refl)

pub entries_there : Contains names entries_name
entries_there = (2, omega arith, refl)

pub workers_there : Contains names workers_name
workers_there = (3, omega arith, refl)

pub log_there : Contains names log_name
log_there = (4, omega arith, refl)

pub seats_there : Contains names seats_name
seats_there = (5, omega arith, refl)

one_usual : (value : Value) (a b : ℕ) → IsUsual value a → IsUsual value b → a ≡ b
one_usual (Number least most usual) a b is other = let both : Some a ≡ Some b = sym is ∙ other in cc
one_usual (Numbers most) a b is other = absurd is

-- a number that is given, or the usual one, is one that may be given
pub allowed : (name : Named) (rest : List (List ℕ)) (number usual : ℕ) → IsUsual name.value usual → IsAllowed name.value usual → IsNumberOf name rest number → IsAllowed name.value number
allowed name rest number usual is fits (inl (j, stands, spelled, within)) = within
allowed name rest number usual is fits (inr (none, other)) = subst (λ n. IsAllowed name.value n) (one_usual name.value usual number is other) fits

-- a number that must be given is one that may be given
pub given_allowed : (least most : ℕ) (word : List ℕ) (rest : List (List ℕ)) (number : ℕ) → IsNumberOf (record { word = word; value = Number least most None }) rest number → (least ≤ number) × (number ≤ most)
given_allowed least most word rest number (inl (j, stands, spelled, within)) = within
given_allowed least most word rest number (inr (none, other)) = absurd (cc)
