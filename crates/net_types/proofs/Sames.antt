-- Lists whose elements mean the same, place by place.
use Rattle.std.proofs.Common.{◌≡◌, ℕ, suc, ◌<◌, List, [], ◌∷◌, length, map, get_or, Some, ap, refl, arith, ◌∙◌}
use Rattle.std.specs.List.{AllZip, slice_get}
use Rattle.network_model.specs.Bits.{Pattern}
use Rattle.network_model.specs.Network as model
use Rattle.net_types.specs.declared.parts.Terminal.{Terminal}
use Rattle.net_types.specs.declared.terminal.Role.{Role}
use Rattle.net_types.specs.Parts.{terminal_of}
use Rattle.net_types.specs.Terminals.{role_of}

pub zip_from_reads : {X : Type 0} (R : X → X → Type 0) (xs ys : List X) → length xs ≡ length ys → ((k : ℕ) (d : X) → k < length xs → R (get_or xs k d) (get_or ys k d)) → AllZip R xs ys
zip_from_reads R [] [] long each = tt
zip_from_reads R [] (y ∷ ys) long each = absurd (omega arith)
zip_from_reads R (x ∷ xs) [] long each = absurd (omega arith)
zip_from_reads R (x ∷ xs) (y ∷ ys) long each = (each 0 x (omega arith), zip_from_reads R xs ys (omega arith) (λ k d below. each (suc k) d (omega arith)))

pub maps_from_zip : {X Y : Type 0} (f : X → Y) (xs ys : List X) → AllZip (λ x y. f x ≡ f y) xs ys → map f xs ≡ map f ys
maps_from_zip f [] [] zip = refl
maps_from_zip f [] (y ∷ ys) zip = absurd zip
maps_from_zip f (x ∷ xs) [] zip = absurd zip
maps_from_zip f (x ∷ xs) (y ∷ ys) (same, zip) = (let rest = maps_from_zip f xs ys zip in cc)

pub zip_from_maps : {X Y : Type 0} (f : X → Y) (xs ys : List X) → map f xs ≡ map f ys → AllZip (λ x y. f x ≡ f y) xs ys
zip_from_maps f [] [] same = tt
zip_from_maps f [] (y ∷ ys) same = absurd (cc)
zip_from_maps f (x ∷ xs) [] same = absurd (cc)
zip_from_maps f (x ∷ xs) (y ∷ ys) same = ((cc), zip_from_maps f xs ys (cc))

pub list_from_zip : {X : Type 0} (xs ys : List X) → AllZip (λ x y. x ≡ y) xs ys → xs ≡ ys
list_from_zip [] [] zip = refl
list_from_zip [] (y ∷ ys) zip = absurd zip
list_from_zip (x ∷ xs) [] zip = absurd zip
list_from_zip (x ∷ xs) (y ∷ ys) (same, zip) = (let rest = list_from_zip xs ys zip in cc)

pub zip_from_list : {X : Type 0} (xs ys : List X) → xs ≡ ys → AllZip (λ x y. x ≡ y) xs ys
zip_from_list [] [] same = tt
zip_from_list [] (y ∷ ys) same = absurd (cc)
zip_from_list (x ∷ xs) [] same = absurd (cc)
zip_from_list (x ∷ xs) (y ∷ ys) same = ((cc), zip_from_list xs ys (cc))

abbrev made : ℕ → Role → List Pattern → List Pattern → model.Terminal
made port role permits forbids = record { port = port; role = role_of role; permits = permits; forbids = forbids }

-- terminals and networks are the same where their parts are
pub terminal_same : (a b : Terminal) → a.port ≡ b.port → a.role ≡ b.role → a.permits.items ≡ b.permits.items → a.forbids.items ≡ b.forbids.items → (terminal_of a).1 ≡ (terminal_of b).1
terminal_same a b port role permits forbids =
    ap (λ n. made n a.role a.permits.items a.forbids.items) port
    ∙ ap (λ r. made b.port r a.permits.items a.forbids.items) role
    ∙ ap (λ l. made b.port b.role l a.forbids.items) permits
    ∙ ap (λ l. made b.port b.role b.permits.items l) forbids

pub network_same : (a b : model.Network) → a.width ≡ b.width → a.boxes ≡ b.boxes → a.ports ≡ b.ports → a.links ≡ b.links → a.terminals ≡ b.terminals → a.rules ≡ b.rules → a ≡ b
network_same a b width boxes ports links terminals rules =
    ap (λ n. record a { width = n }) width
    ∙ ap (λ l. record a { width = b.width; boxes = l }) boxes
    ∙ ap (λ l. record a { width = b.width; boxes = b.boxes; ports = l }) ports
    ∙ ap (λ l. record a { width = b.width; boxes = b.boxes; ports = b.ports; links = l }) links
    ∙ ap (λ l. record b { terminals = l; rules = a.rules }) terminals
    ∙ ap (λ l. record b { rules = l }) rules

-- lists with the same element at each place
pub list_from_gets : {X : Type 0} (xs ys : List X) → length xs ≡ length ys → ((k : ℕ) → k < length xs → slice_get xs k ≡ slice_get ys k) → xs ≡ ys
list_from_gets [] [] long each = refl
list_from_gets [] (y ∷ ys) long each = absurd (omega arith)
list_from_gets (x ∷ xs) [] long each = absurd (omega arith)
list_from_gets (x ∷ xs) (y ∷ ys) long each =
    let first : Some x ≡ Some y = each 0 (omega arith) in
    let rest = list_from_gets xs ys (omega arith) (λ k below. each (suc k) (omega arith)) in
    cc
