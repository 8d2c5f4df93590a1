-- One rewrite after another is their composition, and the rewrite that keeps each bit changes nothing.
use Rattle.std.specs.Prelude.{◌≡◌, ℕ, zero, suc, ◌+◌, ◌-◌, ◌<◌, Bool, false, [], ◌∷◌, length, slice_index_or}
use Rattle.std.specs.List.{range_with_len}
use Rattle.std.proofs.Common.{refl, ap, ◌∙◌, arith}
use Rattle.std.proofs.lemmas.List.{length-map, get_or-map, get_or_default, same_lists}
use Rattle.std.proofs.lemmas.List.FromFn.{length-range_with_len, get_or-range_with_len}
use Rattle.network_model.specs.Bits.{Header}
use Rattle.network_model.specs.Rewrites.{Item, Set, Old, Rewrite, bit_of, rewritten, kept, item_after, composed}

-- what an item of the first rewrite, or none, puts at a place
item_at : (header : Header) (first : Rewrite) (place : ℕ) → bit_of header (slice_index_or first place (Set false)) ≡ slice_index_or (rewritten first header) place false
item_at header [] place = refl
item_at header (item ∷ first) zero = refl
item_at header (item ∷ first) (suc place) = item_at header first place

after_item : (header : Header) (first : Rewrite) (item : Item) → bit_of header (item_after first item) ≡ bit_of (rewritten first header) item
after_item header first (Set bit) = refl
after_item header first (Old place) = item_at header first (place - 1)

-- a composition rewrites as the first and then the later rewrite do
pub rewritten-composed : (first later : Rewrite) (header : Header) → rewritten (composed first later) header ≡ rewritten later (rewritten first header)
rewritten-composed first [] header = refl
rewritten-composed first (item ∷ later) header =
    ap (λ (bit : Bool). bit ∷ rewritten (composed first later) header) (after_item header first item)
    ∙ ap (λ (bits : Header). bit_of (rewritten first header) item ∷ bits) (rewritten-composed first later header)

pub length-rewritten : (rewrite : Rewrite) (header : Header) → length (rewritten rewrite header) ≡ length rewrite
length-rewritten rewrite header = length-map rewrite (bit_of header)

pub length-composed : (first later : Rewrite) → length (composed first later) ≡ length later
length-composed first later = length-map later (item_after first)

pub length-kept : (width : ℕ) → length (kept width) ≡ width
length-kept width = length-map (range_with_len 1 width) Old ∙ length-range_with_len 1 width

-- the item that keeps a place
pub get_or-kept : (width place : ℕ) (other : Item) → place < width → slice_index_or (kept width) place other ≡ Old (1 + place)
get_or-kept width place other h =
    let n : place < length (range_with_len 1 width) = omega (arith, length-range_with_len 1 width) in
    get_or-map Old (range_with_len 1 width) place 0 other n ∙ ap Old (get_or-range_with_len 1 width place 0 h)

kept_bit : (header : Header) (place : ℕ) (other : Bool) → place < length header → slice_index_or (rewritten (kept (length header)) header) place other ≡ slice_index_or header place other
kept_bit header place other h =
    let n : place < length (kept (length header)) = omega (arith, length-kept (length header)) in
    let e : 1 + place - 1 ≡ place = omega arith in
    get_or-map (bit_of header) (kept (length header)) place (Set false) other n
    ∙ ap (bit_of header) (get_or-kept (length header) place (Set false) h)
    ∙ ap (λ p. slice_index_or header p false) e
    ∙ get_or_default header place false other h

-- the rewrite that keeps each bit changes nothing
pub rewritten-kept : (header : Header) → rewritten (kept (length header)) header ≡ header
rewritten-kept header =
    let e : length (rewritten (kept (length header)) header) ≡ length header = length-rewritten (kept (length header)) header ∙ length-kept (length header) in
    same_lists (rewritten (kept (length header)) header) header e (λ place other h. kept_bit header place other (omega arith))
