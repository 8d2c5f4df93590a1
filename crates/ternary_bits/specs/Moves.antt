-- Rewrites as moving words, and as either kind of word.
--     moving_word       `@` and then 1 to 128 items, joined by commas. An item is `0`, `1`, `-` for the bit at its own
--                       place, or `b` and the number of a place, from 1 to the number of items and with no zero before it
--     letters_or_moves  a word that begins with `@` is a moving word or wrong; any other is of letters or wrong
--     moving_text       a rewrite as a moving word, with `-` where a bit stays
--     rewrite_text      its letters where each old bit stays, and the moving word otherwise
use Rattle.std.specs.Prelude.{ℕ, ◌+◌, ◌==◌, nat_le, Bool, true, false, ◌&&◌, List, [], ◌∷◌, length, Option, Some, None, if◌then◌else◌}
use Rattle.std.specs.List.{slice_split, join_with_byte}
use Rattle.std.specs.Fmt.{decimal}
use Rattle.text_words.specs.Numbers.{number_upto}
use Rattle.network_model.specs.Rewrites.{Item, Set, Old, Rewrite}
use Rattle.ternary_bits.specs.Letters.{onto, bit_letter, rewrite_letter, rewrite_word, letters_text}

abbrev pub comma : ℕ → Bool
comma b = b == 44

-- the old bit of a place that is there
abbrev pub old_bit : Option ℕ → Option Item
old_bit None = None
old_bit (Some place) = if place == 0 then None else Some (Old place)

abbrev pub lone_letter : ℕ → List ℕ → Option Item
lone_letter place [] = None
lone_letter place (b ∷ []) = rewrite_letter place b
lone_letter place (b ∷ c ∷ rest) = None

abbrev pub moving_item : ℕ → ℕ → List ℕ → Option Item
moving_item count place [] = None
moving_item count place (b ∷ digits) =
    if b == 98 then old_bit (number_upto count digits) else lone_letter place (b ∷ digits)

abbrev pub moving_items : ℕ → ℕ → List (List ℕ) → Option Rewrite
moving_items count place [] = Some []
moving_items count place (word ∷ words) = onto (moving_item count place word) (moving_items count (place + 1) words)

-- what stands between the commas is one item each
abbrev pub joined_items : List (List ℕ) → Option Rewrite
joined_items words = if nat_le (length words) 128 then moving_items (length words) 1 words else None

abbrev pub moving_word : List ℕ → Option Rewrite
moving_word [] = None
moving_word (b ∷ bs) = if b == 64 then joined_items (slice_split comma bs) else None

abbrev pub begins_with_at : List ℕ → Bool
begins_with_at [] = false
begins_with_at (b ∷ bs) = b == 64

abbrev pub letters_or_moves : List ℕ → Option Rewrite
letters_or_moves word = if begins_with_at word then moving_word word else rewrite_word word

-- each old bit, from this place on, is that of its own place
abbrev pub stays : ℕ → Rewrite → Bool
stays place [] = true
stays place (Set bit ∷ items) = stays (place + 1) items
stays place (Old old ∷ items) = (old == place) && stays (place + 1) items

abbrev pub item_text : ℕ → Item → List ℕ
item_text place (Set bit) = bit_letter bit ∷ []
item_text place (Old old) = if old == place then 45 ∷ [] else 98 ∷ decimal old

abbrev pub item_texts : ℕ → Rewrite → List (List ℕ)
item_texts place [] = []
item_texts place (item ∷ items) = item_text place item ∷ item_texts (place + 1) items

abbrev pub moving_text : Rewrite → List ℕ
moving_text rewrite = 64 ∷ join_with_byte 44 (item_texts 1 rewrite)

abbrev pub rewrite_text : Rewrite → List ℕ
rewrite_text rewrite = if stays 1 rewrite then letters_text rewrite else moving_text rewrite
