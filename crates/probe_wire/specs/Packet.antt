-- The packet of a probe.
--     header_field   the width of a header, and the header from the top of sixteen bytes
--     packet         the 33 bytes of a probe
--     IsProbe        a probe's numbers have 32 bits, and its header has 1 to 128
--     IsBadWidth     a width and sixteen bytes that are no header: the width isn't 1 to 128, or a bit past it is 1
use Rattle.std.specs.Prelude.{◌≡◌, ◌≢◌, ℕ, ◌-◌, ◌*◌, ◌%◌, ◌^◌, ◌<◌, ◌≤◌, ◌⊎◌, List, [], ◌∷◌, ◌++◌, length, drop, slice_index}
use Rattle.std.specs.Int.{w32, w128, to_be_bytes, from_be_bytes}
use Rattle.network_model.specs.Bits.{Header, number_of}
use Rattle.probe_wire.specs.declared.probe.Probe.{Probe}

-- a number as four or sixteen bytes, the most significant first
unfoldable pub four_bytes : ℕ → List ℕ
four_bytes n = to_be_bytes w32 n

unfoldable pub sixteen_bytes : ℕ → List ℕ
sixteen_bytes n = to_be_bytes w128 n

-- the number that sixteen bytes spell
unfoldable pub word_of : List ℕ → ℕ
word_of bytes = from_be_bytes w128 bytes

-- a header as the highest bits of a number of 128 bits
abbrev pub aligned : Header → ℕ
aligned header = number_of header * 2 ^ (128 - length header)

abbrev pub header_field : Header → List ℕ
header_field header = length header ∷ sixteen_bytes (aligned header)

-- `ATPG`
abbrev pub mark : List ℕ
mark = 65 ∷ 84 ∷ 80 ∷ 71 ∷ []

-- what stands behind the mark
abbrev pub fields : Probe → List ℕ
fields p = four_bytes p.round ++ (four_bytes p.version ++ (four_bytes p.entry ++ header_field p.header))

abbrev pub packet : Probe → List ℕ
packet p = mark ++ fields p

abbrev pub IsProbe : Probe → Type 0
IsProbe p = (p.round < 2 ^ 32) × (p.version < 2 ^ 32) × (p.entry < 2 ^ 32) × (1 ≤ length p.header) × (length p.header ≤ 128)

unfoldable pub IsBadWidth : List ℕ → Type 0
IsBadWidth field =
    (slice_index field 0 ≡ 0) ⊎ ((128 < slice_index field 0) ⊎ (word_of (drop 1 field) % 2 ^ (128 - slice_index field 0) ≢ 0))
