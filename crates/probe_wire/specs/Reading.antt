-- The probe that a packet says.
--     spelled     what stands at the places of a packet's fields
--     probe_in    the probe whose packet the bytes are, and none where they are no packet
use Rattle.std.specs.Prelude.{ℕ, ◌-◌, ◌/◌, ◌^◌, Bool, ◌&&◌, nat_lt, nat_le, List, take, drop, length, slice_index, Option, None, Some, if◌then◌else◌}
use Rattle.std.specs.Int.{w32, from_be_bytes}
use Rattle.std.specs.Str.{bytes_eq}
use Rattle.network_model.specs.Bits.{Header}
use Rattle.ternary_bits.specs.Words.{header_of}
use Rattle.probe_wire.specs.declared.probe.Probe.{Probe}
use Rattle.probe_wire.specs.Packet.{word_of, packet}

-- the number that four bytes spell, the most significant first
unfoldable pub number_in : List ℕ → ℕ
number_in bytes = from_be_bytes w32 bytes

-- the header of a width and of the highest bits of sixteen bytes
unfoldable pub header_in : List ℕ → Header
header_in field = header_of (slice_index field 0) (word_of (drop 1 field) / 2 ^ (128 - slice_index field 0))

abbrev pub spelled : List ℕ → Probe
spelled bytes = record {
  round = number_in (take 4 (drop 4 bytes));
  version = number_in (take 4 (drop 8 bytes));
  entry = number_in (take 4 (drop 12 bytes));
  header = header_in (drop 16 bytes);
}

-- its numbers have 32 bits, and its header has 1 to 128
abbrev pub is_probe : Probe → Bool
is_probe p =
    (nat_lt p.round (2 ^ 32) && (nat_lt p.version (2 ^ 32) && nat_lt p.entry (2 ^ 32)))
    && (nat_le 1 (length p.header) && nat_le (length p.header) 128)

abbrev pub read_as : List ℕ → Probe → Option Probe
read_as bytes p = if is_probe p && bytes_eq (packet p) bytes then Some p else None

unfoldable pub probe_in : List ℕ → Option Probe
probe_in bytes = read_as bytes (spelled bytes)
