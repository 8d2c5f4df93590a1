-- How large a network, a walk and a table may be.
use Rattle.std.specs.Prelude.{ℕ}

-- bits of a header
abbrev pub most_bits : ℕ
most_bits = 128

abbrev pub most_boxes : ℕ
most_boxes = 4096

abbrev pub most_ports : ℕ
most_ports = 16384

abbrev pub most_terminals : ℕ
most_terminals = 256

abbrev pub most_rules : ℕ
most_rules = 65536

-- permits of one terminal
abbrev pub most_permits : ℕ
most_permits = 64

-- forbidden patterns of one terminal
abbrev pub most_forbids : ℕ
most_forbids = 64

-- rules that a header may meet on its way
abbrev pub most_hops : ℕ
most_hops = 255

-- entries of a table
abbrev pub most_entries : ℕ
most_entries = 1048576
