-- The room that an outbox takes of what a manager is told of a client.
use Rattle.std.specs.Prelude.{ℕ, ◌+◌, ◌*◌, length}
use Rattle.ccd_files.specs.declared.client_file.Ccd.{Ccd}

-- the most bytes of the line that says that a client is established: 20 and the digits of its number
abbrev pub established_bytes : ℕ
established_bytes = 40

-- of that with its address: 16, the digits, 3 for the commas and the 1, and an address
abbrev pub address_bytes : ℕ
address_bytes = 54

-- of that with a network of its file: the same, a slash and a length
abbrev pub network_bytes : ℕ
network_bytes = 58

-- of that with its end: 19 and the digits
abbrev pub disconnect_bytes : ℕ
disconnect_bytes = 39

-- how many effects the lines for a client of this file are
abbrev pub lines_effects : Ccd → ℕ
lines_effects file = 2 + length file.iroutes

-- the most bytes that they have together
abbrev pub lines_bytes : Ccd → ℕ
lines_bytes file = established_bytes + address_bytes + network_bytes * length file.iroutes
