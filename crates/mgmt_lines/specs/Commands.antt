-- The commands of the management console (OpenVPN 2.6, doc/management-notes.txt; that these are all of them is this
-- profile's own).
use Rattle.std.specs.Prelude.{ℕ, nat_lt, List, [], ◌∷◌, length, codes, Option, Some, None, Result, Ok, Err, if◌then◌else◌}
use Rattle.std.specs.Str.{bytes_eq}
use Rattle.vpn_base.specs.declared.address.Addr.{Addr}
use Rattle.vpn_base.specs.Number.{number_of}
use Rattle.address_text.specs.AddressText.{addr_of}
use Rattle.vpn_text.specs.declared.words.LineFault.{LineFault}
use Rattle.vpn_text.specs.Words.{line_words}
use Rattle.mgmt_lines.specs.declared.commands.Name.{Name}
use Rattle.mgmt_lines.specs.declared.commands.Name.TheVariants as names
use Rattle.mgmt_lines.specs.declared.commands.Command.{Command}
use Rattle.mgmt_lines.specs.declared.commands.Command.TheVariants as commands
use Rattle.mgmt_lines.specs.declared.commands.CommandFault.{CommandFault}
use Rattle.mgmt_lines.specs.declared.commands.CommandFault.TheVariants.{Unknown, Arguments, TooLong}

-- the command that a line's first word names
unfoldable pub name_of : List ℕ → Name
name_of word =
    if bytes_eq word (codes "help") then names.Help
    else if bytes_eq word (codes "version") then names.Version
    else if bytes_eq word (codes "status") then names.Status
    else if bytes_eq word (codes "load-stats") then names.LoadStats
    else if bytes_eq word (codes "kill") then names.Kill
    else if bytes_eq word (codes "client-kill") then names.ClientKill
    else if bytes_eq word (codes "bytecount") then names.Bytecount
    else if bytes_eq word (codes "signal") then names.Signal
    else names.Other

-- no arguments
abbrev pub alone : Command → List (List ℕ) → Result Command CommandFault
alone command [] = Ok command
alone command (word ∷ words) = Err Arguments

-- at most the version of the text, which is 2
abbrev pub status_in : List (List ℕ) → Result Command CommandFault
status_in [] = Ok commands.Status
status_in (version ∷ []) = if bytes_eq version (codes "2") then Ok commands.Status else Err Arguments
status_in _ = Err Arguments

-- a kill of those at this address, or else of those with this name
abbrev pub kill_of : List ℕ → Option Addr → Command
kill_of word (Some addr) = commands.KillAddr addr
kill_of word None = commands.KillName word

-- one word: IP:PORT is an address, any other word a name
abbrev pub kill_in : List (List ℕ) → Result Command CommandFault
kill_in (word ∷ []) = Ok (kill_of word (addr_of word))
kill_in _ = Err Arguments

-- a kill of the client of this number
abbrev pub client_kill_of : Option ℕ → Result Command CommandFault
client_kill_of (Some n) = Ok (commands.ClientKill (record { 0 = n }))
client_kill_of None = Err Arguments

-- CID: a number of 64 bits
abbrev pub client_kill_in : List (List ℕ) → Result Command CommandFault
client_kill_in (cid ∷ []) = client_kill_of (number_of 18446744073709551615 cid)
client_kill_in _ = Err Arguments

-- an interval in seconds
abbrev pub bytecount_of : Option ℕ → Result Command CommandFault
bytecount_of (Some n) = Ok (commands.Bytecount n)
bytecount_of None = Err Arguments

-- N: 0 to 86,400 seconds, which are a day
abbrev pub bytecount_in : List (List ℕ) → Result Command CommandFault
bytecount_in (interval ∷ []) = bytecount_of (number_of 86400 interval)
bytecount_in _ = Err Arguments

-- SIGTERM, the only signal
abbrev pub signal_in : List (List ℕ) → Result Command CommandFault
signal_in (signal ∷ []) = if bytes_eq signal (codes "SIGTERM") then Ok commands.Terminate else Err Arguments
signal_in _ = Err Arguments

-- the command of this name with these arguments
abbrev pub command_of : Name → List (List ℕ) → Result Command CommandFault
command_of names.Help words = alone commands.Help words
command_of names.Version words = alone commands.Version words
command_of names.Status words = status_in words
command_of names.LoadStats words = alone commands.LoadStats words
command_of names.Kill words = kill_in words
command_of names.ClientKill words = client_kill_in words
command_of names.Bytecount words = bytecount_in words
command_of names.Signal words = signal_in words
command_of names.Other words = Err Unknown

-- the command of some words; none are a blank line
abbrev pub command_in : List (List ℕ) → Result Command CommandFault
command_in [] = Ok commands.Blank
command_in (word ∷ words) = command_of (name_of word) words

-- the command of a line's words; a line that has no words for a fault is unknown
abbrev pub command_from : Result (List (List ℕ)) LineFault → Result Command CommandFault
command_from (Ok words) = command_in words
command_from (Err fault) = Err Unknown

-- the command of a line, which has at most 256 bytes
unfoldable pub command : List ℕ → Result Command CommandFault
command line = if nat_lt 256 (length line) then Err TooLong else command_from (line_words line)
