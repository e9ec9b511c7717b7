-- What a route file prints, and its first fault.
use Rattle.std.specs.Prelude.{ℕ, ◌+◌, ◌^◌, nat_lt, Bool, true, false, List, [], ◌∷◌, ◌++◌, codes, Option, Some, None, Result, Ok, Err, if◌then◌else◌}
use Rattle.std.specs.Fmt.{decimal}
use Rattle.vpn_base.specs.declared.names.Cid.{Cid}
use Rattle.vpn_base.specs.Network.{Network}
use Rattle.route_table.specs.Owner.{Row, owner, without}
use Rattle.inner_verdict.specs.declared.Verdict.{Verdict}
use Rattle.inner_verdict.specs.declared.Verdict.TheVariants as verdicts
use Rattle.inner_verdict.specs.Verdict.{verdict}
use Rattle.schedule_text.specs.declared.kind.TextKind.{TextKind}
use Rattle.schedule_text.specs.declared.kind.TextKind.TheVariants as kinds
use Rattle.schedule_text.specs.declared.route_line.RouteLine.{RouteLine}
use Rattle.schedule_text.specs.declared.route_line.RouteLine.TheVariants as lines
use Rattle.schedule_text.specs.RouteLine.{route_line}
use Rattle.route_file.specs.Keys.{PacketKey, key_at, with_key}
use Rattle.vpn_base.specs.Lines.{Line, lines_of, content, size}
use Rattle.route_file.specs.Seals.{seal_text, unseal_text}

-- the longest file, in bytes
abbrev pub longest_file : ℕ
longest_file = 2 ^ 40

-- what the lines so far have set up
pub record Table : Type 0 where
  pub rows : List Row
  pub subnet : Option Network
  pub between : Bool
  pub keys : List PacketKey

-- nothing is set up
abbrev pub empty_table : Table
empty_table = record { rows = []; subnet = None; between = false; keys = [] }

-- a client, or none
abbrev pub client_text : Option Cid → List ℕ
client_text None = codes "none"
client_text (Some cid) = decimal cid.0

-- a verdict
abbrev pub verdict_text : Verdict → List ℕ
verdict_text verdicts.NotIp = codes "drop not-ip"
verdict_text verdicts.TooLong = codes "drop too-long"
verdict_text verdicts.Multicast = codes "drop multicast"
verdict_text (verdicts.BadSource found) = codes "drop bad-source " ++ client_text found
verdict_text (verdicts.ToClient target) = codes "to " ++ decimal target.0
verdict_text verdicts.ToDevice = codes "device"
verdict_text verdicts.NoRoute = codes "drop no-route"

-- what a line prints, with its line feed
abbrev pub answer : Table → RouteLine → List ℕ
answer t (lines.Owner a) = codes "owner " ++ client_text (owner t.rows a) ++ 10 ∷ []
answer t (lines.From cid packet) = verdict_text (verdict t.rows t.subnet t.between (Some cid) packet) ++ 10 ∷ []
answer t (lines.Device packet) = verdict_text (verdict t.rows t.subnet t.between None packet) ++ 10 ∷ []
answer t (lines.Seal cid kid id inner) = seal_text (key_at t.keys cid.0 kid) cid.0 kid id inner ++ 10 ∷ []
answer t (lines.Unseal cid kid datagram) = unseal_text (key_at t.keys cid.0 kid) cid.0 kid datagram ++ 10 ∷ []
answer t lines.Blank = []
answer t (lines.Subnet network) = []
answer t lines.Between = []
answer t (lines.Add network cid) = []
answer t (lines.Leave cid) = []
answer t (lines.Key cid kid cipher key iv) = []

-- what a line sets up
abbrev pub after : Table → RouteLine → Table
after t (lines.Subnet network) = record t { subnet = Some network }
after t lines.Between = record t { between = true }
after t (lines.Add network cid) = record t { rows = t.rows ++ (network, cid) ∷ [] }
after t (lines.Leave cid) = record t { rows = without t.rows cid }
after t (lines.Key cid kid cipher key iv) = record t { keys = with_key t.keys (record { cid = cid.0; kid = kid; key = key; iv = iv }) }
after t lines.Blank = t
after t (lines.Owner a) = t
after t (lines.From cid packet) = t
after t (lines.Device packet) = t
after t (lines.Seal cid kid id inner) = t
after t (lines.Unseal cid kid datagram) = t

-- what is printed, and the first faulty line with its fault
pub record Outcome : Type 0 where
  pub printed : List ℕ
  pub fault : Option (ℕ × TextKind)

-- an outcome behind a text that was printed
abbrev pub printed_before : List ℕ → Outcome → Outcome
printed_before text outcome = record outcome { printed = text ++ outcome.printed }

-- a line that ends past the limit of the file is too long
abbrev pub judged : ℕ → Line → Result RouteLine TextKind
judged end line = if nat_lt longest_file end then Err kinds.Long else route_line (content line)

-- the outcome of a line of this number and of the lines behind it
abbrev pub outcome_at : ℕ → Table → Result RouteLine TextKind → (Table → Outcome) → Outcome
outcome_at number t (Err kind) rest = record { printed = []; fault = Some (number, kind) }
outcome_at number t (Ok line) rest = printed_before (answer t line) (rest (after t line))

-- the outcome of lines behind so many lines and bytes
unfoldable pub outcome_from : List Line → ℕ → ℕ → Table → Outcome
outcome_from [] count bytes t = record { printed = []; fault = None }
outcome_from (line ∷ lines) count bytes t =
    outcome_at (count + 1) t (judged (bytes + size line) line) (outcome_from lines (count + 1) (bytes + size line))

-- the outcome of a route file
unfoldable pub routes : List ℕ → Outcome
routes text = outcome_from (lines_of text) 0 0 empty_table
