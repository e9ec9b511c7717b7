-- The line that is written to the error output for each refusal.
use Rattle.std.specs.Prelude.{ℕ, List, [], ◌∷◌, ◌++◌, codes}
use Rattle.std.specs.Fmt.{decimal}
use Rattle.schedule_text.specs.declared.kind.TextKind.{TextKind}
use Rattle.schedule_text.specs.declared.kind.TextKind.TheVariants as kinds
use Rattle.vpn_text.specs.declared.config.ConfigKind.{ConfigKind}
use Rattle.vpn_text.specs.declared.config.ConfigKind.TheVariants as config_kinds
use Rattle.tls_crypt.specs.declared.static_key.KeyKind.{KeyKind}
use Rattle.tls_crypt.specs.declared.static_key.KeyKind.TheVariants as key_kinds
use Rattle.vpn_top.specs.declared.refusal.Refusal.{Refusal}
use Rattle.vpn_top.specs.declared.refusal.Refusal.TheVariants as refusals

-- the kind of a faulty line of a route file or of a schedule
abbrev pub kind_text : TextKind → List ℕ
kind_text kinds.Header = codes "header"
kind_text kinds.Words = codes "words"
kind_text kinds.Number = codes "number"
kind_text kinds.Address = codes "address"
kind_text kinds.Digits = codes "digits"
kind_text kinds.Long = codes "long"
kind_text kinds.NoEnd = codes "no-end"

-- the kind of a faulty line of a configuration
abbrev pub config_kind_text : ConfigKind → List ℕ
config_kind_text config_kinds.Quote = codes "quote"
config_kind_text config_kinds.Escape = codes "escape"
config_kind_text config_kinds.Control = codes "control"
config_kind_text config_kinds.Long = codes "long"
config_kind_text config_kinds.Unknown = codes "unknown"
config_kind_text config_kinds.Refused = codes "refused"
config_kind_text config_kinds.Arguments = codes "arguments"
config_kind_text config_kinds.Repeated = codes "repeated"
config_kind_text config_kinds.Block = codes "block"
config_kind_text config_kinds.Side = codes "side"
config_kind_text config_kinds.Missing = codes "missing"

-- the kind of a fault in the text of a static key
abbrev pub key_kind_text : KeyKind → List ℕ
key_kind_text key_kinds.NoBegin = codes "no-begin"
key_kind_text key_kinds.Digits = codes "digits"
key_kind_text key_kinds.NoEnd = codes "no-end"

-- a space and the word of a faulty line, if it has one
abbrev pub word_text : List ℕ → List ℕ
word_text [] = []
word_text (c ∷ cs) = 32 ∷ c ∷ cs

-- the line of a refusal, without its line feed; the subject is the name of the file, or the word of the faulty line
abbrev pub refusal_text : List ℕ → Refusal → List ℕ
refusal_text subject refusals.Usage = codes "usage: vpn route|check|replay|server|client|lab"
refusal_text subject (refusals.Line fault) = codes "line " ++ decimal fault.line ++ codes ": " ++ kind_text fault.kind
refusal_text subject (refusals.Config line kind) = codes "line " ++ decimal line ++ codes ": " ++ config_kind_text kind ++ word_text subject
refusal_text subject (refusals.Key fault) = codes "key line " ++ decimal fault.line ++ codes ": " ++ key_kind_text fault.kind
refusal_text subject refusals.NotServer = codes "not a server file"
refusal_text subject (refusals.Schedule line kind) = codes "line " ++ decimal line ++ codes ": " ++ kind_text kind
refusal_text subject refusals.TurnsSpent = codes "turns spent"
refusal_text subject refusals.Missing = codes "missing " ++ subject
refusal_text subject refusals.Unreadable = codes "unreadable " ++ subject
refusal_text subject refusals.Output = codes "output"
refusal_text subject refusals.NoMemory = codes "no memory"

-- the same with its line feed
abbrev pub refusal_line : List ℕ → Refusal → List ℕ
refusal_line subject refusal = refusal_text subject refusal ++ 10 ∷ []

-- the exit status of each refusal
abbrev pub status_of : Refusal → ℕ
status_of refusals.Usage = 1
status_of (refusals.Line fault) = 2
status_of (refusals.Config line kind) = 2
status_of (refusals.Key fault) = 2
status_of refusals.NotServer = 2
status_of (refusals.Schedule line kind) = 5
status_of refusals.TurnsSpent = 7
status_of refusals.Missing = 3
status_of refusals.Unreadable = 3
status_of refusals.Output = 6
status_of refusals.NoMemory = 8
