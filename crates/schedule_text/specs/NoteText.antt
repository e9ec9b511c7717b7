-- Notes as the words of a line.
use Rattle.std.specs.Prelude.{ℕ, List, [], ◌∷◌, ◌++◌, codes, Option, Some, None}
use Rattle.std.specs.Fmt.{decimal}
use Rattle.hex.specs.Hex.{encode_lower}
use Rattle.vpn_base.specs.declared.names.Cid.{Cid}
use Rattle.vpn_base.specs.declared.names.Cause.{Cause}
use Rattle.vpn_base.specs.declared.names.Cause.TheVariants as causes
use Rattle.vpn_base.specs.declared.names.Freshness.{Freshness}
use Rattle.vpn_base.specs.declared.names.Freshness.TheVariants as ids
use Rattle.vpn_base.specs.declared.names.Malformed.{Malformed}
use Rattle.vpn_base.specs.declared.names.Malformed.TheVariants as forms
use Rattle.vpn_base.specs.Address.{ip4_text}
use Rattle.address_text.specs.AddressText.{addr_text}
use Rattle.vpn_links.specs.declared.notes.Note.{Note}
use Rattle.vpn_links.specs.declared.notes.Note.TheVariants as notes

-- words, each with a space before it
abbrev pub behind : List (List ℕ) → List ℕ
behind [] = []
behind (word ∷ words) = 32 ∷ (word ++ behind words)

-- bytes in hexadecimal, with small letters, and `-` for none
abbrev pub hex_text : List ℕ → List ℕ
hex_text [] = codes "-"
hex_text (b ∷ bytes) = encode_lower (b ∷ bytes)

-- what is wrong with a packet
abbrev pub form_word : Malformed → List ℕ
form_word forms.Empty = codes "empty"
form_word (forms.Opcode first) = codes "opcode"
form_word forms.Short = codes "short"
form_word forms.Acks = codes "acks"
form_word forms.NoRemote = codes "no-remote"

-- the first byte, if there is one
abbrev pub first_word : Option ℕ → List ℕ
first_word None = codes "-"
first_word (Some b) = encode_lower (b ∷ [])

-- how fresh an id is
abbrev pub freshness_word : Freshness → List ℕ
freshness_word ids.Fresh = codes "fresh"
freshness_word ids.Zero = codes "zero"
freshness_word ids.Old = codes "old"
freshness_word ids.Seen = codes "seen"
freshness_word ids.Late = codes "late"

-- who sent a packet: a client, or the packet device
abbrev pub sender_word : Option Cid → List ℕ
sender_word None = codes "device"
sender_word (Some cid) = decimal cid.0

-- who owns an address, if anybody does
abbrev pub owner_word : Option Cid → List ℕ
owner_word None = codes "none"
owner_word (Some cid) = decimal cid.0

-- why a client has ended
abbrev pub cause_word : Cause → List ℕ
cause_word causes.HandWindow = codes "hand-window"
cause_word causes.PingRestart = codes "ping-restart"
cause_word causes.EngineDown = codes "engine-down"
cause_word causes.NameChanged = codes "name-changed"
cause_word causes.BadName = codes "bad-name"
cause_word causes.NoCipher = codes "no-cipher"
cause_word (causes.BadMessage place) = codes "bad-message"
cause_word causes.Unread = codes "unread"
cause_word causes.TextFull = codes "text-full"
cause_word causes.WrapSpent = codes "wrap-spent"
cause_word causes.Disabled = codes "disabled"
cause_word causes.NoCcd = codes "no-ccd"
cause_word causes.CcdFailed = codes "ccd-failed"
cause_word (causes.CcdRefused line) = codes "ccd-refused"
cause_word causes.PoolEmpty = codes "pool-empty"
cause_word (causes.Replaced by) = codes "replaced"
cause_word causes.Killed = codes "killed"
cause_word causes.AuthFailed = codes "auth-failed"
cause_word causes.Restart = codes "restart"
cause_word causes.HaltTold = codes "halt-told"
cause_word causes.PushRefused = codes "push-refused"

-- what a cause says beside
abbrev pub cause_field : Cause → Option ℕ
cause_field (causes.BadMessage place) = Some place
cause_field (causes.CcdRefused line) = Some line
cause_field (causes.Replaced by) = Some by.0
cause_field _ = None

-- the same as words
abbrev pub field_words : Option ℕ → List (List ℕ)
field_words None = []
field_words (Some n) = decimal n ∷ []

-- the word that names a note
abbrev pub note_word : Note → List ℕ
note_word (notes.Malformed kind first) = codes "malformed"
note_word notes.NotWrapped = codes "not-wrapped"
note_word (notes.Replayed time id) = codes "replayed"
note_word (notes.UnknownPeer peer) = codes "unknown-peer"
note_word (notes.UnknownSession sid) = codes "unknown-session"
note_word (notes.UnknownConn conn) = codes "unknown-conn"
note_word (notes.Full most) = codes "full"
note_word (notes.BadKey cid kid) = codes "bad-key"
note_word (notes.NotSealed cid) = codes "not-sealed"
note_word (notes.Stale cid kind id greatest) = codes "stale"
note_word (notes.Ping cid) = codes "ping"
note_word (notes.NotIp from) = codes "not-ip"
note_word (notes.TooLong from) = codes "too-long"
note_word (notes.Multicast from) = codes "multicast"
note_word (notes.BadSource cid owner) = codes "bad-source"
note_word notes.NoRoute = codes "no-route"
note_word (notes.KeySpent cid) = codes "key-spent"
note_word (notes.QueueFull cid) = codes "queue-full"
note_word (notes.Moved cid to) = codes "moved"
note_word (notes.NotLearned cid host) = codes "not-learned"
note_word (notes.Ignored cid) = codes "ignored"
note_word (notes.Unasked cid) = codes "unasked"
note_word notes.NotUp = codes "not-up"
note_word (notes.Ended cid cause) = codes "ended"
note_word notes.NoMemory = codes "no-memory"

-- what a note says beside
abbrev pub note_fields : Note → List (List ℕ)
note_fields (notes.Malformed kind first) = form_word kind ∷ first_word first ∷ []
note_fields notes.NotWrapped = []
note_fields (notes.Replayed time id) = decimal time ∷ decimal id ∷ []
note_fields (notes.UnknownPeer peer) = decimal peer ∷ []
note_fields (notes.UnknownSession sid) = hex_text sid.0 ∷ []
note_fields (notes.UnknownConn conn) = decimal conn.0 ∷ []
note_fields (notes.Full most) = decimal most ∷ []
note_fields (notes.BadKey cid kid) = decimal cid.0 ∷ decimal kid ∷ []
note_fields (notes.NotSealed cid) = decimal cid.0 ∷ []
note_fields (notes.Stale cid kind id greatest) = decimal cid.0 ∷ freshness_word kind ∷ decimal id ∷ decimal greatest ∷ []
note_fields (notes.Ping cid) = decimal cid.0 ∷ []
note_fields (notes.NotIp from) = sender_word from ∷ []
note_fields (notes.TooLong from) = sender_word from ∷ []
note_fields (notes.Multicast from) = sender_word from ∷ []
note_fields (notes.BadSource cid owner) = decimal cid.0 ∷ owner_word owner ∷ []
note_fields notes.NoRoute = []
note_fields (notes.KeySpent cid) = decimal cid.0 ∷ []
note_fields (notes.QueueFull cid) = decimal cid.0 ∷ []
note_fields (notes.Moved cid to) = decimal cid.0 ∷ addr_text to ∷ []
note_fields (notes.NotLearned cid host) = decimal cid.0 ∷ ip4_text host ∷ []
note_fields (notes.Ignored cid) = decimal cid.0 ∷ []
note_fields (notes.Unasked cid) = decimal cid.0 ∷ []
note_fields notes.NotUp = []
note_fields (notes.Ended cid cause) = decimal cid.0 ∷ cause_word cause ∷ field_words (cause_field cause)
note_fields notes.NoMemory = []

-- a note
abbrev pub note_words : Note → List (List ℕ)
note_words note = note_word note ∷ note_fields note
