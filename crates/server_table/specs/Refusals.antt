-- Packets and answers that are refused with nothing done.
use Rattle.std.specs.Prelude.{Bool, true, false, List, [], ◌∷◌}
use Rattle.vpn_links.specs.Actions.{Action, Report}
use Rattle.vpn_links.specs.declared.notes.Note.{Note}
use Rattle.vpn_links.specs.declared.notes.Note.TheVariants as notes

-- a note of what was refused with nothing done: it is no packet, it is of no client, or its client has seen it or has no use for it
abbrev pub is_refusing_note : Note → Bool
is_refusing_note (notes.Malformed kind first) = true
is_refusing_note notes.NotWrapped = true
is_refusing_note (notes.UnknownSession sid) = true
is_refusing_note (notes.UnknownPeer peer) = true
is_refusing_note (notes.UnknownConn conn) = true
is_refusing_note (notes.Full most) = true
is_refusing_note (notes.Replayed time id) = true
is_refusing_note (notes.NotSealed cid) = true
is_refusing_note (notes.Unasked cid) = true
is_refusing_note _ = false

-- such a note, and nothing else
abbrev pub is_refused : List Action → Bool
is_refused (Report note ∷ []) = is_refusing_note note
is_refused _ = false
