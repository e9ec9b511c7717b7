-- How sending leaves the side, the envelope and the outbox.
use Rattle.std.specs.Prelude.{◌≡◌, ℕ, Bool, true, false, List, [], ◌∷◌, ◌++◌, map, Result, Ok, Err, if◌then◌else◌}
use Rattle.vpn_base.specs.declared.names.Sid.{Sid}
use Rattle.std.specs.Result.{is_err}
use Rattle.packet_ids.specs.declared.sending.Spent.{Spent}
use Rattle.vpn_links.specs.Actions.{Contents, Holds}
use Rattle.reliable_send.specs.Sending.{Sending, Numbered, due, ready}
use Rattle.reliable_send.specs.Sides.{Side, Stands}
use Rattle.tls_crypt.specs.Packets.{Wrapping}
use Rattle.control_link.specs.declared.envelope.Envelope.{Envelope}
use Rattle.control_link.specs.declared.sending.Route.{Route}
use Rattle.control_link.specs.Envelope.{EnvelopeHistory, EnvelopeStands, with_used}
use Rattle.control_link.specs.Messages.{Flush, Head, Message, datagram, flushed, is_spent}
use Rattle.control_link.specs.Links.{Link}
use Rattle.control_link.specs.Calls.{Outcome, after_flush, head_of}

-- what its control packets have in common
abbrev pub head_in : Route → Head
head_in r = record { kid = r.kid; first = r.first; remote = r.remote }

-- one control packet was staged under the next wrap id, or there is none
abbrev pub SentOne : {W : Type 0} → (W → Wrapping) → Envelope W → Contents → Contents → Route → EnvelopeHistory → Message → Result (Unit {0}) Spent → Type 0
SentOne wrapped env before after r h m (Ok done) =
    (is_spent h ≡ false) × EnvelopeStands wrapped env (with_used h)
    × Holds after before.effects (before.staged ++ record { to = r.to; bytes = datagram (head_in r) h m } ∷ [])
SentOne wrapped env before after r h m (Err e) =
    (is_spent h ≡ true) × EnvelopeStands wrapped env h × Holds after before.effects before.staged

-- pieces were sent as a flush says, and the answer tells whether the wrap ids ended
abbrev pub Sent : {W : Type 0} → (W → Wrapping) → Side → Envelope W → Contents → Contents → Route → Flush → Result (Unit {0}) Spent → Type 0
Sent wrapped side env before after r f result =
    Stands side f.sending × EnvelopeStands wrapped env f.envelope
    × Holds after before.effects (before.staged ++ map (λ bytes. record { to = r.to; bytes = bytes }) f.datagrams)
    × (is_err result ≡ f.spent)

-- the pieces that are to be sent: those that are due again, or those that may be sent for the first time
abbrev pub pending : Bool → Sending → ℕ → List Numbered
pending again s now = if again then due s now else ready s

-- all of them are sent
abbrev pub with_pending : Bool → Link → EnvelopeHistory → List ℕ → Sid → ℕ → Outcome
with_pending again l h ids remote now = after_flush l (flushed (head_of l remote) ids now (pending again l.sending now) l.sending h)
