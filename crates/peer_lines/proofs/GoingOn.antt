-- A link goes on where no end is told.
use Rattle.std.proofs.Common.{◌≡◌, ℕ, zero, suc, Bool, true, false, List, [], Option, Some, None, if◌then◌else◌, refl, sym, ◌∙◌}
use Rattle.std.proofs.lemmas.Option.{none-some}
use Rattle.vpn_base.specs.declared.names.Sid.{Sid}
use Rattle.opcode_codec.specs.ControlText.{ControlForm}
use Rattle.reliable_send.specs.Sending.{is_full, offered}
use Rattle.control_link.specs.declared.link.LinkEnd.TheVariants.{TextFull, WrapSpent}
use Rattle.control_link.specs.Calls.{Outcome, after_text, next_text, received, said, ticked, unchanged, with_ready}
use Rattle.control_link.specs.Envelope.{EnvelopeHistory}
use Rattle.control_link.specs.Links.{Link}
use Rattle.control_link.specs.Reading.{read_here, read_with}
use Rattle.peer_table.specs.ControlPackets.{most_in_order}
use Rattle.peer_table.specs.KeySessions.{Session}
use Rattle.peer_lines.specs.Calls.{GoesOn, begun_sent, due_sent, packet_taken, text_offered}
use Rattle.peer_lines.proofs.Links.{frame_ready, frame_said, frame_ticked}
use Rattle.peer_lines.proofs.Taking.{frame_received}
use Rattle.peer_lines.proofs.Texts.{frame_read}

open_if : (b : Bool) → (if b then Some WrapSpent else None) ≡ None → b ≡ false
open_if true is = absurd (none-some WrapSpent (sym is))
open_if false is = refl

-- where no end is told the wrap ids did not end
IsOpen : Outcome → Type 0
IsOpen o = o.end ≡ None → o.link.spent ≡ false

open_or : (b : Bool) (o p : Outcome) → IsOpen o → IsOpen p → IsOpen (if b then o else p)
unfolding IsOpen
open_or true o p f g = f
open_or false o p f g = g

open_ready : (l : Link) (h : EnvelopeHistory) (ids : List ℕ) (remote : Sid) (now : ℕ) → IsOpen (with_ready l h ids remote now)
unfolding IsOpen
open_ready l h ids remote now = λ is. open_if (with_ready l h ids remote now).link.spent is

open_ticked : (l : Link) (h : EnvelopeHistory) (remote : Sid) (now : ℕ) → IsOpen (ticked l h remote now)
unfolding IsOpen ticked
open_ticked l h remote now = λ is. open_if (ticked l h remote now).link.spent is

open_full : (l : Link) (h : EnvelopeHistory) → IsOpen (unchanged l h (Some TextFull))
unfolding IsOpen
open_full l h = λ is. absurd (none-some TextFull (sym is))

open_said : (l : Link) (h : EnvelopeHistory) (bytes : List ℕ) (remote : Sid) (now : ℕ) → IsOpen (said l h bytes remote now)
unfolding said
open_said l h bytes remote now =
    open_or (is_full l.sending bytes) (unchanged l h (Some TextFull)) (with_ready (record l { sending = offered l.sending bytes }) h [] remote now)
    (open_full l h) (open_ready (record l { sending = offered l.sending bytes }) h [] remote now)

open_received : (l : Link) (h : EnvelopeHistory) (v : ControlForm) (remote : Sid) (now : ℕ) → (received l h v remote now).end ≡ None → (received l h v remote now).link.spent ≡ false
unfolding received
open_received l h v remote now is = open_if (received l h v remote now).link.spent is

-- reading leaves that as it was
spent_text : (l : Link) → (after_text l).spent ≡ l.spent
unfolding after_text
spent_text l = refl

spent_with : (o : Option (List ℕ)) (l a b : Link) → a.spent ≡ l.spent → b.spent ≡ l.spent → (read_with o a b).spent ≡ l.spent
spent_with None l a b f g = f
spent_with (Some payload) l a b f g = g

spent_read : (most : ℕ) (l : Link) → (read_here most l).spent ≡ l.spent
unfolding read_here
spent_read zero l = refl
spent_read (suc most) l =
    spent_with (next_text l) l (after_text l) (read_here most (after_text l)) (spent_text l) (spent_read most (after_text l) ∙ spent_text l)

-- ---- the same of a session

pub packet_goes_on : (s : Session) (h : EnvelopeHistory) (v : ControlForm) (remote : Sid) (now : ℕ) → GoesOn s (packet_taken s h v remote now)
unfolding packet_taken
packet_goes_on s h v remote now = record {
  kid = (frame_read most_in_order (received s.link h v remote now).link).kid ∙ frame_received s.link h v remote now;
  spent = λ is. spent_read most_in_order (received s.link h v remote now).link ∙ open_received s.link h v remote now is;
}

pub text_goes_on : (s : Session) (h : EnvelopeHistory) (bytes : List ℕ) (remote : Sid) (now : ℕ) → GoesOn s (text_offered s h bytes remote now)
unfolding text_offered IsOpen
text_goes_on s h bytes remote now = record { kid = (frame_said s.link h bytes remote now).kid; spent = open_said s.link h bytes remote now }

pub begun_goes_on : (s : Session) (h : EnvelopeHistory) (remote : Sid) (now : ℕ) → GoesOn s (begun_sent s h remote now)
unfolding begun_sent IsOpen
begun_goes_on s h remote now = record { kid = (frame_ready s.link h remote now).kid; spent = open_ready s.link h [] remote now }

pub due_goes_on : (s : Session) (h : EnvelopeHistory) (remote : Sid) (now : ℕ) → GoesOn s (due_sent s h remote now)
unfolding due_sent IsOpen
due_goes_on s h remote now = record { kid = (frame_ticked s.link h remote now).kid; spent = open_ticked s.link h remote now }
