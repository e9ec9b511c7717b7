-- The text that a run reads is the text of the packets that come in it.
use Rattle.std.proofs.Common.{◌≡◌, ℕ, List, [], ◌∷◌, ◌++◌, Option, Some, None, Result, Ok, Err, ap, sym, subst, ◌∙◌, refl}
use Rattle.std.specs.List.{concat, cons_option}
use Rattle.std.proofs.lemmas.List.{append-nil}
use Rattle.vpn_base.specs.declared.names.Conn.{Conn}
use Rattle.vpn_base.specs.declared.names.Malformed.{Malformed}
use Rattle.vpn_base.specs.declared.names.Sid.{Sid}
use Rattle.opcode_codec.specs.declared.opcodes.Opcode.{Opcode}
use Rattle.opcode_codec.specs.ControlText.{ControlForm, control_of}
use Rattle.tls_crypt.specs.Packets.{Wrapping}
use Rattle.reliable_recv.specs.Receiving.{Arrival, Receiving, all_taken, in_order, taken_after, text, text_of}
use Rattle.control_link.specs.declared.runs.LinkEvent.{LinkEvent}
use Rattle.control_link.specs.declared.runs.LinkEvent.TheVariants.{Say, Packet, Tick}
use Rattle.control_link.specs.declared.runs.LinkSetup.{LinkSetup}
use Rattle.control_link.specs.Envelope.{EnvelopeHistory, envelope_begun}
use Rattle.control_link.specs.Links.{Link, link_begun}
use Rattle.control_link.specs.Calls.{Outcome, after_text, next_text, received, said, ticked}
use Rattle.control_link.specs.Reading.{IsReadUp, NothingWaits, read_here, read_with, taken_with, text_read_of, texts_here, texts_with}
use Rattle.control_link.specs.Runs.{Course, EventAt, after_event, after_events, arrival_if, arrivals_in, brought, brought_by, course_begun, course_of, event_comes, packet_comes}
use Rattle.control_link.proofs.TextLaws.{IsGiven}

-- what the law on reading says
pub record Gives : Type 0 where
  pub begun : (conn : Conn) (kid : ℕ) (first : Opcode) (timeout : ℕ) → NothingWaits (link_begun conn kid first timeout)
  pub none : (l : Link) → NothingWaits l → next_text l ≡ None
  pub still : (l : Link) → NothingWaits l → after_text l ≡ l
  pub whole : (l : Link) → NothingWaits l → text_read_of l ≡ text l.receiving.taken
  pub given : (l : Link) (h : EnvelopeHistory) (v : ControlForm) (remote : Sid) (now : ℕ) → NothingWaits l →
      IsGiven l (read_here 12 (received l h v remote now).link) (texts_here 12 (received l h v remote now).link) v.id v.payload
  pub said : (l : Link) (h : EnvelopeHistory) (bytes : List ℕ) (remote : Sid) (now : ℕ) → (said l h bytes remote now).link.receiving ≡ l.receiving
  pub ticked : (l : Link) (h : EnvelopeHistory) (remote : Sid) (now : ℕ) → (ticked l h remote now).link.receiving ≡ l.receiving

-- what is taken where something may have come
abbrev pub taken_by : List Arrival → Option Arrival → List Arrival
taken_by taken None = taken
taken_by taken (Some a) = taken_after taken a

-- what reading leaves and gives after an event
record IsMore (l m : Link) (a : Option Arrival) : Type 0 where
  text : text_read_of (read_here 12 m) ≡ text_read_of l ++ concat (texts_here 12 m)
  taken : (read_here 12 m).receiving.taken ≡ taken_by l.receiving.taken a
  up : NothingWaits (read_here 12 m)

-- where nothing was put, nothing is read
reads_nothing : Gives → (m : Link) → NothingWaits m → read_here 12 m ≡ m
unfolding read_here
reads_nothing law m up = ap (λ (o : Option (List ℕ)). read_with o (after_text m) (read_here 11 (after_text m))) (law.none m up) ∙ law.still m up

gives_nothing : Gives → (m : Link) → NothingWaits m → texts_here 12 m ≡ []
unfolding texts_here
gives_nothing law m up = ap (λ (o : Option (List ℕ)). texts_with o (texts_here 11 (after_text m))) (law.none m up)

no_more : Gives → (l m : Link) → NothingWaits l → m.receiving ≡ l.receiving → IsMore l m None
no_more law l m up same =
    let still : NothingWaits m = subst IsReadUp (sym same) up in
    let read = reads_nothing law m still in
    record {
      text =
          ap text_read_of read ∙ ap (λ (r : Receiving). text_read_of (record m { receiving = r })) same
          ∙ sym (ap (λ (t : List (List ℕ)). text_read_of l ++ concat t) (gives_nothing law m still) ∙ append-nil (text_read_of l));
      taken = ap (λ (k : Link). k.receiving.taken) read ∙ ap (λ (r : Receiving). r.taken) same;
      up = subst NothingWaits (sym read) still;
    }

taken_same : (taken : List Arrival) (id : Option ℕ) (payload : List ℕ) → taken_with taken id payload ≡ taken_by taken (arrival_if id payload)
taken_same taken None payload = refl
taken_same taken (Some id) payload = refl

packet_more : Gives → (read : Result ControlForm Malformed) (l : Link) (h : EnvelopeHistory) (remote : Sid) (now : ℕ) → NothingWaits l → IsMore l (packet_comes l h read remote now).link (brought_by read)
packet_more law (Ok v) l h remote now up =
    let all = law.given l h v remote now up in
    record { text = all.text; taken = all.taken ∙ taken_same l.receiving.taken v.id v.payload; up = all.up }
packet_more law (Err e) l h remote now up = no_more law l l up refl

event_more : Gives → (e : LinkEvent) (l : Link) (h : EnvelopeHistory) (remote : Sid) (now : ℕ) → NothingWaits l → IsMore l (event_comes l h e remote now).link (brought e)
event_more law (Say bytes) l h remote now up = no_more law l (said l h bytes remote now).link up (law.said l h bytes remote now)
event_more law (Packet op plain) l h remote now up = packet_more law (control_of op plain) l h remote now up
event_more law Tick l h remote now up = no_more law l (ticked l h remote now).link up (law.ticked l h remote now)

all_taken_more : (o : Option Arrival) (taken rest : List Arrival) → all_taken taken (cons_option o rest) ≡ all_taken (taken_by taken o) rest
unfolding all_taken
all_taken_more None taken rest = refl
all_taken_more (Some a) taken rest = refl

-- how far a run has come
record IsCourse (c : Course) (arrivals : List Arrival) : Type 0 where
  up : NothingWaits c.link
  taken : c.link.receiving.taken ≡ arrivals
  read : c.text ≡ text_read_of c.link

course_event : Gives → (remote : Sid) (c : Course) (e : EventAt) (taken : List Arrival) → IsCourse c taken → IsCourse (after_event remote c e) (taken_by taken (brought e.0))
unfolding after_event
course_event law remote c e taken at =
    let o : Outcome = event_comes c.link c.envelope e.0 remote e.1.0 in
    let more = event_more law e.0 c.link c.envelope remote e.1.0 at.up in
    record {
      up = more.up;
      taken = more.taken ∙ ap (λ (t : List Arrival). taken_by t (brought e.0)) at.taken;
      read = ap (λ (t : List ℕ). t ++ concat (texts_here 12 o.link)) at.read ∙ sym more.text;
    }

run_text : Gives → (remote : Sid) (events : List EventAt) (c : Course) (taken : List Arrival) → IsCourse c taken → (after_events remote c events).text ≡ text (all_taken taken (arrivals_in events))
unfolding all_taken
run_text law remote [] c taken at = at.read ∙ law.whole c.link at.up ∙ ap text at.taken
run_text law remote (e ∷ events) c taken at =
    run_text law remote events (after_event remote c e) (taken_by taken (brought e.0)) (course_event law remote c e taken at)
    ∙ ap text (sym (all_taken_more (brought e.0) taken (arrivals_in events)))

no_text : text [] ≡ []
unfolding text in_order
no_text = refl

-- the text of a run from the beginning
pub course_text : Gives → (wraps : Wrapping) (setup : LinkSetup) (events : List EventAt) → (course_of wraps setup events).text ≡ text_of (arrivals_in events)
unfolding course_of text_of
course_text law wraps setup events =
    let l : Link = link_begun setup.conn setup.kid setup.first setup.timeout_secs in
    let up = law.begun setup.conn setup.kid setup.first setup.timeout_secs in
    run_text law setup.remote events (course_begun l (envelope_begun wraps setup.own setup.time 1 0)) []
    (record { up = up; taken = refl; read = sym (law.whole l up ∙ no_text) })
