-- Links of a replay, and the events and effects for which they stand.
use Rattle.std.specs.Prelude.{◌≡◌, ℕ, suc, ◌+◌, ◌-◌, ◌^◌, ◌<◌, ◌⊎◌, nat_le, Bool, true, false, List, [], ◌∷◌, ◌++◌, length, take, map, Option, Some, None, option_map, Result, Ok, Err, if◌then◌else◌}
use Rattle.vpn_base.specs.Files.{Holding, Absent, IsMissing}
use Rattle.vpn_base.specs.Sink.{appended}
use Rattle.vpn_base.specs.declared.errors.Or.{Or}
use Rattle.vpn_base.specs.declared.errors.Or.TheVariants.{Memory, Why}
use Rattle.vpn_links.specs.Actions.{Action}
use Rattle.vpn_links.specs.Faults.{Asking, Giving, LinkCall}
use Rattle.vpn_links.specs.Rounds.{Given, Round}
use Rattle.vpn_links.specs.declared.events.Event.{Event}
use Rattle.vpn_links.specs.declared.events.Kind.TheVariants.{Halt}
use Rattle.vpn_links.specs.declared.links.LinkFault.{LinkFault}
use Rattle.vpn_links.specs.declared.links.LinkFault.TheVariants as faults
use Rattle.schedule_text.specs.EffectLine.{effect_line}
use Rattle.replay_links.specs.declared.reading.LineFault.{LineFault}
use Rattle.replay_links.specs.declared.end.ReplayEnd.{ReplayEnd}
use Rattle.replay_links.specs.declared.end.ReplayEnd.TheVariants as ends
use Rattle.replay_links.specs.Fronts.{IsFrontOf}
use Rattle.replay_links.specs.Schedule.{Spelled, spells}

-- ---- what stands behind them

-- the name of the schedule, what the files hold under each name, and what the sink held at first
pub record Backing : Type 0 where
  pub name : List ℕ
  pub holds : List ℕ → Holding
  pub begun : Option (List ℕ)

-- what was there before the last so many bytes
abbrev pub without_last : List ℕ → ℕ → List ℕ
without_last held written = if nat_le written (length held) then take (length held - written) held else []

-- what a sink held at first, by what it holds and how many bytes were written to it
abbrev pub begun_of : Option (List ℕ) → ℕ → Option (List ℕ)
begun_of contents written = option_map (λ held. without_last held written) contents

-- ---- what they are

-- the links: files and sink, the schedule's name, how many bytes were written, whether the schedule was read, its text, its events that were not given yet and the fault behind them, how many events were given, whether a line was cut by the sink, how often there was no file and a line was refused, and why the last event that was asked for did not come
pub record Replay (F S : Type 0) : Type 0 where
  pub files : F
  pub out : S
  pub name : List ℕ
  pub written : ℕ
  pub is_open : Bool
  pub text : List ℕ
  pub left : List Event
  pub fault : Option LineFault
  pub given : ℕ
  pub is_cut : Bool
  pub missing : ℕ
  pub refused : ℕ
  pub ended : Option ReplayEnd

-- ---- the transcript

-- the lines of effects of the event of this number
abbrev pub effect_lines : ℕ → List Given → List ℕ
effect_lines number [] = []
effect_lines number (g ∷ given) = effect_line number g.action ++ effect_lines number given

-- the lines of events, the first of which has this number
abbrev pub transcript_from : ℕ → List Round → List ℕ
transcript_from number [] = []
transcript_from number (r ∷ rounds) = effect_lines number r.effects ++ transcript_from (suc number) rounds

-- the lines of all
abbrev pub transcript : List Round → List ℕ
transcript rounds = transcript_from 0 rounds

-- of the effect of the last of so many events that was not given whole, if there is one: a front of its line, where the sink cut it, and else nothing
abbrev pub IsFront : Bool → ℕ → Option Action → List ℕ → Type 0
IsFront false count part front = front ≡ []
IsFront true count None front = ⊥
IsFront true count (Some a) front = (number : ℕ) × (n : ℕ) × (number + 1 ≡ count) × (front ≡ take n (effect_line number a))

-- the sink holds what it held at first, then the transcript, then such a front
pub record Wrote (contents : Option (List ℕ)) (written : ℕ) (is_cut : Bool) (part : Option Action) (rounds : List Round) : Type 0 where
  pub front : List ℕ
  pub cut : IsFront is_cut (length rounds) part front
  pub holds : contents ≡ appended (begun_of contents written) (transcript rounds ++ front)

-- ---- the events

-- the events that came
abbrev pub came_in : List Round → List Event
came_in rounds = map (λ r. r.event) rounds

-- all of these end the program
abbrev pub AllHalt : List Event → Type 0
AllHalt [] = Unit {0}
AllHalt (e ∷ events) = (e.kind ≡ Halt) × AllHalt events

-- the events that came are the first of those that are spelled, with these left; or all of them, with no fault behind them, and then ends alone
pub data HasGiven (spelled : Spelled) (came left : List Event) : Type 0 where
  Within : spelled.events ≡ came ++ left → HasGiven spelled came left
  Beyond : (halts : List Event) → came ≡ spelled.events ++ halts → AllHalt halts → left ≡ [] → spelled.fault ≡ None → HasGiven spelled came left

-- the same, and that the schedule is the file's
abbrev pub Came : Holding → Bool → List ℕ → List Event → Option LineFault → List Event → Type 0
Came holding false text left fault came = came ≡ []
Came holding true text left fault came = IsFrontOf holding text × HasGiven (spells text) came left × (fault ≡ (spells text).fault)

-- ---- why no event came

-- the cause of an end: there is no file, it could not be read, or all events were given and this fault stands behind them
abbrev pub Caused : Holding → Bool → List Event → Option LineFault → Option ReplayEnd → Type 0
Caused holding is_open left fault None = Unit {0}
Caused holding is_open left fault (Some ends.Missing) = (is_open ≡ false) × IsMissing holding
Caused holding is_open left fault (Some ends.Failed) = ¬ (holding ≡ Absent)
Caused holding is_open left fault (Some (ends.Refused line kind)) = (is_open ≡ true) × (left ≡ []) × (fault ≡ Some (record { line = line; kind = kind }))

-- a line was refused
abbrev pub IsRefused : Option ReplayEnd → Type 0
IsRefused (Some (ends.Refused line kind)) = Unit {0}
IsRefused _ = ⊥

-- ---- together

-- links of a replay stand for the events that they gave, each with its effects, and for the effect that was not given whole, if there is one
pub record StandsFor {F S : Type 0} (holding : Holding) (contents : Option (List ℕ)) (r : Replay F S) (part : Option Action) (rounds : List Round) : Type 0 where
  pub events : Came holding r.is_open r.text r.left r.fault (came_in rounds)
  pub count : r.given ≡ length rounds
  pub wrote : Wrote contents r.written r.is_cut part rounds
  pub cause : Caused holding r.is_open r.left r.fault r.ended
  pub no_file : 0 < r.missing → r.ended ≡ Some ends.Missing
  pub a_line : 0 < r.refused → IsRefused r.ended

-- the same, by what files and sink tell
abbrev pub ReplayStands : {F S : Type 0} → (F → List ℕ → Holding) → (S → Option (List ℕ)) → Replay F S → Option Action → List Round → Type 0
ReplayStands holds contents r part rounds = StandsFor (holds r.files r.name) (contents r.out) r part rounds

-- what stands behind links of a replay
abbrev pub backing_of : {F S : Type 0} → (F → List ℕ → Holding) → (S → Option (List ℕ)) → Replay F S → Backing
backing_of holds contents r = record { name = r.name; holds = holds r.files; begun = begun_of (contents r.out) r.written }

-- one more than the sink's failures as long as no line is cut, and then just those, unless they can't be counted any more: as it never falls, they rose where a line is cut
abbrev pub before_cut : Bool → ℕ → ℕ
before_cut false out = out + 1
before_cut true out = if nat_le (2 ^ 64 - 1) out then out + 1 else out

-- how often each part failed, by the counts of files and sink; that of parts which a replay does not have tells of a cut line
abbrev pub fault_count : ℕ → ℕ → ℕ → ℕ → ℕ → LinkFault → ℕ
fault_count files out uncut missing refused faults.Input = files + missing
fault_count files out uncut missing refused faults.Output = out
fault_count files out uncut missing refused faults.Schedule = refused
fault_count files out uncut missing refused _ = uncut

-- the same of the links
abbrev pub replay_faults : {F S : Type 0} → (F → ℕ) → (S → ℕ) → Replay F S → LinkFault → ℕ
replay_faults files out r k = fault_count (files r.files) (out r.out) (before_cut r.is_cut (out r.out)) r.missing r.refused k

-- their start never fails; asked for an event, they may have no file, or a line that is refused; given an effect, an output that fails
abbrev pub MayFail : LinkCall → LinkFault → Type 0
MayFail Asking faults.Input = Unit {0}
MayFail Asking faults.Schedule = Unit {0}
MayFail Giving faults.Output = Unit {0}
MayFail call fault = ⊥

-- why the last event did not come, after a call that asked for one
abbrev pub EndsBy : {A : Type 0} → Result A (Or LinkFault) → Option ReplayEnd → Option ReplayEnd → Type 0
EndsBy (Ok x) before now = now ≡ before
EndsBy (Err Memory) before now = now ≡ before
EndsBy (Err (Why faults.Input)) before now = (now ≡ Some ends.Missing) ⊎ (now ≡ Some ends.Failed)
EndsBy (Err (Why faults.Schedule)) before now = IsRefused now
EndsBy (Err (Why _)) before now = ⊥
