-- What came from the outside and what was given to it, in order.
use Rattle.std.specs.Prelude.{◌≤◌, Bool, true, false, List, [], ◌∷◌, ◌++◌, length, Option, Some, None, Result, Ok, Err}
use Rattle.vpn_base.specs.declared.errors.Or.{Or}
use Rattle.vpn_base.specs.declared.errors.Or.TheVariants.{Why}
use Rattle.vpn_links.specs.declared.events.Event.{Event}
use Rattle.vpn_links.specs.declared.events.Kind.{Kind}
use Rattle.vpn_links.specs.declared.events.Kind.TheVariants.{Datagram}
use Rattle.vpn_links.specs.declared.links.LinkFault.{LinkFault}
use Rattle.vpn_links.specs.declared.links.LinkFault.TheVariants.{Wire}
use Rattle.vpn_links.specs.Actions.{Action}

-- an effect that was given, and whether it was lost on the line
pub record Given : Type 0 where
  pub action : Action
  pub is_lost : Bool

-- an event that came, and the effects that were given after it
pub record Round : Type 0 where
  pub event : Event
  pub effects : List Given

-- after one more event
abbrev pub came : List Round → Event → List Round
came rounds event = rounds ++ record { event = event; effects = [] } ∷ []

-- after one more effect, which belongs to the last event; before the first event there is none that it could belong to
abbrev pub gave : List Round → Given → List Round
gave [] given = []
gave (r ∷ []) given = record { event = r.event; effects = r.effects ++ given ∷ [] } ∷ []
gave (r ∷ s ∷ rounds) given = r ∷ gave (s ∷ rounds) given

-- after an effect, by what was answered: it was taken, it was lost on the line, or it was not given
abbrev pub after_give : {A : Type 0} → Result A (Or LinkFault) → List Round → Action → List Round
after_give (Ok x) rounds action = gave rounds (record { action = action; is_lost = false })
after_give (Err (Why Wire)) rounds action = gave rounds (record { action = action; is_lost = true })
after_give (Err e) rounds action = rounds

-- the effect of which only a part was taken, by the same: one that was not given, of which nothing or a front may have been taken
abbrev pub part_taken : {A : Type 0} → Result A (Or LinkFault) → Action → Option Action
part_taken (Ok x) action = None
part_taken (Err (Why Wire)) action = None
part_taken (Err e) action = Some action

-- a datagram has at most 65,536 bytes
abbrev pub IsOfLine : Kind → Type 0
IsOfLine (Datagram from bytes) = length bytes ≤ 65536
IsOfLine _ = Unit {0}
