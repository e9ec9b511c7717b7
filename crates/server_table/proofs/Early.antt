-- What is done for an event is no refusal that comes before anything is done: the note of one does not stand among the effects.
use Rattle.std.proofs.Common.{◌≡◌, ℕ, Bool, true, false, List, [], ◌∷◌, ◌++◌, map, Option, Some, None, refl, ap, ◌∙◌}
use Rattle.std.specs.Prelude.{◌||◌}
use Rattle.std.specs.List.{list_any}
use Rattle.std.proofs.lemmas.List.Folds.{list_any-append}
use Rattle.vpn_base.specs.declared.names.Cause.{Cause}
use Rattle.vpn_base.specs.declared.names.Role.{Role}
use Rattle.vpn_links.specs.Actions.{Action, Configure, Device, EngineClose, EngineOpen, EnginePut, EngineWrite, Ask, Report, Say, Stop, Wire, on_wire}
use Rattle.peer_table.specs.Outboxes.{actions_of}
use Rattle.peer_table.specs.Peer.{Closes, Doing, Opens, Outcome, Puts, Writes}
use Rattle.peer_table.specs.Time.{closings}
use Rattle.peer_table.specs.declared.outcomes.Turn.{Turn}
use Rattle.peer_table.specs.declared.outcomes.Turn.TheVariants.{Exchange, Going, Ignored, Named, Over}
use Rattle.server_table.specs.Courses.{Course, Staged, acted, outs}
use Rattle.server_table.specs.Endings.{disconnect_line, ended, ended_as, turned}
use Rattle.server_table.specs.Lookups.{client_here}
use Rattle.server_table.specs.Runs.{is_early_note, is_refusal}
use Rattle.server_table.specs.Table.{Client, Established}

-- the note of an event that was refused before anything was done
abbrev pub is_early : Action → Bool
is_early (Report note) = is_early_note note
is_early action = false

abbrev pub NoneEarly : List Action → Type 0
NoneEarly effects = list_any is_early effects ≡ false

or_none : (a b : Bool) → a ≡ false → b ≡ false → (a || b) ≡ false
or_none true b is none = is
or_none false b is none = none

or_first : (a b : Bool) → (a || b) ≡ false → a ≡ false
or_first true b is = is
or_first false b is = refl

pub none_append : (done more : List Action) → NoneEarly done → NoneEarly more → NoneEarly (done ++ more)
none_append done more none none_more =
    list_any-append is_early done more ∙ or_none (list_any is_early done) (list_any is_early more) none none_more

pub none_done : (role : Role) (doings : List Doing) → NoneEarly (actions_of role doings)
none_done role [] = refl
none_done role (Opens conn ∷ doings) = none_done role doings
none_done role (Puts conn bytes ∷ doings) = none_done role doings
none_done role (Writes conn bytes ∷ doings) = none_done role doings
none_done role (Closes conn ∷ doings) = none_done role doings

none_wired : (staged : List Staged) → NoneEarly (map (λ (s : Staged). on_wire s.datagram) staged)
none_wired [] = refl
none_wired (s ∷ staged) = none_wired staged

not_refused : (effects : List Action) → NoneEarly effects → is_refusal effects ≡ false
not_refused [] none = refl
not_refused (Report note ∷ []) none = or_first (is_early_note note) false none
not_refused (Report note ∷ action ∷ effects) none = refl
not_refused (Wire to bytes ∷ effects) none = refl
not_refused (EngineOpen conn role ∷ effects) none = refl
not_refused (EnginePut conn bytes ∷ effects) none = refl
not_refused (EngineWrite conn bytes ∷ effects) none = refl
not_refused (EngineClose conn ∷ effects) none = refl
not_refused (Device bytes ∷ effects) none = refl
not_refused (Configure address len gateway routes rest ∷ effects) none = refl
not_refused (Ask cid name ∷ effects) none = refl
not_refused (Say bytes ∷ effects) none = refl
not_refused (Stop ∷ effects) none = refl

none_told : (n : ℕ) (e : Option Established) → NoneEarly (disconnect_line n e)
none_told n None = refl
none_told n (Some e) = refl

pub none_ended : (n : ℕ) (cause : Cause) (c : Course) → NoneEarly c.effects → NoneEarly (ended n cause c).effects
unfolding ended
none_ended n cause c none = by_client (client_here c.table n)
  where
    by_client : (o : Option Client) → NoneEarly (ended_as n cause c o).effects
    by_client None = none
    by_client (Some x) =
        none_append c.effects _ none
        (none_append (disconnect_line n x.established) _ (none_told n x.established) (none_done x.session.role (closings x.session.sessions)))

pub none_turned : (n : ℕ) (turn : Turn) (c : Course) → NoneEarly c.effects → NoneEarly (turned n turn c).effects
none_turned n Going c none = none
none_turned n Ignored c none = none
none_turned n Named c none = none
none_turned n Exchange c none = none
none_turned n (Over cause) c none = none_ended n cause c none

-- no course that comes of this one has such a note, where it has none
abbrev pub KeepsNone : Course → Course → Type 0
KeepsNone c then = NoneEarly c.effects → NoneEarly then.effects

pub none_acted : {A : Type 0} (n : ℕ) (x : Client) (o : Outcome A) (c : Course) → KeepsNone c (acted n x.address o c)
none_acted n x o c none = none_append c.effects _ none (none_done o.peer.role o.doings)

pub no_refusal : (c : Course) → NoneEarly c.effects → is_refusal (outs c) ≡ false
no_refusal c none =
    not_refused (outs c) (none_append c.effects (map (λ (s : Staged). on_wire s.datagram) c.staged) none (none_wired c.staged))

-- a course that has just begun has none
pub none_begun : (c : Course) → c.effects ≡ [] → NoneEarly c.effects
none_begun c fresh = ap (list_any is_early) fresh
