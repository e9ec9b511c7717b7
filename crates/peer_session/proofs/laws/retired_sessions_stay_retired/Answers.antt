use Rattle.std.proofs.Common.{refl, sym, ◌∙◌, arith}
use Rattle.std.proofs.lemmas.Bool.{false≢true}
use Rattle.std.proofs.lemmas.Option.{none-some}
use Rattle.key_sessions.specs.Slots.{SlotsStand}
use Rattle.session_state.specs.Standing.{PeerStands, RetiredBy}
use Rattle.peer_session.proofs.Retired.{retired_later, retired_stays, usable_are_open}
use Rattle.peer_session.proofs.RetiredCalls.{control_stays, data_stays, engine_stays, message_stays, sealed_stays}
use Rattle.peer_session.proofs.RetiredExchange.{exchange_retired}
use Rattle.peer_session.proofs.RetiredTicks.{began_retired, tick_retired}
use Rattle.peer_session.proofs.laws.retired_sessions_stay_retired.Goals as goal

pub returns-clause-usable : goal.returns-clause-usable
returns-clause-usable g c = usable_are_open

pub returns-clause-later : goal.returns-clause-later
unfolding RetiredBy
returns-clause-later g c = λ since now p is le. retired_later since now p.timers p.sessions le is

pub returns-clause-begins : goal.returns-clause-begins
unfolding RetiredBy
returns-clause-begins g c = λ role wraps own timers conn now. began_retired 0 role wraps own timers conn now

pub returns-clause-control : goal.returns-clause-control
unfolding RetiredBy
returns-clause-control g c = λ at p i is. control_stays (retired_stays at) p i is

pub returns-clause-engine : goal.returns-clause-engine
unfolding RetiredBy
returns-clause-engine g c = λ at kind now p is. engine_stays (retired_stays at) kind now p is

pub returns-clause-exchange : goal.returns-clause-exchange
unfolding RetiredBy
returns-clause-exchange g c = λ at policy peer_id draw p open_one is. exchange_retired at policy peer_id draw p open_one is

pub returns-clause-message : goal.returns-clause-message
unfolding RetiredBy
returns-clause-message g c = λ at p is. message_stays (retired_stays at) p is

pub returns-clause-seals : goal.returns-clause-seals
unfolding RetiredBy
returns-clause-seals g c = λ at inner p is. sealed_stays (retired_stays at) inner p is

pub returns-clause-opens : goal.returns-clause-opens
unfolding RetiredBy
returns-clause-opens g c = λ at datagram moment p is. data_stays (retired_stays at) datagram moment p is

pub returns-clause-tick : goal.returns-clause-tick
unfolding RetiredBy
returns-clause-tick g c = λ since t p is le. tick_retired since t.at t p le (λ n in_time busy one. refl) is

pub returns-clause-none_retired : goal.returns-clause-none_retired
unfolding RetiredBy
returns-clause-none_retired g c = λ since t p none is. tick_retired since since t p (omega arith) (λ n in_time busy one. absurd (none-some n (sym none ∙ one))) is

pub returns-clause-late : goal.returns-clause-late
unfolding RetiredBy
returns-clause-late g c = λ since t p late is. tick_retired since since t p (omega arith) (λ n in_time busy one. absurd (false≢true (sym in_time ∙ late))) is

pub returns-clause-idle : goal.returns-clause-idle
unfolding RetiredBy
returns-clause-idle g c = λ since t p idle is. tick_retired since since t p (omega arith) (λ n in_time busy one. absurd (false≢true (sym busy ∙ idle))) is

pub returns-clause-remembered : goal.returns-clause-remembered
unfolding RetiredBy
returns-clause-remembered g c = λ since after t p is le told. tick_retired since after t p le told is

pub returns-clause-stands : goal.returns-clause-stands
unfolding PeerStands SlotsStand
returns-clause-stands g c = λ wrapped s p stands. (stands.slots_stand.sealing, stands.slots_stand.orderly)
