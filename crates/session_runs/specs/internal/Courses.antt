-- A session and its outbox in the middle of a run.
use Rattle.std.specs.Prelude.{◌≡◌, ◌++◌, List}
use Rattle.vpn_links.specs.Actions.{Action, Contents, Datagram, Holds}
use Rattle.tls_crypt.specs.Packets.{Packet}
use Rattle.tls_crypt.specs.declared.wrapping.Opened.{Opened}
use Rattle.peer_table.specs.Outboxes.{GoesOnUnlessOver}
use Rattle.peer_table.specs.Peer.{Peer}
use Rattle.session_runs.specs.declared.runs.Progress.{Progress}
use Rattle.session_runs.specs.declared.runs.SessionAnswer.{SessionAnswer}
use Rattle.session_runs.specs.declared.runs.SessionAnswer.TheVariants as answers
use Rattle.session_runs.specs.Runs.{Coming, Course}

-- a control packet that was unwrapped
abbrev pub opened_packet : Opened → Packet
opened_packet o = record { first = o.first; sid = o.sid.0; id = o.id; time = o.time; plain = o.plain.now }

-- the session stands for the client after an event, the outbox has what was there before and then what was done, and this is the answer
pub record HasCome {S : Type 0} (means : S → Peer → Type 0) (session : S) (before after : Contents) (answer : SessionAnswer) (o : Coming) : Type 0 where
  pub peer : means session o.peer
  pub outbox : Holds after (before.effects ++ o.effects) (before.staged ++ o.staged)
  pub answer_is : answer ≡ o.answer

-- the session goes on, unless the turn is over
abbrev pub GoesOnUntil : Type 0 → SessionAnswer → Type 0
GoesOnUntil goes_on (answers.Turn turn) = GoesOnUnlessOver goes_on turn
GoesOnUntil goes_on answer = goes_on

-- session, outbox and answers are as the course says, behind what stood in the outbox before the run
pub record IsAt {S : Type 0} (means : S → Peer → Type 0) (run : Progress S) (out : Contents) (effects : List Action) (staged : List Datagram) (c : Course) : Type 0 where
  pub peer : means run.session c.peer
  pub latest : run.latest ≡ c.latest
  pub over : run.is_over ≡ c.is_over
  pub answers : run.answers.items ≡ c.answers
  pub outbox : Holds out (effects ++ c.effects) (staged ++ c.staged)
