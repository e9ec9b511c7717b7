-- Changes of a course that leave all lines, and put and open nothing; and the calls of a client that change a line.
use Rattle.std.proofs.Common.{◌≡◌, ◌+◌, ℕ, true, false, List, [], ◌∷◌, ◌++◌, Option, Some, None, refl, sym, ap, ◌∙◌, subst, add-zero, append_assoc}
use Rattle.std.specs.Prelude.{slice_get, option_map}
use Rattle.std.proofs.lemmas.Bool.{false≢true}
use Rattle.vpn_base.specs.declared.names.Conn.{Conn}
use Rattle.vpn_links.specs.Actions.{Action, EngineOpen}
use Rattle.reliable_recv.specs.Receiving.{Arrival, begun}
use Rattle.control_link.specs.Reading.{IsReadUp}
use Rattle.peer_table.specs.declared.outcomes.Turn.{Turn}
use Rattle.peer_table.specs.KeySessions.{kid_of}
use Rattle.peer_table.specs.Outboxes.{action_of, actions_of}
use Rattle.peer_table.specs.Peer.{Closes, Doing, Opens, Outcome, Peer, Puts, Writes}
use Rattle.peer_table.specs.Places.{changed_at}
use Rattle.server_table.specs.Table.{Client}
use Rattle.server_table.specs.Lookups.{client_here}
use Rattle.server_table.specs.Courses.{Course, acted, did, opened_by}
use Rattle.control_laws.proofs.Actions.{are_quiet}
use Rattle.control_laws.proofs.Lines.{ItemPut, Line, LinePut, changed_put, client_lines, client_put, get_map, line_at, line_in, lines_in, lines_of, map_append, map_changed, map_put}
use Rattle.control_laws.proofs.Kept.{Before, Kept, KeptParts, begun_line, lines_kept, quiet_kept}
use Rattle.control_laws.proofs.Begins.{begins_kept}
use Rattle.control_laws.proofs.Calls.{BeginsLine, IsQuietCall, are_still, still_opened, still_quiet}
use Rattle.server_table.proofs.Keeps.{here_at, at_place}

-- ---- lines of clients

abbrev pub with_session : Peer → Client → Client
with_session p x = record x { session = p }

-- the line at a place of a client
pub line_there : (clients : List Client) (n k : ℕ) (x : Client) (o : Option Line) → slice_get clients n ≡ Some x → slice_get (client_lines x) k ≡ o → line_at (lines_of clients) n k ≡ o
line_there clients n k x o there at = ap (λ c. line_in c k) (get_map client_lines clients n ∙ ap (λ c. option_map client_lines c) there) ∙ at

-- a line is put among those of a client
pub line_put : (before later : List Client) (n k : ℕ) (x y : Client) (l : Line) → slice_get before n ≡ Some x → ItemPut before later n y → ItemPut (client_lines x) (client_lines y) k l →
    LinePut (lines_of before) (lines_of later) n k l
line_put before later n k x y l there outer inner =
    client_put (lines_of before) (lines_of later) n k (client_lines x) (client_lines y) l (get_map client_lines before n ∙ ap (λ c. option_map client_lines c) there)
    (map_put client_lines before later n y outer) inner

pub acted_put : (clients : List Client) (n k : ℕ) (x : Client) (p : Peer) (l : Line) → slice_get clients n ≡ Some x → ItemPut (client_lines x) (lines_in p) k l →
    LinePut (lines_of clients) (lines_of (changed_at n (with_session p) clients)) n k l
acted_put clients n k x p l there inner = line_put clients (changed_at n (with_session p) clients) n k x (with_session p x) l there (changed_put n (with_session p) clients x there) inner

module _ {brought : ℕ → ℕ → Arrival → Type 0} {base : Before} where
  -- so many connections, by an equation
  pub count_kept : {key : List ℕ} {count later : ℕ} {lines : List (List Line)} {effects : List Action} → later ≡ count →
      KeptParts brought base key count lines effects → KeptParts brought base key later lines effects
  count_kept {key = key} {lines = lines} {effects = effects} same is = subst (λ count. KeptParts brought base key count lines effects) (sym same) is

  -- these effects, by an equation
  pub effects_kept : {key : List ℕ} {count : ℕ} {lines : List (List Line)} {effects later : List Action} → later ≡ effects →
      KeptParts brought base key count lines effects → KeptParts brought base key count lines later
  effects_kept {key = key} {count = count} {lines = lines} same is = subst (λ effects. KeptParts brought base key count lines effects) (sym same) is

  -- one effect more, that puts and opens nothing
  pub did_kept : (action : Action) (c : Course) → are_quiet (action ∷ []) ≡ true → Kept brought base c → Kept brought base (did action c)
  did_kept action c quiet is = quiet_kept (action ∷ []) quiet is

  -- a client changes and keeps its lines
  pub changed_kept : {key : List ℕ} {count : ℕ} {effects : List Action} (clients : List Client) (n : ℕ) (f : Client → Client) →
      ((y : Client) → slice_get clients n ≡ Some y → client_lines (f y) ≡ client_lines y) →
      KeptParts brought base key count (lines_of clients) effects → KeptParts brought base key count (lines_of (changed_at n f clients)) effects
  changed_kept clients n f same is = lines_kept (map_changed client_lines n f clients same) is

  -- a client changes, and not its session
  pub same_kept : {key : List ℕ} {count : ℕ} {effects : List Action} (clients : List Client) (n : ℕ) (f : Client → Client) →
      ((y : Client) → client_lines (f y) ≡ client_lines y) →
      KeptParts brought base key count (lines_of clients) effects → KeptParts brought base key count (lines_of (changed_at n f clients)) effects
  same_kept clients n f same is = changed_kept clients n f (λ y there. same y) is

  -- the session of a client that is here has made a call that leaves its lines
  pub quiet_acted : {A : Type 0} (n : ℕ) (x : Client) (o : Outcome A) (c : Course) → client_here c.table n ≡ Some x → IsQuietCall x.session o →
      Kept brought base c → Kept brought base (acted n x.address o c)
  quiet_acted n x o c here quiet is =
      quiet_kept (actions_of o.peer.role o.doings) (still_quiet o.peer.role o.doings quiet.still)
      (count_kept (ap (λ more. c.table.connections + more) (still_opened o.doings quiet.still) ∙ add-zero c.table.connections)
      (changed_kept c.table.clients n (with_session o.peer)
      (at_place (λ y. lines_in o.peer ≡ client_lines y) c.table.clients n x (here_at c.table n x here).there quiet.lines) is))

-- ---- a session begins by time

opened_last : (doings : List Doing) (conn : Conn) → are_still doings ≡ true → opened_by (doings ++ Opens conn ∷ []) ≡ 1
opened_last [] conn still = refl
opened_last (Opens on ∷ doings) conn still = absurd (false≢true still)
opened_last (Puts on bytes ∷ doings) conn still = absurd (false≢true still)
opened_last (Writes on bytes ∷ doings) conn still = opened_last doings conn still
opened_last (Closes on ∷ doings) conn still = opened_last doings conn still

module _ {brought : ℕ → ℕ → Arrival → Type 0} {base : Before} where
  -- the session of a client that is here has begun its next session on the next connection
  pub begins_acted : (n : ℕ) (x : Client) (o : Outcome Turn) (c : Course) (conn : Conn) → IsReadUp begun → conn.0 ≡ c.table.connections → client_here c.table n ≡ Some x →
      BeginsLine x.session conn o → Kept brought base c → Kept brought base (acted n x.address o c)
  begins_acted n x o c conn up next here begins is =
      let there = (here_at c.table n x here).there in
      let role = o.peer.role in
      effects_kept
      (ap (λ doings. c.effects ++ actions_of role doings) begins.done
      ∙ ap (λ more. c.effects ++ more) (map_append (action_of role) begins.before (Opens conn ∷ []))
      ∙ sym (append_assoc c.effects (actions_of role begins.before) (EngineOpen conn role ∷ [])))
      (count_kept (ap (λ doings. c.table.connections + opened_by doings) begins.done ∙ ap (λ more. c.table.connections + more) (opened_last begins.before conn begins.still))
      (begins_kept (lines_of (changed_at n (with_session o.peer) c.table.clients)) n begins.number conn role up next
      (line_there c.table.clients n begins.number x None there begins.none)
      (acted_put c.table.clients n begins.number x o.peer (begun_line conn.0 (kid_of begins.number)) there begins.put)
      (quiet_kept (actions_of role begins.before) (still_quiet role begins.before begins.still) is)))
