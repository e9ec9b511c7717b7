-- Plain text that was not read, and messages that wait.
use Rattle.std.proofs.Common.{◌≡◌, ℕ, suc, Bool, true, false, List, [], ◌∷◌, length, Option, Some, None, Bor, refl, ap, sym, subst, ◌∙◌, arith}
use Rattle.std.specs.Prelude.{◌&&◌, is_some, option_map, slice_get, if◌then◌else◌}
use Rattle.std.specs.Option.{option_copied}
use Rattle.std.specs.List.{before_first, list_any}
use Rattle.std.proofs.lemmas.Bool.{false≢true}
use Rattle.std.proofs.lemmas.Option.{none-some}
use Rattle.vpn_base.specs.declared.names.Cipher.{Cipher}
use Rattle.vpn_base.specs.declared.names.Conn.{Conn}
use Rattle.vpn_base.specs.declared.names.Policy.{Policy}
use Rattle.key_method2.specs.declared.message.Km2.{Km2}
use Rattle.key_method2.specs.Reading.{reading}
use Rattle.peer_table.specs.EngineAnswers.{message_in, message_of, prepared_message, whole_of}
use Rattle.peer_table.specs.Exchange.{after_message, after_message_in, chosen_for, cipher_ahead, has_message, is_nul, message_read, next_message, unread, waiting_in, waiting_message}
use Rattle.peer_table.specs.KeySessions.{Session, Stage, has_keys, is_keyed, newest, newest_session, session_at}
use Rattle.peer_table.specs.KeySessions as sessions
use Rattle.peer_table.specs.Peer.{Peer, other}
use Rattle.peer_table.specs.Places.{changed_at, earlier, first_place}
use Rattle.peer_table.specs.Time.{is_open_session}
use Rattle.key_sessions.specs.Looks.{keys_of_some, newest_as, newest_seen, stage_of}
use Rattle.key_sessions.specs.Sessions.{keys_if}
use Rattle.key_sessions.specs.declared.slot.Newest.{Newest}
use Rattle.key_sessions.specs.declared.slot.Stage.TheVariants as stages
use Rattle.peer_lines.specs.Calls.{after_waiting, message_if, passed_if, waiting}
use Rattle.session_state.specs.internal.OpenOnes.{nul_in, unread_in, waits_in}
use Rattle.session_state.proofs.Keeping.{Follows}

-- ---- a session that is open, or is not

-- an open session that is there
pub record OpenIn (o : Option Session) : Type 0 where
  pub session : Session
  pub here : o ≡ Some session
  pub is_open : session.is_open ≡ true

pub open_there : (o : Option Session) → true ≡ is_open_session o → OpenIn o
open_there None is = absurd (false≢true (sym is))
open_there (Some s) is = record { session = s; here = refl; is_open = sym is }

pub unread_none : (o : Option Session) → false ≡ is_open_session o → 0 ≡ unread_in o
unread_none None is = refl
unread_none (Some s) is = ap (λ (b : Bool). if b then length (unread s) else 0) is

pub unread_some : (o : Option Session) (there : OpenIn o) → length (unread there.session) ≡ unread_in o
unread_some o there =
    ap (λ (b : Bool). if b then length (unread there.session) else 0) (sym there.is_open) ∙ ap unread_in (sym there.here)

pub nul_none : (o : Option Session) → false ≡ is_open_session o → false ≡ nul_in o
nul_none None is = refl
nul_none (Some s) is = ap (λ (b : Bool). b && list_any is_nul (unread s)) is

pub nul_some : (o : Option Session) (there : OpenIn o) → list_any is_nul (unread there.session) ≡ nul_in o
nul_some o there = ap (λ (b : Bool). b && list_any is_nul (unread there.session)) (sym there.is_open) ∙ ap nul_in (sym there.here)

-- ---- whether a message waits

message_there : (s : Session) (b : Bool) → is_some (message_if s b) ≡ b
message_there s true = refl
message_there s false = refl

lent_there : {X : Type 0} (o : Option (Bor X)) → is_some o ≡ is_some (option_copied o)
lent_there None = refl
lent_there (Some b) = refl

pub nul_told : (s : Session) (o : Option (Bor (List ℕ))) → option_copied o ≡ waiting s → is_some o ≡ list_any is_nul (unread s)
unfolding waiting
nul_told s o is = lent_there o ∙ ap is_some is ∙ message_there s (list_any is_nul (unread s))

keys_none : (b : Bool) (stage : Stage) (more : Bool) → None ≡ keys_if b stage → false ≡ ((b && is_keyed stage) && more)
keys_none false stage more is = refl
keys_none true sessions.Opening more is = refl
keys_none true sessions.Named more is = refl
keys_none true (sessions.Keyed keys) more is = absurd (none-some (keys.block, keys.cipher) is)

keys_some : (b : Bool) (stage : Stage) (more : Bool) (k : List ℕ × Cipher) → Some k ≡ keys_if b stage → (b && more) ≡ ((b && is_keyed stage) && more)
keys_some false stage more k is = absurd (none-some k (sym is))
keys_some true sessions.Opening more k is = absurd (none-some k (sym is))
keys_some true sessions.Named more k is = absurd (none-some k (sym is))
keys_some true (sessions.Keyed keys) more k is = refl

pub waits_none : (o : Option Session) → None ≡ keys_of_some o → false ≡ waits_in o
waits_none None is = refl
waits_none (Some s) is = keys_none s.is_open s.stage (list_any is_nul (unread s)) is

pub waits_some : (o : Option Session) (k : List ℕ × Cipher) → Some k ≡ keys_of_some o → nul_in o ≡ waits_in o
waits_some None k is = absurd (none-some k (sym is))
waits_some (Some s) k is = keys_some s.is_open s.stage (list_any is_nul (unread s)) k is

-- ---- a session in which one waits

-- it is open, has keys, and a NUL stands there
pub record Waits (s : Session) : Type 0 where
  pub is_open : s.is_open ≡ true
  pub keyed : has_keys s ≡ true
  pub nul : list_any is_nul (unread s) ≡ true

waits_by : (a b c : Bool) → ((a && b) && c) ≡ true → (a ≡ true) × (b ≡ true) × (c ≡ true)
waits_by true true true is = (refl, refl, refl)
waits_by true true false is = absurd (false≢true is)
waits_by true false c is = absurd (false≢true is)
waits_by false b c is = absurd (false≢true is)

pub waits_of : (s : Session) → has_message s ≡ true → Waits s
waits_of s is = let all = waits_by s.is_open (has_keys s) (list_any is_nul (unread s)) is in record { is_open = all.0; keyed = all.1; nul = all.2 }

-- it is the first
pub record FirstAt (passes : Session → Bool) (ss : List Session) (n : ℕ) : Type 0 where
  pub session : Session
  pub here : slice_get ss n ≡ Some session
  pub passes_it : passes session ≡ true

first_by : (passes : Session → Bool) (s : Session) (ss : List Session) (b : Bool) (rest : Option ℕ) (n : ℕ) → passes s ≡ b → earlier b rest ≡ Some n →
    ((m : ℕ) → rest ≡ Some m → FirstAt passes ss m) → FirstAt passes (s ∷ ss) n
first_by passes s ss true rest n has is further =
    let same : 0 ≡ n = cc is in subst (FirstAt passes (s ∷ ss)) same (record { session = s; here = refl; passes_it = has })
first_by passes s ss false None n has is further = absurd (none-some n is)
first_by passes s ss false (Some m) n has is further =
    let same : suc m ≡ n = cc is in
    let there = further m refl in
    subst (FirstAt passes (s ∷ ss)) same (record { session = there.session; here = there.here; passes_it = there.passes_it })

pub first_at : (passes : Session → Bool) (ss : List Session) (n : ℕ) → first_place passes ss ≡ Some n → FirstAt passes ss n
first_at passes [] n is = absurd (none-some n is)
first_at passes (s ∷ ss) n is = first_by passes s ss (passes s) (first_place passes ss) n refl is (λ m. first_at passes ss m)

pub waiting_at : (p : Peer) (n : ℕ) → Some n ≡ waiting_in p → FirstAt has_message p.sessions n
unfolding waiting_in
waiting_at p n is = first_at has_message p.sessions n (sym is)

pub waiting_first : (p : Peer) → waiting_in p ≡ first_place has_message p.sessions
unfolding waiting_in
waiting_first p = refl

pub no_message : (p : Peer) → None ≡ waiting_in p → None ≡ next_message p
unfolding next_message
no_message p is = ap (λ (o : Option ℕ). option_map waiting_message (session_at p.sessions o)) is

pub message_is : (p : Peer) (n : ℕ) (s : Session) → Some n ≡ waiting_in p → slice_get p.sessions n ≡ Some s → Some (waiting_message s) ≡ next_message p
unfolding next_message
message_is p n s is at = ap (λ (o : Option Session). option_map waiting_message o) (sym at) ∙ ap (λ (o : Option ℕ). option_map waiting_message (session_at p.sessions o)) is

pub none_passed : (p : Peer) → None ≡ waiting_in p → p ≡ after_message p
unfolding after_message
none_passed p is = ap (λ (o : Option ℕ). after_message_in o p) is

pub one_passed : (p : Peer) (n : ℕ) → Some n ≡ waiting_in p → record p { sessions = changed_at n message_read p.sessions } ≡ after_message p
unfolding after_message
one_passed p n is = ap (λ (o : Option ℕ). after_message_in o p) is

-- ---- the message that waits in it

pub waiting_some : (s : Session) → list_any is_nul (unread s) ≡ true → waiting s ≡ Some (before_first is_nul (unread s))
unfolding waiting
waiting_some s is = ap (message_if s) is

pub passed_is : (s : Session) → list_any is_nul (unread s) ≡ true → after_waiting s ≡ message_read s
unfolding after_waiting
passed_is s is = ap (passed_if s) is

pub read_follows : (s : Session) → Follows s (message_read s)
read_follows s = record {
  began = refl;
  is_open = refl;
  stage = refl;
  kid = refl;
  read = λ keyed read e. read (omega (arith, e));
  spent = λ spent. spent;
}

pub bytes_told : (s : Session) (bytes : Bor (List ℕ)) (conn : Conn) (o : Option (Bor (List ℕ))) → o ≡ Some bytes → option_copied o ≡ waiting s → conn ≡ s.link.conn →
    list_any is_nul (unread s) ≡ true → Some (conn, bytes.now) ≡ Some (waiting_message s)
bytes_told s bytes conn o is told same nul =
    let bytes_are : bytes.now ≡ before_first is_nul (unread s) = cc (ap option_copied is, told, waiting_some s nul) in
    ap (λ (k : Conn). Some (k, bytes.now)) same ∙ ap (λ (b : List ℕ). Some (s.link.conn, b)) bytes_are

-- ---- what an exchange needs

-- the newest session as it is seen
pub record NewestAt (ss : List Session) (seen : Newest) : Type 0 where
  pub session : Session
  pub here : slice_get ss (newest ss) ≡ Some session
  pub seen_so : newest_as (newest ss) session ≡ seen

newest_by : (ss : List Session) (o : Option Session) (seen : Newest) → slice_get ss (newest ss) ≡ o → option_map (newest_as (newest ss)) o ≡ Some seen → NewestAt ss seen
newest_by ss None seen at is = absurd (none-some seen is)
newest_by ss (Some s) seen at is = let same : newest_as (newest ss) s ≡ seen = cc is in record { session = s; here = at; seen_so = same }

pub newest_at : (ss : List Session) (seen : Newest) → newest_seen ss ≡ Some seen → NewestAt ss seen
unfolding newest_seen
newest_at ss seen is = newest_by ss (newest_session ss) seen refl is

opening_prepared : (p : Peer) (s : Session) (stage : Stage) → stage_of stage ≡ stages.Opening → None ≡ message_in p s stage
opening_prepared p s sessions.Opening is = refl
opening_prepared p s sessions.Named is = cc is
opening_prepared p s (sessions.Keyed keys) is = refl

keyed_prepared : (p : Peer) (s : Session) (stage : Stage) → stage_of stage ≡ stages.Keyed → None ≡ message_in p s stage
keyed_prepared p s sessions.Opening is = refl
keyed_prepared p s sessions.Named is = cc is
keyed_prepared p s (sessions.Keyed keys) is = refl

pub named_stage : (stage : Stage) → stage_of stage ≡ stages.Named → stage ≡ sessions.Named
named_stage sessions.Opening is = cc is
named_stage sessions.Named is = refl
named_stage (sessions.Keyed keys) is = cc is

pub opening_none : (p : Peer) (seen : Newest) → NewestAt p.sessions seen → seen.stage ≡ stages.Opening → None ≡ prepared_message p
unfolding prepared_message
opening_none p seen at is =
    opening_prepared p at.session at.session.stage (ap (λ (r : Newest). r.stage) at.seen_so ∙ is) ∙ ap (message_of p) (sym at.here)

pub keyed_none : (p : Peer) (seen : Newest) → NewestAt p.sessions seen → seen.stage ≡ stages.Keyed → None ≡ prepared_message p
unfolding prepared_message
keyed_none p seen at is =
    keyed_prepared p at.session at.session.stage (ap (λ (r : Newest). r.stage) at.seen_so ∙ is) ∙ ap (message_of p) (sym at.here)

-- its number
pub newest_number_is : (ss : List Session) (seen : Newest) → (at : NewestAt ss seen) → slice_get ss seen.number ≡ Some at.session
newest_number_is ss seen at = subst (λ (n : ℕ). slice_get ss n ≡ Some at.session) (ap (λ (r : Newest). r.number) at.seen_so) at.here

pub named_of : (p : Peer) (seen : Newest) → (at : NewestAt p.sessions seen) → seen.stage ≡ stages.Named → at.session.stage ≡ sessions.Named
named_of p seen at is = named_stage at.session.stage (ap (λ (r : Newest). r.stage) at.seen_so ∙ is)

pub named_message : (p : Peer) (seen : Newest) → (at : NewestAt p.sessions seen) → at.session.stage ≡ sessions.Named →
    whole_of (reading (other p.role) at.session.plain) ≡ prepared_message p
unfolding prepared_message
named_message p seen at is = ap (message_in p at.session) (sym is) ∙ ap (message_of p) (sym at.here)

pub chosen_ahead : (policy : Policy) (p : Peer) (o : Option (Km2 × ℕ)) → o ≡ prepared_message p → chosen_for policy o ≡ cipher_ahead policy p
unfolding cipher_ahead
chosen_ahead policy p o is = ap (chosen_for policy) is
