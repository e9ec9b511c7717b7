-- What is prepared for a client stays right as its step goes on.
use Rattle.std.proofs.Common.{◌≡◌, ℕ, zero, suc, ◌+◌, ◌≤◌, ◌<◌, true, List, [], ◌∷◌, length, slice_get, option_map, Option, Some, None, is_some, refl, sym, ap, subst, ◌∙◌, arith}
use Rattle.std.proofs.lemmas.Bool.{false≢true}
use Rattle.vpn_base.specs.declared.address.Addr.{Addr}
use Rattle.vpn_base.specs.declared.names.Cause.{Cause}
use Rattle.vpn_base.specs.declared.names.Cid.{Cid}
use Rattle.vpn_base.specs.declared.names.Cipher.{Cipher}
use Rattle.vpn_base.specs.declared.names.Conn.{Conn}
use Rattle.vpn_base.specs.declared.names.Draw.{Draw}
use Rattle.vpn_base.specs.declared.names.Policy.{Policy}
use Rattle.vpn_links.specs.Actions.{Action, Contents}
use Rattle.vpn_links.specs.declared.events.Kind.{Kind}
use Rattle.vpn_links.specs.declared.events.Kind.TheVariants as kinds
use Rattle.ccd_files.specs.declared.client_file.Ccd.{Ccd}
use Rattle.client_table.specs.Changes.{place_of}
use Rattle.client_table.specs.Tables.{entries_of}
use Rattle.ccd_files.specs.ClientFile.{no_ccd}
use Rattle.ovpn_config.specs.declared.settings.Settings.{Settings}
use Rattle.peer_table.specs.declared.outcomes.Turn.{Turn}
use Rattle.peer_table.specs.declared.outcomes.Turn.TheVariants as turns
use Rattle.peer_table.specs.EngineAnswers.{engine_came, kept_name}
use Rattle.peer_table.specs.Exchange.{NothingReadBefore, all_unread, cipher_of, exchanged}
use Rattle.peer_table.specs.Peer.{Outcome, Peer}
use Rattle.peer_table.specs.Places.{changed_at}
use Rattle.server_table.specs.Courses.{Course, acted}
use Rattle.server_table.specs.Endings.{ended, ended_as, gone, turned}
use Rattle.server_table.specs.Engine.{asked, asked_by, asked_for, asked_in, asked_once, file_is, gone_on, unread_judged}
use Rattle.server_table.specs.Establishing.{ccd_in, leased_to, name_in}
use Rattle.server_table.specs.Exchange.{exchange, exchange_made}
use Rattle.server_table.specs.Lookups.{client_here, if_here}
use Rattle.server_table.specs.Table.{Awaited, Client, Established, FileState, Known, Table, Unasked}
use Rattle.server_texts.specs.Replies.{AreRepliesTo, Replies}
use Rattle.server_state.specs.declared.client.ClientState.{ClientState}
use Rattle.server_state.specs.declared.state.ServerCore.{ServerCore}
use Rattle.server_state.specs.Core.{CourseStands}
use Rattle.server_state.specs.Places.{IsThere}
use Rattle.server_engine.specs.Calls.{MayExchangeNow, StaysReady}
use Rattle.server_engine.specs.Files.{NameFits}
use Rattle.server_engine.specs.Rests.{NameFitsFor, exchange_of, keys_exchanged}
use Rattle.server_establishing.specs.declared.ahead.Ahead.{Ahead}
use Rattle.server_establishing.specs.declared.asking.Prepared.{Prepared}
use Rattle.server_establishing.specs.declared.asking.Prepared.TheVariants.{Again, New, Nothing}
use Rattle.server_establishing.specs.Ahead.{KeepsPlace}
use Rattle.server_establishing.specs.Ahead as establishing
use Rattle.server_establishing.specs.Prepared.{IsKept, IsPrepared}
use Rattle.server_answers.specs.Texts.{text_in}
use Rattle.server_answers.specs.internal.Ahead.{GivenAhead, IsReadied, LongestFits, NameAhead}
use Rattle.server_answers.specs.internal.Following.{IfKeyed, IsPreparedFor, MayFollow}
use Rattle.server_answers.proofs.Keeping.{changed_here, some_is}
use Rattle.server_answers.proofs.Readied.{value_is}
use Rattle.server_answers.proofs.Stays.{MadeStays}
use Rattle.server_answers.proofs.Unnamed.{IsUnnamed, LeadsNowhere, each_of, no_cipher, nowhere_fits, unnamed_came}

-- ---- the client is changed

again_so : (s t : Settings) (f g : Ccd) (p q : ℕ) (e : Established) (r : Replies) → t ≡ s → g ≡ f → q ≡ p → AreRepliesTo s f p (leased_to s f.address e) r
    → AreRepliesTo t g q (leased_to t g.address e) r
again_so s t f g p q e r settings file peer_id h =
    subst (λ (s : Settings). AreRepliesTo s g q (leased_to s g.address e) r) (sym settings)
    (subst (λ (f : Ccd). AreRepliesTo s f q (leased_to s f.address e) r) (sym file) (subst (λ (p : ℕ). AreRepliesTo s f p (leased_to s f.address e) r) (sym peer_id) h))

-- what is prepared stays right where only that client is changed, and keeps its name and what its file says
pub prepared_changed : MadeStays → (n : ℕ) (c then : Course) (g : Client → Client) (x : Client) (p : Prepared) → client_here c.table n ≡ Some x → KeepsPlace g
    → then.table.settings ≡ c.table.settings → then.table.clients ≡ changed_at n g c.table.clients → (g x).session.name ≡ x.session.name
    → ccd_in (g x).file ≡ ccd_in x.file → IsPrepared c n x p → IsPrepared then n (g x) p
prepared_changed stays n c then g x (New ahead) there keeps settings clients name file of = record {
  not_yet = keeps.established x ∙ of.not_yet;
  name = name ∙ of.name;
  file = file ∙ of.file;
  made = stays c then n ahead.name ahead.file ahead g x of.made there of.not_yet keeps settings clients;
}
prepared_changed stays n c then g x (Again replies) there keeps settings clients name file of = record {
  when = of.when;
  established = keeps.established x ∙ of.established;
  again = again_so c.table.settings then.table.settings (ccd_in x.file) (ccd_in (g x).file) x.peer_id (g x).peer_id of.when replies settings file (keeps.peer_id x) of.again;
}
prepared_changed stays n c then g x Nothing there keeps settings clients name file of = absurd of

-- ---- a call of its session

-- the client with another session
abbrev pub with_session : Peer → Client → Client
with_session p x = record x { session = p }

session_keeps : (p : Peer) → KeepsPlace (with_session p)
session_keeps p = record { here = λ y. refl; established = λ y. refl; peer_id = λ y. refl }

pub acted_here : (n : ℕ) (to : Addr) (o : Outcome Turn) (c : Course) (x : Client) → client_here c.table n ≡ Some x
    → client_here (acted n to o c).table n ≡ Some (with_session o.peer x)
unfolding client_here
acted_here n to o c x there = changed_here (with_session o.peer) (λ y. refl) c.table.clients n x there

pub prepared_acted : MadeStays → (n : ℕ) (c : Course) (to : Addr) (o : Outcome Turn) (x : Client) (p : Prepared) → client_here c.table n ≡ Some x
    → o.peer.name ≡ x.session.name → IsPrepared c n x p → IsPrepared (acted n to o c) n (with_session o.peer x) p
prepared_acted stays n c to o x p there name of =
    prepared_changed stays n c (acted n to o c) (with_session o.peer) x p there (session_keeps o.peer) refl refl name refl of

-- ---- the client may have ended

gone_none : (clients : List Client) (n : ℕ) → if_here (slice_get (changed_at n gone clients) n) ≡ None
gone_none [] n = refl
gone_none (x ∷ clients) zero = refl
gone_none (x ∷ clients) (suc n) = gone_none clients n

ended_none : (n : ℕ) (cause : Cause) (c : Course) → client_here (ended n cause c).table n ≡ None
unfolding ended client_here
ended_none n cause c = by_client (client_here c.table n) refl
  where
    by_client : (o : Option Client) → client_here c.table n ≡ o → if_here (slice_get (ended_as n cause c o).table.clients n) ≡ None
    by_client None is = is
    by_client (Some x) is = gone_none c.table.clients n

-- a client that is here behind a turn has not ended
pub turned_same : (n : ℕ) (turn : Turn) (c : Course) (y : Client) → client_here (turned n turn c).table n ≡ Some y → turned n turn c ≡ c
turned_same n turns.Going c y there = refl
turned_same n turns.Ignored c y there = refl
turned_same n turns.Named c y there = refl
turned_same n turns.Exchange c y there = refl
turned_same n (turns.Over cause) c y there = absurd (false≢true (ap is_some (sym (ended_none n cause c) ∙ there)))

-- ---- the key exchange

-- what an exchange leaves of unread text, and of a name
abbrev pub ReadsLess : Type 0
ReadsLess = (policy : Policy) (peer_id : ℕ) (draw : Draw) (p : Peer) → NothingReadBefore p.sessions → all_unread (exchanged policy peer_id draw p).peer.sessions ≤ all_unread p.sessions

abbrev pub KeepsName : Type 0
KeepsName = (policy : Policy) (peer_id : ℕ) (draw : Draw) (p : Peer) (name : List ℕ) → p.name ≡ Some name → (exchanged policy peer_id draw p).peer.name ≡ Some name

-- the client whose key exchange was made, if it is here still, is prepared as before, with no more unread
pub record IsMadeFor (c : Course) (n : ℕ) (p : Prepared) (left : ℕ) (y : Client) : Type 0 where
  pub prepared : IsPrepared c n y p
  pub unread : all_unread y.session.sessions ≤ left

at_most : (a b c : ℕ) → a ≤ b → b ≤ c → a ≤ c
at_most a b c less more = omega (arith, less, more)

-- the name is as it was where what is prepared needs one
prepared_made : MadeStays → KeepsName → (draw : Draw) (n : ℕ) (c : Course) (x : Client) (p : Prepared) → client_here c.table n ≡ Some x → IsPrepared c n x p
    → IsPrepared (acted n x.address (exchange_of draw x c) c) n (with_session (exchange_of draw x c).peer x) p
prepared_made stays keeps draw n c x (New ahead) there of =
    prepared_acted stays n c x.address (exchange_of draw x c) x (New ahead) there (keeps _ x.peer_id draw x.session ahead.name of.name ∙ sym of.name) of
prepared_made stays keeps draw n c x (Again replies) there of = record { when = of.when; established = of.established; again = of.again }
prepared_made stays keeps draw n c x Nothing there of = absurd of

pub made_so : MadeStays → KeepsName → ReadsLess → (draw : Draw) (n : ℕ) (c : Course) (x : Client) (p : Prepared) (left : ℕ) → client_here c.table n ≡ Some x
    → NothingReadBefore x.session.sessions → IsPrepared c n x p → all_unread x.session.sessions ≤ left
    → (y : Client) → client_here (keys_exchanged draw n x c).table n ≡ Some y → IsMadeFor (keys_exchanged draw n x c) n p left y
made_so stays keeps less draw n c x p left there nothing of unread y here =
    let o = exchange_of draw x c in
    let then = acted n x.address o c in
    let same : turned n o.answer then ≡ then = turned_same n o.answer then y here in
    let one : y ≡ with_session o.peer x =
    some_is y (with_session o.peer x) (sym here ∙ ap (λ (c : Course). client_here c.table n) same ∙ acted_here n x.address o c x there) in
    subst (λ (d : Course). IsMadeFor d n p left y) (sym same)
    (subst (λ (y : Client). IsMadeFor then n p left y) (sym one)
    (record {
      prepared = prepared_made stays keeps draw n c x p there of;
      unread = at_most (all_unread o.peer.sessions) (all_unread x.session.sessions) left (less _ x.peer_id draw x.session nothing) unread;
    }))

-- the value at a place has the session of its client
pub session_at : {S : Type 0} (means : S → Peer → Type 0) (core : ServerCore S) (t : Table) (n i : ℕ) (l : IsThere means core t n i) (v : ClientState S)
    → option_map (λ e. e.value) (slice_get (entries_of core.clients) i) ≡ Some v → (x : Client) → client_here t n ≡ Some x → means v.session x.session
session_at means core t n i l v at x there =
    subst (λ (x : Client). means v.session x.session) (some_is l.client x (sym l.client_there ∙ there))
    (subst (λ (v : ClientState _). means v.session l.client.session) (value_is (slice_get (entries_of core.clients) i) l.entry v l.entry_there at) l.stands.state.session)

-- of the newest session of a client nothing was read before its exchange
pub reads_nothing : {S : Type 0} (means : S → Peer → Type 0) (core : ServerCore S) (c : Course) (n i : ℕ) (l : IsThere means core c.table n i) (x : Client)
    → client_here c.table n ≡ Some x → ((s : S) (p : Peer) → means s p → NothingReadBefore p.sessions) → NothingReadBefore x.session.sessions
reads_nothing means core c n i l x there law =
    subst (λ (x : Client). NothingReadBefore x.session.sessions) (some_is l.client x (sym l.client_there ∙ there))
    (law l.entry.value.session l.client.session l.stands.state.session)

-- the exchange is finished, whether the client is here still or not
pub finished : {S : Type 0} (means : S → Peer → Type 0) (before : List Action) (mid next : ServerCore S) (half out : Contents) (n : ℕ) (c : Course) (p : Prepared) (left : ℕ)
    → CourseStands means before mid half c → ((y : Client) → client_here c.table n ≡ Some y → IsMadeFor c n p left y)
    → ((c : Course) (y : Client) → CourseStands means before mid half c → client_here c.table n ≡ Some y → IsPrepared c n y p → all_unread y.session.sessions ≤ left
    → CourseStands means before next out (exchange_made n c))
    → ((c : Course) → CourseStands means before mid half c → client_here c.table n ≡ None → CourseStands means before next out (exchange_made n c))
    → CourseStands means before next out (exchange_made n c)
finished means before mid next half out n c p left h made here none = by_client (client_here c.table n) refl
  where
    by_client : (o : Option Client) → client_here c.table n ≡ o → CourseStands means before next out (exchange_made n c)
    by_client None is = none c h is
    by_client (Some y) is = let m = made y is in here c y h is m.prepared m.unread

-- ---- what belongs to the core

pub kept_so : {S : Type 0} (core next : ServerCore S) (p : Prepared) → next.held ≡ core.held → core.routes.spare_rows ≤ next.routes.spare_rows → IsKept core p → IsKept next p
kept_so core next (New ahead) held rows kept = record {
  held = held ∙ kept.held;
  rows = at_most (1 + length ahead.file.iroutes) core.routes.spare_rows next.routes.spare_rows kept.rows rows;
}
kept_so core next (Again replies) held rows kept = held ∙ kept
kept_so core next Nothing held rows kept = held ∙ kept

-- ---- its file is asked for

-- the client with another file
abbrev pub with_file : FileState → Client → Client
with_file file x = record x { file = file }

file_keeps : (file : FileState) → KeepsPlace (with_file file)
file_keeps file = record { here = λ y. refl; established = λ y. refl; peer_id = λ y. refl }

pub file_here : (n : ℕ) (file : FileState) (c : Course) (x : Client) → client_here c.table n ≡ Some x → client_here (file_is n file c).table n ≡ Some (with_file file x)
unfolding client_here
file_here n file c x there = changed_here (with_file file) (λ y. refl) c.table.clients n x there

-- the client behind it has the same session, and what is prepared for it is so still
pub record IsAskedOf (c then : Course) (n : ℕ) (x : Client) : Type 0 where
  pub client : Client
  pub there : client_here then.table n ≡ Some client
  pub session : client.session ≡ x.session
  pub prepared : (p : Prepared) → IsPrepared c n x p → IsPrepared then n client p

asked_same : (n : ℕ) (c : Course) (x : Client) → client_here c.table n ≡ Some x → IsAskedOf c c n x
asked_same n c x there = record { client = x; there = there; session = refl; prepared = λ p of. of }

asked_file : MadeStays → (n : ℕ) (file : FileState) (c then : Course) (x : Client) → client_here c.table n ≡ Some x → then.table ≡ (file_is n file c).table
    → ccd_in file ≡ ccd_in x.file → IsAskedOf c then n x
asked_file stays n file c then x there is says = record {
  client = with_file file x;
  there = ap (λ (t : Table). client_here t n) is ∙ file_here n file c x there;
  session = refl;
  prepared = λ p of.
      prepared_changed stays n c then (with_file file) x p there (file_keeps file) (ap (λ (t : Table). t.settings) is) (ap (λ (t : Table). t.clients) is) refl says of;
}

asked_folder : MadeStays → (n : ℕ) (name : List ℕ) (c : Course) (x : Client) (o : Option (List ℕ)) → client_here c.table n ≡ Some x → no_ccd ≡ ccd_in x.file
    → IsAskedOf c (asked_in n name c o) n x
asked_folder stays n name c x None there says = asked_file stays n (Known no_ccd) c (asked_in n name c None) x there refl says
asked_folder stays n name c x (Some folder) there says = asked_file stays n (Awaited name) c (asked_for n name c) x there refl says

asked_state : MadeStays → (n : ℕ) (c : Course) (x : Client) (file : FileState) → client_here c.table n ≡ Some x → x.file ≡ file → IsAskedOf c (asked_once n x c file) n x
asked_state stays n c x Unasked there is = asked_folder stays n (name_in x) c x c.table.settings.ccd there (sym (ap ccd_in is))
asked_state stays n c x (Awaited name) there is = asked_same n c x there
asked_state stays n c x (Known file) there is = asked_same n c x there

pub asked_so : MadeStays → (n : ℕ) (c : Course) (x : Client) → client_here c.table n ≡ Some x → IsAskedOf c (asked n c) n x
unfolding asked
asked_so stays n c x there =
    subst (λ (o : Option Client). IsAskedOf c (asked_by n c o) n x) (sym there) (asked_state stays n c x x.file there refl)

-- ---- what an answer of the engine leads to

-- what an answer leaves of a name
pub record NamesStay : Type 0 where
  pub known : (kind : Kind) (now : ℕ) (p : Peer) (name : List ℕ) → p.name ≡ Some name → (engine_came kind now p).peer.name ≡ Some name
  pub given : (conn : Conn) (name : List ℕ) (now : ℕ) (p : Peer) → p.name ≡ None → (engine_came (kinds.EngineUp conn name) now p).answer ≡ turns.Exchange
      → (engine_came (kinds.EngineUp conn name) now p).peer.name ≡ Some (kept_name name)
  pub same : (conn : Conn) (name : List ℕ) (now : ℕ) (p : Peer) → p.name ≡ None → (engine_came (kinds.EngineUp conn name) now p).answer ≡ turns.Going
      → (engine_came (kinds.EngineUp conn name) now p).peer ≡ p

-- the name that was made ahead for is the client's behind an answer that leads to its exchange
name_then : NamesStay → (kind : Kind) (now : ℕ) (p : Peer) (ahead : List ℕ) → p.name ≡ None → GivenAhead kind ahead → (engine_came kind now p).answer ≡ turns.Exchange
    → (engine_came kind now p).peer.name ≡ Some ahead
name_then stays (kinds.EngineUp conn name) now p ahead none is exchange = stays.given conn name now p none exchange ∙ ap (λ (n : List ℕ). Some n) (sym is)
name_then stays (kinds.EngineText conn bytes) now p ahead none is exchange = absurd is
name_then stays (kinds.EnginePlain conn bytes) now p ahead none is exchange = absurd is
name_then stays (kinds.EngineDown conn) now p ahead none is exchange = absurd is
name_then stays (kinds.Datagram from bytes) now p ahead none is exchange = absurd is
name_then stays (kinds.DeviceIn bytes) now p ahead none is exchange = absurd is
name_then stays kinds.DeviceReady now p ahead none is exchange = absurd is
name_then stays (kinds.File cid answer) now p ahead none is exchange = absurd is
name_then stays (kinds.Line bytes) now p ahead none is exchange = absurd is
name_then stays kinds.Tick now p ahead none is exchange = absurd is
name_then stays kinds.Halt now p ahead none is exchange = absurd is

-- one that only goes on has changed nothing
same_then : NamesStay → (kind : Kind) (now : ℕ) (p : Peer) (ahead : List ℕ) → p.name ≡ None → GivenAhead kind ahead → (engine_came kind now p).answer ≡ turns.Going
    → (engine_came kind now p).peer ≡ p
same_then stays (kinds.EngineUp conn name) now p ahead none is going = stays.same conn name now p none going
same_then stays (kinds.EngineText conn bytes) now p ahead none is going = absurd is
same_then stays (kinds.EnginePlain conn bytes) now p ahead none is going = absurd is
same_then stays (kinds.EngineDown conn) now p ahead none is going = absurd is
same_then stays (kinds.Datagram from bytes) now p ahead none is going = absurd is
same_then stays (kinds.DeviceIn bytes) now p ahead none is going = absurd is
same_then stays kinds.DeviceReady now p ahead none is going = absurd is
same_then stays (kinds.File cid answer) now p ahead none is going = absurd is
same_then stays (kinds.Line bytes) now p ahead none is going = absurd is
same_then stays kinds.Tick now p ahead none is going = absurd is
same_then stays kinds.Halt now p ahead none is going = absurd is

-- names that fit
pub record NamesFit : Type 0 where
  pub known : (longest : ℕ) (kind : Kind) (now : ℕ) (p : Peer) → NameFits longest p.name → NameFitsFor longest (engine_came kind now p).peer (engine_came kind now p).answer
  pub given : (longest : ℕ) (conn : Conn) (name : List ℕ) (now : ℕ) (p : Peer) → 64 ≤ longest → p.name ≡ None
      → NameFitsFor longest (engine_came (kinds.EngineUp conn name) now p).peer (engine_came (kinds.EngineUp conn name) now p).answer

given_fits : NamesFit → (kind : Kind) (now : ℕ) (p : Peer) (ahead : List ℕ) (longest : ℕ) → p.name ≡ None → GivenAhead kind ahead → 64 ≤ longest
    → NameFitsFor longest (engine_came kind now p).peer (engine_came kind now p).answer
given_fits fits (kinds.EngineUp conn name) now p ahead longest none is most = fits.given longest conn name now p most none
given_fits fits (kinds.EngineText conn bytes) now p ahead longest none is most = absurd is
given_fits fits (kinds.EnginePlain conn bytes) now p ahead longest none is most = absurd is
given_fits fits (kinds.EngineDown conn) now p ahead longest none is most = absurd is
given_fits fits (kinds.Datagram from bytes) now p ahead longest none is most = absurd is
given_fits fits (kinds.DeviceIn bytes) now p ahead longest none is most = absurd is
given_fits fits kinds.DeviceReady now p ahead longest none is most = absurd is
given_fits fits (kinds.File cid answer) now p ahead longest none is most = absurd is
given_fits fits (kinds.Line bytes) now p ahead longest none is most = absurd is
given_fits fits kinds.Tick now p ahead longest none is most = absurd is
given_fits fits kinds.Halt now p ahead longest none is most = absurd is

keyless : (o p : Peer) → o ≡ p → cipher_of p ≡ None → cipher_of o ≡ None
keyless o p same none = ap cipher_of same ∙ none

if_keyed : (o : Option Cipher) (P : Type 0) → P → IfKeyed o P
if_keyed None P holds = tt
if_keyed (Some cipher) P holds = holds

if_none : (o : Option Cipher) (P : Type 0) → o ≡ None → IfKeyed o P
if_none o P none = subst (λ (o : Option Cipher). IfKeyed o P) (sym none) (tt {0})

prepared_any : (turn : Turn) (c : Course) (n : ℕ) (x : Client) (p : Prepared) → IsPrepared c n x p → IsPreparedFor turn c n x p
prepared_any turns.Going c n x p of = if_keyed (cipher_of x.session) (IsPrepared c n x p) of
prepared_any turns.Exchange c n x p of = of
prepared_any turns.Ignored c n x p of = tt
prepared_any turns.Named c n x p of = tt
prepared_any (turns.Over cause) c n x p of = tt

-- a client that has no keys, and makes no key exchange, needs nothing
nothing_for : (turn : Turn) (c : Course) (n : ℕ) (x : Client) → cipher_of x.session ≡ None → LeadsNowhere turn → IsPreparedFor turn c n x Nothing
nothing_for turns.Going c n x none leads = if_none (cipher_of x.session) (IsPrepared c n x Nothing) none
nothing_for (turns.Over cause) c n x none leads = tt
nothing_for turns.Ignored c n x none leads = absurd leads
nothing_for turns.Named c n x none leads = absurd leads
nothing_for turns.Exchange c n x none leads = absurd leads

-- what an answer brings of unread text
abbrev pub BringsLess : Type 0
BringsLess = (kind : Kind) (now : ℕ) (p : Peer) → all_unread (engine_came kind now p).peer.sessions ≤ all_unread p.sessions + text_in kind

module _ (stays : MadeStays) (names : NamesStay) (fits : NamesFit) (less : BringsLess) (kind : Kind) (c : Course) (n : ℕ) (x : Client) (left longest : ℕ)
    (there : client_here c.table n ≡ Some x) where
  abbrev now : ℕ
  now = c.table.moment

  abbrev o : Outcome Turn
  o = engine_came kind now x.session

  abbrev then : Course
  then = acted n x.address o c

  abbrev y : Client
  y = with_session o.peer x

  new_given : (ahead : Ahead) → x.established ≡ None → ccd_in x.file ≡ ahead.file → establishing.IsMadeFor c n ahead.name ahead.file ahead → x.session.name ≡ None
      → GivenAhead kind ahead.name × (cipher_of x.session ≡ None) → (turn : Turn) → o.answer ≡ turn → IsPreparedFor turn then n y (New ahead)
  new_given ahead not_yet file made none is turns.Going answer =
      if_none (cipher_of o.peer) (IsPrepared then n y (New ahead)) (keyless o.peer x.session (same_then names kind now x.session ahead.name none is.0 answer) is.1)
  new_given ahead not_yet file made none is turns.Exchange answer = record {
    not_yet = not_yet;
    name = name_then names kind now x.session ahead.name none is.0 answer;
    file = file;
    made = stays c then n ahead.name ahead.file ahead (with_session o.peer) x made there not_yet (session_keeps o.peer) refl refl;
  }
  new_given ahead not_yet file made none is turns.Ignored answer = tt
  new_given ahead not_yet file made none is turns.Named answer = tt
  new_given ahead not_yet file made none is (turns.Over cause) answer = tt

  new_for : (ahead : Ahead) → x.established ≡ None → ccd_in x.file ≡ ahead.file → establishing.IsMadeFor c n ahead.name ahead.file ahead → (name : Option (List ℕ))
      → x.session.name ≡ name → NameAhead kind ahead.name x.session name → (turn : Turn) → o.answer ≡ turn → IsPreparedFor turn then n y (New ahead)
  new_for ahead not_yet file made None named is turn answer = new_given ahead not_yet file made named is turn answer
  new_for ahead not_yet file made (Some name) named is turn answer =
      prepared_any turn then n y (New ahead)
      (prepared_acted stays n c x.address o x (New ahead) there (names.known kind now x.session name named ∙ sym named)
      (record { not_yet = not_yet; name = named ∙ ap (λ (n : List ℕ). Some n) is; file = file; made = made }))

  prepared_for : (p : Prepared) → IsReadied kind c n x p → IsPreparedFor o.answer then n y p
  prepared_for (New ahead) of = new_for ahead of.not_yet of.file of.made x.session.name refl of.name o.answer refl
  prepared_for (Again replies) of = prepared_any o.answer then n y (Again replies) (record { when = of.0.when; established = of.0.established; again = of.0.again })
  prepared_for Nothing of = nothing_for o.answer then n y (no_cipher o.peer unnamed.each) unnamed.answer
    where
      unnamed : IsUnnamed o
      unnamed = unnamed_came kind now x.session of.none (each_of x.session of.first of.unknown)

  name_known : (name : Option (List ℕ)) → x.session.name ≡ name → is_some name ≡ true → LongestFits name longest → NameFitsFor longest y.session o.answer
  name_known None named some most = absurd (false≢true some)
  name_known (Some name) named some most = fits.known longest kind now x.session (subst (NameFits longest) (sym named) most)

  name_ahead : (ahead : List ℕ) (name : Option (List ℕ)) → x.session.name ≡ name → NameAhead kind ahead x.session name → LongestFits name longest
      → NameFitsFor longest y.session o.answer
  name_ahead ahead None named is most = given_fits fits kind now x.session ahead longest named is.0 most
  name_ahead ahead (Some name) named is most = name_known (Some name) named refl most

  name_for : (p : Prepared) → IsReadied kind c n x p → LongestFits x.session.name longest → NameFitsFor longest y.session o.answer
  name_for (New ahead) of most = name_ahead ahead.name x.session.name refl of.name most
  name_for (Again replies) of most = name_known x.session.name refl of.1 most
  name_for Nothing of most = nowhere_fits longest y.session o.answer (unnamed_came kind now x.session of.none (each_of x.session of.first of.unknown)).answer

  -- all that the client needs for it
  pub follows : (p : Prepared) → IsReadied kind c n x p → all_unread x.session.sessions + text_in kind ≤ left → LongestFits x.session.name longest
      → MayFollow o.answer then n y p left longest
  follows p of unread most = record {
    prepared = prepared_for p of;
    unread = at_most (all_unread o.peer.sessions) (all_unread x.session.sessions + text_in kind) left (less kind now x.session) unread;
    name = name_for p of most;
  }

-- ---- the core behind a question for a file

pub kept_only : {S : Type 0} (core next : ServerCore S) (p : Prepared) → next ≡ record core { clients = next.clients } → IsKept core p → IsKept next p
kept_only core next p only kept = kept_so core next p (ap (λ (k : ServerCore _). k.held) only) (rows_so core.routes.spare_rows next.routes.spare_rows (ap (λ (k : ServerCore _). k.routes.spare_rows) only)) kept
  where
    rows_so : (a b : ℕ) → b ≡ a → a ≤ b
    rows_so a b is = omega (arith, is)

pub ready_still : {S : Type 0} (may_exchange : S → Type 0) (core next : ServerCore S) (i : ℕ) → StaysReady may_exchange core next → next.turn ≡ core.turn
    → MayExchangeNow may_exchange core i → MayExchangeNow may_exchange next i
ready_still may_exchange core next i stays turn h = record {
  place = ap (λ (who : Cid). place_of who.0 (entries_of next.clients)) turn ∙ stays.places core.turn.0 ∙ h.place;
  within = subst (λ n. i < n) (sym stays.many) h.within;
  exchange = stays.exchange i h.exchange;
  named = stays.named i h.named;
}

-- a client whose turn it is still makes its exchange
pub follow_in_turn : {S : Type 0} (means : S → Peer → Type 0) (before : List Action) (mid next : ServerCore S) (half out : Contents) (draw : Draw) (who : Cid) (c : Course) (p : Prepared)
    (left : ℕ) → mid.turn ≡ who
    → ((c : Course) (y : Client) → CourseStands means before mid half c → client_here c.table mid.turn.0 ≡ Some y → IsPrepared c mid.turn.0 y p → all_unread y.session.sessions ≤ left
    → CourseStands means before next out (unread_judged mid.turn.0 (exchange draw mid.turn.0 c)))
    → CourseStands means before mid half c → (y : Client) → client_here c.table who.0 ≡ Some y → IsPrepared c who.0 y p → all_unread y.session.sessions ≤ left
    → CourseStands means before next out (unread_judged who.0 (exchange draw who.0 c))
follow_in_turn means before mid next half out draw who c p left turn followed h y there of less =
    subst (λ (who : Cid). CourseStands means before next out (unread_judged who.0 (exchange draw who.0 c))) turn
    (followed c y h (ap (λ (who : Cid). client_here c.table who.0) turn ∙ there) (subst (λ (who : Cid). IsPrepared c who.0 y p) (sym turn) of) less)

-- a client whose turn it is still goes on
pub taken_in_turn : {S : Type 0} (means : S → Peer → Type 0) (before : List Action) (mid next : ServerCore S) (half out : Contents) (draw : Draw) (who : Cid) (c : Course) (p : Prepared)
    (left longest : ℕ) (turn : Turn) → mid.turn ≡ who
    → ((c : Course) (y : Client) → CourseStands means before mid half c → client_here c.table mid.turn.0 ≡ Some y → MayFollow turn c mid.turn.0 y p left longest
    → CourseStands means before next out (gone_on draw mid.turn.0 c turn))
    → CourseStands means before mid half c → (y : Client) → client_here c.table who.0 ≡ Some y → MayFollow turn c who.0 y p left longest
    → CourseStands means before next out (gone_on draw who.0 c turn)
taken_in_turn means before mid next half out draw who c p left longest turn stays followed h y there may =
    subst (λ (who : Cid). CourseStands means before next out (gone_on draw who.0 c turn)) stays
    (followed c y h (ap (λ (who : Cid). client_here c.table who.0) stays ∙ there) (subst (λ (who : Cid). MayFollow turn c who.0 y p left longest) (sym stays) may))

-- the name of a client that is here
pub name_here : (longest n : ℕ) (c : Course) (x : Client) → client_here c.table n ≡ Some x → NameFits longest x.session.name → (y : Client) → client_here c.table n ≡ Some y
    → NameFits longest y.session.name
name_here longest n c x there fits y at = subst (λ (x : Client). NameFits longest x.session.name) (some_is x y (sym there ∙ at)) fits
