-- What an answer of the engine leaves of a client's session, and of the core.
use Rattle.std.proofs.Common.{◌≡◌, ℕ, zero, suc, ◌+◌, ◌<◌, ◌≤◌, ◌⊎◌, inl, inr, Bool, true, false, List, [], ◌∷◌, length, slice_get, option_map, Option, Some, None, refl, sym, ap, subst, ◌∙◌, arith}
use Rattle.std.specs.Prelude.{is_some, unwrap_or, if◌then◌else◌}
use Rattle.std.specs.Str.{bytes_eq}
use Rattle.std.proofs.lemmas.Bool.{false≢true}
use Rattle.vpn_base.specs.declared.address.Addr.{Addr}
use Rattle.vpn_base.specs.declared.names.Cause.TheVariants.{BadName, NameChanged}
use Rattle.vpn_base.specs.FileName.{is_file_name}
use Rattle.vpn_links.specs.Actions.{Action, Contents}
use Rattle.vpn_links.specs.declared.events.Kind.{Kind}
use Rattle.vpn_links.specs.declared.events.Kind.TheVariants.{Datagram, EngineText, EnginePlain, EngineUp, EngineDown, DeviceIn, DeviceReady, File, Line, Tick, Halt}
use Rattle.client_table.specs.declared.table.ClientTable.{ClientTable}
use Rattle.client_table.specs.Changes as table
use Rattle.client_table.specs.declared.key.Key.{Key}
use Rattle.client_table.specs.Entries.{Entry}
use Rattle.client_table.specs.Finding.{has_number}
use Rattle.client_table.specs.Tables.{entries_of}
use Rattle.peer_table.specs.declared.outcomes.Turn.{Turn}
use Rattle.peer_table.specs.declared.outcomes.Turn.TheVariants.{Going, Ignored, Named, Exchange, Over}
use Rattle.peer_table.specs.EngineAnswers as engine
use Rattle.peer_table.specs.KeySessions.{Session, Stage}
use Rattle.peer_table.specs.KeySessions as sessions
use Rattle.peer_table.specs.Outboxes.{GoesOnUnlessOver, Leaves, actions_of}
use Rattle.peer_table.specs.Peer.{Outcome, Peer, answered}
use Rattle.server_table.specs.Courses.{Course, acted}
use Rattle.server_table.specs.Lookups.{client_here}
use Rattle.server_table.specs.Table.{Client, Established, FileState, Known, Unasked, Awaited}
use Rattle.server_state.specs.declared.client.ClientFile.{ClientFile}
use Rattle.server_state.specs.declared.client.ClientFile.TheVariants as files
use Rattle.server_state.specs.declared.client.ClientState.{ClientState}
use Rattle.server_state.specs.declared.state.ServerCore.{ServerCore}
use Rattle.server_state.specs.Calls.{HasCalled, opens_in}
use Rattle.server_state.specs.Core.{CourseStands, FileStands, GoesOn, IsSound, established_at, name_once}
use Rattle.server_state.specs.Endings.{IsSoundBut}
use Rattle.server_state.specs.Places.{IsChangedAt, IsThere}
use Rattle.server_engine.specs.Calls.{IsNamedAt}
use Rattle.server_engine.proofs.Asked.{same_client}
use Rattle.server_engine.proofs.Judged.{all_at, state_at, value_is}

-- ---- the session

-- a call leaves the other end's session id, opens no connection, and leaves the name but where there was none
pub record CallKeeps (p : Peer) (o : Outcome Turn) : Type 0 where
  pub remote : o.peer.remote ≡ p.remote
  pub opens : opens_in (actions_of o.peer.role o.doings) ≡ 0
  pub name : (o.peer.name ≡ p.name) ⊎ (p.name ≡ None)

text_keeps : (n : ℕ) (bytes : List ℕ) (now : ℕ) (p : Peer) (s : Option Session) → CallKeeps p (engine.text_said n bytes now p s)
text_keeps n bytes now p None = record { remote = refl; opens = refl; name = inl refl }
text_keeps n bytes now p (Some s) = record { remote = refl; opens = refl; name = inl refl }

same_keeps : (n : ℕ) (p : Peer) (b : Bool)
    → CallKeeps p (if b then engine.judged_at n false (engine.with_named n p) else answered p (Over NameChanged))
same_keeps n p true = record { remote = refl; opens = refl; name = inl refl }
same_keeps n p false = record { remote = refl; opens = refl; name = inl refl }

given_keeps : (n : ℕ) (name : List ℕ) (p : Peer) (known : Option (List ℕ)) → p.name ≡ known → CallKeeps p (engine.name_given n name p known)
given_keeps n name p None is = record { remote = refl; opens = refl; name = inr is }
given_keeps n name p (Some known) is = same_keeps n p (bytes_eq name known)

judged_keeps : (n : ℕ) (name : List ℕ) (p : Peer) (b : Bool) → CallKeeps p (if b then engine.name_given n name p p.name else answered p (Over BadName))
judged_keeps n name p true = given_keeps n name p p.name refl
judged_keeps n name p false = record { remote = refl; opens = refl; name = inl refl }

named_keeps : (n : ℕ) (name : List ℕ) (p : Peer) (stage : Stage) → CallKeeps p (engine.name_in n name p stage)
named_keeps n name p sessions.Opening = judged_keeps n (engine.kept_name name) p (is_file_name (engine.kept_name name))
named_keeps n name p sessions.Named = record { remote = refl; opens = refl; name = inl refl }
named_keeps n name p (sessions.Keyed keys) = record { remote = refl; opens = refl; name = inl refl }

name_keeps : (n : ℕ) (name : List ℕ) (p : Peer) (s : Option Session) → CallKeeps p (engine.name_at n name p s)
name_keeps n name p None = record { remote = refl; opens = refl; name = inl refl }
name_keeps n name p (Some s) = named_keeps n name p s.stage

answer_keeps : (kind : Kind) (n now : ℕ) (p : Peer) → CallKeeps p (engine.answer_in kind n now p)
unfolding engine.text_came engine.plain_came engine.name_came
answer_keeps (EngineText conn bytes) n now p = text_keeps n bytes now p (slice_get p.sessions n)
answer_keeps (EnginePlain conn bytes) n now p = record { remote = refl; opens = refl; name = inl refl }
answer_keeps (EngineUp conn name) n now p = name_keeps n name p (slice_get p.sessions n)
answer_keeps (EngineDown conn) n now p = record { remote = refl; opens = refl; name = inl refl }
answer_keeps (Datagram from bytes) n now p = record { remote = refl; opens = refl; name = inl refl }
answer_keeps (DeviceIn bytes) n now p = record { remote = refl; opens = refl; name = inl refl }
answer_keeps DeviceReady n now p = record { remote = refl; opens = refl; name = inl refl }
answer_keeps (File cid answer) n now p = record { remote = refl; opens = refl; name = inl refl }
answer_keeps (Line bytes) n now p = record { remote = refl; opens = refl; name = inl refl }
answer_keeps Tick n now p = record { remote = refl; opens = refl; name = inl refl }
answer_keeps Halt n now p = record { remote = refl; opens = refl; name = inl refl }

on_keeps : (kind : Kind) (now : ℕ) (p : Peer) (n : Option ℕ) → CallKeeps p (engine.answer_on kind now p n)
on_keeps kind now p None = record { remote = refl; opens = refl; name = inl refl }
on_keeps kind now p (Some n) = answer_keeps kind n now p

pub keeps : (kind : Kind) (now : ℕ) (p : Peer) → CallKeeps p (engine.engine_came kind now p)
unfolding engine.engine_came
keeps kind now p = on_keeps kind now p (engine.session_on (engine.conn_in kind) p)

-- ---- what is known by the name

-- the name of a client that is established
pub name_kept : (after name : Option (List ℕ)) (e : Option Established) → (after ≡ name) ⊎ (name ≡ None) → (is_some e ≡ true → is_some name ≡ true)
    → name_once after e ≡ name_once name e
name_kept after name None same named = refl
name_kept after name (Some e) (inl same) named = same
name_kept after name (Some e) (inr none) named = absurd (false≢true (sym (ap is_some none) ∙ named refl))

of_none : (name : Option (List ℕ)) (file : ClientFile) (state : FileState) → FileStands None file state → FileStands name file state
of_none name files.Unasked Unasked h = h
of_none name files.Unasked (Awaited asked) h = absurd h
of_none name files.Unasked (Known known) h = absurd h
of_none name files.AwaitsOwn Unasked h = absurd h
of_none name files.AwaitsOwn (Awaited asked) h = absurd (false≢true (ap is_some h))
of_none name files.AwaitsOwn (Known known) h = absurd h
of_none name files.AwaitsDefault Unasked h = absurd h
of_none name files.AwaitsDefault (Awaited asked) h = h
of_none name files.AwaitsDefault (Known known) h = absurd h
of_none name (files.Known ccd) Unasked h = absurd h
of_none name (files.Known ccd) (Awaited asked) h = absurd h
of_none name (files.Known ccd) (Known known) h = h

-- its file
pub file_kept : (after name : Option (List ℕ)) (file : ClientFile) (state : FileState) → (after ≡ name) ⊎ (name ≡ None) → FileStands name file state → FileStands after file state
file_kept after name file state (inl same) h = subst (λ name. FileStands name file state) (sym same) h
file_kept after name file state (inr none) h = of_none after file state (subst (λ name. FileStands name file state) none h)

-- ---- the core

-- a name that the core keeps is known
name_known : (kept name : Option (List ℕ)) (e : Option Established) → kept ≡ name_once name e → is_some e ≡ true → is_some kept ≡ true → is_some name ≡ true
name_known kept name None is there named = absurd (false≢true there)
name_known kept name (Some e) is there named = sym (ap is_some is) ∙ named

pub same_place : {V : Type 0} (n i : ℕ) (w : V) (es : List (Entry V)) → table.place_of n (table.changed_at i (table.with_value w) es) ≡ table.place_of n es
same_place n i w [] = refl
same_place n zero w (e ∷ es) = refl
same_place n (suc i) w (e ∷ es) = ap (table.earlier (has_number n e.key)) (same_place n i w es)

at_other : {X : Type 0} (f : X → X) (i j : ℕ) (xs : List X) (x : X) → slice_get (table.changed_at i f xs) j ≡ Some x → (i ≡ j → ⊥) → slice_get xs j ≡ Some x
at_other f i j [] x at apart = at
at_other f zero zero (y ∷ xs) x at apart = absurd (apart refl)
at_other f zero (suc j) (y ∷ xs) x at apart = at
at_other f (suc i) zero (y ∷ xs) x at apart = at
at_other f (suc i) (suc j) (y ∷ xs) x at apart = at_other f i j xs x at (λ e. apart (ap suc e))

at_same : {V : Type 0} (i : ℕ) (v w : V) (es : List (Entry V)) → option_map (λ e. e.value) (slice_get es i) ≡ Some v
    → option_map (λ e. e.value) (slice_get (table.changed_at i (table.with_value w) es) i) ≡ Some w
at_same i v w [] at = absurd (false≢true (ap is_some at))
at_same zero v w (e ∷ es) at = refl
at_same (suc i) v w (e ∷ es) at = at_same i v w es at

pub length_at : {X : Type 0} (f : X → X) (i : ℕ) (xs : List X) → length (table.changed_at i f xs) ≡ length xs
length_at f i [] = refl
length_at f zero (x ∷ xs) = refl
length_at f (suc i) (x ∷ xs) = ap suc (length_at f i xs)

module _ {S : Type 0} (core : ServerCore S) (n i : ℕ) (v w : ClientState S) (ct : ClientTable (ClientState S)) (is : IsChangedAt core i (table.with_value w) ct) where
  -- the client is at its place still
  pub place_kept : table.place_of n (entries_of core.clients) ≡ Some i → table.place_of n (entries_of ct) ≡ Some i
  place_kept place = ap (table.place_of n) is.entries_are ∙ same_place n i w (entries_of core.clients) ∙ place

  pub within_kept : i < length (entries_of core.clients) → i < length (entries_of ct)
  within_kept within = subst (λ k. i < k) (sym (ap length is.entries_are ∙ length_at (table.with_value w) i (entries_of core.clients))) within

  -- its value is the other one
  pub value_now : option_map (λ e. e.value) (slice_get (entries_of core.clients) i) ≡ Some v → option_map (λ e. e.value) (slice_get (entries_of ct) i) ≡ Some w
  value_now at = ap (λ es. option_map (λ e. e.value) (slice_get es i)) is.entries_are ∙ at_same i v w (entries_of core.clients) at

  -- all others go on
  pub sound_but_it : (goes_on : S → Type 0) (count since : S → ℕ) → table.place_of n (entries_of core.clients) ≡ Some i → IsSound goes_on count since core
      → IsSoundBut goes_on count since n (record core { clients = ct })
  sound_but_it goes_on count since place h = record {
    sessions = λ j e at apart.
        all_at (GoesOn goes_on count since (core.events + 1) core.moment.0) (entries_of core.clients) j e h.sessions
        (at_other (table.with_value w) i j (entries_of core.clients) e (sym (ap (λ es. slice_get es j) is.entries_are) ∙ at)
        (λ same. apart (place_kept place ∙ ap Some same)));
    most = subst (λ k. k ≤ 4096) (sym is.most_is) h.most;
    admitted = subst (λ k. k ≤ core.events) (sym is.admitted_is) h.admitted;
    connections = h.connections;
    timers = h.timers;
    no_counts = h.no_counts;
    late = h.late;
  }

some_mapped : {A B : Type 0} (f : A → B) (o : Option A) → is_some (option_map f o) ≡ is_some o
some_mapped f None = refl
some_mapped f (Some a) = refl

key_is : {V : Type 0} (o : Option (Entry V)) (e : Entry V) (k : Key) → o ≡ Some e → option_map (λ e. e.key) o ≡ Some k → e.key ≡ k
key_is o e k there is = ap (λ o. unwrap_or o k) (sym (ap (λ o. option_map (λ e. e.key) o) there) ∙ is)

module _ {S : Type 0} (means : S → Peer → Type 0) (before : List Action) (core : ServerCore S) (c : Course) (old new : Contents) (f : Peer → Outcome Turn) (keeps : (p : Peer) → CallKeeps p (f p))
    (i : ℕ) (v w : ClientState S) (k : Key) (ct : ClientTable (ClientState S)) (is : IsChangedAt core i (table.with_value w) ct)
    (at : option_map (λ e. e.value) (slice_get (entries_of core.clients) i) ≡ Some v) (key : option_map (λ e. e.key) (slice_get (entries_of core.clients) i) ≡ Some k)
    (place : table.place_of core.turn.0 (entries_of core.clients) ≡ Some i) (named : IsNamedAt core i) (others : w ≡ record v { session = w.session })
    (left : (p : Peer) → means v.session p → Leaves means w.session old new k.address (f p))
    (there : IsThere means core c.table core.turn.0 i) where
  abbrev pub x : Client
  x = there.client

  established_named : is_some x.established ≡ true → is_some x.session.name ≡ true
  established_named some =
      name_known there.entry.key.name x.session.name x.established there.stands.name some
      (named there.entry there.entry_there (sym (some_mapped established_at there.entry.value.established) ∙ ap is_some there.stands.state.established ∙ some))

  -- the call of the session is one that is put into the course
  pub called : HasCalled means core i old new (f x.session) v w ct x
  called =
      let kept = keeps x.session in
      let o = f x.session in
      record {
        place = place;
        value = at;
        changed = is;
        others = others;
        leaves = subst (λ (to : Addr). Leaves means w.session old new to o)
            (sym (ap (λ (k : Key). k.address) (key_is (slice_get (entries_of core.clients) i) there.entry k there.entry_there key)) ∙ there.stands.address)
            (left x.session (state_at means core c.table core.turn.0 i v there at).session);
        remote = kept.remote;
        name = name_kept o.peer.name x.session.name x.established kept.name established_named;
        file = file_kept o.peer.name x.session.name v.file x.file kept.name
            (subst (λ (v : ClientState S). FileStands x.session.name v.file x.file) (value_is (slice_get (entries_of core.clients) i) there.entry v there.entry_there at) there.stands.file);
      }

  -- it opens no connection
  pub acted_is : (y : Client) → client_here c.table core.turn.0 ≡ Some y
      → (((z : Client) → client_here c.table core.turn.0 ≡ Some z → HasCalled means core i old new (f y.session) v w ct z)
      → CourseStands means before
      (record core {
        clients = ct;
        connections = core.connections
            + opens_in (actions_of (f y.session).peer.role (f y.session).doings);
      })
      new (acted core.turn.0 y.address (f y.session) c))
      → CourseStands means before (record core { clients = ct }) new (acted core.turn.0 y.address (f y.session) c)
  acted_is y here law =
      let o = f y.session in
      let none : core.connections + opens_in (actions_of o.peer.role o.doings) ≡ core.connections =
      ap (λ n. core.connections + n) (keeps y.session).opens ∙ omega arith in
      subst (λ (n : ℕ). CourseStands means before (record core { clients = ct; connections = n }) new (acted core.turn.0 y.address o c)) none
      (law (λ z at.
      subst (λ (z : Client). HasCalled means core i old new o v w ct z) (same_client _ y z here at)
      (subst (λ (x : Client). HasCalled means core i old new (f x.session) v w ct x) (same_client _ x y there.client_there here) called)))

-- a turn that is not over
pub goes_on_so : {A B : Type 0} (turn : Turn) → (A → B) → GoesOnUnlessOver A turn → GoesOnUnlessOver B turn
goes_on_so Going f h = f h
goes_on_so Ignored f h = f h
goes_on_so Named f h = f h
goes_on_so Exchange f h = f h
goes_on_so (Over cause) f h = tt
