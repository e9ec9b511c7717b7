-- Files that are asked for.
use Rattle.std.proofs.Common.{◌≡◌, ℕ, true, false, List, [], ◌∷◌, ◌++◌, slice_get, option_map, Option, Some, None, refl, sym, ap, subst, ◌∙◌}
use Rattle.std.specs.Prelude.{unwrap_or}
use Rattle.std.proofs.lemmas.Bool.{false≢true}
use Rattle.std.proofs.lemmas.List.{append_assoc}
use Rattle.vpn_base.specs.declared.names.Cid.{Cid}
use Rattle.vpn_links.specs.Actions.{Action, Ask, Contents, Holds}
use Rattle.client_table.specs.declared.table.ClientTable.{ClientTable}
use Rattle.client_table.specs.Changes as table
use Rattle.client_table.specs.Tables.{entries_of}
use Rattle.peer_table.specs.Peer.{Peer}
use Rattle.server_table.specs.Courses.{Course, with_client}
use Rattle.server_table.specs.Engine.{asked, asked_by, asked_for, asked_in, asked_once}
use Rattle.server_table.specs.Lookups.{cid, client_here}
use Rattle.server_table.specs.Table.{Awaited, Client, FileState, Known, Table, Unasked}
use Rattle.server_state.specs.declared.client.ClientFile.{ClientFile}
use Rattle.server_state.specs.declared.client.ClientFile.TheVariants as files
use Rattle.server_state.specs.declared.client.ClientState.{ClientState}
use Rattle.server_state.specs.declared.state.ServerCore.{ServerCore}
use Rattle.server_state.specs.Core.{AreInTurn, CoreStands, CourseStands, FileStands, IsOfClient}
use Rattle.server_state.specs.Places.{IsChangedAt, IsThere}
use Rattle.server_engine.specs.Files.{NameFits}
use Rattle.server_engine.specs.internal.Asked.{is_unasked}
use Rattle.server_engine.proofs.Judged.{state_at, value_is}

module _ {S : Type 0} (means : S → Peer → Type 0) (core : ServerCore S) where
  -- another file at the core and at the table
  pub file_set : (t : Table) (n i : ℕ) (file : ClientFile) (state : FileState) (there : IsThere means core t n i) (v w : ClientState S) (ct : ClientTable (ClientState S))
      → option_map (λ e. e.value) (slice_get (entries_of core.clients) i) ≡ Some v → w ≡ record v { file = file } → IsChangedAt core i (table.with_value w) ct
      → ((x : Client) → client_here t n ≡ Some x → FileStands x.session.name file state)
      → CoreStands means (record core { clients = ct }) (with_client n (λ x. record x { file = state }) t)
  file_set t n i file state there v w ct at same is of =
      let x = there.client in
      let s = state_at means core t n i v there at in
      there.changed ct (table.with_value w) (λ x. record x { file = state }) is there.here
      (subst (λ w. IsOfClient means (table.with_value w there.entry) n (record x { file = state })) (sym same) (record {
        number = there.stands.number;
        peer_id = there.stands.peer_id;
        address = there.stands.address;
        remote = there.stands.remote;
        name = there.stands.name;
        file = of x there.client_there;
        state = record {
          session = s.session;
          established = s.established;
          heard = s.heard;
          sealed_at = s.sealed_at;
          bytes_in = s.bytes_in;
          bytes_out = s.bytes_out;
        };
      }))
      (λ y. refl)

  module _ (before : List Action) (c : Course) where
    -- one effect, and the file
    pub set_after : (core1 : ServerCore S) (old new : Contents) (n : ℕ) (name : List ℕ) → CourseStands means before core old c
        → Holds new (old.effects ++ Ask (cid n) name ∷ []) old.staged → core1.turn ≡ core.turn → core1.mark ≡ core.mark
        → CoreStands means core1 (with_client n (λ x. record x { file = Awaited name }) c.table)
        → CourseStands means before core1 new (asked_for n name c)
    set_after core1 old new n name h holds turn mark stands = record {
      table = stands;
      outbox = (
        holds.0 ∙ ap (λ (l : List Action). l ++ Ask (cid n) name ∷ []) h.outbox.0 ∙ append_assoc before c.effects (Ask (cid n) name ∷ []),
        holds.1 ∙ h.outbox.1,
      );
      in_turn = subst (λ (who : Cid). AreInTurn who.0 core1.mark c.staged) (sym turn) (subst (λ k. AreInTurn core.turn.0 k c.staged) (sym mark) h.in_turn);
    }

    -- the same with no effect
    pub set_alone : (core1 : ServerCore S) (old : Contents) (n : ℕ) (state : FileState) → CourseStands means before core old c
        → core1.turn ≡ core.turn → core1.mark ≡ core.mark
        → CoreStands means core1 (with_client n (λ x. record x { file = state }) c.table)
        → CourseStands means before core1 old (record c { table = with_client n (λ x. record x { file = state }) c.table })
    set_alone core1 old n state h turn mark stands = record {
      table = stands;
      outbox = h.outbox;
      in_turn = subst (λ (who : Cid). AreInTurn who.0 core1.mark c.staged) (sym turn) (subst (λ k. AreInTurn core.turn.0 k c.staged) (sym mark) h.in_turn);
    }

-- a client is here once
pub same_client : (o : Option Client) (x y : Client) → o ≡ Some x → o ≡ Some y → x ≡ y
same_client o x y one other = ap (λ (o : Option Client). unwrap_or o x) (sym one ∙ other)

-- ---- what was asked for

-- a name that is known
pub known_name : (longest : ℕ) (name : Option (List ℕ)) → NameFits longest name → name ≡ Some (unwrap_or name [])
known_name longest None fits = absurd fits
known_name longest (Some name) fits = refl

unasked_is : (name : Option (List ℕ)) (file : ClientFile) (state : FileState) → is_unasked file ≡ true → FileStands name file state → state ≡ Unasked
unasked_is name files.Unasked Unasked is h = refl
unasked_is name files.Unasked (Awaited asked) is h = absurd h
unasked_is name files.Unasked (Known ccd) is h = absurd h
unasked_is name files.AwaitsOwn state is h = absurd (false≢true is)
unasked_is name files.AwaitsDefault state is h = absurd (false≢true is)
unasked_is name (files.Known ccd) state is h = absurd (false≢true is)

asked_already : (name : Option (List ℕ)) (file : ClientFile) (state : FileState) (n : ℕ) (x : Client) (c : Course) → is_unasked file ≡ false → FileStands name file state
    → asked_once n x c state ≡ c
asked_already name files.Unasked state n x c is h = absurd (false≢true (sym is))
asked_already name files.AwaitsOwn (Awaited asked) n x c is h = refl
asked_already name files.AwaitsOwn Unasked n x c is h = absurd h
asked_already name files.AwaitsOwn (Known ccd) n x c is h = absurd h
asked_already name files.AwaitsDefault (Awaited asked) n x c is h = refl
asked_already name files.AwaitsDefault Unasked n x c is h = absurd h
asked_already name files.AwaitsDefault (Known ccd) n x c is h = absurd h
asked_already name (files.Known ccd) (Known known) n x c is h = refl
asked_already name (files.Known ccd) Unasked n x c is h = absurd h
asked_already name (files.Known ccd) (Awaited asked) n x c is h = absurd h

module _ {S : Type 0} (means : S → Peer → Type 0) (before : List Action) (core : ServerCore S) (c : Course) (out : Contents) (m : ℕ)
    (h : CourseStands means before core out c) where
  -- nobody is here
  pub nobody_asked : client_here c.table m ≡ None → CourseStands means before core out (asked m c)
  unfolding asked
  nobody_asked none = subst (λ o. CourseStands means before core out (asked_by m c o)) (sym none) h

  module _ (i : ℕ) (there : IsThere means core c.table m i) (v : ClientState S) (at : option_map (λ e. e.value) (slice_get (entries_of core.clients) i) ≡ Some v) where
    file_was : FileStands there.client.session.name v.file there.client.file
    file_was =
        subst (λ (v : ClientState S). FileStands there.client.session.name v.file there.client.file)
        (value_is (slice_get (entries_of core.clients) i) there.entry v there.entry_there at) there.stands.file

    -- a file is asked for
    pub first_asked : (next : ServerCore S) (after : Contents) → is_unasked v.file ≡ true
        → CourseStands means before next after (asked_in m (unwrap_or there.client.session.name []) c c.table.settings.ccd) → CourseStands means before next after (asked m c)
    unfolding asked
    first_asked next after is got =
        subst (λ o. CourseStands means before next after (asked_by m c o)) (sym there.client_there)
        (subst (λ f. CourseStands means before next after (asked_once m there.client c f)) (sym (unasked_is there.client.session.name v.file there.client.file is file_was)) got)

    -- one was asked for before
    pub not_asked : is_unasked v.file ≡ false → CourseStands means before core out (asked m c)
    unfolding asked
    not_asked is =
        subst (λ o. CourseStands means before core out (asked_by m c o)) (sym there.client_there)
        (subst (λ c. CourseStands means before core out c) (sym (asked_already there.client.session.name v.file there.client.file m there.client c is file_was)) h)
