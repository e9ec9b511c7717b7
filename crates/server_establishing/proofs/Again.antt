-- The reply once more.
use Rattle.std.proofs.Common.{◌≡◌, ℕ, List, ◌++◌, slice_get, option_map, Some, None, sym, ap, subst, ◌∙◌}
use Rattle.std.specs.Prelude.{is_some}
use Rattle.std.proofs.lemmas.Bool.{false≢true}
use Rattle.std.proofs.lemmas.List.{append_assoc}
use Rattle.vpn_base.specs.declared.address.Ip4.{Ip4}
use Rattle.vpn_base.specs.declared.names.Moment.{Moment}
use Rattle.ovpn_config.specs.declared.settings.Settings.{Settings}
use Rattle.ccd_files.specs.declared.client_file.Ccd.{Ccd}
use Rattle.vpn_links.specs.Actions.{Action, Contents, Holds}
use Rattle.peer_table.specs.Peer.{Peer}
use Rattle.server_table.specs.Courses.{Course, did_all}
use Rattle.client_table.specs.Tables.{entries_of}
use Rattle.server_table.specs.Establishing.{ccd_in, leased_to}
use Rattle.server_table.specs.Lookups.{client_here}
use Rattle.server_table.specs.Table.{Client, Established, Table}
use Rattle.server_texts.specs.Replies.{AreRepliesTo, Replies}
use Rattle.server_state.specs.declared.client.ClientState.{ClientState}
use Rattle.server_state.specs.declared.state.ServerCore.{ServerCore}
use Rattle.server_state.specs.Core.{CourseStands, FileStands, StateStands, established_at}
use Rattle.server_state.specs.Places.{IsThere}
use Rattle.server_establishing.proofs.Placed.{some_is}

-- a list of effects more
pub did_all_stands : {S : Type 0} (means : S → Peer → Type 0) (before : List Action) (core : ServerCore S) (old new : Contents) (actions : List Action) (c : Course)
    → CourseStands means before core old c → Holds new (old.effects ++ actions) old.staged → CourseStands means before core new (did_all actions c)
did_all_stands means before core old new actions c h is = record {
  table = h.table;
  outbox = (is.0 ∙ ap (λ (l : List Action). l ++ actions) h.outbox.0 ∙ append_assoc before c.effects actions, is.1 ∙ h.outbox.1);
  in_turn = h.in_turn;
}

-- the client at a place, by its value
pub record StandsFor {S : Type 0} (means : S → Peer → Type 0) (v : ClientState S) (x : Client) : Type 0 where
  pub file : FileStands x.session.name v.file x.file
  pub state : StateStands means v x

pub stands_for : {S : Type 0} (means : S → Peer → Type 0) (core : ServerCore S) (t : Table) (m i : ℕ) (v : ClientState S) (x : Client) → IsThere means core t m i
    → option_map (λ e. e.value) (slice_get (entries_of core.clients) i) ≡ Some v → client_here t m ≡ Some x → StandsFor means v x
stands_for means core t m i v x l value there =
    let value_is : l.entry.value ≡ v = some_is l.entry.value v (sym (ap (λ o. option_map (λ e. e.value) o) l.entry_there) ∙ value) in
    subst (StandsFor means v) (some_is l.client x (sym l.client_there ∙ there))
    (subst (λ v. StandsFor means v l.client) value_is (record { file = l.stands.file; state = l.stands.state }))

-- its address, which the core has
pub address_is : {S : Type 0} (means : S → Peer → Type 0) (v : ClientState S) (x : Client) (e : Established) (p : Ip4 × Moment) → StandsFor means v x → v.established ≡ Some p
    → x.established ≡ Some e → e.address ≡ p.0
address_is means v x e p h is has =
    ap (λ (e : Established). e.address) (some_is e (established_at p) (sym has ∙ sym h.state.established ∙ ap (option_map established_at) is))

-- nothing is kept of the address of a client that has none
pub none_is : {S : Type 0} (means : S → Peer → Type 0) (v : ClientState S) (x : Client) (e : Established) → StandsFor means v x → v.established ≡ None
    → x.established ≡ Some e → ⊥
none_is means v x e h is has = false≢true (ap is_some (sym (ap (option_map established_at) is) ∙ h.state.established ∙ has))

-- the replies to a client, by what the core has of it
pub again_is : (s : Settings) (file : Ccd) (peer_id : ℕ) (e : Established) (r : Replies) (t : Table) (x : Client) → s ≡ t.settings → file ≡ ccd_in x.file → peer_id ≡ x.peer_id
    → AreRepliesTo s file peer_id (leased_to s file.address e) r → AreRepliesTo t.settings (ccd_in x.file) x.peer_id (leased_to t.settings (ccd_in x.file).address e) r
again_is s file peer_id e r t x settings files peer h =
    subst (λ s. AreRepliesTo s (ccd_in x.file) x.peer_id (leased_to s (ccd_in x.file).address e) r) settings
    (subst (λ (file : Ccd). AreRepliesTo s file x.peer_id (leased_to s file.address e) r) files
    (subst (λ p. AreRepliesTo s file p (leased_to s file.address e) r) peer h))
