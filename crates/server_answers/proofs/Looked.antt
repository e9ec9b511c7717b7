-- What is seen of a client at its place.
use Rattle.std.proofs.Common.{◌≡◌, ℕ, true, false, List, slice_get, option_map, Option, Some, None, is_some, refl, sym, ap, subst, ◌∙◌}
use Rattle.std.proofs.lemmas.Bool.{false≢true}
use Rattle.vpn_base.specs.declared.names.Draw.{Draw}
use Rattle.vpn_links.specs.declared.events.Kind.{Kind}
use Rattle.vpn_links.specs.declared.events.Kind.TheVariants as kinds
use Rattle.ccd_files.specs.declared.client_file.Ccd.{Ccd}
use Rattle.client_table.specs.Tables.{entries_of}
use Rattle.peer_table.specs.declared.outcomes.Turn.{Turn}
use Rattle.peer_table.specs.Peer.{Outcome, Peer}
use Rattle.server_table.specs.Courses.{Course}
use Rattle.server_table.specs.Engine.{answer_acted, engine_acted, text_acted}
use Rattle.server_table.specs.Establishing.{ccd_in}
use Rattle.server_table.specs.Lookups.{client_here}
use Rattle.server_table.specs.Table.{Client, Established, Table}
use Rattle.server_state.specs.declared.client.ClientState.{ClientState}
use Rattle.server_state.specs.declared.state.ServerCore.{ServerCore}
use Rattle.server_state.specs.Core.{FileStands, StateStands, established_at}
use Rattle.server_state.specs.Places.{IsThere}
use Rattle.server_establishing.specs.declared.asking.Prepared.{Prepared}
use Rattle.server_establishing.specs.declared.asking.Prepared.TheVariants.{Again, New, Nothing}
use Rattle.server_establishing.specs.Ahead.{IsMadeFor}
use Rattle.server_answers.specs.Texts.{is_text}
use Rattle.server_answers.specs.internal.Ahead.{IsAgain, IsMadeAs, IsReadied, NameAhead}
use Rattle.server_answers.proofs.Keeping.{some_is}
use Rattle.server_answers.proofs.Readied.{value_is}

module _ {S : Type 0} (means : S → Peer → Type 0) (core : ServerCore S) (t : Table) (n i : ℕ) (l : IsThere means core t n i) (v : ClientState S)
    (at : option_map (λ e. e.value) (slice_get (entries_of core.clients) i) ≡ Some v) (x : Client) (there : client_here t n ≡ Some x) where
  one : l.client ≡ x
  one = some_is l.client x (sym l.client_there ∙ there)

  -- it stands for the client
  pub state_at : StateStands means v x
  state_at =
      subst (λ (x : Client). StateStands means v x) one
      (subst (λ (v : ClientState S). StateStands means v l.client) (value_is (slice_get (entries_of core.clients) i) l.entry v l.entry_there at) l.stands.state)

  pub file_stands : FileStands x.session.name v.file x.file
  file_stands =
      subst (λ (x : Client). FileStands x.session.name v.file x.file) one
      (subst (λ (v : ClientState S). FileStands l.client.session.name v.file l.client.file) (value_is (slice_get (entries_of core.clients) i) l.entry v l.entry_there at) l.stands.file)

  pub established_is : is_some v.established ≡ is_some x.established
  established_is = sym (some_mapped established_at v.established) ∙ ap is_some state_at.established
    where
      some_mapped : {A B : Type 0} (f : A → B) (o : Option A) → is_some (option_map f o) ≡ is_some o
      some_mapped f None = refl
      some_mapped f (Some a) = refl

-- ---- what is prepared

readied_by : (kind : Kind) (c : Course) (n : ℕ) (x : Client) (p : Prepared) → is_some x.session.name ≡ true → IsAgain c.table x p → IsReadied kind c n x p
readied_by kind c n x (New ahead) named of = absurd of
readied_by kind c n x (Again replies) named of = (of, named)
readied_by kind c n x Nothing named of = absurd of

-- an established client has the reply that it got
pub readied_again : (kind : Kind) (c : Course) (n : ℕ) (x : Client) (p : Prepared) → is_some x.established ≡ true → is_some x.session.name ≡ true
    → ((e : Established) → x.established ≡ Some e → IsAgain c.table x p) → IsReadied kind c n x p
readied_again kind c n x p some named of = by_when x.established refl some
  where
    by_when : (o : Option Established) → x.established ≡ o → is_some o ≡ true → IsReadied kind c n x p
    by_when None is some = absurd (false≢true some)
    by_when (Some e) is some = readied_by kind c n x p named (of e is)

pub none_of : {A : Type 0} (o : Option A) → is_some o ≡ false → o ≡ None
none_of None is = refl
none_of (Some a) is = absurd (false≢true (sym is))

-- one that is not established has what was made for it
pub readied_new : (kind : Kind) (c : Course) (n : ℕ) (x : Client) (name as_is : List ℕ) (file : Ccd) (p : Prepared) → is_some x.established ≡ false → as_is ≡ name
    → NameAhead kind name x.session x.session.name → ccd_in x.file ≡ file → IsMadeAs c n as_is file p → IsReadied kind c n x p
readied_new kind c n x name as_is file (New ahead) none same named says made = record {
  not_yet = none_of x.established none;
  name = subst (λ (name : List ℕ). NameAhead kind name x.session x.session.name) (sym (made.name_is ∙ same)) named;
  file = says ∙ sym made.file_is;
  made = subst (λ (file : Ccd). IsMadeFor c n ahead.name file ahead) (sym made.file_is) (subst (λ (name : List ℕ). IsMadeFor c n name file ahead) (sym made.name_is) made);
}
readied_new kind c n x name as_is file (Again replies) none same named says made = absurd made
readied_new kind c n x name as_is file Nothing none same named says made = absurd made

-- ---- what the engine has

pub acted_text : (draw : Draw) (n : ℕ) (x : Client) (c : Course) (kind : Kind) (o : Outcome Turn) → is_text kind ≡ true → answer_acted draw n x c kind o ≡ text_acted n x c o
acted_text draw n x c (kinds.EngineText conn bytes) o is = refl
acted_text draw n x c (kinds.EnginePlain conn bytes) o is = absurd (false≢true is)
acted_text draw n x c (kinds.EngineUp conn name) o is = absurd (false≢true is)
acted_text draw n x c (kinds.EngineDown conn) o is = absurd (false≢true is)
acted_text draw n x c (kinds.Datagram from bytes) o is = absurd (false≢true is)
acted_text draw n x c (kinds.DeviceIn bytes) o is = absurd (false≢true is)
acted_text draw n x c kinds.DeviceReady o is = absurd (false≢true is)
acted_text draw n x c (kinds.File cid answer) o is = absurd (false≢true is)
acted_text draw n x c (kinds.Line bytes) o is = absurd (false≢true is)
acted_text draw n x c kinds.Tick o is = absurd (false≢true is)
acted_text draw n x c kinds.Halt o is = absurd (false≢true is)

pub acted_plain : (draw : Draw) (n : ℕ) (x : Client) (c : Course) (kind : Kind) (o : Outcome Turn) → is_text kind ≡ false → answer_acted draw n x c kind o ≡ engine_acted draw n x c o
acted_plain draw n x c (kinds.EngineText conn bytes) o is = absurd (false≢true (sym is))
acted_plain draw n x c (kinds.EnginePlain conn bytes) o is = refl
acted_plain draw n x c (kinds.EngineUp conn name) o is = refl
acted_plain draw n x c (kinds.EngineDown conn) o is = refl
acted_plain draw n x c (kinds.Datagram from bytes) o is = refl
acted_plain draw n x c (kinds.DeviceIn bytes) o is = refl
acted_plain draw n x c kinds.DeviceReady o is = refl
acted_plain draw n x c (kinds.File cid answer) o is = refl
acted_plain draw n x c (kinds.Line bytes) o is = refl
acted_plain draw n x c kinds.Tick o is = refl
acted_plain draw n x c kinds.Halt o is = refl
