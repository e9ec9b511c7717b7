-- What a client has whose file comes.
use Rattle.std.proofs.Common.{◌≡◌, ◌+◌, ◌≤◌, ℕ, Bool, List, Some, None, is_some, refl, sym, ap, subst, ◌∙◌, arith}
use Rattle.vpn_base.specs.declared.names.Cid.{Cid}
use Rattle.vpn_links.specs.Actions.{Contents, Holds}
use Rattle.vpn_links.specs.declared.events.FileAnswer.{FileAnswer}
use Rattle.vpn_links.specs.declared.events.Kind.{Kind}
use Rattle.vpn_links.specs.declared.events.Kind.TheVariants.{File}
use Rattle.ccd_files.specs.declared.client_file.Ccd.{Ccd}
use Rattle.peer_table.specs.Exchange.{all_unread}
use Rattle.peer_table.specs.Peer.{Peer}
use Rattle.server_table.specs.Courses.{Course}
use Rattle.server_table.specs.Engine.{file_is}
use Rattle.server_table.specs.Lookups.{client_here}
use Rattle.server_table.specs.Table.{Client, Known}
use Rattle.server_state.specs.declared.state.ServerCore.{ServerCore}
use Rattle.server_engine.specs.Calls.{IsNamedAt, IsReadyAt, MayExchangeNow}
use Rattle.server_establishing.specs.declared.asking.Prepared.{Prepared}
use Rattle.server_establishing.specs.declared.asking.Prepared.TheVariants.{Again, New, Nothing}
use Rattle.server_establishing.specs.Ahead.{IsMadeFor, KeepsPlace}
use Rattle.server_establishing.specs.Prepared.{IsPrepared}
use Rattle.server_answers.specs.internal.Ahead.{IsMadeAs, IsTurnAt}
use Rattle.server_answers.proofs.Going.{with_file}
use Rattle.server_answers.proofs.Stays.{MadeStays}

-- a session that is ready for the file may make its exchange
pub may_exchange : {S : Type 0} (is_ready : S → Kind → Bool → ℕ → ℕ → Type 0) (may : S → Type 0)
    → ((s : S) (id : Cid) (answer : FileAnswer) (established : Bool) (effects bytes : ℕ) → is_ready s (File id answer) established effects bytes → may s)
    → (core : ServerCore S) (i : ℕ) (id : Cid) (answer : FileAnswer) (effects bytes : ℕ) → IsTurnAt core i → IsReadyAt is_ready core i (File id answer) effects bytes → IsNamedAt core i
    → MayExchangeNow may core i
may_exchange is_ready may law core i id answer effects bytes turn ready named = record {
  place = turn.place;
  within = turn.within;
  exchange = λ v at. law v.session id answer (is_some v.established) effects bytes (ready v at);
  named = named;
}

file_keeps : (file : Ccd) → KeepsPlace (with_file (Known file))
file_keeps file = record { here = λ y. refl; established = λ y. refl; peer_id = λ y. refl }

-- what was made ahead for a client with this file is prepared for it once the file is known
pub prepared_with : MadeStays → (n : ℕ) (c : Course) (x : Client) (name as_is : List ℕ) (file : Ccd) (p : Prepared) → client_here c.table n ≡ Some x → x.established ≡ None
    → as_is ≡ name → x.session.name ≡ Some name → IsMadeAs c n as_is file p → IsPrepared (file_is n (Known file) c) n (with_file (Known file) x) p
prepared_with stays n c x name as_is file (New ahead) there none same named made = record {
  not_yet = none;
  name = named ∙ ap (λ (n : List ℕ). Some n) (sym (made.name_is ∙ same));
  file = sym made.file_is;
  made = stays c (file_is n (Known file) c) n ahead.name ahead.file ahead (with_file (Known file)) x
      (subst (λ (file : Ccd). IsMadeFor c n ahead.name file ahead) (sym made.file_is) (subst (λ (name : List ℕ). IsMadeFor c n name file ahead) (sym made.name_is) made)) there none
      (file_keeps file) refl refl;
}
prepared_with stays n c x name as_is file (Again replies) there none same named made = absurd made
prepared_with stays n c x name as_is file Nothing there none same named made = absurd made

-- no text comes with it
pub no_more : (p : Peer) (left : ℕ) → all_unread p.sessions + 0 ≤ left → all_unread p.sessions ≤ left
no_more p left le = so (all_unread p.sessions) left le
  where
    so : (a b : ℕ) → a + 0 ≤ b → a ≤ b
    so a b le = omega (arith, le)

-- an outbox that has what another has that has this
pub holds_then : (first mid last : Contents) → Holds mid first.effects first.staged → Holds last mid.effects mid.staged → Holds last first.effects first.staged
holds_then first mid last one other = (other.0 ∙ one.0, other.1 ∙ one.1)
