-- Until the name of the other end is known, no session gets beyond its first stage.
use Rattle.std.proofs.Common.{◌≡◌, ℕ, zero, suc, List, [], ◌∷◌, ◌++◌, Option, Some, None, refl, ap, sym, subst, ◌∙◌}
use Rattle.std.proofs.lemmas.Option.{none-some}
use Rattle.std.specs.Prelude.{slice_get}
use Rattle.vpn_base.specs.declared.names.Cipher.{Cipher}
use Rattle.vpn_base.specs.declared.names.Conn.{Conn}
use Rattle.vpn_base.specs.declared.names.Draw.{Draw}
use Rattle.vpn_base.specs.declared.names.Policy.{Policy}
use Rattle.vpn_base.specs.declared.names.Role.{Role}
use Rattle.vpn_base.specs.declared.names.Sid.{Sid}
use Rattle.vpn_base.specs.declared.names.Timers.{Timers}
use Rattle.key_method2.specs.declared.message.Km2.{Km2}
use Rattle.key_method2.specs.declared.message.Source.{Source}
use Rattle.key_method2.specs.Messages.{server_message}
use Rattle.tls_crypt.specs.Packets.{Wrapping}
use Rattle.peer_table.specs.declared.outcomes.Turn.{Turn}
use Rattle.peer_table.specs.declared.outcomes.Turn.TheVariants.{Going}
use Rattle.peer_table.specs.EngineAnswers.{message_in, message_of, prepared_message}
use Rattle.peer_table.specs.Exchange.{asks_with, at_most_two, block_of, chosen, exchanged, exchanged_from, exchanged_with, is_open_keyed, oldest_of, server_source, session_closed, with_keys, writing}
use Rattle.peer_table.specs.KeySessions.{Keys, Opening, Session, closed, newest, newest_session}
use Rattle.peer_table.specs.Peer.{Outcome, Peer, began, remote_of}
use Rattle.peer_table.specs.Places.{changed_at, places_from}
use Rattle.peer_table.specs.Unnamed.{EachOpening, OpeningUnlessNamed}
use Rattle.peer_session.proofs.Retired.{Facts, OfPeer, Stays}
use Rattle.peer_session.proofs.RetiredTicks.{ClosingKeeps, began_stays}

-- each session is in its first stage, unless a name is known
abbrev pub NameFirst : Facts
NameFirst timers name ss = OpeningUnlessNamed name ss

-- ---- single changes

changed_opening : (n : ℕ) (f : Session → Session) (ss : List Session) → ((s : Session) → slice_get ss n ≡ Some s → (f s).stage ≡ s.stage) → EachOpening ss →
    EachOpening (changed_at n f ss)
changed_opening n f [] keeps is = is
changed_opening zero f (s ∷ ss) keeps is = (keeps s refl ∙ is.0, is.1)
changed_opening (suc n) f (s ∷ ss) keeps is = (is.0, changed_opening n f ss keeps is.1)

changed_first : (name : Option (List ℕ)) (n : ℕ) (f : Session → Session) (ss : List Session) → ((s : Session) → slice_get ss n ≡ Some s → (f s).stage ≡ s.stage) →
    OpeningUnlessNamed name ss → OpeningUnlessNamed name (changed_at n f ss)
changed_first None n f ss keeps is = changed_opening n f ss keeps is
changed_first (Some name) n f ss keeps is = tt

more_opening : (ss : List Session) (x : Session) → x.stage ≡ Opening → EachOpening ss → EachOpening (ss ++ x ∷ [])
more_opening [] x opening is = (opening, tt)
more_opening (s ∷ ss) x opening is = (is.0, more_opening ss x opening is.1)

more_first : (name : Option (List ℕ)) (ss : List Session) (x : Session) → x.stage ≡ Opening → OpeningUnlessNamed name ss → OpeningUnlessNamed name (ss ++ x ∷ [])
more_first None ss x opening is = more_opening ss x opening is
more_first (Some name) ss x opening is = tt

pub first_stays : Stays NameFirst
first_stays = record {
  changed = λ timers name n f ss keeps is. changed_first name n f ss (λ s here. (keeps s here).stage) is;
  given = λ timers before name n ss opening is. tt;
  more = λ timers name ss x opening is. more_first name ss x opening is;
}

pub closing_first : ClosingKeeps NameFirst
closing_first timers name n ss is = changed_first name n closed ss (λ s here. refl) is

-- ---- the key exchange

some_same : {X : Type 0} {a b : X} → Some a ≡ Some b → a ≡ b
some_same e = cc e

opening_at : (ss : List Session) (n : ℕ) (s : Session) → EachOpening ss → slice_get ss n ≡ Some s → s.stage ≡ Opening
opening_at [] n s each at = absurd (none-some s at)
opening_at (t ∷ ss) zero s each at = ap (λ (x : Session). x.stage) (sym (some_same at)) ∙ each.0
opening_at (t ∷ ss) (suc n) s each at = opening_at ss n s each.1 at

none_of : (p : Peer) (o : Option Session) → ((s : Session) → o ≡ Some s → s.stage ≡ Opening) → message_of p o ≡ None
none_of p None opening = refl
none_of p (Some s) opening = ap (message_in p s) (opening s refl)

none_prepared : (p : Peer) → EachOpening p.sessions → prepared_message p ≡ None
unfolding prepared_message
none_prepared p each = none_of p (newest_session p.sessions) (λ s at. opening_at p.sessions (newest p.sessions) s each at)

name_closed : (o : Option ℕ) (c : Outcome Turn) → (session_closed o c).peer.name ≡ c.peer.name
name_closed None c = refl
name_closed (Some n) c = refl

name_two : (c : Outcome Turn) → (at_most_two c).peer.name ≡ c.peer.name
name_two c = name_closed (oldest_of (places_from is_open_keyed 0 c.peer.sessions)) c

name_with : (peer_id : ℕ) (p : Peer) (own : Source) (message : Km2) (used : ℕ) (cipher : Option Cipher) → (exchanged_with peer_id p own message used cipher).peer.name ≡ p.name
name_with peer_id p own message used None = refl
name_with peer_id p own message used (Some cipher) =
    let keys : Keys = record { block = block_of message.source own (remote_of p).0 p.envelope.own.0; cipher = cipher; peer_id = peer_id } in
    let c : Outcome Turn =
    record {
      peer = record (with_keys (newest p.sessions) keys used p) { asks_push = asks_with (newest p.sessions) message.info p };
      doings = writing (server_message own) (newest_session p.sessions);
      datagrams = [];
      answer = Going;
    } in
    name_two c

name_from : (policy : Policy) (peer_id : ℕ) (p : Peer) (own : Source) (m : Option (Km2 × ℕ)) → (exchanged_from policy peer_id p own m).peer.name ≡ p.name
name_from policy peer_id p own None = refl
name_from policy peer_id p own (Some m) = name_with peer_id p own m.0 m.1 (chosen policy m.0.info)

first_of : (p : Peer) (name : List ℕ) → p.name ≡ Some name → OfPeer NameFirst p
first_of p name is = subst (λ (o : Option (List ℕ)). OpeningUnlessNamed o p.sessions) (sym is) (tt {0})

module _ (policy : Policy) (peer_id : ℕ) (draw : Draw) (p : Peer) where
  abbrev exchanged_by : Option (Km2 × ℕ) → Peer
  exchanged_by m = (exchanged_from policy peer_id p (server_source draw) m).peer

  exchange_by : (name : Option (List ℕ)) → p.name ≡ name → OpeningUnlessNamed name p.sessions → OfPeer NameFirst p → OfPeer NameFirst (exchanged_by (prepared_message p))
  exchange_by None known is first = subst (λ (m : Option (Km2 × ℕ)). OfPeer NameFirst (exchanged_by m)) (sym (none_prepared p is)) first
  exchange_by (Some name) known is first =
      first_of (exchanged_by (prepared_message p)) name (name_from policy peer_id p (server_source draw) (prepared_message p) ∙ known)

  pub exchange_first : OfPeer NameFirst p → OfPeer NameFirst (exchanged policy peer_id draw p).peer
  unfolding exchanged
  exchange_first is = exchange_by p.name refl is is

-- ---- the beginning

pub began_first : (role : Role) (wraps : Wrapping) (own : Sid) (timers : Timers) (conn : Conn) (now : ℕ) → OfPeer NameFirst (began role wraps own timers conn now).peer
began_first role wraps own timers conn now = began_stays first_stays role wraps own timers conn now (refl, tt)
