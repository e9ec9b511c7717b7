-- The steps of a key exchange.
use Rattle.std.proofs.Common.{◌≡◌, ◌≢◌, ℕ, zero, suc, ◌<◌, Bool, true, false, List, [], ◌∷◌, ◌++◌, Option, Some, None, Bor, refl, ap, sym, ◌∙◌, arith}
use Rattle.std.specs.Prelude.{is_some, IfSome}
use Rattle.std.proofs.lemmas.Bool.{false≢true}
use Rattle.std.proofs.lemmas.Option.{none-some}
use Rattle.vpn_base.specs.declared.names.Cipher.{Cipher}
use Rattle.vpn_base.specs.declared.names.Role.{Role}
use Rattle.vpn_base.specs.declared.names.Sid.{Sid}
use Rattle.vpn_links.specs.Actions.{Contents, Holds}
use Rattle.key_method2.specs.declared.message.Source.{Source}
use Rattle.peer_table.specs.Exchange.{asks_with, closing}
use Rattle.peer_table.specs.KeySessions.{Keys, Session, closed, has_keys, is_keyed, kid_of, newest, newest_session, newest_usable, session_at}
use Rattle.peer_table.specs.KeySessions as sessions
use Rattle.peer_table.specs.Outboxes.{actions_of}
use Rattle.peer_table.specs.Peer.{Closes, Peer}
use Rattle.peer_table.specs.Places.{later}
use Rattle.key_sessions.specs.Sessions.{keys_if, keys_made, keys_shown}
use Rattle.peer_lines.specs.Standing.{StandsFor}
use Rattle.peer_lines.specs.declared.channels.SessionChannels.{SessionChannels}
use Rattle.session_engine.specs.internal.Exchanges.{IsTextOf}
use Rattle.session_state.proofs.Ends.{nothing_done}

-- ---- what is taken of the message

pub asks_later : (n : ℕ) (info : List ℕ) (p : Peer) → n ≢ 0 → asks_with n info p ≡ p.asks_push
asks_later zero info p later = absurd (later refl)
asks_later (suc n) info p later = refl

pub whatever_some : {X : Type 0} (o : Option X) (P : Type 0) → P → IfSome o (λ _. P)
whatever_some None P is = tt
whatever_some (Some x) P is = is

-- ---- nothing was read before

pub unread_by : (o : Option (Bor SessionChannels)) (s : Session) → is_some o ≡ true → IfSome o (λ text. StandsFor text.now s) →
    ((c : SessionChannels) → StandsFor c s → s.read ≡ 0) → s.read ≡ 0
unread_by None s there stands none = absurd (false≢true there)
unread_by (Some text) s there stands none = none text.now stands

-- ---- the same keys

pub same_keys : (client other own : Source) (client_sid client_again server_sid server_again : Sid) (cipher : Cipher) (peer_id : ℕ) →
    client ≡ other → client_sid ≡ client_again → server_sid ≡ server_again →
    keys_made client own client_sid server_sid cipher peer_id ≡ keys_made other own client_again server_again cipher peer_id
same_keys client other own client_sid client_again server_sid server_again cipher peer_id one two three =
    ap (λ (source : Source). keys_made source own client_sid server_sid cipher peer_id) one
    ∙ ap (λ (sid : Sid). keys_made other own sid server_sid cipher peer_id) two
    ∙ ap (λ (sid : Sid). keys_made other own client_again sid cipher peer_id) three

-- ---- the keys that are read again

pub keys_are : (s : Session) (keys : Keys) (shown : List ℕ × Cipher) (peer_id : ℕ) → s.is_open ≡ true → s.stage ≡ sessions.Keyed keys → keys.peer_id ≡ peer_id →
    Some shown ≡ keys_shown s → s.stage ≡ sessions.Keyed (record { block = shown.0; cipher = shown.1; peer_id = peer_id })
keys_are s keys shown peer_id is_open stage id is =
    let seen : Some shown ≡ Some (keys.block, keys.cipher) = is ∙ ap (λ (b : Bool). keys_if b s.stage) is_open ∙ ap (keys_if true) stage in
    let both : shown ≡ (keys.block, keys.cipher) = cc seen in
    stage ∙ ap (λ (r : List ℕ × Cipher). sessions.Keyed (record { block = r.0; cipher = r.1; peer_id = keys.peer_id })) (sym both)
    ∙ ap (λ (n : ℕ). sessions.Keyed (record { block = shown.0; cipher = shown.1; peer_id = n })) id

pub no_keys : (s : Session) (keys : Keys) → s.is_open ≡ true → s.stage ≡ sessions.Keyed keys → None ≡ keys_shown s → ⊥
no_keys s keys is_open stage is = none-some (keys.block, keys.cipher) (is ∙ ap (λ (b : Bool). keys_if b s.stage) is_open ∙ ap (keys_if true) stage)

pub kid_fits : (n : ℕ) → kid_of n < 8
kid_fits zero = omega arith
kid_fits (suc n) = omega arith

-- ---- the text of the session that is closed

text_of_none : (r : Option SessionChannels) → is_some r ≡ false → IsTextOf r None
text_of_none None is = tt
text_of_none (Some text) is = absurd (false≢true (sym is))

text_of_some : (r : Option SessionChannels) (s : Session) → is_some r ≡ true → IfSome r (λ text. StandsFor text s) → IsTextOf r (Some s)
text_of_some None s is stands = absurd (false≢true is)
text_of_some (Some text) s is stands = stands

pub if_some : {X : Type 0} (o : Option X) (P Q : X → Type 0) → ((x : X) → P x → Q x) → IfSome o P → IfSome o Q
if_some None P Q so is = tt
if_some (Some x) P Q so is = so x is

-- what is given is its text
pub text_of : (r : Option SessionChannels) (o : Option Session) → is_some r ≡ is_some o → IfSome r (λ text. (s : Session) → o ≡ Some s → StandsFor text s) → IsTextOf r o
text_of r None there stands = text_of_none r there
text_of r (Some s) there stands = text_of_some r s there (if_some r _ _ (λ text so. so s refl) stands)

-- ---- closing what was given

pub none_closed : (o : Option Session) (end : Role) (c : Contents) → IsTextOf None o → Holds c (c.effects ++ actions_of end (closing o)) c.staged
none_closed None end c given = nothing_done end c
none_closed (Some s) end c given = absurd given

pub one_closed_is : (text : SessionChannels) (o : Option Session) (end : Role) (before after : Contents) → IsTextOf (Some text) o →
    ((s : Session) → StandsFor text s → Holds after (before.effects ++ actions_of end (Closes s.link.conn ∷ [])) before.staged) →
    Holds after (before.effects ++ actions_of end (closing o)) before.staged
one_closed_is text None end before after given holds = absurd given
one_closed_is text (Some s) end before after given holds = holds s given
