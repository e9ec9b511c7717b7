-- What comes of single events of a run.
use Rattle.std.proofs.Common.{◌≡◌, ℕ, true, List, Option, Some, None, refl, ap, sym}
use Rattle.std.proofs.lemmas.Bool.{false≢true}
use Rattle.std.proofs.lemmas.Option.{none-some}
use Rattle.std.specs.Prelude.{is_some, slice_get, IfSome, Result, Ok, Err, IfOk}
use Rattle.peer_table.specs.KeySessions.{Session, newest, newest_session, session_at}
use Rattle.peer_table.specs.Peer.{Peer}
use Rattle.peer_table.specs.Time.{is_open_session, retired}
use Rattle.key_sessions.specs.Looks.{newest_as, newest_seen}
use Rattle.key_sessions.specs.Runs.{closing_of, kind_of}
use Rattle.key_sessions.specs.declared.runs.BareText.{BareText}
use Rattle.key_sessions.specs.declared.slot.Newest.{Newest}
use Rattle.key_sessions.specs.declared.runs.SlotAnswer.TheVariants.{Closed}
use Rattle.key_sessions.specs.BareTexts.{bare_stands}
use Rattle.key_sessions.specs.internal.Courses.{closing_told}
use Rattle.key_sessions.proofs.Usable.{retired_one}

kind_by : (n : ℕ) (o : Option Session) (seen : Newest) → Rattle.std.specs.Prelude.option_map (newest_as n) o ≡ Some seen → kind_of o ≡ seen.stage
kind_by n None seen is = absurd (none-some seen is)
kind_by n (Some s) seen is = let same : newest_as n s ≡ seen = cc is in ap (λ (m : Newest). m.stage) same

-- how far the newest session has come
pub kind_is : (ss : List Session) (seen : Newest) → newest_seen ss ≡ Some seen → kind_of (newest_session ss) ≡ seen.stage
unfolding newest_seen
kind_is ss seen is = kind_by (newest ss) (newest_session ss) seen is

-- the text that is given tells what the session does
pub closing_so : (text : Option BareText) (o : Option Session) → is_some text ≡ is_some o →
    IfSome text (λ t. (s : Session) → o ≡ Some s → bare_stands t s) → closing_told text ≡ closing_of o
closing_so None None same each = refl
closing_so None (Some s) same each = absurd (false≢true same)
closing_so (Some t) None same each = absurd (false≢true (sym same))
closing_so (Some t) (Some s) same each = ap (λ conn. Closed conn) (each s refl)

retired_by : (p : Peer) (now : ℕ) (o : Option ℕ) → retired p now ≡ o → is_some (session_at p.sessions o) ≡ is_some o
retired_by p now None is = refl
retired_by p now (Some n) is = some_open (slice_get p.sessions n) (retired_one p now n is).1
  where
    some_open : (o : Option Session) → is_open_session o ≡ true → is_some o ≡ true
    some_open None e = absurd (false≢true e)
    some_open (Some s) e = refl

-- there is a session of the number that is retired
pub retired_there : (p : Peer) (now : ℕ) → is_some (session_at p.sessions (retired p now)) ≡ is_some (retired p now)
retired_there p now = retired_by p now (retired p now) refl

-- what holds of an answer, from what is known of it
pub ok_so : {T E : Type 0} (r : Result T E) {P Q : T → Type 0} → ((x : T) → P x → Q x) → IfOk r P → IfOk r Q
ok_so (Ok x) each is = each x is
ok_so (Err e) each is = tt

pub some_so : {T : Type 0} (o : Option T) {P Q : T → Type 0} → ((x : T) → P x → Q x) → IfSome o P → IfSome o Q
some_so (Some x) each is = each x is
some_so None each is = tt
