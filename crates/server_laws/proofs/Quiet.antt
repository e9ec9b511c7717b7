-- Steps that hand nothing on.
use Rattle.std.proofs.Common.{◌≡◌, ℕ, Bool, true, false, cond, List, [], ◌∷◌, ◌++◌, map, Option, Some, None, refl, sym, ap, ◌∙◌, subst, append-nil, ◌+◌}
use Rattle.std.specs.List.{AllByRecursion, cons_option, list_all}
use Rattle.std.proofs.lemmas.Bool.{and_parts, false≢true}
use Rattle.vpn_base.specs.declared.address.Addr.{Addr}
use Rattle.vpn_base.specs.declared.address.Ip4.{Ip4}
use Rattle.vpn_base.specs.declared.names.Cause.{Cause}
use Rattle.vpn_base.specs.declared.names.Role.{Role}
use Rattle.vpn_base.specs.declared.names.Role.TheVariants as roles
use Rattle.vpn_base.specs.Network.{Network}
use Rattle.vpn_links.specs.Actions.{Action, Configure, Device, EngineClose, EngineOpen, EnginePut, EngineWrite, Ask, Report, Say, Stop, Wire, on_wire}
use Rattle.vpn_links.specs.declared.notes.Note.TheVariants as notes
use Rattle.ovpn_config.specs.declared.settings.Settings.{Settings}
use Rattle.peer_table.specs.KeySessions.{Keys, Session, keys_of, kid_of, newest_usable, session_at}
use Rattle.peer_table.specs.DataPackets as packets
use Rattle.peer_table.specs.Outboxes.{actions_of}
use Rattle.peer_table.specs.Peer.{Closes, Doing, Opens, Puts, Writes}
use Rattle.peer_table.specs.Time.{closings}
use Rattle.server_table.specs.Table.{Client, Established, Table}
use Rattle.server_table.specs.Lookups.{cid}
use Rattle.server_table.specs.Courses.{Course, Staged}
use Rattle.server_table.specs.DataDatagrams.{ping}
use Rattle.server_table.specs.Endings.{disconnect_line, ending_effects}
use Rattle.server_table.specs.Establishing.{ccd_in, establishing_lines, network_line, reply}
use Rattle.server_table.specs.InnerPackets.{sealed_with}
use Rattle.server_laws.specs.HandedOn.{IsSealedPing, carrying, is_aside, is_carrying}
use Rattle.server_laws.specs.Waiting.{given, given_by}
use Rattle.server_table.proofs.Keeps.{here_at}
use Rattle.server_laws.proofs.Closed.{IsClosed, SealsOf}
use Rattle.server_laws.proofs.ClosedEngine.{reply_quiet}
use Rattle.server_laws.proofs.Everything.{seals_all}
use Rattle.server_laws.proofs.KeptTables.{Good, good_closed}

-- whether there are none
abbrev pub is_empty : List Action → Bool
is_empty [] = true
is_empty (action ∷ actions) = false

-- ---- effects that carry a packet

append_step : (action : Action) (all xs ys : List Action) (b : Bool) → all ≡ xs ++ ys → cond b (action ∷ all) all ≡ cond b (action ∷ xs) xs ++ ys
append_step action all xs ys true e = ap (λ (actions : List Action). action ∷ actions) e
append_step action all xs ys false e = e

pub carrying_append : (xs ys : List Action) → carrying (xs ++ ys) ≡ carrying xs ++ carrying ys
carrying_append [] ys = refl
carrying_append (x ∷ xs) ys = append_step x (carrying (xs ++ ys)) (carrying xs) (carrying ys) (is_carrying x) (carrying_append xs ys)

pub carrying_more : (xs ys : List Action) → carrying ys ≡ [] → carrying (xs ++ ys) ≡ carrying xs
carrying_more xs ys none = carrying_append xs ys ∙ ap (λ (more : List Action). carrying xs ++ more) none ∙ append-nil (carrying xs)

pub actions_quiet : (role : Role) (doings : List Doing) → carrying (actions_of role doings) ≡ []
actions_quiet role [] = refl
actions_quiet role (Opens conn ∷ doings) = actions_quiet role doings
actions_quiet role (Puts conn bytes ∷ doings) = actions_quiet role doings
actions_quiet role (Writes conn bytes ∷ doings) = actions_quiet role doings
actions_quiet role (Closes conn ∷ doings) = actions_quiet role doings

disconnect_quiet : (n : ℕ) (e : Option Established) → carrying (disconnect_line n e) ≡ []
disconnect_quiet n None = refl
disconnect_quiet n (Some e) = refl

pub ending_quiet : (n : ℕ) (cause : Cause) (x : Client) → carrying (ending_effects n cause x) ≡ []
ending_quiet n cause x =
    carrying_more (disconnect_line n x.established) (actions_of x.session.role (closings x.session.sessions)) (actions_quiet x.session.role (closings x.session.sessions))
    ∙ disconnect_quiet n x.established

networks_quiet : (n : ℕ) (networks : List Network) → carrying (map (network_line n) networks) ≡ []
networks_quiet n [] = refl
networks_quiet n (network ∷ networks) = networks_quiet n networks

pub establishing_quiet : (n : ℕ) (x : Client) (a : Ip4) → carrying (establishing_lines n x a) ≡ []
establishing_quiet n x a = networks_quiet n (ccd_in x.file).iroutes

-- ---- nothing is handed on

-- the queue is that of a table, and the effects that carry a packet are these
pub record IsQuietly (t : Table) (settings : Settings) (queue : List (List ℕ)) (effects : List Action) : Type 0 where
  pub settings_same : settings ≡ t.settings
  pub queue_same : queue ≡ t.queue
  pub none : carrying effects ≡ []

abbrev pub Quietly : Table → Course → Type 0
Quietly t c = IsQuietly t c.table.settings c.table.queue c.effects

more_quiet : {t : Table} {s : Settings} {queue : List (List ℕ)} (effects more : List Action) → carrying more ≡ [] → IsQuietly t s queue effects → IsQuietly t s queue (effects ++ more)
more_quiet effects more none is = record { settings_same = is.settings_same; queue_same = is.queue_same; none = carrying_more effects more none ∙ is.none }

pub quiet_closed : (t : Table) → IsClosed (Quietly t)
quiet_closed t = record {
  quiet = λ actions c none is. more_quiet c.effects actions none is;
  other = λ counted into outof stopped c is. is;
  acts = λ n x o c here peer is. more_quiet c.effects (actions_of o.peer.role o.doings) (actions_quiet o.peer.role o.doings) is;
  exchanges = λ n x ccd o c here known ex is. more_quiet c.effects (actions_of o.peer.role o.doings) (actions_quiet o.peer.role o.doings) is;
  alters = λ n f c keeps is. is;
  ends = λ n cause x c here is. more_quiet c.effects (ending_effects n cause x) (ending_quiet n cause x) is;
  establishes = λ n conn x l c here ready is.
      more_quiet c.effects (reply c.table.settings x l conn ++ establishing_lines n x l.0)
      (carrying_more (reply c.table.settings x l conn) (establishing_lines n x l.0) (establishing_quiet n x l.0) ∙ reply_quiet c.table.settings x l conn) is;
  admits = λ from draw c is. is;
}

-- ---- time: pings alone are sent

pub record IsTicking (t : Table) (queue : List (List ℕ)) (effects : List Action) : Type 0 where
  pub queue_same : queue ≡ t.queue
  pub pings : AllByRecursion IsSealedPing (carrying effects)

abbrev pub Ticking : Table → Course → Type 0
Ticking t c = Good c × IsTicking t c.table.queue c.effects

more_pings : {t : Table} {queue : List (List ℕ)} (effects more : List Action) → carrying more ≡ [] → IsTicking t queue effects → IsTicking t queue (effects ++ more)
more_pings effects more none is = record {
  queue_same = is.queue_same;
  pings = subst (λ (actions : List Action). AllByRecursion IsSealedPing actions) (sym (carrying_more effects more none)) is.pings;
}

pub ticking_closed : (t : Table) → IsClosed (Ticking t)
ticking_closed t = record {
  quiet = λ actions c none is. (good_closed.quiet actions c none is.0, more_pings c.effects actions none is.1);
  other = λ counted into outof stopped c is. is;
  acts = λ n x o c here peer is.
      (good_closed.acts n x o c here peer is.0, more_pings c.effects (actions_of o.peer.role o.doings) (actions_quiet o.peer.role o.doings) is.1);
  exchanges = λ n x ccd o c here known ex is.
      (good_closed.exchanges n x ccd o c here known ex is.0, more_pings c.effects (actions_of o.peer.role o.doings) (actions_quiet o.peer.role o.doings) is.1);
  alters = λ n f c keeps is. (good_closed.alters n f c keeps is.0, is.1);
  ends = λ n cause x c here is.
      (good_closed.ends n cause x c here is.0, more_pings c.effects (ending_effects n cause x) (ending_quiet n cause x) is.1);
  establishes = λ n conn x l c here ready is. (
    good_closed.establishes n conn x l c here ready is.0,
    more_pings c.effects (reply c.table.settings x l conn ++ establishing_lines n x l.0)
        (carrying_more (reply c.table.settings x l conn) (establishing_lines n x l.0) (establishing_quiet n x l.0) ∙ reply_quiet c.table.settings x l conn) is.1,
  );
  admits = λ from draw c is. (good_closed.admits from draw c is.0, is.1);
}

all_appended : (xs ys : List Action) → AllByRecursion IsSealedPing xs → AllByRecursion IsSealedPing ys → AllByRecursion IsSealedPing (xs ++ ys)
all_appended [] ys all more = more
all_appended (x ∷ xs) ys all more = (all.0, all_appended xs ys all.1 more)

one_ping : {t : Table} {queue : List (List ℕ)} (effects : List Action) (to : Addr) (bytes : List ℕ) → IsSealedPing (Wire to bytes) → IsTicking t queue effects →
    IsTicking t queue (effects ++ Wire to bytes ∷ [])
one_ping effects to bytes ping is = record {
  queue_same = is.queue_same;
  pings = subst (λ (actions : List Action). AllByRecursion IsSealedPing actions) (sym (carrying_append effects (Wire to bytes ∷ [])))
      (all_appended (carrying effects) (Wire to bytes ∷ []) is.pings (ping, tt));
}

-- what sealing answers is a packet under some keys
by_seals : {t : Table} (n : ℕ) (x : Client) (k : ℕ) (s : Session) (keys : Option Keys) (spent : Bool) (c : Course) → x.session.role ≡ roles.Server →
    Good (sealed_with n x c (packets.sealed_by x.session ping k s keys spent)) → IsTicking t c.table.queue c.effects →
    Ticking t (sealed_with n x c (packets.sealed_by x.session ping k s keys spent))
by_seals n x k s (Some keys) false c role good is = (
  good,
  one_ping c.effects x.address (packets.sealed_under x.session.role keys (kid_of k) (s.sealed + 1) ping)
      (record {
        to = x.address;
        keys = keys;
        number = k;
        id = s.sealed + 1;
        is_packet = ap (λ (role : Role). Wire x.address (packets.sealed_under role keys (kid_of k) (s.sealed + 1) ping)) role;
      }) is,
)
by_seals n x k s (Some keys) true c role good is = (good, more_pings c.effects (Report (notes.KeySpent (cid n)) ∷ []) refl is)
by_seals n x k s None spent c role good is = (good, more_pings c.effects (Report (notes.KeySpent (cid n)) ∷ []) refl is)

in_seals : {t : Table} (n : ℕ) (x : Client) (k : Option ℕ) (s : Option Session) (c : Course) → x.session.role ≡ roles.Server →
    Good (sealed_with n x c (packets.sealed_in x.session ping k s)) → IsTicking t c.table.queue c.effects → Ticking t (sealed_with n x c (packets.sealed_in x.session ping k s))
in_seals n x (Some k) (Some s) c role good is = by_seals n x k s (keys_of s.stage) (packets.ids_are_spent s) c role good is
in_seals n x (Some k) None c role good is = (good, more_pings c.effects (Report (notes.KeySpent (cid n)) ∷ []) refl is)
in_seals n x None s c role good is = (good, more_pings c.effects (Report (notes.KeySpent (cid n)) ∷ []) refl is)

pings_sealed : {t : Table} (n : ℕ) (x : Client) (c : Course) → x.session.role ≡ roles.Server → Good (sealed_with n x c (packets.sealed_to ping x.session)) →
    IsTicking t c.table.queue c.effects → Ticking t (sealed_with n x c (packets.sealed_to ping x.session))
unfolding packets.sealed_to
pings_sealed n x c role good is =
    in_seals n x (newest_usable x.session.sessions) (session_at x.session.sessions (newest_usable x.session.sessions)) c role good is

pub ticking_seals : (t : Table) → SealsOf (Ticking t) ping
ticking_seals t = record {
  seals = λ n x c here is.
      let good = (seals_all good_closed (λ to bytes c is. is) ping).seals n x c here is.0 in
      pings_sealed n x c (is.0.clients n x (here_at c.table n x here).there).role good is.1;
}

-- ---- what is given to the device

pub given_append : (xs ys : List Action) → given (xs ++ ys) ≡ given xs ++ given ys
given_append [] ys = refl
given_append (x ∷ xs) ys = step (given_by x) (given_append xs ys)
  where
    step : (o : Option (List ℕ)) → given (xs ++ ys) ≡ given xs ++ given ys → cons_option o (given (xs ++ ys)) ≡ cons_option o (given xs) ++ given ys
    step None e = e
    step (Some packet) e = ap (λ (packets : List (List ℕ)). packet ∷ packets) e

given_step : (x : Action) (xs : List Action) → (carrying xs ≡ [] → given xs ≡ []) → carrying (x ∷ xs) ≡ [] → given (x ∷ xs) ≡ []
given_step (Wire to bytes) xs ih e = absurd (false≢true (ap (λ (actions : List Action). is_empty actions) e))
given_step (Device packet) xs ih e = absurd (false≢true (ap (λ (actions : List Action). is_empty actions) e))
given_step (EngineOpen conn role) xs ih e = ih e
given_step (EnginePut conn bytes) xs ih e = ih e
given_step (EngineWrite conn bytes) xs ih e = ih e
given_step (EngineClose conn) xs ih e = ih e
given_step (Configure address len gateway routes rest) xs ih e = ih e
given_step (Ask id name) xs ih e = ih e
given_step (Say bytes) xs ih e = ih e
given_step (Report note) xs ih e = ih e
given_step Stop xs ih e = ih e

pub none_given : (xs : List Action) → carrying xs ≡ [] → given xs ≡ []
none_given [] e = refl
none_given (x ∷ xs) e = given_step x xs (none_given xs) e

pub staged_given : (staged : List Staged) → given (map (λ (s : Staged). on_wire s.datagram) staged) ≡ []
staged_given [] = refl
staged_given (s ∷ staged) = staged_given staged

aside_step : (x : Action) (xs : List Action) → is_aside x ≡ true → carrying xs ≡ [] → carrying (x ∷ xs) ≡ []
aside_step (Report note) xs is e = e
aside_step (Wire to bytes) xs is e = absurd (false≢true is)
aside_step (Device packet) xs is e = absurd (false≢true is)
aside_step (EngineOpen conn role) xs is e = absurd (false≢true is)
aside_step (EnginePut conn bytes) xs is e = absurd (false≢true is)
aside_step (EngineWrite conn bytes) xs is e = absurd (false≢true is)
aside_step (EngineClose conn) xs is e = absurd (false≢true is)
aside_step (Configure address len gateway routes rest) xs is e = absurd (false≢true is)
aside_step (Ask id name) xs is e = absurd (false≢true is)
aside_step (Say bytes) xs is e = absurd (false≢true is)
aside_step Stop xs is e = absurd (false≢true is)

-- asides carry nothing
pub asides_quiet : (xs : List Action) → list_all is_aside xs ≡ true → carrying xs ≡ []
asides_quiet [] all = refl
asides_quiet (x ∷ xs) all = let p = and_parts (is_aside x) (list_all is_aside xs) all in aside_step x xs p.0 (asides_quiet xs p.1)
