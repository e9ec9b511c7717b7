-- The establishing of a client keeps what a course keeps.
use Rattle.std.proofs.Common.{◌≡◌, ℕ, ◌++◌, map, Bool, true, false, List, [], ◌∷◌, Option, Some, None, not, ap, refl}
use Rattle.vpn_base.specs.declared.names.Cause.TheVariants.{PoolEmpty, Replaced}
use Rattle.vpn_base.specs.declared.names.Conn.{Conn}
use Rattle.vpn_base.specs.Network.{Network}
use Rattle.vpn_base.specs.declared.address.Ip4.{Ip4}
use Rattle.vpn_links.specs.Actions.{stops}
use Rattle.ovpn_config.specs.declared.settings.Settings.{Settings}
use Rattle.push_options.specs.Options.{options_of}
use Rattle.push_options.specs.Parts.{reply_parts}
use Rattle.route_table.specs.Owner.{Row}
use Rattle.route_table.specs.Learned.{rows_of}
use Rattle.peer_table.specs.Places.{changed_at}
use Rattle.server_table.specs.Table.{Client, Table}
use Rattle.server_table.specs.Lookups.{cid, client_here, established_named}
use Rattle.server_table.specs.Courses.{Course}
use Rattle.server_table.specs.Establishing.{Leased, address_by, ccd_in, client_established, establishing, establishing_lines, established_at, established_for, established_with, name_in, network_line, networks_of, plan_of, replaced, replaced_unless, reply, with_address, written}
use Rattle.server_table.specs.Sound.{AreRowsOf, IsEstablishedAt}
use Rattle.server_table.proofs.Places.{get_changed}
use Rattle.server_table.specs.internal.CallsKeepOrder.{CallsKeepOrder}
use Rattle.server_table.proofs.Kept.{Kept, done_kept, is_plain, orderly_from, plain_append}
use Rattle.server_table.proofs.Keeps.{here_at, keeps_with}
use Rattle.server_table.proofs.KeptEndings.{ended_kept}

-- ---- what is told

onward_written : (conn : Conn) (parts : List (List ℕ)) → stops (written conn parts) ≡ false
onward_written conn [] = refl
onward_written conn (part ∷ parts) = onward_written conn parts

plain_written : (conn : Conn) (parts : List (List ℕ)) → is_plain (written conn parts) ≡ true
plain_written conn [] = refl
plain_written conn (part ∷ parts) = ap not (onward_written conn parts)

-- the reply with the options is no refusal and does not end the program
pub plain_reply : (s : Settings) (x : Client) (l : Leased) (conn : Conn) → is_plain (reply s x l conn) ≡ true
unfolding reply
plain_reply s x l conn = plain_written conn (reply_parts (options_of (plan_of s x l)))

onward_networks : (n : ℕ) (networks : List Network) → stops (map (network_line n) networks) ≡ false
onward_networks n [] = refl
onward_networks n (network ∷ networks) = onward_networks n networks

plain_lines : (n : ℕ) (x : Client) (a : Ip4) → is_plain (establishing_lines n x a) ≡ true
plain_lines n x a = ap not (onward_networks n (ccd_in x.file).iroutes)

-- ---- its rows

rows_appended : (clients : List Client) (rows more : List Row) → AreRowsOf clients rows → AreRowsOf clients more → AreRowsOf clients (rows ++ more)
rows_appended clients [] more all later = later
rows_appended clients (row ∷ rows) more all later = (all.0, rows_appended clients rows more all.1 later)

rows_at : (clients : List Client) (n : ℕ) (networks : List Network) → IsEstablishedAt clients n → AreRowsOf clients (rows_of (cid n) networks)
rows_at clients n [] is = tt
rows_at clients n (network ∷ networks) is = (is, rows_at clients n networks is)

module _ (calls : CallsKeepOrder) {a : Table} {k : ℕ} where
  established_at_kept : (n : ℕ) (conn : Conn) (x : Client) (c : Course) (l : Leased) → client_here c.table n ≡ Some x → Kept a k c → Kept a k (established_at n conn x c l)
  established_at_kept n conn x c l here is =
      let f : Client → Client = with_address l.0 c.table.moment in
      let at = here_at c.table n x here in
      done_kept (reply c.table.settings x l conn ++ establishing_lines n x l.0)
      (plain_append (reply c.table.settings x l conn) (establishing_lines n x l.0) (plain_reply c.table.settings x l conn) (plain_lines n x l.0))
      (keeps_with (c.table.routes.rows ++ rows_of (cid n) (networks_of x l.0)) n f
      (λ y there. record { peer_id = refl; here = refl; address = refl; established = λ e. refl; session = orderly_from y.session })
      (λ all. rows_appended (changed_at n f c.table.clients) c.table.routes.rows (rows_of (cid n) (networks_of x l.0)) all
      (rows_at (changed_at n f c.table.clients) n (networks_of x l.0)
      (record { client = f x; there = get_changed n f c.table.clients x at.there; here = at.here; established = refl })))
      is)

  established_with_kept : (n : ℕ) (conn : Conn) (x : Client) (c : Course) (l : Option Leased) → client_here c.table n ≡ Some x → Kept a k c → Kept a k (established_with n conn x c l)
  established_with_kept n conn x c (Some l) here is = established_at_kept n conn x c l here is
  established_with_kept n conn x c None here is = ended_kept calls n PoolEmpty c is

  established_for_kept : (n : ℕ) (conn : Conn) (c : Course) (x : Option Client) → client_here c.table n ≡ x → Kept a k c → Kept a k (established_for n conn c x)
  established_for_kept n conn c None here is = is
  established_for_kept n conn c (Some x) here is = established_with_kept n conn x c (address_by c.table (ccd_in x.file).address) here is

  replaced_kept : (n : ℕ) (c : Course) (m : Option ℕ) → Kept a k c → Kept a k (replaced n c m)
  replaced_kept n c None is = is
  replaced_kept n c (Some m) is = ended_kept calls m (Replaced (cid n)) c is

  replaced_unless_kept : (n : ℕ) (name : List ℕ) (c : Course) (b : Bool) → Kept a k c → Kept a k (replaced_unless n name c b)
  replaced_unless_kept n name c true is = is
  replaced_unless_kept n name c false is = replaced_kept n c (established_named c.table name) is

  establishing_kept : (n : ℕ) (conn : Conn) (c : Course) (x : Option Client) → Kept a k c → Kept a k (establishing n conn c x)
  establishing_kept n conn c None is = is
  establishing_kept n conn c (Some x) is =
      let d = replaced_unless n (name_in x) c c.table.settings.duplicate in
      established_for_kept n conn d (client_here d.table n) refl (replaced_unless_kept n (name_in x) c c.table.settings.duplicate is)

  pub client_established_kept : (n : ℕ) (conn : Conn) (c : Course) → Kept a k c → Kept a k (client_established n conn c)
  unfolding client_established
  client_established_kept n conn c is = establishing_kept n conn c (client_here c.table n) is
