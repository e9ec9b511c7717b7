-- The establishing of a client leaves all lines.
use Rattle.std.proofs.Common.{◌≡◌, ℕ, ◌++◌, Bool, true, false, List, [], ◌∷◌, map, Option, Some, None, refl}
use Rattle.vpn_base.specs.declared.names.Cause.TheVariants.{PoolEmpty, Replaced}
use Rattle.vpn_base.specs.declared.names.Conn.{Conn}
use Rattle.vpn_base.specs.Network.{Network}
use Rattle.ovpn_config.specs.declared.settings.Settings.{Settings}
use Rattle.push_options.specs.Options.{options_of}
use Rattle.push_options.specs.Parts.{reply_parts}
use Rattle.vpn_base.specs.declared.address.Ip4.{Ip4}
use Rattle.reliable_recv.specs.Receiving.{Arrival}
use Rattle.server_table.specs.Table.{Client}
use Rattle.server_table.specs.Lookups.{cid, client_here, established_named}
use Rattle.server_table.specs.Courses.{Course}
use Rattle.server_table.specs.Establishing.{Leased, address_by, ccd_in, client_established, establishing, establishing_lines, network_line, established_at, established_for, established_with, name_in, plan_of, replaced, replaced_unless, reply, with_address, written}
use Rattle.control_laws.proofs.Actions.{are_quiet, quiet_append}
use Rattle.control_laws.proofs.Kept.{Before, Kept, quiet_kept}
use Rattle.control_laws.proofs.Keeps.{same_kept}
use Rattle.control_laws.proofs.KeptEndings.{ended_kept}

-- ---- what is told

written_quiet : (conn : Conn) (parts : List (List ℕ)) → are_quiet (written conn parts) ≡ true
written_quiet conn [] = refl
written_quiet conn (part ∷ parts) = written_quiet conn parts

pub reply_quiet : (s : Settings) (x : Client) (l : Leased) (conn : Conn) → are_quiet (reply s x l conn) ≡ true
unfolding reply
reply_quiet s x l conn = written_quiet conn (reply_parts (options_of (plan_of s x l)))

lines_quiet : (n : ℕ) (networks : List Network) → are_quiet (map (network_line n) networks) ≡ true
lines_quiet n [] = refl
lines_quiet n (network ∷ networks) = lines_quiet n networks

establishing_quiet : (n : ℕ) (x : Client) (a : Ip4) → are_quiet (establishing_lines n x a) ≡ true
establishing_quiet n x a = lines_quiet n (ccd_in x.file).iroutes

module _ {brought : ℕ → ℕ → Arrival → Type 0} {base : Before} where
  established_at_kept : (n : ℕ) (conn : Conn) (x : Client) (c : Course) (l : Leased) → Kept brought base c → Kept brought base (established_at n conn x c l)
  established_at_kept n conn x c l is =
      quiet_kept (reply c.table.settings x l conn ++ establishing_lines n x l.0)
      (quiet_append (reply c.table.settings x l conn) (establishing_lines n x l.0) (reply_quiet c.table.settings x l conn) (establishing_quiet n x l.0))
      (same_kept c.table.clients n (with_address l.0 c.table.moment) (λ y. refl) is)

  established_with_kept : (n : ℕ) (conn : Conn) (x : Client) (c : Course) (l : Option Leased) → Kept brought base c → Kept brought base (established_with n conn x c l)
  established_with_kept n conn x c (Some l) is = established_at_kept n conn x c l is
  established_with_kept n conn x c None is = ended_kept n PoolEmpty c is

  established_for_kept : (n : ℕ) (conn : Conn) (c : Course) (x : Option Client) → Kept brought base c → Kept brought base (established_for n conn c x)
  established_for_kept n conn c None is = is
  established_for_kept n conn c (Some x) is = established_with_kept n conn x c (address_by c.table (ccd_in x.file).address) is

  replaced_kept : (n : ℕ) (c : Course) (m : Option ℕ) → Kept brought base c → Kept brought base (replaced n c m)
  replaced_kept n c None is = is
  replaced_kept n c (Some m) is = ended_kept m (Replaced (cid n)) c is

  replaced_unless_kept : (n : ℕ) (name : List ℕ) (c : Course) (b : Bool) → Kept brought base c → Kept brought base (replaced_unless n name c b)
  replaced_unless_kept n name c true is = is
  replaced_unless_kept n name c false is = replaced_kept n c (established_named c.table name) is

  establishing_kept : (n : ℕ) (conn : Conn) (c : Course) (x : Option Client) → Kept brought base c → Kept brought base (establishing n conn c x)
  establishing_kept n conn c None is = is
  establishing_kept n conn c (Some x) is =
      let d = replaced_unless n (name_in x) c c.table.settings.duplicate in
      established_for_kept n conn d (client_here d.table n) (replaced_unless_kept n (name_in x) c c.table.settings.duplicate is)

  pub client_established_kept : (n : ℕ) (conn : Conn) (c : Course) → Kept brought base c → Kept brought base (client_established n conn c)
  unfolding client_established
  client_established_kept n conn c is = establishing_kept n conn c (client_here c.table n) is
