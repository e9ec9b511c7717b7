-- What is made ahead for a client that may be established in a step.
use Rattle.std.specs.Prelude.{◌≡◌, ℕ, ◌+◌, List, option_map, Option, Some, None}
use Rattle.vpn_base.specs.declared.address.Ip4.{Ip4}
use Rattle.ccd_files.specs.declared.client_file.Ccd.{Ccd}
use Rattle.ovpn_config.specs.declared.settings.Settings.{Settings}
use Rattle.server_table.specs.Courses.{Course}
use Rattle.server_table.specs.Establishing.{Leased, address_by, ccd_in, leased_to, replaced_unless}
use Rattle.server_table.specs.Lookups.{client_here}
use Rattle.server_table.specs.Table.{Client, Established, Table}
use Rattle.server_texts.specs.Replies.{AreRepliesTo, Replies, reply_bytes, reply_effects}
use Rattle.server_texts.specs.Told.{lines_bytes, lines_effects}
use Rattle.server_establishing.specs.declared.ahead.Ahead.{Ahead}
use Rattle.server_establishing.specs.declared.ahead.LeaseAhead.{LeaseAhead}

-- the address in the tunnel that was taken ahead, with how many bits its network shares
abbrev pub lease_of : LeaseAhead → Leased
lease_of l = (l.address, l.len)

-- the address that is held for it
abbrev pub held_for : Option LeaseAhead → Option Ip4
held_for lease = option_map (λ (l : LeaseAhead). l.address) lease

-- its replies
abbrev pub replies_in : Option LeaseAhead → Option Replies
replies_in lease = option_map (λ (l : LeaseAhead). l.replies) lease

-- the replies are those to a client of this file and peer id
abbrev pub RepliesStand : Settings → Ccd → ℕ → Option LeaseAhead → Type 0
RepliesStand s file peer_id None = Unit {0}
RepliesStand s file peer_id (Some l) = AreRepliesTo s file peer_id (lease_of l) l.replies

-- What was made ahead is what a client of this table gets that is established now, with nobody to replace: its name, its file, its address, and the
-- replies for either cipher.
pub record IsAheadOf (t : Table) (x : Client) (ahead : Ahead) : Type 0 where
  pub not_yet : x.established ≡ None
  pub name : x.session.name ≡ Some ahead.name
  pub file : ccd_in x.file ≡ ahead.file
  pub lease : option_map lease_of ahead.lease ≡ address_by t (ccd_in x.file).address
  pub replies : RepliesStand t.settings (ccd_in x.file) x.peer_id ahead.lease

-- how many effects an outbox takes of it at most
abbrev pub lease_effects : Ccd → LeaseAhead → ℕ
lease_effects file l = reply_effects l.replies + lines_effects file

-- how many bytes
abbrev pub lease_bytes : Ccd → LeaseAhead → ℕ
lease_bytes file l = reply_bytes l.replies + lines_bytes file

-- how many effects an outbox takes at most of establishing a client: with no address left it ends
abbrev pub effects_with : Ccd → Option LeaseAhead → ℕ
effects_with file None = 5
effects_with file (Some l) = lease_effects file l

-- how many bytes
abbrev pub bytes_with : Ccd → Option LeaseAhead → ℕ
bytes_with file None = 39
bytes_with file (Some l) = lease_bytes file l

-- What was made ahead is for a client of this number, with this name and this file, at this point of a step, before it has replaced anybody.
pub record IsMadeFor (c : Course) (n : ℕ) (name : List ℕ) (file : Ccd) (ahead : Ahead) : Type 0 where
  pub name_is : ahead.name ≡ name
  pub file_is : ahead.file ≡ file
  pub lease : option_map lease_of ahead.lease ≡ address_by (replaced_unless n name c c.table.settings.duplicate).table file.address
  pub replies : (x : Client) → client_here c.table n ≡ Some x → RepliesStand c.table.settings file x.peer_id ahead.lease

-- what is written again to an established client is the reply that it got
abbrev pub StandsAgain : Table → Client → Established → Option Replies → Type 0
StandsAgain t x e None = ⊥
StandsAgain t x e (Some r) = AreRepliesTo t.settings (ccd_in x.file) x.peer_id (leased_to t.settings (ccd_in x.file).address e) r

-- a change of a client that leaves whether it is here, its address in the tunnel and its peer id
pub record KeepsPlace (g : Client → Client) : Type 0 where
  pub here : (y : Client) → (g y).is_here ≡ y.is_here
  pub established : (y : Client) → (g y).established ≡ y.established
  pub peer_id : (y : Client) → (g y).peer_id ≡ y.peer_id

-- a client is established, and these replies are the one that it got
pub record IsEstablishedWith (t : Table) (x : Client) (replies : Option Replies) : Type 0 where
  pub when : Established
  pub established : x.established ≡ Some when
  pub again : StandsAgain t x when replies
