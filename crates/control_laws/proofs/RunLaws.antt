-- The laws of a run, by what it keeps.
use Rattle.std.proofs.Common.{◌≡◌, ◌≤◌, ◌<◌, ℕ, List, [], ◌++◌, Some, sym, ap, ◌∙◌, subst, append-nil}
use Rattle.std.specs.List.{AllByRecursion}
use Rattle.opcode_codec.specs.declared.opcodes.Opcode.TheVariants.{ClientReset}
use Rattle.ovpn_config.specs.declared.settings.Settings.{Settings}
use Rattle.reliable_recv.specs.Receiving.{begun, text}
use Rattle.control_link.specs.Reading.{IsReadUp, text_read_of}
use Rattle.peer_table.specs.KeySessions.{Session, kid_of}
use Rattle.server_table.specs.Table.{Table, table_begun}
use Rattle.server_table.specs.Runs.{Entry, after_all}
use Rattle.control_laws.specs.Brought.{WasBrought}
use Rattle.control_laws.specs.Puts.{all_outs, opened_after, put_on}
use Rattle.control_laws.specs.Sessions.{IsOn, IsStillIn, session_of}
use Rattle.control_laws.specs.internal.LinkReads.{LinkReads}
use Rattle.control_laws.proofs.Actions.{within}
use Rattle.control_laws.proofs.Lines.{Line, line_by, line_of, lines_of, session_by}
use Rattle.control_laws.proofs.Kept.{IsGrown, IsLine}
use Rattle.control_laws.proofs.Runs.{after_then, later_kept, run_kept}

-- nothing waits on a side that has begun
pub side_begun : LinkReads → IsReadUp begun
side_begun reads = reads.begun (record { 0 = 0 }) 0 ClientReset 0

module _ (reads : LinkReads) (settings : Settings) (key : List ℕ) (entries : List Entry) where
  session_line : (n k : ℕ) (s : Session) → session_of (after_all (table_begun settings key) entries) n k ≡ Some s →
      IsLine (WasBrought settings key entries) n k (line_of s) (all_outs (table_begun settings key) entries ++ []) (after_all (table_begun settings key) entries).connections
  session_line n k s there =
      (run_kept reads (side_begun reads) settings key entries).each n k (line_of s) (line_by (after_all (table_begun settings key) entries) n k s there)

  pub put_is_text : (n k : ℕ) (s : Session) → session_of (after_all (table_begun settings key) entries) n k ≡ Some s →
      put_on s.link.conn.0 (all_outs (table_begun settings key) entries) ≡ text s.link.receiving.taken
  put_is_text n k s there =
      ap (put_on s.link.conn.0) (sym (append-nil (all_outs (table_begun settings key) entries))) ∙ (session_line n k s there).put

  pub put_is_read : (n k : ℕ) (s : Session) → session_of (after_all (table_begun settings key) entries) n k ≡ Some s →
      put_on s.link.conn.0 (all_outs (table_begun settings key) entries) ≡ text_read_of s.link
  put_is_read n k s there = put_is_text n k s there ∙ sym (reads.whole s.link (session_line n k s there).read)

  pub brought_all : (n k : ℕ) (s : Session) → session_of (after_all (table_begun settings key) entries) n k ≡ Some s →
      AllByRecursion (WasBrought settings key entries n k) s.link.receiving.taken
  brought_all n k s there = (session_line n k s there).arrivals

  pub kid_is : (n k : ℕ) (s : Session) → session_of (after_all (table_begun settings key) entries) n k ≡ Some s → s.link.kid ≡ kid_of k
  kid_is n k s there = (session_line n k s there).kid

  pub opened_all : opened_after (all_outs (table_begun settings key) entries) 0 ≡ Some (after_all (table_begun settings key) entries).connections
  opened_all =
      ap (λ all. opened_after all 0) (sym (append-nil (all_outs (table_begun settings key) entries))) ∙ (run_kept reads (side_begun reads) settings key entries).opened

  pub below_all : (n k : ℕ) (s : Session) → session_of (after_all (table_begun settings key) entries) n k ≡ Some s →
      s.link.conn.0 < (after_all (table_begun settings key) entries).connections
  below_all n k s there = (session_line n k s there).below

  pub beyond_none : (conn : ℕ) → (after_all (table_begun settings key) entries).connections ≤ conn → put_on conn (all_outs (table_begun settings key) entries) ≡ []
  beyond_none conn past =
      (within (all_outs (table_begun settings key) entries) 0 (after_all (table_begun settings key) entries).connections opened_all).beyond conn past

  pub apart_all : (n k m j : ℕ) (s r : Session) → session_of (after_all (table_begun settings key) entries) n k ≡ Some s →
      session_of (after_all (table_begun settings key) entries) m j ≡ Some r → s.link.conn.0 ≡ r.link.conn.0 → (n ≡ m) × (k ≡ j)
  apart_all n k m j s r there that same =
      let t = after_all (table_begun settings key) entries in
      (run_kept reads (side_begun reads) settings key entries).apart n k m j (line_of s) (line_of r) (line_by t n k s there) (line_by t m j r that) same

  pub covered_all : (conn : ℕ) → conn < (after_all (table_begun settings key) entries).connections → IsOn (after_all (table_begun settings key) entries) conn
  covered_all conn less =
      let t = after_all (table_begun settings key) entries in
      let has = (run_kept reads (side_begun reads) settings key entries).covered conn less in
      let s = session_by t has.client has.session has.line has.there in
      record { client = has.client; number = has.session; session = s.session; there = s.there; on = ap (λ (l : Line). l.conn) s.same ∙ has.on }

-- what grew is there still
grown_still : (t : Table) (n k : ℕ) (s : Session) → IsGrown (lines_of t.clients) n k (line_of s) → IsStillIn t n k s
grown_still t n k s g =
    let later = session_by t n k g.later g.there in record {
      later = later.session;
      there = later.there;
      conn = ap (λ (l : Line). l.conn) later.same ∙ g.conn;
      kid = ap (λ (l : Line). l.kid) later.same ∙ g.kid;
      more = g.more;
      taken = ap (λ (l : Line). l.receiving.taken) later.same ∙ g.taken;
    }

pub still_all : LinkReads → (settings : Settings) (key : List ℕ) (before more : List Entry) (n k : ℕ) (s : Session) →
    session_of (after_all (table_begun settings key) before) n k ≡ Some s → IsStillIn (after_all (table_begun settings key) (before ++ more)) n k s
still_all reads settings key before more n k s there =
    let t = after_all (table_begun settings key) before in
    subst (λ t. IsStillIn t n k s) (sym (after_then (table_begun settings key) before more))
    (grown_still (after_all t more) n k s
    ((later_kept reads (side_begun reads) settings key before more).grown n k (line_of s) (line_by t n k s there)))
