-- What one step of a run puts, and what it takes.
use Rattle.std.proofs.Common.{◌≡◌, ◌<◌, ℕ, Bool, true, false, List, [], ◌∷◌, ◌++◌, Option, Some, None, refl, sym, ap, ◌∙◌, append-nil, nat_lt}
use Rattle.std.proofs.lemmas.Bool.{ltb-false, ltb-true}
use Rattle.vpn_links.specs.Actions.{Action}
use Rattle.vpn_links.specs.declared.events.Event.{Event}
use Rattle.vpn_links.specs.Steps.{LacksHost, LacksNothing}
use Rattle.ovpn_config.specs.declared.settings.Settings.{Settings}
use Rattle.reliable_recv.specs.Receiving.{Arrival, in_order, text}
use Rattle.peer_table.specs.KeySessions.{Session}
use Rattle.server_table.specs.Table.{Table, table_begun}
use Rattle.server_table.specs.ControlDatagrams.{ControlPacket}
use Rattle.server_table.specs.Courses.{outs}
use Rattle.server_table.specs.Runs.{Entry, after_all}
use Rattle.server_table.specs.Sound.{IsSound}
use Rattle.server_table.specs.Step.{step}
use Rattle.control_laws.specs.Brought.{IsTakenIn}
use Rattle.control_laws.specs.Puts.{put_on}
use Rattle.control_laws.specs.Sessions.{session_of, taken_in}
use Rattle.control_laws.specs.Tests.{MeetsAll}
use Rattle.control_laws.specs.internal.LinkReads.{LinkReads}
use Rattle.control_laws.proofs.Actions.{none_some, put_append, some_same, within}
use Rattle.control_laws.proofs.Lines.{Line, line_at, line_by, line_of, lines_of, session_by}
use Rattle.control_laws.proofs.Lost.{step_took}
use Rattle.control_laws.proofs.RunLaws.{side_begun}
use Rattle.control_laws.proofs.Runs.{KeptAt, later_kept, run_kept}

-- what was put so far on the connection of a session is the text of what it took, and nothing where it had not begun
put_so_far : {brought brought_later : ℕ → ℕ → Arrival → Type 0} {key : List ℕ} {then_lines : List (List Line)} {past all : List Action} (t later : Table) (n k : ℕ) (s : Session) →
    KeptAt brought key then_lines past t → KeptAt brought_later key (lines_of t.clients) all later → session_of later n k ≡ Some s →
    (o : Option Session) → session_of t n k ≡ o → put_on s.link.conn.0 past ≡ text (taken_in o)
unfolding text in_order
put_so_far {past = past} t later n k s kept now there (Some old) was =
    let g = now.grown n k (line_of old) (line_by t n k old was) in
    let same : g.later ≡ line_of s = some_same (sym g.there ∙ line_by later n k s there) in
    ap (λ conn. put_on conn past) (sym (ap (λ (l : Line). l.conn) same) ∙ g.conn)
    ∙ ap (put_on old.link.conn.0) (sym (append-nil past)) ∙ (kept.each n k (line_of old) (line_by t n k old was)).put
put_so_far {past = past} t later n k s kept now there None was = go (nat_lt s.link.conn.0 t.connections) refl
  where
    -- a session that has an older connection stood there before
    older : s.link.conn.0 < t.connections → ⊥
    older less =
        let has = kept.covered s.link.conn.0 less in
        let g = now.grown has.client has.session has.line has.there in
        let place = now.apart has.client has.session n k g.later (line_of s) g.there (line_by later n k s there) (g.conn ∙ has.on) in
        let at : line_at (lines_of t.clients) n k ≡ Some has.line =
        sym (ap (λ i. line_at (lines_of t.clients) i has.session) place.0 ∙ ap (λ j. line_at (lines_of t.clients) n j) place.1) ∙ has.there in
        let found = session_by t n k has.line at in
        none_some (sym was ∙ found.there)

    go : (b : Bool) → nat_lt s.link.conn.0 t.connections ≡ b → put_on s.link.conn.0 past ≡ []
    go true e = absurd (older (ltb-true s.link.conn.0 t.connections e))
    go false e =
        ap (put_on s.link.conn.0) (sym (append-nil past))
        ∙ (within (past ++ []) 0 t.connections kept.opened).beyond s.link.conn.0 (ltb-false s.link.conn.0 t.connections e)

-- what some effects put is what the text gained
puts_gained : {brought brought_later : ℕ → ℕ → Arrival → Type 0} {key : List ℕ} {then_lines : List (List Line)} {past : List Action} (effects : List Action) (t later : Table) (n k : ℕ) (s : Session) →
    KeptAt brought key then_lines past t → KeptAt brought_later key (lines_of t.clients) (past ++ (effects ++ [])) later → session_of later n k ≡ Some s →
    text s.link.receiving.taken ≡ text (taken_in (session_of t n k)) ++ put_on s.link.conn.0 effects
puts_gained {past = past} effects t later n k s kept now there =
    sym (now.each n k (line_of s) (line_by later n k s there)).put
    ∙ ap (put_on s.link.conn.0) (append-nil (past ++ (effects ++ [])) ∙ ap (λ more. past ++ more) (append-nil effects))
    ∙ put_append s.link.conn.0 past effects
    ∙ ap (λ before. before ++ put_on s.link.conn.0 effects) (put_so_far t later n k s kept now there (session_of t n k) refl)

module _ (reads : LinkReads) (settings : Settings) (key : List ℕ) (before : List Entry) where
  pub step_puts : (lacks : Bool) (event : Event) (n k : ℕ) (s : Session) → session_of (step lacks (after_all (table_begun settings key) before) event).table n k ≡ Some s →
      text s.link.receiving.taken ≡ text (taken_in (session_of (after_all (table_begun settings key) before) n k))
      ++ put_on s.link.conn.0 (outs (step lacks (after_all (table_begun settings key) before) event))
  step_puts false event n k s there =
      let t = after_all (table_begun settings key) before in
      puts_gained (outs (step false t event)) t (step false t event).table n k s (run_kept reads (side_begun reads) settings key before)
      (later_kept reads (side_begun reads) settings key before ((event, LacksNothing) ∷ [])) there
  step_puts true event n k s there =
      let t = after_all (table_begun settings key) before in
      puts_gained (outs (step true t event)) t (step true t event).table n k s (run_kept reads (side_begun reads) settings key before)
      (later_kept reads (side_begun reads) settings key before ((event, LacksHost) ∷ [])) there

  pub taken_all : IsSound (after_all (table_begun settings key) before) → (lacks : Bool) (event : Event) (r : ControlPacket) (n k : ℕ) →
      MeetsAll key (after_all (table_begun settings key) before) event r n k → IsTakenIn lacks (after_all (table_begun settings key) before) event r n k
  taken_all sound lacks event r n k meets =
      let t = after_all (table_begun settings key) before in
      let kept = run_kept reads (side_begun reads) settings key before in
      let took = step_took reads (side_begun reads) lacks key t event r n k kept.same_key sound (λ s at. (kept.each n k (line_of s) (line_by t n k s at)).read) meets in
      let s = session_by (step lacks t event).table n k took.line took.there in
      record {
        session = s.session;
        there = s.there;
        taken = ap (λ (l : Line). l.receiving.taken) s.same ∙ took.took_it;
        put = step_puts lacks event n k s.session s.there;
      }
