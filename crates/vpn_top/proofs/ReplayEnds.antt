-- How commands end that read a configuration, where everything is told.
use Rattle.std.proofs.Common.{◌≡◌, ℕ, ◌^◌, ◌<◌, Bool, true, false, List, [], ◌∷◌, ◌++◌, length, ap, ◌∙◌, sym, subst, inl, inr, refl, arith, length-append, append_assoc}
use Rattle.std.specs.Prelude.{◌⊎◌, Option, Some, None, IsTrue}
use Rattle.std.proofs.lemmas.Bool.{false≢true}
use Rattle.std.proofs.lemmas.List.{length-map}
use Rattle.std.proofs.lemmas.Option.{none-some}
use Rattle.vpn_base.specs.Answers.{Rose}
use Rattle.vpn_base.specs.Files.{Holding, Untold, Absent, Held, IsMissing}
use Rattle.vpn_base.specs.declared.names.Role.{Role}
use Rattle.vpn_base.specs.declared.names.Role.TheVariants as roles
use Rattle.vpn_links.specs.declared.events.Event.{Event}
use Rattle.vpn_text.specs.declared.config.ConfigFault.{ConfigFault}
use Rattle.tls_crypt.specs.declared.static_key.KeyFault.{KeyFault}
use Rattle.tls_crypt.specs.StaticKey.{static_key}
use Rattle.schedule_text.specs.declared.kind.TextKind.{TextKind}
use Rattle.replay_links.specs.Schedule.{EndWithHalt, spells}
use Rattle.vpn_node.specs.Running.{stops_last}
use Rattle.ovpn_config.specs.declared.settings.Settings.{Settings}
use Rattle.ovpn_config.specs.declared.settings.KeyPlace.TheVariants.{Named}
use Rattle.ovpn_config.specs.Reading.{settings}
use Rattle.server_table.specs.Runs.{Entry, run}
use Rattle.server_table.specs.Table.{table_begun}
use Rattle.server_replay.specs.Runs.{events_of}
use Rattle.vpn_top.specs.declared.refusal.Refusal.{Refusal}
use Rattle.vpn_top.specs.declared.refusal.Refusal.TheVariants as refusals
use Rattle.vpn_top.specs.Answer.{IsCutOff, Ran, exit_status}
use Rattle.vpn_top.specs.Check.{RanCheck}
use Rattle.vpn_top.specs.Configuration.{Configured, HasKey, IsConfigured, IsKeyed, IsMisconfigured, IsMiskeyed, Keyed, Misconfigured, Miskeyed}
use Rattle.vpn_top.specs.Replay.{CameOf, First, HoldHalt, NotRead, RanReplay, Replayed, ReplayedBefore, ReplayedMost, ServerRun}
use Rattle.vpn_top.specs.Words.{Check, Command, Replay, Route, TakesRole, configuration_of}
use Rattle.vpn_top.specs.Written.{IsWhole, Run}
use Rattle.vpn_top.proofs.Checks.{keyed_by}
use Rattle.vpn_top.proofs.CheckEnds.{configured_same, key_there, keyless_end, miskeyed_end, no_key_text, not_both, not_misconfigured, not_missing, told_key}

-- ---- what is not both

abbrev is_client : Role → Bool
is_client roles.Client = true
is_client roles.Server = false

server_or_client : roles.Server ≡ roles.Client → ⊥
server_or_client is = false≢true (ap is_client is)

faulty_or_not : (h : Holding) (fault : ConfigFault) (s : Settings) → IsMisconfigured h fault → Configured h s → ⊥
faulty_or_not Untold fault s bad c = bad
faulty_or_not Absent fault s bad c = bad
faulty_or_not (Held held) fault s bad c = not_both s fault (sym c.accepted ∙ (ap settings c.whole ∙ bad))

faulty_or_missing : (h : Holding) (fault : ConfigFault) → IsMisconfigured h fault → IsMissing h → ⊥
faulty_or_missing Untold fault bad missing = bad
faulty_or_missing Absent fault bad missing = bad
faulty_or_missing (Held held) fault bad missing = missing

there_or_absent : (h : Holding) (s : Settings) → h ≡ Absent → Configured h s → ⊥
there_or_absent h s absent c = subst (λ (x : Holding). IsWhole x c.bytes) absent c.whole

faulty_or_absent : (h : Holding) (fault : ConfigFault) → h ≡ Absent → Misconfigured h fault → ⊥
faulty_or_absent h fault absent m = subst (λ (x : Holding). IsWhole x m.bytes) absent m.whole

keyed_or_not : (holds : List ℕ → Holding) (name : List ℕ) (s t : Settings) (fault : KeyFault) → IsConfigured (holds name) s → IsMiskeyed holds s.key fault → Configured (holds name) t → Keyed holds t.key → ⊥
keyed_or_not holds name s t fault is bad c k =
    let keyed = subst (λ (t : Settings). Keyed holds t.key) (configured_same (holds name) s t is c) k in
    not_both keyed.key fault (sym keyed.accepted ∙ (ap static_key (told_key holds s.key bad.bytes keyed.bytes bad.told keyed.text) ∙ bad.refused))

-- ---- a faulty configuration

check_misconfigured : (holds : List ℕ → Holding) (name subject : List ℕ) (fault : ConfigFault) (r : Option Refusal) (run : Run) → RanCheck holds name r subject run → IsMisconfigured (holds name) fault →
    (exit_status r ≡ 2) ⊎ ((exit_status r ≡ 3) × Rose run.files.0 run.files.1) ⊎ IsCutOff (exit_status r) run.out run.err
check_misconfigured holds name subject fault None run ran bad = absurd (faulty_or_not (holds name) fault ran.s bad ran.configured)
check_misconfigured holds name subject fault (Some refusals.Usage) run ran bad = absurd ran
check_misconfigured holds name subject fault (Some (refusals.Line other)) run ran bad = absurd ran
check_misconfigured holds name subject fault (Some (refusals.Config number kind)) run ran bad = inl refl
check_misconfigured holds name subject fault (Some (refusals.Key other)) run ran bad = inl refl
check_misconfigured holds name subject fault (Some refusals.NotServer) run ran bad = absurd ran
check_misconfigured holds name subject fault (Some (refusals.Schedule number kind)) run ran bad = absurd ran
check_misconfigured holds name subject fault (Some refusals.TurnsSpent) run ran bad = absurd ran
check_misconfigured holds name subject fault (Some refusals.Missing) run (inl same, missing, after) bad = absurd (faulty_or_missing (holds name) fault bad (subst (λ (n : List ℕ). IsMissing (holds n)) same missing))
check_misconfigured holds name subject fault (Some refusals.Missing) run (inr file, missing, after) bad = absurd (faulty_or_not (holds name) fault file.s bad file.configured)
check_misconfigured holds name subject fault (Some refusals.Unreadable) run ran bad = inr (inl (refl, ran.2))
check_misconfigured holds name subject fault (Some refusals.Output) run ran bad = inr (inr (inl (refl, ran.0)))
check_misconfigured holds name subject fault (Some refusals.NoMemory) run ran bad = inr (inr (inr refl))

replay_misconfigured : (holds : List ℕ → Holding) (name schedule subject : List ℕ) (fault : ConfigFault) (r : Option Refusal) (run : Run) → RanReplay holds name schedule r subject run → IsMisconfigured (holds name) fault →
    (exit_status r ≡ 2) ⊎ ((exit_status r ≡ 3) × Rose run.files.0 run.files.1) ⊎ IsCutOff (exit_status r) run.out run.err
replay_misconfigured holds name schedule subject fault None run ran bad = absurd (faulty_or_not (holds name) fault ran.server.settings bad ran.server.configured)
replay_misconfigured holds name schedule subject fault (Some refusals.Usage) run ran bad = absurd ran
replay_misconfigured holds name schedule subject fault (Some (refusals.Line other)) run ran bad = absurd ran
replay_misconfigured holds name schedule subject fault (Some (refusals.Config number kind)) run ran bad = inl refl
replay_misconfigured holds name schedule subject fault (Some (refusals.Key other)) run ran bad = inl refl
replay_misconfigured holds name schedule subject fault (Some refusals.NotServer) run ran bad = inl refl
replay_misconfigured holds name schedule subject fault (Some (refusals.Schedule number kind)) run ran bad = absurd (faulty_or_not (holds name) fault ran.server.settings bad ran.server.configured)
replay_misconfigured holds name schedule subject fault (Some refusals.TurnsSpent) run ran bad = absurd (faulty_or_not (holds name) fault ran.server.settings bad ran.server.configured)
replay_misconfigured holds name schedule subject fault (Some refusals.Missing) run (inl (inl same), missing, after) bad = absurd (faulty_or_missing (holds name) fault bad (subst (λ (n : List ℕ). IsMissing (holds n)) same missing))
replay_misconfigured holds name schedule subject fault (Some refusals.Missing) run (inl (inr file), missing, after) bad = absurd (faulty_or_not (holds name) fault file.settings bad file.configured)
replay_misconfigured holds name schedule subject fault (Some refusals.Missing) run (inr server, missing, after) bad = absurd (faulty_or_not (holds name) fault server.1.settings bad server.1.configured)
replay_misconfigured holds name schedule subject fault (Some refusals.Unreadable) run ran bad = inr (inl (refl, ran.0))
replay_misconfigured holds name schedule subject fault (Some refusals.Output) run ran bad = inr (inr (inl (refl, ran.0)))
replay_misconfigured holds name schedule subject fault (Some refusals.NoMemory) run ran bad = inr (inr (inr refl))

abbrev name_or : List ℕ → Option (List ℕ) → List ℕ
name_or name None = name
name_or name (Some other) = other

some_same : {a b : List ℕ} → Some a ≡ Some b → a ≡ b
some_same {a} {b} is = ap (name_or a) is

pub misconfigured_end : (command : Command) (holds : List ℕ → Holding) (name subject : List ℕ) (fault : ConfigFault) (r : Option Refusal) (run : Run) → Ran (Some command) holds r subject run →
    configuration_of command ≡ Some name → IsMisconfigured (holds name) fault →
    (exit_status r ≡ 2) ⊎ ((exit_status r ≡ 3) × Rose run.files.0 run.files.1) ⊎ IsCutOff (exit_status r) run.out run.err
misconfigured_end (Route file) holds name subject fault r run ran is bad = absurd (none-some _ is)
misconfigured_end (Check file) holds name subject fault r run ran is bad =
    check_misconfigured holds name subject fault r run (subst (λ (n : List ℕ). RanCheck holds n r subject run) (some_same is) ran) bad
misconfigured_end (Replay file schedule) holds name subject fault r run ran is bad =
    replay_misconfigured holds name schedule subject fault r run (subst (λ (n : List ℕ). RanReplay holds n schedule r subject run) (some_same is) ran) bad

-- ---- no configuration

check_lacking : (holds : List ℕ → Holding) (name subject : List ℕ) (r : Option Refusal) (run : Run) → RanCheck holds name r subject run → holds name ≡ Absent →
    (exit_status r ≡ 3) ⊎ IsCutOff (exit_status r) run.out run.err
check_lacking holds name subject None run ran absent = absurd (there_or_absent (holds name) ran.s absent ran.configured)
check_lacking holds name subject (Some refusals.Usage) run ran absent = absurd ran
check_lacking holds name subject (Some (refusals.Line other)) run ran absent = absurd ran
check_lacking holds name subject (Some (refusals.Config number kind)) run ran absent = absurd (faulty_or_absent (holds name) _ absent ran.0)
check_lacking holds name subject (Some (refusals.Key other)) run ran absent = absurd (there_or_absent (holds name) ran.0.s absent ran.0.configured)
check_lacking holds name subject (Some refusals.NotServer) run ran absent = absurd ran
check_lacking holds name subject (Some (refusals.Schedule number kind)) run ran absent = absurd ran
check_lacking holds name subject (Some refusals.TurnsSpent) run ran absent = absurd ran
check_lacking holds name subject (Some refusals.Missing) run ran absent = inl refl
check_lacking holds name subject (Some refusals.Unreadable) run ran absent = inl refl
check_lacking holds name subject (Some refusals.Output) run ran absent = inr (inl (refl, ran.0))
check_lacking holds name subject (Some refusals.NoMemory) run ran absent = inr (inr refl)

replay_lacking : (holds : List ℕ → Holding) (name schedule subject : List ℕ) (r : Option Refusal) (run : Run) → RanReplay holds name schedule r subject run → holds name ≡ Absent →
    (exit_status r ≡ 3) ⊎ IsCutOff (exit_status r) run.out run.err
replay_lacking holds name schedule subject None run ran absent = absurd (there_or_absent (holds name) ran.server.settings absent ran.server.configured)
replay_lacking holds name schedule subject (Some refusals.Usage) run ran absent = absurd ran
replay_lacking holds name schedule subject (Some (refusals.Line other)) run ran absent = absurd ran
replay_lacking holds name schedule subject (Some (refusals.Config number kind)) run ran absent = absurd (faulty_or_absent (holds name) _ absent ran.0)
replay_lacking holds name schedule subject (Some (refusals.Key other)) run ran absent = absurd (there_or_absent (holds name) ran.0.settings absent ran.0.configured)
replay_lacking holds name schedule subject (Some refusals.NotServer) run ran absent = absurd (there_or_absent (holds name) ran.0.settings absent ran.0.configured)
replay_lacking holds name schedule subject (Some (refusals.Schedule number kind)) run ran absent = absurd (there_or_absent (holds name) ran.server.settings absent ran.server.configured)
replay_lacking holds name schedule subject (Some refusals.TurnsSpent) run ran absent = absurd (there_or_absent (holds name) ran.server.settings absent ran.server.configured)
replay_lacking holds name schedule subject (Some refusals.Missing) run ran absent = inl refl
replay_lacking holds name schedule subject (Some refusals.Unreadable) run ran absent = inl refl
replay_lacking holds name schedule subject (Some refusals.Output) run ran absent = inr (inl (refl, ran.0))
replay_lacking holds name schedule subject (Some refusals.NoMemory) run ran absent = inr (inr refl)

pub lacking_end : (command : Command) (holds : List ℕ → Holding) (name subject : List ℕ) (r : Option Refusal) (run : Run) → Ran (Some command) holds r subject run →
    configuration_of command ≡ Some name → holds name ≡ Absent → (exit_status r ≡ 3) ⊎ IsCutOff (exit_status r) run.out run.err
lacking_end (Route file) holds name subject r run ran is absent = absurd (none-some _ is)
lacking_end (Check file) holds name subject r run ran is absent =
    check_lacking holds name subject r run (subst (λ (n : List ℕ). RanCheck holds n r subject run) (some_same is) ran) absent
lacking_end (Replay file schedule) holds name subject r run ran is absent =
    replay_lacking holds name schedule subject r run (subst (λ (n : List ℕ). RanReplay holds n schedule r subject run) (some_same is) ran) absent

-- ---- a faulty static key

replay_miskeyed : (holds : List ℕ → Holding) (name schedule subject : List ℕ) (s : Settings) (fault : KeyFault) (r : Option Refusal) (run : Run) → RanReplay holds name schedule r subject run →
    IsConfigured (holds name) s → IsMiskeyed holds s.key fault →
    (exit_status r ≡ 2) ⊎ ((exit_status r ≡ 3) × Rose run.files.0 run.files.1) ⊎ IsCutOff (exit_status r) run.out run.err
replay_miskeyed holds name schedule subject s fault None run ran is bad =
    absurd (keyed_or_not holds name s ran.server.settings fault is bad ran.server.configured (keyed_by holds ran.server.settings.key ran.server.key ran.server.keyed))
replay_miskeyed holds name schedule subject s fault (Some refusals.Usage) run ran is bad = absurd ran
replay_miskeyed holds name schedule subject s fault (Some (refusals.Line other)) run ran is bad = absurd ran
replay_miskeyed holds name schedule subject s fault (Some (refusals.Config number kind)) run ran is bad = inl refl
replay_miskeyed holds name schedule subject s fault (Some (refusals.Key other)) run ran is bad = inl refl
replay_miskeyed holds name schedule subject s fault (Some refusals.NotServer) run ran is bad = inl refl
replay_miskeyed holds name schedule subject s fault (Some (refusals.Schedule number kind)) run ran is bad =
    absurd (keyed_or_not holds name s ran.server.settings fault is bad ran.server.configured (keyed_by holds ran.server.settings.key ran.server.key ran.server.keyed))
replay_miskeyed holds name schedule subject s fault (Some refusals.TurnsSpent) run ran is bad =
    absurd (keyed_or_not holds name s ran.server.settings fault is bad ran.server.configured (keyed_by holds ran.server.settings.key ran.server.key ran.server.keyed))
replay_miskeyed holds name schedule subject s fault (Some refusals.Missing) run (inl (inl same), missing, after) is bad =
    absurd (not_missing (holds name) s is (subst (λ (n : List ℕ). IsMissing (holds n)) same missing))
replay_miskeyed holds name schedule subject s fault (Some refusals.Missing) run (inl (inr file), missing, after) is bad =
    absurd (key_there holds s.key subject bad.bytes (ap (λ (t : Settings). t.key) (sym (configured_same (holds name) s file.settings is file.configured)) ∙ file.named) bad.told missing)
replay_miskeyed holds name schedule subject s fault (Some refusals.Missing) run (inr server, missing, after) is bad =
    absurd (keyed_or_not holds name s server.1.settings fault is bad server.1.configured (keyed_by holds server.1.settings.key server.1.key server.1.keyed))
replay_miskeyed holds name schedule subject s fault (Some refusals.Unreadable) run ran is bad = inr (inl (refl, ran.0))
replay_miskeyed holds name schedule subject s fault (Some refusals.Output) run ran is bad = inr (inr (inl (refl, ran.0)))
replay_miskeyed holds name schedule subject s fault (Some refusals.NoMemory) run ran is bad = inr (inr (inr refl))

pub miskeyed_by : (command : Command) (holds : List ℕ → Holding) (name subject : List ℕ) (s : Settings) (fault : KeyFault) (r : Option Refusal) (run : Run) → Ran (Some command) holds r subject run →
    configuration_of command ≡ Some name → IsConfigured (holds name) s → IsMiskeyed holds s.key fault →
    (exit_status r ≡ 2) ⊎ ((exit_status r ≡ 3) × Rose run.files.0 run.files.1) ⊎ IsCutOff (exit_status r) run.out run.err
miskeyed_by (Route file) holds name subject s fault r run ran named is bad = absurd (none-some _ named)
miskeyed_by (Check file) holds name subject s fault r run ran named is bad =
    miskeyed_end holds name subject s fault r run (subst (λ (n : List ℕ). RanCheck holds n r subject run) (some_same named) ran) is bad
miskeyed_by (Replay file schedule) holds name subject s fault r run ran named is bad =
    replay_miskeyed holds name schedule subject s fault r run (subst (λ (n : List ℕ). RanReplay holds n schedule r subject run) (some_same named) ran) is bad

-- ---- no static key

no_key : (holds : List ℕ → Holding) (name file : List ℕ) (s t : Settings) (key : List ℕ) → IsConfigured (holds name) s → s.key ≡ Named file → holds file ≡ Absent → Configured (holds name) t → HasKey holds t.key key → ⊥
no_key holds name file s t key is named absent c k =
    let keyed = subst (λ (t : Settings). HasKey holds t.key key) (configured_same (holds name) s t is c) k in
    no_key_text holds s.key file keyed.bytes named absent keyed.text

replay_keyless : (holds : List ℕ → Holding) (name schedule subject file : List ℕ) (s : Settings) (r : Option Refusal) (run : Run) → RanReplay holds name schedule r subject run →
    IsConfigured (holds name) s → s.role ≡ roles.Server → s.key ≡ Named file → holds file ≡ Absent → (exit_status r ≡ 3) ⊎ IsCutOff (exit_status r) run.out run.err
replay_keyless holds name schedule subject file s None run ran is role named absent = absurd (no_key holds name file s ran.server.settings ran.server.key is named absent ran.server.configured ran.server.keyed)
replay_keyless holds name schedule subject file s (Some refusals.Usage) run ran is role named absent = absurd ran
replay_keyless holds name schedule subject file s (Some (refusals.Line other)) run ran is role named absent = absurd ran
replay_keyless holds name schedule subject file s (Some (refusals.Config number kind)) run ran is role named absent = absurd (not_misconfigured (holds name) s _ is ran.0)
replay_keyless holds name schedule subject file s (Some (refusals.Key other)) run ran is role named absent =
    let bad = subst (λ (t : Settings). Miskeyed holds t.key other) (configured_same (holds name) s ran.0.settings is ran.0.configured) ran.0.miskeyed in
    absurd (no_key_text holds s.key file bad.bytes named absent bad.text)
replay_keyless holds name schedule subject file s (Some refusals.NotServer) run ran is role named absent =
    absurd (server_or_client (sym role ∙ (ap (λ (t : Settings). t.role) (sym (configured_same (holds name) s ran.0.settings is ran.0.configured)) ∙ ran.0.is_client)))
replay_keyless holds name schedule subject file s (Some (refusals.Schedule number kind)) run ran is role named absent =
    absurd (no_key holds name file s ran.server.settings ran.server.key is named absent ran.server.configured ran.server.keyed)
replay_keyless holds name schedule subject file s (Some refusals.TurnsSpent) run ran is role named absent =
    absurd (no_key holds name file s ran.server.settings ran.server.key is named absent ran.server.configured ran.server.keyed)
replay_keyless holds name schedule subject file s (Some refusals.Missing) run ran is role named absent = inl refl
replay_keyless holds name schedule subject file s (Some refusals.Unreadable) run ran is role named absent = inl refl
replay_keyless holds name schedule subject file s (Some refusals.Output) run ran is role named absent = inr (inl (refl, ran.0))
replay_keyless holds name schedule subject file s (Some refusals.NoMemory) run ran is role named absent = inr (inr refl)

takes_server : (role : Role) (config schedule : List ℕ) → TakesRole (Replay config schedule) role → role ≡ roles.Server
takes_server roles.Server config schedule is = refl
takes_server roles.Client config schedule is = absurd is

pub keyless_by : (command : Command) (holds : List ℕ → Holding) (name subject file : List ℕ) (s : Settings) (r : Option Refusal) (run : Run) → Ran (Some command) holds r subject run →
    configuration_of command ≡ Some name → IsConfigured (holds name) s → TakesRole command s.role → s.key ≡ Named file → holds file ≡ Absent →
    (exit_status r ≡ 3) ⊎ IsCutOff (exit_status r) run.out run.err
keyless_by (Route other) holds name subject file s r run ran wanted is takes named absent = absurd (none-some _ wanted)
keyless_by (Check other) holds name subject file s r run ran wanted is takes named absent =
    keyless_end holds name subject file s r run (subst (λ (n : List ℕ). RanCheck holds n r subject run) (some_same wanted) ran) is named absent
keyless_by (Replay other schedule) holds name subject file s r run ran wanted is takes named absent =
    replay_keyless holds name schedule subject file s r run (subst (λ (n : List ℕ). RanReplay holds n schedule r subject run) (some_same wanted) ran) is
    (takes_server s.role other schedule takes) named absent

-- ---- a client's configuration

no_server : (h : Holding) (s t : Settings) → IsConfigured h s → s.role ≡ roles.Client → Configured h t → t.role ≡ roles.Server → ⊥
no_server h s t is client c server = server_or_client (sym server ∙ (ap (λ (t : Settings). t.role) (configured_same h s t is c) ∙ client))

pub not_server_end : (holds : List ℕ → Holding) (name schedule subject : List ℕ) (s : Settings) (r : Option Refusal) (run : Run) → RanReplay holds name schedule r subject run →
    IsConfigured (holds name) s → s.role ≡ roles.Client →
    (exit_status r ≡ 2) ⊎ ((exit_status r ≡ 3) × Rose run.files.0 run.files.1) ⊎ IsCutOff (exit_status r) run.out run.err
not_server_end holds name schedule subject s None run ran is client = absurd (no_server (holds name) s ran.server.settings is client ran.server.configured ran.server.is_server)
not_server_end holds name schedule subject s (Some refusals.Usage) run ran is client = absurd ran
not_server_end holds name schedule subject s (Some (refusals.Line other)) run ran is client = absurd ran
not_server_end holds name schedule subject s (Some (refusals.Config number kind)) run ran is client = inl refl
not_server_end holds name schedule subject s (Some (refusals.Key other)) run ran is client = inl refl
not_server_end holds name schedule subject s (Some refusals.NotServer) run ran is client = inl refl
not_server_end holds name schedule subject s (Some (refusals.Schedule number kind)) run ran is client = absurd (no_server (holds name) s ran.server.settings is client ran.server.configured ran.server.is_server)
not_server_end holds name schedule subject s (Some refusals.TurnsSpent) run ran is client = absurd (no_server (holds name) s ran.server.settings is client ran.server.configured ran.server.is_server)
not_server_end holds name schedule subject s (Some refusals.Missing) run (inl (inl same), missing, after) is client =
    absurd (not_missing (holds name) s is (subst (λ (n : List ℕ). IsMissing (holds n)) same missing))
not_server_end holds name schedule subject s (Some refusals.Missing) run (inl (inr file), missing, after) is client = absurd (no_server (holds name) s file.settings is client file.configured file.is_server)
not_server_end holds name schedule subject s (Some refusals.Missing) run (inr server, missing, after) is client = absurd (no_server (holds name) s server.1.settings is client server.1.configured server.1.is_server)
not_server_end holds name schedule subject s (Some refusals.Unreadable) run ran is client = inr (inl (refl, ran.0))
not_server_end holds name schedule subject s (Some refusals.Output) run ran is client = inr (inr (inl (refl, ran.0)))
not_server_end holds name schedule subject s (Some refusals.NoMemory) run ran is client = inr (inr (inr refl))

-- ---- a server with its static key

-- how it may end once its server was loaded
data PastServer (holds : List ℕ → Holding) (name schedule : List ℕ) (r : Option Refusal) (run : Run) : Type 0 where
  Done : r ≡ None → Replayed holds name schedule run → PastServer holds name schedule r run
  AtLine : (line : ℕ) (kind : TextKind) → exit_status r ≡ 5 → ReplayedBefore holds name schedule line kind run → PastServer holds name schedule r run
  Spent : ReplayedMost holds name schedule run → PastServer holds name schedule r run
  NoSchedule : exit_status r ≡ 3 → IsMissing (holds schedule) → PastServer holds name schedule r run
  Unread : exit_status r ≡ 3 → Rose run.files.0 run.files.1 → PastServer holds name schedule r run
  Off : IsCutOff (exit_status r) run.out run.err → PastServer holds name schedule r run

past_server : (holds : List ℕ → Holding) (name schedule subject : List ℕ) (s : Settings) (r : Option Refusal) (run : Run) → RanReplay holds name schedule r subject run →
    IsConfigured (holds name) s → s.role ≡ roles.Server → IsKeyed holds s.key → PastServer holds name schedule r run
past_server holds name schedule subject s None run ran is role keyed = Done refl ran
past_server holds name schedule subject s (Some refusals.Usage) run ran is role keyed = absurd ran
past_server holds name schedule subject s (Some (refusals.Line other)) run ran is role keyed = absurd ran
past_server holds name schedule subject s (Some (refusals.Config number kind)) run ran is role keyed = absurd (not_misconfigured (holds name) s _ is ran.0)
past_server holds name schedule subject s (Some (refusals.Key other)) run ran is role keyed =
    let bad = subst (λ (t : Settings). Miskeyed holds t.key other) (configured_same (holds name) s ran.0.settings is ran.0.configured) ran.0.miskeyed in
    absurd (not_both keyed.key other (sym keyed.accepted ∙ (ap static_key (sym (told_key holds s.key keyed.bytes bad.bytes keyed.told bad.text)) ∙ bad.refused)))
past_server holds name schedule subject s (Some refusals.NotServer) run ran is role keyed =
    absurd (server_or_client (sym role ∙ (ap (λ (t : Settings). t.role) (sym (configured_same (holds name) s ran.0.settings is ran.0.configured)) ∙ ran.0.is_client)))
past_server holds name schedule subject s (Some (refusals.Schedule number kind)) run ran is role keyed = AtLine number kind refl ran
past_server holds name schedule subject s (Some refusals.TurnsSpent) run ran is role keyed = Spent ran
past_server holds name schedule subject s (Some refusals.Missing) run (inl (inl same), missing, after) is role keyed =
    absurd (not_missing (holds name) s is (subst (λ (n : List ℕ). IsMissing (holds n)) same missing))
past_server holds name schedule subject s (Some refusals.Missing) run (inl (inr file), missing, after) is role keyed =
    absurd (key_there holds s.key subject keyed.bytes (ap (λ (t : Settings). t.key) (sym (configured_same (holds name) s file.settings is file.configured)) ∙ file.named) keyed.told missing)
past_server holds name schedule subject s (Some refusals.Missing) run (inr server, missing, after) is role keyed =
    NoSchedule refl (subst (λ (n : List ℕ). IsMissing (holds n)) server.0 missing)
past_server holds name schedule subject s (Some refusals.Unreadable) run ran is role keyed = Unread refl ran.0
past_server holds name schedule subject s (Some refusals.Output) run ran is role keyed = Off (inl (refl, ran.0))
past_server holds name schedule subject s (Some refusals.NoMemory) run ran is role keyed = Off (inr refl)

-- the text that is told is the one that was read
told_whole : (h : Holding) (held text : List ℕ) → h ≡ Held held → IsWhole h text → text ≡ held
told_whole h held text told whole = subst (λ (x : Holding). IsWhole x text) told whole

told_missing : (h : Holding) (held : List ℕ) → h ≡ Held held → IsMissing h → ⊥
told_missing h held told missing = subst IsMissing told missing

-- fewer events are spelled than may come
few_came : (h : Holding) (held : List ℕ) (entries : List Entry) → h ≡ Held held → length (spells held).events < 2 ^ 48 → CameOf h (events_of entries) → length entries ≡ 2 ^ 48 → ⊥
few_came h held entries told few (NotRead none) most =
    let count = length-map entries (λ (entry : Entry). entry.0) in let counts = ap length none in omega (arith, count, counts, most)
few_came h held entries told few (First left is) most =
    let count = length-map entries (λ (entry : Entry). entry.0) in
    let same = ap (λ (text : List ℕ). length (spells text).events) (sym (told_whole h held is.text told is.whole)) in
    let all = ap length is.all in
    let both = length-append (events_of entries) left in
    omega (arith, count, same, all, both, most, few)

-- no line of the schedule is refused
pub replayed_end : (holds : List ℕ → Holding) (name schedule subject text : List ℕ) (s : Settings) (r : Option Refusal) (run : Run) → RanReplay holds name schedule r subject run →
    IsConfigured (holds name) s → s.role ≡ roles.Server → IsKeyed holds s.key → holds schedule ≡ Held text → (spells text).fault ≡ None → length (spells text).events < 2 ^ 48 →
    (exit_status r ≡ 0) ⊎ ((exit_status r ≡ 3) × Rose run.files.0 run.files.1) ⊎ IsCutOff (exit_status r) run.out run.err
replayed_end holds name schedule subject text s r run ran is role keyed told none few = go (past_server holds name schedule subject s r run ran is role keyed)
  where
    go : PastServer holds name schedule r run → (exit_status r ≡ 0) ⊎ ((exit_status r ≡ 3) × Rose run.files.0 run.files.1) ⊎ IsCutOff (exit_status r) run.out run.err
    go (Done good done) = inl (ap exit_status good)
    go (AtLine line kind status before) =
        absurd (none-some _ (sym none ∙ (ap (λ (t : List ℕ). (spells t).fault) (sym (told_whole (holds schedule) text before.came.text told before.came.whole)) ∙ before.came.fault)))
    go (Spent most) = absurd (few_came (holds schedule) text most.server.entries told few most.server.came most.most)
    go (NoSchedule status missing) = absurd (told_missing (holds schedule) text told missing)
    go (Unread status rose) = inr (inl (status, rose))
    go (Off off) = inr (inr off)

-- the end of a run is one of the events that are spelled
halt_told : (h : Holding) (held : List ℕ) (entries : List Entry) → h ≡ Held held → EndWithHalt (events_of entries) → CameOf h (events_of entries) → HoldHalt (spells held).events
halt_told h held entries told ends (NotRead none) = absurd (none_ends (sym none ∙ ends.all))
  where
    none_ends : [] ≡ ends.before ++ ends.last ∷ [] → ⊥
    none_ends is = let counts = ap length is in let both = length-append ends.before (ends.last ∷ []) in omega (arith, counts, both)
halt_told h held entries told ends (First left is) = record {
  before = ends.before;
  halt = ends.last;
  after = left;
  all = ap (λ (text : List ℕ). (spells text).events) (sym (told_whole h held is.text told is.whole))
      ∙ (is.all ∙ (ap (λ (l : List Event). l ++ left) ends.all ∙ append_assoc ends.before (ends.last ∷ []) left));
  halts = ends.halts;
}

-- a line of it is refused
pub refused_end : (holds : List ℕ → Holding) (name schedule subject text : List ℕ) (s : Settings) (r : Option Refusal) (run : Run) → RanReplay holds name schedule r subject run →
    IsConfigured (holds name) s → s.role ≡ roles.Server → IsKeyed holds s.key → holds schedule ≡ Held text → length (spells text).events < 2 ^ 48 →
    (exit_status r ≡ 5) ⊎ ((exit_status r ≡ 0) × HoldHalt (spells text).events) ⊎ ((exit_status r ≡ 3) × Rose run.files.0 run.files.1) ⊎ IsCutOff (exit_status r) run.out run.err
refused_end holds name schedule subject text s r run ran is role keyed told few = go (past_server holds name schedule subject s r run ran is role keyed)
  where
    go : PastServer holds name schedule r run → (exit_status r ≡ 5) ⊎ ((exit_status r ≡ 0) × HoldHalt (spells text).events) ⊎ ((exit_status r ≡ 3) × Rose run.files.0 run.files.1) ⊎ IsCutOff (exit_status r) run.out run.err
    go (Done good done) = inr (inl (ap exit_status good, halt_told (holds schedule) text done.server.entries told done.halted done.server.came))
    go (AtLine line kind status before) = inl status
    go (Spent most) = absurd (few_came (holds schedule) text most.server.entries told few most.server.came most.most)
    go (NoSchedule status missing) = absurd (told_missing (holds schedule) text told missing)
    go (Unread status rose) = inr (inr (inl (status, rose)))
    go (Off off) = inr (inr (inr off))

-- nothing came of a schedule that is absent
none_of : (h : Holding) (entries : List Entry) → h ≡ Absent → CameOf h (events_of entries) → entries ≡ []
none_of h [] absent came = refl
none_of h (entry ∷ entries) absent (NotRead none) = absurd (let counts = ap length none in omega (arith, counts))
none_of h (entry ∷ entries) absent (First left is) = absurd (subst (λ (x : Holding). IsWhole x is.text) absent is.whole)

never_stopped : (holds : List ℕ → Holding) (name schedule : List ℕ) (server : ServerRun holds name schedule) → holds schedule ≡ Absent →
    IsTrue (stops_last (run (table_begun server.settings server.key) server.entries)) → ⊥
never_stopped holds name schedule server absent stopped =
    false≢true (subst (λ (entries : List Entry). stops_last (run (table_begun server.settings server.key) entries) ≡ true) (none_of (holds schedule) server.entries absent server.came) stopped)

pub unscheduled_end : (holds : List ℕ → Holding) (name schedule subject : List ℕ) (s : Settings) (r : Option Refusal) (run : Run) → RanReplay holds name schedule r subject run →
    IsConfigured (holds name) s → s.role ≡ roles.Server → IsKeyed holds s.key → holds schedule ≡ Absent → (exit_status r ≡ 3) ⊎ IsCutOff (exit_status r) run.out run.err
unscheduled_end holds name schedule subject s r run ran is role keyed absent = go (past_server holds name schedule subject s r run ran is role keyed)
  where
    go : PastServer holds name schedule r run → (exit_status r ≡ 3) ⊎ IsCutOff (exit_status r) run.out run.err
    go (Done good done) = absurd (never_stopped holds name schedule done.server absent done.stopped)
    go (AtLine line kind status before) = absurd (subst (λ (x : Holding). IsWhole x before.came.text) absent before.came.whole)
    go (Spent most) = absurd (let none = ap length (none_of (holds schedule) most.server.entries absent most.server.came) in let all = most.most in omega (arith, none, all))
    go (NoSchedule status missing) = inl status
    go (Unread status rose) = inl status
    go (Off off) = inr off
