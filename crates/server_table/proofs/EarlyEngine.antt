-- What follows an answer of the engine or a file is no refusal that comes before anything is done.
use Rattle.std.proofs.Common.{◌≡◌, ℕ, zero, suc, Bool, true, false, List, [], ◌∷◌, map, Option, Some, None, Result, Ok, Err, refl, ap, ◌∙◌}
use Rattle.std.specs.Prelude.{nat_lt}
use Rattle.std.specs.Str.{bytes_eq}
use Rattle.vpn_base.specs.Network.{Network}
use Rattle.vpn_base.specs.declared.names.Cause.TheVariants.{EngineDown, PoolEmpty, Replaced}
use Rattle.vpn_base.specs.declared.names.Cid.{Cid}
use Rattle.vpn_base.specs.declared.names.Conn.{Conn}
use Rattle.vpn_base.specs.declared.names.Draw.{Draw}
use Rattle.vpn_links.specs.declared.events.FileAnswer.{FileAnswer}
use Rattle.vpn_links.specs.declared.events.FileAnswer.TheVariants.{Held, Missing, Failed}
use Rattle.vpn_links.specs.declared.events.Kind.{Kind}
use Rattle.vpn_links.specs.declared.events.Kind.TheVariants as kinds
use Rattle.vpn_text.specs.declared.config.ConfigFault.{ConfigFault}
use Rattle.ccd_files.specs.declared.client_file.Ccd.{Ccd}
use Rattle.ccd_files.specs.ClientFile.{ccd, no_ccd}
use Rattle.ovpn_config.specs.declared.settings.Settings.{Settings}
use Rattle.push_options.specs.Options.{options_of}
use Rattle.push_options.specs.Parts.{reply_parts}
use Rattle.peer_table.specs.EngineAnswers.{engine_came}
use Rattle.peer_table.specs.Exchange.{after_message, cipher_of, exchanged, first_conn, most_unread, next_message}
use Rattle.peer_table.specs.Peer.{Outcome}
use Rattle.peer_table.specs.declared.outcomes.Turn.{Turn}
use Rattle.peer_table.specs.declared.outcomes.Turn.TheVariants.{Exchange, Going, Ignored, Named, Over}
use Rattle.server_table.specs.Courses.{Course, acted, client_changed, outs}
use Rattle.server_table.specs.Endings.{ended, turned}
use Rattle.server_table.specs.Engine as engine
use Rattle.server_table.specs.Establishing as establishing
use Rattle.server_table.specs.Exchange as exchange
use Rattle.server_table.specs.Lookups.{by_connection, client_here, established_named}
use Rattle.server_table.specs.Runs.{is_refusal}
use Rattle.server_table.specs.Table.{Awaited, Client, Established, FileState, Known, Unasked}
use Rattle.server_table.proofs.Early.{KeepsNone, NoneEarly, no_refusal, none_acted, none_append, none_begun, none_ended, none_turned}

-- ---- establishing

none_written : (conn : Conn) (parts : List (List ℕ)) → NoneEarly (establishing.written conn parts)
none_written conn [] = refl
none_written conn (part ∷ parts) = none_written conn parts

none_replied : (s : Settings) (x : Client) (a : establishing.Leased) (conn : Conn) → NoneEarly (establishing.reply s x a conn)
unfolding establishing.reply
none_replied s x a conn = none_written conn (reply_parts (options_of (establishing.plan_of s x a)))

none_networks : (n : ℕ) (nets : List Network) → NoneEarly (map (establishing.network_line n) nets)
none_networks n [] = refl
none_networks n (net ∷ nets) = none_networks n nets

none_placed : (n : ℕ) (conn : Conn) (x : Client) (c : Course) (o : Option establishing.Leased) → KeepsNone c (establishing.established_with n conn x c o)
none_placed n conn x c None none = none_ended n PoolEmpty c none
none_placed n conn x c (Some a) none =
    none_append c.effects _ none
    (none_append (establishing.reply c.table.settings x a conn) _ (none_replied c.table.settings x a conn) (none_networks n (establishing.ccd_in x.file).iroutes))

none_for : (n : ℕ) (conn : Conn) (c : Course) (o : Option Client) → KeepsNone c (establishing.established_for n conn c o)
none_for n conn c None none = none
none_for n conn c (Some x) none = none_placed n conn x c (establishing.address_by c.table (establishing.ccd_in x.file).address) none

none_replaced : (n : ℕ) (c : Course) (o : Option ℕ) → KeepsNone c (establishing.replaced n c o)
none_replaced n c None none = none
none_replaced n c (Some m) none = none_ended m (Replaced (record { 0 = n })) c none

none_unless : (n : ℕ) (name : List ℕ) (c : Course) (b : Bool) → KeepsNone c (establishing.replaced_unless n name c b)
none_unless n name c true none = none
none_unless n name c false none = none_replaced n c (established_named c.table name) none

none_establishing : (n : ℕ) (conn : Conn) (c : Course) (o : Option Client) → KeepsNone c (establishing.establishing n conn c o)
none_establishing n conn c None none = none
none_establishing n conn c (Some x) none =
    let then = establishing.replaced_unless n (establishing.name_in x) c c.table.settings.duplicate in
    none_for n conn then (client_here then.table n) (none_unless n (establishing.name_in x) c c.table.settings.duplicate none)

none_established : (n : ℕ) (conn : Conn) (c : Course) → KeepsNone c (establishing.client_established n conn c)
unfolding establishing.client_established
none_established n conn c none = none_establishing n conn c (client_here c.table n) none

-- ---- messages

none_requested_as : (n : ℕ) (conn : Conn) (x : Client) (c : Course) (o : Option Established) → KeepsNone c (exchange.requested_as n conn x c o)
none_requested_as n conn x c None none = none_established n conn c none
none_requested_as n conn x c (Some e) none = none_append c.effects _ none (none_replied c.table.settings x _ conn)

none_requested : (n : ℕ) (conn : Conn) (c : Course) (o : Option Client) → KeepsNone c (exchange.requested n conn c o)
none_requested n conn c None none = none
none_requested n conn c (Some x) none = none_requested_as n conn x c x.established none

none_other : (n : ℕ) (conn : Conn) (c : Course) (b : Bool) → KeepsNone c (exchange.other_message n conn c b)
none_other n conn c true none = none_requested n conn c (client_here c.table n) none
none_other n conn c false none = none_append c.effects _ none refl

none_message : (n : ℕ) (c : Course) (conn : Conn) (bytes : List ℕ) → KeepsNone c (exchange.message_came n c conn bytes)
none_message n c conn [] none = none
none_message n c conn (b ∷ bytes) none = none_other n conn c (bytes_eq (b ∷ bytes) exchange.push_request) none

none_of : (behind : Course → Course) → ((c : Course) → KeepsNone c (behind c)) → (n : ℕ) (c : Course) (o : Option (Conn × List ℕ)) → KeepsNone c (exchange.messages_taken_of behind n c o)
none_of behind rest n c None none = none
none_of behind rest n c (Some m) none = rest _ (none_message n (client_changed n (λ x. record x { session = after_message x.session }) c) m.0 m.1 none)

none_by : (behind : Course → Course) → ((c : Course) → KeepsNone c (behind c)) → (n : ℕ) (c : Course) (o : Option Client) → KeepsNone c (exchange.messages_taken_by behind n c o)
none_by behind rest n c None none = none
none_by behind rest n c (Some x) none = none_of behind rest n c (next_message x.session) none

none_upto : (most n : ℕ) (c : Course) → KeepsNone c (exchange.messages_taken_upto most n c)
unfolding exchange.messages_taken_upto
none_upto zero n c none = none
none_upto (suc most) n c none = none_by (exchange.messages_taken_upto most n) (λ c. none_upto most n c) n c (client_here c.table n) none

none_taken_for : (n : ℕ) (c : Course) (o : Option Client) → KeepsNone c (exchange.messages_taken_for n c o)
none_taken_for n c None none = none
none_taken_for n c (Some x) none = none_upto (exchange.most_messages x) n c none

none_taken : (n : ℕ) (c : Course) → KeepsNone c (exchange.messages_taken n c)
unfolding exchange.messages_taken
none_taken n c none = none_taken_for n c (client_here c.table n) none

-- ---- the key exchange

none_on : (n : ℕ) (c : Course) (o : Option Conn) → KeepsNone c (exchange.established_on n c o)
none_on n c None none = none
none_on n c (Some conn) none = none_established n conn c none

none_if : (n : ℕ) (c : Course) (x : Client) (b : Bool) → KeepsNone c (exchange.established_if n c x b)
none_if n c x false none = none
none_if n c x true none = none_on n c (first_conn x.session) none

none_as_asked : (n : ℕ) (c : Course) (o : Option Client) → KeepsNone c (exchange.established_as_asked n c o)
none_as_asked n c None none = none
none_as_asked n c (Some x) none = none_if n c x (exchange.asks_to_be_established x) none

none_made : (n : ℕ) (c : Course) → KeepsNone c (exchange.exchange_made n c)
none_made n c none = none_taken n (exchange.established_as_asked n c (client_here c.table n)) (none_as_asked n c (client_here c.table n) none)

none_with : (draw : Draw) (n : ℕ) (x : Client) (c : Course) (file : FileState) → KeepsNone c (exchange.exchange_with draw n x c file)
none_with draw n x c (Known file) none =
    let o = exchanged (exchange.policy_with c.table.settings.ciphers (cipher_of x.session)) x.peer_id draw x.session in
    let then = acted n x.address o c in
    none_made n (turned n o.answer then) (none_turned n o.answer then (none_acted n x o c none))
none_with draw n x c (Awaited name) none = none
none_with draw n x c Unasked none = none

none_exchange_for : (draw : Draw) (n : ℕ) (c : Course) (o : Option Client) → KeepsNone c (exchange.exchange_for draw n c o)
none_exchange_for draw n c None none = none
none_exchange_for draw n c (Some x) none = none_with draw n x c x.file none

none_exchange : (draw : Draw) (n : ℕ) (c : Course) → KeepsNone c (exchange.exchange draw n c)
unfolding exchange.exchange
none_exchange draw n c none = none_exchange_for draw n c (client_here c.table n) none

-- ---- files that are asked for, and what stays unread

none_in : (n : ℕ) (name : List ℕ) (c : Course) (o : Option (List ℕ)) → KeepsNone c (engine.asked_in n name c o)
none_in n name c None none = none
none_in n name c (Some folder) none = none_append c.effects _ none refl

none_once : (n : ℕ) (x : Client) (c : Course) (file : FileState) → KeepsNone c (engine.asked_once n x c file)
none_once n x c Unasked none = none_in n (establishing.name_in x) c c.table.settings.ccd none
none_once n x c (Awaited name) none = none
none_once n x c (Known file) none = none

none_asked_by : (n : ℕ) (c : Course) (o : Option Client) → KeepsNone c (engine.asked_by n c o)
none_asked_by n c None none = none
none_asked_by n c (Some x) none = none_once n x c x.file none

none_asked : (n : ℕ) (c : Course) → KeepsNone c (engine.asked n c)
unfolding engine.asked
none_asked n c none = none_asked_by n c (client_here c.table n) none

none_unread_if : (n : ℕ) (c : Course) (b : Bool) → KeepsNone c (engine.unread_if n c b)
none_unread_if n c false none = none
none_unread_if n c true none = none_ended n _ c none

none_unread_of : (n : ℕ) (c : Course) (o : Option Client) → KeepsNone c (engine.unread_of n c o)
none_unread_of n c None none = none
none_unread_of n c (Some x) none = none_unread_if n c (nat_lt engine.unread_limit (most_unread x.session.sessions)) none

none_judged : (n : ℕ) (c : Course) → KeepsNone c (engine.unread_judged n c)
unfolding engine.unread_judged
none_judged n c none = none_unread_of n c (client_here c.table n) none

-- ---- answers of the engine

none_gone : (draw : Draw) (n : ℕ) (c : Course) (turn : Turn) → KeepsNone c (engine.gone_on draw n c turn)
none_gone draw n c Going none = none_judged n (exchange.messages_taken n c) (none_taken n c none)
none_gone draw n c Ignored none = none_append c.effects _ none refl
none_gone draw n c Named none = none_judged n (engine.asked n c) (none_asked n c none)
none_gone draw n c Exchange none = none_judged n (exchange.exchange draw n (engine.asked n c)) (none_exchange draw n (engine.asked n c) (none_asked n c none))
none_gone draw n c (Over cause) none = none_ended n cause c none

none_text : (n : ℕ) (x : Client) (c : Course) (o : Outcome Turn) → KeepsNone c (engine.text_acted n x c o)
none_text n x c o none = none_turned n o.answer _ (none_acted n x o c none)

none_engine : (draw : Draw) (n : ℕ) (x : Client) (c : Course) (o : Outcome Turn) → KeepsNone c (engine.engine_acted draw n x c o)
none_engine draw n x c o none = none_gone draw n _ o.answer (none_acted n x o c none)

none_answer : (draw : Draw) (n : ℕ) (x : Client) (c : Course) (kind : Kind) (o : Outcome Turn) → KeepsNone c (engine.answer_acted draw n x c kind o)
none_answer draw n x c (kinds.EngineText conn bytes) o none = none_text n x c o none
none_answer draw n x c (kinds.EnginePlain conn bytes) o none = none_engine draw n x c o none
none_answer draw n x c (kinds.EngineUp conn name) o none = none_engine draw n x c o none
none_answer draw n x c (kinds.EngineDown conn) o none = none_engine draw n x c o none
none_answer draw n x c (kinds.Datagram from bytes) o none = none_engine draw n x c o none
none_answer draw n x c (kinds.DeviceIn bytes) o none = none_engine draw n x c o none
none_answer draw n x c kinds.DeviceReady o none = none_engine draw n x c o none
none_answer draw n x c (kinds.File cid answer) o none = none_engine draw n x c o none
none_answer draw n x c (kinds.Line bytes) o none = none_engine draw n x c o none
none_answer draw n x c kinds.Tick o none = none_engine draw n x c o none
none_answer draw n x c kinds.Halt o none = none_engine draw n x c o none

none_answer_for : (draw : Draw) (kind : Kind) (n : ℕ) (c : Course) (o : Option Client) → KeepsNone c (engine.answer_for draw kind n c o)
none_answer_for draw kind n c None none = none
none_answer_for draw kind n c (Some x) none = none_answer draw n x c kind (engine_came kind c.table.moment x.session) none

-- an answer that is for a client is no refusal
pub answering_is_no_refusal : (draw : Draw) (conn : Conn) (kind : Kind) (n : ℕ) (c : Course) → by_connection c.table conn ≡ Some n → c.effects ≡ []
    → is_refusal (outs (engine.engine_answered draw conn kind c)) ≡ false
unfolding engine.engine_answered
answering_is_no_refusal draw conn kind n c is fresh =
    ap (λ (o : Option ℕ). is_refusal (outs (engine.answer_at draw conn kind c o))) is
    ∙ no_refusal (engine.answer_for draw kind n c (client_here c.table n)) (none_answer_for draw kind n c (client_here c.table n) (none_begun c fresh))

-- ---- files

none_known : (draw : Draw) (n : ℕ) (file : Ccd) (c : Course) → KeepsNone c (engine.file_known draw n file c)
none_known draw n file c none =
    none_judged n (exchange.exchange draw n (engine.file_is n (Known file) c)) (none_exchange draw n (engine.file_is n (Known file) c) none)

none_accepted : (draw : Draw) (n : ℕ) (c : Course) (file : Ccd) (b : Bool) → KeepsNone c (engine.file_accepted draw n c file b)
none_accepted draw n c file true none = none_ended n _ c none
none_accepted draw n c file false none = none_known draw n file c none

none_read : (draw : Draw) (n : ℕ) (c : Course) (r : Result Ccd ConfigFault) → KeepsNone c (engine.file_read draw n c r)
none_read draw n c (Err fault) none = none_ended n _ c none
none_read draw n c (Ok file) none = none_accepted draw n c file file.disable none

none_missing : (draw : Draw) (n : ℕ) (c : Course) (b : Bool) → KeepsNone c (engine.file_missing draw n c b)
none_missing draw n c true none = none_known draw n no_ccd c none
none_missing draw n c false none = none_append c.effects _ none refl

none_lacking : (draw : Draw) (n : ℕ) (name : List ℕ) (c : Course) (b : Bool) → KeepsNone c (engine.file_lacking draw n name c b)
none_lacking draw n name c true none = none_ended n _ c none
none_lacking draw n name c false none = none_missing draw n c (bytes_eq name engine.default_name) none

none_given : (draw : Draw) (n : ℕ) (name : List ℕ) (c : Course) (answer : FileAnswer) → KeepsNone c (engine.file_given draw n name c answer)
none_given draw n name c (Held text) none = none_read draw n c (ccd text) none
none_given draw n name c Missing none = none_lacking draw n name c c.table.settings.exclusive none
none_given draw n name c Failed none = none_ended n _ c none

-- an answer that a client waits for is no refusal
pub filing_is_no_refusal : (draw : Draw) (id : Cid) (answer : FileAnswer) (c : Course) (x : Client) (name : List ℕ) → client_here c.table id.0 ≡ Some x → x.file ≡ Awaited name
    → c.effects ≡ [] → is_refusal (outs (engine.file_came draw id answer c)) ≡ false
unfolding engine.file_came
filing_is_no_refusal draw id answer c x name there waits fresh =
    ap (λ (o : Option Client). is_refusal (outs (engine.file_at draw id.0 answer c o))) there
    ∙ ap (λ (file : FileState). is_refusal (outs (engine.file_for draw id.0 answer c file))) waits
    ∙ no_refusal (engine.file_given draw id.0 name c answer) (none_given draw id.0 name c answer (none_begun c fresh))

-- ---- a connection that is down

pub down_is_no_refusal : (conn : Conn) (c : Course) (n : ℕ) → by_connection c.table conn ≡ Some n → c.effects ≡ [] → is_refusal (outs (engine.engine_is_down conn c)) ≡ false
unfolding engine.engine_is_down
down_is_no_refusal conn c n is fresh =
    ap (λ (o : Option ℕ). is_refusal (outs (engine.down_at conn c o))) is
    ∙ no_refusal (ended n EngineDown c) (none_ended n EngineDown c (none_begun c fresh))
