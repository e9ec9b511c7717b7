-- Parts of a push reply, taken one after another until they are whole (OpenVPN 2.6, src/openvpn/push.c,
-- process_incoming_push_msg).
use Rattle.std.specs.Prelude.{◌≡◌, ℕ, ◌==◌, ◌&&◌, not, is_none, Bool, false, List, [], ◌∷◌, ◌++◌, codes, Option, Some, None, unwrap_or, Result, Ok, Err, if◌then◌else◌}
use Rattle.std.specs.List.{list_all, slice_split}
use Rattle.vpn_base.specs.declared.address.Ip4.{Ip4}
use Rattle.vpn_base.specs.declared.errors.Or.{Or}
use Rattle.vpn_base.specs.declared.errors.Or.TheVariants.{Memory, Why}
use Rattle.vpn_base.specs.declared.names.Cipher.{Cipher}
use Rattle.vpn_base.specs.declared.names.Policy.{Policy}
use Rattle.vpn_base.specs.Network.{Network}
use Rattle.push_options.specs.declared.collector.Pushed.{Pushed}
use Rattle.push_options.specs.declared.collector.PushFault.{PushFault}
use Rattle.push_options.specs.declared.received.Meaning.{Meaning}
use Rattle.push_options.specs.declared.received.Meaning.TheVariants as options
use Rattle.push_options.specs.Received.{received, words_in}

-- what the options so far say; of one that repeats the last one counts, but each route does
pub record Collected : Type 0 where
  pub address : Option (Ip4 × ℕ)
  pub gateway : Option Ip4
  pub routes : List Network
  pub ping : ℕ
  pub ping_restart : ℕ
  pub peer : Option ℕ
  pub cipher : Option Cipher
  pub rest : List (List ℕ)

-- no options
abbrev pub nothing : Collected
nothing = record { address = None; gateway = None; routes = []; ping = 0; ping_restart = 0; peer = None; cipher = None; rest = [] }

-- with what one more option says; one of another name stays unread
abbrev pub with_meaning : Collected → List ℕ → Meaning → Collected
with_meaning c option (options.Address a len) = record c { address = Some (a, len) }
with_meaning c option (options.Peer n) = record c { peer = Some n }
with_meaning c option (options.Cipher cipher) = record c { cipher = Some cipher }
with_meaning c option (options.Gateway a) = record c { gateway = Some a }
with_meaning c option (options.Route network) = record c { routes = c.routes ++ network ∷ [] }
with_meaning c option (options.Ping n) = record c { ping = n }
with_meaning c option (options.PingRestart n) = record c { ping_restart = n }
with_meaning c option (options.Continuation more) = c
with_meaning c option options.Nothing = c
with_meaning c option options.Unread = record c { rest = c.rest ++ option ∷ [] }

-- the first of some words
abbrev pub first_of : List (List ℕ) → List ℕ
first_of [] = []
first_of (word ∷ words) = word

-- the same where it may be refused: the fault has its first word
abbrev pub with_known : Collected → List ℕ → Option Meaning → Result Collected PushFault
with_known c option None = Err (record { option = first_of (words_in option) })
with_known c option (Some meaning) = Ok (with_meaning c option meaning)

-- with one more option
abbrev pub with_one : Policy → Collected → List ℕ → Result Collected PushFault
with_one ours c option = with_known c option (received ours (words_in option))

-- what follows where nothing was refused
abbrev pub and_then : {A B : Type 0} → Result A PushFault → (A → Result B PushFault) → Result B PushFault
and_then (Ok a) more = more a
and_then (Err fault) more = Err fault

-- with some more options, or the fault of the first that is refused
unfoldable pub with_all : Policy → Collected → List (List ℕ) → Result Collected PushFault
with_all ours c [] = Ok c
with_all ours c (option ∷ options) = and_then (with_one ours c option) (λ next. with_all ours next options)

-- what an option says of more parts, if it does
abbrev pub mark_of : Option Meaning → Option Bool
mark_of (Some (options.Continuation more)) = Some more
mark_of _ = None

-- whether more parts follow one of these options: the last mark counts
unfoldable pub is_continued : Policy → Bool → List (List ℕ) → Bool
is_continued ours more [] = more
is_continued ours more (option ∷ options) = is_continued ours (unwrap_or (mark_of (received ours (words_in option))) more) options

-- what stands behind the first comma of a part, by its commas
abbrev pub behind_first : List (List ℕ) → List (List ℕ)
behind_first [] = []
behind_first (first ∷ options) = options

-- the options of a part
abbrev pub options_in : List ℕ → List (List ℕ)
options_in part = behind_first (slice_split (λ c. c == 44) part)

-- an option that every reply has is absent
abbrev pub lacks : List ℕ → Result Pushed PushFault
lacks name = Err (record { option = name })

-- what a whole reply pushes, where it has an address, a peer id and a cipher
abbrev pub pushed_with : Collected → Option (Ip4 × ℕ) → Option ℕ → Option Cipher → Result Pushed PushFault
pushed_with c None peer cipher = lacks (codes "ifconfig")
pushed_with c (Some address) None cipher = lacks (codes "peer-id")
pushed_with c (Some address) (Some peer) None = lacks (codes "cipher")
pushed_with c (Some address) (Some peer) (Some cipher) = Ok (record {
  address = address.0;
  len = address.1;
  gateway = c.gateway;
  routes = c.routes;
  ping = c.ping;
  ping_restart = c.ping_restart;
  peer = peer;
  cipher = cipher;
  rest = c.rest;
})

-- what a whole reply of these options pushes
abbrev pub pushed : Collected → Result Pushed PushFault
pushed c = pushed_with c c.address c.peer c.cipher

-- what is pushed is there
abbrev pub some_pushed : Pushed → Result (Option Pushed) PushFault
some_pushed p = Ok (Some p)

-- what a part answers: nothing where more parts follow
abbrev pub answer_with : Bool → Result Collected PushFault → Result (Option Pushed) PushFault
answer_with more (Err fault) = Err fault
answer_with more (Ok c) = if more then Ok None else and_then (pushed c) some_pushed

-- the answer to a part
abbrev pub answer : Policy → Collected → List ℕ → Result (Option Pushed) PushFault
answer ours c part = answer_with (is_continued ours false (options_in part)) (with_all ours c (options_in part))

-- what is kept: nothing behind a fault, and behind the last part
abbrev pub kept_with : Bool → Result Collected PushFault → Collected
kept_with more (Err fault) = nothing
kept_with more (Ok c) = if more then c else nothing

-- what is kept behind a part
abbrev pub kept : Policy → Collected → List ℕ → Collected
kept ours c part = kept_with (is_continued ours false (options_in part)) (with_all ours c (options_in part))

-- what a call that answers this leaves: want of memory all of it, and a refusal nothing
abbrev pub IsLeft : Or PushFault → Collected → Collected → Type 0
IsLeft Memory before after = after ≡ before
IsLeft (Why fault) before after = after ≡ nothing

-- an answer, unless it waits for more parts
abbrev pub unless_waits : Result (Option Pushed) PushFault → Result (Option Pushed) PushFault → Result (Option Pushed) PushFault
unless_waits (Err fault) later = Err fault
unless_waits (Ok (Some p)) later = Ok (Some p)
unless_waits (Ok None) later = later

-- what parts answer, one behind another: the first answer that does not wait for more
unfoldable pub collected : Policy → Collected → List (List ℕ) → Result (Option Pushed) PushFault
collected ours c [] = Ok None
collected ours c (part ∷ parts) = unless_waits (answer ours c part) (collected ours (kept ours c part) parts)

-- an option with no comma that says nothing of more parts
abbrev pub is_plain : Policy → List ℕ → Bool
is_plain ours option = list_all (λ c. not (c == 44)) option && is_none (mark_of (received ours (words_in option)))

-- what options push, all together
abbrev pub pushed_by : Policy → List (List ℕ) → Result (Option Pushed) PushFault
pushed_by ours options = answer_with false (with_all ours nothing options)
