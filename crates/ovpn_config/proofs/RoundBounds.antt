-- The settings of a file are within their bounds.
use Rattle.std.proofs.Common.{◌≡◌, ℕ, zero, suc, ◌≤◌, true, List, [], ◌∷◌, refl, sym, subst, arith}
use Rattle.std.specs.Prelude.{Option, Some, None, Result, Ok, Err, nat_le, IsTrue, IfOk, IfSome, All}
use Rattle.std.proofs.lemmas.Bool.Decides.{nat_tests}
use Rattle.vpn_base.specs.declared.names.Role.{Role}
use Rattle.vpn_base.specs.declared.names.Role.TheVariants.{Server, Client}
use Rattle.vpn_base.specs.declared.errors.Or.{Or}
use Rattle.vpn_base.specs.Answers.{Answers}
use Rattle.vpn_base.specs.declared.address.Addr.{Addr}
use Rattle.vpn_base.specs.declared.names.Cipher.TheVariants.{Aes128Gcm, Aes256Gcm}
use Rattle.vpn_base.specs.declared.names.Policy.{Policy}
use Rattle.vpn_base.specs.declared.names.Policy.TheVariants.{Choose, Fixed}
use Rattle.vpn_base.specs.Network.{Network}
use Rattle.vpn_text.specs.declared.config.ConfigFault.{ConfigFault}
use Rattle.vpn_text.specs.Quoted.{may_be_pushed}
use Rattle.ovpn_config.specs.declared.settings.Settings.{Settings}
use Rattle.config_directives.specs.declared.numbers.NumberDirective.TheVariants.{Port}
use Rattle.ovpn_config.specs.Bounds.{AreCiphers, AreSeconds, HasEnd, IsBounded, IsInRange, IsServerMask}
use Rattle.ovpn_config.specs.Reading.{settings}
use Rattle.ovpn_config.specs.internal.Laws.{Laws}
use Rattle.ovpn_config.proofs.CleanText.{and_true}
use Rattle.ovpn_config.proofs.RoundFacts.{AreTimes, Each, IsPolicy, IsPush, IsServerNetwork, Whole}
use Rattle.ovpn_config.proofs.RoundLawful.{IsPlace, OnSide, lawful}

le_of : (m n : ℕ) → nat_le m n ≡ true → m ≤ n
le_of m n is = grind (arith, nat_tests)

mask_of_server : (o : Option Network) → Each IsServerNetwork o → IfSome o IsServerMask
mask_of_server None each = tt
mask_of_server (Some n) each =
    let parts = and_true (nat_le 8 n.len) (nat_le n.len 30) each.1 in (le_of 8 n.len parts.0, le_of n.len 30 parts.1)

seconds_of : (o : Option (ℕ × ℕ)) → Each AreTimes o → IfSome o AreSeconds
seconds_of None each = tt
seconds_of (Some t) each = each

place_of : (o : Option Addr) → Each IsPlace o → IfSome o (λ (to : Addr). IsInRange Port to.port)
place_of None each = tt
place_of (Some to) each = each.1

ciphers_of : (policy : Policy) → IsPolicy policy → AreCiphers policy
ciphers_of (Choose first None) is = tt
ciphers_of (Choose Aes128Gcm (Some Aes128Gcm)) is = cc
ciphers_of (Choose Aes128Gcm (Some Aes256Gcm)) is = refl
ciphers_of (Choose Aes256Gcm (Some Aes128Gcm)) is = refl
ciphers_of (Choose Aes256Gcm (Some Aes256Gcm)) is = cc
ciphers_of (Fixed Aes128Gcm) is = cc
ciphers_of (Fixed Aes256Gcm) is = cc

pushes_of : (pushes : List (List ℕ)) → Whole IsPush pushes → All (λ text. IsTrue (may_be_pushed text)) pushes
pushes_of [] whole k d below = absurd (omega arith)
pushes_of (t ∷ pushes) whole zero d below = whole.0.1
pushes_of (t ∷ pushes) whole (suc k) d below = pushes_of pushes whole.1 k d (omega arith)

ends_of : (side : Role) (s : Settings) → OnSide side s → HasEnd side s
ends_of Server s on = on.0
ends_of Client s on = on.0

pub bounded : Laws → (text : List ℕ) (s : Settings) → settings text ≡ Ok s → IsBounded s
bounded laws text s read =
    let l = lawful laws text s read in
    let is = l.is in
    record {
      ends = subst (λ (r : Role). HasEnd r s) (sym is.role) (ends_of l.side s is.on_side);
      port = is.port;
      remote = place_of s.remote is.remote;
      net = mask_of_server s.net is.net;
      keepalive = seconds_of s.keepalive is.keepalive;
      max_clients = is.max_clients;
      pushes = pushes_of s.pushes is.pushes;
      ciphers = ciphers_of s.ciphers is.ciphers;
      reneg = (omega arith, is.reneg);
      tran = is.tran;
      hand = is.hand;
      timeout = is.timeout;
      win = (is.window.0, is.window.1);
      win_secs = is.window.2;
    }

-- what holds of the settings that are wanted holds of those that a call answers
pub of_answer : (P : Settings → Type 0) (result : Result Settings (Or ConfigFault)) (wanted : Result Settings ConfigFault) → Answers result wanted
    → ((s : Settings) → wanted ≡ Ok s → P s) → IfOk result P
of_answer P (Ok s) wanted answers holds = holds s answers
of_answer P (Err e) wanted answers holds = tt
