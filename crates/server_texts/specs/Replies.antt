-- The push reply to a client, before it is known which cipher the keys of the client have.
use Rattle.std.specs.Prelude.{◌≡◌, ℕ, ◌+◌, max, List, [], ◌∷◌, ◌++◌, length, map}
use Rattle.vpn_base.specs.declared.names.Cipher.{Cipher}
use Rattle.vpn_base.specs.declared.names.Cipher.TheVariants.{Aes128Gcm, Aes256Gcm}
use Rattle.ccd_files.specs.declared.client_file.Ccd.{Ccd}
use Rattle.ovpn_config.specs.declared.settings.Settings.{Settings}
use Rattle.push_options.specs.Options.{Plan, options_of}
use Rattle.push_options.specs.Parts.{reply_parts}
use Rattle.server_table.specs.Establishing.{Leased, gateway}

-- what is pushed to a client with this file, peer id, cipher and address
abbrev pub plan_for : Settings → Ccd → ℕ → Cipher → Leased → Plan
plan_for s file peer cipher a = record {
  pushes = s.pushes;
  reset = file.reset;
  gateway = gateway s;
  keepalive = s.keepalive;
  own = file.pushes;
  address = a.0;
  len = a.1;
  peer = peer;
  cipher = cipher;
}

-- a part as it is written: a NUL stands behind it
abbrev pub with_nul : List ℕ → List ℕ
with_nul part = part ++ 0 ∷ []

-- the texts of a reply in order: each of its parts as it is written
unfoldable pub texts_of : Plan → List (List ℕ)
texts_of p = map with_nul (reply_parts (options_of p))

-- the texts of a reply for either cipher
pub record Replies : Type 0 where
  pub with_128 : List (List ℕ)
  pub with_256 : List (List ℕ)

-- of these the texts for this cipher
abbrev pub texts_with : Replies → Cipher → List (List ℕ)
texts_with r Aes128Gcm = r.with_128
texts_with r Aes256Gcm = r.with_256

-- for each cipher they are the reply to a client with this file, peer id and address
abbrev pub AreRepliesTo : Settings → Ccd → ℕ → Leased → Replies → Type 0
AreRepliesTo s file peer a r = (cipher : Cipher) → texts_with r cipher ≡ texts_of (plan_for s file peer cipher a)

-- how many bytes these texts have together
abbrev pub text_bytes : List (List ℕ) → ℕ
text_bytes [] = 0
text_bytes (text ∷ texts) = length text + text_bytes texts

-- how many effects writing the reply takes, whichever the cipher is
abbrev pub reply_effects : Replies → ℕ
reply_effects r = max (length r.with_128) (length r.with_256)

-- how many bytes it takes, whichever the cipher is
abbrev pub reply_bytes : Replies → ℕ
reply_bytes r = max (text_bytes r.with_128) (text_bytes r.with_256)
