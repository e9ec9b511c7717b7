-- Texts as the parts of a reply.
use Rattle.std.proofs.Common.{◌≡◌, ℕ, List, [], ◌∷◌, map, Result, Ok, Err, IfOk, refl, ap, subst, sym, ◌∙◌}
use Rattle.vpn_base.specs.declared.errors.NoMemory.{NoMemory}
use Rattle.vpn_base.specs.declared.names.Cipher.{Cipher}
use Rattle.vpn_base.specs.declared.names.Cipher.TheVariants.{Aes128Gcm, Aes256Gcm}
use Rattle.vpn_base.specs.declared.names.Conn.{Conn}
use Rattle.vpn_links.specs.Actions.{Action, EngineWrite}
use Rattle.ccd_files.specs.declared.client_file.Ccd.{Ccd}
use Rattle.ovpn_config.specs.declared.settings.Settings.{Settings}
use Rattle.push_options.specs.Options.{options_of}
use Rattle.push_options.specs.Parts.{reply_parts}
use Rattle.server_table.specs.Establishing.{Leased, ccd_in, client_cipher, reply, written}
use Rattle.server_table.specs.Table.{Client}
use Rattle.server_texts.specs.Replies.{AreRepliesTo, Replies, plan_for, texts_of, texts_with, with_nul}

-- texts for each of the two ciphers are texts for any
pub for_each_cipher : (s : Settings) (file : Ccd) (peer : ℕ) (a : Leased) (r : Replies)
    → r.with_128 ≡ texts_of (plan_for s file peer Aes128Gcm a) → r.with_256 ≡ texts_of (plan_for s file peer Aes256Gcm a)
    → AreRepliesTo s file peer a r
for_each_cipher s file peer a r fewer more Aes128Gcm = fewer
for_each_cipher s file peer a r fewer more Aes256Gcm = more

-- parts with their NUL are written as the parts are
written_texts : (conn : Conn) (parts : List (List ℕ)) → map (EngineWrite conn) (map with_nul parts) ≡ written conn parts
written_texts conn [] = refl
written_texts conn (part ∷ parts) = ap (λ (l : List Action). EngineWrite conn (with_nul part) ∷ l) (written_texts conn parts)

-- texts for the cipher of a client are the reply to it
pub reply_written : (s : Settings) (x : Client) (a : Leased) (conn : Conn) (cipher : Cipher) (r : Replies)
    → AreRepliesTo s (ccd_in x.file) x.peer_id a r → client_cipher x ≡ cipher → map (EngineWrite conn) (texts_with r cipher) ≡ reply s x a conn
unfolding reply texts_of
reply_written s x a conn cipher r are is =
    ap (λ (k : Cipher). map (EngineWrite conn) (texts_with r k)) (sym is)
    ∙ ap (map (EngineWrite conn)) (are (client_cipher x))
    ∙ written_texts conn (reply_parts (options_of (plan_for s (ccd_in x.file) x.peer_id (client_cipher x) a)))

-- what is made of such texts, where there is memory for it
pub replies_made : (P : Replies → Type 0) (result : Result Replies NoMemory) (r : Replies) → IfOk result (λ made. made ≡ r) → P r → IfOk result P
replies_made P (Ok made) r is holds = subst P (sym is) holds
replies_made P (Err e) r is holds = is
