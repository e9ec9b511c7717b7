use Rattle.std.proofs.Common.{◌∙◌}
use Rattle.vpn_base.specs.declared.names.Cipher.TheVariants.{Aes128Gcm, Aes256Gcm}
use Rattle.server_table.specs.Establishing.{Leased}
use Rattle.server_texts.specs.Replies.{AreRepliesTo, plan_for}
use Rattle.server_texts.proofs.Spelled.{spelled_alike}
use Rattle.server_texts.proofs.Texts.{for_each_cipher, replies_made}
use Rattle.server_texts.proofs.replies.ReplyAhead.make.Goals as goal

pub returns : goal.returns
returns c =
    let a : Leased = (c.args.address, c.args.len) in
    let plan = plan_for c.args.settings.now c.args.file.now c.args.peer_id in
    replies_made (AreRepliesTo c.args.settings.now c.args.file.now c.args.peer_id a) _ _ c.of.ensures
    (for_each_cipher c.args.settings.now c.args.file.now c.args.peer_id a _
    (c.in_ok-with_128.ensures ∙ spelled_alike (plan Aes128Gcm a) c.gateway_of.result c.mask_len.result c.gateway_of.ensures c.mask_len.ensures.same)
    (c.in_ok-with_256.ensures ∙ spelled_alike (plan Aes256Gcm a) c.gateway_of.result c.mask_len.result c.gateway_of.ensures c.mask_len.ensures.same))
