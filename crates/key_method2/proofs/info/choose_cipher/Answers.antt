use Rattle.std.proofs.Common.{false, ap, sym}
use Rattle.std.specs.Option.{option_map_or}
use Rattle.vpn_base.specs.CipherName.{cipher_name}
use Rattle.key_method2.specs.Info.{is_named, offers}
use Rattle.key_method2.proofs.Names.{never_found}
use Rattle.key_method2.proofs.info.choose_cipher.Goals as goal

pub returns-in-None : goal.returns-in-None
unfolding offers
returns-in-None c = sym (never_found (offers c.args.info.now) (λ cipher. ap (λ names. option_map_or (is_named (cipher_name cipher)) names false) (sym c.in-None.ensures)) c.args.ours.now)
