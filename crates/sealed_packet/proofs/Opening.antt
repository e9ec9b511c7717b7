-- What opens in the steps of opening.
use Rattle.std.proofs.Common.{◌≡◌, ℕ, ◌-◌, ◌^◌, ◌<◌, ◌≤◌, List, ◌++◌, length, take, drop, subst, sym, ap, ◌∙◌, arith}
use Rattle.std.proofs.lemmas.List.{append-nil, drop_at, drop_all, length-drop, length-take-le, take-append-drop}
use borrow.Rule.Slice.PartMut.{put_mid}
use Rattle.gcm_seal.specs.Sealed.{Sealed}
use Rattle.opcode_codec.specs.DataPacket.{DataForm, IsData, data_head, data_packet}
use Rattle.sealed_packet.specs.SealedPacket.{Opens, Sealing, form, nonce, packet, peer_in, sealed_inner}
use Rattle.sealed_packet.proofs.Parts.{readable, peer_read}

-- the same inner packet under equal names of its parts
pub same_sealed : (sealed : Sealing) (implicit : List ℕ) (kid peer id : ℕ) (inner n aad : List ℕ) →
    n ≡ nonce implicit id → aad ≡ data_head kid peer id → sealed n aad inner ≡ sealed_inner sealed implicit kid peer id inner
same_sealed sealed implicit kid peer id inner n aad is_nonce is_head =
    ap (λ (m : List ℕ). sealed m aad inner) is_nonce ∙ ap (λ (h : List ℕ). sealed (nonce implicit id) h inner) is_head

-- what opens is authentic, under the fields that stand in it
pub authentic : (sealed : Sealing) (implicit : List ℕ) (f : DataForm) (datagram inner n aad : List ℕ) → IsData f → datagram ≡ data_packet f →
    n ≡ nonce implicit f.id → aad ≡ data_head f.kid f.peer f.id → sealed n aad inner ≡ record { text = f.sealed; tag = f.tag } →
    Opens sealed implicit f.kid datagram f.id inner
unfolding packet
authentic sealed implicit f datagram inner n aad fits is is_nonce is_head opened =
    let peer : peer_in datagram ≡ f.peer = ap peer_in is ∙ peer_read f (readable f fits) in
    let same : sealed_inner sealed implicit f.kid f.peer f.id inner ≡ record { text = f.sealed; tag = f.tag } =
    sym (same_sealed sealed implicit f.kid f.peer f.id inner n aad is_nonce is_head) ∙ opened in
    record {
      peer_fits = subst (λ (p : ℕ). p < 2 ^ 24) (sym peer) fits.peer;
      id_fits = fits.id;
      is_packet =
          subst (λ (p : ℕ). datagram ≡ packet sealed implicit f.kid p f.id inner) (sym peer)
          (is ∙ sym (ap (λ (s : Sealed). data_packet (form f.kid f.peer f.id s)) same));
    }

-- ---- the bytes from 24 on

pub opened_part : (datagram inner : List ℕ) (n : ℕ) → 24 ≤ length datagram → n ≡ length datagram - 24 → drop 24 (put_mid 24 n datagram inner) ≡ inner
opened_part datagram inner n long is =
    drop_at (take 24 datagram) (inner ++ drop n (drop 24 datagram)) 24 (length-take-le 24 datagram long)
    ∙ ap (λ (t : List ℕ). inner ++ t) (drop_all n (drop 24 datagram) (omega (arith, length-drop 24 datagram))) ∙ append-nil inner

pub unchanged_part : (datagram part : List ℕ) (n : ℕ) → n ≡ length datagram - 24 → 24 ≤ length datagram → part ≡ drop 24 datagram →
    put_mid 24 n datagram part ≡ datagram
unchanged_part datagram part n is long same =
    ap (λ (t : List ℕ). take 24 datagram ++ (part ++ t)) (drop_all n (drop 24 datagram) (omega (arith, length-drop 24 datagram)))
    ∙ ap (λ (t : List ℕ). take 24 datagram ++ t) (append-nil part ∙ same) ∙ take-append-drop 24 datagram
