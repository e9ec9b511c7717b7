-- What the steps of sealing write is the packet.
use Rattle.std.proofs.Common.{◌≡◌, ℕ, ◌+◌, ◌≤◌, List, ◌++◌, length, take, drop, sym, ap, ◌∙◌, append_assoc, arith}
use Rattle.std.proofs.lemmas.List.{take_at, drop_at, drop-drop, take-take, take-append-le, length-append, length-drop, length-take-le}
use Rattle.std.proofs.lemmas.Slice.{drop-append-drop}
use borrow.Rule.Slice.PartMut.{put_mid}
use Rattle.gcm_seal.specs.Sealed.{Sealed}
use Rattle.opcode_codec.specs.DataPacket.{data_head, data_packet}
use Rattle.sealed_packet.specs.SealedPacket.{Sealing, nonce, packet}

regrouped : (a b c d : List ℕ) → a ++ (b ++ (c ++ d)) ≡ (a ++ b ++ c) ++ d
regrouped a b c d = sym (simp append_assoc)

-- the front, the cipher text and the tag, each written to its place
pub placed : (out head text tag : List ℕ) (k n : ℕ) → k ≡ n → length head ≡ 8 → length text ≡ n → length tag ≡ 16 → 24 + n ≤ length out →
    put_mid 8 16 (put_mid 24 k (head ++ drop 8 out) text) tag ≡ (head ++ tag ++ text) ++ drop (24 + n) out
placed out head text tag k n is_k head_size text_size tag_size fits =
    let begun = head ++ drop 8 out in
    let begun_long : 24 ≤ length begun = omega (arith, length-append head (drop 8 out), length-drop 8 out) in
    let front_size : length (take 24 begun) ≡ 24 = length-take-le 24 begun begun_long in
    let behind : List ℕ = text ++ drop k (drop 24 begun) in
    let front : take 8 (take 24 begun ++ behind) ≡ head =
    take-append-le 8 (take 24 begun) behind (omega arith) ∙ take-take 8 24 begun (omega arith) ∙ take_at head (drop 8 out) 8 head_size in
    let back : drop 16 (drop 8 (take 24 begun ++ behind)) ≡ behind =
    drop-drop 16 8 (take 24 begun ++ behind) ∙ drop_at (take 24 begun) behind 24 front_size in
    let left : drop k (drop 24 begun) ≡ drop (24 + n) out =
    drop-drop k 24 begun ∙ ap (λ (m : ℕ). drop (24 + m) begun) is_k ∙ drop-append-drop 8 out head (24 + n) (omega arith) head_size in
    ap (λ (h : List ℕ). h ++ (tag ++ drop 16 (drop 8 (take 24 begun ++ behind)))) front
    ∙ ap (λ (b : List ℕ). head ++ (tag ++ b)) (back ∙ ap (λ (b : List ℕ). text ++ b) left)
    ∙ regrouped head tag text (drop (24 + n) out)

pub parts_size : (head tag text : List ℕ) (n : ℕ) → length head ≡ 8 → length tag ≡ 16 → length text ≡ n → length (head ++ tag ++ text) ≡ 24 + n
parts_size head tag text n head_size tag_size text_size = omega (arith, length-append (head ++ tag) text, length-append head tag)

-- the parts are the packet
pub is_packet : (sealed : Sealing) (implicit : List ℕ) (kid peer id : ℕ) (inner n head aad plain tag text : List ℕ) →
    n ≡ nonce implicit id → head ≡ data_head kid peer id → aad ≡ data_head kid peer id → plain ≡ inner →
    sealed n aad plain ≡ record { text = text; tag = tag } → head ++ tag ++ text ≡ packet sealed implicit kid peer id inner
unfolding packet data_packet
is_packet sealed implicit kid peer id inner n head aad plain tag text is_nonce is_head is_aad is_plain is_sealed =
    let aligned : sealed (nonce implicit id) (data_head kid peer id) inner ≡ record { text = text; tag = tag } =
    sym (ap (λ (m : List ℕ). sealed m aad plain) is_nonce ∙ ap (λ (h : List ℕ). sealed (nonce implicit id) h plain) is_aad
    ∙ ap (λ (p : List ℕ). sealed (nonce implicit id) (data_head kid peer id) p) is_plain) ∙ is_sealed in
    ap (λ (h : List ℕ). h ++ tag ++ text) is_head
    ∙ sym (ap (λ (s : Sealed). data_head kid peer id ++ s.tag ++ s.text) aligned)
