-- What holds of wrapped control packets whatever the keys: their lengths, and that each has one packet.
use Rattle.std.proofs.Common.{◌≡◌, ℕ, suc, ◌+◌, List, ◌++◌, length, get_or, take, drop, ap, sym, ◌∙◌, refl, arith}
use Rattle.std.proofs.lemmas.List.{append_assoc, length-append, take_at, drop_at}
use Rattle.std.proofs.lemmas.Nat.{from_be_bytes-to_be_bytes_4}
use Rattle.std.specs.Int.{w32, to_be_bytes, from_be_bytes}
use Rattle.sha2.proofs.Facts256.{length-sha256}
use Rattle.aes_core.specs.Field.{xor_bytes}
use Rattle.aes_core.specs.CounterMode.{key_stream}
use Rattle.aes_core.proofs.Laws.{length-xor_bytes, xor_bytes_twice}
use Rattle.hmac_kit.specs.Hmac.{hmac}
use Rattle.tls_crypt.specs.Wrapped.{Keys, header, tag, cipher_text, datagram, wrapped}
use Rattle.tls_crypt.specs.Packets.{IsFramed, IsOneToOne}

-- a header has 17 bytes
pub length-header : (first : ℕ) (sid : List ℕ) (id time : ℕ) → length sid ≡ 8 → length (header first sid id time) ≡ 17
unfolding header
length-header first sid id time size =
    ap suc (length-append (sid ++ to_be_bytes w32 id) (to_be_bytes w32 time) ∙ ap (λ (n : ℕ). n + 4) (length-append sid (to_be_bytes w32 id) ∙ ap (λ (n : ℕ). n + 4) size))

-- and 9 more than its session id, whatever that has
length-header_of : (first : ℕ) (sid : List ℕ) (id time : ℕ) → length (header first sid id time) ≡ 9 + length sid
unfolding header
length-header_of first sid id time =
    omega (arith, length-append (sid ++ to_be_bytes w32 id) (to_be_bytes w32 time), length-append sid (to_be_bytes w32 id))

-- a tag has 32 bytes
pub length-tag : (keys : Keys) (front plain : List ℕ) → length (tag keys front plain) ≡ 32
unfolding tag hmac
length-tag keys front plain = length-sha256 _

-- a cipher text is as long as its plain text
pub length-cipher_text : (keys : Keys) (mac plain : List ℕ) → length (cipher_text keys mac plain) ≡ length plain
unfolding cipher_text
length-cipher_text keys mac plain = length-xor_bytes plain (key_stream keys.cipher (take 16 mac) (length plain))

-- enciphering twice gives the bytes back
pub cipher_text_twice : (keys : Keys) (mac plain : List ℕ) → cipher_text keys mac (cipher_text keys mac plain) ≡ plain
unfolding cipher_text
cipher_text_twice keys mac plain =
    let stream = key_stream keys.cipher (take 16 mac) in
    ap (λ (n : ℕ). xor_bytes (xor_bytes plain (stream (length plain))) (stream n)) (length-xor_bytes plain (stream (length plain)))
    ∙ xor_bytes_twice plain (stream (length plain))

-- a datagram begins with its header
pub datagram_front : (keys : Keys) (front plain : List ℕ) → length front ≡ 17 → take 17 (datagram keys front plain) ≡ front
unfolding datagram
datagram_front keys front plain size =
    ap (take 17) (append_assoc front (tag keys front plain) (cipher_text keys (tag keys front plain) plain)) ∙ take_at front _ 17 size

-- behind the header stand the tag and the cipher text
pub datagram_behind : (keys : Keys) (front plain : List ℕ) → length front ≡ 17 → drop 17 (datagram keys front plain) ≡ tag keys front plain ++ cipher_text keys (tag keys front plain) plain
unfolding datagram
datagram_behind keys front plain size =
    ap (drop 17) (append_assoc front (tag keys front plain) (cipher_text keys (tag keys front plain) plain)) ∙ drop_at front _ 17 size

-- the tag
pub datagram_tag : (keys : Keys) (front plain : List ℕ) → length front ≡ 17 → take 32 (drop 17 (datagram keys front plain)) ≡ tag keys front plain
datagram_tag keys front plain size =
    ap (take 32) (datagram_behind keys front plain size) ∙ take_at (tag keys front plain) _ 32 (length-tag keys front plain)

-- the cipher text
pub datagram_text : (keys : Keys) (front plain : List ℕ) → length front ≡ 17 → drop 49 (datagram keys front plain) ≡ cipher_text keys (tag keys front plain) plain
unfolding datagram
datagram_text keys front plain size =
    drop_at (front ++ tag keys front plain) _ 49 (length-append front (tag keys front plain) ∙ ap (λ (n : ℕ). n + length (tag keys front plain)) size ∙ ap (λ (n : ℕ). 17 + n) (length-tag keys front plain))

-- the plain text of a datagram: its cipher text, enciphered once more under its tag
pub datagram_plain : (keys : Keys) (front plain : List ℕ) → length front ≡ 17 → cipher_text keys (take 32 (drop 17 (datagram keys front plain))) (drop 49 (datagram keys front plain)) ≡ plain
datagram_plain keys front plain size =
    ap (λ (mac : List ℕ). cipher_text keys mac (drop 49 (datagram keys front plain))) (datagram_tag keys front plain size)
    ∙ ap (cipher_text keys (tag keys front plain)) (datagram_text keys front plain size)
    ∙ cipher_text_twice keys (tag keys front plain) plain

-- a wrapped datagram begins with its header, and has 32 bytes more than the header and the plain text
pub framed : (keys : Keys) → IsFramed (wrapped keys)
unfolding datagram
framed keys first sid id time plain =
    let front = header first sid id time in
    let mac = tag keys front plain in
    let text = cipher_text keys mac plain in
    let size = length-header_of first sid id time in (
      ap (take (9 + length sid)) (append_assoc front mac text) ∙ take_at front (mac ++ text) (9 + length sid) size,
      omega (arith, size, length-tag keys front plain, length-cipher_text keys mac plain, length-append front mac, length-append (front ++ mac) text),
    )

-- the session id of a header
pub header_sid : (first : ℕ) (sid : List ℕ) (id time : ℕ) → length sid ≡ 8 → take 8 (drop 1 (header first sid id time)) ≡ sid
unfolding header
header_sid first sid id time size =
    ap (take 8) (append_assoc sid (to_be_bytes w32 id) (to_be_bytes w32 time)) ∙ take_at sid _ 8 size

-- the packet id
pub header_id : (first : ℕ) (sid : List ℕ) (id time : ℕ) → length sid ≡ 8 → take 4 (drop 9 (header first sid id time)) ≡ to_be_bytes w32 id
unfolding header
header_id first sid id time size =
    ap (λ (l : List ℕ). take 4 (drop 8 l)) (append_assoc sid (to_be_bytes w32 id) (to_be_bytes w32 time)) ∙ ap (take 4) (drop_at sid (to_be_bytes w32 id ++ to_be_bytes w32 time) 8 size)

-- the time
pub header_time : (first : ℕ) (sid : List ℕ) (id time : ℕ) → length sid ≡ 8 → drop 13 (header first sid id time) ≡ to_be_bytes w32 time
unfolding header
header_time first sid id time size =
    drop_at (sid ++ to_be_bytes w32 id) (to_be_bytes w32 time) 12 (length-append sid (to_be_bytes w32 id) ∙ ap (λ (n : ℕ). n + 4) size)

-- the first byte
pub header_first : (first : ℕ) (sid : List ℕ) (id time : ℕ) → get_or (header first sid id time) 0 0 ≡ first
unfolding header
header_first first sid id time = refl

-- no two packets wrap to one datagram
pub one_packet : (keys : Keys) → IsOneToOne (wrapped keys)
one_packet keys p q p_fits q_fits same =
    let p_front = header p.first p.sid p.id p.time in
    let q_front = header q.first q.sid q.id q.time in
    let p_size = length-header p.first p.sid p.id p.time p_fits.sid in
    let q_size = length-header q.first q.sid q.id q.time q_fits.sid in
    let fronts : p_front ≡ q_front =
    sym (datagram_front keys p_front p.plain p_size) ∙ ap (take 17) same ∙ datagram_front keys q_front q.plain q_size in
    let plains : p.plain ≡ q.plain =
    sym (datagram_plain keys p_front p.plain p_size)
    ∙ ap (λ (d : List ℕ). cipher_text keys (take 32 (drop 17 d)) (drop 49 d)) same
    ∙ datagram_plain keys q_front q.plain q_size in
    let firsts : p.first ≡ q.first =
    sym (header_first p.first p.sid p.id p.time) ∙ ap (λ (h : List ℕ). get_or h 0 0) fronts ∙ header_first q.first q.sid q.id q.time in
    let sids : p.sid ≡ q.sid =
    sym (header_sid p.first p.sid p.id p.time p_fits.sid) ∙ ap (λ (h : List ℕ). take 8 (drop 1 h)) fronts ∙ header_sid q.first q.sid q.id q.time q_fits.sid in
    let id_bytes =
    sym (header_id p.first p.sid p.id p.time p_fits.sid) ∙ ap (λ (h : List ℕ). take 4 (drop 9 h)) fronts ∙ header_id q.first q.sid q.id q.time q_fits.sid in
    let time_bytes =
    sym (header_time p.first p.sid p.id p.time p_fits.sid) ∙ ap (drop 13) fronts ∙ header_time q.first q.sid q.id q.time q_fits.sid in
    let ids : p.id ≡ q.id =
    sym (from_be_bytes-to_be_bytes_4 p.id p_fits.id) ∙ ap (from_be_bytes w32) id_bytes ∙ from_be_bytes-to_be_bytes_4 q.id q_fits.id in
    let times : p.time ≡ q.time =
    sym (from_be_bytes-to_be_bytes_4 p.time p_fits.time) ∙ ap (from_be_bytes w32) time_bytes ∙ from_be_bytes-to_be_bytes_4 q.time q_fits.time in
    λ i. record { first = firsts i; sid = sids i; id = ids i; time = times i; plain = plains i }
