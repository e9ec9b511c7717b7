-- Written numbers, addresses and networks, read as arguments again.
use Rattle.std.proofs.Common.{◌≡◌, ℕ, suc, zero, ◌+◌, ◌-◌, ◌*◌, ◌%◌, ◌^◌, ◌<◌, ◌≤◌, ◌==◌, ◌&&◌, Bool, true, false, cond, List, [], ◌∷◌, refl, ap, subst, ◌∙◌, arith}
use Rattle.std.specs.Prelude.{Option, Some, None, decimal, nat_le}
use Rattle.std.specs.List.{slice_split}
use Rattle.std.proofs.lemmas.Bool.Decides.{nat_tests}
use Rattle.vpn_base.specs.declared.address.Ip4.{Ip4}
use Rattle.vpn_base.specs.Network.{Network, network_from}
use Rattle.vpn_base.specs.Number.{number_of, is_decimal, value_behind}
use Rattle.vpn_base.specs.Address.{ip4_of, ip4_text, of_parts, address_of}
use Rattle.vpn_text.specs.Mask.{length_of, length_upto, mask_number, mask_of, mask_text, masked_network}
use Rattle.config_directives.specs.Arguments.{if_passes, number_in}
use Rattle.ovpn_config.specs.internal.Laws.{Laws}

-- a number in its range is read again
passes_le : (low n : ℕ) → low ≤ n → if_passes (nat_le low) (Some n) ≡ Some n
passes_le low n within = grind (arith, nat_tests)

pub number_again : Laws → (low high n : ℕ) → low ≤ n → n ≤ high → high < 2 ^ 64 → number_in low high (decimal n) ≡ Some n
number_again laws low high n above below small =
    ap (if_passes (nat_le low)) (laws.decimals high n below (omega arith)) ∙ passes_le low n above

-- a number that is read is in its range
most_when : (b c : Bool) (n v most : ℕ) → nat_le v most ≡ c → cond (b && c) (Some v) None ≡ Some n → n ≤ most
most_when true true n v most is read = grind (arith, nat_tests)
most_when true false n v most is read = cc
most_when false c n v most is read = cc

pub number_most : (most n : ℕ) (text : List ℕ) → number_of most text ≡ Some n → n ≤ most
unfolding number_of
number_most most n text read = most_when (is_decimal text) (nat_le (value_behind 0 text) most) n (value_behind 0 text) most refl read

low_when : (b : Bool) (low m n : ℕ) → nat_le low m ≡ b → cond b (Some m) None ≡ Some n → (low ≤ n) × (m ≡ n)
low_when true low m n is read = (grind (arith, nat_tests), cc)
low_when false low m n is read = cc

in_when : (low high : ℕ) (text : List ℕ) (read : Option ℕ) (n : ℕ) → number_of high text ≡ read → if_passes (nat_le low) read ≡ Some n → (low ≤ n) × (n ≤ high)
in_when low high text None n is passes = cc
in_when low high text (Some m) n is passes =
    let low_is = low_when (nat_le low m) low m n refl passes in
    let most = number_most high m text is in
    (low_is.0, omega arith)

pub number_within : (low high n : ℕ) (text : List ℕ) → number_in low high text ≡ Some n → (low ≤ n) × (n ≤ high)
number_within low high n text read = in_when low high text (number_of high text) n refl read

-- what is in an option
abbrev number_or : Option Ip4 → ℕ
number_or None = 0
number_or (Some a) = a.0

abbrev network_or : Network → Option Network → Network
network_or n None = n
network_or n (Some m) = m

-- an address has 32 bits
small_of : (a b c d : Option ℕ) (r : Ip4) → ((n : ℕ) → a ≡ Some n → n ≤ 255) → ((n : ℕ) → b ≡ Some n → n ≤ 255)
    → ((n : ℕ) → c ≡ Some n → n ≤ 255) → ((n : ℕ) → d ≡ Some n → n ≤ 255) → address_of a b c d ≡ Some r → r.0 < 2 ^ 32
small_of (Some a) (Some b) (Some c) (Some d) r p q s t is =
    let e : a * 2 ^ 24 + b * 2 ^ 16 + c * 2 ^ 8 + d ≡ r.0 = ap number_or is in
    omega (arith, p a refl, q b refl, s c refl, t d refl)
small_of None b c d r p q s t is = cc
small_of (Some a) None c d r p q s t is = cc
small_of (Some a) (Some b) None d r p q s t is = cc
small_of (Some a) (Some b) (Some c) None r p q s t is = cc

small_parts : (parts : List (List ℕ)) (r : Ip4) → of_parts parts ≡ Some r → r.0 < 2 ^ 32
small_parts [] r is = cc
small_parts (a ∷ []) r is = cc
small_parts (a ∷ b ∷ []) r is = cc
small_parts (a ∷ b ∷ c ∷ []) r is = cc
small_parts (a ∷ b ∷ c ∷ d ∷ []) r is =
    small_of (number_of 255 a) (number_of 255 b) (number_of 255 c) (number_of 255 d) r (λ n e. number_most 255 n a e) (λ n e. number_most 255 n b e)
    (λ n e. number_most 255 n c e) (λ n e. number_most 255 n d e) is
small_parts (a ∷ b ∷ c ∷ d ∷ e ∷ more) r is = cc

pub address_small : (text : List ℕ) (a : Ip4) → ip4_of text ≡ Some a → a.0 < 2 ^ 32
unfolding ip4_of
address_small text a is = small_parts (slice_split (λ c. c == 46) text) a is

-- a mask has at most 32 bits
upto_when : (b : Bool) (len n : ℕ) (rest : Option ℕ) (r : ℕ) → ((m : ℕ) → rest ≡ Some m → m ≤ len) → cond b (Some (suc len)) rest ≡ Some r → r ≤ suc len
upto_when true len n rest r below is = let e : suc len ≡ r = cc in omega arith
upto_when false len n rest r below is = omega (arith, below r is)

zero_when : (b : Bool) (r : ℕ) → cond b (Some 0) None ≡ Some r → r ≤ 0
zero_when true r is = let e : 0 ≡ r = cc in omega arith
zero_when false r is = cc

upto_small : (len n r : ℕ) → length_upto len n ≡ Some r → r ≤ len
unfolding length_upto
upto_small zero n r is = zero_when (n == 0) r is
upto_small (suc len) n r is = upto_when (n == mask_number (suc len)) len n (length_upto len n) r (λ m e. upto_small len n m e) is

length_small : (a : Option Ip4) (len : ℕ) → length_of a ≡ Some len → len ≤ 32
length_small None len is = cc
length_small (Some a) len is = upto_small 32 a.0 len is

mask_most : (text : List ℕ) (len : ℕ) → mask_of text ≡ Some len → len ≤ 32
unfolding mask_of
mask_most text len is = length_small (ip4_of text) len is

-- a network that is read is written and read again
pub record IsRead (n : Network) : Type 0 where
  pub net : n.net.0 < 2 ^ 32
  pub len : n.len ≤ 32
  pub rest : n.net.0 % 2 ^ (32 - n.len) ≡ 0

eq_of : (m n : ℕ) (b : Bool) → (m == n) ≡ b → b ≡ true → m ≡ n
eq_of m n b is holds = grind (arith, nat_tests)

made_when : (b : Bool) (net : Ip4) (len : ℕ) (n : Network) → (net.0 % 2 ^ (32 - len) == 0) ≡ b → net.0 < 2 ^ 32 → len ≤ 32
    → cond b (Some (record { net = net; len = len })) None ≡ Some n → IsRead n
made_when true net len n is small short made =
    let e : record { net = net; len = len } ≡ n = ap (network_or n) made in
    subst IsRead e (record { net = small; len = short; rest = eq_of (net.0 % 2 ^ (32 - len)) 0 true is refl })
made_when false net len n is small short made = cc

network_when : (net : Option Ip4) (len : Option ℕ) (n : Network) → ((a : Ip4) → net ≡ Some a → a.0 < 2 ^ 32) → ((l : ℕ) → len ≡ Some l → l ≤ 32)
    → network_from net len ≡ Some n → IsRead n
network_when (Some net) (Some len) n small short made = made_when (net.0 % 2 ^ (32 - len) == 0) net len n refl (small net refl) (short len refl) made
network_when (Some net) None n small short made = cc
network_when None len n small short made = cc

pub network_read : (net mask : List ℕ) (n : Network) → masked_network net mask ≡ Some n → IsRead n
unfolding masked_network
network_read net mask n made = network_when (ip4_of net) (mask_of mask) n (λ a e. address_small net a e) (λ l e. mask_most mask l e) made

again_when : (n : Network) (m : ℕ) → m ≡ 0 → cond (m == 0) (Some n) None ≡ Some n
again_when n m none = grind (arith, nat_tests)

pub network_again : Laws → (n : Network) → IsRead n → masked_network (ip4_text n.net) (mask_text n.len) ≡ Some n
unfolding masked_network
network_again laws n read =
    ap (λ (a : Option Ip4). network_from a (mask_of (mask_text n.len))) (laws.addresses n.net read.net)
    ∙ ap (network_from (Some n.net)) (laws.masks n.len read.len)
    ∙ again_when n (n.net.0 % 2 ^ (32 - n.len)) read.rest
