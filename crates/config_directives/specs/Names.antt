-- Names that are not in the table of directives: those for the TLS engine, those without effect, those that are refused, and those of blocks.
use Rattle.std.specs.Prelude.{ℕ, Bool, List, [], ◌∷◌, ◌||◌, codes, bytes_eq}
use Rattle.std.specs.List.{list_any}

-- whether the name is one of these
abbrev pub is_among : List (List ℕ) → List ℕ → Bool
is_among names name = list_any (λ known. bytes_eq name known) names

-- the names that are passed to the TLS engine unread
unfoldable pub engine_names : List (List ℕ)
engine_names =
    codes "ca" ∷ codes "cert" ∷ codes "key" ∷ codes "dh" ∷ codes "remote-cert-tls" ∷ codes "verify-x509-name"
    ∷ codes "tls-version-min" ∷ codes "crl-verify" ∷ codes "tls-cipher" ∷ codes "tls-ciphersuites" ∷ []

-- the names that are accepted without effect: those of the process and its logs
unfoldable pub process_names : List (List ℕ)
process_names =
    codes "verb" ∷ codes "mute" ∷ codes "status" ∷ codes "log" ∷ codes "log-append" ∷ codes "daemon"
    ∷ codes "writepid" ∷ codes "user" ∷ codes "group" ∷ codes "persist-key" ∷ codes "persist-tun"
    ∷ codes "ifconfig-pool-persist" ∷ []

-- those of the session
unfoldable pub session_names : List (List ℕ)
session_names =
    codes "nobind" ∷ codes "resolv-retry" ∷ codes "float" ∷ codes "sndbuf" ∷ codes "rcvbuf" ∷ codes "cipher"
    ∷ codes "data-ciphers-fallback" ∷ codes "auth" ∷ codes "auth-nocache" ∷ codes "mute-replay-warnings"
    ∷ codes "pull" ∷ codes "tls-client" ∷ codes "tls-server" ∷ []

-- whether the name is accepted without effect
abbrev pub is_idle : List ℕ → Bool
is_idle name = is_among process_names name || is_among session_names name

-- the names that are refused: those of the tunnel's packets
unfoldable pub tunnel_names : List (List ℕ)
tunnel_names =
    codes "compress" ∷ codes "comp-lzo" ∷ codes "fragment" ∷ codes "mssfix" ∷ codes "tun-mtu" ∷ codes "tls-auth"
    ∷ codes "tls-crypt-v2" ∷ codes "secret" ∷ codes "explicit-exit-notify" ∷ codes "server-bridge"
    ∷ codes "server-ipv6" ∷ codes "multihome" ∷ []

-- those of what stands outside the tunnel
unfoldable pub outside_names : List (List ℕ)
outside_names =
    codes "auth-user-pass" ∷ codes "plugin" ∷ codes "up" ∷ codes "down" ∷ codes "script-security"
    ∷ codes "client-connect" ∷ codes "client-disconnect" ∷ codes "http-proxy" ∷ codes "socks-proxy" ∷ []

-- whether the name is refused
abbrev pub is_refused : List ℕ → Bool
is_refused name = is_among tunnel_names name || is_among outside_names name

-- the names of blocks
unfoldable pub block_names : List (List ℕ)
block_names = codes "tls-crypt" ∷ codes "ca" ∷ codes "cert" ∷ codes "key" ∷ codes "dh" ∷ []
