-- The keys of a session under key method 2 of the OpenVPN protocol, by the PRF of TLS 1.0.
use Rattle.std.specs.Prelude.{ℕ, List, ◌++◌, codes}
use Rattle.hmac_kit.specs.Prf.{prf_bytes}

-- the master secret of 48 bytes: the client's random before the server's
unfoldable pub master_secret : List ℕ → List ℕ → List ℕ → List ℕ
master_secret pre client1 server1 = prf_bytes pre (codes "OpenVPN master secret") (client1 ++ server1) 48

-- the block of 256 bytes that all keys are cut from: the client's random before the server's, then the
-- client's session id before the server's
unfoldable pub key_block : List ℕ → List ℕ → List ℕ → List ℕ → List ℕ → List ℕ
key_block secret client2 server2 client_sid server_sid =
    prf_bytes secret (codes "OpenVPN key expansion") (client2 ++ server2 ++ client_sid ++ server_sid) 256
