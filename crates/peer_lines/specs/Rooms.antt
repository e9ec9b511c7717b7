-- The memory that a session's channels have taken ahead.
use Rattle.std.specs.Prelude.{ℕ, ◌-◌, ◌≤◌, vec_len, vec_capacity}
use Rattle.peer_lines.specs.declared.blank.SessionBlank.{SessionBlank}
use Rattle.peer_lines.specs.declared.channels.SessionChannels.{SessionChannels}

-- room for the payload of the next control packet, in bytes
unfoldable pub payload_room : SessionChannels → ℕ
payload_room c = c.link.receiving.spare

-- room for text for the other end, in pieces
unfoldable pub text_room : SessionChannels → ℕ
text_room c = c.link.sending.spare

-- room for plain text, in bytes
unfoldable pub plain_room : SessionChannels → ℕ
plain_room c = vec_capacity c.plain - vec_len c.plain

-- the length of the longest payload that it may hold, in bytes
unfoldable pub longest : SessionChannels → ℕ
longest c = c.longest

-- no room was given up
pub record KeepsRoom (before after : SessionChannels) : Type 0 where
  pub payload : payload_room before ≤ payload_room after
  pub text : text_room before ≤ text_room after
  pub plain : plain_room before ≤ plain_room after

-- what a blank has for the payload of the first control packet of the session that is to come, in bytes
unfoldable pub blank_room : SessionBlank → ℕ
blank_room b = b.link.receiving.spare
