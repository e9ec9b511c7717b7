-- The text of a key session is lent.
use Rattle.std.specs.Borrow.{Fml, Lends, MutBor, RattleType}
use Rattle.key_sessions.specs.declared.session.KeySession.{KeySession}
use Rattle.key_sessions.specs.contracts.session.KeySession.{the_row}

-- the session with another text
abbrev pub with_text : {T S : Type 0} → KeySession T S → T → KeySession T S
with_text k text = record k { text = text }

-- once the borrow ends, the session has the text that it shows last
abbrev pub LendsText : (T S : RattleType) → MutBor (KeySession T.Denot S.Denot) → MutBor T.Denot → Fml
LendsText T S k r = Lends (the_row T S) T k r (with_text k.now)
