-- Messages that are seen where their texts lie.
use Rattle.key_method2.specs.declared.message.Km2.{Km2}
use Rattle.key_method2.specs.declared.message.Km2View.{Km2View}
use Rattle.key_method2.specs.declared.message.Km2Read.{Km2Read}
use Rattle.key_method2.specs.declared.message.Km2Read.TheVariants as read
use Rattle.key_method2.specs.declared.message.Km2ViewRead.{Km2ViewRead}
use Rattle.key_method2.specs.declared.message.Km2ViewRead.TheVariants.{Whole, More, Bad}

-- a message without where its texts lie
abbrev pub message_seen : Km2View → Km2
message_seen seen = record { source = seen.source; options = seen.options.now; user = seen.user.now; pass = seen.pass.now; info = seen.info.now }

-- what reading gives, without where the texts lie
abbrev pub read_seen : Km2ViewRead → Km2Read
read_seen (Whole seen used) = read.Whole (message_seen seen) used
read_seen More = read.More
read_seen (Bad place kind) = read.Bad place kind
