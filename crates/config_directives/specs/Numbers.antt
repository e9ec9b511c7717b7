-- The directives of one number (OpenVPN 2.6, openvpn(8)): what this profile takes of each, and the number
-- that counts where the directive is not given.
use Rattle.config_directives.specs.declared.numbers.NumberDirective.{NumberDirective}
use Rattle.config_directives.specs.declared.numbers.NumberDirective.TheVariants as numbers
use Rattle.config_directives.specs.declared.numbers.NumberRange.{NumberRange}

-- the range of each: a port, clients, then seconds
abbrev pub range_of : NumberDirective → NumberRange
range_of numbers.Port = record { low = 1; high = 65535; otherwise = 1194 }
range_of numbers.MaxClients = record { low = 1; high = 4096; otherwise = 1024 }
range_of numbers.RenegSec = record { low = 0; high = 1000000; otherwise = 3600 }
range_of numbers.TranWindow = record { low = 1; high = 1000000; otherwise = 3600 }
range_of numbers.HandWindow = record { low = 1; high = 1000000; otherwise = 60 }
range_of numbers.TlsTimeout = record { low = 1; high = 60; otherwise = 2 }
