-- The ports of a packet: the first four bytes of its transport header.
use Rattle.std.specs.Prelude.{ℕ, List, Bool, ◌+◌, ◌==◌, ◌&&◌, ◌||◌, length, not, nat_lt, if◌then◌else◌}
use Rattle.header_core.specs.Fields.{be16_at}
use Rattle.header_core.specs.declared.header.Ports.{Ports}
use Rattle.header_core.specs.declared.header.Ports.TheVariants as ports
use Rattle.header_core.specs.declared.ports.PortPair.{PortPair}

-- A source port and a destination port stand first in TCP (RFC 9293, section 3.1), UDP (RFC 768), DCCP (RFC 4340,
-- section 5.1), SCTP (RFC 9260, section 3) and UDP-Lite (RFC 3828, section 3). ESP has its index of security parameters
-- there (RFC 4303, section 2), which a caller may take for them.
abbrev pub begins_with_ports : ℕ → Bool → Bool
begins_with_ports proto esp_spi =
    (proto == 6) || (proto == 17) || (proto == 33) || (proto == 132) || (proto == 136) || ((proto == 50) && esp_spi)

abbrev pub without_ports : Ports → PortPair
without_ports kind = record { kind = kind; sport = 0; dport = 0 }

-- the ports of a protocol whose header begins at a byte, in a packet of that length
unfoldable pub ports_at : List ℕ → ℕ → ℕ → ℕ → Bool → PortPair
ports_at bytes proto at len esp_spi =
    if not (begins_with_ports proto esp_spi) then without_ports ports.Absent
    else if nat_lt len (at + 4) then without_ports ports.Beyond
    else if nat_lt (length bytes) (at + 4) then without_ports ports.Cut
    else record { kind = ports.Found; sport = be16_at bytes at; dport = be16_at bytes (at + 2) }
