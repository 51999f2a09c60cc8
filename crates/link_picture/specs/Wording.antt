-- Times, waits, rates and five-tuples as a picture writes them.
use Rattle.std.specs.Prelude.{ℕ, ◌/◌, ◌%◌, ◌==◌, Bool, List, ◌++◌, codes, nat_lt, if◌then◌else◌}
use Rattle.std.specs.Fmt.{decimal}
use Rattle.std.specs.Net.Addr.{segments_of}
use Rattle.std.specs.Net.Text.{ipv4_text, ipv6_text}
use Rattle.packet_core.specs.declared.packet.FiveTuple.{FiveTuple}
use Rattle.packet_core.specs.declared.packet.Ip.{Ip}
use Rattle.packet_core.specs.declared.packet.Ip.TheVariants.{V4, V6}

-- whether a step is a whole number in a unit
abbrev pub is_whole : ℕ → ℕ → Bool
is_whole unit step = step % unit == 0

-- A time of so many microseconds, in the greatest unit in which a step is a whole number. No time has no unit.
abbrev pub time_text : ℕ → ℕ → List ℕ
time_text time step =
    if time == 0 then codes "0"
    else if is_whole 1000000 step then (decimal (time / 1000000) ++ codes " s")
    else if is_whole 1000 step then (decimal (time / 1000) ++ codes " ms")
    else (decimal time ++ codes " us")

-- A duration of so many microseconds as a parameter's value, in the greatest unit in which it is whole.
abbrev pub duration_text : ℕ → List ℕ
duration_text time =
    if is_whole 1000000 time then (decimal (time / 1000000) ++ codes "s")
    else if is_whole 1000 time then (decimal (time / 1000) ++ codes "ms")
    else (decimal time ++ codes "us")

-- so many tenths of a unit: its whole number, a dot, and one digit
abbrev pub tenths_text : ℕ → List ℕ → List ℕ
tenths_text tenths unit = decimal (tenths / 10) ++ (codes "." ++ (decimal (tenths % 10) ++ (codes " " ++ unit)))

-- A wait of so many microseconds. From a millisecond on it is in milliseconds, and from a second on in seconds. It is
-- rounded down to whole tenths of these.
abbrev pub wait_text : ℕ → List ℕ
wait_text wait =
    if nat_lt wait 1000 then (decimal wait ++ codes " us")
    else if nat_lt wait 1000000 then tenths_text (wait / 100) (codes "ms")
    else tenths_text (wait / 100000) (codes "s")

-- A rate of so many bits a second, in the greatest unit in which a step is a whole number. No rate has no unit.
abbrev pub rate_text : ℕ → ℕ → List ℕ
rate_text rate step =
    if rate == 0 then codes "0"
    else if is_whole 1000000000 step then (decimal (rate / 1000000000) ++ codes " Gbit/s")
    else if is_whole 1000000 step then (decimal (rate / 1000000) ++ codes " Mbit/s")
    else if is_whole 1000 step then (decimal (rate / 1000) ++ codes " kbit/s")
    else (decimal rate ++ codes " bit/s")

-- A rate of so many bits per second, by the prefix of the greatest unit in which it is whole.
abbrev pub mark_rate_text : ℕ → List ℕ
mark_rate_text rate =
    if is_whole 1000000000 rate then (decimal (rate / 1000000000) ++ codes "G")
    else if is_whole 1000000 rate then (decimal (rate / 1000000) ++ codes "M")
    else if is_whole 1000 rate then (decimal (rate / 1000) ++ codes "k")
    else decimal rate

-- An address: four numbers with dots, or in brackets the text of RFC 5952. Of the numbers of two bytes each that has the
-- longest run of zeros as `::` (section 4).
abbrev pub address_label : Ip → List ℕ
address_label (V4 octets) = ipv4_text octets
address_label (V6 octets) = codes "[" ++ (ipv6_text (segments_of octets) ++ codes "]")

-- the name of a protocol, and its number where it has none here
abbrev pub protocol_text : ℕ → List ℕ
protocol_text protocol =
    if protocol == 1 then codes "icmp"
    else if protocol == 6 then codes "tcp"
    else if protocol == 17 then codes "udp"
    else if protocol == 58 then codes "icmpv6"
    else (codes "protocol " ++ decimal protocol)

-- a number, and where the packets of its five-tuple come from
abbrev pub source_text : ℕ → FiveTuple → List ℕ
source_text number tuple =
    decimal number ++ (codes ": " ++ (protocol_text tuple.proto ++ (codes " " ++ (address_label tuple.src
    ++ (codes ":" ++ decimal tuple.sport)))))

-- where they go
abbrev pub destination_text : FiveTuple → List ℕ
destination_text tuple = codes "to " ++ (address_label tuple.dst ++ (codes ":" ++ decimal tuple.dport))
