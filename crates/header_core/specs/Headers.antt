-- What is said of a packet of which nothing more is known.
use Rattle.std.specs.Prelude.{[], ◌∷◌, Option, Some, None}
use Rattle.packet_core.specs.declared.packet.Ecn.TheVariants.{NotEct}
use Rattle.packet_core.specs.declared.packet.Ip.{Ip}
use Rattle.packet_core.specs.declared.packet.Ip.TheVariants.{V4}
use Rattle.header_core.specs.declared.header.Fragment.TheVariants.{Whole}
use Rattle.header_core.specs.declared.header.Header.{Header}
use Rattle.header_core.specs.declared.header.Ports.TheVariants.{Absent}
use Rattle.header_core.specs.declared.header.Verdict.{Verdict}

-- four zeros
abbrev pub nowhere : Ip
nowhere = V4 (0 ∷ 0 ∷ 0 ∷ 0 ∷ [])

-- the verdict, and all other fields at 0
abbrev pub without_fields : Verdict → Header
without_fields verdict = record {
  verdict = verdict;
  version = 0;
  tuple = record { proto = 0; src = nowhere; dst = nowhere; sport = 0; dport = 0 };
  ecn = NotEct;
  dscp = 0;
  len = 0;
  transport = 0;
  fragment = Whole;
  ports = Absent;
  flow_label = 0;
}

-- the header of a packet that keeps its rules, and the verdict alone of one that breaks a rule
abbrev pub unless_broken : Option Verdict → Header → Header
unless_broken None header = header
unless_broken (Some rule) header = without_fields rule
