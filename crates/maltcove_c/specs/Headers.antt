-- What the calls from C do with a packet's bytes.
use Rattle.std.specs.Prelude.{◌≡◌, ℕ, ℤ, ◌/◌, ◌%◌, ◌==◌, List, Option, Some, None, if◌then◌else◌}
use Rattle.header_core.specs.Dissections.{Says}
use Rattle.header_core.specs.LinkTypes.{Carries}
use Rattle.header_core.specs.declared.header.Header.{Header}
use Rattle.header_core.specs.declared.header.InPlaceOfPorts.{InPlaceOfPorts}
use Rattle.header_core.specs.declared.link_types.Carried.{Carried}
use Rattle.maltcove_c.specs.Records.{found_told, packet_told, where_told}
use Rattle.maltcove_c.specs.Statuses.{carried_code, verdict_code}
use Rattle.maltcove_c.specs.declared.records.MaltcoveFound.{MaltcoveFound}
use Rattle.maltcove_c.specs.declared.records.MaltcovePacket.{MaltcovePacket}
use Rattle.maltcove_c.specs.declared.records.MaltcoveWhere.{MaltcoveWhere}

-- the ethertype that a link says: 0 is none
abbrev pub ethertype_said : ℕ → Option ℕ
ethertype_said number = if number == 0 then None else Some number

-- what is wanted in place of the ports: the lowest bit is that of ESP's index, and the next that of a flow label
abbrev pub instead_of_flags : ℕ → InPlaceOfPorts
instead_of_flags flags = record { esp_spi = flags % 2 == 1; flow_label = flags / 2 % 2 == 1 }

-- C is told what the bytes say, of which the link delivered so many: the verdict, the packet with the tag that it had,
-- and what is known besides.
pub record IsParsed (bytes : List ℕ) (wire ethertype flags tag : ℕ) (answer : ℤ) (packet : MaltcovePacket)
    (place : MaltcoveWhere) : Type 0 where
  pub header : Header
  pub says : Says bytes wire (ethertype_said ethertype) (instead_of_flags flags) header
  pub code : answer ≡ verdict_code header.verdict
  pub packet_is : packet ≡ packet_told header tag
  pub where_is : place ≡ where_told header

-- C is told what bytes carry that a link of the type of that number delivered.
pub record IsFound (bytes : List ℕ) (number : ℕ) (answer : ℤ) (found : MaltcoveFound) : Type 0 where
  pub carried : Carried
  pub carries : Carries bytes number carried
  pub code : answer ≡ carried_code carried
  pub found_is : found ≡ found_told carried

-- the record of a packet that was marked
abbrev pub with_ce : MaltcoveWhere → MaltcoveWhere
with_ce place = record place { ecn = 3 }
