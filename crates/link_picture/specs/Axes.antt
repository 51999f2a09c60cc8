-- The bins of time that a picture shows.
use Rattle.std.specs.Prelude.{◌≡◌, ℕ, zero, suc, ◌+◌, ◌-◌, ◌*◌, ◌/◌, ◌^◌, Option, Some, None, List, [], ◌∷◌, max, min, nat_le, fold, unwrap_or, if◌then◌else◌}
use Rattle.link_report.specs.declared.packets.PacketRecord.{PacketRecord}
use Rattle.link_report.specs.Packets.{last_moment}
use Rattle.link_picture.specs.declared.axis.Axis.{Axis}
use Rattle.link_picture.specs.declared.axis.TheConstants.{MAX_BINS}
use Rattle.link_picture.specs.declared.content.TheConstants.{LAST_MOMENT}

-- a number of 64 bits, and the greatest of these where it has more
abbrev pub in_64 : ℕ → ℕ
in_64 n = min n (2 ^ 64 - 1)

-- how many bins of a width there are from that of one moment to that of another
abbrev pub bin_count : ℕ → ℕ → ℕ → ℕ
bin_count width from upto = upto / width + 1 - from / width

-- that width, where there are few enough bins of it, and else the other choice
abbrev pub width_or : ℕ → ℕ → ℕ → Option ℕ → Option ℕ
width_or width from upto other = if nat_le (bin_count width from upto) MAX_BINS then Some width else other

-- the first of a width, twice and five times that of which there are few enough bins
abbrev pub width_near : ℕ → ℕ → ℕ → Option ℕ
width_near width from upto =
    width_or width from upto (width_or (in_64 (width * 2)) from upto (width_or (in_64 (width * 5)) from upto None))

-- the same, or else of ten times these, and so on, so often. The last choice is the greatest width.
unfoldable pub width_after : ℕ → ℕ → ℕ → ℕ → ℕ
width_after zero width from upto = 2 ^ 64 - 1
width_after (suc turns) width from upto =
    unwrap_or (width_near width from upto) (width_after turns (in_64 (width * 10)) from upto)

-- The width of bins from one moment to another: what is asked for, or the least of 2, 5, 10, 20, 50 .. times that of which
-- there are few enough.
abbrev pub width_for : ℕ → ℕ → ℕ → ℕ
width_for every from upto = width_after 20 (max every 1) from upto

-- a moment, and the last one that a picture shows where it is later
abbrev pub shown_moment : ℕ → ℕ
shown_moment moment = min moment LAST_MOMENT

-- the moment of the first arrival, and 0 where no packet arrived
abbrev pub first_moment : List PacketRecord → ℕ
first_moment [] = 0
first_moment (p ∷ packets) = shown_moment p.arrived

-- the last moment of some packets, and at least the one given
abbrev pub last_of : ℕ → List PacketRecord → ℕ
last_of moment packets = fold (λ last (p : PacketRecord). max last (shown_moment (last_moment p))) moment packets

-- the last moment of both queues
abbrev pub last_of_both : List PacketRecord → List PacketRecord → ℕ
last_of_both packets fifo = last_of (last_of (first_moment packets) packets) fifo

-- The bins are those from one moment to another, of which each is wide enough for a picture.
pub record IsAxis (every from upto : ℕ) (axis : Axis) : Type 0 where
  pub width : axis.width ≡ width_for every from upto
  pub first : axis.first ≡ from / axis.width
  pub last : axis.first + axis.count ≡ upto / axis.width + 1
