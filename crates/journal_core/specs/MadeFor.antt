-- What a recorder was made for, where that matters to who reads it: for how many packets, or 0, and further numbers. Its
-- own kind says what these mean.
use Rattle.std.specs.Prelude.{ℕ, List, []}

pub record MadeFor : Type 0 where
  pub packets : ℕ
  pub numbers : List ℕ

-- that of a recorder which says nothing
abbrev pub made_for_any : MadeFor
made_for_any = record { packets = 0; numbers = [] }

-- that of a recorder which says for how many packets it was made, and nothing else
abbrev pub for_packets : ℕ → MadeFor
for_packets n = record { packets = n; numbers = [] }

-- that of a recorder which says its own numbers alone
abbrev pub with_numbers : List ℕ → MadeFor
with_numbers ns = record { packets = 0; numbers = ns }
