-- Which bin of time an event falls in.
use Rattle.std.specs.Prelude.{ℕ, zero, suc, ◌/◌}
use Rattle.journal_core.specs.declared.event.Event.{Event}
use Rattle.journal_core.specs.declared.event.Event.TheVariants.{Accepted, Sent, Dropped, Closed}

-- the number of the bin of a moment, and the first one where bins have no width
abbrev pub bin_at : ℕ → ℕ → ℕ
bin_at zero moment = 0
bin_at (suc every) moment = moment / suc every

-- the number of the bin after an event, where it was that one before: a close falls in none
abbrev pub bin_after : ℕ → ℕ → Event → ℕ
bin_after every bin (Accepted lane id moment flow packet) = bin_at every moment
bin_after every bin (Sent id moment ecn mark) = bin_at every moment
bin_after every bin (Dropped id moment cause) = bin_at every moment
bin_after every bin (Closed moment) = bin
