use Rattle.std.specs.Prelude.{ℕ, ◌+◌, ◌*◌, ◌<◌, ◌≤◌}

-- r is interval / sqrt(n), rounded down, in the interval's unit: the greatest number with r * sqrt(n) at most interval,
-- both sides squared. So far apart stand two drops of a queue that has dropped n (RFC 8289, section 5)
abbrev pub IsSpacing : ℕ → ℕ → ℕ → Type 0
IsSpacing interval n r = (r * r * n ≤ interval * interval) × (interval * interval < (r + 1) * (r + 1) * n)
