-- A rate in kilobits.
use Rattle.std.proofs.Common.{◌≡◌, ◌≢◌, ℕ, ◌/◌, ◌%◌, ◌++◌, codes, refl, eq-eqb}
use Rattle.std.proofs.lemmas.Bool.{ne_eqb}
use Rattle.std.specs.Fmt.{decimal}
use Rattle.link_picture.specs.Wording.{rate_text}

-- a rate whose step is whole in kilobits, and in no greater unit
pub in_kilobits : (rate step : ℕ) → rate ≢ 0 → step % 1000000000 ≢ 0 → step % 1000000 ≢ 0 → step % 1000 ≡ 0
    → rate_text rate step ≡ decimal (rate / 1000) ++ codes " kbit/s"
in_kilobits rate step some no_giga no_mega whole =
    rw (ne_eqb rate 0 some, ne_eqb (step % 1000000000) 0 no_giga, ne_eqb (step % 1000000) 0 no_mega, eq-eqb (step % 1000) 0 whole) refl
