use Rattle.link_picture.proofs.OctaveLemmas.{octave_is}
use Rattle.link_picture.proofs.octaves.octave.Goals as goal

pub returns-clause-value : goal.returns-clause-value
returns-clause-value c =
    let power = c.ilog2-exponent.ensures in
    let is = octave_is c.ilog2-exponent.result c.args.value power.bound power.power_le power.next_power_gt in
    rw (c.from-3.ensures, c.from.ensures, c.from-2.ensures, c.pow-power.ensures) is
