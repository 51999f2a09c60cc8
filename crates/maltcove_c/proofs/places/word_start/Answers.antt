use Rattle.std.proofs.Common.{◌≤◌, ◌-◌, length, rules}
use Rattle.maltcove_c.proofs.WordPlaces.{places_first, places_last, places_on}
use Rattle.maltcove_c.proofs.places.word_start.Goals as goal

pub loop-init : goal.loop-init
loop-init c = places_first c.args.text.now c.args.others

pub loop-preserved : goal.loop-preserved
loop-preserved c =
    let within : c.first_word_end-from.result ≤ length c.args.text.now - c.loop.from = search rules in
    places_on c.args.text.now c.args.others c.loop.counter c.loop.from c.first_word_end-from.result c.loop.invariant c.loop-test.true c.first_word_end-from.ensures.value within

pub returns-clause-value : goal.returns-clause-value
returns-clause-value c =
    places_last c.args.text.now c.args.others c.loop.counter c.loop.from c.blanks_in_front.result c.loop.invariant c.loop.auto.counter-end c.loop-test.false c.blanks_in_front.ensures.value
