use Rattle.maltcove_c.proofs.WordPlaces.{Places}
use Rattle.maltcove_c.proofs.places.word_start.Given as goal

abbrev pub invariant-loop : goal.invariant-loop
invariant-loop l = Places l.initial.text l.initial.others l.counter l.from
