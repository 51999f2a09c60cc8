-- The place is one of those where the five-tuple is seen.
use Rattle.std.proofs.Common.{◌≡◌, ◌++◌, ◌∷◌, [], rules}
use Rattle.journal_core.proofs.SeenLemmas.{seen_adds}
use Rattle.journal_core.proofs.tally.Tally.accept.Goals as goal

pub returns-clause-added : goal.returns-clause-added
returns-clause-added c =
    let place = c.in_ok-place.ensures {u = tt} in
    let places : c.push_reserved.new.self.items ≡ c.args.self.now.places.items ++ c.in_ok-place.place ∷ [] = search rules in
    λ accepted a tuple flow before. record {
      seen = rw places (seen_adds c.args.self.now.seen.items c.place_of.new.self.seen.items c.args.self.now.places.items accepted a c.in_ok-place.place (rw (← tuple, ← flow) at place.seen) (rw (← tuple) at place.place) before.seen);
      room = place.room before.room;
    }
