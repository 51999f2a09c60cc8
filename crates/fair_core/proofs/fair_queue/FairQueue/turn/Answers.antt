use Rattle.std.proofs.Common.{true, false, ◌∙◌, arith, ◌≡◌, ◌≤ℤ◌, ◌<ℤ◌, pos, sym}
use Rattle.std.proofs.lemmas.Int.{ints}
use Rattle.fair_core.proofs.ServedChains.{emptied_turn, raised_turn, serving_turn}
use Rattle.fair_core.proofs.fair_queue.FairQueue.turn.Goals as goal

pub returns-then-credits-le0 : goal.returns-then-credits-le0
returns-then-credits-le0 g c =
    let none : c.credits.result ≤ℤ pos 0 = let t = c.if-credits-le0.true in grind (arith, ints) in
    raised_turn c.args.params.now c.args.now c.args.self.now c.args.head c.requires.head c.raise_credits.new.self c.move_to_old.new.self c.args.journal.now (rw (← c.credits.ensures) none) c.raise_credits.ensures c.move_to_old.ensures

pub returns-then-is_none : goal.returns-then-is_none
returns-then-is_none g c =
    let some : pos 0 <ℤ c.credits.result = let t = c.if-credits-le0.false in grind (arith, ints) in
    emptied_turn c.args.params.now c.args.now c.args.self.now c.args.head c.requires.head c.serve_flow-served.new.self c.args.journal.now c.serve_flow-served.new.journal c.serve_flow-served.result
    (rw (← c.credits.ensures) some) c.serve_flow-served.ensures c.move_emptied.new.self (c.if-is_none.ensures {u = tt}) c.move_emptied.ensures

pub returns-else-is_none : goal.returns-else-is_none
returns-else-is_none g c =
    let some : pos 0 <ℤ c.credits.result = let t = c.if-credits-le0.false in grind (arith, ints) in
    serving_turn c.args.params.now c.args.now c.args.self.now c.args.head c.requires.head c.serve_flow-served.new.self c.args.journal.now c.serve_flow-served.new.journal c.serve_flow-served.result
    (rw (← c.credits.ensures) some) c.serve_flow-served.ensures (λ none. let e : true ≡ false = sym (c.if-is_none.ensures {u = tt}) ∙ none in absurd cc)

pub move_emptied-requires : goal.move_emptied-requires
move_emptied-requires g c = rw (c.serve_flow-served.ensures.rest, c.serve_flow-served.ensures.serves.rest) c.requires.head
