use Rattle.std.proofs.Common.{◌≡◌, ◌<◌, get_or, refl, arith}
use Rattle.std.proofs.lemmas.List.{get_or_read}
use Rattle.flow_core.proofs.SeenLemmas.{most_seen, none_seen}
use Rattle.flow_core.proofs.winner_tree.WinnerTree.winner.Goals.{After-index}
use Rattle.flow_core.proofs.winner_tree.WinnerTree.winner.Goals as goal

most : (c : After-index) → c.index-most.result.now ≡ get_or c.self.inside.winners.items c.self.inside.top.node 0
most c =
    let t = c.self.inside in
    get_or_read t.winners.items t.top.node c.index-most.result.now (omega (arith, c.self.invariant.tree.within, c.self.invariant.tree.nodes)) c.index-most.ensures 0

count : (c : After-index) → c.index.result.now ≡ get_or c.self.inside.bytes.items c.index-most.result.now 0
count c =
    let t = c.self.inside in
    let tree = c.self.invariant.tree in
    let below = tree.held t.top.node tree.some tree.within in
    get_or_read t.bytes.items c.index-most.result.now c.index.result.now (omega (arith, below.within, most c, tree.counts)) c.index.ensures 0

pub returns-then-index-gt0-clause-winner : goal.returns-then-index-gt0-clause-winner
returns-then-index-gt0-clause-winner c =
    let t = c.self.inside in
    let before = (goal.at.returns-then-index-gt0-clause-winner c).After-index in
    let waits : 0 < get_or t.bytes.items (get_or t.winners.items t.top.node 0) 0 = rw (← most before) (omega (arith, count before)) in
    rw (← c.self.view_is, most before) (most_seen t c.self.invariant waits)

pub returns-else-index-gt0-clause-none : goal.returns-else-index-gt0-clause-none
returns-else-index-gt0-clause-none c =
    let t = c.self.inside in
    let before = (goal.at.returns-else-index-gt0-clause-none c).After-index in
    let zero : get_or t.bytes.items (get_or t.winners.items t.top.node 0) 0 ≡ 0 = rw (← most before) (omega (arith, count before)) in
    let none = none_seen t c.self.invariant zero in
    (λ _. rw (← c.self.view_is) none, λ _. refl)
