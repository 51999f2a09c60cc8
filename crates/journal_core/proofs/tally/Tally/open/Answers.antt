-- Each kept packet is accepted in turn, and the others have the rows of those. There is room for all of them.
use Rattle.std.proofs.Common.{◌≡◌, ◌+◌, ◌<◌, ◌≤◌, ◌∙◌, List, [], ap, arith, length, map, take}
use Rattle.std.proofs.lemmas.List.{length-map, take_all}
use Rattle.journal_core.specs.Tallies.{seen_of}
use Rattle.journal_core.proofs.Words.{Acceptance, IsTallied}
use Rattle.journal_core.proofs.SeenLemmas.{turned_tallied, turns_within, with_next}
use Rattle.journal_core.proofs.tally.Tally.open.Goals.{After-loop-one}
use Rattle.journal_core.proofs.tally.Tally.open.Goals as goal

pub loop-one-init : goal.loop-one-init
loop-one-init c =
    let had = c.requires.1.room in
    let few = c.args.self.seen.ok in
    record {
      tallied = λ kept is. had.0;
      room = λ more low. (omega (arith, had.1.0), omega (arith, had.1.1), omega (arith, had.1.2));
    }

pub accept_reserved-requires : goal.accept_reserved-requires
accept_reserved-requires c =
    let low : c.loop-one.one-index + 1 ≤ length c.args.self.seen.items = omega (arith, ap length c.deref-one-items.ensures.value) in
    c.loop-one.invariant.room 1 low

pub loop-one-preserved : goal.loop-one-preserved
loop-one-preserved c =
    let i = c.loop-one.one-index in
    record {
      tallied = λ kept is.
          let same : c.deref-one-items.result.now ≡ map seen_of kept = c.deref-one-items.ensures.value ∙ is in
          let low : i < length kept = omega (arith, ap length same ∙ length-map kept seen_of) in
          with_next (λ more. IsTallied c.accept_reserved.new.self more []) kept i c.deref-one-items.result.now _ same low (λ a tuple flow. c.accept_reserved.ensures.added (take i kept) a tuple flow (c.loop-one.invariant.tallied kept is));
      room = λ more low. c.accept_reserved.ensures.room more (c.loop-one.invariant.room (more + 1) (omega arith));
    }

-- after the last of them all kept packets have their rows
all_kept : (c : After-loop-one) (kept : List Acceptance) → c.args.self.seen.items ≡ map seen_of kept → IsTallied c.loop-one.rows kept []
all_kept c kept is =
    let same : c.deref-one-items.result.now ≡ map seen_of kept = c.deref-one-items.ensures.value ∙ is in
    let past : length kept ≤ c.loop-one.one-index = omega (arith, ap length same ∙ length-map kept seen_of) in
    let all : take c.loop-one.one-index kept ≡ kept = take_all _ _ past in
    rw all at (c.loop-one.invariant.tallied kept is)

pub turn-requires : goal.turn-requires
turn-requires c =
    let seen = c.requires.1.seen in
    let ok = c.loop-one.rows.places.ok in
    let within = turns_within _ _ _ seen _ _ _ (all_kept (goal.at.turn-requires c).After-loop-one seen.kept seen.seen_are) in
    λ k d low. let one = within k d low in omega arith

pub returns : goal.returns
returns c = λ accepted has.
    let seen = has.seen in
    let tallied = turned_tallied _ _ _ seen _ _ _ (all_kept (goal.at.returns c).After-loop-one seen.kept seen.seen_are) in
    rw (c.turn.ensures.tuples, c.turn.ensures.rows, c.turn.ensures.places) tallied
