use Rattle.std.proofs.Common.{◌≡◌, ◌∷◌, rules}
use Rattle.std.specs.Vec.Iter.{into_iter_items}
use Rattle.port_core.specs.declared.gate.Stop.TheVariants as stop
use Rattle.run_core.specs.Journals.{sender_row_of}
use Rattle.run_core.proofs.JournalLemmas.{all_more, map_more}
use Rattle.run_core.proofs.locked.rows_of.Goals as goal

pub loop-sender-preserved : goal.loop-sender-preserved
loop-sender-preserved g c =
    let rest = into_iter_items c.next.new.self in
    let cut : into_iter_items c.loop-sender.sender-iterator ≡ c.in-Some.sender ∷ rest = search rules in
    let done : c.in-Some.sender.stop ≡ stop.Done = search rules in
    let pushed = map_more (λ d. sender_row_of d.calls d.seat) c.loop-sender.rows.items c.in-Some.sender rest _ (rw cut at c.loop-sender.invariant.0) in
    let seated = map_more (λ d. d.seat) c.loop-sender.seats.items c.in-Some.sender rest _ (rw cut at c.loop-sender.invariant.1) in (
      rw (c.in_ok-push.ensures.items, c.row_of.ensures) pushed,
      rw c.in_ok-push-2.ensures.items seated,
      (λ all. (rw cut at c.loop-sender.invariant.2) (all_more (λ d. d.stop ≡ stop.Done) c.in-Some.sender rest done all)),
      search rules,
      search rules,
      search rules,
    )
