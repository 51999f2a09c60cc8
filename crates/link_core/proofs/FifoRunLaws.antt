-- The laws of a link's runs over a plain queue.
use Rattle.std.proofs.Common.{◌≡◌, ℕ, ◌<◌, ◌≤◌, ◌+◌, ◌*◌, true, All, List, [], ◌∷◌, length, length-append, map, Option, None, refl, sym, ap, subst, ◌∙◌, inl, inr, arith}
use Rattle.std.specs.List.{AllByRecursion}
use Rattle.std.proofs.lemmas.List.{append-nil}
use Rattle.packet_core.specs.declared.flow.Seed.{Seed}
use Rattle.packet_core.specs.declared.packet.Waiting.{Waiting}
use Rattle.packet_core.specs.declared.params.ParamFields.{ParamFields}
use Rattle.journal_core.specs.declared.event.Event.{Event}
use Rattle.journal_core.specs.declared.step.Step.{Step}
use Rattle.journal_core.specs.Disciplines.{Given}
use Rattle.journal_core.specs.Happened.{Acceptance, acceptances, fate_ids, is_among, without_fate}
use Rattle.journal_core.specs.JournalLaws.{AreDistinct, FatesFollow, IdsInOrder}
use Rattle.journal_core.specs.Runs.{Made, journal_of}
use Rattle.journal_core.specs.State.{State, opening_state}
use Rattle.journal_core.proofs.ListLemmas.{ByRecursion-all, ByRecursion-parts}
use Rattle.link_core.specs.declared.arrival.Arrival.{Arrival}
use Rattle.link_core.specs.declared.link.LinkFields.{LinkFields}
use Rattle.link_core.specs.Arrivals.{AreArrivals}
use Rattle.link_core.specs.Fifo.{GivesHead, IsFifoJournal, TakesIn, fifo}
use Rattle.link_core.specs.LinkLaw.{LinkPoint}
use Rattle.link_core.specs.LinkLaw.LinkState.{idle}
use Rattle.link_core.specs.LinkLaws.{AreSentInTurn, FollowsArrival, sendings}
use Rattle.link_core.specs.LinkRuns.{IsLinkRunOf, IsLinkRunTo}
use Rattle.link_core.specs.Links.{IsLink}
use Rattle.link_core.proofs.Causality.{run_follows}
use Rattle.link_core.proofs.EventCounts.{few_in_run}
use Rattle.link_core.proofs.FatesInOrder.{distinct_front, ids_in_order, none_in_order}
use Rattle.link_core.proofs.FifoQueues.{IsTracked, none_left, runs_tracked, steps_tracked, tracked}
use Rattle.link_core.proofs.IdleLinks.{idle_run_empty}
use Rattle.link_core.proofs.OneLinkRun.{link_run_once}
use Rattle.link_core.proofs.OneRun.{runs_once}
use Rattle.link_core.proofs.Throughput.{link_apart}

-- a queue gives nothing only where nothing waits
gives_when_empty : (old new : List Waiting) (moment : ℕ) (dropped : List Waiting) → GivesHead old dropped None new → Unit {0} → new ≡ []
gives_when_empty [] new moment dropped g _ = g.2
gives_when_empty (w ∷ rest) new moment dropped g _ = let e = g.1 in absurd cc

-- an arrival leaves no choice
takes_once : (limit : ℕ) (old new new' : List Waiting) (w : Waiting) (lost lost' : List Waiting) → TakesIn limit old w lost new → TakesIn limit old w lost' new' → (lost ≡ lost') × (new ≡ new')
takes_once limit old new new' w lost lost' (inl t) (inl t') = (t.1 ∙ sym t'.1, t.2 ∙ sym t'.2)
takes_once limit old new new' w lost lost' (inl t) (inr t') = let room = t.0 in let full = t'.0 in absurd (omega arith)
takes_once limit old new new' w lost lost' (inr t) (inl t') = let full = t.0 in let room = t'.0 in absurd (omega arith)
takes_once limit old new new' w lost lost' (inr t) (inr t') = (t.1 ∙ sym t'.1, t.2 ∙ sym t'.2)

-- nor does a dequeue
gives_once : (old new new' dropped dropped' : List Waiting) (given given' : Option Given) → GivesHead old dropped given new → GivesHead old dropped' given' new' → (dropped ≡ dropped') × (given ≡ given') × (new ≡ new')
gives_once [] new new' dropped dropped' given given' g g' = (g.0 ∙ sym g'.0, g.1 ∙ sym g'.1, g.2 ∙ sym g'.2)
gives_once (w ∷ rest) new new' dropped dropped' given given' g g' = (g.0 ∙ sym g'.0, g.1 ∙ sym g'.1, g.2 ∙ sym g'.2)

-- before the first packet
opening_tracked : IsTracked (opening_state []) []
opening_tracked = record { known = tt; held = tt; order = none_in_order; once = tt; many = refl }

module _ (p : ParamFields) (seed : Seed) (link : LinkFields) (arrivals : List Arrival) where
  -- what is kept up to a journal's end
  fifo_tracked : (events : List Event) (h : IsFifoJournal p seed link arrivals events) → IsTracked h.last events
  fifo_tracked events h = subst (IsTracked h.last) (sym h.journal) (runs_tracked p seed (opening_state []) h.last h.steps h.made [] h.run.runs opening_tracked)

  -- ids are in order, each fate follows its acceptance, and no id has two
  pub fifo_ids : (events : List Event) → IsFifoJournal p seed link arrivals events → IdsInOrder events
  fifo_ids events h = ids_in_order h.last.next_id events (fifo_tracked events h).order.ids

  pub fifo_follow : (events : List Event) → IsFifoJournal p seed link arrivals events → FatesFollow events
  fifo_follow events h = (fifo_tracked events h).order.follow

  pub fifo_once : (events : List Event) → IsFifoJournal p seed link arrivals events → AreDistinct (fate_ids events)
  fifo_once events h = distinct_front (fate_ids events) (map (λ (w : Waiting). w.id) h.last.queues) (fifo_tracked events h).once

  -- two events at most for each arrival
  pub fifo_few : (events : List Event) → IsFifoJournal p seed link arrivals events → length events ≤ 2 * length arrivals
  fifo_few events h =
      let t = subst (IsTracked h.last) h.journal (fifo_tracked events h) in
      let all : length (fate_ids (journal_of h.made)) + length (map (λ (w : Waiting). w.id) h.last.queues) ≡ h.last.next_id = sym (length-append (fate_ids (journal_of h.made)) (map (λ (w : Waiting). w.id) h.last.queues)) ∙ t.many in
      subst (λ (es : List Event). length es ≤ 2 * length arrivals) (sym h.journal) (few_in_run (fifo p seed) link arrivals h.steps h.made h.last h.run (omega arith))

  -- where the link is idle, each packet that came has its fate
  pub fifo_none_waits : (steps : List Step) (made : List Made) (point : LinkPoint) (at : State (List Waiting)) → IsLinkRunTo (fifo p seed) link arrivals steps made point at → point.state ≡ idle → without_fate (journal_of made) ≡ []
  fifo_none_waits steps made point at run is =
      let empty : at.queues ≡ [] = idle_run_empty (fifo p seed) (λ packet. Unit {0}) (λ q. Unit {0}) (λ q. q ≡ []) (λ old new step said events s fits ready. tt) gives_when_empty link arrivals steps made point at run
      (ByRecursion-all (λ (a : Arrival). Unit {0}) arrivals (λ a. tt)) tt refl is in
      let h : IsTracked at (journal_of made) = runs_tracked p seed (opening_state []) at steps made [] run.runs opening_tracked in
      let all : tracked (journal_of made) at.queues ≡ fate_ids (journal_of made) = ap (tracked (journal_of made)) empty ∙ append-nil (fate_ids (journal_of made)) in
      none_left (fate_ids (journal_of made)) (acceptances (journal_of made))
      (subst (λ (ids : List ℕ). AllByRecursion (λ (a : Acceptance). is_among ids a.id ≡ true) (acceptances (journal_of made))) all h.held)

  -- so at a journal's end
  pub fifo_all_fated : (events : List Event) → IsFifoJournal p seed link arrivals events → without_fate events ≡ []
  fifo_all_fated events h =
      subst (λ (es : List Event). without_fate es ≡ []) (sym h.journal)
      (fifo_none_waits h.steps h.made (record { state = idle; coming = [] }) h.last (record { follows = h.run.law; runs = h.run.runs; none_refused = h.run.none_refused }) refl)

  -- no packet has its fate before it came
  pub fifo_none_early : (events : List Event) → IsFifoJournal p seed link arrivals events → All (FollowsArrival arrivals) events
  fifo_none_early events h =
      subst (All (FollowsArrival arrivals)) (sym h.journal)
      (run_follows (fifo p seed) IsTracked (steps_tracked p seed) (λ s es t. (ByRecursion-parts (λ id. id < s.next_id) (fate_ids es) (map (λ (w : Waiting). w.id) s.queues) t.known).0) link arrivals h.steps h.made h.last opening_tracked h.run)

  -- packets are sent one after another
  pub fifo_apart : IsLink link → AreArrivals arrivals → (events : List Event) → IsFifoJournal p seed link arrivals events → AreSentInTurn link arrivals 0 (sendings events)
  fifo_apart range are events h =
      subst (λ (es : List Event). AreSentInTurn link arrivals 0 (sendings es)) (sym h.journal) (link_apart (fifo p seed) link range arrivals are h.steps h.made h.last h.run)

  -- there is one run at most, and one journal
  pub fifo_run_once : (steps steps' : List Step) (made made' : List Made) (last last' : State (List Waiting)) → IsLinkRunOf (fifo p seed) link arrivals steps made last → IsLinkRunOf (fifo p seed) link arrivals steps' made' last'
      → (steps ≡ steps') × (made ≡ made') × (last ≡ last')
  fifo_run_once steps steps' made made' last last' run run' = link_run_once (fifo p seed) link arrivals
      (runs_once (fifo p seed) (λ old new new' w lost lost' t t'. takes_once p.limit old new new' w lost lost' t t') (λ old new new' moment dropped dropped' given given' g g'. gives_once old new new' dropped dropped' given given' g g'))
      steps steps' made made' last last' run run'

  pub fifo_journal_once : (events events' : List Event) → IsFifoJournal p seed link arrivals events → IsFifoJournal p seed link arrivals events' → events ≡ events'
  fifo_journal_once events events' h h' = h.journal ∙ ap journal_of (fifo_run_once h.steps h'.steps h.made h'.made h.last h'.last h.run h'.run).1 ∙ sym h'.journal
