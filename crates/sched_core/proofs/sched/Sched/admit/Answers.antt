use Rattle.std.proofs.Common.{◌≡◌, ℕ, ◌+◌, ◌<◌, ◌≤◌, List, [], ◌∷◌, ◌++◌, get_or, length, set, sum_by, refl, ap, sym, subst, ◌∙◌, arith}
use Rattle.std.proofs.lemmas.List.{length_push}
use Rattle.std.proofs.lemmas.List.Sums.{sum_by-set}
use Rattle.packet_core.specs.FlowNumber.{flow_number}
use Rattle.packet_core.specs.declared.flow.Seed.{Seed}
use Rattle.packet_core.specs.declared.packet.FiveTuple.{FiveTuple}
use Rattle.packet_core.specs.declared.packet.Waiting.{Waiting}
use Rattle.packet_core.specs.declared.params.Classify.{Classify}
use Rattle.packet_core.specs.declared.params.Classify.TheVariants.{Dport, Hash}
use Rattle.journal_core.specs.Books.{Book}
use Rattle.journal_core.specs.MadeFor.{MadeFor}
use Rattle.fair_core.specs.HeldQueues.{Held}
use Rattle.sched_core.specs.Classifiers.{classifier_by, flow_by}
use Rattle.sched_core.specs.Schedulers.{IsMadeFor}
use Rattle.sched_core.specs.declared.classifier.Classifier.{Classifier}
use Rattle.sched_core.proofs.FqCodelRuns.{flow_below}
use Rattle.sched_core.proofs.KeptScheduler.{Accepts, advances, few_admitted, few_compared, grown, kept_admits, kept_takes}
use Rattle.sched_core.proofs.sched.Sched.admit.Given as given
use Rattle.sched_core.proofs.sched.Sched.admit.Goals.{After-overflow}
use Rattle.sched_core.proofs.sched.Sched.admit.Goals as goal

-- the flow that the classifier gives is the one of the parameters and the seed that it was made with
chosen_flow : (classify : Classify) (flows : ℕ) (seed : Seed) (k : Classifier) (tuple : FiveTuple) (flow : ℕ) → k ≡ classifier_by classify flows seed → flow ≡ flow_by k tuple
    → flow ≡ flow_number classify flows seed tuple
chosen_flow Hash flows seed k tuple flow made value = value ∙ ap (λ (x : Classifier). flow_by x tuple) made
chosen_flow Dport flows seed k tuple flow made value = value ∙ ap (λ (x : Classifier). flow_by x tuple) made

chosen_below : (classify : Classify) (flows : ℕ) (seed : Seed) (k : Classifier) (tuple : FiveTuple) (flow queues : ℕ) → k ≡ classifier_by classify flows seed → flow ≡ flow_by k tuple
    → 0 < flows → queues ≡ flows → flow < queues
chosen_below classify flows seed k tuple flow queues made value some many =
    omega (arith, chosen_flow classify flows seed k tuple flow made value, flow_below classify flows seed tuple some)

accepts : (g : given.Over) (c : After-overflow g) → let s = c.self.inside in let m = c.in_ok-provide.ensures.memory in
    Accepts s.params s.seed (record (s.fair_queue) { capacity = m.capacity }) c.arrive.new.self c.overflow.new.self (record (s.journal) { room = m.events }) c.overflow.new.journal s.last_moment c.args.moment c.args.lane c.provide.new.self.enqueues c.args.packet s.is_closed
accepts g c =
    let s = c.self.inside in
    let m = c.in_ok-provide.ensures.memory in
    let flow_is : c.flow_of-flow.result ≡ flow_number s.params.classify s.params.flows s.seed c.args.packet.tuple =
    chosen_flow _ _ _ _ _ _ c.self.invariant.classifier c.flow_of-flow.ensures.value in
    record {
      fits = rw (← c.self.view_is) at c.requires;
      some = c.in_ok-provide.ensures.ok;
      kept = kept_takes m c.self.invariant.book;
      listed = rw (flow_is, c.arrived.ensures, c.clear_comparisons.ensures, m.in_flows) at c.arrive.ensures.queues;
      arrived = rw (c.clear_comparisons.ensures, m.in_flows) at c.arrive.ensures.arrived;
      reserved = rw (c.clear_comparisons.ensures, m.in_flows) at c.arrive.ensures.capacity;
      few_comparisons = rw (c.clear_comparisons.ensures, m.in_flows) at c.arrive.ensures.few_comparisons;
      drops = rw (c.accept.ensures, c.arrived.ensures, flow_is, m.in_flows, m.in_journal) at c.overflow.ensures;
    }

-- the recorder is made for as many packets as before
kept_made_for : (g : given.Over) (c : After-overflow g) → IsMadeFor c.self.inside.params.limit c.overflow.new.journal.made_for
kept_made_for g c =
    subst (λ (m : MadeFor). IsMadeFor c.self.inside.params.limit m) (sym (ap (λ (b : Book). b.made_for) (accepts g c).drops.journal)) c.self.invariant.made_for

-- an arrival is one packet more
arrival_fits : (queues : List (List Waiting)) (flow : ℕ) (w : Waiting) (room : ℕ) → flow < length queues → sum_by length queues + 1 ≤ room
    → sum_by length (set queues flow (get_or queues flow [] ++ w ∷ [])) ≤ room
arrival_fits queues flow w room within fits =
    omega (arith, sum_by-set length queues flow (get_or queues flow [] ++ w ∷ []) [] within, length_push (get_or queues flow []) w)

pub arrive-requires-clause-capacity : goal.arrive-requires-clause-capacity
arrive-requires-clause-capacity g c =
    let m = c.in_ok-provide.ensures.memory in
    let kept = kept_takes m c.self.invariant.book in
    rw (c.clear_comparisons.ensures, m.in_flows) (omega (arith, kept.reserved, c.in_ok-provide.ensures.ok))

pub accept-requires : goal.accept-requires
accept-requires g c =
    let m = c.in_ok-provide.ensures.memory in
    let kept = kept_takes m c.self.invariant.book in
    rw m.in_journal (omega (arith, kept.space, c.in_ok-provide.ensures.ok))

pub overflow-requires : goal.overflow-requires
overflow-requires g c =
    let m = c.in_ok-provide.ensures.memory in
    let kept = kept_takes m c.self.invariant.book in
    let within : c.flow_of-flow.result < length (c.self.inside.fair_queue.queues.lists.queues) =
    chosen_below _ _ _ _ _ _ _ c.self.invariant.classifier c.flow_of-flow.ensures.value c.self.invariant.book.some c.self.invariant.book.flows in
    rw (c.accept.ensures, c.arrive.ensures.queues, c.clear_comparisons.ensures, m.in_flows, m.in_journal)
    (arrival_fits _ _ _ _ within (omega (arith, kept.space, c.in_ok-provide.ensures.ok)))

pub invariant_of-self-2 : goal.invariant_of-self-2
invariant_of-self-2 g c = rw c.spend.ensures (record { book = kept_admits (accepts g (goal.at.invariant_of-self-2 g c).After-overflow); classifier = c.flow_of-flow.ensures.kept ∙ c.self.invariant.classifier; made_for = kept_made_for g (goal.at.invariant_of-self-2 g c).After-overflow })

pub returns-clause-made : goal.returns-clause-made
returns-clause-made g c =
    let m = c.in_ok-provide.ensures.memory in
    let before = (goal.at.returns-clause-made g c).After-overflow in
    rw (← c.self.view_is) (record { advances = advances (accepts g before); params = refl; seed = refl; turns = refl; capacity = omega (arith, m.more, (accepts g before).reserved, ap (λ (x : Held). x.capacity) (accepts g before).drops.rest); made_for = ap (λ (b : Book). b.made_for) (accepts g before).drops.journal })

pub returns-clause-few_comparisons : goal.returns-clause-few_comparisons
returns-clause-few_comparisons g c =
    let a = accepts g (goal.at.returns-clause-few_comparisons g c).After-overflow in
    rw (← c.self.view_is) (few_compared _ _ _ (grown a) (few_admitted a))

pub returns-clause-compares : goal.returns-clause-compares
returns-clause-compares g c =
    let flows = c.self.invariant.book.flows in
    let m = c.in_ok-provide.ensures.memory in
    let mid = rw (c.clear_comparisons.ensures, m.in_flows) at c.arrive.ensures.compares in
    let lost = c.overflow.ensures.few_comparisons.none_lost in
    rw (← c.self.view_is) (λ several. omega (arith, mid (omega arith)))

pub returns-clause-capacity : goal.returns-clause-capacity
returns-clause-capacity g c =
    let a = accepts g (goal.at.returns-clause-capacity g c).After-overflow in
    rw (← c.self.view_is) (λ some. ap (λ (x : Held). x.capacity) a.drops.rest ∙ a.reserved ∙ ap (λ (x : Held). x.capacity) (sym c.in_ok-provide.ensures.memory.in_flows ∙ c.in_ok-provide.ensures.none_taken (omega arith)))
