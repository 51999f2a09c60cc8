-- Packets that leave the head of a flow's queue, one after another, into the journal.
use Rattle.std.proofs.Common.{◌≡◌, ℕ, ◌+◌, ◌-◌, ◌<◌, ◌≤◌, List, [], ◌∷◌, ◌++◌, drop, take, set, get_or, length, map, Option, Some, None, slice_get, refl, sym, ap, ◌∙◌, subst, append-nil, append_assoc, length-append, length-take, sum_by, arith}
use Rattle.std.proofs.lemmas.Grind.{flat_map-append}
use Rattle.std.proofs.Math.Seq.{take-add}
use Rattle.std.proofs.lemmas.List.{drop-drop, get_or-set_same, length-drop, length-set, set-set}
use Rattle.std.proofs.lemmas.List.Sums.{sum_by-set}
use Rattle.packet_core.specs.declared.packet.Waiting.{Waiting}
use Rattle.packet_core.specs.declared.params.ParamFields.{ParamFields}
use Rattle.flow_core.specs.Fattest.{IsFattest}
use Rattle.flow_core.specs.FlowLists.{Holding, queue_at, waiting_in}
use Rattle.flow_core.specs.Winners.{CountsFew}
use Rattle.journal_core.specs.declared.event.Cause.{Cause}
use Rattle.journal_core.specs.declared.event.Cause.TheVariants as cause
use Rattle.fair_core.specs.HeldQueues.{DropsHeads, DropsOverflow, Held, LosesBatch, held_flows, with_heads_gone, with_holding}
use Rattle.fair_core.specs.FairQueueing.{with_queues}
use Rattle.journal_core.specs.Books.{Book, count_drops}
use Rattle.journal_core.specs.Disciplines.{Batch, packets_of}
use Rattle.journal_core.specs.Steps.{drop_event}
use Rattle.journal_core.specs.JournalDrops.{drops_more, drops_none, with_drops}
use Rattle.fair_core.specs.Overflow.{Exceeds, Overflow, batch_of, batch_size, without_batch}
use Rattle.fair_core.proofs.ComparisonLemmas.{counts_none, counts_on}
use Rattle.fair_core.proofs.OverflowLemmas.{fewer_behind}

-- n packets left, and then one more
head_leaves : (old : Holding) (flow n mid new : ℕ) → flow < length old.lists.queues → with_heads_gone (with_heads_gone old flow n mid) flow 1 new ≡ with_heads_gone old flow (n + 1) new
head_leaves old flow n mid new within =
    let q = queue_at old.lists flow in
    rw (get_or-set_same old.lists.queues flow (drop n q) [] within, set-set old.lists.queues flow (drop n q) (drop 1 (drop n q)), drop-drop 1 n q) refl

-- the packet at the head, if there is one
abbrev pub head_packet : Option Waiting → List Waiting
head_packet None = []
head_packet (Some w) = w ∷ []

take_one : (q : List Waiting) → take 1 q ≡ head_packet (slice_get q 0)
take_one [] = refl
take_one (x ∷ q) = refl

drops_then : (book : Book) (moment : ℕ) (why : Cause) (ws : List Waiting) (o : Option Waiting) → with_drops (with_drops book moment why ws) moment why (head_packet o) ≡ with_drops book moment why (ws ++ head_packet o)
drops_then book moment why ws None = sym (drops_none (with_drops book moment why ws) moment why) ∙ ap (with_drops book moment why) (sym (append-nil ws))
drops_then book moment why ws (Some w) = drops_more book moment why ws w

-- n packets were dropped, and then the next one, if there is one
pub drops_next : (flow n moment : ℕ) (old mid new : Holding) (book book' book'' : Book) → DropsHeads flow n moment old book mid book' → flow < length old.lists.queues → (o : Option Waiting) → o ≡ slice_get (queue_at mid.lists flow) 0
    → new ≡ with_heads_gone mid flow 1 new.comparisons → CountsFew (length mid.lists.queues) (length (head_packet o)) mid.comparisons new.comparisons → book'' ≡ with_drops book' moment cause.Overflow (head_packet o)
    → DropsHeads flow (n + 1) moment old book new book''
drops_next flow n moment old mid new book book' book'' d within o head rest few journal =
    let q = queue_at old.lists flow in
    let first = head ∙ ap (λ (h : Holding). slice_get (queue_at h.lists flow) 0) d.rest ∙ ap (λ (l : List Waiting). slice_get l 0) (get_or-set_same old.lists.queues flow (drop n q) [] within) in
    let taken : take (n + 1) q ≡ take n q ++ head_packet o = take-add n 1 q ∙ ap (λ l. take n q ++ l) (take_one (drop n q) ∙ ap head_packet (sym first)) in
    let as_many = ap (λ (h : Holding). length h.lists.queues) d.rest ∙ length-set old.lists.queues flow (drop n q) in
    record {
      rest = rest ∙ ap (λ h. with_heads_gone h flow 1 new.comparisons) d.rest ∙ head_leaves old flow n mid.comparisons new.comparisons within;
      few_comparisons = rw (taken, length-append (take n q) (head_packet o)) (counts_on (length old.lists.queues) (length (take n q)) (length (head_packet o)) old.comparisons mid.comparisons new.comparisons d.few_comparisons (rw as_many at few));
      journal = rw taken (journal ∙ ap (λ (b : Book). with_drops b moment cause.Overflow (head_packet o)) d.journal ∙ drops_then book moment cause.Overflow (take n q) o);
    }

-- the fattest flow loses its batch
pub loses_batch : (most moment : ℕ) (old : Held) (book book' : Book) (flow batch : ℕ) (flows' : Holding) → IsFattest old.queues.lists.queues flow → batch ≡ batch_size most (length (queue_at old.queues.lists flow))
    → DropsHeads flow batch moment (held_flows old) book flows' book' → LosesBatch most moment old book (with_holding old flows' old.queues.flow_states) book'
loses_batch most moment old book book' flow batch flows' fattest size d =
    record {
      flow = flow;
      fattest = fattest;
      rest = ap (λ (h : Holding). with_holding old h old.queues.flow_states) d.rest
          ∙ ap (λ (n : ℕ). record old { queues = with_queues old.queues (set old.queues.lists.queues flow (drop n (queue_at old.queues.lists flow))); comparisons = flows'.comparisons }) size;
      few_comparisons = rw (← size) d.few_comparisons;
      journal = rw (← size) d.journal;
    }

-- then fewer packets wait
pub fewer_wait : (most moment : ℕ) (old new : Held) (book book' : Book) → 1 ≤ most → LosesBatch most moment old book new book' → waiting_in new.queues.lists < waiting_in old.queues.lists
fewer_wait most moment old new book book' some d =
    omega (arith, fewer_behind most old.queues.lists.queues d.flow some d.fattest, ap (λ (v : Held). waiting_in v.queues.lists) d.rest)

-- BATCH BY BATCH

-- Behind some batches: an overflow of what waits now goes on from them to one of what waited at first. They are dropped,
-- with few comparisons for each packet, and the journal has room for what waits.
pub record HasLost (p : ParamFields) (moment : ℕ) (old : Held) (book : Book) (now : Held) (book' : Book) : Type 0 where
  pub lost : List Batch
  pub goes_on : (batches : List Batch) (queues' : List (List Waiting)) → Overflow p now.queues.lists.queues batches queues' → Overflow p old.queues.lists.queues (lost ++ batches) queues'
  pub rest : now ≡ record old { queues = with_queues old.queues now.queues.lists.queues; comparisons = now.comparisons }
  pub few_comparisons : CountsFew (length old.queues.lists.queues) (length (packets_of lost)) old.comparisons now.comparisons
  pub journal : book' ≡ with_drops book moment cause.Overflow (packets_of lost)
  pub room : waiting_in now.queues.lists ≤ book'.room
  pub flows : length now.queues.lists.queues ≡ length old.queues.lists.queues

pub lost_none : (p : ParamFields) (moment : ℕ) (old : Held) (book : Book) → waiting_in old.queues.lists ≤ book.room → HasLost p moment old book old book
lost_none p moment old book room = record {
  lost = [];
  goes_on = λ batches queues' o. o;
  rest = refl;
  few_comparisons = counts_none (length old.queues.lists.queues) old.comparisons old.comparisons refl;
  journal = drops_none book moment cause.Overflow;
  room = room;
  flows = refl;
}

-- drops behind drops
drops_join : (book : Book) (moment : ℕ) (why : Cause) (ws vs : List Waiting) → with_drops (with_drops book moment why ws) moment why vs ≡ with_drops book moment why (ws ++ vs)
drops_join book moment why ws [] = sym (drops_none (with_drops book moment why ws) moment why) ∙ ap (with_drops book moment why) (sym (append-nil ws))
drops_join book moment why ws (v ∷ vs) =
    first_of (with_drops book moment why ws)
    ∙ ap (λ (b : Book). with_drops b moment why vs) (drops_more book moment why ws v)
    ∙ drops_join book moment why (ws ++ v ∷ []) vs
    ∙ ap (with_drops book moment why) (append_assoc ws (v ∷ []) vs)
  where
    first_of : (b : Book) → with_drops b moment why (v ∷ vs) ≡ with_drops (with_drops b moment why (v ∷ [])) moment why vs
    first_of b = λ i. record {
      events = sym (append_assoc b.events (drop_event moment why v ∷ []) (map (drop_event moment why) vs)) i;
      sent = b.sent;
      lost = sym (append_assoc b.lost (v ∷ []) vs) i;
      counts = count_drops why b.counts (v ∷ vs);
      room = room_is i;
      made_for = b.made_for;
    }
      where
        room_is : b.room - length (v ∷ vs) ≡ (b.room - 1) - length vs
        room_is = omega arith

-- and one batch more
pub lost_more : (p : ParamFields) (moment : ℕ) (old now new : Held) (book book' book'' : Book) → HasLost p moment old book now book' → Exceeds p now.queues.lists.queues
    → LosesBatch p.drop_batch moment now book' new book'' → HasLost p moment old book new book''
lost_more p moment old now new book book' book'' h much d =
    let queues = now.queues.lists.queues in
    let batch = batch_of p.drop_batch queues d.flow in
    let q = get_or queues d.flow [] in
    let next = without_batch p.drop_batch queues d.flow in
    let queues_are : new.queues.lists.queues ≡ next = ap (λ (v : Held). v.queues.lists.queues) d.rest in
    let gone : packets_of (h.lost ++ batch ∷ []) ≡ packets_of h.lost ++ batch.gone = flat_map-append (λ (b : Batch). b.gone) h.lost (batch ∷ []) ∙ ap (λ (l : List Waiting). packets_of h.lost ++ l) (append-nil batch.gone) in
    record {
      lost = h.lost ++ batch ∷ [];
      goes_on = λ batches queues' o. subst (λ (bs : List Batch). Overflow p old.queues.lists.queues bs queues') (sym (append_assoc h.lost (batch ∷ []) batches))
          (h.goes_on (batch ∷ batches) queues' (much, d.fattest, refl, subst (λ (qs : List (List Waiting)). Overflow p qs batches queues') queues_are o));
      rest = d.rest
          ∙ ap (λ (v : Held). record v { queues = with_queues v.queues next; comparisons = new.comparisons }) h.rest
          ∙ ap (λ (qs : List (List Waiting)). record old { queues = with_queues old.queues qs; comparisons = new.comparisons }) (sym queues_are);
      few_comparisons = rw (gone, length-append (packets_of h.lost) batch.gone)
          (counts_on (length old.queues.lists.queues) (length (packets_of h.lost)) (length batch.gone) old.comparisons now.comparisons new.comparisons h.few_comparisons (rw h.flows at d.few_comparisons));
      journal = d.journal ∙ ap (λ (b : Book). with_drops b moment cause.Overflow batch.gone) h.journal ∙ drops_join book moment cause.Overflow (packets_of h.lost) batch.gone ∙ ap (with_drops book moment cause.Overflow) (sym gone);
      room =
          let n = batch_size p.drop_batch (length q) in
          let waiting = ap (λ (qs : List (List Waiting)). sum_by length qs) queues_are in
          let sums = sum_by-set length queues d.flow (drop n q) [] d.fattest.within in
          omega (arith, waiting, sums, length-take n q, length-drop n q, h.room, ap (λ (b : Book). b.room) d.journal);
      flows = ap (λ (qs : List (List Waiting)). length qs) queues_are ∙ length-set queues d.flow _ ∙ h.flows;
    }

-- Once nothing exceeds any more, all that overflows was dropped.
pub lost_all : (p : ParamFields) (moment : ℕ) (old now : Held) (book book' : Book) → HasLost p moment old book now book' → ¬ Exceeds p now.queues.lists.queues
    → DropsOverflow p moment old book now book'
lost_all p moment old now book book' h not = record {
  batches = h.lost;
  overflow = subst (λ (bs : List Batch). Overflow p old.queues.lists.queues bs now.queues.lists.queues) (append-nil h.lost) (h.goes_on [] now.queues.lists.queues (not, refl));
  rest = h.rest;
  few_comparisons = h.few_comparisons;
  journal = h.journal;
}
