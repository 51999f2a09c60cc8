-- When the link has sent its packets whole.
use Rattle.std.proofs.Common.{◌≡◌, ℕ, ◌+◌, ◌*◌, ◌%◌, ◌^◌, ◌<◌, ◌≤◌, List, [], ◌∷◌, ◌++◌, map, max, Option, Some, None, refl, sym, ap, ◌∙◌, arith}
use Rattle.std.specs.Int.{div_ceil}
use Rattle.std.proofs.Math.Nat.{add-mul-mod_self_right, add_comm, max-eq_left, max-eq_right, mul-add-div_right, mul-le-mul_left}
use Rattle.std.proofs.lemmas.List.{append-nil}
use Rattle.std.proofs.lemmas.List.Elements.{filter_map-append}
use Rattle.std.proofs.lemmas.List.Sums.{fold-append}
use Rattle.packet_core.specs.Packets.{PacketParts}
use Rattle.packet_core.specs.declared.packet.Waiting.{Waiting}
use Rattle.journal_core.specs.declared.event.Cause.{Cause}
use Rattle.journal_core.specs.declared.event.Cause.TheVariants as cause
use Rattle.journal_core.specs.declared.event.Event.{Event}
use Rattle.journal_core.specs.declared.event.Event.TheVariants.{Accepted}
use Rattle.journal_core.specs.Disciplines.{Discipline, Given}
use Rattle.journal_core.specs.Steps.{drop_event, sent_events}
use Rattle.link_core.specs.declared.arrival.Arrival.{Arrival}
use Rattle.link_core.specs.declared.free_at.FreeAt.{FreeAt}
use Rattle.link_core.specs.declared.link.LinkFields.{LinkFields}
use Rattle.link_core.specs.Arrivals.{length_at}
use Rattle.link_core.specs.LinkLaws.{Sending, end_of, sending_of, sendings, sent_after, work_of}
use Rattle.link_core.specs.Links.{work}
use Rattle.link_core.specs.QueueDisciplines.{HasArrived, Progress}
use Rattle.link_core.specs.Underway.{AreComing, ComesAfter, HasAsked, HasSentBy, IsFreeFrom, SendsGiven, free_or, longest_wire_time, units_of}
use Rattle.link_core.proofs.Throughput.{drops_send, given_sendings, given_sends}

-- what a dequeue sends
pub dequeue_sends : (moment : ℕ) (why : Cause) (gone : List Waiting) (given : Option Given) → sendings (map (drop_event moment why) gone ++ sent_events moment given) ≡ given_sendings moment given
dequeue_sends moment why gone given =
    filter_map-append sending_of (map (drop_event moment why) gone) (sent_events moment given) ∙ rw (drops_send moment why gone) (given_sends moment given)

-- events that send nothing
pub none_more : (events made : List Event) → sendings made ≡ [] → sendings (events ++ made) ≡ sendings events
none_more events made none = filter_map-append sending_of events made ∙ ap (λ (l : List Sending). sendings events ++ l) none ∙ append-nil (sendings events)

module _ (link : LinkFields) (arrivals : List Arrival) where
  -- and those that send one packet
  one_more : (events made : List Event) (s : Sending) → sendings made ≡ s ∷ []
      → sent_after link arrivals 0 (sendings (events ++ made)) ≡ max (sent_after link arrivals 0 (sendings events)) (s.moment * link.rate) + work_of link arrivals s
  one_more events made s one =
      ap (sent_after link arrivals 0) (filter_map-append sending_of events made ∙ ap (λ (l : List Sending). sendings events ++ l) one)
      ∙ fold-append (λ (from : ℕ) (x : Sending). max from (x.moment * link.rate) + work_of link arrivals x) 0 (sendings events) (s ∷ [])

  -- A link that has sent what it was given was asked at that time, or when it got free.
  pub record IsAskedFrom (events : List Event) (now : FreeAt) (coming : List Arrival) (done : FreeAt) : Type 0 where
    pub exact : units_of link done ≡ sent_after link arrivals 0 (sendings events)
    pub rest : done.rest ≤ link.rate
    pub soon : done.moment ≤ 2 ^ 60 + longest_wire_time
    pub still : IsFreeFrom link None coming done
    pub starts : max (units_of link done) (now.moment * link.rate) ≡ units_of link now
    pub early : now.moment < 2 ^ 60

  pub asked_sent : (events made : List Event) (now : FreeAt) (given : Option Given) (busy : Option FreeAt) (coming : List Arrival) (done : FreeAt)
      → IsAskedFrom events now coming done → sendings made ≡ given_sendings now.moment given → SendsGiven link arrivals now given busy
      → HasSentBy link arrivals (events ++ made) busy coming (free_or busy done)
  asked_sent events made now None None coming done a sends s = record {
    exact = a.exact ∙ ap (sent_after link arrivals 0) (sym (none_more events made sends));
    from = a.still;
    rest = a.rest;
    soon = a.soon;
  }
  asked_sent events made now None (Some f) coming done a sends s = absurd s
  asked_sent events made now (Some g) None coming done a sends s = absurd s
  asked_sent events made now (Some g) (Some f) coming done a sends s =
      let starts : units_of link now ≡ max (sent_after link arrivals 0 (sendings events)) (now.moment * link.rate) = sym a.starts ∙ ap (λ (u : ℕ). max u (now.moment * link.rate)) a.exact in
      let early = a.early in
      let soon = s.soon in
      record {
        exact = s.exact ∙ ap (λ (u : ℕ). u + work link (length_at arrivals g.waiting.id)) starts ∙ sym (one_more events made (record { id = g.waiting.id; moment = now.moment }) sends);
        from = refl;
        rest = omega (arith, s.rest);
        soon = omega arith;
      }

  -- what comes after the microsecond in which the link gets free comes when it is free
  free_before : (f : FreeAt) (coming : List Arrival) → f.rest < link.rate → ComesAfter f.moment coming → IsFreeFrom link None coming f
  free_before f [] rest later = tt
  free_before f (a ∷ more) rest later =
      let up : f.moment + 1 ≤ a.moment = let e : f.moment < a.moment = later in omega arith in
      let times = mul-le-mul_left link.rate up in
      omega arith

  -- a link that gets free before the next packet comes
  pub asked_busy : (events : List Event) (f : FreeAt) (coming : List Arrival) (done : FreeAt) → HasSentBy link arrivals events (Some f) coming done → f.rest < link.rate → ComesAfter f.moment coming → f.moment < 2 ^ 60
      → IsAskedFrom events f coming done
  asked_busy events f coming done h rest later early =
      let same : done ≡ f = h.from in
      record {
        exact = h.exact;
        rest = h.rest;
        soon = h.soon;
        still = rw same (free_before f coming rest later);
        starts = rw same (max-eq_left (omega arith));
        early = early;
      }

  -- and one to which a packet came while it was idle
  still_free : (moment : ℕ) (coming : List Arrival) (done : FreeAt) → units_of link done ≤ moment * link.rate → AreComing moment coming → IsFreeFrom link None coming done
  still_free moment [] done before comes = tt
  still_free moment (a ∷ rest) done before comes =
      let low = comes.0 in
      let times = mul-le-mul_left link.rate low in
      omega arith

  pub asked_idle : (events made : List Event) (a : Arrival) (rest : List Arrival) (done : FreeAt) → HasSentBy link arrivals events None (a ∷ rest) done → sendings made ≡ [] → AreComing a.moment rest → a.moment < 2 ^ 60
      → IsAskedFrom (events ++ made) (record { moment = a.moment; rest = 0 }) rest done
  asked_idle events made a rest done h none comes early =
      let before : units_of link done ≤ a.moment * link.rate = h.from in
      record {
        exact = h.exact ∙ ap (sent_after link arrivals 0) (sym (none_more events made none));
        rest = h.rest;
        soon = h.soon;
        still = still_free a.moment rest done before comes;
        starts = max-eq_right before ∙ omega arith;
        early = early;
      }

  -- a packet comes while the link sends
  pub taken_sent : (events made : List Event) (f : FreeAt) (coming rest : List Arrival) (done : FreeAt) → HasSentBy link arrivals events (Some f) coming done → sendings made ≡ [] → HasSentBy link arrivals (events ++ made) (Some f) rest done
  taken_sent events made f coming rest done h none = record {
    exact = h.exact ∙ ap (sent_after link arrivals 0) (sym (none_more events made none));
    from = h.from;
    rest = h.rest;
    soon = h.soon;
  }

  -- before the first packet
  pub opening_sent : (done : FreeAt) → done ≡ record { moment = 0; rest = 0 } → HasSentBy link arrivals [] None arrivals done
  opening_sent done is = rw is (record { exact = omega arith; from = first arrivals; rest = omega arith; soon = omega arith })
    where
      first : (coming : List Arrival) → IsFreeFrom link None coming (record { moment = 0; rest = 0 })
      first [] = tt
      first (a ∷ rest) = omega arith

-- an enqueue sends nothing
pub enqueue_sends : (lane id moment flow : ℕ) (packet : PacketParts) (gone : List Waiting) → sendings (Accepted lane id moment flow packet ∷ map (drop_event moment cause.Overflow) gone) ≡ []
enqueue_sends lane id moment flow packet gone = drops_send moment cause.Overflow gone

-- whatever the discipline is
module _ {Q : Type 0} (d : Discipline Q) (link : LinkFields) (arrivals : List Arrival) where
  -- it was asked
  pub after_asked : (old new : Progress Q) (now : FreeAt) (busy : Option FreeAt) (coming : List Arrival) (done : FreeAt) → HasAsked d link arrivals now old busy new → IsAskedFrom link arrivals old.standing.events now coming done
      → HasSentBy link arrivals new.standing.events busy coming (free_or busy done)
  after_asked old new now busy coming done asked from =
      let g = asked.serves.gives in
      let sends : sendings g.made ≡ given_sendings now.moment g.given = ap sendings g.serves.told ∙ dequeue_sends now.moment cause.Codel g.serves.dropped g.given in
      rw g.journal (asked_sent link arrivals old.standing.events g.made now g.given busy coming done from sends asked.sends)

  -- a packet came in
  module _ (old new : Progress Q) (a : Arrival) (came : HasArrived d old a.moment a.packet new) where
    arrival_sends : sendings came.advances.made ≡ []
    arrival_sends = ap sendings came.advances.makes.1.told ∙ enqueue_sends 0 old.standing.state.next_id a.moment (d.flow_of a.packet.tuple) a.packet came.advances.makes.1.lost

    pub after_taken : (f : FreeAt) (coming rest : List Arrival) (done : FreeAt) → HasSentBy link arrivals old.standing.events (Some f) coming done → HasSentBy link arrivals new.standing.events (Some f) rest done
    after_taken f coming rest done h = rw came.advances.journal (taken_sent link arrivals old.standing.events came.advances.made f coming rest done h arrival_sends)

    pub after_idle : (rest : List Arrival) (done : FreeAt) → HasSentBy link arrivals old.standing.events None (a ∷ rest) done → AreComing a.moment rest → a.moment < 2 ^ 60
        → IsAskedFrom link arrivals new.standing.events (record { moment = a.moment; rest = 0 }) rest done
    after_idle rest done h comes early = rw came.advances.journal (asked_idle link arrivals old.standing.events came.advances.made a rest done h arrival_sends comes early)

-- a time in whole microseconds, rounded up
pub rounded : (moment rest rate : ℕ) → 0 < rate → moment + div_ceil rest rate ≡ div_ceil (moment * rate + rest) rate
rounded moment rest rate some =
    let whole = mul-add-div_right some moment rest in
    let left : (moment * rate + rest) % rate ≡ rest % rate = ap (λ (n : ℕ). n % rate) (add_comm (moment * rate) rest) ∙ add-mul-mod_self_right rest moment rate in
    rw (whole, left) (omega arith)

-- the end
pub ends_at : (link : LinkFields) (arrivals : List Arrival) (events : List Event) (busy : Option FreeAt) (coming : List Arrival) (done : FreeAt) (end : ℕ) → HasSentBy link arrivals events busy coming done
    → end ≡ div_ceil (units_of link done) link.rate → end ≡ end_of link arrivals events
ends_at link arrivals events busy coming done end h is = is ∙ ap (λ (u : ℕ). div_ceil u link.rate) h.exact
