-- What a push and a pop leave of the chains, and what callers see of it.
use Rattle.std.proofs.Common.{◌≡◌, ◌≢◌, ◌⊎◌, ℕ, ◌+◌, ◌-◌, ◌<◌, ◌≤◌, Option, None, Some, is_some, cond, List, [], ◌∷◌, ◌++◌, length, map, get_or, set, drop, slice_get, refl, sym, ap, subst, sum_by, ◌∙◌, inl, inr, arith, length-append}
use Rattle.std.specs.Vec.{with_item}
use Rattle.std.proofs.Math.ListN.{get_or-map}
use Rattle.std.proofs.lemmas.Bool.{cases_eq, cases_lt}
use Rattle.std.proofs.lemmas.List.{ext_get_or, get_or_default, get_or-set_other, get_or-set_same, length-map, length-set, map-append, set-get_or}
use Rattle.std.proofs.lemmas.List.Sums.{sum_by-set}
use Rattle.packet_core.specs.declared.packet.Waiting.{Waiting}
use Rattle.slab.specs.Slab.{ContainsKey, Slab, Updates, get, slab_len, with_value}
use Rattle.slab.proofs.SlabLemmas.{ContainsKey-within, Updates-with_value}
use Rattle.codel_core.specs.declared.limits.TheConstants.{MAX_WAITING}
use Rattle.flow_core.specs.declared.linked_queues.Chain.{Chain}
use Rattle.flow_core.specs.declared.linked_queues.LinkedQueues.TheInside.{Inside}
use Rattle.flow_core.specs.declared.linked_queues.FreeSlots.{FreeSlots}
use Rattle.flow_core.specs.declared.linked_queues.Link.{Link}
use Rattle.flow_core.specs.Chains.{AreApart, AreChained, AreFree, AreLinked, HasEnds, HasKey, IsChain, IsInserted, IsReused, Placed, no_packets, packets_of, queues_of}
use Rattle.flow_core.proofs.ReadLemmas.{length-at}
use Rattle.flow_core.proofs.PlacedLemmas.{Extends, apart_push, comes_behind, comes_first, empty_slot, ends_empty, ends_push, ends_split, first_free, has_push, has_slot, linked_stays, packets_of-linked, waitings}

-- a flow's packets, as callers see them
chain_seen : (slots : Slab Link) (chains : List Chain) (flow : ℕ) (c : IsChain slots (get_or chains flow no_packets)) → get_or (map (packets_of slots) chains) flow [] ≡ waitings c.placed
chain_seen slots chains flow c =
    get_or-map (packets_of slots) chains flow no_packets ∙ packets_of-linked slots c.placed (get_or chains flow no_packets) c.is c.linked

-- a slot that is written again counts as before
slab_len-with_value : (slots : Slab Link) (key : ℕ) (link : Link) → ContainsKey slots key → slab_len (with_value slots key link) ≡ slab_len slots
slab_len-with_value slots key link present =
    let within = ContainsKey-within slots key present in
    let counts : ◌≡◌ {A = ℕ} (cond (is_some (get slots key)) 1 0) 1 = rw present refl in
    omega (arith, sum_by-set (λ (o : Option Link). cond (is_some o) 1 0) slots.slots key (Some link) None within, counts)

-- The chains keep what they owe, and callers see these queues.
pub record AreSeenAs (f : Inside) (queues : List (List Waiting)) : Type 0 where
  pub kept : AreChained f
  pub seen : (queues_of f).queues ≡ queues

-- A packet comes into a slot that no flow has, in memory that was taken ahead. These slots are free afterwards.
pub record Arrives (f : Inside) (kept : AreChained f) (new : Slab Link) (free : FreeSlots) (added : Placed) : Type 0 where
  pub absent : (flow : ℕ) → HasKey (kept.each flow).placed added.key → ⊥
  pub updates : Updates f.slots new added.key (Some (record { waiting = added.waiting; next = 0 }))
  pub freed : AreFree new free
  pub apart : HasKey freed.left added.key → ⊥
  pub unused : (flow key : ℕ) → HasKey (kept.each flow).placed key → HasKey freed.left key → ⊥
  pub counted : slab_len new + f.free.len ≡ slab_len f.slots + free.len + 1
  pub few : slab_len new ≤ MAX_WAITING
  pub held : slab_len new ≤ new.capacity
  pub fits : new.capacity ≡ f.slots.capacity

module _ (f : Inside) (kept : AreChained f) (new : Slab Link) (free : FreeSlots) (added : Placed) where
  abbrev link_added : Link
  link_added = record { waiting = added.waiting; next = 0 }

  -- into a slot that was empty
  arrives_new : f.free.len ≡ 0 → IsInserted f.slots new f.free free link_added added.key → sum_by length (queues_of f).queues < MAX_WAITING → sum_by length (queues_of f).queues < f.capacity → Arrives f kept new free added
  arrives_new empty is size room =
      let len = ap (λ (s : FreeSlots). s.len) is.none in
      record {
        absent = λ flow has. let c = kept.each flow in empty_slot f.slots c.placed added.key is.was_vacant c.linked has;
        updates = is.updates;
        freed = record { left = []; first = refl; len = omega (arith, len, empty); linked = tt; once = tt };
        apart = λ none. none;
        unused = λ flow key has none. none;
        counted = omega (arith, is.counted, len);
        few = omega (arith, is.counted, kept.counted, empty, size);
        held = omega (arith, is.counted, is.capacity, kept.counted, kept.fits, empty, room);
        fits = is.capacity;
      }

  -- into the first one of the free slots
  arrives_again : 0 < f.free.len → IsReused f.slots new f.free free link_added added.key → Arrives f kept new free added
  arrives_again some is =
      let was = first_free f.slots f.free kept.freed.left kept.freed.first kept.freed.len kept.freed.linked kept.freed.once some in
      let there = has_slot f.slots kept.freed.left f.free.first kept.freed.linked was.has in
      let updates : Updates f.slots new added.key (Some link_added) = rw (is.was_first, is.written) (Updates-with_value f.slots f.free.first link_added there) in
      let apart : HasKey was.others.left added.key → ⊥ = rw is.was_first was.apart in
      let same : slab_len new ≡ slab_len f.slots = rw is.written (slab_len-with_value f.slots f.free.first link_added there) in
      let capacity : new.capacity ≡ f.slots.capacity = ap (λ (s : Slab Link). s.capacity) is.written in
      let len : free.len ≡ f.free.len - 1 = ap (λ (s : FreeSlots). s.len) is.others in
      record {
        absent = λ flow has. kept.unused flow added.key has (rw is.was_first was.has);
        updates = updates;
        freed = record {
          left = was.others.left;
          first = rw is.others was.others.first;
          len = rw is.others was.others.len;
          linked =
              linked_stays f.slots new was.others.left (λ key has. updates.others key (λ (same : key ≡ added.key). apart (subst (λ (k : ℕ). HasKey was.others.left k) same has))) was.others.linked;
          once = was.others.once;
        };
        apart = apart;
        unused = λ flow key has there. kept.unused flow key has (was.among key there);
        counted = omega (arith, same, len, some);
        few = omega (arith, same, kept.few);
        held = omega (arith, same, capacity, kept.held);
        fits = capacity;
      }

  pub arrives : (f.free.len ≡ 0 → IsInserted f.slots new f.free free link_added added.key) → (0 < f.free.len → IsReused f.slots new f.free free link_added added.key)
      → sum_by length (queues_of f).queues < MAX_WAITING → sum_by length (queues_of f).queues < f.capacity → Arrives f kept new free added
  arrives inserted reused size room =
      elim (cases_lt 0 f.free.len) [
        | inl some ↦ arrives_again some (reused some)
        | inr none ↦ let empty : f.free.len ≡ 0 = omega arith in arrives_new empty (inserted empty) size room
      ]

-- The flow's packets in the new slab, where the other flows' packets stay as they are, and the free slots.
record Replaces (f : Inside) (kept : AreChained f) (flow : ℕ) (new : Slab Link) (free : FreeSlots) (ps : List Placed) : Type 0 where
  pub linked : AreLinked new ps
  pub once : AreApart ps
  pub stays : (other key : ℕ) → other ≢ flow → HasKey (kept.each other).placed key → get new key ≡ get f.slots key
  pub apart : (other key : ℕ) → HasKey ps key → HasKey (kept.each other).placed key → flow ≡ other
  pub freed : AreFree new free
  pub unused : (key : ℕ) → HasKey ps key → HasKey freed.left key → ⊥
  pub others : (other key : ℕ) → other ≢ flow → HasKey (kept.each other).placed key → HasKey freed.left key → ⊥
  pub counted : slab_len new + length (kept.each flow).placed + f.free.len ≡ slab_len f.slots + length ps + free.len

module _ (f : Inside) (kept : AreChained f) (flow : ℕ) (within : flow < length (queues_of f).queues) where
  -- the packets of the flow, with their slots
  abbrev pub held : List Placed
  held = (kept.each flow).placed

  -- and as callers see them
  abbrev pub queue_seen : List Waiting
  queue_seen = get_or (queues_of f).queues flow []

  at_seen : queue_seen ≡ waitings held
  at_seen = chain_seen f.slots f.chains.items flow (kept.each flow)

  pub length_seen : length queue_seen ≡ length held
  length_seen = ap length at_seen ∙ length-map held (λ (p : Placed). p.waiting)

  -- no more packets wait in a flow than in all of them
  pub few_held : length held ≤ slab_len f.slots
  few_held = omega (arith, length-at (queues_of f).queues flow, length_seen, kept.counted)

  -- the flow has a chain
  has_chain : flow < length f.chains.items
  has_chain = omega (arith, within, length-map f.chains.items (packets_of f.slots))

  -- the ends of the flow, as they are read
  pub ends_read : (read : Chain) → read ≡ get_or f.chains.items flow read → HasEnds held read
  ends_read read found =
      subst (λ (c : Chain). HasEnds held c) (get_or_default f.chains.items flow no_packets read has_chain ∙ sym found) (kept.each flow).is

  -- ends that are written as they were change nothing
  pub ends_written : (read : Chain) → read ≡ get_or f.chains.items flow read → AreChained (record { slots = f.slots; chains = with_item f.chains flow read; free = f.free; capacity = f.capacity })
  ends_written read found =
      let same : set f.chains.items flow read ≡ f.chains.items = ap (λ (c : Chain). set f.chains.items flow c) found ∙ set-get_or f.chains.items flow read in
      record {
        each = λ other. let c = kept.each other in record { placed = c.placed; is = rw same c.is; linked = c.linked; once = c.once };
        apart = kept.apart;
        freed = kept.freed;
        unused = kept.unused;
        counted = rw same kept.counted;
        flows = kept.flows;
        few = kept.few;
        held = kept.held;
        fits = kept.fits;
      }

  module _ (new : Slab Link) (free : FreeSlots) (ps : List Placed) (ends : Chain) (are : Replaces f kept flow new free ps) (is : HasEnds ps ends) where
    abbrev each_by : (other : ℕ) → (other ≡ flow) ⊎ (other ≢ flow) → IsChain new (get_or (set f.chains.items flow ends) other no_packets)
    each_by other (inl same) = record { placed = ps; is = rw (same, get_or-set_same f.chains.items flow ends no_packets has_chain) is; linked = are.linked; once = are.once }
    each_by other (inr ne) =
        let c = kept.each other in
        record {
          placed = c.placed;
          is = rw (get_or-set_other f.chains.items flow other ends no_packets ne) c.is;
          linked = linked_stays f.slots new c.placed (λ key has. are.stays other key ne has) c.linked;
          once = c.once;
        }

    apart_by : (one other key : ℕ) (a : (one ≡ flow) ⊎ (one ≢ flow)) (b : (other ≡ flow) ⊎ (other ≢ flow)) → HasKey (each_by one a).placed key → HasKey (each_by other b).placed key → one ≡ other
    apart_by one other key (inl same) (inl also) first second = same ∙ sym also
    apart_by one other key (inl same) (inr differs) first second = same ∙ are.apart other key first second
    apart_by one other key (inr differs) (inl also) first second = sym (are.apart one key second first) ∙ sym also
    apart_by one other key (inr differs) (inr also) first second = kept.apart one other key first second

    unused_by : (other key : ℕ) (a : (other ≡ flow) ⊎ (other ≢ flow)) → HasKey (each_by other a).placed key → HasKey are.freed.left key → ⊥
    unused_by other key (inl same) has there = are.unused key has there
    unused_by other key (inr ne) has there = are.others other key ne has there

    seen_by : (other : ℕ) → (other ≡ flow) ⊎ (other ≢ flow) → get_or (map (packets_of new) (set f.chains.items flow ends)) other [] ≡ get_or (set (queues_of f).queues flow (waitings ps)) other []
    seen_by other (inl same) =
        chain_seen new (set f.chains.items flow ends) other (each_by other (inl same)) ∙ sym (rw same (get_or-set_same (queues_of f).queues flow (waitings ps) [] within))
    seen_by other (inr ne) =
        chain_seen new (set f.chains.items flow ends) other (each_by other (inr ne))
        ∙ sym (get_or-set_other (queues_of f).queues flow other (waitings ps) [] ne ∙ chain_seen f.slots f.chains.items other (kept.each other))

    -- the flow's queue is another one
    queue_set : slab_len new ≤ MAX_WAITING → slab_len new ≤ new.capacity → new.capacity ≡ f.slots.capacity → AreSeenAs (record { slots = new; chains = with_item f.chains flow ends; free = free; capacity = f.capacity }) (set (queues_of f).queues flow (waitings ps))
    queue_set few held_in fits =
        let seen = ext_get_or [] (map (packets_of new) (set f.chains.items flow ends)) (set (queues_of f).queues flow (waitings ps))
        (simp (length-map, length-set)) (λ other _. seen_by other (cases_eq other flow)) in
        record {
          kept = record {
            each = λ other. each_by other (cases_eq other flow);
            apart = λ one other key. apart_by one other key (cases_eq one flow) (cases_eq other flow);
            freed = are.freed;
            unused = λ other key. unused_by other key (cases_eq other flow);
            counted = let count = sum_by-set length (queues_of f).queues flow (waitings ps) [] within in
                rw seen (omega (arith, count, kept.counted, are.counted, length_seen, length-map ps (λ (p : Placed). p.waiting)));
            flows = kept.flows;
            few = few;
            held = held_in;
            fits = rw fits kept.fits;
          };
          seen = seen;
        }

  -- a packet comes to the end of the flow's queue
  pushed : (mid new : Slab Link) (free : FreeSlots) (added : Placed) (ends : Chain) → Arrives f kept mid free added → slab_len new ≡ slab_len mid → new.capacity ≡ mid.capacity → Extends f.slots new held added → HasEnds (held ++ added ∷ []) ends
      → AreSeenAs (record { slots = new; chains = with_item f.chains flow ends; free = free; capacity = f.capacity }) (set (queues_of f).queues flow (queue_seen ++ added.waiting ∷ []))
  pushed mid new free added ends arrives same fits extends is =
      let differs : (key : ℕ) → HasKey arrives.freed.left key → key ≢ added.key = λ key has (same : key ≡ added.key). arrives.apart (subst (λ (k : ℕ). HasKey arrives.freed.left k) same has) in
      let are : Replaces f kept flow new free (held ++ added ∷ []) = record {
        linked = extends.linked;
        once = apart_push held added (arrives.absent flow) (kept.each flow).once;
        stays = λ other key differs has. extends.others key
            (λ (same : key ≡ added.key). arrives.absent other (subst (λ (k : ℕ). HasKey (kept.each other).placed k) same has))
            (λ also. differs (kept.apart other flow key has also));
        apart = λ other key has there. elim (has_push held added key has) [
          | inl among ↦ kept.apart flow other key among there
          | inr same ↦ absurd (arrives.absent other (subst (λ (k : ℕ). HasKey (kept.each other).placed k) (sym same) there))
        ];
        freed = record {
          left = arrives.freed.left;
          first = arrives.freed.first;
          len = arrives.freed.len;
          linked = linked_stays mid new arrives.freed.left
              (λ key has. extends.others key (differs key has) (λ also. arrives.unused flow key also has) ∙ sym (arrives.updates.others key (differs key has))) arrives.freed.linked;
          once = arrives.freed.once;
        };
        unused = λ key has there. elim (has_push held added key has) [
          | inl among ↦ arrives.unused flow key among there
          | inr same ↦ differs key there (sym same)
        ];
        others = λ other key _ has there. arrives.unused other key has there;
        counted = omega (arith, same, arrives.counted, length-append held (added ∷ []));
      } in
      let queue : queue_seen ++ added.waiting ∷ [] ≡ waitings (held ++ added ∷ []) =
      ap (λ (ws : List Waiting). ws ++ added.waiting ∷ []) at_seen ∙ sym (map-append (λ (p : Placed). p.waiting) held (added ∷ [])) in
      rw queue (queue_set new free (held ++ added ∷ []) ends are is (omega (arith, same, arrives.few)) (omega (arith, same, fits, arrives.held)) (fits ∙ arrives.fits))

  -- it comes behind the last one
  pub pushed_behind : (mid : Slab Link) (free : FreeSlots) (added : Placed) (chain : Chain) (link : Link) → Arrives f kept mid free added → HasEnds held chain → chain.len ≢ 0 → get mid chain.last ≡ Some link
      → AreSeenAs
      (record {
        slots = with_value mid chain.last (record { waiting = link.waiting; next = added.key });
        chains = with_item f.chains flow (record { first = chain.first; last = added.key; len = chain.len + 1 });
        free = free;
        capacity = f.capacity;
      })
      (set (queues_of f).queues flow (queue_seen ++ added.waiting ∷ []))
  pushed_behind mid free added chain link arrives ends some found =
      let joined : Link = record { waiting = link.waiting; next = added.key } in
      pushed mid (with_value mid chain.last joined) free added (record { first = chain.first; last = added.key; len = chain.len + 1 }) arrives
      (slab_len-with_value mid chain.last joined (rw found refl)) refl
      (comes_behind f.slots mid held chain added link ends some (kept.each flow).linked (kept.each flow).once (arrives.absent flow) arrives.updates found)
      (ends_push held added chain ends some)

  -- it comes to an empty flow
  pub pushed_first : (mid : Slab Link) (free : FreeSlots) (added : Placed) (chain : Chain) → Arrives f kept mid free added → HasEnds held chain → chain.len ≡ 0
      → AreSeenAs (record { slots = mid; chains = with_item f.chains flow (record { first = added.key; last = added.key; len = 1 }); free = free; capacity = f.capacity })
      (set (queues_of f).queues flow (queue_seen ++ added.waiting ∷ []))
  pushed_first mid free added chain arrives ends empty =
      let none = ends_empty held chain ends empty in
      pushed mid mid free added (record { first = added.key; last = added.key; len = 1 }) arrives refl refl
      (subst (λ (ps : List Placed). Extends f.slots mid ps added) (sym none) (comes_first f.slots mid added arrives.updates)) (rw none refl)

  -- the first packet of the flow goes, and its slot is the first one of the free slots
  pub popped : (chain : Chain) (first : Link) → HasEnds held chain → chain.len ≢ 0 → get f.slots chain.first ≡ Some first
      → AreSeenAs
      (record {
        slots = with_value f.slots chain.first (record { waiting = first.waiting; next = f.free.first });
        chains = with_item f.chains flow (record { first = first.next; last = chain.last; len = chain.len - 1 });
        free = record { first = chain.first; len = f.free.len + 1 };
        capacity = f.capacity;
      })
      (set (queues_of f).queues flow (drop 1 queue_seen))
      × (Some first.waiting ≡ slice_get queue_seen 0)
  popped chain first ends some found =
      let link : Link = record { waiting = first.waiting; next = f.free.first } in
      let new : Slab Link = with_value f.slots chain.first link in
      let there : ContainsKey f.slots chain.first = rw found refl in
      let updates = Updates-with_value f.slots chain.first link there in
      let same_len = slab_len-with_value f.slots chain.first link there in
      let split = ends_split f.slots held chain first ends some (kept.each flow).linked found in
      let linked : AreLinked f.slots (split.head ∷ split.rest) = subst (λ (ps : List Placed). AreLinked f.slots ps) split.is (kept.each flow).linked in
      let once : AreApart (split.head ∷ split.rest) = subst (λ (ps : List Placed). AreApart ps) split.is (kept.each flow).once in
      let among : (key : ℕ) → HasKey (split.head ∷ split.rest) key → HasKey held key = λ key has. subst (λ (ps : List Placed). HasKey ps key) (sym split.is) has in
      let leaves : HasKey held chain.first = among chain.first (inl (sym split.key)) in
      let goes : (key : ℕ) → HasKey split.rest key → key ≢ chain.first = λ key has (same : key ≡ chain.first). once.0 (subst (λ (k : ℕ). HasKey split.rest k) (same ∙ split.key) has) in
      let stays_free : (key : ℕ) → HasKey kept.freed.left key → key ≢ chain.first =
      λ key has (same : key ≡ chain.first). kept.unused flow chain.first leaves (subst (λ (k : ℕ). HasKey kept.freed.left k) same has) in
      let are : Replaces f kept flow new (record { first = chain.first; len = f.free.len + 1 }) split.rest = record {
        linked = linked_stays f.slots new split.rest (λ key has. updates.others key (goes key has)) linked.1;
        once = once.1;
        stays = λ other key differs has. updates.others key
            (λ (same : key ≡ chain.first). differs (kept.apart other flow key has (among key (inl (sym (same ∙ split.key))))));
        apart = λ other key has there. kept.apart flow other key (among key (inr has)) there;
        freed = record {
          left = record { key = chain.first; waiting = first.waiting } ∷ kept.freed.left;
          first = refl;
          len = omega (arith, kept.freed.len);
          linked = (
            (f.free.first, updates.changed ∙ ap (λ (next : ℕ). let l : Link = record { waiting = first.waiting; next = next } in Some l) kept.freed.first),
            linked_stays f.slots new kept.freed.left (λ key has. updates.others key (stays_free key has)) kept.freed.linked,
          );
          once = (λ has. stays_free chain.first has refl, kept.freed.once);
        };
        unused = λ key has there. elim there [ inl same ↦ goes key has (sym same) | inr left ↦ kept.unused flow key (among key (inr has)) left ];
        others = λ other key differs has there. elim there [
          | inl same ↦ differs (kept.apart other flow key has (subst (λ (k : ℕ). HasKey held k) same leaves))
          | inr left ↦ kept.unused other key has left
        ];
        counted = let len = ap length split.is in omega (arith, same_len, len);
      } in
      let queue : queue_seen ≡ split.head.waiting ∷ waitings split.rest = at_seen ∙ ap waitings split.is in (
        rw queue
            (queue_set new (record { first = chain.first; len = f.free.len + 1 }) split.rest (record { first = first.next; last = chain.last; len = chain.len - 1 }) are split.left
            (omega (arith, same_len, kept.few)) (omega (arith, same_len, kept.held)) refl),
        ap Some split.waiting ∙ ap (λ (ws : List Waiting). slice_get ws 0) (sym queue),
      )

-- more memory changes no chain
pub grown : (f : Inside) (kept : AreChained f) (memory capacity : ℕ) → f.slots.capacity ≤ memory → capacity ≤ memory
    → AreChained (record { slots = record f.slots { capacity = memory }; chains = f.chains; free = f.free; capacity = capacity })
grown f kept memory capacity more fits = record {
  each = λ flow. let c = kept.each flow in record { placed = c.placed; is = c.is; linked = c.linked; once = c.once };
  apart = kept.apart;
  freed = let c = kept.freed in record { left = c.left; first = c.first; len = c.len; linked = c.linked; once = c.once };
  unused = kept.unused;
  counted = kept.counted;
  flows = kept.flows;
  few = kept.few;
  held = omega (arith, kept.held, more);
  fits = fits;
}
