-- Packets that stand in slots of their own, each with the key of the one behind it.
use Rattle.std.proofs.Common.{◌≡◌, ◌≢◌, ◌⊎◌, ℕ, suc, ◌+◌, ◌-◌, ◌<◌, None, Some, List, [], ◌∷◌, ◌++◌, length, map, refl, sym, ap, subst, ◌∙◌, inl, inr, arith, length-append}
use Rattle.packet_core.specs.declared.packet.Waiting.{Waiting}
use Rattle.slab.specs.Slab.{ContainsKey, Slab, Updates, get, with_value}
use Rattle.slab.proofs.SlabLemmas.{Updates-with_value}
use Rattle.flow_core.specs.declared.linked_queues.Chain.{Chain}
use Rattle.flow_core.specs.declared.linked_queues.FreeSlots.{FreeSlots}
use Rattle.flow_core.specs.declared.linked_queues.Link.{Link}
use Rattle.flow_core.specs.Chains.{AreApart, AreFree, AreLinked, HasEnds, HasKey, Placed, first_key, last_key, next_of, packets_from, packets_of}

-- the packets alone
abbrev pub waitings : List Placed → List Waiting
waitings ps = map (λ p. p.waiting) ps

-- each one's slot is filled
pub has_slot : (slots : Slab Link) (ps : List Placed) (key : ℕ) → AreLinked slots ps → HasKey ps key → ContainsKey slots key
has_slot slots [] key linked has = absurd has
has_slot slots (p ∷ ps) key linked has =
    elim has [
      | inl same ↦ rw (← same, linked.0.1) refl
      | inr behind ↦ has_slot slots ps key linked.1 behind
    ]

pub empty_slot : (slots : Slab Link) (ps : List Placed) (key : ℕ) → get slots key ≡ None → AreLinked slots ps → HasKey ps key → ⊥
empty_slot slots ps key empty linked has = let there = rw empty at (has_slot slots ps key linked has) in cc

-- they stay where their slots do
pub linked_stays : (old new : Slab Link) (ps : List Placed) → ((key : ℕ) → HasKey ps key → get new key ≡ get old key) → AreLinked old ps → AreLinked new ps
linked_stays old new [] same linked = tt
linked_stays old new (p ∷ ps) same linked = ((linked.0.0, same p.key (inl refl) ∙ linked.0.1), linked_stays old new ps (λ key has. same key (inr has)) linked.1)

has_last : (p : Placed) (rest : List Placed) → HasKey (p ∷ rest) (last_key p rest)
has_last p [] = inl refl
has_last p (q ∷ rest) = inr (has_last q rest)

-- one more at the end
pub has_push : (ps : List Placed) (p : Placed) (key : ℕ) → HasKey (ps ++ p ∷ []) key → HasKey ps key ⊎ (p.key ≡ key)
has_push [] p key has = elim has [ inl same ↦ inr same | inr none ↦ absurd none ]
has_push (q ∷ ps) p key has =
    elim has [
      | inl same ↦ inl (inl same)
      | inr behind ↦ elim (has_push ps p key behind) [ inl among ↦ inl (inr among) | inr same ↦ inr same ]
    ]

pub apart_push : (ps : List Placed) (p : Placed) → (HasKey ps p.key → ⊥) → AreApart ps → AreApart (ps ++ p ∷ [])
apart_push [] p absent apart = (λ none. none, tt)
apart_push (q ∷ ps) p absent apart = (
  λ has. elim (has_push ps p q.key has) [ inl among ↦ apart.0 among | inr same ↦ absent (inl (sym same)) ],
  apart_push ps p (λ has. absent (inr has)) apart.1,
)

last_key-push : (p : Placed) (rest : List Placed) (new : Placed) → last_key p (rest ++ new ∷ []) ≡ new.key
last_key-push p [] new = refl
last_key-push p (q ∷ rest) new = last_key-push q rest new

-- the ends of a queue that isn't empty, and of the queue with one more
pub ends_push : (ps : List Placed) (new : Placed) (chain : Chain) → HasEnds ps chain → chain.len ≢ 0 → HasEnds (ps ++ new ∷ []) (record { first = chain.first; last = new.key; len = chain.len + 1 })
ends_push [] new chain ends some = absurd (some ends)
ends_push (p ∷ rest) new chain ends some =
    let len : length (p ∷ rest) + 1 ≡ suc (length (rest ++ new ∷ [])) = omega (arith, length-append rest (new ∷ [])) in
    rw (ends, last_key-push p rest new, len) refl

-- how many packets a queue with these ends has
pub ends_len : (ps : List Placed) (chain : Chain) → HasEnds ps chain → chain.len ≡ length ps
ends_len [] chain ends = ends
ends_len (p ∷ rest) chain ends = ap (λ (c : Chain). c.len) ends

pub ends_empty : (ps : List Placed) (chain : Chain) → HasEnds ps chain → chain.len ≡ 0 → ps ≡ []
ends_empty [] chain ends none = refl
ends_empty (p ∷ rest) chain ends none = let len = ends_len (p ∷ rest) chain ends in absurd (omega (arith, len, none))

-- A queue that isn't empty, with its ends and the link of its first packet.
pub record IsSplit (ps : List Placed) (chain : Chain) (first : Link) : Type 0 where
  pub head : Placed
  pub rest : List Placed
  pub is : ps ≡ head ∷ rest
  pub key : chain.first ≡ head.key
  pub waiting : first.waiting ≡ head.waiting
  pub left : HasEnds rest (record { first = first.next; last = chain.last; len = chain.len - 1 })

-- the first one is linked
pub head_there : (slots : Slab Link) (ps : List Placed) (chain : Chain) → HasEnds ps chain → chain.len ≢ 0 → AreLinked slots ps → ContainsKey slots chain.first
head_there slots [] chain ends some linked = absurd (some ends)
head_there slots (p ∷ rest) chain ends some linked = let same = ap (λ (c : Chain). c.first) ends in rw (same, linked.0.1) refl

pub ends_split : (slots : Slab Link) (ps : List Placed) (chain : Chain) (first : Link) → HasEnds ps chain → chain.len ≢ 0 → AreLinked slots ps → get slots chain.first ≡ Some first → IsSplit ps chain first
ends_split slots [] chain first ends some linked found = absurd (some ends)
ends_split slots (p ∷ rest) chain first ends some linked found =
    let link : first ≡ record { waiting = p.waiting; next = first_key rest linked.0.0 } = let head = linked.0.1 in let here = ap (λ (c : Chain). get slots c.first) ends in cc in
    record {
      head = p;
      rest = rest;
      is = refl;
      key = ap (λ (c : Chain). c.first) ends;
      waiting = ap (λ (l : Link). l.waiting) link;
      left = rw (ends, link) (ends_left p rest linked.0.0);
    }
  where
    ends_left : (p : Placed) (rest : List Placed) (any : ℕ) → HasEnds rest (record { first = first_key rest any; last = last_key p rest; len = length (p ∷ rest) - 1 })
    ends_left p [] any = refl
    ends_left p (q ∷ rest) any = let len : length (p ∷ q ∷ rest) - 1 ≡ length (q ∷ rest) = omega arith in rw len refl

-- The first one of the free slots, and the other ones.
pub record HasFirstFree (slots : Slab Link) (free : FreeSlots) (left : List Placed) : Type 0 where
  pub has : HasKey left free.first
  pub others : AreFree slots (record { first = next_of (get slots free.first); len = free.len - 1 })
  pub among : (key : ℕ) → HasKey others.left key → HasKey left key
  pub apart : HasKey others.left free.first → ⊥

pub first_free : (slots : Slab Link) (free : FreeSlots) (left : List Placed) → free.first ≡ first_key left free.first → free.len ≡ length left → AreLinked slots left → AreApart left → 0 < free.len → HasFirstFree slots free left
first_free slots free [] first len linked once some = absurd (omega arith)
first_free slots free (p ∷ rest) first len linked once some =
    let link = ap (get slots) first ∙ linked.0.1 in
    record {
      has = inl (sym first);
      others = record { left = rest; first = rw link (first_again rest linked.0.0); len = omega arith; linked = linked.1; once = once.1 };
      among = λ key has. inr has;
      apart = λ has. once.0 (subst (λ (k : ℕ). HasKey rest k) first has);
    }
  where
    first_again : (rest : List Placed) (any : ℕ) → first_key rest any ≡ first_key rest (first_key rest any)
    first_again [] any = refl
    first_again (q ∷ rest) any = refl

-- A slot that had none of these has one more packet, which is the last of these, and no slot but theirs has changed.
pub record Extends (old new : Slab Link) (ps : List Placed) (added : Placed) : Type 0 where
  pub linked : AreLinked new (ps ++ added ∷ [])
  pub others : (key : ℕ) → key ≢ added.key → (HasKey ps key → ⊥) → get new key ≡ get old key

-- The slot of the last one gets the key of the one that comes behind it. No earlier one stands in that slot, so the
-- links before it stay.
extended : (old new : Slab Link) (p : Placed) (rest : List Placed) (added : Placed) (any last : ℕ) → last ≡ last_key p rest
    → AreLinked old (p ∷ rest) → AreApart (p ∷ rest) → (HasKey (p ∷ rest) added.key → ⊥)
    → get new added.key ≡ Some (record { waiting = added.waiting; next = any })
    → ((w : Waiting) (next : ℕ) → get old last ≡ Some (record { waiting = w; next = next }) → get new last ≡ Some (record { waiting = w; next = added.key }))
    → ((key : ℕ) → key ≢ last → key ≢ added.key → get new key ≡ get old key)
    → AreLinked new (p ∷ rest ++ added ∷ [])
extended old new p [] added any last is linked apart absent here joined stays =
    ((0, ap (get new) (sym is) ∙ joined p.waiting linked.0.0 (ap (get old) is ∙ linked.0.1)), ((any, here), tt))
extended old new p (q ∷ rest) added any last is linked apart absent here joined stays = (
  (0, stays p.key (λ (same : p.key ≡ last). apart.0 (subst (λ (k : ℕ). HasKey (q ∷ rest) k) (sym (same ∙ is)) (has_last q rest))) (λ (same : p.key ≡ added.key). absent (inl same)) ∙ linked.0.1),
  extended old new q rest added any last is linked.1 apart.1 (λ has. absent (inr has)) here joined stays,
)

-- a packet comes to an empty queue
pub comes_first : (old new : Slab Link) (added : Placed) → Updates old new added.key (Some (record { waiting = added.waiting; next = 0 })) → Extends old new [] added
comes_first old new added updates = record {
  linked = ((0, updates.changed), tt);
  others = λ key other _. updates.others key other;
}

-- the last one's slot is another than one that none of them has
last_apart : (ps : List Placed) (chain : Chain) (key : ℕ) → HasEnds ps chain → chain.len ≢ 0 → (HasKey ps key → ⊥) → HasKey ps chain.last × (chain.last ≢ key)
last_apart [] chain key ends some absent = absurd (some ends)
last_apart (p ∷ rest) chain key ends some absent =
    let last : last_key p rest ≡ chain.last = sym (ap (λ (c : Chain). c.last) ends) in
    let has = subst (λ (k : ℕ). HasKey (p ∷ rest) k) last (has_last p rest) in
    (has, λ (same : chain.last ≡ key). absent (subst (λ (k : ℕ). HasKey (p ∷ rest) k) same has))

pub last_there : (old mid : Slab Link) (ps : List Placed) (chain : Chain) (added : Placed) → HasEnds ps chain → chain.len ≢ 0 → AreLinked old ps → (HasKey ps added.key → ⊥)
    → Updates old mid added.key (Some (record { waiting = added.waiting; next = 0 })) → ContainsKey mid chain.last
last_there old mid ps chain added ends some linked absent updates =
    let last = last_apart ps chain added.key ends some absent in
    rw (updates.others chain.last last.1) (has_slot old ps chain.last linked last.0)

-- a packet comes behind the last one, whose slot gets its key
pub comes_behind : (old mid : Slab Link) (ps : List Placed) (chain : Chain) (added : Placed) (link : Link) → HasEnds ps chain → chain.len ≢ 0 → AreLinked old ps → AreApart ps → (HasKey ps added.key → ⊥)
    → Updates old mid added.key (Some (record { waiting = added.waiting; next = 0 })) → get mid chain.last ≡ Some link
    → Extends old (with_value mid chain.last (record { waiting = link.waiting; next = added.key })) ps added
comes_behind old mid [] chain added link ends some linked apart absent updates found = absurd (some ends)
comes_behind old mid (p ∷ rest) chain added link ends some linked apart absent updates found =
    let last = last_apart (p ∷ rest) chain added.key ends some absent in
    let joined : Link = record { waiting = link.waiting; next = added.key } in
    let written : Updates mid (with_value mid chain.last joined) chain.last (Some joined) = Updates-with_value mid chain.last joined (rw found refl) in
    let stays : (key : ℕ) → key ≢ chain.last → key ≢ added.key → get (with_value mid chain.last joined) key ≡ get old key = λ key one two. written.others key one ∙ updates.others key two in
    record {
      linked =
          extended old (with_value mid chain.last joined) p rest added 0 chain.last (ap (λ (c : Chain). c.last) ends) linked apart absent
          (written.others added.key (λ (same : added.key ≡ chain.last). last.1 (sym same)) ∙ updates.changed)
          (λ w next was.
          let before = updates.others chain.last last.1 in
          let same : link ≡ record { waiting = w; next = next } = cc in
          written.changed ∙ ap (λ (l : Link). Some (record { waiting = l.waiting; next = added.key })) same)
          stays;
      others = λ key one two. stays key (λ (same : key ≡ chain.last). two (subst (λ (k : ℕ). HasKey (p ∷ rest) k) (sym same) last.0)) one;
    }

-- the packets of a queue, as its slots give them
packets_from-linked : (slots : Slab Link) (ps : List Placed) (any : ℕ) → AreLinked slots ps → packets_from slots (length ps) (first_key ps any) ≡ waitings ps
packets_from-linked slots [] any linked = refl
packets_from-linked slots (p ∷ ps) any linked = rw linked.0.1 (ap (λ ws. p.waiting ∷ ws) (packets_from-linked slots ps linked.0.0 linked.1))

pub packets_of-linked : (slots : Slab Link) (ps : List Placed) (chain : Chain) → HasEnds ps chain → AreLinked slots ps → packets_of slots chain ≡ waitings ps
packets_of-linked slots [] chain ends linked = rw ends refl
packets_of-linked slots (p ∷ ps) chain ends linked = rw ends (packets_from-linked slots (p ∷ ps) 0 linked)
