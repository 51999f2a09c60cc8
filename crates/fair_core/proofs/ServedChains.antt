-- What the code does in a turn is a turn of the definition, and its turns, one after another, are a chain.
use Rattle.std.proofs.Common.{◌≡◌, ℕ, ◌+◌, [], length, min, take, set, arith, Option, Some, None, IsNone, option_map, slice_get, pos, ◌≤ℤ◌, ◌<ℤ◌, refl, ap, sym, ◌∙◌, ◌<◌, ◌≤◌, ◌^◌, List, ◌∷◌, ◌++◌, IsSome, subst, inl, inr, append_assoc, append-nil, length-append}
use Rattle.std.proofs.lemmas.List.{set-get_or}
use Rattle.packet_core.specs.declared.packet.Waiting.{Waiting}
use Rattle.packet_core.specs.declared.params.ParamFields.{ParamFields}
use Rattle.codel_core.specs.Verdict.{Verdict, served}
use Rattle.codel_core.specs.Verdict.Verdict.{nothing as verdict_nothing, first_mark as verdict_first_mark, first_drop as verdict_first_drop, drops as verdict_drops}
use Rattle.codel_core.specs.declared.served.Mark.{Mark}
use Rattle.codel_core.specs.declared.served.Served.{Served}
use Rattle.codel_core.specs.declared.state.CodelState.{CodelState}
use Rattle.flow_core.specs.FlowLists.{Holding}
use Rattle.fair_core.specs.declared.fair_queue.Head.{Head}
use Rattle.journal_core.specs.declared.event.Cause.TheVariants as cause
use Rattle.fair_core.specs.HeldQueues.{Held, MakesTurn, ServesFlow, held_flows, spent, with_credits_raised, with_holding, with_lists, IsAnswered, MakesChain, leaving, shown_service}
use Rattle.journal_core.specs.Books.{Book}
use Rattle.fair_core.specs.FairQueues.{flow_state_at, emptied_lists, head_of, queue_of, to_old, AreSound, FairQueues}
use Rattle.journal_core.specs.JournalDrops.{drops_none, with_drops}
use Rattle.fair_core.specs.Turns.TurnKind.{used_up, emptied, serving}
use Rattle.fair_core.proofs.ComparisonLemmas.{counts_none, found_leaves, counts_behind}
use Rattle.std.proofs.lemmas.Bool.{false≢true}
use Rattle.fair_core.specs.FairQueueing.{dropped_in}
use Rattle.fair_core.specs.FqCodel.{fq_codel_policy}
use Rattle.fair_core.specs.TurnBound.{turns_at_most}
use Rattle.fair_core.specs.Turns.{Chain, Service, TurnMade, service_by, service_in}
use Rattle.fair_core.proofs.ServingChains.{turn_lowers}
use Rattle.fair_core.proofs.TurnLemmas.{queues_stay}

-- nothing is dropped of an empty queue
nothing_dropped : (p : ParamFields) (now : ℕ) (old : CodelState) (k : ℕ) (mark : Mark) (new : CodelState) → Verdict p now [] old k mark new → k ≡ 0
nothing_dropped p now old k mark new (verdict_nothing undroppable) = refl
nothing_dropped p now old k mark new (verdict_first_mark droppable calm may) = refl
nothing_dropped p now old k mark new (verdict_first_drop droppable calm may) = absurd droppable.0
nothing_dropped p now old k mark new (verdict_drops droppable dropping before stops) = absurd droppable.0

module _ (p : ParamFields) (now : ℕ) (old : Held) (head : Head) (at : head_of old.queues ≡ Some head) where
  -- a flow whose credits were used up
  pub raised_turn : (raised new : Held) (book : Book) → (flow_state_at old.queues head.flow).credits ≤ℤ pos 0 → raised ≡ with_credits_raised p.quantum old head.flow → new ≡ with_lists raised (to_old raised.queues.lists head) → MakesTurn p now old book None new book
  raised_turn raised new book credits is moved =
      let new_is = moved ∙ ap (λ (r : Held). with_lists r (to_old r.queues.lists head)) is in
      record {
        made = record { head = head; kind = used_up };
        turn = record { looks = at; does = record { credits = credits; leaves = ap (λ (n : Held). n.queues) new_is } };
        answered = record {
          given = refl;
          journal = drops_none book now cause.Codel;
          arrived = ap (λ (n : Held). n.arrived) new_is;
          capacity = ap (λ (n : Held). n.capacity) new_is;
          few_comparisons = counts_none (length old.queues.lists.queues) old.comparisons new.comparisons (ap (λ (n : Held). n.comparisons) new_is);
        };
      }

  -- what is held, once CoDel served the flow
  module _ (mid : Held) (book book' : Book) (answer : Option Served) (credits : pos 0 <ℤ (flow_state_at old.queues head.flow).credits) (s : ServesFlow p now head.flow old book answer mid book') where
    abbrev left : Holding → Option Served → Held
    left flows given = with_holding old flows (set old.queues.flow_states head.flow (record { credits = spent ((flow_state_at old.queues head.flow).credits) given; codel = s.codel }))

    -- a flow without packets: only its CoDel state changed
    pub emptied_turn : (new : Held) → IsNone answer → new ≡ with_lists mid (emptied_lists mid.queues.lists head) → MakesTurn p now old book answer new book'
    emptied_turn new none gone =
        let q = s.serves in
        let lists = old.queues.lists in
        let empty : queue_of old.queues head.flow ≡ [] = q.none.0 none in
        let decides = rw empty at q.decides in
        let zero_drops : q.drops ≡ 0 = nothing_dropped p now ((flow_state_at old.queues head.flow).codel) q.drops decides.by_codel (record s.codel { first_above = (flow_state_at old.queues head.flow).codel.first_above }) decides.verdict in
        let given : answer ≡ None = rw empty at q.given in
        let queues : set lists.queues head.flow [] ≡ lists.queues = ap (set lists.queues head.flow) (sym empty) ∙ set-get_or lists.queues head.flow [] in
        let flows : s.flows ≡ record (held_flows old) { comparisons = s.flows.comparisons } = rw (empty, zero_drops) at q.rest ∙ (λ i. record (held_flows old) { lists = record lists { queues = queues i }; comparisons = s.flows.comparisons }) in
        let mid_is = s.rest ∙ (λ i. left (flows i) (given i)) in
        let new_is = gone ∙ ap (λ (m : Held). with_lists m (emptied_lists m.queues.lists head)) mid_is in
        let none_left : min (q.drops + 1) (length (queue_of old.queues head.flow)) ≡ 0 = omega (arith, ap length empty) in
        record {
          made = record { head = head; kind = emptied };
          turn = record {
            looks = at;
            does = record {
              credits = credits;
              empty = empty;
              mark = q.mark;
              codel = s.codel;
              verdict = rw zero_drops at decides;
              leaves = ap (λ (n : Held). n.queues) new_is;
            };
          };
          answered = record {
            given = given;
            journal = rw (empty, zero_drops) at q.journal;
            arrived = ap (λ (n : Held). n.arrived) new_is;
            capacity = ap (λ (n : Held). n.capacity) new_is;
            few_comparisons = rw (ap (λ (n : Held). n.comparisons) new_is) (rw none_left at q.few_comparisons);
          };
        }

    -- a flow that gives a packet
    pub serving_turn : (IsNone answer → ⊥) → MakesTurn p now old book answer mid book'
    serving_turn some = go (slice_get (queue_of old.queues head.flow) s.serves.drops) refl
      where
        go : (o : Option Waiting) → slice_get (queue_of old.queues head.flow) s.serves.drops ≡ o → MakesTurn p now old book answer mid book'
        go None is = absurd (some (rw (s.serves.given ∙ ap (option_map (served s.serves.mark)) is) refl))
        go (Some w) is =
            let q = s.serves in
            let given = q.given ∙ ap (option_map (served q.mark)) is in
            let mid_is = s.rest ∙ (λ i. left (q.rest i) (given i)) in
            record {
              made = record { head = head; kind = serving (record { dropped = take q.drops (queue_of old.queues head.flow); given = record { waiting = w; mark = q.mark } }) };
              turn = record {
                looks = at;
                does = record { credits = credits; drops = q.drops; codel = s.codel; verdict = q.decides; dropped = refl; stands = is; leaves = ap (λ (n : Held). n.queues) mid_is };
              };
              answered = record {
                given = given;
                journal = q.journal;
                arrived = ap (λ (n : Held). n.arrived) mid_is;
                capacity = ap (λ (n : Held). n.capacity) mid_is;
                few_comparisons = rw (ap (λ (n : Held). n.comparisons) mid_is, ← found_leaves (queue_of old.queues head.flow) q.drops w is) q.few_comparisons;
              };
            }

-- So many turns were made, and none has served: a chain from here is one from the start, with these turns before it.
pub record IsOnChain (p : ParamFields) (now : ℕ) (old : Held) (book : Book) (count : ℕ) (cur : Held) (book' : Book) (next : Option Head) : Type 0 where
  pub turns : List TurnMade
  pub goes_on : (more : List TurnMade) (new : FairQueues) → Chain (fq_codel_policy p) now cur.queues more new
      → Chain (fq_codel_policy p) now old.queues (turns ++ more) new × (service_in (turns ++ more) ≡ service_in more)
  pub count_is : count ≡ length turns
  pub answered : IsAnswered now None old book None cur book'
  pub queues : cur.queues.lists.queues ≡ old.queues.lists.queues
  pub bound : count + turns_at_most p.quantum cur.queues ≤ turns_at_most p.quantum old.queues
  pub few : turns_at_most p.quantum old.queues ≤ 2 ^ 40
  pub sound : AreSound cur.queues
  pub head : next ≡ head_of cur.queues

none_is : (answer : Option Served) → IsNone answer → answer ≡ None
none_is None none = refl
none_is (Some s) none = absurd cc

module _ (p : ParamFields) (now : ℕ) (old : Held) (book : Book) where
  -- no turn yet
  pub at_start : (next : Option Head) → 0 < p.quantum → AreSound old.queues → ((quantum : ℕ) → 0 < quantum → turns_at_most quantum old.queues ≤ 2 ^ 40) → next ≡ head_of old.queues → IsOnChain p now old book 0 old book next
  at_start next some sound few head = record {
    turns = [];
    goes_on = λ more new c. (c, refl);
    count_is = refl;
    answered = record {
      given = refl;
      journal = drops_none book now cause.Codel;
      arrived = refl;
      capacity = refl;
      few_comparisons = counts_none (length old.queues.lists.queues) old.comparisons old.comparisons refl;
    };
    queues = refl;
    bound = omega arith;
    few = few p.quantum some;
    sound = sound;
    head = head;
  }

  -- what turns without a service and then others answer
  then_answered : (mid new : Held) (book' book'' : Book) (service : Option Service) (answer : Option Served) → mid.queues.lists.queues ≡ old.queues.lists.queues → IsAnswered now None old book None mid book' → IsAnswered now service mid book' answer new book'' → IsAnswered now service old book answer new book''
  then_answered mid new book' book'' service answer same first then' = record {
    given = then'.given;
    journal = then'.journal ∙ ap (λ (b : Book). with_drops b now cause.Codel (dropped_in service)) (first.journal ∙ sym (drops_none book now cause.Codel));
    arrived = then'.arrived ∙ first.arrived;
    capacity = then'.capacity ∙ first.capacity;
    few_comparisons = counts_behind (length old.queues.lists.queues) (leaving service) old.comparisons mid.comparisons new.comparisons first.few_comparisons (rw (ap length same) at then'.few_comparisons);
  }

  module _ (count : ℕ) (cur : Held) (book' : Book) (next : Option Head) (on : IsOnChain p now old book count cur book' next) where
    module _ (answer : Option Served) (new : Held) (book'' : Book) (t : MakesTurn p now cur book' answer new book'') where
      -- a turn that serves no flow
      unserved : (o : Option Service) → answer ≡ option_map shown_service o → IsNone answer → o ≡ None
      unserved None e none = refl
      unserved (Some s) e none = let same : None ≡ Some (shown_service s) = sym (none_is answer none) ∙ e in absurd cc

      pub one_turn_more : (next' : Option Head) → 0 < p.quantum → IsNone answer → AreSound new.queues → next' ≡ head_of new.queues
          → IsOnChain p now old book (count + 1) new book'' next' × (turns_at_most p.quantum new.queues < turns_at_most p.quantum cur.queues)
      one_turn_more next' some is_none sound head =
          let none = unserved (service_by t.made.kind) t.answered.given is_none in
          let lower = turn_lowers (fq_codel_policy p) some now cur.queues new.queues t.made on.sound t.turn none in
          let less = lower.1 in
          let bound = on.bound in
          let counted = on.count_is in
          let answered = subst (λ o. IsAnswered now o cur book' answer new book'') none t.answered in (
            record {
              turns = on.turns ++ t.made ∷ [];
              goes_on = λ more last c. (let on' = on.goes_on (t.made ∷ more) last (inr (new.queues, none, t.turn, c)) in let e = append_assoc on.turns (t.made ∷ []) more in rw e (on'.0, on'.1 ∙ rw none refl));
              count_is = omega (arith, length-append on.turns (t.made ∷ []));
              answered = then_answered cur new book' book'' None None on.queues on.answered (rw answered.given at answered);
              queues = queues_stay (fq_codel_policy p) now cur.queues new.queues t.made t.turn none ∙ on.queues;
              bound = omega arith;
              few = on.few;
              sound = sound;
              head = head;
            },
            omega arith,
          )

      -- the turn that serves one
      pub chain_served : IsSome answer → MakesChain p now old book (count + 1) answer new book''
      chain_served some = go (service_by t.made.kind) refl
        where
          go : (o : Option Service) → service_by t.made.kind ≡ o → MakesChain p now old book (count + 1) answer new book''
          go None is = let e : answer ≡ None = t.answered.given ∙ ap (option_map shown_service) is in let none : IsSome {T = Served} None = rw e at some in absurd (false≢true none)
          go (Some s) is =
              let on' = on.goes_on (t.made ∷ []) new.queues (inl (s, is, refl, t.turn)) in
              let counted = on.count_is in
              let service : service_in (on.turns ++ t.made ∷ []) ≡ service_by t.made.kind = on'.1 ∙ rw is refl in
              record {
                turns = on.turns ++ t.made ∷ [];
                chain = on'.0;
                count_is = omega (arith, length-append on.turns (t.made ∷ []));
                answered = rw service (then_answered cur new book' book'' (service_by t.made.kind) answer on.queues on.answered t.answered);
              }

    -- no flow is listed
    pub chain_idle : next ≡ None → MakesChain p now old book count None cur book'
    chain_idle none =
        let on' = on.goes_on [] cur.queues (sym on.head ∙ none, refl) in
        let turns_are = append-nil on.turns in
        record {
          turns = on.turns;
          chain = rw turns_are at on'.0;
          count_is = on.count_is;
          answered = rw (rw turns_are at on'.1) on.answered;
        }
