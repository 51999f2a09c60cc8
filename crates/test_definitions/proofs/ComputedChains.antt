-- Turns and serving chains, computed for the worked examples together with the proof that they are those of the
-- definitions.
use Rattle.std.proofs.Common.{◌≡◌, ℕ, zero, suc, ◌⊎◌, List, [], ◌∷◌, Option, Some, None, option_and_then, option_map, slice_get, ℤ, pos, negsuc, ◌≤ℤ◌, ◌<ℤ◌, refl, inl, inr, arith}
use Rattle.std.proofs.lemmas.Int.{ints}
use Rattle.packet_core.specs.declared.packet.Waiting.{Waiting}
use Rattle.packet_core.specs.declared.params.ParamFields.{ParamFields}
use Rattle.codel_core.specs.declared.state.CodelState.{CodelState}
use Rattle.fair_core.specs.FairQueues.{FairQueues, flow_state_at, head_of, queue_of}
use Rattle.fair_core.specs.declared.fair_queue.Head.{Head}
use Rattle.fair_core.specs.FqCodel.{fq_codel_policy}
use Rattle.fair_core.specs.Turns.{Chain, Service, Turn, TurnMade, service_by}
use Rattle.fair_core.specs.Turns.TurnKind.{used_up, emptied, serving}
use Rattle.test_definitions.proofs.ComputedVerdicts.{Judged, judged, undropped}

abbrev sign : (c : ℤ) → (c ≤ℤ pos 0) ⊎ (pos 0 <ℤ c)
sign (negsuc n) = inl (omega (arith, ints))
sign (pos zero) = inl (omega (arith, ints))
sign (pos (suc n)) = inr (omega (arith, ints))

-- a turn
pub record Turned (p : ParamFields) (now : ℕ) (s : FairQueues) : Type 0 where
  pub made : TurnMade
  pub queues : FairQueues
  pub turn : Turn (fq_codel_policy p) now s made queues

module _ (p : ParamFields) (now : ℕ) (s : FairQueues) (head : Head) (at : head_of s ≡ Some head) where
  abbrev credits : ℤ
  credits = (flow_state_at s head.flow).credits

  abbrev codel : CodelState
  codel = (flow_state_at s head.flow).codel

  abbrev queue : List Waiting
  queue = queue_of s head.flow

  abbrev gives : pos 0 <ℤ credits → (v : Judged p now queue codel) → (o : Option Waiting) → slice_get queue v.drops ≡ o
      → Option (Turned p now s)
  gives some v None found = None
  gives some v (Some w) found =
      Some (record {
        made = record { head = head; kind = serving (record { dropped = _; given = record { waiting = w; mark = v.mark } }) };
        queues = _;
        turn = record {
          looks = at;
          does = record {
            credits = some;
            drops = v.drops;
            codel = v.codel;
            verdict = v.decides;
            dropped = refl;
            stands = found;
            leaves = refl;
          };
        };
      })

  -- one turn, by what the head's credits and queue are
  abbrev turned : (credits ≤ℤ pos 0) ⊎ (pos 0 <ℤ credits) → (q : List Waiting) → queue ≡ q → Option (Turned p now s)
  turned (inl used) q e = Some (record {
    made = record { head = head; kind = used_up };
    queues = _;
    turn = record { looks = at; does = record { credits = used; leaves = refl } };
  })
  turned (inr some) [] e =
      let v = undropped p now [] codel (λ h. h.0) in
      Some (record {
        made = record { head = head; kind = emptied };
        queues = _;
        turn = record {
          looks = at;
          does = record { credits = some; empty = e; mark = v.mark; codel = v.codel; verdict = v.decides; leaves = refl };
        };
      })
  turned (inr some) (w ∷ behind) e = option_and_then (λ v. gives some v (slice_get queue v.drops) refl) (judged p now queue codel)

-- a serving chain
pub record Walk (p : ParamFields) (now : ℕ) (s : FairQueues) : Type 0 where
  pub turns : List TurnMade
  pub queues : FairQueues
  pub chain : Chain (fq_codel_policy p) now s turns queues

module _ (p : ParamFields) (now : ℕ) where
  abbrev Walks : Type 0
  Walks = (s : FairQueues) → Option (Walk p now s)

  abbrev walk_on : Walks → (s : FairQueues) (t : Turned p now s) (service : Option Service)
      → service_by t.made.kind ≡ service → Option (Walk p now s)
  walk_on further s t (Some service) e =
      Some (record { turns = t.made ∷ []; queues = t.queues; chain = inl (service, e, refl, t.turn) })
  walk_on further s t None e =
      option_map (λ w. record { turns = t.made ∷ w.turns; queues = w.queues; chain = inr (t.queues, e, t.turn, w.chain) }) (further t.queues)

  abbrev walk_at : Walks → (s : FairQueues) (head : Option Head) → head_of s ≡ head → Option (Walk p now s)
  walk_at further s None e = Some (record { turns = []; queues = s; chain = (e, refl) })
  walk_at further s (Some head) e =
      option_and_then (λ t. walk_on further s t (service_by t.made.kind) refl)
      (turned p now s head e (sign (flow_state_at s head.flow).credits) (queue_of s head.flow) refl)

  -- the serving chain of a state, if it has fewer turns than that
  abbrev pub walk : ℕ → Walks
  walk zero s = None
  walk (suc fuel) s = walk_at (λ next. walk fuel next) s (head_of s) refl
