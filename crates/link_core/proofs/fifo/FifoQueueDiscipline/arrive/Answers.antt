use Rattle.std.proofs.Common.{◌≡◌, ◌≤◌, ◌<◌, ◌++◌, ◌∷◌, [], List, length, ap, refl, sym, ◌∙◌, inl, inr, arith, append_assoc}
use Rattle.std.proofs.lemmas.List.{append-nil}
use Rattle.packet_core.specs.FlowNumber.{flow_number}
use Rattle.packet_core.specs.declared.packet.Waiting.{Waiting}
use Rattle.journal_core.specs.declared.event.Cause.TheVariants as cause
use Rattle.journal_core.specs.declared.event.Event.{Event}
use Rattle.journal_core.specs.declared.step.Step.TheVariants.{Enqueue}
use Rattle.journal_core.specs.Steps.{accepted_event, drop_event}
use Rattle.link_core.proofs.FifoSteps.{Took, took_in, took_kept}
use Rattle.link_core.proofs.fifo.FifoQueueDiscipline.arrive.Goals as goal
use Rattle.link_core.proofs.fifo.FifoQueueDiscipline.arrive.Given as given
use Rattle.link_core.proofs.fifo.FifoQueueDiscipline.arrive.Goals.{then-not-full+in_ok-push_back, else-not-full, then-full-2, else-full-2}

-- the packet waits, or is lost where as many wait as may
took : (g : given.Over) (c : goal.After-drop-self-inside g)
    → Took c.self.inside.params c.if-full-2.self-inside.params c.self.inside.chooser c.if-full-2.self-inside.chooser c.self.inside.came c.if-full-2.self-inside.came c.args.moment c.flow_of-flow.result c.args.packet
    c.self.inside.queue.items c.if-full-2.self-inside.queue.items (g.K.Recorder.told c.self.inside.recorder) (g.K.Recorder.told c.if-full-2.self-inside.recorder)
    (g.K.Recorder.sent c.self.inside.recorder) (g.K.Recorder.sent c.if-full-2.self-inside.recorder) (g.K.Recorder.lost c.self.inside.recorder) (g.K.Recorder.lost c.if-full-2.self-inside.recorder)
took g c =
    let f = c.self.inside in
    let w : Waiting = record { id = f.came; stamp = c.args.moment; packet = c.args.packet } in
    let accepted : Event = accepted_event 0 c.flow_of-flow.result w in
    let long = f.queue.ok.0 in
    elim c.if-not-full.branch [
      | then-not-full+in_ok-push_back a ↦ elim c.if-full-2.branch [
        | then-full-2 b ↦ absurd (omega (arith, a.if-not-full.true, b.if-full-2.true))
        | else-full-2 b ↦
            let told = rw a.self-inside-is at c.accept.ensures.told in
            let left = rw a.self-inside-is at c.accept.ensures.sent in
            let lost = rw a.self-inside-is at c.accept.ensures.lost in
            let kept = rw a.self-inside-is at c.flow_of-flow.ensures.kept in
            let room : length f.queue.items < f.params.limit = omega (arith, a.if-not-full.true, c.limit.ensures.value, c.len.ensures, long) in
            rw (b.self-inside-is, a.self-inside-is) (record {
              gone = [];
              takes = inl (room, refl, (a.in_ok-push_back.ensures {u = tt}).items);
              told = told ∙ ap (λ (es : List Event). es ++ accepted ∷ []) c.reserve.ensures.told;
              left = left ∙ c.reserve.ensures.sent;
              dropped = lost ∙ c.reserve.ensures.lost ∙ sym (append-nil (g.K.Recorder.lost f.recorder));
              params = refl;
              choosing = kept;
              count = refl;
            })
      ]
      | else-not-full a ↦ elim c.if-full-2.branch [
        | then-full-2 b ↦
            let told = rw a.self-inside-is at c.accept.ensures.told in
            let left = rw a.self-inside-is at c.accept.ensures.sent in
            let lost = rw a.self-inside-is at c.accept.ensures.lost in
            let kept = rw a.self-inside-is at c.flow_of-flow.ensures.kept in
            let dropped : Event = drop_event c.args.moment cause.Overflow w in
            let full : f.params.limit ≤ length f.queue.items = omega (arith, a.if-not-full.false, c.limit.ensures.value, c.len.ensures, long) in
            rw (b.self-inside-is, a.self-inside-is) (record {
              gone = w ∷ [];
              takes = inr (full, refl, refl);
              told = b.lose.ensures.told ∙ ap (λ (es : List Event). es ++ dropped ∷ []) (told ∙ ap (λ (es : List Event). es ++ accepted ∷ []) c.reserve.ensures.told) ∙ append_assoc (g.K.Recorder.told f.recorder) (accepted ∷ []) (dropped ∷ []);
              left = b.lose.ensures.sent ∙ left ∙ c.reserve.ensures.sent;
              dropped = b.lose.ensures.lost ∙ ap (λ (ws : List Waiting). ws ++ w ∷ []) (lost ∙ c.reserve.ensures.lost);
              params = refl;
              choosing = kept;
              count = refl;
            })
        | else-full-2 b ↦ absurd (omega (arith, a.if-not-full.false, b.if-full-2.false))
      ]
    ]

pub invariant_of-self-2 : goal.invariant_of-self-2
invariant_of-self-2 g c = took_kept _ _ _ _ _ _ _ _ _ _ _ _ _ _ _ _ _ (took g c) c.self.invariant

-- and its flow is the one that they choose
chosen : (g : given.Over) (c : goal.After-drop-self-inside g) → c.flow_of-flow.result ≡ flow_number c.self.inside.params.classify c.self.inside.params.flows c.self.inside.chooser.seed c.args.packet.tuple
chosen g c = rw (← c.self.invariant.chooses) (elim c.if-not-full.branch [
  | then-not-full+in_ok-push_back a ↦ rw a.self-inside-is at c.flow_of-flow.ensures.value
  | else-not-full a ↦ rw a.self-inside-is at c.flow_of-flow.ensures.value
])

-- so are its steps
stepped : (g : given.Over) (c : goal.After-drop-self-inside g) → c.and.result.items ≡ c.self.inside.steps.items ++ Enqueue c.args.moment 0 c.args.packet ∷ []
stepped g c = elim c.if-not-full.branch [
  | then-not-full+in_ok-push_back a ↦ elim c.if-full-2.branch [ then-full-2 b ↦ rw (b.self-inside-is, a.self-inside-is) at c.and.ensures.items | else-full-2 b ↦ rw (b.self-inside-is, a.self-inside-is) at c.and.ensures.items ]
  | else-not-full a ↦ elim c.if-full-2.branch [ then-full-2 b ↦ rw (b.self-inside-is, a.self-inside-is) at c.and.ensures.items | else-full-2 b ↦ rw (b.self-inside-is, a.self-inside-is) at c.and.ensures.items ]
]

pub returns-clause-arrived : goal.returns-clause-arrived
returns-clause-arrived g c = took_in _ _ _ _ _ _ _ _ _ _ _ _ _ _ _ _ _ (took g c) c.self.invariant c.args.self.now c.self.inside.chooser.seed (g.K.Recorder.made_for c.self.inside.recorder) c.self.inside.steps.items c.and.result.items (chosen g c) (sym c.self.view_is) (stepped g c) c.requires
