use Rattle.std.proofs.Common.{◌≡◌, ◌++◌, ◌∷◌, [], List, drop, ap, refl, sym, ◌∙◌}
use Rattle.std.proofs.lemmas.Bool.{false≢true}
use Rattle.codel_core.specs.declared.served.Mark.TheVariants.{NoMark}
use Rattle.journal_core.specs.declared.event.Event.{Event}
use Rattle.journal_core.specs.Steps.{sent_event}
use Rattle.packet_core.specs.declared.packet.Waiting.{Waiting}
use Rattle.link_core.proofs.FifoSteps.{head_first, head_kept, no_queue, serves_head, serves_none}
use Rattle.link_core.proofs.fifo.FifoQueueDiscipline.serve.Goals as goal

pub returns-in-None-clause-served : goal.returns-in-None-clause-served
returns-in-None-clause-served g c =
    let f = c.self.inside in
    let none = no_queue f.queue.items f.queue.len f.queue.ok.0 (λ some. absurd (false≢true (c.in-None.ensures.variant.1 some))) in
    serves_none f.params f.chooser f.came f.queue.items (g.K.Recorder.told f.recorder) (g.K.Recorder.sent f.recorder) (g.K.Recorder.lost f.recorder) c.self.invariant c.args.self.now f.chooser.seed (g.K.Recorder.made_for f.recorder) f.steps.items c.and.result.items c.args.moment (sym c.self.view_is) none c.and.ensures.items c.requires

pub invariant_of-self-2 : goal.invariant_of-self-2
invariant_of-self-2 g c =
    let f = c.self.inside in
    let head = c.in-Some.head.now in
    let first : f.queue.items ≡ head ∷ drop 1 f.queue.items = head_first f.queue.items f.queue.len head f.queue.ok.0 (c.in-Some.ensures.variant.0 refl) c.in-Some.ensures.lookup in
    let told : g.K.Recorder.told c.send.new.self ≡ g.K.Recorder.told f.recorder ++ sent_event c.args.moment NoMark head ∷ [] = c.send.ensures.told ∙ ap (λ (es : List Event). es ++ sent_event c.args.moment NoMark head ∷ []) c.reserve.ensures.told in
    let left : g.K.Recorder.sent c.send.new.self ≡ g.K.Recorder.sent f.recorder ++ head ∷ [] = c.send.ensures.sent ∙ ap (λ (ws : List Waiting). ws ++ head ∷ []) c.reserve.ensures.sent in
    rw c.pop_front-gone.ensures.rest
    (head_kept f.params f.chooser f.came f.queue.items (g.K.Recorder.told f.recorder) (g.K.Recorder.sent f.recorder) (g.K.Recorder.lost f.recorder) c.self.invariant (drop 1 f.queue.items) head c.args.moment (g.K.Recorder.told c.send.new.self) first told
    (g.K.Recorder.sent c.send.new.self) (g.K.Recorder.lost c.send.new.self) left (c.send.ensures.lost ∙ c.reserve.ensures.lost))

pub returns-clause-served : goal.returns-clause-served
returns-clause-served g c =
    let f = c.self.inside in
    let head = c.in-Some.head.now in
    let first : f.queue.items ≡ head ∷ drop 1 f.queue.items = head_first f.queue.items f.queue.len head f.queue.ok.0 (c.in-Some.ensures.variant.0 refl) c.in-Some.ensures.lookup in
    let told : g.K.Recorder.told c.send.new.self ≡ g.K.Recorder.told f.recorder ++ sent_event c.args.moment NoMark head ∷ [] = c.send.ensures.told ∙ ap (λ (es : List Event). es ++ sent_event c.args.moment NoMark head ∷ []) c.reserve.ensures.told in
    rw c.pop_front-gone.ensures.rest
    (serves_head f.params f.chooser f.came f.queue.items (g.K.Recorder.told f.recorder) (g.K.Recorder.sent f.recorder) (g.K.Recorder.lost f.recorder) c.self.invariant (drop 1 f.queue.items) head c.args.moment (g.K.Recorder.told c.send.new.self) first told
    c.args.self.now f.chooser.seed (g.K.Recorder.made_for f.recorder) f.steps.items c.and-2.result.items (sym c.self.view_is) c.and-2.ensures.items c.requires)
