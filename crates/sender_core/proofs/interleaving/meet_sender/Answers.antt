use Rattle.std.proofs.Common.{◌≡◌, ◌∙◌, ◌++◌, ◌∷◌, [], ◌<◌, ◌+◌, ℕ, Vec, Global, ap, arith, get_or, length, max, refl, rules, set, subst, sym}
use Rattle.std.proofs.lemmas.Bool.{false≢true}
use Rattle.packet_core.specs.Packets.{PacketParts}
use Rattle.journal_core.specs.declared.step.Step.TheVariants.{Enqueue}
use Rattle.sender_core.specs.Interleavings.{Comes}
use Rattle.sender_core.proofs.InterleavingLemmas.{comes_call}
use Rattle.sender_core.proofs.MeetingLemmas.{meets_call}
use Rattle.sender_core.proofs.interleaving.meet_sender.Goals as goal
use Rattle.sender_core.proofs.interleaving.meet_sender.Goals.{then-moment-max-via-else-moment-max+then-not-is_same, then-moment-max-via-then-moment-max, then-sender-ge-PLACES-via-else-sender-ge-PLACES+then-sender-lists, then-sender-ge-PLACES-via-then-sender-ge-PLACES}

pub returns-clause-met : goal.returns-clause-met
returns-clause-met c _ rows before so =
    let lists = c.args.lists.now in
    let list = c.index-lists-sender.result in
    let own = c.index.result.now in
    let last = c.args.walk.now.last in
    let met = c.args.walk.now.met in
    let k = get_or met c.args.lane 0 in
    let at : c.args.moment ≡ max own.0 last = search rules in
    let there : c.args.lane < length lists = omega (arith, c.if-sender-lists.false) in
    let within : k < length list.items = search rules in
    let stands : own ≡ get_or list.items k own = search rules in
    let place : c.args.lane < length met = search rules in
    let packet : own.1 ≡ c.args.packet.now = c.if-not-is_same.ensures.0 refl in
    subst (λ (p : PacketParts). Comes lists rows (before ++ Enqueue c.args.moment c.args.lane p ∷ []) c.args.moment (set met c.args.lane (k + 1)) c.args.walk.now.row c.args.walk.now.closed) packet
    (subst (λ (m : ℕ). Comes lists rows (before ++ Enqueue m c.args.lane own.1 ∷ []) m (set met c.args.lane (k + 1)) c.args.walk.now.row c.args.walk.now.closed) (sym at)
    (comes_call lists rows before last met c.args.walk.now.row c.args.walk.now.closed own.0 c.args.lane own.1 list k there c.index-lists-sender.is refl within stands place so))

pub returns-then-sender-ge-PLACES-clause-whole : goal.returns-then-sender-ge-PLACES-clause-whole
returns-then-sender-ge-PLACES-clause-whole c few rows rest so =
    let there = (meets_call c.args.lists.now rows c.args.moment c.args.lane c.args.packet.now rest c.args.walk.now.last c.args.walk.now.met c.args.walk.now.row c.args.walk.now.closed so).there in
    elim c.then-sender-ge-PLACES.branch [
      | then-sender-ge-PLACES-via-then-sender-ge-PLACES w ↦ absurd (omega (arith, few, there, w.if-sender-ge-PLACES.true))
      | then-sender-ge-PLACES-via-else-sender-ge-PLACES+then-sender-lists w ↦ absurd (omega (arith, there, w.if-sender-lists.true))
    ]

pub returns-then-next-len-clause-whole : goal.returns-then-next-len-clause-whole
returns-then-next-len-clause-whole c few rows rest so =
    let list = c.index-lists-sender.result in
    let m = meets_call c.args.lists.now rows c.args.moment c.args.lane c.args.packet.now rest c.args.walk.now.last c.args.walk.now.met c.args.walk.now.row c.args.walk.now.closed so in
    let within : get_or c.args.walk.now.met c.args.lane 0 < length list.items = subst (λ (v : Vec (ℕ × PacketParts) Global). get_or c.args.walk.now.met c.args.lane 0 < length v.items) (sym c.index-lists-sender.is) (m.within list) in
    absurd (omega (arith, within, c.if-next-len.true, list.ok.0))

pub returns-then-moment-max-clause-whole : goal.returns-then-moment-max-clause-whole
returns-then-moment-max-clause-whole c few rows rest so =
    let list = c.index-lists-sender.result in
    let own = c.index.result.now in
    let k = get_or c.args.walk.now.met c.args.lane 0 in
    let m = meets_call c.args.lists.now rows c.args.moment c.args.lane c.args.packet.now rest c.args.walk.now.last c.args.walk.now.met c.args.walk.now.row c.args.walk.now.closed so in
    let next : own ≡ (m.own, c.args.packet.now) =
    c.index.ensures ∙ subst (λ (v : Vec (ℕ × PacketParts) Global). get_or v.items k own ≡ (m.own, c.args.packet.now)) (sym c.index-lists-sender.is) (m.stands list own) in
    elim c.then-moment-max.branch [
      | then-moment-max-via-then-moment-max w ↦
          absurd (w.if-moment-max.true (m.moment_is ∙ ap (λ (p : ℕ × PacketParts). max p.0 c.args.walk.now.last) (sym next) ∙ sym c.max.ensures))
      | then-moment-max-via-else-moment-max+then-not-is_same w ↦
          absurd (false≢true (sym w.if-not-is_same.true ∙ w.is_same.ensures.1 (ap (λ (p : ℕ × PacketParts). p.1) next)))
    ]

pub returns-clause-whole : goal.returns-clause-whole
returns-clause-whole c few rows rest so =
    (refl, (meets_call c.args.lists.now rows c.args.moment c.args.lane c.args.packet.now rest c.args.walk.now.last c.args.walk.now.met c.args.walk.now.row c.args.walk.now.closed so).goes_on (search rules))
