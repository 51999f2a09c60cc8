-- CoDel and the overflow of the fattest flow are a policy that the laws hold of.
use Rattle.std.proofs.Common.{◌∙◌, ◌≡◌, ◌≢◌, ℕ, ◌<◌, ◌⊎◌, ◌++◌, Bool, true, false, ◌&&◌, List, [], ◌∷◌, take, get_or, length, slice_get, IsSomeAnd, IsTrue, Some, refl, sym, ap, subst, inl, inr, arith, append_assoc}
use Rattle.std.specs.List.{flat_map}
use Rattle.std.proofs.lemmas.List.{length-set}
use Rattle.std.proofs.lemmas.Option.{slice_get-get_or}
use Rattle.packet_core.specs.Params.{AreInRange}
use Rattle.packet_core.specs.declared.packet.Ecn.{Ecn}
use Rattle.packet_core.specs.declared.packet.Ecn.TheVariants as fields
use Rattle.packet_core.specs.declared.packet.Waiting.{Waiting}
use Rattle.packet_core.specs.declared.params.EcnUse.TheVariants as ecn
use Rattle.packet_core.specs.declared.params.ParamFields.{ParamFields}
use Rattle.codel_core.specs.Queue.{has_waited_past, is_ect, is_past_threshold}
use Rattle.codel_core.specs.Verdict.{Decides}
use Rattle.codel_core.proofs.VerdictLemmas.{verdict_honest, verdict_threshold}
use Rattle.codel_core.specs.declared.served.Mark.{Mark}
use Rattle.codel_core.specs.declared.served.Mark.TheVariants.{NoMark, CodelMark, Threshold}
use Rattle.codel_core.specs.declared.state.CodelState.{CodelState}
use Rattle.journal_core.specs.Disciplines.{Batch, LeaveHeads, MayHave, heads}
use Rattle.fair_core.specs.FqCodel.{fq_codel_policy}
use Rattle.fair_core.specs.Overflow.{Overflow, batch_size, without_batch}
use Rattle.fair_core.specs.Policies.{DropsFromHeads, IsDecided}
use Rattle.fair_core.proofs.FairFifo.{heads_leave}
use Rattle.fair_core.proofs.OverflowLemmas.{overflow_once, overflow_there}

-- what CoDel's own laws say of its verdict
pub record VerdictLaws : Type 0 where
  pub exists : (p : ParamFields) (now : ℕ) (q : List Waiting) (old : CodelState) → (k : ℕ) × (mark : Mark) × (new : CodelState) × Decides p now q old k mark new
  pub unique : (p : ParamFields) (now : ℕ) (q : List Waiting) (old : CodelState) (k k' : ℕ) (mark mark' : Mark) (new new' : CodelState)
      → Decides p now q old k mark new → Decides p now q old k' mark' new' → (k ≡ k') × (mark ≡ mark') × (new ≡ new')
  pub gives : (p : ParamFields) (now : ℕ) (q : List Waiting) (old : CodelState) (k : ℕ) (mark : Mark) (new : CodelState)
      → Decides p now q old k mark new → ((q ≡ []) × (k ≡ 0)) ⊎ (k < length q)

overflow_leaves : (p : ParamFields) (queues : List (List Waiting)) (batches : List Batch) (queues' : List (List Waiting)) → Overflow p queues batches queues' → LeaveHeads (λ f. get_or queues f []) batches (λ f. get_or queues' f [])
overflow_leaves p queues [] queues' o = λ f. ap (λ (qs : List (List Waiting)). get_or qs f []) (sym o.1)
overflow_leaves p queues (batch ∷ more) queues' o = λ f.
    let q = get_or queues batch.flow [] in
    let n = batch_size p.drop_batch (length q) in
    let gone : heads batch.flow (take n q) f ≡ heads batch.flow batch.gone f = ap (λ (b : Batch). heads batch.flow b.gone f) (sym o.2) in
    let rest = overflow_leaves p (without_batch p.drop_batch queues batch.flow) more queues' o.3 f in
    heads_leave queues batch.flow n o.1.within f
    ∙ ap (λ (left : List Waiting). heads batch.flow (take n q) f ++ left) rest
    ∙ sym (append_assoc (heads batch.flow (take n q) f) (flat_map (λ b. heads b.flow b.gone f) more) (get_or queues' f []))
    ∙ ap (λ (first : List Waiting). (first ++ flat_map (λ b. heads b.flow b.gone f) more) ++ get_or queues' f []) gone

overflow_keeps : (p : ParamFields) (queues : List (List Waiting)) (batches : List Batch) (queues' : List (List Waiting)) → Overflow p queues batches queues' → length queues' ≡ length queues
overflow_keeps p queues [] queues' o = ap length o.1
overflow_keeps p queues (batch ∷ more) queues' o = overflow_keeps p (without_batch p.drop_batch queues batch.flow) more queues' o.3 ∙ length-set queues batch.flow _

-- a packet that the threshold marks is one of a sender that takes part
ect_of : (past : Bool) (field : Ecn) → IsTrue (past && is_ect field) → field ≢ fields.NotEct
ect_of false field both e = cc
ect_of true field both e = let h = rw e at both in cc

module _ (p : ParamFields) where
  honest_mark : (now : ℕ) (queue : List Waiting) (codel : CodelState) (drops : ℕ) (mark : Mark) (codel' : CodelState) → Decides p now queue codel drops mark codel' → (w : Waiting) → slice_get queue drops ≡ Some w → MayHave mark w.packet.ecn
  honest_mark now queue codel drops NoMark codel' d w found = tt
  honest_mark now queue codel drops CodelMark codel' d w found =
      (subst (λ o. IsSomeAnd o (λ (w : Waiting). (p.ecn ≡ ecn.Mark) × (w.packet.ecn ≢ fields.NotEct))) found (verdict_honest p now queue codel drops CodelMark codel' d refl)).1
  honest_mark now queue codel drops Threshold codel' d w found =
      ect_of (has_waited_past p.ce_threshold w.stamp now) w.packet.ecn
      (subst (λ o. IsSomeAnd o (λ (w : Waiting). IsTrue (is_past_threshold p now w))) found (verdict_threshold p now queue codel drops Threshold codel' d refl))

  pub policy_drops : DropsFromHeads (fq_codel_policy p)
  policy_drops = record {
    honest = honest_mark;
    heads = overflow_leaves p;
    flows = overflow_keeps p;
  }

module _ (laws : VerdictLaws) (p : ParamFields) where
  gives_one : (now : ℕ) (w : Waiting) (queue : List Waiting) (codel : CodelState)
      → (drops : ℕ) × (mark : Mark) × (codel' : CodelState) × (given : Waiting) × (Decides p now (w ∷ queue) codel drops mark codel') × (slice_get (w ∷ queue) drops ≡ Some given)
  gives_one now w queue codel =
      let d = laws.exists p now (w ∷ queue) codel in
      elim (laws.gives p now (w ∷ queue) codel d.0 d.1 d.2 d.3) [
        | inl none ↦ let e = none.0 in absurd cc
        | inr below ↦ (d.0, d.1, d.2, get_or (w ∷ queue) d.0 w, d.3, slice_get-get_or (w ∷ queue) d.0 w below)
      ]

  gives_none : (now : ℕ) (codel : CodelState) → (mark : Mark) × (codel' : CodelState) × Decides p now [] codel 0 mark codel'
  gives_none now codel =
      let d = laws.exists p now [] codel in
      elim (laws.gives p now [] codel d.0 d.1 d.2 d.3) [
        | inl none ↦ (d.1, d.2, subst (λ k. Decides p now [] codel k d.1 d.2) none.1 d.3)
        | inr below ↦ absurd (omega arith)
      ]

  pub policy_decided : AreInRange p → IsDecided (fq_codel_policy p)
  policy_decided range = record {
    quantum = range.quantum.0;
    gives = gives_one;
    empties = gives_none;
    once = λ now queue codel drops drops' mark mark' codel' codel'' d d'. laws.unique p now queue codel drops drops' mark mark' codel' codel'' d d';
    overflows = λ queues have. overflow_there p queues range.drop_batch.0 have;
    overflows_once = overflow_once p;
  }
