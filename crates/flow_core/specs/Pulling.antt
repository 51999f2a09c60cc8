use Rattle.std.specs.Prelude.{◌≡◌, ℕ, ◌+◌, ◌-◌, ◌*◌, ◌<◌, List, [], drop, length, min, set}
use Rattle.std.specs.Borrow.{MutBor}
use Rattle.std.proofs.Common.{refl, sym, ap, ◌∙◌, arith}
use Rattle.std.proofs.Math.Nat.{add-mul}
use Rattle.std.proofs.lemmas.List.{drop-drop, get_or-set_same, length-drop, length-set, set-get_or, set-set}
use Rattle.packet_core.specs.declared.packet.Waiting.{Waiting}
use Rattle.flow_core.specs.FlowLists.{FlowLists, Holding, queue_at, with_queue}
use Rattle.flow_core.specs.Winners.{CountsFew}

-- That many pulls from the flow, one after another: the flow lost so many packets from its head, few comparisons came
-- for each packet that there was, and nothing else changed. It is the same borrow.
pub record PullsFlow (flow : ℕ) (old : MutBor Holding) (n flow' : ℕ) (new : MutBor Holding) : Type 0 where
  pub same_flow : flow' ≡ flow
  pub same_reference : new.ghost_name ≡ old.ghost_name
  pub rest :
      new.now
      ≡ record old.now {
        lists = with_queue old.now.lists flow (drop n (queue_at old.now.lists flow));
        comparisons = new.now.comparisons;
      }
  pub few_comparisons :
      CountsFew (length old.now.lists.queues) (min n (length (queue_at old.now.lists flow)))
      old.now.comparisons new.now.comparisons

-- no pull
pub flow_pulls_none : (flow : ℕ) (a : MutBor Holding) → PullsFlow flow a 0 flow a
flow_pulls_none flow a = record {
  same_flow = refl;
  same_reference = refl;
  rest =
      let left : List (List Waiting) → Holding = λ qs. record a.now { lists = record a.now.lists { queues = qs } } in
      sym (ap left (set-get_or a.now.lists.queues flow []));
  few_comparisons = record { none_lost = omega arith; most = λ levels is. omega arith };
}

-- the lists without so many packets of the flow
abbrev pub without : FlowLists → ℕ → ℕ → FlowLists
without lists flow n = with_queue lists flow (drop n (queue_at lists flow))

-- two changes of one flow's queue
without_twice : (lists : FlowLists) (flow n : ℕ) → flow < length lists.queues
    → without (without lists flow n) flow 1 ≡ without lists flow (n + 1)
without_twice lists flow n within =
    let left = drop n (queue_at lists flow) in
    let same = get_or-set_same lists.queues flow left [] within in
    ap (λ (qs : List (List Waiting)). record lists { queues = qs })
    (ap (λ (l : List Waiting). set (set lists.queues flow left) flow (drop 1 l)) same
    ∙ set-set lists.queues flow left (drop 1 left)
    ∙ ap (λ (l : List Waiting). set lists.queues flow l) (drop-drop 1 n (queue_at lists flow)))

-- the flow as the first pulls left it
queue_left : (a b : Holding) (flow n : ℕ) → flow < length a.lists.queues
    → b ≡ record a { lists = without a.lists flow n; comparisons = b.comparisons }
    → queue_at b.lists flow ≡ drop n (queue_at a.lists flow)
queue_left a b flow n within rest =
    ap (λ (h : Holding). queue_at h.lists flow) rest
    ∙ get_or-set_same a.lists.queues flow (drop n (queue_at a.lists flow)) [] within

-- the comparisons of pulls, and of one more
counts_more : (flows many old mid new : ℕ) (n : ℕ) → CountsFew flows (min n many) old mid
    → CountsFew flows (min 1 (many - n)) mid new → CountsFew flows (min (n + 1) many) old new
counts_more flows many old mid new n first then' = record {
  none_lost = omega (arith, first.none_lost, then'.none_lost);
  most = λ levels is.
      let one = first.most levels is in
      let next = then'.most levels is in
      let sum : min (n + 1) many ≡ min n many + min 1 (many - n) = omega arith in
      let parts : min (n + 1) many * levels ≡ min n many * levels + min 1 (many - n) * levels =
      ap (λ (k : ℕ). k * levels) sum ∙ add-mul (min n many) (min 1 (many - n)) levels in
      omega arith;
}

-- one pull more
pub flow_pulls_more :
    (flow : ℕ) (a : MutBor Holding) (flow' : ℕ) (b : MutBor Holding) (flow'' : ℕ) (c : MutBor Holding) (n : ℕ)
    → flow < length a.now.lists.queues → PullsFlow flow a n flow' b → PullsFlow flow' b 1 flow'' c
    → PullsFlow flow a (n + 1) flow'' c
flow_pulls_more flow a flow' b flow'' c n within first then' = record {
  same_flow = then'.same_flow ∙ first.same_flow;
  same_reference = then'.same_reference ∙ first.same_reference;
  rest =
      let pulled : Holding → ℕ → Holding =
      λ h f. record h { lists = without h.lists f 1; comparisons = c.now.comparisons } in
      then'.rest
      ∙ ap (pulled b.now) first.same_flow
      ∙ ap (λ (h : Holding). pulled h flow) first.rest
      ∙ ap (λ (l : FlowLists). record a.now { lists = l; comparisons = c.now.comparisons })
      (without_twice a.now.lists flow n within);
  few_comparisons =
      let queue = queue_at a.now.lists flow in
      let left = queue_left a.now b.now flow n within first.rest in
      let many : length (queue_at b.now.lists flow) ≡ length queue - n = ap length left ∙ length-drop n queue in
      let flows : length b.now.lists.queues ≡ length a.now.lists.queues =
      ap (λ (h : Holding). length h.lists.queues) first.rest ∙ length-set a.now.lists.queues flow (drop n queue) in
      counts_more (length a.now.lists.queues) (length queue) a.now.comparisons b.now.comparisons c.now.comparisons n
      first.few_comparisons (rw (flows, first.same_flow, many) at then'.few_comparisons);
}
