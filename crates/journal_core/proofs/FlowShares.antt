-- How an event carries on one flow's share of a journal.
use Rattle.std.proofs.Common.{◌≡◌, ℕ, Bool, true, false, cond, List, [], ◌∷◌, ◌++◌, map, filter, eqb, Some, refl, sym, ap, subst, ◌∙◌, inl, inr, append_assoc, append-nil}
use Rattle.journal_core.proofs.Words.{AllByRecursion, cases_Bool, map-append, filter-append, Waiting, Acceptance, waiting_of, named, is_among, passes, IsLine}
use Rattle.journal_core.proofs.ListLemmas.{filter_agree_on, ByRecursion-both, ByRecursion-filter, ByRecursion-passes, ByRecursion-parts, ByRecursion-weaker}
use Rattle.journal_core.proofs.IdLemmas.{id_of, Rises, Rises-apart, Rises-filter, named_itself, passes_at, passes-append, is_among-filter}

-- each id has an acceptance
abbrev pub AreFound : List Acceptance → List ℕ → Type 0
AreFound accepted ids = AllByRecursion (λ id. (a : Acceptance) × (named accepted id ≡ Some a)) ids

-- whether an acceptance is of the flow
abbrev pub of_flow : ℕ → Acceptance → Bool
of_flow flow a = eqb a.flow flow

-- more acceptances leave the tests of found ids
pub passes_stay : (test : Acceptance → Bool) (accepted more : List Acceptance) (ids : List ℕ) → AreFound accepted ids → filter (passes test (accepted ++ more)) ids ≡ filter (passes test accepted) ids
passes_stay test accepted more ids found =
    filter_agree_on (passes test (accepted ++ more)) (passes test accepted) ids
    (ByRecursion-weaker (λ id. (a : Acceptance) × (named accepted id ≡ Some a)) (λ id. passes test (accepted ++ more) id ≡ passes test accepted id) ids (λ id h. passes-append test accepted more id h.0 h.1) found)

-- how an acceptance waits, in the queue of its own flow
arrival_waits : (flow : ℕ) (a : Acceptance) → map waiting_of (filter (of_flow flow) (a ∷ [])) ≡ cond (eqb a.flow flow) (waiting_of a ∷ []) []
arrival_waits flow a = elim (cases_Bool (eqb a.flow flow)) [ inl t ↦ rw t | inr t ↦ rw t ]

-- a packet is accepted
pub line_accepts : (flow : ℕ) (waiting : List Waiting) (accepted : List Acceptance) (fated : List ℕ) (a : Acceptance) → AreFound accepted fated → IsLine flow waiting accepted fated
    → IsLine flow (waiting ++ cond (eqb a.flow flow) (waiting_of a ∷ []) []) (accepted ++ a ∷ []) fated
line_accepts flow waiting accepted fated a found line = record {
  gone = line.gone;
  rest = line.rest ++ filter (of_flow flow) (a ∷ []);
  split =
      filter-append (of_flow flow) accepted (a ∷ []) ∙ ap (λ r. r ++ filter (of_flow flow) (a ∷ [])) line.split ∙ append_assoc line.gone line.rest (filter (of_flow flow) (a ∷ []));
  fates = passes_stay (of_flow flow) accepted (a ∷ []) fated found ∙ line.fates;
  queue =
      ap (λ r. r ++ cond (eqb a.flow flow) (waiting_of a ∷ []) []) line.queue ∙ sym (map-append waiting_of line.rest (filter (of_flow flow) (a ∷ [])) ∙ ap (λ r. map waiting_of line.rest ++ r) (arrival_waits flow a));
}

-- What is known of the packet at the head of a flow's queue, and the flow's share once it has a fate.
pub record Leaves (flow : ℕ) (w : Waiting) (waiting : List Waiting) (accepted : List Acceptance) (fated : List ℕ) : Type 0 where
  pub who : Acceptance
  pub found : named accepted w.id ≡ Some who
  pub same : waiting_of who ≡ w
  pub flow_is : eqb who.flow flow ≡ true
  pub new : is_among fated w.id ≡ false
  pub line : IsLine flow waiting accepted (fated ++ w.id ∷ [])

-- an acceptance of the flow, which is found by its id
abbrev pub IsOwn : ℕ → List Acceptance → Acceptance → Type 0
IsOwn flow accepted a = (named accepted a.id ≡ Some a) × (of_flow flow a ≡ true)

pub all_own : (flow : ℕ) (accepted : List Acceptance) → Rises 0 accepted → AllByRecursion (IsOwn flow accepted) (filter (of_flow flow) accepted)
all_own flow accepted rises =
    let P = λ (a : Acceptance). named accepted a.id ≡ Some a in
    ByRecursion-both P (λ a. of_flow flow a ≡ true) (filter (of_flow flow) accepted) (ByRecursion-filter P (of_flow flow) accepted (named_itself 0 accepted rises)) (ByRecursion-passes (of_flow flow) accepted)

-- so are those that are gone, and the rest
pub parts_own : (flow : ℕ) (accepted gone rest : List Acceptance) → Rises 0 accepted → filter (of_flow flow) accepted ≡ gone ++ rest → AllByRecursion (IsOwn flow accepted) gone × AllByRecursion (IsOwn flow accepted) rest
parts_own flow accepted gone rest rises split = ByRecursion-parts (IsOwn flow accepted) gone rest (subst (AllByRecursion (IsOwn flow accepted)) split (all_own flow accepted rises))

head_leaves : (flow : ℕ) (a : Acceptance) (gone rest accepted : List Acceptance) (fated : List ℕ) → Rises 0 accepted → filter (of_flow flow) accepted ≡ gone ++ a ∷ rest → filter (passes (of_flow flow) accepted) fated ≡ map id_of gone
    → Leaves flow (waiting_of a) (map waiting_of rest) accepted fated
head_leaves flow a gone rest accepted fated rises split fates =
    let own = (parts_own flow accepted gone (a ∷ rest) rises split).1.0 in
    let test : passes (of_flow flow) accepted a.id ≡ true = passes_at (of_flow flow) accepted a.id a own.0 ∙ own.1 in
    record {
      who = a;
      found = own.0;
      same = refl;
      flow_is = own.1;
      new =
          sym (is_among-filter (passes (of_flow flow) accepted) fated a.id test) ∙ ap (λ ids. is_among ids a.id) fates ∙ Rises-apart 0 gone rest a (subst (Rises 0) split (Rises-filter (of_flow flow) 0 accepted rises));
      line = record {
        gone = gone ++ a ∷ [];
        rest = rest;
        split = split ∙ sym (append_assoc gone (a ∷ []) rest);
        fates = filter-append (passes (of_flow flow) accepted) fated (a.id ∷ []) ∙ (λ k. fates k ++ cond (test k) (a.id ∷ []) []) ∙ sym (map-append id_of gone (a ∷ []));
        queue = refl;
      };
    }

-- a packet leaves the head of its flow's queue
pub line_leaves : (flow : ℕ) (w : Waiting) (waiting : List Waiting) (accepted : List Acceptance) (fated : List ℕ) → Rises 0 accepted → IsLine flow (w ∷ waiting) accepted fated → Leaves flow w waiting accepted fated
line_leaves flow w waiting accepted fated rises line = from_rest line.gone line.rest line.split line.fates line.queue
  where
    from_rest : (gone rest : List Acceptance) → filter (of_flow flow) accepted ≡ gone ++ rest → filter (passes (of_flow flow) accepted) fated ≡ map id_of gone → w ∷ waiting ≡ map waiting_of rest → Leaves flow w waiting accepted fated
    from_rest gone [] split fates queue = absurd cc
    from_rest gone (a ∷ rest) split fates queue =
        let head : w ≡ waiting_of a = cc in
        let tail : waiting ≡ map waiting_of rest = cc in
        rw (head, tail) (head_leaves flow a gone rest accepted fated rises split fates)

-- a packet of another flow has a fate
pub line_stays : (flow : ℕ) (waiting : List Waiting) (accepted : List Acceptance) (fated : List ℕ) (id : ℕ) (who : Acceptance) → named accepted id ≡ Some who → eqb who.flow flow ≡ false → IsLine flow waiting accepted fated
    → IsLine flow waiting accepted (fated ++ id ∷ [])
line_stays flow waiting accepted fated id who found other line = record {
  gone = line.gone;
  rest = line.rest;
  split = line.split;
  fates =
      filter-append (passes (of_flow flow) accepted) fated (id ∷ []) ∙ (λ k. line.fates k ++ cond ((passes_at (of_flow flow) accepted id who found ∙ other) k) (id ∷ []) [])
      ∙ append-nil (map id_of line.gone);
  queue = line.queue;
}
