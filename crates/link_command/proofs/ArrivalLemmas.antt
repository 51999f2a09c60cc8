-- An arrival more.
use Rattle.std.proofs.Common.{◌≡◌, ◌∙◌, ℕ, zero, suc, ◌-◌, ◌<◌, ◌≤◌, All, List, [], ◌∷◌, ◌++◌, Ok, Some, ap, ap₂, get_or, inl, inr, leb, length, ltb, map, refl, rules, sym, take, arith}
use Rattle.std.proofs.lemmas.Bool.{cases_Bool}
use Rattle.std.proofs.lemmas.List.{length_push, map-append}
use Rattle.std.proofs.lemmas.List.Elements.{All-push}
use Rattle.std.proofs.lemmas.List.Sorted.{IsNonDecreasingBy-push}
use Rattle.journal_core.specs.declared.step.Step.{Step}
use Rattle.journal_core.specs.declared.step.Step.TheVariants.{Enqueue, Dequeue, Close}
use Rattle.row_core.specs.Traces.{HasTaken, TraceFaults, trace_of}
use Rattle.row_core.specs.declared.reader.TraceRows.{TraceRows}
use Rattle.row_core.specs.declared.faults.TraceFaultKind.TheVariants as kind
use Rattle.row_core.specs.declared.faults.TraceFaultKind.{TraceFaultKind}
use Rattle.link_core.specs.Arrivals.{AreArrivals, arrival_moment}
use Rattle.link_core.specs.declared.arrival.Arrival.{Arrival}
use Rattle.link_core.specs.declared.arrival.TheConstants.{MAX_ARRIVALS, MAX_ARRIVAL_MOMENT}
use Rattle.link_command.specs.ArrivalTexts.{IsOwnFault, IsOwnRow, IsPlaceFault, IsRowFault, IsRowOfStep, IsStepFault, IsTextFault, arrival_step, last_arrival_of, step_fault, without_lane}
use Rattle.link_command.specs.declared.arrivals.NoArrivals.{NoArrivals}
use Rattle.link_command.specs.declared.arrivals.NoArrivals.TheVariants as no_arrivals
use Rattle.link_command.specs.declared.faults.RowFault.{RowFault}
use Rattle.link_command.specs.declared.faults.RowFault.TheVariants.{Trace, NotAnArrival, TooLate, Backwards}

-- one that comes at the last moment or later
pub arrivals_push : (arrivals : List Arrival) (a : Arrival) (last : ℕ) → AreArrivals arrivals → All (λ (b : Arrival). b.moment ≤ last) arrivals → last ≤ a.moment → a.moment < MAX_ARRIVAL_MOMENT → length arrivals < MAX_ARRIVALS
    → AreArrivals (arrivals ++ a ∷ [])
arrivals_push arrivals a last are before after soon room = record {
  few = omega (arith, length_push arrivals a);
  soon = All-push (λ (b : Arrival). b.moment < MAX_ARRIVAL_MOMENT) arrivals a are.soon soon;
  rise = IsNonDecreasingBy-push arrival_moment arrivals a are.rise (λ d some. omega (arith, before (length arrivals - 1) d (omega arith)));
}

-- and then it has the last moment
pub before_push : (arrivals : List Arrival) (a : Arrival) (last : ℕ) → All (λ (b : Arrival). b.moment ≤ last) arrivals → last ≤ a.moment → All (λ (b : Arrival). b.moment ≤ a.moment) (arrivals ++ a ∷ [])
before_push arrivals a last before after =
    All-push (λ (b : Arrival). b.moment ≤ a.moment) arrivals a (λ i d low. omega (arith, before i d low)) (omega arith)

-- what an arrival more is, by its step
pub same_more : (steps : List Step) (step : Step) (arrivals : List Arrival) (a : Arrival) → map without_lane steps ≡ map arrival_step arrivals → without_lane step ≡ arrival_step a
    → map without_lane (steps ++ step ∷ []) ≡ map arrival_step (arrivals ++ a ∷ [])
same_more steps step arrivals a before same =
    map-append without_lane steps (step ∷ []) ∙ ap₂ (λ xs x. xs ++ x ∷ []) before same ∙ sym (map-append arrival_step arrivals (a ∷ []))

at_end : (arrivals : List Arrival) (a : Arrival) (n : ℕ) → n ≡ length arrivals → get_or (map arrival_moment (arrivals ++ a ∷ [])) n 0 ≡ a.moment
at_end [] a zero e = refl
at_end [] a (suc n) e = absurd (omega arith)
at_end (b ∷ arrivals) a zero e = absurd (omega arith)
at_end (b ∷ arrivals) a (suc n) e = at_end arrivals a n (omega arith)

-- the last moment is then that of the arrival
pub last_more : (arrivals : List Arrival) (a : Arrival) → a.moment ≡ last_arrival_of (arrivals ++ a ∷ [])
last_more arrivals a = sym (at_end arrivals a (length (arrivals ++ a ∷ []) - 1) (omega (arith, length_push arrivals a)))

no_trace : (last : ℕ) (step : Step) (what : TraceFaultKind) → step_fault last step ≡ Some (Trace what) → ⊥
no_trace last (Dequeue moment) what e = search (rules, e)
no_trace last (Close moment) what e = search (rules, e)
no_trace last (Enqueue moment lane packet) what e = elim (cases_Bool (leb MAX_ARRIVAL_MOMENT moment)) [
  | inl late ↦ let bad = rw late at e in search (rules, bad)
  | inr soon ↦ elim (cases_Bool (ltb moment last)) [
    | inl back ↦ let bad = rw (soon, back) at e in search (rules, bad)
    | inr on ↦ let bad = rw (soon, on) at e in search (rules, bad)
  ]
]

get_last : (steps : List Step) (step d : Step) → get_or (steps ++ step ∷ []) (length steps) d ≡ step
get_last [] step d = refl
get_last (s ∷ steps) step d = get_last steps step d

take_before : (steps : List Step) (step : Step) → take (length steps) (steps ++ step ∷ []) ≡ steps
take_before [] step = refl
take_before (s ∷ steps) step = ap (λ l. s ∷ l) (take_before steps step)

step_fault_at : (steps : List Step) (step : Step) (what : RowFault) (arrivals : List Arrival) (l : ℕ) → AreArrivals arrivals → map without_lane steps ≡ map arrival_step arrivals
    → l ≡ last_arrival_of arrivals → step_fault l step ≡ Some what → IsStepFault (steps ++ step ∷ []) (length steps) what
step_fault_at steps step what arrivals l are before same fault = record {
  within = omega (arith, length_push steps step);
  arrivals = arrivals;
  are = are;
  before = ap (map without_lane) (take_before steps step) ∙ before;
  fault = ap₂ step_fault (sym same) (get_last steps step (Close 0)) ∙ fault;
}

-- a step that is no arrival behind those that are
pub place_fault : (steps : List Step) (step : Step) (what : RowFault) (arrivals : List Arrival) (l : ℕ) → AreArrivals arrivals → map without_lane steps ≡ map arrival_step arrivals
    → l ≡ last_arrival_of arrivals → step_fault l step ≡ Some what → IsPlaceFault (steps ++ step ∷ []) (length steps) what
place_fault steps step (Trace what) arrivals l are before same fault = absurd (no_trace l step what fault)
place_fault steps step NotAnArrival arrivals l are before same fault = step_fault_at steps step NotAnArrival arrivals l are before same fault
place_fault steps step TooLate arrivals l are before same fault = step_fault_at steps step TooLate arrivals l are before same fault
place_fault steps step Backwards arrivals l are before same fault = step_fault_at steps step Backwards arrivals l are before same fault

get_before : (steps : List Step) (step d : Step) (place : ℕ) → place < length steps → get_or (steps ++ step ∷ []) place d ≡ get_or steps place d
get_before [] step d place within = absurd (omega arith)
get_before (s ∷ steps) step d zero within = refl
get_before (s ∷ steps) step d (suc place) within = get_before steps step d place (omega arith)

take_less : (steps : List Step) (step : Step) (place : ℕ) → place < length steps → take place (steps ++ step ∷ []) ≡ take place steps
take_less [] step place within = absurd (omega arith)
take_less (s ∷ steps) step zero within = refl
take_less (s ∷ steps) step (suc place) within = ap (λ l. s ∷ l) (take_less steps step place (omega arith))

step_fault_stays : (steps : List Step) (step : Step) (place : ℕ) (what : RowFault) → IsStepFault steps place what → IsStepFault (steps ++ step ∷ []) place what
step_fault_stays steps step place what h = record {
  within = omega (arith, h.within, length_push steps step);
  arrivals = h.arrivals;
  are = h.are;
  before = ap (map without_lane) (take_less steps step place h.within) ∙ h.before;
  fault = ap (step_fault (last_arrival_of h.arrivals)) (get_before steps step (Close 0) place h.within) ∙ h.fault;
}

-- which stays the first one, whatever step follows
pub fault_stays : (steps : List Step) (step : Step) (place : ℕ) (what : RowFault) → IsPlaceFault steps place what → IsPlaceFault (steps ++ step ∷ []) place what
fault_stays steps step place (Trace what) h = absurd h
fault_stays steps step place NotAnArrival h = step_fault_stays steps step place NotAnArrival h
fault_stays steps step place TooLate h = step_fault_stays steps step place TooLate h
fault_stays steps step place Backwards h = step_fault_stays steps step place Backwards h

-- and has its row
its_row : (Is : TraceFaults) (text : List ℕ) (row place : ℕ) (steps : List Step) (what : RowFault) → trace_of text ≡ Ok steps → IsPlaceFault steps place what → IsRowOfStep text row place → IsRowFault Is text row what
its_row Is text row place steps (Trace what) read fault row_is = absurd fault
its_row Is text row place steps NotAnArrival read fault row_is = record { steps = steps; read = read; place = place; fault = fault; row_is = row_is }
its_row Is text row place steps TooLate read fault row_is = record { steps = steps; read = read; place = place; fault = fault; row_is = row_is }
its_row Is text row place steps Backwards read fault row_is = record { steps = steps; read = read; place = place; fault = fault; row_is = row_is }

-- the fault of a row, or no row's, stays the first one too
pub own_stays : (steps : List Step) (step : Step) (place : ℕ) (own : NoArrivals) → IsOwnFault steps place own → IsOwnFault (steps ++ step ∷ []) place own
own_stays steps step place (no_arrivals.Row row what) h = fault_stays steps step place what h
own_stays steps step place no_arrivals.Memory h = tt

-- and is the text's
pub text_fault : (Is : TraceFaults) (text : List ℕ) (steps : List Step) (place : ℕ) (own : NoArrivals) → trace_of text ≡ Ok steps → IsOwnFault steps place own → IsOwnRow text place own → IsTextFault Is text own
text_fault Is text steps place (no_arrivals.Row row what) read fault row_is = its_row Is text row place steps what read fault row_is
text_fault Is text steps place no_arrivals.Memory read fault row_is = (steps, read)

-- a step that is no arrival is no want of memory
pub no_memory : (last : ℕ) (step : Step) (what : RowFault) → step_fault last step ≡ Some what → what ≡ Trace kind.Memory → ⊥
no_memory last step what fault memory = no_trace last step kind.Memory (fault ∙ ap Some memory)

-- a fault of traces is that one
pub of_trace : (what : TraceFaultKind) → Trace what ≡ Trace kind.Memory → what ≡ kind.Memory
of_trace what e = cc e

-- What rows have told so far: steps that are arrivals, of which the last has that moment.
pub record AreSoFar (text : List ℕ) (rows : TraceRows) (turns : ℕ) (steps : List Step) (arrivals : List Arrival) (last : ℕ) : Type 0 where
  pub taken : HasTaken text rows turns steps
  pub are : AreArrivals arrivals
  pub count : length arrivals ≤ turns
  pub before : All (λ (a : Arrival). a.moment ≤ last) arrivals
  pub same : map without_lane steps ≡ map arrival_step arrivals
  pub last_is : last ≡ last_arrival_of arrivals

pub none_so_far : (text : List ℕ) (rows : TraceRows) → HasTaken text rows 0 [] → AreSoFar text rows 0 [] [] 0
none_so_far text rows taken = record {
  taken = taken;
  are = record { few = omega arith; soon = λ i d low. absurd (omega arith); rise = λ i j d before low. absurd (omega arith) };
  count = omega arith;
  before = λ i d low. absurd (omega arith);
  same = refl;
  last_is = refl;
}
