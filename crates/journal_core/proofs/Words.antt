-- The words that many of these proofs share, those of the definitions and those of std on lists and tests.
pub use Rattle.std.proofs.lemmas.Bool.{cases_Bool, cases_eq, cases_lt, eq-eqb, eqb-false, eqb-true, false≢true, leb-false, ltb-false, ne_eqb, or_parts}
pub use Rattle.std.proofs.lemmas.Bool.Decides.{Decides-and, Decides-eqb, Decides-like, nat_tests, same_from_decides}
pub use Rattle.std.proofs.lemmas.List.{append-nil, get_or-map, get_or-set_other, get_or-set_same, length-append, length-map, length-set, length-take-le, length_push, map-append, map-id, same_lists, take-append-le, take_all, take_at, take_more}
pub use Rattle.std.proofs.lemmas.List.Elements.{All-contains, All-from_recursion, All-map, All-push, All-weaker, filter-append, filter_map-append, recursion_from_All}
pub use Rattle.std.proofs.lemmas.List.Folds.{find-append, list_any-append}
pub use Rattle.std.proofs.lemmas.List.FromFn.{get_or-range_with_len, length-range_with_len, map-range_with_len_more}
pub use Rattle.std.proofs.lemmas.List.Sums.{count_by-le-length, fold-append, sum_by-append, sum_by-cons}
pub use Rattle.std.specs.List.{AllByRecursion, AllZip, Contains, IsDistinct, cons_option, filter_map, flat_map, list_any, range_with_len}
pub use Rattle.std.specs.Prelude.{count_by, sum_by}
pub use Rattle.packet_core.specs.declared.packet.FiveTuple.{FiveTuple}
pub use Rattle.packet_core.specs.declared.packet.Waiting.{Waiting}
pub use Rattle.packet_core.specs.Packets.{PacketParts, same_ip, same_tuple}
pub use Rattle.journal_core.specs.declared.event.Event.{Event}
pub use Rattle.journal_core.specs.declared.event.Event.TheVariants.{Accepted, Closed, Dropped, Sent}
pub use Rattle.journal_core.specs.declared.outcome.Answer.{Answer}
pub use Rattle.journal_core.specs.declared.step.Step.{Step}
pub use Rattle.journal_core.specs.declared.step.Step.TheVariants.{Close, Dequeue, Enqueue}
pub use Rattle.journal_core.specs.Disciplines.{Batch, Discipline, Given, IsFifoByFlow, LeaveHeads, LeavesHead, MayHave, given_packet, heads, packets_of, with_arrival}
pub use Rattle.journal_core.specs.Happened.{Acceptance, acceptance_of, acceptances, accepted_ids, fate_ids, fate_of, is_among, is_closed, moment_of, named, packet_id_of, passes, waiting_of, without_fate}
pub use Rattle.journal_core.specs.History.{AreCounts, IsHistory, IsLine}
pub use Rattle.journal_core.specs.JournalLaws.{AreDistinct, FatesFollow, FlowsAreNamed, IdsInOrder, IsClosedForGood, IsHonest, JournalLaws, MomentsRise, WaitWithoutFate, is_barred}
pub use Rattle.journal_core.specs.Runs.{IsRun, Made, Runs, StandsIn, Takes, given_by_made, is_refused, journal_of, outcomes_from, steps_made}
pub use Rattle.journal_core.specs.State.{State, arrival, closed_refusal_of, first_of_two, id_refusal_of, moment_fault_of, opening_state, refusal_of}
pub use Rattle.journal_core.specs.Statistics.{bytes_named, dropped_of, is_codel_drop, is_marked, is_overflow_drop, is_threshold_marked, length_named, length_of, sent_of}
pub use Rattle.journal_core.specs.Steps.{Admits, Closes, Makes, Serves, Steps, dequeue_answer, drop_event, sent_events}
pub use Rattle.journal_core.specs.Tallies.{AreTallied, IsBalanced, IsTallied, counted, row_so_far, settled, tuple_of, with_row}
