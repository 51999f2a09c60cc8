-- What comes to the packets that a journal names, as events come to its end.
use Rattle.std.proofs.Common.{◌≡◌, ℕ, ◌+◌, ◌≤◌, Bool, cond, List, ◌++◌, length, map, Option, ap, ◌∙◌, arith}
use Rattle.std.specs.Prelude.{count_by}
use Rattle.std.specs.List.{filter_map}
use Rattle.std.proofs.lemmas.List.{length-append, map-append}
use Rattle.std.proofs.lemmas.List.Elements.{filter_map-append}
use Rattle.std.proofs.lemmas.List.Sums.{sum_by-append}
use Rattle.journal_core.specs.declared.event.Event.{Event}
use Rattle.journal_core.specs.Happened.{acceptance_of, acceptances, fate_ids, named, waiting_of}
use Rattle.journal_core.specs.Losses.{accepted_packets, lost_packets, packets_named, sent_packets, waited_as}
use Rattle.journal_core.specs.Statistics.{bytes_named, dropped_of, is_marked, is_threshold_marked, length_named, sent_of, statistics}
use Rattle.journal_core.proofs.FatelessPackets.{fate_parts}
use Rattle.journal_core.proofs.FlowShares.{AreFound}
use Rattle.journal_core.proofs.HistoryEvents.{bytes_stay}
use Rattle.journal_core.proofs.LossLemmas.{packets_stay}
use Rattle.queue_disc_core.specs.QueueDiscTotals.{HasGrown}

module _ (old made : List Event) (found : AreFound (acceptances old) (fate_ids old)) where
  abbrev all : List Event
  all = old ++ made

  sent_found : AreFound (acceptances old) (filter_map sent_of old)
  sent_found = (fate_parts (λ i. (a : _) × (named (acceptances old) i ≡ Option.Some a)) old found).0

  dropped_found : AreFound (acceptances old) (filter_map dropped_of old)
  dropped_found = (fate_parts (λ i. (a : _) × (named (acceptances old) i ≡ Option.Some a)) old found).1

  pub accepted_more : accepted_packets all ≡ accepted_packets old ++ map waiting_of (acceptances made)
  accepted_more = ap (map waiting_of) (filter_map-append acceptance_of old made) ∙ map-append waiting_of (acceptances old) (acceptances made)

  named_more : (told : Event → Option ℕ) → AreFound (acceptances old) (filter_map told old)
      → packets_named (acceptances all) (filter_map told all) ≡ packets_named (acceptances old) (filter_map told old) ++ packets_named (acceptances all) (filter_map told made)
  named_more told known =
      let stays : packets_named (acceptances all) (filter_map told old) ≡ packets_named (acceptances old) (filter_map told old) =
      ap (λ accepted. packets_named accepted (filter_map told old)) (filter_map-append acceptance_of old made) ∙ packets_stay (acceptances old) (acceptances made) (filter_map told old) known in
      ap (packets_named (acceptances all)) (filter_map-append told old made)
      ∙ filter_map-append (waited_as (acceptances all)) (filter_map told old) (filter_map told made)
      ∙ ap (λ l. l ++ packets_named (acceptances all) (filter_map told made)) stays

  pub sent_more : sent_packets all ≡ sent_packets old ++ packets_named (acceptances all) (filter_map sent_of made)
  sent_more = named_more sent_of sent_found

  pub lost_more : lost_packets all ≡ lost_packets old ++ packets_named (acceptances all) (filter_map dropped_of made)
  lost_more = named_more dropped_of dropped_found

  bytes_grow : bytes_named (acceptances old) (filter_map sent_of old) ≤ bytes_named (acceptances all) (filter_map sent_of all)
  bytes_grow =
      let more : bytes_named (acceptances all) (filter_map sent_of all) ≡ bytes_named (acceptances all) (filter_map sent_of old) + bytes_named (acceptances all) (filter_map sent_of made) =
      ap (bytes_named (acceptances all)) (filter_map-append sent_of old made) ∙ sum_by-append (length_named (acceptances all)) (filter_map sent_of old) (filter_map sent_of made) in
      let stays : bytes_named (acceptances all) (filter_map sent_of old) ≡ bytes_named (acceptances old) (filter_map sent_of old) =
      ap (λ accepted. bytes_named accepted (filter_map sent_of old)) (filter_map-append acceptance_of old made) ∙ bytes_stay (acceptances old) (acceptances made) (filter_map sent_of old) sent_found in
      omega arith

  count_grows : (test : Event → Bool) → count_by test old ≤ count_by test all
  count_grows test = let more = sum_by-append (λ e. cond (test e) 1 0) old made in omega arith

  -- What is counted of sent packets never falls.
  pub has_grown : HasGrown (statistics old) (statistics all)
  has_grown = record {
    sent = let more : length (filter_map sent_of all) ≡ length (filter_map sent_of old) + length (filter_map sent_of made) = ap length (filter_map-append sent_of old made) ∙ length-append (filter_map sent_of old) (filter_map sent_of made) in
        omega arith;
    bytes = bytes_grow;
    marked = count_grows is_marked;
    threshold_marked = count_grows is_threshold_marked;
  }
