use Rattle.std.proofs.Common.{◌≡◌, Some, arith, length, refl, rules}
use Rattle.std.specs.Prelude.{slice_get}
use Rattle.std.proofs.lemmas.Grind.{common_steps}
use Rattle.std.proofs.lemmas.Option.{slice_get_read}
use Rattle.std.proofs.lemmas.Result.{on_ok_weaker}
use Rattle.link_report.proofs.SeriesLemmas.{own_of, taken}
use Rattle.link_report.proofs.series.Series.take.Goals as goal
use Rattle.link_report.proofs.series.Series.take.Goals.{in-Accepted, in-Accepted-2, in-Accepted-3}

pub returns-clause-walk : goal.returns-clause-walk
returns-clause-walk c =
    let event = c.args.event.now in
    let packets = c.args.packets.now in
    let id = c.match-event.id.0 in
    let moment = c.match-event.id.1 in
    let p = c.in-Some.packet.now in
    let own : own_of event ≡ Some (id, moment) = elim c.match-event.branch [
      | in-Accepted w ↦ rw w.id-is (first_of (search rules, grind (arith, common_steps)))
      | in-Accepted-2 w ↦ rw w.id-is (first_of (search rules, grind (arith, common_steps)))
      | in-Accepted-3 w ↦ rw w.id-is (first_of (search rules, grind (arith, common_steps)))
    ] in
    let told = c.in_ok-go_on.ensures {u = tt} in
    let item = c.in-Some.ensures.lookup in
    let found : slice_get packets id ≡ Some p = slice_get_read packets (length packets) id p refl item.3.0 item.1 in
    on_ok_weaker c.note.result (λ notes. λ before walk at. taken before c.args.self.now c.go_on.new.self c.note.new.self c.go_on.new.table packets walk event id moment c.bin_at.result p own found c.bin_at.ensures at.place.every (told.walk before walk at) notes) c.note.ensures.walk
