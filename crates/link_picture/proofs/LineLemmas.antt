-- The packets of a line, one packet more.
use Rattle.std.proofs.Common.{◌≡◌, ◌≢◌, ◌∙◌, ℕ, ◌+◌, ◌<◌, ◌≤◌, ◌==◌, cond, List, [], ◌∷◌, ◌++◌, append-nil, get_or, take, length, ap, arith}
use Rattle.std.proofs.lemmas.Bool.{eq-eqb, ne_eqb}
use Rattle.std.proofs.lemmas.List.Elements.{filter_more}
use Rattle.std.proofs.lemmas.List.Sums.{length-filter, count_by-le-length}
use Rattle.link_report.specs.declared.packets.PacketRecord.{PacketRecord}
use Rattle.link_picture.specs.Lines.{line_number_of, packets_on}

pub own_more : (chosen : List ℕ) (line i : ℕ) (packets : List PacketRecord) (d : PacketRecord) → i < length packets → line_number_of chosen (get_or packets i d).tuple ≡ line → packets_on chosen line (take (i + 1) packets) ≡ packets_on chosen line (take i packets) ++ get_or packets i d ∷ []
own_more chosen line i packets d low is =
    filter_more (λ (p : PacketRecord). line_number_of chosen p.tuple == line) packets i d low ∙ ap (λ b. packets_on chosen line (take i packets) ++ cond b (get_or packets i d ∷ []) []) (eq-eqb _ _ is)

pub own_same : (chosen : List ℕ) (line i : ℕ) (packets : List PacketRecord) (d : PacketRecord) → i < length packets → line_number_of chosen (get_or packets i d).tuple ≢ line → packets_on chosen line (take (i + 1) packets) ≡ packets_on chosen line (take i packets)
own_same chosen line i packets d low other =
    filter_more (λ (p : PacketRecord). line_number_of chosen p.tuple == line) packets i d low ∙ ap (λ b. packets_on chosen line (take i packets) ++ cond b (get_or packets i d ∷ []) []) (ne_eqb _ _ other) ∙ append-nil _

-- a line has no more packets than there are
pub few_on : (chosen : List ℕ) (line : ℕ) (packets : List PacketRecord) → length (packets_on chosen line packets) ≤ length packets
few_on chosen line packets =
    let test = λ (p : PacketRecord). line_number_of chosen p.tuple == line in
    omega (arith, length-filter test packets, count_by-le-length test packets)
