-- The room of the lanes of a run, one list later.
use Rattle.std.proofs.Common.{◌≡◌, ◌∙◌, ◌+◌, ◌<◌, ℕ, List, [], ◌∷◌, ◌++◌, Vec, Global, ap, arith, get_or, length, max, sym, take}
use Rattle.std.specs.Ordering.{nat_cmp, ord_max}
use Rattle.std.proofs.lemmas.Bool.Decides.{nat_tests}
use Rattle.std.proofs.lemmas.List.{take_more}
use Rattle.packet_core.specs.Packets.{PacketParts}
use Rattle.run_core.specs.LaneRooms.{capacity_for}

capacity_append : (lists : List (Vec PacketParts Global)) (list : Vec PacketParts Global) → capacity_for (lists ++ list ∷ []) ≡ max (capacity_for lists) (length list.items)
capacity_append [] list = omega arith
capacity_append (first ∷ lists) list = omega (arith, capacity_append lists list)

pub capacity_more : (lists : List (Vec PacketParts Global)) (k : ℕ) (list : Vec PacketParts Global) → k < length lists → list ≡ get_or lists k list
    → capacity_for (take (k + 1) lists) ≡ max (capacity_for (take k lists)) (length list.items)
capacity_more lists k list within stands =
    ap capacity_for (take_more lists k list within ∙ ap (λ l. take k lists ++ l ∷ []) (sym stands)) ∙ capacity_append (take k lists) list

-- the larger of two numbers, as `max` picks it
pub larger : (a b : ℕ) → ord_max nat_cmp a b ≡ max a b
larger a b = grind (arith, nat_tests)
