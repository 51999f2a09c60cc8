-- The names of five-tuples, one more.
use Rattle.std.proofs.Common.{◌≡◌, ◌∙◌, ℕ, ◌+◌, ◌<◌, List, [], ◌∷◌, ◌++◌, Some, None, append-nil, get_or, take, length, ap}
use Rattle.std.specs.Prelude.{slice_get}
use Rattle.std.specs.List.{cons_option}
use Rattle.std.proofs.lemmas.List.{take_more}
use Rattle.std.proofs.lemmas.List.Elements.{filter_map-append}
use Rattle.packet_core.specs.declared.packet.FiveTuple.{FiveTuple}
use Rattle.link_picture.specs.Contents.{names_of}

pub names_more : (chosen : List ℕ) (tuples : List FiveTuple) (i d : ℕ) → i < length chosen → names_of (take (i + 1) chosen) tuples ≡ names_of (take i chosen) tuples ++ cons_option (slice_get tuples (get_or chosen i d)) []
names_more chosen tuples i d low =
    ap (λ l. names_of l tuples) (take_more chosen i d low) ∙ filter_map-append (λ number. slice_get tuples number) (take i chosen) (get_or chosen i d ∷ [])

pub name_more : (chosen : List ℕ) (tuples : List FiveTuple) (i d : ℕ) (t : FiveTuple) → i < length chosen → slice_get tuples (get_or chosen i d) ≡ Some t → names_of (take (i + 1) chosen) tuples ≡ names_of (take i chosen) tuples ++ t ∷ []
name_more chosen tuples i d t low is =
    names_more chosen tuples i d low ∙ ap (λ o. names_of (take i chosen) tuples ++ cons_option o []) is

pub name_same : (chosen : List ℕ) (tuples : List FiveTuple) (i d : ℕ) → i < length chosen → slice_get tuples (get_or chosen i d) ≡ None → names_of (take (i + 1) chosen) tuples ≡ names_of (take i chosen) tuples
name_same chosen tuples i d low is =
    names_more chosen tuples i d low ∙ ap (λ o. names_of (take i chosen) tuples ++ cons_option o []) is ∙ append-nil _
