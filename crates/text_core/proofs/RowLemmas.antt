-- A row as `csv` writes it.
use Rattle.std.proofs.Common.{◌≡◌, ℕ, ◌+◌, ◌<◌, List, [], ◌∷◌, ◌++◌, take, get_or, length, refl, ap, arith, append_assoc, append-nil}
use Rattle.std.specs.List.{flat_map, join_with_byte}
use Rattle.std.proofs.lemmas.Bool.{ne_eqb}
use Rattle.std.proofs.lemmas.List.{flat_map_more, take_more}
use Rattle.csv.specs.Writing.{fields_text, is_blank, row_text}
use Rattle.text_core.specs.Texts.{IsFilled, line_of, row_writer}

joined : (field : List ℕ) (rest : List (List ℕ)) → field ++ fields_text row_writer rest ≡ join_with_byte 44 (field ∷ rest)
unfolding fields_text
joined field [] = append-nil field
joined field (next ∷ rest) = ap (λ l. field ++ 44 ∷ l) (joined next rest)

-- the text of a row
pub row_is : (fields : List (List ℕ)) → IsFilled fields → row_text row_writer fields ≡ line_of fields
unfolding is_blank line_of
row_is [] h = absurd h
row_is (field ∷ []) h = rw (joined field [], ne_eqb (length field) 0 (λ e. omega arith)) refl
row_is (field ∷ next ∷ rest) h = rw (joined field (next ∷ rest)) refl
