-- The bytes of a wrong word, as C reads them, stand in the text.
use Rattle.std.proofs.Common.{◌≡◌, ℕ, ℤ, ◌+◌, ◌-◌, ◌≤◌, List, drop, inl, inr, length, suc, zero, subst, sym, arith}
use Rattle.std.proofs.lemmas.List.{length-drop}
use Rattle.std.proofs.lemmas.List.Sums.{prefix_len-le-length}
use Rattle.std.proofs.Math.Bool.{not}
use Rattle.std.specs.Char.{is_ascii_whitespace}
use Rattle.packet_core.specs.declared.words.ParamFault.{ParamFault}
use Rattle.packet_core.specs.declared.words.ParamFault.TheVariants.{UnknownWord, MissingValue, NotANumber, OutOfRange}
use Rattle.maltcove_c.specs.Calls.{RefusesOpen}
use Rattle.maltcove_c.specs.Places.{blanks_in_front, bytes_in_front, first_word_end, word_bytes, word_start}
use Rattle.maltcove_c.specs.Records.{fault_told, nothing_told}
use Rattle.maltcove_c.specs.Texts.{IsWrong}
use Rattle.maltcove_c.specs.declared.records.MaltcoveFault.{MaltcoveFault}

-- C reads of a text's word bytes that the text has.
abbrev pub Within : MaltcoveFault → List ℕ → Type 0
Within told text = told.offset + told.len ≤ length text

front_within : (text : List ℕ) (from : ℕ) → from ≤ length text → from + bytes_in_front (drop from text) ≤ length text
front_within text from inside =
    let few = prefix_len-le-length (λ b. not (is_ascii_whitespace b)) (drop from text) in
    let rest = length-drop from text in
    omega arith

word_end_within : (text : List ℕ) → first_word_end text ≤ length text
word_end_within text = front_within text (blanks_in_front text) (prefix_len-le-length is_ascii_whitespace text)

start_within : (n : ℕ) (text : List ℕ) → word_start n text ≤ length text
unfolding word_start
start_within zero text = prefix_len-le-length is_ascii_whitespace text
start_within (suc n) text =
    let end = first_word_end text in
    let later = start_within n (drop end text) in
    let rest = length-drop end text in
    let inside = word_end_within text in
    omega arith

word_within : (n : ℕ) (text : List ℕ) → word_start n text + word_bytes n text ≤ length text
word_within n text = front_within text (word_start n text) (start_within n text)

fault_within : (text : List ℕ) (fault : ParamFault) → Within (fault_told text fault) text
fault_within text (UnknownWord place) = word_within (place - 1) text
fault_within text (MissingValue place) = word_within (place - 1) text
fault_within text (NotANumber place) = word_within (place - 1) text
fault_within text (OutOfRange place) = word_within (place - 1) text

none_within : (text : List ℕ) → 0 + 0 ≤ length text
none_within text = omega arith

pub nothing_within : (text : List ℕ) (told : MaltcoveFault) → told ≡ nothing_told → Within told text
nothing_within text told is = subst (λ (f : MaltcoveFault). Within f text) (sym is) (none_within text)

wrong_within : (text : List ℕ) (told : MaltcoveFault) → IsWrong text told → Within told text
wrong_within text told wrong =
    elim wrong [
      | inl other ↦ subst (λ (f : MaltcoveFault). Within f text) (sym other.1) (none_within text)
      | inr word ↦ subst (λ (f : MaltcoveFault). Within f text) (sym word.2) (fault_within text word.0)
    ]

pub refusal_within : (words seed : List ℕ) (told : MaltcoveFault) (answer : ℤ) → RefusesOpen words seed told answer → Within told words
refusal_within words seed told answer refused =
    elim refused [
      | inl wrong ↦ wrong_within words told wrong.1
      | inr other ↦ elim other [ inl bad ↦ nothing_within words told bad.1 | inr memory ↦ nothing_within words told memory.1 ]
    ]
