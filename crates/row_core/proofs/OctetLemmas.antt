-- The numbers of an address, by their digits, and the cut at a dot behind them.
use Rattle.std.proofs.Common.{◌≡◌, ◌≢◌, ℕ, ◌+◌, ◌*◌, ◌<◌, ◌≤◌, List, [], ◌∷◌, length, get_or, drop, Some, refl, arith}
use Rattle.std.specs.Char.{digit_value}
use Rattle.std.proofs.lemmas.Bool.Decides.{nat_tests}
use Rattle.std.proofs.lemmas.Grind.{common_steps}
use Rattle.packet_core.proofs.NumeralLemmas.{a_numeral}
use Rattle.row_core.specs.Rows.{◌>>?◌, cut_of, octet_and_rest_of, octet_of}

-- one digit
pub octet_one : (a : ℕ) → digit_value a < 10 → octet_of (a ∷ []) ≡ Some (digit_value a)
unfolding octet_of
octet_one a d =
    rw (a_numeral (a ∷ []) (omega arith, (d, tt))) (grind (arith, common_steps, nat_tests))

-- two, the first of which is no zero
pub octet_two : (a b : ℕ) → a ≢ 48 → digit_value a < 10 → digit_value b < 10 → octet_of (a ∷ b ∷ []) ≡ Some (digit_value a * 10 + digit_value b)
unfolding octet_of
octet_two a b first d e =
    rw (a_numeral (a ∷ b ∷ []) (omega arith, (d, (e, tt)))) (grind (arith, common_steps, nat_tests))

-- three, of a value up to 255
pub octet_three : (a b c : ℕ) → a ≢ 48 → digit_value a < 10 → digit_value b < 10 → digit_value c < 10 → (digit_value a * 10 + digit_value b) * 10 + digit_value c < 256
    → octet_of (a ∷ b ∷ c ∷ []) ≡ Some ((digit_value a * 10 + digit_value b) * 10 + digit_value c)
unfolding octet_of
octet_three a b c first d e f few =
    rw (a_numeral (a ∷ b ∷ c ∷ []) (omega arith, (d, (e, (f, tt))))) (grind (arith, common_steps, nat_tests))

-- a dot behind one, two and three bytes that are none
pub cut_one : (a : ℕ) (rest : List ℕ) → a ≢ 46 → cut_of (a ∷ 46 ∷ rest) ≡ Some (a ∷ [], rest)
unfolding cut_of
cut_one a rest none = grind (arith, common_steps, nat_tests)

pub cut_two : (a b : ℕ) (rest : List ℕ) → a ≢ 46 → b ≢ 46 → cut_of (a ∷ b ∷ 46 ∷ rest) ≡ Some (a ∷ b ∷ [], rest)
unfolding cut_of
cut_two a b rest none none' = grind (arith, common_steps, nat_tests)

pub cut_three : (a b c : ℕ) (rest : List ℕ) → a ≢ 46 → b ≢ 46 → c ≢ 46 → cut_of (a ∷ b ∷ c ∷ 46 ∷ rest) ≡ Some (a ∷ b ∷ c ∷ [], rest)
unfolding cut_of
cut_three a b c rest none none' none'' = grind (arith, common_steps, nat_tests)

-- the same of a text, by what stands at its first places
pub dot_second : (text : List ℕ) → 2 ≤ length text → get_or text 0 0 ≢ 46 → get_or text 1 0 ≡ 46 → octet_and_rest_of text ≡ (octet_of (get_or text 0 0 ∷ []) >>? λ o. Some (o, drop 2 text))
unfolding octet_and_rest_of
dot_second [] long first dot = absurd (omega arith)
dot_second (a ∷ []) long first dot = absurd (omega arith)
dot_second (a ∷ b ∷ rest) long first dot = rw (dot, cut_one a rest first) refl

pub dot_third : (text : List ℕ) → 3 ≤ length text → get_or text 0 0 ≢ 46 → get_or text 1 0 ≢ 46 → get_or text 2 0 ≡ 46
    → octet_and_rest_of text ≡ (octet_of (get_or text 0 0 ∷ get_or text 1 0 ∷ []) >>? λ o. Some (o, drop 3 text))
unfolding octet_and_rest_of
dot_third [] long first second dot = absurd (omega arith)
dot_third (a ∷ []) long first second dot = absurd (omega arith)
dot_third (a ∷ b ∷ []) long first second dot = absurd (omega arith)
dot_third (a ∷ b ∷ c ∷ rest) long first second dot = rw (dot, cut_two a b rest first second) refl

pub dot_fourth : (text : List ℕ) → 4 ≤ length text → get_or text 0 0 ≢ 46 → get_or text 1 0 ≢ 46 → get_or text 2 0 ≢ 46 → get_or text 3 0 ≡ 46
    → octet_and_rest_of text ≡ (octet_of (get_or text 0 0 ∷ get_or text 1 0 ∷ get_or text 2 0 ∷ []) >>? λ o. Some (o, drop 4 text))
unfolding octet_and_rest_of
dot_fourth [] long first second third dot = absurd (omega arith)
dot_fourth (a ∷ []) long first second third dot = absurd (omega arith)
dot_fourth (a ∷ b ∷ []) long first second third dot = absurd (omega arith)
dot_fourth (a ∷ b ∷ c ∷ []) long first second third dot = absurd (omega arith)
dot_fourth (a ∷ b ∷ c ∷ d ∷ rest) long first second third dot = rw (dot, cut_three a b c rest first second third) refl
