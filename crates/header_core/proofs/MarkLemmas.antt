-- What a mark does to the bytes of a packet and to the sum of its header.
use Rattle.std.proofs.Common.{◌≡◌, ◌≢◌, ◌∙◌, ℕ, suc, ◌+◌, ◌-◌, ◌*◌, ◌/◌, ◌%◌, ◌<◌, ◌≤◌, ◌&&◌, ◌⊎◌, List, ◌∷◌, ◌++◌, true, false, not, length, get_or, set, take, eqb, ltb, inl, inr, sym, ap, subst, arith}
use Rattle.std.proofs.lemmas.Bool.{and_parts, cond-false, cond-true, eq-eqb, eqb-true, ltb-false, ne_eqb, not-true}
use Rattle.std.proofs.lemmas.List.{get_or-set_other, get_or-set_same}
use Rattle.header_core.specs.Checksums.{checksum_of, complement, ones_sum, updated_checksum, words_of}
use Rattle.header_core.specs.Fields.{byte_at, version_at}
use Rattle.header_core.specs.Ipv4Headers.{ihl}
use Rattle.header_core.specs.Marks.{AreBytes, KeepsSum, KeepsSums, Marks, ce_checksum, ipv4_ce, ipv6_ce, is_markable, marked, marked_ipv4, marked_ipv6}
use Rattle.header_core.proofs.TestLemmas.{chosen}
use Rattle.header_core.proofs.SumLemmas.{AreSmall, Leaves, Updates, one_left, six, six_leave, small_append, small_from, small_take, sum_word, updates}

-- The first twelve bytes of a header of IPv4 before a mark, with the others behind them.
module _ (b0 b1 b2 b3 b4 b5 b6 b7 b8 b9 b10 b11 : ℕ) (tail : List ℕ)
    (h0 : b0 < 256) (h1 : b1 < 256) (h2 : b2 < 256) (h3 : b3 < 256) (h4 : b4 < 256) (h5 : b5 < 256)
    (h6 : b6 < 256) (h7 : b7 < 256) (h8 : b8 < 256) (h9 : b9 < 256) (h10 : b10 < 256) (h11 : b11 < 256)
    (small : AreSmall tail) (four : b0 / 16 ≡ 4) where
  abbrev old_word : ℕ
  old_word = b0 * 256 + b1

  abbrev new_word : ℕ
  new_word = b0 * 256 + ipv4_ce b1

  abbrev old_sum : ℕ
  old_sum = b10 * 256 + b11

  abbrev new_sum : ℕ
  new_sum = updated_checksum old_sum old_word new_word

  -- the sum of a header whose first and sixth word are these
  abbrev sum_with : ℕ → ℕ → ℕ
  sum_with first sixth =
      six first (b2 * 256 + b3) (b4 * 256 + b5) (b6 * 256 + b7) (b8 * 256 + b9) sixth (ones_sum (words_of tail))

  abbrev middle : ℕ
  middle = (b2 * 256 + b3) + (b4 * 256 + b5) + (b6 * 256 + b7) + (b8 * 256 + b9)

  leaves_with : (first sixth : ℕ) → 0 < first → first ≤ 65535 → sixth ≤ 65535 → Leaves (first + middle + sixth + ones_sum (words_of tail)) (sum_with first sixth)
  leaves_with first sixth some hf hs =
      six_leave first (b2 * 256 + b3) (b4 * 256 + b5) (b6 * 256 + b7) (b8 * 256 + b9) sixth (ones_sum (words_of tail)) some hf
      (omega arith) (omega arith) (omega arith) (omega arith) hs (sum_word tail small)

  follows : Updates (old_sum + old_word) new_word new_sum
  follows = updates old_sum old_word new_word (omega arith) (omega arith) (omega arith) (omega arith)

  -- the two bytes of the new checksum as a word
  rejoined : new_sum / 256 * 256 + new_sum % 256 ≡ new_sum
  rejoined = omega arith

  pub same_sum : sum_with new_word (new_sum / 256 * 256 + new_sum % 256) ≡ sum_with old_word old_sum
  same_sum =
      let before = leaves_with old_word old_sum (omega arith) (omega arith) (omega arith) in
      let after = leaves_with new_word new_sum (omega arith) (omega arith) (omega (arith, follows.below)) in
      rw rejoined
      (one_left (old_word + middle + old_sum + ones_sum (words_of tail)) (new_word + middle + new_sum + ones_sum (words_of tail))
      (sum_with old_word old_sum) (sum_with new_word new_sum) follows.more follows.less before after (omega (arith, follows.is)))

  pub computed_sum : sum_with old_word old_sum ≡ 65535 → new_sum ≡ complement (sum_with new_word 0)
  computed_sum right =
      let before = leaves_with old_word old_sum (omega arith) (omega arith) (omega arith) in
      let blank = leaves_with new_word 0 (omega arith) (omega arith) (omega arith) in
      omega (arith, right, before.is, blank.is, blank.some, blank.most, follows.is, follows.below)

-- A mark keeps the sum of a header, whatever bytes follow the captured ones.
front_sum : (rest : List ℕ) → AreBytes rest → (bytes : List ℕ) → AreBytes bytes → version_at bytes ≡ 4 → 5 ≤ ihl bytes → 12 ≤ length bytes → KeepsSum bytes (marked_ipv4 bytes) rest
unfolding marked_ipv4
front_sum rest rest_fits (b0 ∷ b1 ∷ b2 ∷ b3 ∷ b4 ∷ b5 ∷ b6 ∷ b7 ∷ b8 ∷ b9 ∷ b10 ∷ b11 ∷ t) fits four words long =
    let m : ℕ = 4 * (b0 % 16) - 12 in
    let count : 4 * (b0 % 16) ≡ suc (suc (suc (suc (suc (suc (suc (suc (suc (suc (suc (suc (m)))))))))))) = omega arith in
    let small = small_take m (t ++ rest) (small_append t rest (small_from t (λ i. fits (suc (suc (suc (suc (suc (suc (suc (suc (suc (suc (suc (suc (i))))))))))))))) (small_from rest rest_fits)) in
    let tail : List ℕ = take m (t ++ rest) in
    let kept = same_sum b0 b1 b2 b3 b4 b5 b6 b7 b8 b9 b10 b11 tail (fits 0) (fits 1) (fits 2) (fits 3) (fits 4) (fits 5) (fits 6) (fits 7) (fits 8) (fits 9) (fits 10) (fits 11) small four in
    let computed = computed_sum b0 b1 b2 b3 b4 b5 b6 b7 b8 b9 b10 b11 tail (fits 0) (fits 1) (fits 2) (fits 3) (fits 4) (fits 5) (fits 6) (fits 7) (fits 8) (fits 9) (fits 10) (fits 11) small four in
    let new : ℕ = new_sum b0 b1 b2 b3 b4 b5 b6 b7 b8 b9 b10 b11 tail (fits 0) (fits 1) (fits 2) (fits 3) (fits 4) (fits 5) (fits 6) (fits 7) (fits 8) (fits 9) (fits 10) (fits 11) small four in
    let before = ap (λ (n : ℕ). ones_sum (words_of (take n (b0 ∷ b1 ∷ b2 ∷ b3 ∷ b4 ∷ b5 ∷ b6 ∷ b7 ∷ b8 ∷ b9 ∷ b10 ∷ b11 ∷ (t ++ rest))))) count in
    let after = ap (λ (n : ℕ). ones_sum (words_of (take n (b0 ∷ ipv4_ce b1 ∷ b2 ∷ b3 ∷ b4 ∷ b5 ∷ b6 ∷ b7 ∷ b8 ∷ b9 ∷ new / 256 ∷ new % 256 ∷ (t ++ rest))))) count in
    let blank = ap (λ (n : ℕ). checksum_of (take n (b0 ∷ ipv4_ce b1 ∷ b2 ∷ b3 ∷ b4 ∷ b5 ∷ b6 ∷ b7 ∷ b8 ∷ b9 ∷ new / 256 ∷ new % 256 ∷ (t ++ rest)))) count in
    record {
      right = (λ h. after ∙ kept ∙ sym before ∙ h, λ h. before ∙ sym kept ∙ sym after ∙ h);
      computed = λ h.
          let joined : new / 256 * 256 + new % 256 ≡ new = omega arith in
          joined ∙ computed (sym before ∙ h) ∙ sym blank;
    }
front_sum rest rest_fits bytes fits four words long = absurd (omega arith)

pub sum_kept : (bytes : List ℕ) → AreBytes bytes → 20 ≤ length bytes → 5 ≤ ihl bytes → KeepsSums bytes (marked_ipv4 bytes)
sum_kept bytes fits long words four rest rest_fits = front_sum rest rest_fits bytes fits four words (omega arith)

-- what a mark leaves of the bytes of a header of IPv4
ipv4_marks : (bytes : List ℕ) → version_at bytes ≡ 4 → 20 ≤ length bytes → Marks bytes (marked_ipv4 bytes)
unfolding marked_ipv4
ipv4_marks bytes four long =
    let one = set bytes 1 (ipv4_ce (byte_at bytes 1)) in
    let two = set one 10 (ce_checksum bytes / 256) in
    let new = set two 11 (ce_checksum bytes % 256) in
    let kept : (i : ℕ) → i ≢ 1 → i ≢ 10 → i ≢ 11 → get_or new i 0 ≡ get_or bytes i 0 =
    λ i n1 n10 n11. get_or-set_other two 11 i (ce_checksum bytes % 256) 0 n11
    ∙ get_or-set_other one 10 i (ce_checksum bytes / 256) 0 n10
    ∙ get_or-set_other bytes 1 i (ipv4_ce (byte_at bytes 1)) 0 n1 in
    let first : get_or new 0 0 ≡ get_or bytes 0 0 = kept 0 (λ h. omega arith) (λ h. omega arith) (λ h. omega arith) in
    let second : get_or new 1 0 ≡ ipv4_ce (byte_at bytes 1) =
    get_or-set_other two 11 1 (ce_checksum bytes % 256) 0 (λ h. omega arith)
    ∙ get_or-set_other one 10 1 (ce_checksum bytes / 256) 0 (λ h. omega arith)
    ∙ get_or-set_same bytes 1 (ipv4_ce (byte_at bytes 1)) 0 (omega arith) in
    let version : get_or new 0 0 / 16 ≡ 4 = ap (λ (n : ℕ). n / 16) first ∙ four in
    let low : get_or new 1 0 % 4 ≡ 3 = omega (arith, second) in
    record {
      ce = cond-true (eqb (get_or new 0 0 / 16) 4) (get_or new 1 0 % 4) (get_or new 1 0 / 16 % 4) (eq-eqb (get_or new 0 0 / 16) 4 version) ∙ low;
      beside = (λ _. omega (arith, second), λ six. absurd (omega (arith, four, six)));
      others = λ i free. kept i free.0 (free.1 four).0 (free.1 four).1;
    }

-- what a mark leaves of the bytes of a header of IPv6
ipv6_marks : (bytes : List ℕ) → version_at bytes ≡ 6 → 20 ≤ length bytes → Marks bytes (marked_ipv6 bytes)
unfolding marked_ipv6
ipv6_marks bytes six long =
    let new = set bytes 1 (ipv6_ce (byte_at bytes 1)) in
    let first : get_or new 0 0 ≡ get_or bytes 0 0 = get_or-set_other bytes 1 0 (ipv6_ce (byte_at bytes 1)) 0 (λ h. omega arith) in
    let second : get_or new 1 0 ≡ ipv6_ce (byte_at bytes 1) = get_or-set_same bytes 1 (ipv6_ce (byte_at bytes 1)) 0 (omega arith) in
    let version : get_or new 0 0 / 16 ≡ 6 = ap (λ (n : ℕ). n / 16) first ∙ six in
    let high : get_or new 1 0 / 16 % 4 ≡ 3 = omega (arith, second) in
    record {
      ce = cond-false (eqb (get_or new 0 0 / 16) 4) (get_or new 1 0 % 4) (get_or new 1 0 / 16 % 4) (ne_eqb (get_or new 0 0 / 16) 4 (λ h. omega (arith, h, version))) ∙ high;
      beside = (λ four. absurd (omega (arith, four, six)), λ _. (omega (arith, second), omega (arith, second)));
      others = λ i free. get_or-set_other bytes 1 i (ipv6_ce (byte_at bytes 1)) 0 free.0;
    }

-- What can be marked is of one of the two versions, and the header of IPv4 has five words.
pub marked_kinds : (bytes : List ℕ) → is_markable bytes ≡ true → ((version_at bytes ≡ 4) × (5 ≤ ihl bytes)) ⊎ (version_at bytes ≡ 6)
marked_kinds bytes markable =
    elim (chosen (eqb (version_at bytes) 4) _ _ true markable) [
      | inl four ↦ (
          let parts = and_parts (not (ltb (length bytes) 20) && not (ltb (ihl bytes) 5)) _ four.1 in
          let words = (and_parts (not (ltb (length bytes) 20)) (not (ltb (ihl bytes) 5)) parts.0).1 in
          inl (eqb-true (version_at bytes) 4 four.0, ltb-false (ihl bytes) 5 (not-true (ltb (ihl bytes) 5) words)))
      | inr other ↦ elim (chosen (eqb (version_at bytes) 6) _ _ true other.1) [
        | inl six ↦ inr (eqb-true (version_at bytes) 6 six.0)
        | inr none ↦ (let never : false ≡ true = none.1 in cc)
      ]
    ]

pub marks_packet : (bytes : List ℕ) → is_markable bytes ≡ true → 20 ≤ length bytes → Marks bytes (marked bytes)
marks_packet bytes markable long =
    elim (marked_kinds bytes markable) [
      | inl four ↦ subst (λ (l : List ℕ). Marks bytes l) (sym (cond-true (eqb (version_at bytes) 4) (marked_ipv4 bytes) (marked_ipv6 bytes) (eq-eqb (version_at bytes) 4 four.0))) (ipv4_marks bytes four.0 long)
      | inr six ↦ subst (λ (l : List ℕ). Marks bytes l) (sym (cond-false (eqb (version_at bytes) 4) (marked_ipv4 bytes) (marked_ipv6 bytes) (ne_eqb (version_at bytes) 4 (λ h. omega (arith, h, six))))) (ipv6_marks bytes six long)
    ]

pub sums_packet : (bytes : List ℕ) → is_markable bytes ≡ true → AreBytes bytes → 20 ≤ length bytes → KeepsSums bytes (marked bytes)
sums_packet bytes markable fits long four =
    elim (marked_kinds bytes markable) [
      | inl kind ↦ subst (λ (l : List ℕ). (rest : List ℕ) → AreBytes rest → KeepsSum bytes l rest) (sym (cond-true (eqb (version_at bytes) 4) (marked_ipv4 bytes) (marked_ipv6 bytes) (eq-eqb (version_at bytes) 4 four))) (sum_kept bytes fits long kind.1 four)
      | inr six ↦ absurd (omega (arith, four, six))
    ]
