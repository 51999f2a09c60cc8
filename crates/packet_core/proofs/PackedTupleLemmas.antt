-- What is left of a packet's words for its five-tuple says the five-tuple and nothing else.
use Rattle.std.proofs.Common.{◌≡◌, ℕ, ◌+◌, ◌*◌, ◌/◌, ◌%◌, ◌^◌, ◌<◌, ap, ◌∙◌, sym, arith}
use Rattle.std.proofs.lemmas.Nat.{and_block, and_mask}
use Rattle.std.proofs.lemmas.Nat.Bits.{and_high}
use lib.Bits.{and_zero_r}
use Rattle.std.specs.Prelude.{bit_and, ◌==◌}
use Rattle.packet_core.specs.Packets.{PacketParts, is_ipv6}
use Rattle.packet_core.specs.PackedPackets.{IsPacked, SaysFields, address_in, address_words, fields_word, packed, parts_of}
use Rattle.packet_core.specs.PackedTuples.{IsTuplePacked, bare, tuple_in, tuple_packed}
use Rattle.packet_core.specs.declared.packet.FiveTuple.{FiveTuple}
use Rattle.packet_core.specs.declared.packet.Packet.TheInside as packet
use Rattle.packet_core.proofs.PackedLemmas.{code_back, words_back}

-- words that were made from a five-tuple say it
pub tuple_back : (tuple : FiveTuple) (src dst : ℕ × ℕ) (fields : ℕ)
    → src ≡ address_words tuple.src → address_in (is_ipv6 tuple.src) src ≡ tuple.src
    → dst ≡ address_words tuple.dst → address_in (is_ipv6 tuple.dst) dst ≡ tuple.dst
    → fields ≡ fields_word (bare tuple) → SaysFields fields (bare tuple)
    → tuple_in (record { src = src; dst = dst; fields = fields }) ≡ tuple
tuple_back tuple src dst fields src_is src_back dst_is dst_back fields_is says =
    ap (λ (p : PacketParts). p.tuple) (words_back (bare tuple) src dst fields src_is src_back dst_is dst_back fields_is says)

-- and say nothing else
pub tuple_words_packed : (tuple : FiveTuple) (src dst : ℕ × ℕ) (fields : ℕ)
    → src ≡ address_words tuple.src → address_in (is_ipv6 tuple.src) src ≡ tuple.src
    → dst ≡ address_words tuple.dst → address_in (is_ipv6 tuple.dst) dst ≡ tuple.dst
    → fields ≡ fields_word (bare tuple) → SaysFields fields (bare tuple)
    → IsTuplePacked (record { src = src; dst = dst; fields = fields })
unfolding tuple_packed
tuple_words_packed tuple src dst fields src_is src_back dst_is dst_back fields_is says =
    ap tuple_packed (tuple_back tuple src dst fields src_is src_back dst_is dst_back fields_is says)
    ∙ (λ i. record { src = sym src_is i; dst = sym dst_is i; fields = sym fields_is i })

-- the bits of the length and of the ECN field are cleared, and no other bit
pub masked_word : (word : ℕ) → word < 2 ^ 64
    → bit_and word 18230571287300866047 ≡ word / 2 ^ 58 * 2 ^ 58 + word / 2 ^ 32 % 2 ^ 24 * 2 ^ 32 + word % 2 ^ 16
masked_word word few =
    let high : ℕ = word / 2 ^ 32 in
    let len : ℕ = word / 2 ^ 16 % 2 ^ 16 in
    let top : ℕ = word / 2 ^ 56 in
    let middle : ℕ = word / 2 ^ 32 % 2 ^ 24 in
    let word_is : word ≡ (high * 2 ^ 16 + len) * 2 ^ 16 + word % 2 ^ 16 = omega arith in
    let high_is : high ≡ top * 2 ^ 24 + middle = omega arith in
    let tops : bit_and top 252 ≡ word / 2 ^ 58 * 2 ^ 2 = and_high top 6 2 ∙ omega (arith, few) in
    let highs : bit_and high 4244635647 ≡ bit_and top 252 * 2 ^ 24 + bit_and middle 16777215 =
    ap (λ (n : ℕ). bit_and n 4244635647) high_is ∙ and_block 24 top 252 middle 16777215 (omega arith) (omega arith) in
    let middles : bit_and middle 16777215 ≡ middle = and_mask middle 24 ∙ omega arith in
    let upper : bit_and (high * 2 ^ 16 + len) 278176441761792 ≡ bit_and high 4244635647 * 2 ^ 16 + bit_and len 0 =
    and_block 16 high 4244635647 len 0 (omega arith) (omega arith) in
    let lower : bit_and (word % 2 ^ 16) 65535 ≡ word % 2 ^ 16 = and_mask (word % 2 ^ 16) 16 ∙ omega arith in
    let all : bit_and word 18230571287300866047 ≡ bit_and (high * 2 ^ 16 + len) 278176441761792 * 2 ^ 16 + bit_and (word % 2 ^ 16) 65535 =
    ap (λ (n : ℕ). bit_and n 18230571287300866047) word_is ∙ and_block 16 (high * 2 ^ 16 + len) 278176441761792 (word % 2 ^ 16) 65535 (omega arith) (omega arith) in
    let none = and_zero_r len in
    omega (arith, tops, highs, middles, upper, lower, all, none)

-- so the five-tuple is still the one of all words
pub masked_tuple : (src dst : ℕ × ℕ) (word : ℕ) → word < 2 ^ 64
    → tuple_in (record { src = src; dst = dst; fields = bit_and word 18230571287300866047 }) ≡ tuple_in (record { src = src; dst = dst; fields = word })
unfolding parts_of
masked_tuple src dst word few =
    let is = masked_word word few in
    let masked : ℕ = bit_and word 18230571287300866047 in
    let proto : masked / 2 ^ 48 % 2 ^ 8 ≡ word / 2 ^ 48 % 2 ^ 8 = omega (arith, is) in
    let src_is : masked / 2 ^ 58 % 2 ≡ word / 2 ^ 58 % 2 = omega (arith, is) in
    let dst_is : masked / 2 ^ 59 % 2 ≡ word / 2 ^ 59 % 2 = omega (arith, is) in
    let dport : masked % 2 ^ 16 ≡ word % 2 ^ 16 = omega (arith, is) in
    let sport : masked / 2 ^ 32 % 2 ^ 16 ≡ word / 2 ^ 32 % 2 ^ 16 = omega (arith, is) in
    λ i. record { proto = proto i; src = address_in (src_is i == 1) src; dst = address_in (dst_is i == 1) dst; dport = dport i; sport = sport i }

masked_fields : (src dst : ℕ × ℕ) (word : ℕ) → word < 2 ^ 64 → IsPacked (record { src = src; dst = dst; fields = word; tag = 0 })
    → fields_word (bare (tuple_in (record { src = src; dst = dst; fields = word }))) ≡ bit_and word 18230571287300866047
unfolding packed parts_of fields_word
masked_fields src dst word few is_packed =
    let is = masked_word word few in
    let fields = ap (λ (w : packet.Inside). w.fields) is_packed.whole in
    let code = code_back (word / 2 ^ 56 % 4) (omega arith) in
    omega (arith, is, fields, code)

-- and the words that are left say nothing else
pub masked_packed : (src dst : ℕ × ℕ) (word : ℕ) → word < 2 ^ 64 → IsPacked (record { src = src; dst = dst; fields = word; tag = 0 })
    → IsTuplePacked (record { src = src; dst = dst; fields = bit_and word 18230571287300866047 })
unfolding packed tuple_packed parts_of
masked_packed src dst word few is_packed =
    let whole = is_packed.whole in
    ap tuple_packed (masked_tuple src dst word few)
    ∙ (λ i. record { src = (whole i).src; dst = (whole i).dst; fields = masked_fields src dst word few is_packed i })
