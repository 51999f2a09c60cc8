-- Packing loses nothing: what is read out of a packet's words is what went in.
use Rattle.std.proofs.Common.{◌≡◌, ℕ, ◌+◌, ◌*◌, ◌/◌, ◌%◌, ◌^◌, ◌<◌, ◌≤◌, List, [], ◌∷◌, length, refl, ap, ◌∙◌, arith, ◌-◌, zero, suc, sym, subst, Bool}
use Rattle.std.proofs.lemmas.Nat.{or_block}
use lib.Bits.{or_zero_r}
use Rattle.std.specs.Prelude.{slice_index, ◌==◌, bit_or}
use Rattle.packet_core.specs.Packets.{IsLengthInRange, PacketParts, is_ipv6}
use Rattle.packet_core.specs.PackedPackets.{IsPacked, SaysFields, address_in, address_words, ecn_code, ecn_in, fields_word, kind_bit, packed, parts_of}
use Rattle.packet_core.specs.declared.packet.Packet.TheInside.{Inside}
use Rattle.packet_core.specs.declared.packet.Ip.{Ip}
use Rattle.packet_core.specs.declared.packet.Ip.TheVariants.{V4, V6}
use Rattle.packet_core.specs.declared.packet.Ecn.{Ecn}
use Rattle.packet_core.specs.declared.packet.Ecn.TheVariants.{Ce, Ect0, Ect1, NotEct}

-- sixteen bytes, one by one
pub sixteen : (bytes : List ℕ) → length bytes ≡ 16 → slice_index bytes 0 ∷ slice_index bytes 1 ∷ slice_index bytes 2 ∷ slice_index bytes 3
    ∷ slice_index bytes 4 ∷ slice_index bytes 5 ∷ slice_index bytes 6 ∷ slice_index bytes 7 ∷ slice_index bytes 8 ∷ slice_index bytes 9 ∷ slice_index bytes 10
    ∷ slice_index bytes 11 ∷ slice_index bytes 12 ∷ slice_index bytes 13 ∷ slice_index bytes 14 ∷ slice_index bytes 15 ∷ [] ≡ bytes
sixteen (a ∷ b ∷ c ∷ d ∷ e ∷ f ∷ g ∷ h ∷ i ∷ j ∷ k ∷ l ∷ m ∷ n ∷ o ∷ p ∷ []) long = refl
sixteen _ long = cc long

-- the bit for an address's kind says its kind
kind_back : (address : Ip) → (kind_bit address == 1) ≡ is_ipv6 address
kind_back (V4 bytes) = refl
kind_back (V6 bytes) = refl

kind_bit_few : (address : Ip) → kind_bit address ≤ 1
kind_bit_few (V4 bytes) = omega arith
kind_bit_few (V6 bytes) = omega arith

-- the two bits of an ECN field say the field
ecn_back : (field : Ecn) → ecn_in (ecn_code field) ≡ field
ecn_back NotEct = refl
ecn_back Ect1 = refl
ecn_back Ect0 = refl
ecn_back Ce = refl

ecn_code_few : (field : Ecn) → ecn_code field < 4
ecn_code_few NotEct = omega arith
ecn_code_few Ect1 = omega arith
ecn_code_few Ect0 = omega arith
ecn_code_few Ce = omega arith

-- each field in its range stands in the word of all fields
pub fields_back : (p : PacketParts) → p.tuple.proto < 2 ^ 8 → p.tuple.sport < 2 ^ 16 → p.len < 2 ^ 16 → p.tuple.dport < 2 ^ 16
    → SaysFields (fields_word p) p
unfolding fields_word
fields_back p proto sport len dport =
    let src = kind_bit_few p.tuple.src in
    let dst = kind_bit_few p.tuple.dst in
    let few = ecn_code_few p.ecn in
    let kinds : ℕ = kind_bit p.tuple.dst * 2 + kind_bit p.tuple.src in
    let word : ℕ = ((((kinds * 4 + ecn_code p.ecn) * 2 ^ 8 + p.tuple.proto) * 2 ^ 16 + p.tuple.sport) * 2 ^ 16 + p.len) * 2 ^ 16 + p.tuple.dport in
    let ecn_is : word / 2 ^ 56 % 4 ≡ ecn_code p.ecn = omega arith in
    let src_is : word / 2 ^ 58 % 2 ≡ kind_bit p.tuple.src = omega arith in
    let dst_is : word / 2 ^ 59 % 2 ≡ kind_bit p.tuple.dst = omega arith in
    record {
      dport = omega arith;
      len = omega arith;
      sport = omega arith;
      proto = omega arith;
      ecn = ap ecn_in ecn_is ∙ ecn_back p.ecn;
      src = ap (λ (n : ℕ). n == 1) src_is ∙ kind_back p.tuple.src;
      dst = ap (λ (n : ℕ). n == 1) dst_is ∙ kind_back p.tuple.dst;
    }

-- a bit field that is all ones after an `or` with ones
or_three : (code : ℕ) → code < 4 → bit_or code 3 ≡ 3
or_three zero _ = refl
or_three (suc zero) _ = refl
or_three (suc (suc zero)) _ = refl
or_three (suc (suc (suc zero))) _ = refl
or_three (suc (suc (suc (suc n)))) few = absurd (omega (arith, few))

-- the word of a marked packet has both bits of the ECN field set, and no other bit changed
pub marked_word : (word : ℕ) → bit_or word (3 * 2 ^ 56) ≡ word + (3 - word / 2 ^ 56 % 4) * 2 ^ 56
marked_word word =
    let high : ℕ = word / 2 ^ 56 in
    let low : ℕ = word % 2 ^ 56 in
    let code : ℕ = high % 4 in
    let kinds : ℕ = high / 4 in
    let word_is : word ≡ high * 2 ^ 56 + low = omega arith in
    let high_is : high ≡ kinds * 2 ^ 2 + code = omega arith in
    let marks : bit_or high 3 ≡ kinds * 2 ^ 2 + 3 =
    ap (λ (n : ℕ). bit_or n 3) high_is ∙ or_block 2 kinds 0 code 3 (omega arith) (omega arith)
    ∙ ap (λ (n : ℕ). n * 2 ^ 2 + bit_or code 3) (or_zero_r kinds) ∙ ap (λ (n : ℕ). kinds * 2 ^ 2 + n) (or_three code (omega arith)) in
    let both : bit_or word (3 * 2 ^ 56) ≡ (kinds * 2 ^ 2 + 3) * 2 ^ 56 + low =
    ap (λ (n : ℕ). bit_or n (3 * 2 ^ 56)) word_is ∙ or_block 56 high 3 low 0 (omega arith) (omega arith)
    ∙ ap (λ (n : ℕ). bit_or high 3 * 2 ^ 56 + n) (or_zero_r low) ∙ ap (λ (n : ℕ). n * 2 ^ 56 + low) marks in
    both ∙ omega arith

pub code_back : (code : ℕ) → code < 4 → ecn_code (ecn_in code) ≡ code
code_back zero _ = refl
code_back (suc zero) _ = refl
code_back (suc (suc zero)) _ = refl
code_back (suc (suc (suc zero))) _ = refl
code_back (suc (suc (suc (suc n)))) few = absurd (omega (arith, few))

-- words that were made from a packet's parts say these parts
pub words_back : (p : PacketParts) (src dst : ℕ × ℕ) (fields : ℕ)
    → src ≡ address_words p.tuple.src → address_in (is_ipv6 p.tuple.src) src ≡ p.tuple.src
    → dst ≡ address_words p.tuple.dst → address_in (is_ipv6 p.tuple.dst) dst ≡ p.tuple.dst
    → fields ≡ fields_word p → SaysFields fields p
    → parts_of (record { src = src; dst = dst; fields = fields; tag = p.tag }) ≡ p
unfolding parts_of
words_back p src dst fields _ src_back _ dst_back _ says =
    let src_is : address_in (fields / 2 ^ 58 % 2 == 1) src ≡ p.tuple.src = ap (λ (kind : Bool). address_in kind src) says.src ∙ src_back in
    let dst_is : address_in (fields / 2 ^ 59 % 2 == 1) dst ≡ p.tuple.dst = ap (λ (kind : Bool). address_in kind dst) says.dst ∙ dst_back in
    λ i. record {
      tuple = record { proto = says.proto i; src = src_is i; dst = dst_is i; dport = says.dport i; sport = says.sport i };
      len = says.len i;
      ecn = says.ecn i;
      tag = p.tag;
    }

-- and say nothing else
pub words_packed : (p : PacketParts) (src dst : ℕ × ℕ) (fields : ℕ)
    → src ≡ address_words p.tuple.src → address_in (is_ipv6 p.tuple.src) src ≡ p.tuple.src
    → dst ≡ address_words p.tuple.dst → address_in (is_ipv6 p.tuple.dst) dst ≡ p.tuple.dst
    → fields ≡ fields_word p → SaysFields fields p → IsLengthInRange p.len
    → IsPacked (record { src = src; dst = dst; fields = fields; tag = p.tag })
unfolding packed
words_packed p src dst fields src_is src_back dst_is dst_back fields_is says in_range =
    let back = words_back p src dst fields src_is src_back dst_is dst_back fields_is says in
    record {
      len = subst (λ (q : PacketParts). IsLengthInRange q.len) (sym back) in_range;
      whole = ap packed back ∙ (λ i. record { src = sym src_is i; dst = sym dst_is i; fields = sym fields_is i; tag = p.tag });
    }

-- another tag changes nothing else
pub tagged_packed : (words : Inside) (tag : ℕ) → IsPacked words → IsPacked (record words { tag = tag })
unfolding packed parts_of fields_word
tagged_packed words tag is_packed = record {
  len = is_packed.len;
  whole = ap (λ (w : Inside). record w { tag = tag }) is_packed.whole;
}

-- the words of a marked packet say the packet with CE
pub marked_parts : (words : Inside) → parts_of (record words { fields = bit_or words.fields (3 * 2 ^ 56) }) ≡ record (parts_of words) { ecn = Ce }
unfolding parts_of
marked_parts words =
    let is = marked_word words.fields in
    let word : ℕ = words.fields in
    let marked : ℕ = bit_or word (3 * 2 ^ 56) in
    let proto : marked / 2 ^ 48 % 2 ^ 8 ≡ word / 2 ^ 48 % 2 ^ 8 = omega (arith, is) in
    let src : marked / 2 ^ 58 % 2 ≡ word / 2 ^ 58 % 2 = omega (arith, is) in
    let dst : marked / 2 ^ 59 % 2 ≡ word / 2 ^ 59 % 2 = omega (arith, is) in
    let dport : marked % 2 ^ 16 ≡ word % 2 ^ 16 = omega (arith, is) in
    let sport : marked / 2 ^ 32 % 2 ^ 16 ≡ word / 2 ^ 32 % 2 ^ 16 = omega (arith, is) in
    let len : marked / 2 ^ 16 % 2 ^ 16 ≡ word / 2 ^ 16 % 2 ^ 16 = omega (arith, is) in
    let ecn : marked / 2 ^ 56 % 4 ≡ 3 = omega (arith, is) in
    λ i. record {
      tuple = record { proto = proto i; src = address_in (src i == 1) words.src; dst = address_in (dst i == 1) words.dst; dport = dport i; sport = sport i };
      len = len i;
      ecn = ecn_in (ecn i);
      tag = words.tag;
    }

marked_fields : (words : Inside) → IsPacked words → fields_word (record (parts_of words) { ecn = Ce }) ≡ bit_or words.fields (3 * 2 ^ 56)
unfolding packed parts_of fields_word
marked_fields words is_packed =
    let is = marked_word words.fields in
    let fields = ap (λ (w : Inside). w.fields) is_packed.whole in
    let code = code_back (words.fields / 2 ^ 56 % 4) (omega arith) in
    omega (arith, is, fields, code)

pub marked_packed : (words : Inside) → IsPacked words → IsPacked (record words { fields = bit_or words.fields (3 * 2 ^ 56) })
unfolding packed
marked_packed words is_packed =
    let parts = marked_parts words in
    let whole = is_packed.whole in
    record {
      len = subst (λ (q : PacketParts). IsLengthInRange q.len) (sym parts) is_packed.len;
      whole = ap packed parts ∙ (λ i. record { src = (whole i).src; dst = (whole i).dst; fields = marked_fields words is_packed i; tag = (whole i).tag });
    }
