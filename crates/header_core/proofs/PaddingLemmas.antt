-- Bytes behind a packet's length change nothing of what it says.
use Rattle.std.proofs.Common.{◌≡◌, ◌∙◌, ℕ, zero, suc, ◌+◌, ◌*◌, ◌/◌, ◌%◌, ◌<◌, ◌≤◌, ◌&&◌, ◌||◌, ◌==◌, List, Bool, false, cond, not, length, get_or, take, drop, min, eqb, ltb, inl, inr, refl, sym, ap, arith, length-take}
use Rattle.std.proofs.lemmas.Bool.{cases_eq, cases_lt, eq-eqb, le-ltb, lt-ltb, ne_eqb}
use Rattle.std.proofs.lemmas.List.{drop-take, get_or-take, take-take}
use Rattle.header_core.specs.Chains.{EndsAt, extension_length, is_extension, kind_at, place_behind, place_of}
use Rattle.header_core.specs.Fields.{be16_at, byte_at}
use Rattle.header_core.specs.PortFields.{begins_with_ports, ports_at, without_ports}
use Rattle.header_core.specs.declared.chain.Kind.TheVariants as kind
use Rattle.header_core.specs.declared.chain.Place.{Place}
use Rattle.header_core.specs.declared.header.Ports.TheVariants as ports
use Rattle.header_core.proofs.ChainLemmas.{inside}

-- Two packets agree in their first n bytes.
module _ (a b : List ℕ) (n : ℕ) (agree : take n a ≡ take n b) where
  pub same_byte : (i : ℕ) → i < n → byte_at a i ≡ byte_at b i
  same_byte i below = sym (get_or-take n a i 0 below) ∙ ap (λ (l : List ℕ). get_or l i 0) agree ∙ get_or-take n b i 0 below

  pub same_be16 : (i : ℕ) → i + 2 ≤ n → be16_at a i ≡ be16_at b i
  same_be16 i below =
      let high = same_byte i (omega arith) in
      let low = same_byte (i + 1) (omega arith) in
      λ t. high t * 256 + low t

  pub same_bytes : (i m : ℕ) → i + m ≤ n → take m (drop i a) ≡ take m (drop i b)
  same_bytes i m within =
      let front : take (i + m) a ≡ take (i + m) b =
      sym (take-take (i + m) n a within) ∙ ap (take (i + m)) agree ∙ take-take (i + m) n b within in
      sym (drop-take i m a) ∙ ap (drop i) front ∙ drop-take i m b

  same_least : min n (length a) ≡ min n (length b)
  same_least = sym (length-take n a) ∙ ap length agree ∙ length-take n b

  pub same_length_test : (m : ℕ) → m ≤ n → ltb (length a) m ≡ ltb (length b) m
  same_length_test m within =
      elim (cases_lt (length a) m) [
        | inl less ↦ (let other : length b < m = omega (arith, same_least) in lt-ltb (length a) m less ∙ sym (lt-ltb (length b) m other))
        | inr more ↦ (let other : m ≤ length b = omega (arith, same_least) in le-ltb (length a) m more ∙ sym (le-ltb (length b) m other))
      ]

  pub same_emptiness : 1 ≤ n → eqb (length a) 0 ≡ eqb (length b) 0
  same_emptiness some =
      elim (cases_eq (length a) 0) [
        | inl none ↦ (let other : length b ≡ 0 = omega (arith, same_least) in eq-eqb (length a) 0 none ∙ sym (eq-eqb (length b) 0 other))
        | inr one ↦ (
            let least = same_least in
            ne_eqb (length a) 0 one ∙ sym (ne_eqb (length b) 0 (λ h. one (omega arith))))
      ]

  pub same_ports : (proto at : ℕ) (esp : Bool) → ports_at a proto at n esp ≡ ports_at b proto at n esp
  unfolding ports_at
  same_ports proto at esp =
      elim (cases_lt n (at + 4)) [
        | inl beyond ↦ rw (lt-ltb n (at + 4) beyond) refl
        | inr within ↦ (
            let captured = same_length_test (at + 4) within in
            let first = same_be16 at (omega arith) in
            let second = same_be16 (at + 2) (omega arith) in
            λ t. cond (not (begins_with_ports proto esp)) (without_ports ports.Absent)
            (cond (ltb n (at + 4)) (without_ports ports.Beyond)
            (cond (captured t) (without_ports ports.Cut)
            (record { kind = ports.Found; sport = first t; dport = second t }))))
      ]

  same_extension_length : (p : Place) → p.at + 8 ≤ n → extension_length a p ≡ extension_length b p
  same_extension_length p within =
      let second = same_byte (p.at + 1) (omega arith) in
      λ t. cond (p.proto == 44) 8 (cond (p.proto == 51) ((second t + 2) * 4) ((second t + 1) * 8))

  pub same_kind : (p : Place) → kind_at a n p ≡ kind_at b n p
  unfolding kind_at
  same_kind p =
      elim (cases_lt n (p.at + 8)) [
        | inl beyond ↦ rw (lt-ltb n (p.at + 8) beyond) refl
        | inr within ↦ (
            let captured = same_length_test (p.at + 8) within in
            let long = same_extension_length p within in
            let field = same_be16 (p.at + 2) (omega arith) in
            λ t. cond (not (is_extension p)) kind.Upper
            (cond (ltb n (p.at + 8)) kind.Beyond
            (cond (captured t) kind.Cut
            (cond (not (not ((p.proto == 51) && ltb (long t) 12)) || ltb n (p.at + long t)) kind.Beyond
            (cond ((p.proto == 44) && not ((field t / 8 == 0) && (field t % 2 == 0))) kind.Part kind.Extension)))))
      ]

  same_behind : (p : Place) → p.at + 8 ≤ n → place_behind a p ≡ place_behind b p
  unfolding place_behind
  same_behind p within =
      let first = same_byte p.at (omega arith) in
      let long = same_extension_length p within in
      λ t. record { proto = first t; at = p.at + long t; atomic = p.atomic || (p.proto == 44) }

  -- An extension header lies inside the packet with its first eight bytes.
  extension_inside : (p : Place) → kind_at a n p ≡ kind.Extension → p.at + 8 ≤ n
  extension_inside p is = inside a n p kind.Extension is (λ h. cc) (λ h. cc)

  same_place : 40 ≤ n → (k : ℕ) → ((j : ℕ) → j < k → kind_at a n (place_of a j) ≡ kind.Extension) → place_of a k ≡ place_of b k
  unfolding place_of
  same_place fixed zero before =
      let number = same_byte 6 (omega arith) in
      λ t. record { proto = number t; at = 40; atomic = false }
  same_place fixed (suc k) before =
      same_behind (place_of a k) (extension_inside (place_of a k) (before k (omega arith)))
      ∙ ap (place_behind b) (same_place fixed k (λ j below. before j (omega arith)))

  pub same_end : 40 ≤ n → (p : Place) → EndsAt a n p → EndsAt b n p
  same_end fixed p (k, ends) = (
    k,
    record {
      place = ends.place ∙ same_place fixed k ends.before;
      before = λ j below.
          ap (kind_at b n) (sym (same_place fixed j (λ i less. ends.before i (omega arith))))
          ∙ sym (same_kind (place_of a j)) ∙ ends.before j below;
      end = λ is. ends.end (same_kind p ∙ is);
    },
  )
