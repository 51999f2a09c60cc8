-- An address of IPv4 is read number by number: each is cut off at its dot and read before the next one is looked at.
use Rattle.std.proofs.Common.{◌≡◌, ℕ, List, [], ◌∷◌, Option, Some, None, refl}
use Rattle.packet_core.specs.declared.packet.Ip.{Ip}
use Rattle.packet_core.specs.declared.packet.Ip.TheVariants.{V4}
use Rattle.row_core.specs.Rows.{◌>>?◌, cut_of, four_octets_of, octet_and_rest_of, octet_of}

abbrev none : (C : Type 0) → Option C
none C = None

no_next : {A : Type 0} (C : Type 0) (x : Option A) → (x >>? λ (a : A). none C) ≡ None
no_next C None = refl
no_next C (Some a) = refl

no_second : {A B : Type 0} (C : Type 0) (x : Option A) (next : A → Option B) → (x >>? λ (a : A). next a >>? λ (b : B). none C) ≡ None
no_second C None next = refl
no_second C (Some a) next = no_next C (next a)

abbrev beside : List ℕ → ℕ → Option (ℕ × List ℕ)
beside rest v = Some (v, rest)

module _ (cut : List ℕ → Option (List ℕ × List ℕ)) (oct : List ℕ → Option ℕ) where
  abbrev with_rest : Option (List ℕ × List ℕ) → Option (ℕ × List ℕ)
  with_rest x = x >>? λ p. oct p.0 >>? beside p.1

  abbrev four : ℕ → ℕ → ℕ → ℕ → Option Ip
  four a b c d = Some (V4 (a ∷ b ∷ c ∷ d ∷ []))

  last_one : (a b : ℕ) (rest : List ℕ) (o : Option ℕ)
      → (o >>? λ c. oct rest >>? λ d. four a b c d) ≡ ((o >>? beside rest) >>? λ three. oct three.1 >>? λ d. four a b three.0 d)
  last_one a b rest None = refl
  last_one a b rest (Some c) = refl

  last_two : (a b : ℕ) (x : Option (List ℕ × List ℕ))
      → (x >>? λ three. oct three.0 >>? λ c. oct three.1 >>? λ d. four a b c d) ≡ (with_rest x >>? λ three. oct three.1 >>? λ d. four a b three.0 d)
  last_two a b None = refl
  last_two a b (Some p) = last_one a b p.1 (oct p.0)

  second : (a : ℕ) (rest : List ℕ) (o : Option ℕ)
      → (cut rest >>? λ three. o >>? λ b. oct three.0 >>? λ c. oct three.1 >>? λ d. four a b c d)
      ≡ ((o >>? beside rest) >>? λ two. with_rest (cut two.1) >>? λ three. oct three.1 >>? λ d. four a two.0 three.0 d)
  second a rest None = no_next Ip (cut rest)
  second a rest (Some b) = last_two a b (cut rest)

  last_three : (a : ℕ) (x : Option (List ℕ × List ℕ))
      → (x >>? λ two. cut two.1 >>? λ three. oct two.0 >>? λ b. oct three.0 >>? λ c. oct three.1 >>? λ d. four a b c d)
      ≡ (with_rest x >>? λ two. with_rest (cut two.1) >>? λ three. oct three.1 >>? λ d. four a two.0 three.0 d)
  last_three a None = refl
  last_three a (Some p) = second a p.1 (oct p.0)

  first : (rest : List ℕ) (o : Option ℕ)
      → (cut rest >>? λ two. cut two.1 >>? λ three. o >>? λ a. oct two.0 >>? λ b. oct three.0 >>? λ c. oct three.1 >>? λ d. four a b c d)
      ≡ ((o >>? beside rest) >>? λ one. with_rest (cut one.1) >>? λ two. with_rest (cut two.1) >>? λ three. oct three.1 >>? λ d. four one.0 two.0 three.0 d)
  first rest None = no_second Ip (cut rest) (λ two. cut two.1)
  first rest (Some a) = last_three a (cut rest)

  all_four : (x : Option (List ℕ × List ℕ))
      → (x >>? λ one. cut one.1 >>? λ two. cut two.1 >>? λ three. oct one.0 >>? λ a. oct two.0 >>? λ b. oct three.0 >>? λ c. oct three.1 >>? λ d. four a b c d)
      ≡ (with_rest x >>? λ one. with_rest (cut one.1) >>? λ two. with_rest (cut two.1) >>? λ three. oct three.1 >>? λ d. four one.0 two.0 three.0 d)
  all_four None = refl
  all_four (Some p) = first p.1 (oct p.0)

pub in_turn : (text : List ℕ) → four_octets_of text
    ≡ (octet_and_rest_of text >>? λ one. octet_and_rest_of one.1 >>? λ two. octet_and_rest_of two.1 >>? λ three. octet_of three.1 >>? λ d. Some (V4 (one.0 ∷ two.0 ∷ three.0 ∷ d ∷ [])))
unfolding four_octets_of octet_and_rest_of
in_turn text = all_four cut_of octet_of (cut_of text)
