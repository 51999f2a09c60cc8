-- The pieces make the message, and the eight bytes are the digest's first ones.
use Rattle.std.proofs.Common.{◌≡◌, ℕ, List, [], ◌∷◌, ◌++◌, take, length, ap, ◌∙◌, refl, rules, append_assoc}
use Rattle.std.specs.Prelude.{slice_index}
use Rattle.packet_core.specs.FlowNumber.{hash_value, hashed_message}
use Rattle.sha2.specs.Sha256.{sha256}
use Rattle.sha2.proofs.Facts256.{length-sha256}
use Rattle.packet_core.proofs.flow.hash_of.Goals as goal

first_eight : (d : List ℕ) → length d ≡ 32 → take 8 d ≡ slice_index d 0 ∷ slice_index d 1 ∷ slice_index d 2 ∷ slice_index d 3 ∷ slice_index d 4 ∷ slice_index d 5 ∷ slice_index d 6 ∷ slice_index d 7 ∷ []
first_eight (a ∷ b ∷ c ∷ d ∷ e ∷ f ∷ g ∷ h ∷ rest) long = refl
first_eight _ long = cc long

joined : (seed src dst sport dport : List ℕ) (proto : ℕ) → seed ++ (proto ∷ []) ++ src ++ dst ++ sport ++ dport ≡ seed ++ (proto ∷ src ++ dst ++ sport ++ dport)
joined seed src dst sport dport proto = search (rules, append_assoc)

pub returns : goal.returns
unfolding hash_value hashed_message
returns c =
    let message : take c.put-place-4.result c.put-place-4.new.message ≡ hashed_message c.args.seed.now c.args.tuple.now =
    rw (c.put-place-4.ensures.written, c.put-place-3.ensures.written, c.put_address-place-2.ensures.written, c.put_address-place.ensures.written, c.put-place-2.ensures.written, c.put-place.ensures.written, c.to_be_bytes.ensures, c.to_be_bytes-2.ensures) (joined _ _ _ _ _ _) in
    let digest : c.digest.result ≡ sha256 (hashed_message c.args.seed.now c.args.tuple.now) = c.digest.ensures ∙ ap sha256 message in
    rw (← digest) (rw (first_eight c.digest.result (ap length digest ∙ length-sha256 _)) c.from_be_bytes.ensures)
