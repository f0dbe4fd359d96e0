-- What magics tell.
use Rattle.std.proofs.Common.{◌≡◌, ℕ, bit_xor, sym, ap, ◌∙◌}
use Rattle.std.specs.Int.Bits.{xor_self, xor_zero_r, xor_assoc}
use Rattle.std.proofs.lemmas.Nat.{xor_comm}

-- what was turned is turned back
pub told_back : (m d : ℕ) → bit_xor (bit_xor m d) m ≡ d
told_back m d = ap (λ (x : ℕ). bit_xor x m) (xor_comm m d) ∙ xor_assoc d m m ∙ ap (λ (x : ℕ). bit_xor d x) (xor_self m) ∙ xor_zero_r d

-- two distances with one magic are one
pub same_distance : (m d e : ℕ) → bit_xor m d ≡ bit_xor m e → d ≡ e
same_distance m d e same = sym (told_back m d) ∙ ap (λ (x : ℕ). bit_xor x m) same ∙ told_back m e

-- and what was told is told again
pub told_again : (m w : ℕ) → bit_xor m (bit_xor w m) ≡ w
told_again m w = xor_comm m (bit_xor w m) ∙ xor_assoc w m m ∙ ap (λ (x : ℕ). bit_xor w x) (xor_self m) ∙ xor_zero_r w
