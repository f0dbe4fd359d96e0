-- The lines of a script, from its front.
use Rattle.std.proofs.Common.{◌≡◌, ℕ, suc, ◌<◌, List, [], ◌∷◌, ◌++◌, length, refl, ap, arith, false, eqb}
use Rattle.std.proofs.lemmas.Grind.{common_steps}
use Rattle.call_script.specs.Lines.{lines, onto, NoBreak}

-- no byte 10 at the front and none after it
apart : (b : ℕ) (bs : List ℕ) → NoBreak (b ∷ bs) → (eqb b 10 ≡ false) × NoBreak bs
apart b bs h =
    let here : b ≡ 10 → ⊥ = h.none 0 (omega arith) in
    (grind (arith, common_steps), record { none = λ k below. h.none (suc k) (omega arith) })

-- a line that byte 10 ends
pub line_first : (line more : List ℕ) → NoBreak line → lines (line ++ 10 ∷ more) ≡ line ∷ lines more
unfolding lines
line_first [] more h = refl
line_first (b ∷ bs) more h = let a = apart b bs h in rw a.0 (ap (onto b) (line_first bs more a.1))

-- a last line that nothing ends
pub line_last : (line : List ℕ) → 0 < length line → NoBreak line → lines line ≡ line ∷ []
unfolding lines
line_last [] some h = absurd (omega arith)
line_last (b ∷ []) some h = let a = apart b [] h in rw a.0 refl
line_last (b ∷ c ∷ bs) some h = let a = apart b (c ∷ bs) h in rw a.0 (ap (onto b) (line_last (c ∷ bs) (omega arith) a.1))
