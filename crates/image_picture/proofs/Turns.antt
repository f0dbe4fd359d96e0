-- Texts of numbers, said one after the other. What a turn says is given by `now`, which says the same as `text`.
use Rattle.std.proofs.Common.{◌≡◌, ℕ, ◌+◌, ◌-◌, ◌<◌, ◌≤◌, List, sym, arith}
use Rattle.std.specs.List.{flat_map, range_with_len}
use Rattle.nor_core.specs.declared.state.NorState.{Ghosts as NorOf}
use Rattle.image_picture.specs.Drawing.{Drawn, Stopped}
use Rattle.image_picture.proofs.Rows.{texts_split, texts_more}
use Rattle.image_picture.proofs.Speaking.{drawn_none, drawn_same, drawn_then, stopped_same, stopped_then, stopped_first}

module _ {D : Type 0} {nor : NorOf D} (text : ℕ → List ℕ) (a : ℕ) where
  -- no turn
  pub turns_none : (d : D) (p : ℕ) → p ≡ a → Drawn nor d d (flat_map text (range_with_len a (p - a)))
  turns_none d p first = let none : p - a ≡ 0 = omega arith in rw none (drawn_none d)

  -- one more turn
  pub turns_more : (now : ℕ → List ℕ) (p : ℕ) {old mid new : D} → a ≤ p → now p ≡ text p → Drawn nor old mid (flat_map text (range_with_len a (p - a))) → Drawn nor mid new (now p) → Drawn nor old new (flat_map text (range_with_len a (p + 1 - a)))
  turns_more now p from same first turn = drawn_same _ _ (λ tells. sym (texts_more text a p from)) (drawn_then first (drawn_same _ _ (λ tells. same) turn))

  -- a turn that stopped
  pub turns_stop : (now : ℕ → List ℕ) (p n : ℕ) {old mid new : D} → a ≤ p → p < a + n → now p ≡ text p → Drawn nor old mid (flat_map text (range_with_len a (p - a))) → Stopped nor mid new (now p) → Stopped nor old new (flat_map text (range_with_len a n))
  turns_stop now p n from to same first turn = stopped_same _ _ (λ tells. sym (texts_split text a p n from to)) (stopped_then first (stopped_first (flat_map text (range_with_len (p + 1) (a + n - p - 1))) (stopped_same _ _ (λ tells. same) turn)))

  -- all turns
  pub turns_all : (p n : ℕ) {old new : D} → p ≡ a + n → Drawn nor old new (flat_map text (range_with_len a (p - a))) → Drawn nor old new (flat_map text (range_with_len a n))
  turns_all p n end drawn = let all : p - a ≡ n = omega arith in rw all at drawn
