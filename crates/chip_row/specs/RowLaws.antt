-- What a row keeps at every moment: its size, and what a cut now may leave.
use Rattle.std.specs.Prelude.{ℕ, ◌≡◌, ◌+◌, ◌*◌, ◌<◌, ◌≤◌, List, [], ◌∷◌, ◌++◌, length, refl, All}
use Rattle.std.specs.List.{flat_map}
use Rattle.std.proofs.Common.{◌∙◌, ap, arith, length-append}
use Rattle.std.proofs.lemmas.List.Elements.{All-head, All-tail, All-weaker}
use Rattle.chip_row.specs.declared.numbers.Numbers.{Numbers}
use Rattle.chip_row.specs.Chips.{ChipOf, ChipHonest}
use Rattle.chip_row.specs.Rows.{RowTells, LeftAt, RowLeft}

module _ {D : Type 0} (chip : ChipOf D) where
  -- honest chips of one size that tell their bytes have as many as the sum of their sizes
  pub all_sized : (size : ℕ) (chips : List D) → All (λ c. ChipHonest chip c) chips → All (λ c. chip.tells c) chips → All (λ c. chip.size c ≡ size) chips →
      length (flat_map (λ c. chip.bytes c) chips) ≡ length chips * size
  all_sized size [] honest tells sizes = omega arith
  all_sized size (c ∷ chips) honest tells sizes =
      let rest = all_sized size chips (All-tail (λ c. ChipHonest chip c) c chips honest) (All-tail (λ c. chip.tells c) c chips tells)
      (All-tail (λ c. chip.size c ≡ size) c chips sizes) in
      let here = (All-head (λ c. ChipHonest chip c) c chips honest).sized (All-head (λ c. chip.tells c) c chips tells)
      ∙ All-head (λ c. chip.size c ≡ size) c chips sizes in
      omega (arith, length-append (chip.bytes c) (flat_map (λ c. chip.bytes c) chips), rest, here)

  -- past their last calls a cut leaves what stands
  pub all_stand : (m : ℕ) (chips : List D) (image : List ℕ) → All (λ c. ChipHonest chip c) chips → All (λ c. chip.last c < m) chips →
      All (λ c. chip.tells c) chips → LeftAt chip m chips image → image ≡ flat_map (λ c. chip.bytes c) chips
  unfolding LeftAt
  all_stand m [] image honest past tells left = left
  all_stand m (c ∷ chips) image honest past tells left =
      let first = (All-head (λ c. ChipHonest chip c) c chips honest).only_after m left.0 (All-head (λ c. chip.last c < m) c chips past)
      (All-head (λ c. chip.tells c) c chips tells) left.3 in
      let rest = all_stand m chips left.1 (All-tail (λ c. ChipHonest chip c) c chips honest) (All-tail (λ c. chip.last c < m) c chips past)
      (All-tail (λ c. chip.tells c) c chips tells) left.4 in
      left.2 ∙ ap (λ (l : List ℕ). l ++ left.1) first ∙ ap (λ (l : List ℕ). chip.bytes c ++ l) rest

  -- past their last calls what stands is what a cut may leave
  pub all_count : (m : ℕ) (chips : List D) → All (λ c. ChipHonest chip c) chips → All (λ c. chip.last c < m) chips → All (λ c. chip.tells c) chips →
      LeftAt chip m chips (flat_map (λ c. chip.bytes c) chips)
  unfolding LeftAt
  all_count m [] honest past tells = refl
  all_count m (c ∷ chips) honest past tells =
      let first = (All-head (λ c. ChipHonest chip c) c chips honest).counts m (All-head (λ c. chip.last c < m) c chips past)
      (All-head (λ c. chip.tells c) c chips tells) in
      let rest = all_count m chips (All-tail (λ c. ChipHonest chip c) c chips honest) (All-tail (λ c. chip.last c < m) c chips past)
      (All-tail (λ c. chip.tells c) c chips tells) in
      (chip.bytes c, flat_map (λ c. chip.bytes c) chips, refl, first, rest)

  -- called up to a moment is called before each later one
  pub all_past : (now m : ℕ) (chips : List D) → now < m → All (λ c. chip.last c ≤ now) chips → All (λ c. chip.last c < m) chips
  all_past now m chips later past = All-weaker (λ c. chip.last c ≤ now) (λ c. chip.last c < m) (λ c h. omega (arith, h, later)) chips past

  module _ (row : Numbers) (now : ℕ) (chips : List D) where
    -- the bytes of a row are as many as its size says
    pub row_sized : RowTells chip row now chips → length (flat_map (λ c. chip.bytes c) chips) ≡ row.count * row.chip_size
    row_sized tells = all_sized row.chip_size chips tells.good.honest tells.each tells.good.sized.sizes ∙ ap (λ (n : ℕ). n * row.chip_size) tells.good.many

    -- a cut now leaves what stands
    pub now_stands : (image : List ℕ) {count : ℕ} → RowTells chip row now chips → RowLeft chip now chips now image count →
        image ≡ flat_map (λ c. chip.bytes c) chips
    now_stands image tells left = all_stand left.0 chips image tells.good.honest (all_past now left.0 chips left.1 tells.good.past) tells.each left.3

    -- what stands is one of the things that a cut since an earlier moment may leave
    pub now_counts : (t : ℕ) → t ≤ now → RowTells chip row now chips → RowLeft chip now chips t (flat_map (λ c. chip.bytes c) chips) 0
    now_counts t le tells = (
      now + 1,
      omega (arith, le),
      omega arith,
      all_count (now + 1) chips tells.good.honest (all_past now (now + 1) chips (omega arith) tells.good.past) tells.each,
      refl,
    )
