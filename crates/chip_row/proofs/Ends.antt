-- Chips end to end: what a call on one of them leaves of all.
use Rattle.std.proofs.Common.{◌≡◌, ℕ, zero, suc, ◌+◌, ◌*◌, ◌<◌, ◌≤◌, ◌⊎◌, max, inl, inr, ⊎_elim, List, [], ◌∷◌, ◌++◌, length, get_or, set, refl, sym, ◌∙◌, ap, subst, arith, length-append, append_assoc, Some, OnOk, OnErr, Ok, Err, Result}
use Rattle.std.proofs.lemmas.Grind.{flat_map-append}
use Rattle.std.proofs.lemmas.List.Elements.{All-head, All-tail, All-cons, All-nil, All-weaker, All-append}
use Rattle.std.specs.List.{All, flat_map, slice_get, slice_range}
use Rattle.std.specs.Option.{ForSome}
use Rattle.std.specs.declared.option.Option.{Option}
use Rattle.nor_core.specs.declared.device.Failed.{Failed}
use Rattle.nor_core.specs.declared.device.Mark.{Mark}
use Rattle.nor_core.specs.Count.{Rose}
use Rattle.nor_core.specs.Flash.{programmed, HalfProgrammed, erased, HalfErased}
use Rattle.chip_row.specs.declared.numbers.Numbers.{Numbers}
use Rattle.chip_row.specs.Chips.{ChipOf, ChipHonest, InChipErase}
use Rattle.chip_row.specs.Rows.{AllFit, RowTells, latest, LeftAt, RowLeft, OneOther, OthersAt, OneChanged, OneRead, ChipRose}
use Rattle.chip_row.specs.RowLaws.{all_sized, all_stand, all_past}
use Rattle.chip_row.proofs.Parts.{lt_or_le, half_parts, programmed_parts, erased_parts, slice_parts, below_append, half_erased_parts}

-- what an Ok gives, by what it gives
pub on_ok : {P Q : Type 0} (result : Result (Unit {0}) Failed) → (P → Q) → OnOk result P → OnOk result Q
on_ok (Ok done) goes p = goes p
on_ok (Err failed) goes p = tt

-- and what a failure gives
pub on_err : {P Q : Type 0} (result : Result (Unit {0}) Failed) → (P → Q) → OnErr result P → OnErr result Q
on_err (Ok done) goes p = tt
on_err (Err failed) goes p = goes p

module _ {D : Type 0} (chip : ChipOf D) where
  -- of no chips the latest moment is 0
  pub latest_none : 0 ≡ latest chip []
  unfolding latest
  latest_none = refl

  -- and one more chip may be later
  pub latest_more : (chips : List D) (c : D) → latest chip (chips ++ c ∷ []) ≡ max (chip.last c) (latest chip chips)
  unfolding latest
  latest_more [] c = refl
  latest_more (b ∷ chips) c = let rest = latest_more chips c in omega (arith, rest)

  -- no chip was called past the latest
  pub latest_past : (chips : List D) → All (λ c. chip.last c ≤ latest chip chips) chips
  unfolding latest
  latest_past [] = All-nil (λ c. chip.last c ≤ 0)
  latest_past (c ∷ chips) = All-cons (λ d. chip.last d ≤ max (chip.last c) (latest chip chips)) c chips (omega arith) (All-weaker (λ d. chip.last d ≤ latest chip chips) (λ d. chip.last d ≤ max (chip.last c) (latest chip chips)) (λ d h. omega (arith, h)) chips (latest_past chips))

-- two failures together
pub on_err_both : {P Q W : Type 0} (result : Result (Unit {0}) Failed) → (P → Q → W) → OnErr result P → OnErr result Q → OnErr result W
on_err_both (Ok done) goes p q = tt
on_err_both (Err failed) goes p q = goes p q

-- what holds of all in a list holds of all in its front
pub All-front : {X : Type 0} (P : X → Type 0) (xs ys : List X) → All P (xs ++ ys) → All P xs
All-front P [] ys all = All-nil P
All-front P (x ∷ xs) ys all = All-cons P x xs (All-head P x (xs ++ ys) all) (All-front P xs ys (All-tail P x (xs ++ ys) all))

-- and of all behind that
pub All-behind : {X : Type 0} (P : X → Type 0) (xs ys : List X) → All P (xs ++ ys) → All P ys
All-behind P [] ys all = all
All-behind P (x ∷ xs) ys all = All-behind P xs ys (All-tail P x (xs ++ ys) all)

-- a list in which one was set
pub record Split {X : Type 0} (xs ys : List X) (i : ℕ) (v : X) : Type 0 where
  pub was : X
  pub other : OneOther i xs ys was v
  pub item : (d : X) → get_or xs i d ≡ was

-- each list in which one was set is of this kind
pub split_set : {X : Type 0} (xs : List X) (i : ℕ) (v : X) → i < length xs → Split xs (set xs i v) i v
split_set [] i v within = absurd (omega (arith, within))
split_set (x ∷ xs) zero v within = record { was = x; other = record { before = []; after = xs; old_is = refl; new_is = refl; at_place = refl }; item = λ d. refl }
split_set (x ∷ xs) (suc i) v within =
    let s = split_set xs i v (omega (arith, within)) in
    record {
      was = s.was;
      other = record { before = x ∷ s.other.before; after = s.other.after; old_is = ap (λ l. x ∷ l) s.other.old_is; new_is = ap (λ l. x ∷ l) s.other.new_is; at_place = ap suc s.other.at_place };
      item = s.item;
    }

-- and in which all others stay
pub set_others : {X : Type 0} (xs : List X) (i : ℕ) (v : X) → OthersAt i xs (set xs i v)
set_others [] i v k other = refl
set_others (x ∷ xs) zero v zero other = absurd (other refl)
set_others (x ∷ xs) zero v (suc k) other = refl
set_others (x ∷ xs) (suc i) v zero other = refl
set_others (x ∷ xs) (suc i) v (suc k) other = set_others xs i v k (λ same. other (ap suc same))

-- the one behind a front
slice_get-behind : {X : Type 0} (xs : List X) (x : X) (ys : List X) → slice_get (xs ++ x ∷ ys) (length xs) ≡ Some x
slice_get-behind [] x ys = refl
slice_get-behind (z ∷ xs) x ys = slice_get-behind xs x ys

module _ {D : Type 0} {place : ℕ} {old new : List D} {was is : D} (other : OneOther place old new was is) where
  -- what holds of all holds of the one that stood there
  pub all_was : (P : D → Type 0) → All P old → P was
  all_was P all = All-head P was other.after (All-behind P other.before (was ∷ other.after) (subst (All P) other.old_is all))

  -- and of the one that stands there now
  pub all_is : (P : D → Type 0) → All P new → P is
  all_is P all = All-head P is other.after (All-behind P other.before (is ∷ other.after) (subst (All P) other.new_is all))

  -- of all before it
  pub all_front : (P : D → Type 0) → All P old → All P other.before
  all_front P all = All-front P other.before (was ∷ other.after) (subst (All P) other.old_is all)

  -- and of all after it
  pub all_back : (P : D → Type 0) → All P old → All P other.after
  all_back P all = All-tail P was other.after (All-behind P other.before (was ∷ other.after) (subst (All P) other.old_is all))

  -- what holds of all and of the new one holds of all then
  pub all_new : (P : D → Type 0) → All P old → P is → All P new
  all_new P all here = subst (All P) (sym other.new_is) (All-append P other.before (is ∷ other.after) (all_front P all) (All-cons P is other.after here (all_back P all)))

  -- and the other way round
  pub all_old : (P : D → Type 0) → All P new → P was → All P old
  all_old P all here =
      let behind = All-behind P other.before (is ∷ other.after) (subst (All P) other.new_is all) in
      subst (All P) (sym other.old_is) (All-append P other.before (was ∷ other.after) (All-front P other.before (is ∷ other.after) (subst (All P) other.new_is all)) (All-cons P was other.after here (All-tail P is other.after behind)))

  -- there are as many
  pub same_many : length new ≡ length old
  same_many = ap length other.new_is ∙ length-append other.before (is ∷ other.after) ∙ sym (length-append other.before (was ∷ other.after)) ∙ sym (ap length other.old_is)

  -- the one that stood there
  pub was_at : slice_get old place ≡ Some was
  was_at = ap (λ (k : ℕ). slice_get old k) (sym other.at_place) ∙ ap (λ (l : List D). slice_get l (length other.before)) other.old_is ∙ slice_get-behind other.before was other.after

  -- the one that stands there
  pub is_at : slice_get new place ≡ Some is
  is_at = ap (λ (k : ℕ). slice_get new k) (sym other.at_place) ∙ ap (λ (l : List D). slice_get l (length other.before)) other.new_is ∙ slice_get-behind other.before is other.after

  module _ (f : D → List ℕ) where
    -- all bytes before, in three parts
    pub old_parts : flat_map f old ≡ flat_map f other.before ++ (f was ++ flat_map f other.after)
    old_parts = ap (λ (l : List D). flat_map f l) other.old_is ∙ flat_map-append f other.before (was ∷ other.after)

    -- and after
    pub new_parts : flat_map f new ≡ flat_map f other.before ++ (f is ++ flat_map f other.after)
    new_parts = ap (λ (l : List D). flat_map f l) other.new_is ∙ flat_map-append f other.before (is ∷ other.after)

module _ {D : Type 0} (chip : ChipOf D) where
  -- an image in three parts
  pub record Parts (m : ℕ) (before : List D) (c : D) (after : List D) (image : List ℕ) : Type 0 where
    pub first : List ℕ
    pub part : List ℕ
    pub last : List ℕ
    pub is : image ≡ first ++ (part ++ last)
    pub left_first : LeftAt chip m before first
    pub left_part : chip.left_at c m part
    pub left_last : LeftAt chip m after last

  -- what a cut may leave of all is of this kind
  left_parts : (m : ℕ) (before : List D) (c : D) (after : List D) (image : List ℕ) → LeftAt chip m (before ++ c ∷ after) image → Parts m before c after image
  unfolding LeftAt
  left_parts m [] c after image left = record { first = []; part = left.0; last = left.1; is = left.2; left_first = refl; left_part = left.3; left_last = left.4 }
  left_parts m (b ∷ before) c after image left =
      let p = left_parts m before c after left.1 left.4 in
      record { first = left.0 ++ p.first; part = p.part; last = p.last; is = left.2 ∙ ap (λ l. left.0 ++ l) p.is ∙ sym (append_assoc left.0 p.first (p.part ++ p.last)); left_first = (left.0, p.first, refl, left.3, p.left_first); left_part = p.left_part; left_last = p.left_last }

  -- and back
  parts_left : (m : ℕ) (before : List D) (c : D) (after : List D) (image : List ℕ) → Parts m before c after image → LeftAt chip m (before ++ c ∷ after) image
  unfolding LeftAt
  parts_left m [] c after image p = (p.part, p.last, subst (λ (l : List ℕ). image ≡ l ++ (p.part ++ p.last)) p.left_first p.is, p.left_part, p.left_last)
  parts_left m (b ∷ before) c after image p =
      let h = p.left_first in (
        h.0,
        h.1 ++ (p.part ++ p.last),
        p.is ∙ ap (λ (l : List ℕ). l ++ (p.part ++ p.last)) h.2 ∙ append_assoc h.0 h.1 (p.part ++ p.last),
        h.3,
        parts_left m before c after (h.1 ++ (p.part ++ p.last)) (record { first = h.1; part = p.part; last = p.last; is = refl; left_first = h.4; left_part = p.left_part; left_last = p.left_last }),
      )

  -- one part is put for another
  pub part_for : {place : ℕ} {old new : List D} {was is : D} (other : OneOther place old new was is) (m : ℕ) (image : List ℕ) → ((part : List ℕ) → chip.left_at is m part → chip.left_at was m part) → LeftAt chip m new image → LeftAt chip m old image
  part_for {place} {old} {new} {was} {is} other m image goes left =
      let p = left_parts m other.before is other.after image (subst (λ (l : List D). LeftAt chip m l image) other.new_is left) in
      subst (λ (l : List D). LeftAt chip m l image) (sym other.old_is) (parts_left m other.before was other.after image (record {
        first = p.first;
        part = p.part;
        last = p.last;
        is = p.is;
        left_first = p.left_first;
        left_last = p.left_last;
        left_part = goes p.part p.left_part;
      }))

  -- the same two, seen the other way round
  pub turned : {place : ℕ} {old new : List D} {was is : D} → OneOther place old new was is → OneOther place new old is was
  turned other = record { before = other.before; after = other.after; old_is = other.new_is; new_is = other.old_is; at_place = other.at_place }

  -- bytes of honest chips that tell them are below 256
  all_below : (chips : List D) → All (λ c. ChipHonest chip c) chips → All (λ c. chip.tells c) chips → (k : ℕ) → get_or (flat_map (λ c. chip.bytes c) chips) k 0 < 256
  all_below [] honest tells k = omega arith
  all_below (c ∷ chips) honest tells k = below_append (chip.bytes c) (flat_map (λ c. chip.bytes c) chips)
      ((All-head (λ c. ChipHonest chip c) c chips honest).below (All-head (λ c. chip.tells c) c chips tells))
      (all_below chips (All-tail (λ c. ChipHonest chip c) c chips honest) (All-tail (λ c. chip.tells c) c chips tells)) k

  -- a call on one chip that tells its bytes: what a cut may leave, and what stands, of all
  module _ {row : Numbers} {n place : ℕ} {old new : List D} {R : List ℕ → List ℕ → List ℕ → Type 0} {S : List ℕ → List ℕ → Type 0} {result : Result (Unit {0}) Failed}
      (good : AllFit chip row n old) (one : OneChanged chip (n + 1) place old new R S result) where
    -- the chips fit the row after the call
    pub fit_after : AllFit chip row (n + 1) new
    fit_after = record {
      many = same_many one.other ∙ good.many;
      sized = record {
        sizes = all_new one.other (λ c. chip.size c ≡ row.chip_size) good.sized.sizes (one.changes.size ∙ all_was one.other (λ c. chip.size c ≡ row.chip_size) good.sized.sizes);
        units = all_new one.other (λ c. chip.unit c ≡ row.unit) good.sized.units (one.changes.unit ∙ all_was one.other (λ c. chip.unit c ≡ row.unit) good.sized.units);
      };
      past = all_new one.other (λ c. chip.last c ≤ n + 1) (All-weaker (λ c. chip.last c ≤ n) (λ c. chip.last c ≤ n + 1) (λ c h. omega (arith, h)) old good.past) (omega (arith, one.changes.last));
      honest = one.honest;
    }

    -- and tell their bytes as before
    pub tells_after : RowTells chip row n old → RowTells chip row (n + 1) new
    tells_after tells = record { each = all_new one.other (λ c. chip.tells c) tells.each (one.changes.told (all_was one.other (λ c. chip.tells c) tells.each)); good = fit_after }

    -- only then
    pub tells_before : RowTells chip row (n + 1) new → RowTells chip row n old
    tells_before tells = record { each = all_old one.other (λ c. chip.tells c) tells.each (one.changes.told_before (all_is one.other (λ c. chip.tells c) tells.each)); good = good }

    -- the place of the chip among all bytes
    pub at_chip : All (λ c. chip.tells c) old → length (flat_map (λ c. chip.bytes c) one.other.before) ≡ place * row.chip_size
    at_chip tells = all_sized chip row.chip_size one.other.before (all_front one.other (λ c. ChipHonest chip c) good.honest) (all_front one.other (λ c. chip.tells c) tells) (all_front one.other (λ c. chip.size c ≡ row.chip_size) good.sized.sizes) ∙ ap (λ (k : ℕ). k * row.chip_size) one.other.at_place

    -- how many bytes it had
    pub was_sized : All (λ c. chip.tells c) old → length (chip.bytes one.was) ≡ row.chip_size
    was_sized tells = (all_was one.other (λ c. ChipHonest chip c) good.honest).sized (all_was one.other (λ c. chip.tells c) tells) ∙ all_was one.other (λ c. chip.size c ≡ row.chip_size) good.sized.sizes

    -- all bytes before it are below 256
    pub below_front : All (λ c. chip.tells c) old → (k : ℕ) → get_or (flat_map (λ c. chip.bytes c) one.other.before) k 0 < 256
    below_front tells = all_below one.other.before (all_front one.other (λ c. ChipHonest chip c) good.honest) (all_front one.other (λ c. chip.tells c) tells)

    -- and all after it
    pub below_back : All (λ c. chip.tells c) old → (k : ℕ) → get_or (flat_map (λ c. chip.bytes c) one.other.after) k 0 < 256
    below_back tells = all_below one.other.after (all_back one.other (λ c. ChipHonest chip c) good.honest) (all_back one.other (λ c. chip.tells c) tells)

    -- a count of faults that rose
    pub chip_rose : Rose (chip.faults one.was) (chip.faults one.is) → ChipRose chip place old new
    chip_rose rose = record { was = one.was; is = one.is; old_is = was_at one.other; new_is = is_at one.other; rose = rose }

    -- what a cut in or after the call may leave: the other chips as they stand, and a part of which R holds
    later : (m : ℕ) (image : List ℕ) → n < m → m ≤ n + 2 → All (λ c. chip.tells c) old → LeftAt chip m new image
        → (part : List ℕ) × R (chip.bytes one.was) (chip.bytes one.is) part × (image ≡ flat_map (λ c. chip.bytes c) one.other.before ++ (part ++ flat_map (λ c. chip.bytes c) one.other.after))
    later m image low high tells left =
        let p = left_parts m one.other.before one.is one.other.after image (subst (λ (l : List D). LeftAt chip m l image) one.other.new_is left) in
        let first = all_stand chip m one.other.before p.first (all_front one.other (λ c. ChipHonest chip c) good.honest) (all_past chip n m one.other.before low (all_front one.other (λ c. chip.last c ≤ n) good.past)) (all_front one.other (λ c. chip.tells c) tells) p.left_first in
        let last = all_stand chip m one.other.after p.last (all_back one.other (λ c. ChipHonest chip c) good.honest) (all_past chip n m one.other.after low (all_back one.other (λ c. chip.last c ≤ n) good.past)) (all_back one.other (λ c. chip.tells c) tells) p.left_last in
        let told = all_was one.other (λ c. chip.tells c) tells in
        let part : R (chip.bytes one.was) (chip.bytes one.is) p.part = ⊎_elim
        (λ here. one.changes.at_now p.part told (subst (λ (k : ℕ). chip.left_at one.is k p.part) (omega (arith, here, low)) p.left_part))
        (λ past_it. subst (R (chip.bytes one.was) (chip.bytes one.is))
        (sym ((all_is one.other (λ c. ChipHonest chip c) one.honest).only_after m p.part (omega (arith, one.changes.last, past_it)) (one.changes.told told) p.left_part)) (one.changes.stands told))
        (lt_or_le m (n + 2)) in
        (p.part, part, p.is ∙ ap (λ (l : List ℕ). l ++ (p.part ++ p.last)) first ∙ ap (λ (l : List ℕ). flat_map (λ c. chip.bytes c) one.other.before ++ (p.part ++ l)) last)

    -- where R of the part gives W of the whole
    module _ (W : List ℕ → Type 0) (lift : All (λ c. chip.tells c) old → (part : List ℕ) → R (chip.bytes one.was) (chip.bytes one.is) part → W (flat_map (λ c. chip.bytes c) one.other.before ++ (part ++ flat_map (λ c. chip.bytes c) one.other.after))) where
      -- what a cut may leave of the row after the call
      pub row_cuts : (t : ℕ) (image : List ℕ) (count : ℕ) → t ≤ n → RowLeft chip (n + 1) new t image count → RowLeft chip n old t image count ⊎ ((count ≡ 0) × (RowTells chip row n old → W image))
      row_cuts t image count le left = ⊎_elim
          (λ low. inr (left.4, λ tells. (let l = later left.0 image low (omega (arith, left.2)) tells.each left.3 in subst W (sym l.2) (lift tells.each l.0 l.1))))
          (λ high. inl (left.0, left.1, omega (arith, high), part_for one.other left.0 image (λ part. one.changes.before left.0 part (omega (arith, high))) left.3, left.4))
          (lt_or_le n left.0)

      -- and what stands
      pub row_stands : RowTells chip row n old → W (flat_map (λ c. chip.bytes c) new)
      row_stands tells = subst W (sym (new_parts one.other (λ c. chip.bytes c))) (lift tells.each (chip.bytes one.is) (one.changes.stands (all_was one.other (λ c. chip.tells c) tells.each)))

    -- what a cut might leave it still may
    pub row_kept : (t : ℕ) (image : List ℕ) (count : ℕ) → RowLeft chip n old t image count → RowLeft chip (n + 1) new t image count
    row_kept t image count left = (left.0, left.1, omega (arith, left.2), part_for (turned one.other) left.0 image (λ part. one.changes.kept left.0 part left.2) left.3, left.4)

module _ {D : Type 0} (chip : ChipOf D) {row : Numbers} {n place : ℕ} {old new : List D} {result : Result (Unit {0}) Failed} (good : AllFit chip row n old) where
  -- a program of one chip
  module _ (at : ℕ) (asked : List ℕ) (fits : at + length asked ≤ row.chip_size)
      (one : OneChanged chip (n + 1) place old new (λ was is image. HalfProgrammed at asked was image) (λ was is. OnOk result (is ≡ programmed was at asked)) result) where
    -- is half a program of all
    pub lift_program : All (λ c. chip.tells c) old → (part : List ℕ) → HalfProgrammed at asked (chip.bytes one.was) part
        → HalfProgrammed (place * row.chip_size + at) asked (flat_map (λ c. chip.bytes c) old) (flat_map (λ c. chip.bytes c) one.other.before ++ (part ++ flat_map (λ c. chip.bytes c) one.other.after))
    lift_program tells part half =
        let long = was_sized chip good one tells in
        let here = at_chip chip good one tells in
        subst (λ (l : List ℕ). HalfProgrammed (place * row.chip_size + at) asked l (flat_map (λ c. chip.bytes c) one.other.before ++ (part ++ flat_map (λ c. chip.bytes c) one.other.after))) (sym (old_parts one.other (λ c. chip.bytes c)))
        (subst (λ (k : ℕ). HalfProgrammed (k + at) asked (flat_map (λ c. chip.bytes c) one.other.before ++ (chip.bytes one.was ++ flat_map (λ c. chip.bytes c) one.other.after)) (flat_map (λ c. chip.bytes c) one.other.before ++ (part ++ flat_map (λ c. chip.bytes c) one.other.after))) here
        (half_parts (flat_map (λ c. chip.bytes c) one.other.before) (flat_map (λ c. chip.bytes c) one.other.after) at asked (chip.bytes one.was) part (omega (arith, long, fits)) half))

    -- is a program of all
    pub program_done : RowTells chip row n old → OnOk result (flat_map (λ c. chip.bytes c) new ≡ programmed (flat_map (λ c. chip.bytes c) old) (place * row.chip_size + at) asked)
    program_done tells = on_ok result (λ whole.
        (let long = was_sized chip good one tells.each in
        let here = at_chip chip good one tells.each in
        new_parts one.other (λ c. chip.bytes c)
        ∙ ap (λ (l : List ℕ). flat_map (λ c. chip.bytes c) one.other.before ++ (l ++ flat_map (λ c. chip.bytes c) one.other.after)) whole
        ∙ sym (programmed_parts (flat_map (λ c. chip.bytes c) one.other.before) (flat_map (λ c. chip.bytes c) one.other.after) at asked (chip.bytes one.was) (omega (arith, long, fits)))
        ∙ ap (λ (k : ℕ). programmed (flat_map (λ c. chip.bytes c) one.other.before ++ (chip.bytes one.was ++ flat_map (λ c. chip.bytes c) one.other.after)) (k + at) asked) here
        ∙ ap (λ (l : List ℕ). programmed l (place * row.chip_size + at) asked) (sym (old_parts one.other (λ c. chip.bytes c)))))
        (one.done (all_was one.other (λ c. chip.tells c) tells.each))

  -- an erase in one chip
  module _ (start unit : ℕ) (mark : Option Mark) (marked : ForSome mark (λ m. m.at + 2 ≤ unit)) (fits : start + unit ≤ row.chip_size)
      (one : OneChanged chip (n + 1) place old new (λ was is image. InChipErase start unit mark was is image) (λ was is. OnOk result (is ≡ erased was start unit) × OnErr result (HalfErased start unit mark was is)) result) where
    -- is half an erase in all
    half_lifted : All (λ c. chip.tells c) old → (part : List ℕ) → HalfErased start unit mark (chip.bytes one.was) part
        → HalfErased (place * row.chip_size + start) unit mark (flat_map (λ c. chip.bytes c) old) (flat_map (λ c. chip.bytes c) one.other.before ++ (part ++ flat_map (λ c. chip.bytes c) one.other.after))
    half_lifted tells part half =
        let long = was_sized chip good one tells in
        let here = at_chip chip good one tells in
        subst (λ (l : List ℕ). HalfErased (place * row.chip_size + start) unit mark l (flat_map (λ c. chip.bytes c) one.other.before ++ (part ++ flat_map (λ c. chip.bytes c) one.other.after))) (sym (old_parts one.other (λ c. chip.bytes c)))
        (subst (λ (k : ℕ). HalfErased (k + start) unit mark (flat_map (λ c. chip.bytes c) one.other.before ++ (chip.bytes one.was ++ flat_map (λ c. chip.bytes c) one.other.after)) (flat_map (λ c. chip.bytes c) one.other.before ++ (part ++ flat_map (λ c. chip.bytes c) one.other.after))) here
        (half_erased_parts mark (flat_map (λ c. chip.bytes c) one.other.before) (flat_map (λ c. chip.bytes c) one.other.after) (chip.bytes one.was) part start unit marked (omega (arith, long, fits)) (below_front chip good one tells) (below_back chip good one tells) half))

    -- what a cut may leave of it, seen in all
    pub lift_erase : All (λ c. chip.tells c) old → (part : List ℕ) → InChipErase start unit mark (chip.bytes one.was) (chip.bytes one.is) part
        → InChipErase (place * row.chip_size + start) unit mark (flat_map (λ c. chip.bytes c) old) (flat_map (λ c. chip.bytes c) new) (flat_map (λ c. chip.bytes c) one.other.before ++ (part ++ flat_map (λ c. chip.bytes c) one.other.after))
    lift_erase tells part inside = ⊎_elim
        (λ half. inl (half_lifted tells part half))
        (λ stands. inr (ap (λ (l : List ℕ). flat_map (λ c. chip.bytes c) one.other.before ++ (l ++ flat_map (λ c. chip.bytes c) one.other.after)) stands ∙ sym (new_parts one.other (λ c. chip.bytes c))))
        inside

    -- is an erase in all
    pub erase_done : RowTells chip row n old → OnOk result (flat_map (λ c. chip.bytes c) new ≡ erased (flat_map (λ c. chip.bytes c) old) (place * row.chip_size + start) unit)
    erase_done tells = on_ok result (λ whole.
        (let long = was_sized chip good one tells.each in
        let here = at_chip chip good one tells.each in
        new_parts one.other (λ c. chip.bytes c)
        ∙ ap (λ (l : List ℕ). flat_map (λ c. chip.bytes c) one.other.before ++ (l ++ flat_map (λ c. chip.bytes c) one.other.after)) whole
        ∙ sym (erased_parts (flat_map (λ c. chip.bytes c) one.other.before) (flat_map (λ c. chip.bytes c) one.other.after) (chip.bytes one.was) start unit (omega (arith, long, fits)))
        ∙ ap (λ (k : ℕ). erased (flat_map (λ c. chip.bytes c) one.other.before ++ (chip.bytes one.was ++ flat_map (λ c. chip.bytes c) one.other.after)) (k + start) unit) here
        ∙ ap (λ (l : List ℕ). erased l (place * row.chip_size + start) unit) (sym (old_parts one.other (λ c. chip.bytes c)))))
        (one.done (all_was one.other (λ c. chip.tells c) tells.each)).0

    -- or half an erase in all, where it failed
    pub erase_half : RowTells chip row n old → OnErr result (HalfErased (place * row.chip_size + start) unit mark (flat_map (λ c. chip.bytes c) old) (flat_map (λ c. chip.bytes c) new))
    erase_half tells = on_err result (λ half. subst (HalfErased (place * row.chip_size + start) unit mark (flat_map (λ c. chip.bytes c) old)) (sym (new_parts one.other (λ c. chip.bytes c))) (half_lifted tells.each (chip.bytes one.is) half))
        (one.done (all_was one.other (λ c. chip.tells c) tells.each)).1

-- bytes of one chip are read
module _ {D : Type 0} (chip : ChipOf D) {row : Numbers} {n place at count : ℕ} {old new : List D} {into : List ℕ} {result : Result (Unit {0}) Failed}
    (good : AllFit chip row n old) (one : OneRead chip place at count old new into result) where
  -- the chips fit the row after it
  pub fit_read : AllFit chip row n new
  fit_read = record {
    many = same_many one.other ∙ good.many;
    sized = record {
      sizes = all_new one.other (λ c. chip.size c ≡ row.chip_size) good.sized.sizes (one.reads.size ∙ all_was one.other (λ c. chip.size c ≡ row.chip_size) good.sized.sizes);
      units = all_new one.other (λ c. chip.unit c ≡ row.unit) good.sized.units (one.reads.unit ∙ all_was one.other (λ c. chip.unit c ≡ row.unit) good.sized.units);
    };
    past = all_new one.other (λ c. chip.last c ≤ n) good.past (subst (λ (k : ℕ). k ≤ n) (sym one.reads.last) (all_was one.other (λ c. chip.last c ≤ n) good.past));
    honest = one.honest;
  }

  -- they tell their bytes as before
  pub tells_read : RowTells chip row n old → RowTells chip row n new
  tells_read tells = record { each = all_new one.other (λ c. chip.tells c) tells.each (one.reads.told (all_was one.other (λ c. chip.tells c) tells.each)); good = fit_read }

  -- and only then
  pub read_tells : RowTells chip row n new → RowTells chip row n old
  read_tells tells = record { each = all_old one.other (λ c. chip.tells c) tells.each (one.reads.told_before (all_is one.other (λ c. chip.tells c) tells.each)); good = good }

  -- all bytes stay
  pub same_bytes : flat_map (λ c. chip.bytes c) new ≡ flat_map (λ c. chip.bytes c) old
  same_bytes = new_parts one.other (λ c. chip.bytes c) ∙ ap (λ (l : List ℕ). flat_map (λ c. chip.bytes c) one.other.before ++ (l ++ flat_map (λ c. chip.bytes c) one.other.after)) one.reads.bytes ∙ sym (old_parts one.other (λ c. chip.bytes c))

  -- and what a cut may leave
  pub read_cuts : (t : ℕ) (image : List ℕ) (said : ℕ) → RowLeft chip n new t image said → RowLeft chip n old t image said
  read_cuts t image said left = (left.0, left.1, left.2, part_for chip one.other left.0 image (λ part. one.reads.cuts left.0 part) left.3, left.4)

  -- and all that
  pub read_kept : (t : ℕ) (image : List ℕ) (said : ℕ) → RowLeft chip n old t image said → RowLeft chip n new t image said
  read_kept t image said left = (left.0, left.1, left.2, part_for chip (turned chip one.other) left.0 image (λ part. one.reads.kept left.0 part) left.3, left.4)

  -- what was read is what stands there
  pub row_read : at + count ≤ row.chip_size → RowTells chip row n old → OnOk result (into ≡ slice_range (flat_map (λ c. chip.bytes c) old) (place * row.chip_size + at) (place * row.chip_size + at + count))
  row_read fits tells = on_ok result (λ read.
      (let long = (all_was one.other (λ c. ChipHonest chip c) good.honest).sized (all_was one.other (λ c. chip.tells c) tells.each) ∙ all_was one.other (λ c. chip.size c ≡ row.chip_size) good.sized.sizes in
      let here : length (flat_map (λ c. chip.bytes c) one.other.before) ≡ place * row.chip_size = all_sized chip row.chip_size one.other.before (all_front one.other (λ c. ChipHonest chip c) good.honest) (all_front one.other (λ c. chip.tells c) tells.each) (all_front one.other (λ c. chip.size c ≡ row.chip_size) good.sized.sizes) ∙ ap (λ (k : ℕ). k * row.chip_size) one.other.at_place in
      read
      ∙ sym (slice_parts (flat_map (λ c. chip.bytes c) one.other.before) (flat_map (λ c. chip.bytes c) one.other.after) (chip.bytes one.was) at count (omega (arith, long, fits)))
      ∙ ap (λ (k : ℕ). slice_range (flat_map (λ c. chip.bytes c) one.other.before ++ (chip.bytes one.was ++ flat_map (λ c. chip.bytes c) one.other.after)) (k + at) (k + at + count)) here
      ∙ ap (λ (l : List ℕ). slice_range l (place * row.chip_size + at) (place * row.chip_size + at + count)) (sym (old_parts one.other (λ c. chip.bytes c)))))
      (one.read (all_was one.other (λ c. chip.tells c) tells.each))

  -- a count of faults that rose in a read
  pub read_rose : Rose (chip.faults one.was) (chip.faults one.is) → ChipRose chip place old new
  read_rose rose = record { was = one.was; is = one.is; old_is = was_at one.other; new_is = is_at one.other; rose = rose }
