-- What the words of a row tell.
use Rattle.std.proofs.Common.{◌≡◌, ℕ, ◌+◌, ◌-◌, ◌*◌, ◌/◌, ◌<◌, ◌≤◌, ◌==◌, min, Bool, true, false, List, Option, Some, None, IfSome, bit_xor, ⊎_elim, refl, sym, ap, ◌∙◌, subst, arith}
use Rattle.std.specs.Int.Bits.{xor_zero_r}
use Rattle.std.proofs.Math.Nat.{le-div_iff_mul-le}
use Rattle.std.proofs.lemmas.Bool.{cases_Bool, cases_lt, eqb-true, eq-eqb, true_from_ne_false, both_ways}
use Rattle.geometry.specs.declared.geometry.Geometry.{Geometry}
use Rattle.geometry.specs.declared.magic.MagicKind.{MagicKind}
use Rattle.geometry.specs.declared.magic.MagicKind.TheVariants.{Plain, Length}
use Rattle.geometry.specs.Rules.{pages_in}
use Rattle.geometry.specs.Numbers.{IsOf, right_magic, length_mark}
use Rattle.volume_detect.specs.Marks.{failing, most_failing, IsMarkedRow}
use Rattle.volume_detect.specs.Rows.{is_marked, is_equal, word_of, LongestRow}
use Rattle.volume_detect.specs.Told.{IsIn, IsRowOf, EndsMarked, TellsLength, TellsPlain, TellsBy, Tells}
use Rattle.volume_detect.specs.Volumes.{NoVolume}
use Rattle.volume_detect.proofs.Gaps.{row_by, one_fails}
use Rattle.volume_detect.proofs.Magics.{told_back, told_again}
use Rattle.volume_detect.proofs.Refused.{with_blocks}

-- the right magic of each kind
plain_right : (g : Geometry) (page b : ℕ) → g.page ≡ page → g.magic ≡ Plain → right_magic g b ≡ bit_xor 0x0529 page
plain_right g page b page_is kind =
    ap (λ (x : ℕ). bit_xor (bit_xor 0x0529 x) (length_mark g.magic g.blocks b)) page_is
    ∙ ap (λ (m : MagicKind). bit_xor (bit_xor 0x0529 page) (length_mark m g.blocks b)) kind
    ∙ xor_zero_r (bit_xor 0x0529 page)

length_right : (g : Geometry) (page b : ℕ) → g.page ≡ page → g.magic ≡ Length → right_magic g b ≡ bit_xor (bit_xor 0x0529 page) (g.blocks - b)
length_right g page b page_is kind =
    ap (λ (x : ℕ). bit_xor (bit_xor 0x0529 x) (length_mark g.magic g.blocks b)) page_is
    ∙ ap (λ (m : MagicKind). bit_xor (bit_xor 0x0529 page) (length_mark m g.blocks b)) kind

apart : (a b : ℕ) → a < b → a ≡ b → ⊥
apart a b less e = absurd (omega (arith, less, e))

module _ (words : List ℕ) (first step page block room : ℕ) where
  -- a block by the plain magic
  plain_marked : (g : Geometry) (b : ℕ) → g.page ≡ page → g.magic ≡ Plain → is_marked words first step g b ≡ is_equal words first step (bit_xor 0x0529 page) b
  plain_marked g b page_is kind = ap (λ (x : ℕ). word_of words (first + step * b) == x) (plain_right g page b page_is kind)

  -- no more blocks than the rules take
  most_pages : (h : Geometry) → h.page ≡ page → h.block ≡ block → h.blocks ≤ 65535 / (block / page)
  most_pages h page_is block_is =
      let few : h.blocks * pages_in page block ≤ 65535 = subst (λ (x : ℕ). h.blocks * pages_in x block ≤ 65535) page_is (subst (λ (y : ℕ). h.blocks * pages_in h.page y ≤ 65535) block_is h.valid.few_pages) in
      let some : 2 ≤ block / page = subst (λ (x : ℕ). 2 ≤ block / x) page_is (subst (λ (y : ℕ). 2 ≤ y / h.page) block_is h.valid.some_pages) in
      (le-div_iff_mul-le {k = block / page} {x = h.blocks} {y = 65535} (omega (arith, some))).1 few

  -- a row that ends with a block with its magic is no longer than the longest
  no_longer : (n : ℕ) (h : Geometry) → LongestRow (is_equal words first step (bit_xor 0x0529 page)) (min room (65535 / (block / page))) n → IsIn page block room Plain h → EndsMarked words first step h → h.blocks ≤ n
  no_longer n h longest is ends = ⊎_elim
      (λ (more : n < h.blocks). absurd (longest.longest h.blocks more (omega (arith, is.fits, most_pages h is.page_is is.block_is))
      (sym (plain_marked h (h.blocks - 1) is.page_is is.magic_is) ∙ ends.last)
      (row_by (is_marked words first step h) (is_equal words first step (bit_xor 0x0529 page)) Plain h.blocks (omega (arith, more)) (λ b low. plain_marked h b is.page_is is.magic_is)
      (subst (λ (m : MagicKind). IsMarkedRow (is_marked words first step h) m h.blocks) is.magic_is ends.row))))
      (λ (le : h.blocks ≤ n). le)
      (cases_lt n h.blocks)

  -- the longest row is the volume, where the rules take it
  pub plain_tells : (n : ℕ) (o : Option Geometry) → LongestRow (is_equal words first step (bit_xor 0x0529 page)) (min room (65535 / (block / page))) n → IfSome o (λ g. IsOf g page block n block 0 Plain) → (o ≡ None → NoVolume page block n) → TellsPlain words first step page block room o
  plain_tells n (Some g) longest is none =
      let some : 0 < n = (let three : 3 ≤ g.blocks = g.valid.some_blocks in omega (arith, is.blocks_is, three)) in (
        record { page_is = is.page_is; block_is = is.block_is; phys_is = is.phys_is; magic_is = is.magic_is; fits = omega (arith, is.blocks_is, longest.few) },
        is.meta_is,
        record {
          last = plain_marked g (g.blocks - 1) is.page_is is.magic_is ∙ ap (λ (x : ℕ). is_equal words first step (bit_xor 0x0529 page) (x - 1)) is.blocks_is ∙ longest.last some;
          row = subst (λ (m : MagicKind). IsMarkedRow (is_marked words first step g) m g.blocks) (sym is.magic_is) (subst (λ (x : ℕ). IsMarkedRow (is_marked words first step g) Plain x) (sym is.blocks_is)
              (row_by (is_equal words first step (bit_xor 0x0529 page)) (is_marked words first step g) Plain n some (λ b low. sym (plain_marked g b is.page_is is.magic_is)) longest.row));
        },
        λ h is_in ends. let le : h.blocks ≤ n = no_longer n h longest is_in ends in omega (arith, le, is.blocks_is),
      )
  plain_tells n None longest is none = λ h is_in ends.
      let le : h.blocks ≤ n = no_longer n h longest is_in ends in
      let three : 3 ≤ h.blocks = h.valid.some_blocks in
      let some : 2 ≤ block / page = subst (λ (x : ℕ). 2 ≤ block / x) is_in.page_is (subst (λ (y : ℕ). 2 ≤ y / h.page) is_in.block_is h.valid.some_pages) in
      let few : n * (block / page) ≤ 65535 = (le-div_iff_mul-le {k = block / page} {x = n} {y = 65535} (omega (arith, some))).0 (omega (arith, longest.few)) in
      let few' : n * pages_in h.page h.block ≤ 65535 = subst (λ (x : ℕ). n * pages_in x h.block ≤ 65535) (sym is_in.page_is) (subst (λ (y : ℕ). n * pages_in page y ≤ 65535) (sym is_in.block_is) few) in
      let w = with_blocks h n (omega (arith, le, three)) few' in
      none refl w.0 (w.1.page ∙ is_in.page_is) (w.1.block ∙ is_in.block_is) w.2 (w.1.phys ∙ is_in.phys_is)

  -- two volumes of the same numbers have the same magics
  same_marks : (g h : Geometry) (b : ℕ) → IsIn page block room Length g → IsIn page block room Length h → h.blocks ≡ g.blocks → is_marked words first step h b ≡ is_marked words first step g b
  same_marks g h b is is' blocks =
      let right : right_magic h b ≡ right_magic g b = length_right h page b is'.page_is is'.magic_is ∙ ap (λ (n : ℕ). bit_xor (bit_xor 0x0529 page) (n - b)) blocks ∙ sym (length_right g page b is.page_is is.magic_is) in
      ap (λ (x : ℕ). word_of words (first + step * b) == x) right

  -- so one is a row where the other is
  row_as : (g h : Geometry) → IsIn page block room Length g → IsIn page block room Length h → h.blocks ≡ g.blocks → IsRowOf words first step h → IsRowOf words first step g
  row_as g h is is' blocks row =
      let three : 3 ≤ h.blocks = h.valid.some_blocks in
      let there : IsMarkedRow (is_marked words first step g) h.magic h.blocks =
      row_by (is_marked words first step h) (is_marked words first step g) h.magic h.blocks (omega (arith, three)) (λ b low. same_marks g h b is is' blocks) row in
      subst (λ (m : MagicKind). IsMarkedRow (is_marked words first step g) m g.blocks) (is'.magic_is ∙ sym is.magic_is) (subst (λ (n : ℕ). IsMarkedRow (is_marked words first step g) h.magic n) blocks there)

  -- numbers that no volume has
  pub by_none : (blocks : ℕ) → NoVolume page block blocks → TellsBy words first step page block room blocks None
  by_none blocks none h is same row = none h is.page_is is.block_is same is.phys_is

  pub by_many : (blocks : ℕ) → room < blocks → TellsBy words first step page block room blocks None
  by_many blocks many h is same row = omega (arith, is.fits, same, many)

  of_is_in : (blocks : ℕ) (g : Geometry) → IsOf g page block blocks block 0 Length → blocks ≤ room → IsIn page block room Length g
  of_is_in blocks g is fits = record { page_is = is.page_is; block_is = is.block_is; phys_is = is.phys_is; magic_is = is.magic_is; fits = omega (arith, is.blocks_is, fits) }

  pub by_row : (blocks : ℕ) (g : Geometry) → IsOf g page block blocks block 0 Length → blocks ≤ room → IsRowOf words first step g → TellsBy words first step page block room blocks (Some g)
  by_row blocks g is fits row = (of_is_in blocks g is fits, is.meta_is, is.blocks_is, row)

  pub by_no_row : (blocks : ℕ) (g : Geometry) → IsOf g page block blocks block 0 Length → blocks ≤ room → (IsRowOf words first step g → ⊥) → TellsBy words first step page block room blocks None
  by_no_row blocks g is fits none h is_in same row = none (row_as g h (of_is_in blocks g is fits) is_in (same ∙ sym is.blocks_is) row)

  -- what a block with its magic tells
  tells : (h : Geometry) (b : ℕ) → IsIn page block room Length h → is_marked words first step h b ≡ true → bit_xor (word_of words (first + step * b)) (bit_xor 0x0529 page) ≡ h.blocks - b
  tells h b is has = ap (λ (x : ℕ). bit_xor x (bit_xor 0x0529 page)) (eqb-true _ _ has ∙ length_right h page b is.page_is is.magic_is) ∙ told_back (bit_xor 0x0529 page) (h.blocks - b)

  -- the first block tells how many there are
  first_says : (h : Geometry) → IsIn page block room Length h → is_marked words first step h 0 ≡ true → bit_xor (word_of words first) (bit_xor 0x0529 page) ≡ h.blocks
  first_says h is has =
      let at : first + step * 0 ≡ first = omega arith in
      ap (λ (x : ℕ). bit_xor (word_of words x) (bit_xor 0x0529 page)) (sym at) ∙ tells h 0 is has ∙ (let e : h.blocks - 0 ≡ h.blocks = omega arith in e)

  -- where it lacks its magic the second does
  second_says : (h : Geometry) → IsIn page block room Length h → IsRowOf words first step h → is_marked words first step h 0 ≡ false → bit_xor (word_of words (first + step)) (bit_xor 0x0529 page) + 1 ≡ h.blocks
  second_says h is row lacks =
      let three : 3 ≤ h.blocks = h.valid.some_blocks in
      let few : failing (is_marked words first step h) h.blocks ≤ 1 = subst (λ (has : Bool). failing (is_marked words first step h) h.blocks ≤ most_failing h.magic has h.blocks) lacks row.few in
      let next : is_marked words first step h 1 ≡ true = true_from_ne_false _ (λ lacks'. let same : 0 ≡ 1 = one_fails (is_marked words first step h) h.blocks few 0 1 (omega (arith, three)) (omega (arith, three)) lacks lacks' in absurd (omega (arith, same))) in
      let at : first + step * 1 ≡ first + step = omega arith in
      let told : bit_xor (word_of words (first + step)) (bit_xor 0x0529 page) ≡ h.blocks - 1 = ap (λ (x : ℕ). bit_xor (word_of words x) (bit_xor 0x0529 page)) (sym at) ∙ tells h 1 is next in
      omega (arith, told, three)

  -- where there are as many as the first tells it has its magic
  first_marked : (n : ℕ) (g : Geometry) → n ≡ bit_xor (word_of words first) (bit_xor 0x0529 page) → IsIn page block room Length g → g.blocks ≡ n → is_marked words first step g 0 ≡ true
  first_marked n g is is_in blocks =
      let at : first + step * 0 ≡ first = omega arith in
      let many : g.blocks - 0 ≡ n = omega (arith, blocks) in
      let right : right_magic g 0 ≡ word_of words first = length_right g page 0 is_in.page_is is_in.magic_is ∙ ap (λ (x : ℕ). bit_xor (bit_xor 0x0529 page) x) (many ∙ is) ∙ told_again (bit_xor 0x0529 page) (word_of words first) in
      eq-eqb _ _ (ap (word_of words) at ∙ sym right)

  -- the volume of the number that the first block tells
  pub first_tells : (n : ℕ) (g : Geometry) → n ≡ bit_xor (word_of words first) (bit_xor 0x0529 page) → TellsBy words first step page block room n (Some g) → TellsLength words first step page block room (Some g)
  first_tells n g is by =
      let here : is_marked words first step g 0 ≡ true = first_marked n g is by.0 by.2 in (
        by.0,
        by.1,
        by.3,
        λ lacks h is_in bare row marked. both_ways _ lacks here,
        λ h is_in row told. ⊎_elim
            (λ (yes : is_marked words first step h 0 ≡ true). sym (first_says h is_in yes) ∙ sym is ∙ sym by.2)
            (λ (no : is_marked words first step h 0 ≡ false). absurd (told no g by.0 by.1 by.3 here))
            (cases_Bool (is_marked words first step h 0)),
      )

  -- or of that which the second tells
  pub second_tells : (n m : ℕ) (o : Option Geometry) → n ≡ bit_xor (word_of words first) (bit_xor 0x0529 page) → m ≡ bit_xor (word_of words (first + step)) (bit_xor 0x0529 page) + 1 → TellsBy words first step page block room n None → TellsBy words first step page block room m o → TellsLength words first step page block room o
  second_tells n m (Some g) is is' none by = (
    by.0,
    by.1,
    by.3,
    λ lacks h is_in bare row marked. none h is_in (sym (first_says h is_in marked) ∙ sym is) row,
    λ h is_in row told. ⊎_elim
        (λ (yes : is_marked words first step h 0 ≡ true). absurd (none h is_in (sym (first_says h is_in yes) ∙ sym is) row))
        (λ (no : is_marked words first step h 0 ≡ false). sym (second_says h is_in row no) ∙ sym is' ∙ sym by.2)
        (cases_Bool (is_marked words first step h 0)),
  )
  second_tells n m None is is' none none' = λ h is_in row. ⊎_elim
      (λ (yes : is_marked words first step h 0 ≡ true). none h is_in (sym (first_says h is_in yes) ∙ sym is) row)
      (λ (no : is_marked words first step h 0 ≡ false). none' h is_in (sym (second_says h is_in row no) ∙ sym is') row)
      (cases_Bool (is_marked words first step h 0))

  -- there is no room for three blocks
  pub no_room : room < 3 → TellsLength words first step page block room None
  no_room less h is row = let three : 3 ≤ h.blocks = h.valid.some_blocks in omega (arith, is.fits, three, less)

  -- the numbers of what is told
  pub told_in : (kind : MagicKind) (g : Geometry) → Tells words first step page block room kind (Some g) → IsIn page block room kind g × (g.meta ≡ 0)
  told_in Plain g tells = (tells.0, tells.1)
  told_in Length g tells = (tells.0, tells.1)
