-- The least number of blocks.
use Rattle.std.proofs.Common.{◌≡◌, ℕ, ◌+◌, ◌-◌, ◌*◌, ◌/◌, ◌<◌, ◌≤◌, List, true, false, Option, Some, None, refl, sym, ◌∙◌, ap, arith, subst, ⊎_elim}
use Rattle.std.specs.Prelude.{nat_lt}
use Rattle.std.proofs.Math.Nat.{mul-le-mul_right, div-mul-le_self}
use Rattle.std.proofs.lemmas.Nat.{le-div}
use Rattle.std.proofs.lemmas.Bool.{cases_Bool, leb-true, le-leb, lt-leb, ltb-true, ltb-false, lt-ltb, le-ltb}
use Rattle.geometry.specs.declared.geometry.Geometry.{Geometry}
use Rattle.geometry.specs.Numbers.{ceil, per_block, entries, page_count, write_refusal}
use Rattle.geometry.proofs.Bounds.{entry_left, some_pages, few_pages}
use Rattle.image_laws.proofs.Serving.{ceil-enough}
use Rattle.folder_core.specs.Files.{Entry}
use Rattle.folder_plan.specs.declared.refusing.Refusal.{Refusal}
use Rattle.folder_plan.specs.declared.refusing.Refusal.TheVariants.{BadNames, Full}
use Rattle.folder_plan.specs.Refusals.{first_bad, index_sum, data_sum, make_refusal}
use Rattle.folder_size.specs.declared.told.Shape.{Shape}
use Rattle.folder_size.specs.declared.told.Need.TheVariants.{Blocks, TooMany}
use Rattle.folder_size.specs.Needs.{HasShape, written_refusal, IsLeast, IsBadName, IsNever, IsNeed, blocks_needed, most_blocks, need_by, need_for}
use Rattle.folder_size.proofs.Numbers.{kept, not_refused, per_block-is, entries-is, few_usable}
use Rattle.folder_size.proofs.Shapes.{index-same, data-same, entries-same, needs-same, Tells, tells, by_names, with_room, without_room}

-- ---- arithmetic

ceil-some : (a e : ℕ) → 0 < e → 1 ≤ ceil (a + 1) e
ceil-some a e some = le-div 1 (a + 1 + e - 1) e some (omega (arith, some))

-- four blocks are needed at least
pub four_needed : (g : Geometry) (index pages : ℕ) → 4 ≤ blocks_needed g index pages
four_needed g index pages = omega (arith, ceil-some index (entries g) (entry_left g), ceil-some pages (entries g) (entry_left g))

-- some blocks that the most pages allow
within_most : (n pages most : ℕ) → 0 < pages → n ≤ most / pages → n * pages ≤ most
within_most n pages most some less = omega (arith, mul-le-mul_right pages less, div-mul-le_self most pages)

-- a number of pages that is more than a volume can have
too_many : (a e n : ℕ) → 0 < e → 32766 < a → ceil (a + 1) e ≤ n → 32766 / e < n
too_many a e n some many less = ⊎_elim
    (λ (yes : nat_lt (32766 / e) n ≡ true). ltb-true (32766 / e) n yes)
    (λ (no : nat_lt (32766 / e) n ≡ false).
    let enough = ceil-enough (a + 1) e some in
    let all = mul-le-mul_right e less in
    let few = within_most n e 32766 some (ltb-false (32766 / e) n no) in
    absurd (omega (arith, enough, all, few, many)))
    (cases_Bool (nat_lt (32766 / e) n))

-- more index pages, or more data pages, than a volume can have
pub index_over : (g : Geometry) (index pages : ℕ) → 32766 < index → TooMany index pages ≡ need_by g index pages
unfolding need_by
index_over g index pages many =
    let over = too_many index (entries g) (blocks_needed g index pages) (entry_left g) many (omega arith) in
    rw (lt-ltb (most_blocks g) (blocks_needed g index pages) (omega (arith, over))) refl

pub data_over : (g : Geometry) (index pages : ℕ) → 32766 < pages → TooMany index pages ≡ need_by g index pages
unfolding need_by
data_over g index pages many =
    let over = too_many pages (entries g) (blocks_needed g index pages) (entry_left g) many (omega arith) in
    rw (lt-ltb (most_blocks g) (blocks_needed g index pages) (omega (arith, over))) refl

-- by how many are needed, and how many there can be
pub over_most : (g : Geometry) (index pages n most : ℕ) → n ≡ blocks_needed g index pages → most ≡ most_blocks g → most < n → TooMany index pages ≡ need_by g index pages
unfolding need_by
over_most g index pages n most n_is most_is less = rw (lt-ltb (most_blocks g) (blocks_needed g index pages) (omega (arith, n_is, most_is, less))) refl

pub in_most : (g : Geometry) (index pages n most : ℕ) → n ≡ blocks_needed g index pages → most ≡ most_blocks g → n ≤ most → Blocks n ≡ need_by g index pages
unfolding need_by
in_most g index pages n most n_is most_is less = rw (le-ltb (most_blocks g) (blocks_needed g index pages) (omega (arith, n_is, most_is, less))) (ap (λ (k : ℕ). Blocks k) n_is)

-- ---- a volume of a shape on which nothing stands against the names

module _ (h : Geometry) (shape : Shape) (files : List Entry) (hs : HasShape h shape) (fine : first_bad files ≡ None) where
  abbrev needed : ℕ
  needed = blocks_needed h (index_sum h files) (data_sum h files)

  enough : (g : Geometry) → HasShape g shape → needed ≤ g.blocks → make_refusal g files ≡ None
  enough g gs most = with_room g files fine (le-leb (blocks_needed g (index_sum g files) (data_sum g files)) g.blocks (omega (arith, needs-same g h shape files gs hs, most)))

  fewer : (g : Geometry) → HasShape g shape → g.blocks < needed → make_refusal g files ≡ Some (Full (index_sum g files) (data_sum g files))
  fewer g gs less = without_room g files fine (lt-leb (blocks_needed g (index_sum g files) (data_sum g files)) g.blocks (omega (arith, needs-same g h shape files gs hs, less)))

  pub least : (n : ℕ) → n ≡ needed → written_refusal shape n ≡ None → IsLeast shape files n
  least n is volume = record {
    is_volume = volume;
    enough = λ g gs most. enough g gs (omega (arith, is, most));
    fewer = λ g gs less. fewer g gs (omega (arith, is, less));
  }

  -- a volume that can be written has no more blocks than the most
  few_blocks : (g : Geometry) → HasShape g shape → write_refusal g ≡ None → g.blocks ≤ most_blocks h
  unfolding page_count
  few_blocks g gs written =
      let pages : per_block g ≡ per_block h = per_block-is g shape gs ∙ sym (per_block-is h shape hs) in
      let by_pages = le-div g.blocks 65535 (per_block g) (omega (arith, some_pages g)) (few_pages g) in
      let by_entries = le-div g.blocks 32766 (entries g) (entry_left g) (few_usable (g.blocks * entries g) g.blocks written) in
      let p : g.blocks ≤ 65535 / per_block h = subst (λ (n : ℕ). g.blocks ≤ 65535 / n) pages by_pages in
      let e : g.blocks ≤ 32766 / entries h = subst (λ (n : ℕ). g.blocks ≤ 32766 / n) (entries-same g h shape files gs hs) by_entries in
      omega (arith, p, e)

  never : written_refusal shape 4 ≡ None → most_blocks h < needed → IsNever shape files (index_sum h files) (data_sum h files)
  never four over = record {
    is_volume = four;
    refused = λ g gs written.
        fewer g gs (omega (arith, over, few_blocks g gs written))
        ∙ ap (λ (n : ℕ). Some (Full n (data_sum g files))) (index-same g h shape files gs hs)
        ∙ ap (λ (n : ℕ). Some (Full (index_sum h files) n)) (data-same g h shape files gs hs);
  }

  -- so many blocks make a volume of the shape, if four do
  volume_of : written_refusal shape 4 ≡ None → needed ≤ most_blocks h → written_refusal shape needed ≡ None
  volume_of four within =
      let w = kept shape 4 four in
      let pages : needed * per_block h ≤ 65535 = within_most needed (per_block h) 65535 (omega (arith, some_pages h)) (omega (arith, within)) in
      let entry_pages : needed * entries h ≤ 32766 = within_most needed (entries h) 32766 (entry_left h) (omega (arith, within)) in
      not_refused shape needed (record {
        page = w.page;
        block = w.block;
        few_pages = subst (λ (n : ℕ). needed * n ≤ 65535) (per_block-is h shape hs) pages;
        room = w.room;
        meta = w.meta;
        few_entries = subst (λ (n : ℕ). needed * n ≤ 32766) (entries-is h shape hs) entry_pages;
        some = four_needed h (index_sum h files) (data_sum h files);
      })

  by_need : written_refusal shape 4 ≡ None → IsNeed shape files (need_by h (index_sum h files) (data_sum h files))
  unfolding need_by
  by_need four = ⊎_elim
      (λ (over : nat_lt (most_blocks h) needed ≡ true). rw over (never four (ltb-true (most_blocks h) needed over)))
      (λ (within : nat_lt (most_blocks h) needed ≡ false). rw within (least needed refl (volume_of four (ltb-false (most_blocks h) needed within))))
      (cases_Bool (nat_lt (most_blocks h) needed))

-- ---- what a volume of four blocks is told

module _ (h : Geometry) (shape : Shape) (files : List Entry) (hs : HasShape h shape) (blocks : h.blocks ≡ 4) (four : written_refusal shape 4 ≡ None) where
  -- no refusal: four are enough
  four_enough : None ≡ make_refusal h files → IsLeast shape files 4
  four_enough is =
      let w = subst (Tells h files (first_bad files)) (sym is) (tells h files) in
      let most = leb-true (blocks_needed h (index_sum h files) (data_sum h files)) h.blocks w.1 in
      least h shape files hs w.0 4 (omega (arith, most, blocks, four_needed h (index_sum h files) (data_sum h files))) four

  -- a bad name
  bad_name : (at : ℕ) → Some (BadNames at) ≡ make_refusal h files → IsBadName shape files at
  bad_name at is = record {
    is_volume = four;
    refused = λ g gs. by_names g files at (subst (Tells h files (first_bad files)) (sym is) (tells h files));
  }

  -- want of room
  more_needed : (index pages : ℕ) → Some (Full index pages) ≡ make_refusal h files → IsNeed shape files (need_by h index pages)
  more_needed index pages is =
      let w = subst (Tells h files (first_bad files)) (sym is) (tells h files) in
      let at : need_by h index pages ≡ need_by h (index_sum h files) (data_sum h files) = ap (λ (n : ℕ). need_by h n pages) w.2 ∙ ap (λ (n : ℕ). need_by h (index_sum h files) n) w.3 in
      subst (IsNeed shape files) (sym at) (by_need h shape files hs w.0 four)

  pub needs : (why : Option Refusal) → why ≡ make_refusal h files → IsNeed shape files (need_for h why)
  needs None is = four_enough is
  needs (Some (BadNames at)) is = bad_name at is
  needs (Some (Full index pages)) is = more_needed index pages is
