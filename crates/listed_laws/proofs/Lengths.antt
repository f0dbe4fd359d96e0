-- Two candidates at one place have the same number of blocks.
use Rattle.std.proofs.Common.{◌≡◌, ℕ, ◌-◌, ◌+◌, ◌*◌, ◌/◌, ◌<◌, ◌≤◌, Bool, true, false, List, drop, bit_xor, refl, sym, ap, ◌∙◌, subst, arith, ⊎_elim}
use Rattle.std.proofs.lemmas.Bool.{cases_Bool, eqb-true, true_from_ne_false}
use Rattle.geometry.specs.declared.geometry.Geometry.{Geometry}
use Rattle.geometry.specs.declared.magic.MagicKind.{MagicKind}
use Rattle.geometry.specs.declared.magic.MagicKind.TheVariants.{Plain, Length}
use Rattle.geometry.specs.Rules.{lookups_in}
use Rattle.geometry.specs.Numbers.{lookups, right_magic, length_mark}
use Rattle.nor_core.specs.Flash.{word_at}
use Rattle.image_model.specs.Places.{has_magic, slot_of}
use Rattle.volume_detect.specs.Candidates.{SameBlocks}
use Rattle.volume_detect.specs.Places.{IsFoundAt, byte_of}
use Rattle.volume_detect.specs.Marks.{failing, most_failing}
use Rattle.volume_detect.proofs.Gaps.{one_fails}
use Rattle.volume_detect.proofs.Magics.{same_distance}

-- the word of an image that may be the magic of a block
abbrev magic_word : (page block : ℕ) → List ℕ → ℕ → ℕ
magic_word page block image b = word_at image (b * block + 2 * (lookups_in page block * page / 2 - 2))

-- where the block has its magic it is the right one
word_is : (g : Geometry) (image : List ℕ) (b : ℕ) → has_magic g image b ≡ true → magic_word g.page g.block image b ≡ right_magic g b
unfolding has_magic slot_of lookups
word_is g image b has = eqb-true _ _ has

-- and tells how many blocks there are to the end
word_tells : (g : Geometry) (image : List ℕ) (b page block : ℕ) → g.page ≡ page → g.block ≡ block → g.magic ≡ Length → has_magic g image b ≡ true →
    magic_word page block image b ≡ bit_xor (bit_xor 0x0529 page) (g.blocks - b)
word_tells g image b page block page_is block_is kind has =
    ap (λ (x : ℕ). magic_word x block image b) (sym page_is)
    ∙ ap (λ (y : ℕ). magic_word g.page y image b) (sym block_is)
    ∙ word_is g image b has
    ∙ ap (λ (x : ℕ). bit_xor (bit_xor 0x0529 x) (length_mark g.magic g.blocks b)) page_is
    ∙ ap (λ (m : MagicKind). bit_xor (bit_xor 0x0529 page) (length_mark m g.blocks b)) kind

module _ (file : List ℕ) (place : ℕ) (g h : Geometry) (found : IsFoundAt file place g) (found' : IsFoundAt file place h) where
  -- the numbers of one are those of the other
  same : (a b : Geometry) → IsFoundAt file place a → IsFoundAt file place b → SameBlocks a b
  same a b is is' = record {
    page = is'.numbers.page ∙ sym is.numbers.page;
    block = is'.numbers.block ∙ sym is.numbers.block;
    phys = is'.numbers.phys ∙ sym is.numbers.phys;
    meta = is'.numbers.meta ∙ sym is.numbers.meta;
    magic = is'.numbers.magic ∙ sym is.numbers.magic;
  }

  -- none is longer than one that is longest
  no_longer : (a b : Geometry) → IsFoundAt file place a → IsFoundAt file place b → a.magic ≡ Plain → b.magic ≡ Plain → b.blocks ≤ a.blocks
  no_longer a b is is' plain plain' = (is.candidate.longest plain).most b (same a b is is') is'.candidate.row (is'.candidate.longest plain').last

  by_plain : g.magic ≡ Plain → h.blocks ≡ g.blocks
  by_plain plain =
      let plain' : h.magic ≡ Plain = (same g h found found').magic ∙ plain in
      let le : h.blocks ≤ g.blocks = no_longer g h found found' plain plain' in
      let ge : g.blocks ≤ h.blocks = no_longer h g found' found plain' plain in
      omega (arith, le, ge)

  -- a block with the magic of both tells the length
  by_block : (b : ℕ) → b < 3 → g.magic ≡ Length → has_magic g (drop (byte_of place) file) b ≡ true → has_magic h (drop (byte_of place) file) b ≡ true → h.blocks ≡ g.blocks
  by_block b low kind has has' =
      let image : List ℕ = drop (byte_of place) file in
      let three : 3 ≤ g.blocks = g.valid.some_blocks in
      let three' : 3 ≤ h.blocks = h.valid.some_blocks in
      let like : SameBlocks g h = same g h found found' in
      let tells : magic_word g.page g.block image b ≡ bit_xor (bit_xor 0x0529 g.page) (g.blocks - b) = word_tells g image b g.page g.block refl refl kind has in
      let tells' : magic_word g.page g.block image b ≡ bit_xor (bit_xor 0x0529 g.page) (h.blocks - b) = word_tells h image b g.page g.block like.page like.block (like.magic ∙ kind) has' in
      let distance : h.blocks - b ≡ g.blocks - b = same_distance (bit_xor 0x0529 g.page) (h.blocks - b) (g.blocks - b) (sym tells' ∙ tells) in
      omega (arith, distance, low, three, three')

  -- where the first lacks it the second has it
  second_has : (a : Geometry) → IsFoundAt file place a → has_magic a (drop (byte_of place) file) 0 ≡ false → has_magic a (drop (byte_of place) file) 1 ≡ true
  second_has a is lacks =
      let good : ℕ → Bool = has_magic a (drop (byte_of place) file) in
      let three : 3 ≤ a.blocks = a.valid.some_blocks in
      let few : failing good a.blocks ≤ 1 = subst (λ (has : Bool). failing good a.blocks ≤ most_failing a.magic has a.blocks) lacks is.candidate.row.marks.few in
      true_from_ne_false _ (λ lacks'. let one : 0 ≡ 1 = one_fails good a.blocks few 0 1 (omega (arith, three)) (omega (arith, three)) lacks lacks' in absurd (omega (arith, one)))

  -- the first blocks have it, or the second ones
  by_length : g.magic ≡ Length → h.blocks ≡ g.blocks
  by_length kind =
      let image : List ℕ = drop (byte_of place) file in
      let kind' : h.magic ≡ Length = (same g h found found').magic ∙ kind in
      ⊎_elim
      (λ (has : has_magic g image 0 ≡ true). ⊎_elim
      (λ (has' : has_magic h image 0 ≡ true). by_block 0 (omega arith) kind has has')
      (λ (lacks' : has_magic h image 0 ≡ false). absurd (found'.candidate.told kind' lacks' g (same h g found' found) found.candidate.row has))
      (cases_Bool (has_magic h image 0)))
      (λ (lacks : has_magic g image 0 ≡ false). ⊎_elim
      (λ (has' : has_magic h image 0 ≡ true). absurd (found.candidate.told kind lacks h (same g h found found') found'.candidate.row has'))
      (λ (lacks' : has_magic h image 0 ≡ false). by_block 1 (omega arith) kind (second_has g found lacks) (second_has h found' lacks'))
      (cases_Bool (has_magic h image 0)))
      (cases_Bool (has_magic g image 0))

  by_kind : (kind : MagicKind) → g.magic ≡ kind → h.blocks ≡ g.blocks
  by_kind Plain is = by_plain is
  by_kind Length is = by_length is

  pub one_length : h.blocks ≡ g.blocks
  one_length = by_kind g.magic refl
