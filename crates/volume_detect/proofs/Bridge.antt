-- The words of a file, and the magics of its blocks.
use Rattle.std.proofs.Common.{◌≡◌, ℕ, ◌+◌, ◌-◌, ◌*◌, ◌/◌, ◌%◌, ◌^◌, ◌<◌, ◌≤◌, ◌==◌, List, length, drop, slice_index, get_or-drop, refl, sym, ap, ◌∙◌, subst, arith}
use Rattle.std.proofs.Math.Nat.{mul-le-mul_right, mul_assoc, mul_comm}
use Rattle.geometry.specs.declared.geometry.Geometry.{Geometry}
use Rattle.geometry.specs.Rules.{lookups_in}
use Rattle.geometry.specs.Numbers.{lookups, slots, right_magic}
use Rattle.nor_core.specs.Flash.{word_at}
use Rattle.image_model.specs.Places.{has_magic, slot_of}
use Rattle.volume_detect.specs.Marks.{HasNoWideGap}
use Rattle.volume_detect.specs.Rows.{is_marked, word_of}
use Rattle.volume_detect.specs.Words.{HasWords, word_place}
use Rattle.volume_detect.specs.Spots.{word_class}
use Rattle.volume_detect.proofs.Sizes.{lookup_bytes, class_few, power_least}
use Rattle.volume_detect.proofs.Gaps.{gaps_by}

-- a word of the bytes from one on
word_in_rest : (file : List ℕ) (n x : ℕ) → word_at (drop n file) x ≡ word_at file (n + x)
word_in_rest file n x = ap (λ (k : ℕ). k + 256 * slice_index (drop n file) (x + 1)) (get_or-drop n file x 0) ∙ ap (λ (k : ℕ). slice_index file (n + x) + 256 * k) (get_or-drop n file (x + 1) 0 ∙ ap (slice_index file) (let e : n + (x + 1) ≡ n + x + 1 = omega arith in e))

-- which word of a file a magic is
which_word : (u n c : ℕ) → c < 6 → word_place (6 * u + c + 6 * n) ≡ 4096 * (u + n) + 128 * 2 ^ c - 4
which_word u n c low =
    let whole : (6 * u + c + 6 * n) / 6 ≡ u + n = omega arith in
    let rest : (6 * u + c + 6 * n) % 6 ≡ c = omega arith in
    rw (whole, rest) refl

module _ (file words : List ℕ) (u i j : ℕ) (g : Geometry) (has : HasWords file words) (low : i < 6) (low' : j < 7) (page : g.page ≡ 128 * 2 ^ i) (block : g.block ≡ 4096 * 2 ^ j) where
  -- the magic of a block begins there
  magic_byte : 2 * (slots g - 2) ≡ 128 * 2 ^ word_class j i - 4
  unfolding lookups
  magic_byte =
      let bytes : lookups_in g.page g.block * g.page ≡ 128 * 2 ^ word_class j i = subst (λ (x : ℕ). lookups_in x g.block * x ≡ 128 * 2 ^ word_class j i) (sym page) (subst (λ (y : ℕ). lookups_in (128 * 2 ^ i) y * (128 * 2 ^ i) ≡ 128 * 2 ^ word_class j i) (sym block) (lookup_bytes i j low low')) in
      omega (arith, bytes)

  -- A block has its magic where the word that may be it is the right one.
  pub marked_is : (b : ℕ) → 4096 * u + (b + 1) * g.block ≤ length file → is_marked words (6 * u + word_class j i) (6 * 2 ^ j) g b ≡ has_magic g (drop (4096 * u) file) b
  unfolding has_magic slot_of
  marked_is b fits =
      let n : ℕ = 2 ^ j * b in
      let c : ℕ = word_class j i in
      let few : c < 6 = class_few i j low low' in
      let steps : 6 * 2 ^ j * b ≡ 6 * n = mul_assoc 6 (2 ^ j) b in
      let bytes : b * g.block ≡ 4096 * n = ap (λ (x : ℕ). b * x) block ∙ mul_comm b (4096 * 2 ^ j) ∙ mul_assoc 4096 (2 ^ j) b in
      let next : (b + 1) * g.block ≡ b * g.block + g.block = omega arith in
      let least : 1 ≤ 2 ^ j = power_least j low' in
      let inside : u + n + 1 ≤ length file / 4096 = omega (arith, fits, next, bytes, block, least) in
      let below : 6 * u + c + 6 * n < 6 * (length file / 4096) = omega (arith, inside, few) in
      let read : word_of words (6 * u + c + 6 * n) ≡ word_at file (4096 * (u + n) + 128 * 2 ^ c - 4) = has.word (6 * u + c + 6 * n) below ∙ ap (λ (x : ℕ). word_at file x) (which_word u n c few) in
      let at : 4096 * u + (b * g.block + 2 * (slots g - 2)) ≡ 4096 * (u + n) + 128 * 2 ^ c - 4 = (let one : 1 ≤ 2 ^ c = power_least c (omega (arith, few)) in omega (arith, bytes, magic_byte, one)) in
      let there : word_at (drop (4096 * u) file) (b * g.block + 2 * (slots g - 2)) ≡ word_at file (4096 * (u + n) + 128 * 2 ^ c - 4) = word_in_rest file (4096 * u) (b * g.block + 2 * (slots g - 2)) ∙ ap (λ (x : ℕ). word_at file x) at in
      let same : word_of words (6 * u + c + 6 * 2 ^ j * b) ≡ word_at (drop (4096 * u) file) (b * g.block + 2 * (slots g - 2)) = ap (λ (x : ℕ). word_of words (6 * u + c + x)) steps ∙ read ∙ sym there in
      ap (λ (x : ℕ). x == right_magic g b) same

  -- a block of a volume that fits lies in the file
  block_fits : (b : ℕ) → 4096 * u + g.blocks * g.block ≤ length file → b < g.blocks → 4096 * u + (b + 1) * g.block ≤ length file
  block_fits b fits below = let most : (b + 1) * g.block ≤ g.blocks * g.block = mul-le-mul_right g.block (omega arith) in omega (arith, fits, most)

  -- no gap is too wide
  pub gaps_from_words : (widest : ℕ) → 4096 * u + g.blocks * g.block ≤ length file → HasNoWideGap (is_marked words (6 * u + word_class j i) (6 * 2 ^ j) g) widest g.blocks → HasNoWideGap (has_magic g (drop (4096 * u) file)) widest g.blocks
  gaps_from_words widest fits gaps = gaps_by (is_marked words (6 * u + word_class j i) (6 * 2 ^ j) g) (has_magic g (drop (4096 * u) file)) widest g.blocks (λ b below. marked_is b (block_fits b fits below)) gaps

  pub words_from_gaps : (widest : ℕ) → 4096 * u + g.blocks * g.block ≤ length file → HasNoWideGap (has_magic g (drop (4096 * u) file)) widest g.blocks → HasNoWideGap (is_marked words (6 * u + word_class j i) (6 * 2 ^ j) g) widest g.blocks
  words_from_gaps widest fits gaps = gaps_by (has_magic g (drop (4096 * u) file)) (is_marked words (6 * u + word_class j i) (6 * 2 ^ j) g) widest g.blocks (λ b below. sym (marked_is b (block_fits b fits below))) gaps
