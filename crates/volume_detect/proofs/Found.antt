-- What stands at a place, by the words of a file.
use Rattle.std.proofs.Common.{◌≡◌, ℕ, ◌+◌, ◌-◌, ◌*◌, ◌/◌, ◌%◌, ◌^◌, ◌<◌, ◌≤◌, true, List, length, drop, Option, Some, None, sym, ap, ◌∙◌, subst, arith}
use Rattle.std.proofs.Math.Nat.{le-div_iff_mul-le, mul-le-mul_right}
use Rattle.geometry.specs.declared.geometry.Geometry.{Geometry}
use Rattle.geometry.specs.declared.magic.MagicKind.{MagicKind}
use Rattle.geometry.specs.declared.magic.MagicKind.TheVariants.{Plain, Length}
use Rattle.geometry.proofs.Geometries.{same_numbers}
use Rattle.image_model.specs.Places.{has_magic}
use Rattle.volume_detect.specs.Candidates.{IsRow, SameBlocks, IsRest, IsLongest, IsTold}
use Rattle.volume_detect.specs.Marks.{HasNoWideGap, widest_gap, IsMarkedRow}
use Rattle.volume_detect.specs.Places.{unit_of, block_power, page_power, kind_of, byte_of, block_bytes, page_bytes, IsFoundAt, FoundAt, place_count}
use Rattle.volume_detect.specs.Rows.{is_marked}
use Rattle.volume_detect.specs.Spots.{IsSpot, word_class}
use Rattle.volume_detect.specs.Rests.{IsRestBy, IsNearRest}
use Rattle.volume_detect.specs.Told.{IsIn, IsRowOf, IsToldBy, EndsMarked, Tells}
use Rattle.volume_detect.specs.Words.{HasWords}
use Rattle.volume_detect.specs.declared.spot.Spot.{Spot}
use Rattle.volume_detect.proofs.Bridge.{marked_is, gaps_from_words, words_from_gaps}
use Rattle.volume_detect.proofs.Gaps.{row_by}
use Rattle.volume_detect.proofs.Longer.{near_rest}
use Rattle.volume_detect.proofs.Sizes.{power_least, class_few}

-- the first word of a row at a place, how many there are from a block to the next, and how many blocks there is room for
abbrev pub first_of : ℕ → ℕ
first_of place = 6 * unit_of place + word_class (block_power place) (page_power place)

abbrev pub step_of : ℕ → ℕ
step_of place = 6 * 2 ^ block_power place

abbrev pub room_of : (place units : ℕ) → ℕ
room_of place units = (units - unit_of place) / 2 ^ block_power place

-- what the words tell of a place, and rests there, by its number
pub tells_by : (words : List ℕ) (place units : ℕ) (s : Spot) → IsSpot place units s → (o : Option Geometry) → Tells words s.first s.step s.page s.block s.room s.magic o → Tells words (first_of place) (step_of place) (page_bytes place) (block_bytes place) (room_of place units) s.magic o
tells_by words place units s spot o tells =
    subst (λ (x : ℕ). Tells words x (step_of place) (page_bytes place) (block_bytes place) (room_of place units) s.magic o) spot.first
    (subst (λ (x : ℕ). Tells words s.first x (page_bytes place) (block_bytes place) (room_of place units) s.magic o) spot.step
    (subst (λ (x : ℕ). Tells words s.first s.step x (block_bytes place) (room_of place units) s.magic o) spot.page
    (subst (λ (x : ℕ). Tells words s.first s.step s.page x (room_of place units) s.magic o) spot.block
    (subst (λ (x : ℕ). Tells words s.first s.step s.page s.block x s.magic o) spot.room tells))))

pub rest_by : (words : List ℕ) (place units : ℕ) (s : Spot) → IsSpot place units s → (g : Geometry) → IsNearRest words s.first s.step g → IsNearRest words (first_of place) (step_of place) g
rest_by words place units s spot g rest =
    subst (λ (x : ℕ). IsNearRest words x (step_of place) g) spot.first (subst (λ (x : ℕ). IsNearRest words s.first x g) spot.step rest)

pub rest_back : (words : List ℕ) (place units : ℕ) (s : Spot) → IsSpot place units s → (g : Geometry) → IsNearRest words (first_of place) (step_of place) g → IsNearRest words s.first s.step g
rest_back words place units s spot g rest =
    subst (λ (x : ℕ). IsNearRest words x s.step g) (sym spot.first) (subst (λ (x : ℕ). IsNearRest words (first_of place) x g) (sym spot.step) rest)

-- the word of a block for which there is room is one of the words
pub word_inside : (place units b : ℕ) → place < 84 * units → b < room_of place units → first_of place + step_of place * b < 6 * units
word_inside place units b inside low =
    let j : ℕ = block_power place in
    let least : 1 ≤ 2 ^ j = power_least j (omega arith) in
    let next : b + 1 ≤ (units - unit_of place) / 2 ^ j = omega (arith, low) in
    let fits : (b + 1) * 2 ^ j ≤ units - unit_of place = (le-div_iff_mul-le {k = 2 ^ j} {x = b + 1} {y = units - unit_of place} (omega (arith, least))).0 next in
    let parts : (b + 1) * 2 ^ j ≡ 2 ^ j * b + 2 ^ j = parted b (2 ^ j) in
    let steps : 6 * 2 ^ j * b ≡ 6 * (2 ^ j * b) = regroup (2 ^ j) b in
    let few : word_class j (page_power place) < 6 = class_few (page_power place) j (omega arith) (omega arith) in
    omega (arith, fits, parts, steps, few, least, inside) where
      parted : (a c : ℕ) → (a + 1) * c ≡ c * a + c
      parted a c = omega arith

      regroup : (a c : ℕ) → 6 * a * c ≡ 6 * (a * c)
      regroup a c = omega arith

pub bytes_inside : (words : List ℕ) (place units : ℕ) (s : Spot) → IsSpot place units s → length words ≡ 12 * units → place < 84 * units → (b : ℕ) → b < s.room → 2 * (s.first + s.step * b) + 2 ≤ length words
bytes_inside words place units s spot all inside b low =
    let word : first_of place + step_of place * b < 6 * units = word_inside place units b inside (omega (arith, low, spot.room)) in
    let at : s.first + s.step * b ≡ first_of place + step_of place * b = ap (λ (x : ℕ). x + s.step * b) spot.first ∙ ap (λ (x : ℕ). first_of place + x * b) spot.step in
    omega (arith, word, at, all)

-- a candidate's place is one of the file's
pub place_inside : (file : List ℕ) (p : ℕ) (h : Geometry) → IsFoundAt file p h → p < place_count file
place_inside file p h found =
    let least : 1 ≤ 2 ^ block_power p = power_least (block_power p) (omega arith) in
    let three : 3 ≤ h.blocks = h.valid.some_blocks in
    let some : 1 * h.block ≤ h.blocks * h.block = mul-le-mul_right h.block (omega (arith, three)) in
    omega (arith, some, least, found.numbers.block, found.candidate.row.fits)

module _ (file words : List ℕ) (place units : ℕ) (has : HasWords file words) (all : units ≡ length file / 4096) (inside : place < 84 * units) where
  page_low : page_power place < 6
  page_low = omega arith

  block_low : block_power place < 7
  block_low = omega arith

  -- a volume there, by its numbers
  abbrev pub IsHere : MagicKind → Geometry → Type 0
  IsHere kind g = IsIn (page_bytes place) (block_bytes place) (room_of place units) kind g

  -- it fits into the file where there is room for its blocks
  fits_file : (kind : MagicKind) (g : Geometry) → IsHere kind g → byte_of place + g.blocks * g.block ≤ length file
  fits_file kind g is =
      let least : 1 ≤ 2 ^ block_power place = power_least (block_power place) block_low in
      let few : g.blocks * 2 ^ block_power place ≤ units - unit_of place = (le-div_iff_mul-le {k = 2 ^ block_power place} {x = g.blocks} {y = units - unit_of place} (omega (arith, least))).0 is.fits in
      let bytes : g.blocks * g.block ≡ 4096 * (g.blocks * 2 ^ block_power place) = ap (λ (x : ℕ). g.blocks * x) is.block_is ∙ regroup g.blocks (2 ^ block_power place) in
      omega (arith, few, bytes, all, inside) where
        regroup : (a b : ℕ) → a * (4096 * b) ≡ 4096 * (a * b)
        regroup a b = omega arith

  fits_room : (g : Geometry) → g.block ≡ block_bytes place → byte_of place + g.blocks * g.block ≤ length file → g.blocks ≤ room_of place units
  fits_room g block fits =
      let least : 1 ≤ 2 ^ block_power place = power_least (block_power place) block_low in
      let bytes : g.blocks * g.block ≡ 4096 * (g.blocks * 2 ^ block_power place) = ap (λ (x : ℕ). g.blocks * x) block ∙ regroup g.blocks (2 ^ block_power place) in
      (le-div_iff_mul-le {k = 2 ^ block_power place} {x = g.blocks} {y = units - unit_of place} (omega (arith, least))).1 (omega (arith, fits, bytes, all)) where
        regroup : (a b : ℕ) → a * (4096 * b) ≡ 4096 * (a * b)
        regroup a b = omega arith

  -- the magics of its blocks are words
  marks : (kind : MagicKind) (g : Geometry) → IsHere kind g → (b : ℕ) → b < g.blocks → is_marked words (first_of place) (step_of place) g b ≡ has_magic g (drop (byte_of place) file) b
  marks kind g is b low =
      let most : (b + 1) * g.block ≤ g.blocks * g.block = mul-le-mul_right g.block (omega arith) in
      marked_is file words (unit_of place) (page_power place) (block_power place) g has page_low block_low is.page_is is.block_is b (omega (arith, most, fits_file kind g is))

  some_blocks : (g : Geometry) → 0 < g.blocks
  some_blocks g = let three : 3 ≤ g.blocks = g.valid.some_blocks in omega (arith, three)

  row_words : (kind : MagicKind) (g : Geometry) → IsHere kind g → IsMarkedRow (has_magic g (drop (byte_of place) file)) g.magic g.blocks → IsRowOf words (first_of place) (step_of place) g
  row_words kind g is row = row_by (has_magic g (drop (byte_of place) file)) (is_marked words (first_of place) (step_of place) g) g.magic g.blocks (some_blocks g) (λ b low. sym (marks kind g is b low)) row

  row_file : (kind : MagicKind) (g : Geometry) → IsHere kind g → IsRowOf words (first_of place) (step_of place) g → IsRow file (byte_of place) g
  row_file kind g is row = record {
    fits = fits_file kind g is;
    marks = row_by (is_marked words (first_of place) (step_of place) g) (has_magic g (drop (byte_of place) file)) g.magic g.blocks (some_blocks g) (marks kind g is) row;
  }

  -- a candidate there is one of them
  is_here : (kind : MagicKind) (h : Geometry) → kind ≡ kind_of place → IsFoundAt file place h → IsHere kind h
  is_here kind h same found = record {
    page_is = found.numbers.page;
    block_is = found.numbers.block;
    phys_is = found.numbers.phys;
    magic_is = found.numbers.magic ∙ sym same;
    fits = fits_room h found.numbers.block found.candidate.row.fits;
  }

  here_row : (kind : MagicKind) (h : Geometry) → kind ≡ kind_of place → IsFoundAt file place h → IsRowOf words (first_of place) (step_of place) h
  here_row kind h same found = row_words kind h (is_here kind h same found) found.candidate.row.marks

  here_ends : (h : Geometry) → Plain ≡ kind_of place → IsFoundAt file place h → EndsMarked words (first_of place) (step_of place) h
  here_ends h same found =
      let is = is_here Plain h same found in
      let three : 3 ≤ h.blocks = h.valid.some_blocks in
      record {
        last = marks Plain h is (h.blocks - 1) (omega (arith, three)) ∙ (found.candidate.longest is.magic_is).last;
        row = here_row Plain h same found;
      }

  -- one of the same numbers that fits is there
  here_too : (kind : MagicKind) (g h : Geometry) → IsHere kind g → SameBlocks g h → byte_of place + h.blocks * h.block ≤ length file → IsHere kind h
  here_too kind g h is same fits = record {
    page_is = same.page ∙ is.page_is;
    block_is = same.block ∙ is.block_is;
    phys_is = same.phys ∙ is.phys_is;
    magic_is = same.magic ∙ is.magic_is;
    fits = fits_room h (same.block ∙ is.block_is) fits;
  }

  first_mark : (kind : MagicKind) (g : Geometry) → IsHere kind g → is_marked words (first_of place) (step_of place) g 0 ≡ has_magic g (drop (byte_of place) file) 0
  first_mark kind g is = marks kind g is 0 (some_blocks g)

  same_of : (kind : MagicKind) (g h : Geometry) → IsHere kind g → IsHere kind h → g.meta ≡ h.meta → SameBlocks h g
  same_of kind g h is is' meta = record {
    page = is.page_is ∙ sym is'.page_is;
    block = is.block_is ∙ sym is'.block_is;
    phys = is.phys_is ∙ sym is'.phys_is;
    meta = meta;
    magic = is.magic_is ∙ sym is'.magic_is;
  }

  -- its first block tells how many there are, or none does
  told_file : (g : Geometry) → IsHere Length g → g.meta ≡ 0 → IsToldBy words (first_of place) (step_of place) (page_bytes place) (block_bytes place) (room_of place units) g → IsTold file (byte_of place) g
  told_file g is bare told = λ lacks h same row first.
      let is' : IsHere Length h = here_too Length g h is same row.fits in
      told (first_mark Length g is ∙ lacks) h is' (same.meta ∙ bare) (row_words Length h is' row.marks) (first_mark Length h is' ∙ first)

  told_words : (g : Geometry) → IsHere Length g → g.meta ≡ 0 → IsTold file (byte_of place) g → IsToldBy words (first_of place) (step_of place) (page_bytes place) (block_bytes place) (room_of place units) g
  told_words g is bare told = λ lacks h is' bare' row first.
      told (sym (first_mark Length g is) ∙ lacks) h (same_of Length h g is' is (bare' ∙ sym bare)) (row_file Length h is' row) (sym (first_mark Length h is') ∙ first)

  -- nothing is told
  pub none_told : (kind : MagicKind) → kind ≡ kind_of place → Tells words (first_of place) (step_of place) (page_bytes place) (block_bytes place) (room_of place units) kind None → FoundAt file place None
  none_told Plain same none h found = none h (is_here Plain h same found) (here_ends h same found)
  none_told Length same none h found = none h (is_here Length h same found) (here_row Length h same found)

  -- of what is told
  told_here : (kind : MagicKind) (g : Geometry) → Tells words (first_of place) (step_of place) (page_bytes place) (block_bytes place) (room_of place units) kind (Some g) → IsHere kind g × (g.meta ≡ 0) × IsRowOf words (first_of place) (step_of place) g
  told_here Plain g tells = (tells.0, tells.1, tells.2.row)
  told_here Length g tells = (tells.0, tells.1, tells.2)

  last_file : (g : Geometry) → IsHere Plain g → EndsMarked words (first_of place) (step_of place) g → has_magic g (drop (byte_of place) file) (g.blocks - 1) ≡ true
  last_file g is ends = let three : 3 ≤ g.blocks = g.valid.some_blocks in sym (marks Plain g is (g.blocks - 1) (omega (arith, three))) ∙ ends.last

  -- a candidate there has as many blocks
  same_told : (kind : MagicKind) (g h : Geometry) → kind ≡ kind_of place → Tells words (first_of place) (step_of place) (page_bytes place) (block_bytes place) (room_of place units) kind (Some g) → IsFoundAt file place h → h.blocks ≡ g.blocks
  same_told Length g h same tells found =
      let is = is_here Length h same found in
      tells.4 h is (here_row Length h same found) (told_words h is found.numbers.meta (found.candidate.told is.magic_is))
  same_told Plain g h same tells found =
      let is = is_here Plain h same found in
      let few : h.blocks ≤ g.blocks = tells.3 h is (here_ends h same found) in
      let many : g.blocks ≤ h.blocks = (found.candidate.longest is.magic_is).most g (same_of Plain g h tells.0 is (tells.1 ∙ sym found.numbers.meta)) (row_file Plain g tells.0 tells.2.row) (last_file g tells.0 tells.2) in
      omega (arith, few, many)

  -- ---- rests

  -- a longer row before the place
  before : (more : ℕ) → 2 ^ block_power place * more ≤ unit_of place → 6 * (unit_of place - 2 ^ block_power place * more) + word_class (block_power place) (page_power place) ≡ first_of place - step_of place * more
  before more less = let parts : step_of place * more ≡ 6 * (2 ^ block_power place * more) = regroup (2 ^ block_power place) more in omega (arith, parts, less) where
    regroup : (a b : ℕ) → 6 * a * b ≡ 6 * (a * b)
    regroup a b = omega arith

  before_byte : (g : Geometry) (more : ℕ) → g.block ≡ block_bytes place → 2 ^ block_power place * more ≤ unit_of place → 4096 * (unit_of place - 2 ^ block_power place * more) ≡ byte_of place - more * g.block
  before_byte g more block less = let parts : more * g.block ≡ 4096 * (2 ^ block_power place * more) = ap (λ (x : ℕ). more * x) block ∙ regroup more (2 ^ block_power place) in omega (arith, parts, less) where
    regroup : (a b : ℕ) → a * (4096 * b) ≡ 4096 * (b * a)
    regroup a b = omega arith

  longer_fits : (g h : Geometry) (more : ℕ) → g.block ≡ block_bytes place → h.block ≡ g.block → h.blocks ≡ g.blocks + more → 2 ^ block_power place * more ≤ unit_of place → byte_of place + g.blocks * g.block ≤ length file → 4096 * (unit_of place - 2 ^ block_power place * more) + h.blocks * h.block ≤ length file
  longer_fits g h more block same blocks less fits =
      let bytes : h.blocks * h.block ≡ g.blocks * g.block + more * g.block = ap (λ (x : ℕ). h.blocks * x) same ∙ ap (λ (n : ℕ). n * g.block) blocks ∙ parted g.blocks more g.block in
      let parts : more * g.block ≡ 4096 * (2 ^ block_power place * more) = ap (λ (x : ℕ). more * x) block ∙ regroup more (2 ^ block_power place) in
      omega (arith, bytes, parts, less, fits) where
        parted : (a b c : ℕ) → (a + b) * c ≡ a * c + b * c
        parted a b c = omega arith

        regroup : (a b : ℕ) → a * (4096 * b) ≡ 4096 * (b * a)
        regroup a b = omega arith

  rest_words : (kind : MagicKind) (g h : Geometry) (more : ℕ) → IsHere kind g → IsRest file (byte_of place) g more h → IsRestBy words (first_of place) (step_of place) g more
  rest_words kind g h more is rest =
      let parts : more * g.block ≡ 4096 * (2 ^ block_power place * more) = ap (λ (x : ℕ). more * x) is.block_is ∙ regroup more (2 ^ block_power place) in
      let less : 2 ^ block_power place * more ≤ unit_of place = omega (arith, parts, rest.inside) in
      let u : ℕ = unit_of place - 2 ^ block_power place * more in
      let from : 6 * u + word_class (block_power place) (page_power place) ≡ first_of place - step_of place * more = before more less in
      let at : 4096 * u ≡ byte_of place - more * g.block = before_byte g more is.block_is less in
      let page : h.page ≡ page_bytes place = rest.same.page ∙ is.page_is in
      let block : h.block ≡ block_bytes place = rest.same.block ∙ is.block_is in
      let fits : 4096 * u + h.blocks * h.block ≤ length file = longer_fits g h more is.block_is rest.same.block rest.blocks less (fits_file kind g is) in
      let one : (0 + 1) * h.block ≤ h.blocks * h.block = mul-le-mul_right h.block (some_blocks h) in
      let gaps : HasNoWideGap (has_magic h (drop (4096 * u) file)) (widest_gap h.magic) h.blocks = subst (λ (x : ℕ). HasNoWideGap (has_magic h (drop x file)) (widest_gap h.magic) h.blocks) (sym at) rest.gaps in
      let marked : is_marked words (6 * u + word_class (block_power place) (page_power place)) (step_of place) h 0 ≡ true =
      marked_is file words u (page_power place) (block_power place) h has page_low block_low page block 0 (omega (arith, one, fits)) ∙ ap (λ (x : ℕ). has_magic h (drop x file) 0) at ∙ rest.first in
      let wide : step_of place * more ≡ 6 * (2 ^ block_power place * more) = regroup6 (2 ^ block_power place) more in
      record {
        longer = h;
        inside = omega (arith, wide, less);
        same = rest.same;
        blocks = rest.blocks;
        marked = subst (λ (x : ℕ). is_marked words x (step_of place) h 0 ≡ true) from marked;
        gaps = subst (λ (x : ℕ). HasNoWideGap (is_marked words x (step_of place) h) (widest_gap h.magic) h.blocks) from
            (words_from_gaps file words u (page_power place) (block_power place) h has page_low block_low page block (widest_gap h.magic) fits gaps);
      } where
        regroup : (a b : ℕ) → a * (4096 * b) ≡ 4096 * (b * a)
        regroup a b = omega arith

        regroup6 : (a b : ℕ) → 6 * a * b ≡ 6 * (a * b)
        regroup6 a b = omega arith

  rest_file : (kind : MagicKind) (g : Geometry) (more : ℕ) → IsHere kind g → 0 < more → (rest : IsRestBy words (first_of place) (step_of place) g more) → IsRest file (byte_of place) g more rest.longer
  rest_file kind g more is some rest =
      let h = rest.longer in
      let wide : step_of place * more ≡ 6 * (2 ^ block_power place * more) = regroup6 (2 ^ block_power place) more in
      let less : 2 ^ block_power place * more ≤ unit_of place = omega (arith, wide, rest.inside, page_low) in
      let u : ℕ = unit_of place - 2 ^ block_power place * more in
      let from : 6 * u + word_class (block_power place) (page_power place) ≡ first_of place - step_of place * more = before more less in
      let at : 4096 * u ≡ byte_of place - more * g.block = before_byte g more is.block_is less in
      let page : h.page ≡ page_bytes place = rest.same.page ∙ is.page_is in
      let block : h.block ≡ block_bytes place = rest.same.block ∙ is.block_is in
      let fits : 4096 * u + h.blocks * h.block ≤ length file = longer_fits g h more is.block_is rest.same.block rest.blocks less (fits_file kind g is) in
      let one : (0 + 1) * h.block ≤ h.blocks * h.block = mul-le-mul_right h.block (some_blocks h) in
      let gaps : HasNoWideGap (is_marked words (6 * u + word_class (block_power place) (page_power place)) (step_of place) h) (widest_gap h.magic) h.blocks =
      subst (λ (x : ℕ). HasNoWideGap (is_marked words x (step_of place) h) (widest_gap h.magic) h.blocks) (sym from) rest.gaps in
      let marked : is_marked words (6 * u + word_class (block_power place) (page_power place)) (step_of place) h 0 ≡ true = subst (λ (x : ℕ). is_marked words x (step_of place) h 0 ≡ true) (sym from) rest.marked in
      let parts : more * g.block ≡ 4096 * (2 ^ block_power place * more) = ap (λ (x : ℕ). more * x) is.block_is ∙ regroup more (2 ^ block_power place) in
      record {
        some = some;
        inside = omega (arith, parts, less);
        same = rest.same;
        blocks = rest.blocks;
        gaps = subst (λ (x : ℕ). HasNoWideGap (has_magic h (drop x file)) (widest_gap h.magic) h.blocks) at
            (gaps_from_words file words u (page_power place) (block_power place) h has page_low block_low page block (widest_gap h.magic) fits gaps);
        first = subst (λ (x : ℕ). has_magic h (drop x file) 0 ≡ true) at (sym (marked_is file words u (page_power place) (block_power place) h has page_low block_low page block 0 (omega (arith, one, fits))) ∙ marked);
      } where
        regroup : (a b : ℕ) → a * (4096 * b) ≡ 4096 * (b * a)
        regroup a b = omega arith

        regroup6 : (a b : ℕ) → 6 * a * b ≡ 6 * (a * b)
        regroup6 a b = omega arith

  -- ---- what stands there

  longest_by : (kind : MagicKind) (g : Geometry) → kind ≡ kind_of place → Tells words (first_of place) (step_of place) (page_bytes place) (block_bytes place) (room_of place units) kind (Some g) → g.magic ≡ Plain → IsLongest file (byte_of place) g
  longest_by Length g same tells plain = let other : g.magic ≡ Length = tells.0.magic_is in absurd (cc)
  longest_by Plain g same tells plain = record {
    last = last_file g tells.0 tells.2;
    most = λ h numbers row last.
        let is : IsHere Plain h = record { page_is = numbers.page ∙ tells.0.page_is; block_is = numbers.block ∙ tells.0.block_is; phys_is = numbers.phys ∙ tells.0.phys_is; magic_is = numbers.magic ∙ tells.0.magic_is; fits = fits_room h (numbers.block ∙ tells.0.block_is) row.fits } in
        let three : 3 ≤ h.blocks = h.valid.some_blocks in
        tells.3 h is (record { last = marks Plain h is (h.blocks - 1) (omega (arith, three)) ∙ last; row = row_words Plain h is row.marks });
  }

  told_by_kind : (kind : MagicKind) (g : Geometry) → kind ≡ kind_of place → Tells words (first_of place) (step_of place) (page_bytes place) (block_bytes place) (room_of place units) kind (Some g) → g.magic ≡ Length → IsTold file (byte_of place) g
  told_by_kind Plain g same tells length = let other : g.magic ≡ Plain = tells.0.magic_is in absurd (cc)
  told_by_kind Length g same tells length = told_file g tells.0 tells.1 tells.3

  -- it is told, and no rest
  pub one_told : (kind : MagicKind) (g : Geometry) → kind ≡ kind_of place → Tells words (first_of place) (step_of place) (page_bytes place) (block_bytes place) (room_of place units) kind (Some g) → (IsNearRest words (first_of place) (step_of place) g → ⊥) → FoundAt file place (Some g)
  one_told kind g same tells none =
      let w = told_here kind g tells in
      let is : IsHere kind g = w.0 in (
        record {
          numbers = record { page = is.page_is; block = is.block_is; phys = is.phys_is; meta = w.1; magic = is.magic_is ∙ same };
          candidate = record {
            place = record { whole = (let e : byte_of place % 4096 ≡ 0 = omega arith in e); page = (page_power place, page_low, is.page_is); block = (block_power place, block_low, is.block_is); phys = is.phys_is ∙ sym is.block_is };
            row = row_file kind g is w.2;
            longest = longest_by kind g same tells;
            told = told_by_kind kind g same tells;
            no_rest = λ more h rest. none (near_rest words (first_of place) (step_of place) g more (rest_words kind g h more is rest) rest.some);
          };
        },
        λ h found. same_told kind g h same tells found,
      )

  -- it is told, and a rest
  pub rest_told : (kind : MagicKind) (g : Geometry) → kind ≡ kind_of place → Tells words (first_of place) (step_of place) (page_bytes place) (block_bytes place) (room_of place units) kind (Some g) → IsNearRest words (first_of place) (step_of place) g → FoundAt file place None
  rest_told kind g same tells rest h found =
      let w = told_here kind g tells in
      let is : IsHere kind g = w.0 in
      let is' : IsHere kind h = is_here kind h same found in
      let e : g ≡ h = same_numbers g h (is.page_is ∙ sym is'.page_is) (is.block_is ∙ sym is'.block_is) (sym (same_told kind g h same tells found)) (is.phys_is ∙ sym is'.phys_is) (w.1 ∙ sym found.numbers.meta) (is.magic_is ∙ sym is'.magic_is) in
      let no_rest : (more : ℕ) (l : Geometry) → IsRest file (byte_of place) g more l → ⊥ = subst (λ (x : Geometry). (more : ℕ) (l : Geometry) → IsRest file (byte_of place) x more l → ⊥) (sym e) found.candidate.no_rest in
      no_rest rest.0 rest.3.longer (rest_file kind g rest.0 is rest.1 rest.3)
