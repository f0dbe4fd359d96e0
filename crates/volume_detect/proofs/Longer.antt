-- The rest of a longer row is that of one which is longer by no more blocks than a gap is wide, and one.
use Rattle.std.proofs.Common.{◌≡◌, ℕ, zero, suc, Bool, ◌+◌, ◌-◌, ◌*◌, ◌<◌, ◌≤◌, ◌⊎◌, ◌==◌, true, false, List, bit_xor, inl, inr, ⊎_elim, refl, sym, ap, ◌∙◌, subst, arith}
use Rattle.std.proofs.Math.Nat.{mul-le-mul_right, mul-le-mul_left}
use Rattle.std.proofs.lemmas.Bool.{cases_Bool, cases_lt, both_ways}
use Rattle.geometry.specs.declared.geometry.Geometry.{Geometry}
use Rattle.geometry.specs.declared.magic.MagicKind.{MagicKind}
use Rattle.geometry.specs.declared.magic.MagicKind.TheVariants.{Plain, Length}
use Rattle.geometry.specs.Rules.{pages_in}
use Rattle.geometry.specs.Numbers.{right_magic, length_mark}
use Rattle.volume_detect.specs.Candidates.{SameBlocks}
use Rattle.geometry.proofs.Geometries.{same_numbers}
use Rattle.volume_detect.specs.Marks.{HasNoWideGap, widest_gap}
use Rattle.volume_detect.specs.Rows.{is_marked, word_of}
use Rattle.volume_detect.specs.Rests.{IsRestBy, IsNearRest}
use Rattle.volume_detect.proofs.Refused.{with_blocks}

-- a block is as far from the end in both
same_mark : (kind : MagicKind) (n more b : ℕ) → length_mark kind (n + more) (more + b) ≡ length_mark kind n b
same_mark Plain n more b = refl
same_mark Length n more b = omega arith

same_right : (g h : Geometry) (more b : ℕ) → SameBlocks g h → h.blocks ≡ g.blocks + more → right_magic h (more + b) ≡ right_magic g b
same_right g h more b same blocks =
    let page : bit_xor 0x0529 h.page ≡ bit_xor 0x0529 g.page = ap (λ (x : ℕ). bit_xor 0x0529 x) same.page in
    let mark : length_mark h.magic h.blocks (more + b) ≡ length_mark g.magic g.blocks b = ap (λ (m : MagicKind). length_mark m h.blocks (more + b)) same.magic ∙ ap (λ (n : ℕ). length_mark g.magic n (more + b)) blocks ∙ same_mark g.magic g.blocks more b in
    ap (λ (x : ℕ). bit_xor x (length_mark h.magic h.blocks (more + b))) page ∙ ap (λ (x : ℕ). bit_xor (bit_xor 0x0529 g.page) x) mark

-- so it has its magic in both
pub same_marked : (words : List ℕ) (first step : ℕ) (g h : Geometry) (more b : ℕ) → SameBlocks g h → h.blocks ≡ g.blocks + more → step * more ≤ first → is_marked words (first - step * more) step h (more + b) ≡ is_marked words first step g b
same_marked words first step g h more b same blocks inside =
    let at : first - step * more + step * (more + b) ≡ first + step * b = (let parts : step * (more + b) ≡ step * more + step * b = omega arith in omega (arith, parts, inside)) in
    ap (λ (x : ℕ). word_of words x == right_magic h (more + b)) at ∙ ap (λ (x : ℕ). word_of words (first + step * b) == x) (same_right g h more b same blocks)

parted : (a b c : ℕ) → a * (b + c) ≡ a * b + a * c
parted a b c = omega arith

-- no gap of a row is too wide in a part at its end
shift_gaps : (good other : ℕ → Bool) (widest n m d : ℕ) → ((b : ℕ) → good (d + b) ≡ other b) → m ≡ n + d → HasNoWideGap good widest m → HasNoWideGap other widest n
shift_gaps good other widest n m d same is gaps b low lacks = gaps (d + b) (omega (arith, low, is)) (λ c from to.
    let back : d + (c - d) ≡ c = omega (arith, from) in
    ap good (sym back) ∙ same (c - d) ∙ lacks (c - d) (omega (arith, from)) (omega (arith, to)))

-- one of so many blocks passes, or none does
find_mark : (good : ℕ → Bool) (a n : ℕ) → ((c : ℕ) × (a ≤ c) × (c < a + n) × (good c ≡ true)) ⊎ ((c : ℕ) → a ≤ c → c < a + n → good c ≡ false)
find_mark good a zero = inr (λ c low high. absurd (omega (arith, low, high)))
find_mark good a (suc n) = ⊎_elim
    (λ (yes : good a ≡ true). inl (a, omega arith, omega arith, yes))
    (λ (no : good a ≡ false). ⊎_elim
    (λ (later : (c : ℕ) × (a + 1 ≤ c) × (c < a + 1 + n) × (good c ≡ true)). inl (later.0, omega (arith, later.1), omega (arith, later.2), later.3))
    (λ (none : (c : ℕ) → a + 1 ≤ c → c < a + 1 + n → good c ≡ false). inr (λ c low high. ⊎_elim
    (λ (more : a < c). none c (omega (arith, more)) (omega (arith, high)))
    (λ (same : c ≤ a). let e : c ≡ a = omega (arith, low, same) in ap good e ∙ no)
    (cases_lt a c)))
    (find_mark good (a + 1) n))
    (cases_Bool (good a))

-- The row that is longer by fewer blocks, where the first of them has its magic.
part_rest : (words : List ℕ) (first step : ℕ) (g : Geometry) (more k : ℕ) (rest : IsRestBy words first step g more) → 0 < k → k ≤ more → is_marked words (first - step * more) step rest.longer (more - k) ≡ true → IsRestBy words first step g k
part_rest words first step g more k rest some part marked =
    let h = rest.longer in
    let pages : h.blocks * pages_in h.page h.block ≤ 65535 = h.valid.few_pages in
    let pages' : h.blocks * pages_in g.page g.block ≤ 65535 = subst (λ (x : ℕ). h.blocks * pages_in x g.block ≤ 65535) rest.same.page (subst (λ (x : ℕ). h.blocks * pages_in h.page x ≤ 65535) rest.same.block pages) in
    let fewer : (g.blocks + k) * pages_in g.page g.block ≤ h.blocks * pages_in g.page g.block = mul-le-mul_right (pages_in g.page g.block) (omega (arith, rest.blocks, part)) in
    let least : 3 ≤ g.blocks = g.valid.some_blocks in
    let w = with_blocks g (g.blocks + k) (omega (arith, least)) (omega (arith, fewer, pages')) in
    let l : Geometry = w.0 in
    let near : step * k ≤ step * more = mul-le-mul_left step part in
    let inside : step * k ≤ first = omega (arith, near, rest.inside) in
    let whole : more ≡ k + (more - k) = omega arith in
    let parts : step * more ≡ step * k + step * (more - k) = ap (λ (x : ℕ). step * x) whole ∙ parted step k (more - k) in
    let inside' : step * (more - k) ≤ first - step * k = omega (arith, parts, rest.inside) in
    let from : first - step * k - step * (more - k) ≡ first - step * more = omega (arith, parts) in
    let blocks : h.blocks ≡ l.blocks + (more - k) = omega (arith, rest.blocks, w.2, part) in
    let same : SameBlocks l h = record {
      page = rest.same.page ∙ sym w.1.page;
      block = rest.same.block ∙ sym w.1.block;
      phys = rest.same.phys ∙ sym w.1.phys;
      meta = rest.same.meta ∙ sym w.1.meta;
      magic = rest.same.magic ∙ sym w.1.magic;
    } in
    let shift : (b : ℕ) → is_marked words (first - step * more) step h (more - k + b) ≡ is_marked words (first - step * k) step l b =
    λ b. ap (λ (x : ℕ). is_marked words x step h (more - k + b)) (sym from) ∙ same_marked words (first - step * k) step l h (more - k) b same blocks inside' in
    record {
      longer = l;
      inside = inside;
      same = w.1;
      blocks = w.2;
      marked = sym (shift 0) ∙ ap (λ (x : ℕ). is_marked words (first - step * more) step h x) (let e : more - k + 0 ≡ more - k = omega arith in e) ∙ marked;
      gaps = subst (λ (x : ℕ). HasNoWideGap (is_marked words (first - step * k) step l) x l.blocks) (ap widest_gap (rest.same.magic ∙ sym w.1.magic))
          (shift_gaps (is_marked words (first - step * more) step h) (is_marked words (first - step * k) step l) (widest_gap h.magic) l.blocks h.blocks (more - k) shift blocks rest.gaps);
    }

-- a longer volume of the same numbers is the same one
same_longer : (words : List ℕ) (first step : ℕ) (g l : Geometry) (more : ℕ) → SameBlocks g l → l.blocks ≡ g.blocks + more → (rest : IsRestBy words first step g more) → rest.longer ≡ l
same_longer words first step g l more same blocks rest =
    same_numbers rest.longer l (rest.same.page ∙ sym same.page) (rest.same.block ∙ sym same.block) (rest.blocks ∙ sym blocks) (rest.same.phys ∙ sym same.phys) (rest.same.meta ∙ sym same.meta) (rest.same.magic ∙ sym same.magic)

-- so it is no rest where that one's first block lacks its magic, or two of its blocks do
pub not_marked : (words : List ℕ) (first step : ℕ) (g l : Geometry) (more : ℕ) → SameBlocks g l → l.blocks ≡ g.blocks + more → is_marked words (first - step * more) step l 0 ≡ false → IsRestBy words first step g more → ⊥
not_marked words first step g l more same blocks lacks rest =
    let has : is_marked words (first - step * more) step l 0 ≡ true = subst (λ (x : Geometry). is_marked words (first - step * more) step x 0 ≡ true) (same_longer words first step g l more same blocks rest) rest.marked in
    both_ways _ lacks has

pub not_narrow : (words : List ℕ) (first step : ℕ) (g l : Geometry) (more : ℕ) → SameBlocks g l → l.blocks ≡ g.blocks + more →
    (HasNoWideGap (is_marked words (first - step * more) step l) (widest_gap l.magic) l.blocks → ⊥) → IsRestBy words first step g more → ⊥
not_narrow words first step g l more same blocks wide rest =
    wide (subst (λ (x : Geometry). HasNoWideGap (is_marked words (first - step * more) step x) (widest_gap x.magic) x.blocks) (same_longer words first step g l more same blocks rest) rest.gaps)

-- its last block's word is one of the words
pub last_inside : (first step blocks more longer count : ℕ) → longer ≡ blocks + more → 3 ≤ blocks → step * more ≤ first → 2 * (first + step * (blocks - 1)) + 2 ≤ count → 2 * (first - step * more + step * (longer - 1)) + 2 ≤ count
last_inside first step blocks more longer count is three inside fits =
    let rest : longer - 1 ≡ blocks - 1 + more = omega (arith, is, three) in
    let parts : step * (longer - 1) ≡ step * (blocks - 1) + step * more = ap (λ (x : ℕ). step * x) rest ∙ parted step (blocks - 1) more in
    omega (arith, parts, inside, fits)

-- One of the blocks before the row, no farther from it than a gap is wide, has its magic.
pub near_rest : (words : List ℕ) (first step : ℕ) (g : Geometry) (more : ℕ) → IsRestBy words first step g more → 0 < more → IsNearRest words first step g
near_rest words first step g more rest some =
    let h = rest.longer in
    let good : ℕ → Bool = is_marked words (first - step * more) step h in
    let w : ℕ = widest_gap g.magic in
    let wide : widest_gap h.magic ≡ w = ap widest_gap rest.same.magic in
    let least : 3 ≤ g.blocks = g.valid.some_blocks in
    ⊎_elim
    (λ (near : more < w + 2). (more, some, near, rest))
    (λ (far : w + 2 ≤ more). ⊎_elim
    (λ (found : (c : ℕ) × (more - (w + 1) ≤ c) × (c < more - (w + 1) + (w + 1)) × (good c ≡ true)).
    let c : ℕ = found.0 in
    let before : more - (more - c) ≡ c = omega (arith, found.1, found.2, far) in (
      more - c,
      omega (arith, found.1, found.2, far),
      omega (arith, found.1, found.2, far),
      part_rest words first step g more (more - c) rest (omega (arith, found.1, found.2, far)) (omega arith) (ap good before ∙ found.3),
    ))
    (λ (none : (c : ℕ) → more - (w + 1) ≤ c → c < more - (w + 1) + (w + 1) → good c ≡ false).
    absurd (rest.gaps (more - (w + 1)) (omega (arith, wide, far, rest.blocks, least)) (λ c from to. none c from (omega (arith, to, wide)))))
    (find_mark good (more - (w + 1)) (w + 1)))
    (cases_lt more (w + 2))
