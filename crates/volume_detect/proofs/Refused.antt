-- Which numbers make a volume.
use Rattle.std.proofs.Common.{◌≡◌, ℕ, ◌+◌, ◌*◌, ◌/◌, ◌<◌, ◌≤◌, true, Some, None, refl, sym, ◌∙◌, ap, subst, arith}
use Rattle.std.proofs.lemmas.Bool.{and_from, eq-eqb, ne_eqb, le-leb, le-ltb, not_from_false}
use Rattle.std.proofs.Math.Nat.{mul-le-mul_right, mul-le-mul_left, mul_assoc}
use Rattle.geometry.specs.declared.geometry.Geometry.{Geometry}
use Rattle.geometry.specs.declared.error.GeoErr.{GeoErr}
use Rattle.geometry.specs.Rules.{IsVolume, pages_in, lookups_in, entries_in, is_page, is_block}
use Rattle.geometry.specs.Numbers.{refusal}
use Rattle.geometry.proofs.Geometries.{made}
use Rattle.volume_detect.specs.Candidates.{SameBlocks}
use Rattle.volume_detect.specs.Volumes.{NoVolume}

-- numbers that meet the rules aren't refused
block_taken : (page block blocks phys meta : ℕ) → IsVolume page block blocks phys meta → is_block page block phys ≡ true
block_taken page block blocks phys meta v =
    let some : 0 < phys = (let one : 1 ≤ lookups_in page block = omega arith in let wide : 1 * page ≤ lookups_in page block * page = mul-le-mul_right page one in omega (arith, wide, v.lookups_fit, v.page_least)) in
    and_from _ _ (and_from _ _ (and_from _ _ (and_from _ _ (not_from_false _ (ne_eqb phys 0 (λ e. absurd (omega (arith, e, some))))) (eq-eqb _ _ v.whole_pages)) (eq-eqb _ _ v.whole_units)) (le-leb _ _ v.some_pages)) (le-leb _ _ v.lookups_fit)

not_refused : (page block blocks phys meta : ℕ) → is_page page ≡ true → IsVolume page block blocks phys meta → refusal page block blocks phys 0 ≡ None
not_refused page block blocks phys meta taken v =
    rw (taken, block_taken page block blocks phys meta v, le-ltb blocks 3 v.some_blocks, le-ltb 65535 (blocks * pages_in page block) v.few_pages, le-leb (entries_in page block + 2) (lookups_in page block * page / 2) v.magic_fits) refl

pub no_volume : (page block blocks : ℕ) (why : GeoErr) → is_page page ≡ true → refusal page block blocks block 0 ≡ Some why → NoVolume page block blocks
no_volume page block blocks why taken refused h page_is block_is blocks_is phys_is =
    let v : IsVolume page h.block h.blocks h.phys h.meta = subst (λ (x : ℕ). IsVolume x h.block h.blocks h.phys h.meta) page_is h.valid in
    let w : IsVolume page block h.blocks h.phys h.meta = subst (λ (x : ℕ). IsVolume page x h.blocks h.phys h.meta) block_is v in
    let x : IsVolume page block blocks h.phys h.meta = subst (λ (n : ℕ). IsVolume page block n h.phys h.meta) blocks_is w in
    let y : IsVolume page block blocks block h.meta = subst (λ (n : ℕ). IsVolume page block blocks n h.meta) phys_is x in
    let none : refusal page block blocks block 0 ≡ None = not_refused page block blocks block h.meta taken y in
    absurd (cc)

-- A volume with another number of blocks: at least three, and not too many pages.
other_blocks : (g : Geometry) (blocks : ℕ) → 3 ≤ blocks → blocks * pages_in g.page g.block ≤ 65535 → IsVolume g.page g.block blocks g.phys g.meta
other_blocks g blocks three few = record {
  page_least = g.valid.page_least;
  page_most = g.valid.page_most;
  page_divides = g.valid.page_divides;
  whole_pages = g.valid.whole_pages;
  whole_units = g.valid.whole_units;
  some_pages = g.valid.some_pages;
  some_entries = g.valid.some_entries;
  lookups_fit = g.valid.lookups_fit;
  magic_fits = g.valid.magic_fits;
  some_blocks = three;
  few_blocks = (let two : 2 ≤ pages_in g.page g.block = g.valid.some_pages in omega (arith, few, mul-le-mul_left blocks two));
  few_pages = few;
  few_in_block = g.valid.few_in_block;
  few_bytes = (let whole : g.block ≡ pages_in g.page g.block * g.page = grind (arith, g.valid.whole_pages) in let bytes : blocks * g.block ≡ (blocks * pages_in g.page g.block) * g.page = ap (λ (x : ℕ). blocks * x) whole ∙ sym (mul_assoc blocks (pages_in g.page g.block) g.page) in rw bytes (mul-le-mul_right g.page few));
  meta_most = g.valid.meta_most;
}

-- it is there
pub with_blocks : (g : Geometry) (blocks : ℕ) → 3 ≤ blocks → blocks * pages_in g.page g.block ≤ 65535 → (h : Geometry) × SameBlocks g h × (h.blocks ≡ blocks)
unfolding made
with_blocks g blocks three few = (
  made g.page g.block blocks g.phys g.meta g.magic (other_blocks g blocks three few) g.pages_each g.lookups_each g.kept,
  record { page = refl; block = refl; phys = refl; meta = refl; magic = refl },
  refl,
)
