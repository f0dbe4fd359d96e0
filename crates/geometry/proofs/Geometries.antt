-- Geometries of the same numbers are one.
use Rattle.std.proofs.Common.{◌≡◌, ℕ, sym, ◌∙◌, subst}
use Rattle.std.proofs.Math.Nat.{ℕ_set}
use Rattle.std.proofs.Math.Bridge.{le_prop}
use Rattle.geometry.specs.declared.geometry.Geometry.{Geometry}
use Rattle.geometry.specs.declared.magic.MagicKind.{MagicKind}
use Rattle.geometry.specs.Rules.{IsVolume, pages_in, lookups_in}

-- the rules are met in one way
one_volume : (page block blocks phys meta : ℕ) (v w : IsVolume page block blocks phys meta) → v ≡ w
one_volume page block blocks phys meta v w = λ i. record {
  page_least = le_prop v.page_least w.page_least i;
  page_most = le_prop v.page_most w.page_most i;
  page_divides = ℕ_set _ _ v.page_divides w.page_divides i;
  whole_pages = ℕ_set _ _ v.whole_pages w.whole_pages i;
  whole_units = ℕ_set _ _ v.whole_units w.whole_units i;
  some_pages = le_prop v.some_pages w.some_pages i;
  some_entries = le_prop v.some_entries w.some_entries i;
  lookups_fit = le_prop v.lookups_fit w.lookups_fit i;
  magic_fits = le_prop v.magic_fits w.magic_fits i;
  some_blocks = le_prop v.some_blocks w.some_blocks i;
  few_blocks = le_prop v.few_blocks w.few_blocks i;
  few_pages = le_prop v.few_pages w.few_pages i;
  few_in_block = le_prop v.few_in_block w.few_in_block i;
  few_bytes = le_prop v.few_bytes w.few_bytes i;
  meta_most = le_prop v.meta_most w.meta_most i;
}

-- the geometry of such numbers
unfoldable pub made : (page block blocks phys meta : ℕ) (magic : MagicKind) → IsVolume page block blocks phys meta → (each lookups : ℕ) → (each ≡ pages_in page block) × (lookups ≡ lookups_in page block) → Geometry
made page block blocks phys meta magic v each lookups kept =
    record { page = page; block = block; blocks = blocks; phys = phys; meta = meta; magic = magic; pages_each = each; lookups_each = lookups; valid = v; kept = kept }

-- what is kept of the numbers is so in one way
one_kept : (each lookups m n : ℕ) (a b : (each ≡ m) × (lookups ≡ n)) → a ≡ b
one_kept each lookups m n a b = λ i. (ℕ_set _ _ a.0 b.0 i, ℕ_set _ _ a.1 b.1 i)

-- a geometry is each one that has such numbers
abbrev pub IsEach : Geometry → (page block blocks phys meta : ℕ) → MagicKind → Type 0
IsEach g page block blocks phys meta magic = (v : IsVolume page block blocks phys meta) (each lookups : ℕ) (kept : (each ≡ pages_in page block) × (lookups ≡ lookups_in page block)) → g ≡ made page block blocks phys meta magic v each lookups kept

pub is_each : (g : Geometry) → IsEach g g.page g.block g.blocks g.phys g.meta g.magic
unfolding made
is_each g v each lookups kept =
    subst (λ (x : ℕ). (k : (x ≡ pages_in g.page g.block) × (lookups ≡ lookups_in g.page g.block)) → g ≡ made g.page g.block g.blocks g.phys g.meta g.magic v x lookups k) (g.kept.0 ∙ sym kept.0)
    (subst (λ (x : ℕ). (k : (g.pages_each ≡ pages_in g.page g.block) × (x ≡ lookups_in g.page g.block)) → g ≡ made g.page g.block g.blocks g.phys g.meta g.magic v g.pages_each x k) (g.kept.1 ∙ sym kept.1)
    (λ k. λ i. made g.page g.block g.blocks g.phys g.meta g.magic (one_volume g.page g.block g.blocks g.phys g.meta g.valid v i) g.pages_each g.lookups_each (one_kept g.pages_each g.lookups_each (pages_in g.page g.block) (lookups_in g.page g.block) g.kept k i)))
    kept

-- two of the same numbers are one
pub same_numbers : (g h : Geometry) → g.page ≡ h.page → g.block ≡ h.block → g.blocks ≡ h.blocks → g.phys ≡ h.phys → g.meta ≡ h.meta → g.magic ≡ h.magic → g ≡ h
unfolding made
same_numbers g h page block blocks phys meta magic =
    let first = subst (λ (x : ℕ). IsEach g x g.block g.blocks g.phys g.meta g.magic) page (is_each g) in
    let second = subst (λ (x : ℕ). IsEach g h.page x g.blocks g.phys g.meta g.magic) block first in
    let third = subst (λ (x : ℕ). IsEach g h.page h.block x g.phys g.meta g.magic) blocks second in
    let fourth = subst (λ (x : ℕ). IsEach g h.page h.block h.blocks x g.meta g.magic) phys third in
    let fifth = subst (λ (x : ℕ). IsEach g h.page h.block h.blocks h.phys x g.magic) meta fourth in
    let last = subst (λ (x : MagicKind). IsEach g h.page h.block h.blocks h.phys h.meta x) magic fifth in
    last h.valid h.pages_each h.lookups_each h.kept
