-- Geometries of the same numbers but for the meta bytes.
use Rattle.std.proofs.Common.{◌≡◌, ℕ, sym, ◌∙◌, subst}
use Rattle.geometry.specs.declared.geometry.Geometry.{Geometry}
use Rattle.geometry.specs.declared.magic.MagicKind.{MagicKind}
use Rattle.geometry.specs.Rules.{IsVolume}
use Rattle.geometry.proofs.Geometries.{made, IsEach, is_each}
use Rattle.meta_guess.specs.Guesses.{SameBut}

-- a geometry of the same numbers but for the meta bytes is one of these numbers
each_but : (g h : Geometry) → SameBut g h → IsEach h g.page g.block g.blocks g.phys h.meta g.magic
each_but g h same =
    let first = subst (λ (x : ℕ). IsEach h x h.block h.blocks h.phys h.meta h.magic) same.page_is (is_each h) in
    let second = subst (λ (x : ℕ). IsEach h g.page x h.blocks h.phys h.meta h.magic) same.block_is first in
    let third = subst (λ (x : ℕ). IsEach h g.page g.block x h.phys h.meta h.magic) same.blocks_is second in
    let fourth = subst (λ (x : ℕ). IsEach h g.page g.block g.blocks x h.meta h.magic) same.phys_is third in
    subst (λ (x : MagicKind). IsEach h g.page g.block g.blocks g.phys h.meta x) same.magic_is fourth

-- it meets the rules of these numbers
valid_but : (g h : Geometry) → SameBut g h → IsVolume g.page g.block g.blocks g.phys h.meta
valid_but g h same =
    let first = subst (λ (x : ℕ). IsVolume x h.block h.blocks h.phys h.meta) same.page_is h.valid in
    let second = subst (λ (x : ℕ). IsVolume g.page x h.blocks h.phys h.meta) same.block_is first in
    let third = subst (λ (x : ℕ). IsVolume g.page g.block x h.phys h.meta) same.blocks_is second in
    subst (λ (x : ℕ). IsVolume g.page g.block g.blocks x h.meta) same.phys_is third

-- the same geometry with these meta bytes
unfoldable pub with_meta : (g : Geometry) (meta : ℕ) → IsVolume g.page g.block g.blocks g.phys meta → Geometry
with_meta g meta v = made g.page g.block g.blocks g.phys meta g.magic v g.pages_each g.lookups_each g.kept

-- one that is the same but for the meta bytes is that one
pub is_with : (g h : Geometry) → SameBut g h → (v : IsVolume g.page g.block g.blocks g.phys h.meta) × (h ≡ with_meta g h.meta v)
unfolding with_meta
is_with g h same = (valid_but g h same, each_but g h same (valid_but g h same) g.pages_each g.lookups_each g.kept)

-- two such geometries with the same meta bytes are one
pub same_meta : (g h other : Geometry) → SameBut g h → SameBut g other → h.meta ≡ other.meta → h ≡ other
same_meta g h other one two e =
    let v = valid_but g other two in
    subst (λ (m : ℕ). IsEach h g.page g.block g.blocks g.phys m g.magic) e (each_but g h one) v g.pages_each g.lookups_each g.kept
    ∙ sym (each_but g other two v g.pages_each g.lookups_each g.kept)
