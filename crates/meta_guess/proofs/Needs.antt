-- The lent memory that a volume needs doesn't go by its meta bytes.
use Rattle.std.proofs.Common.{◌≡◌, ℕ, refl, sym, subst}
use Rattle.geometry.specs.declared.geometry.Geometry.{Geometry}
use Rattle.geometry.specs.Rules.{IsVolume}
use Rattle.geometry.specs.Numbers.{per_block, lookups, entries, page_count, scratch_need, check_need}
use Rattle.meta_guess.specs.Guesses.{SameBut}
use Rattle.geometry.proofs.Geometries.{made}
use Rattle.meta_guess.proofs.Geometries.{with_meta, is_with}

needs_with : (g : Geometry) (meta : ℕ) (v : IsVolume g.page g.block g.blocks g.phys meta) → (scratch_need (with_meta g meta v) ≡ scratch_need g) × (check_need (with_meta g meta v) ≡ check_need g)
unfolding with_meta made per_block lookups entries page_count
needs_with g meta v = (refl, refl)

pub same_needs : (g h : Geometry) → SameBut g h → (scratch_need h ≡ scratch_need g) × (check_need h ≡ check_need g)
same_needs g h same =
    let w = is_with g h same in
    subst (λ (x : Geometry). (scratch_need x ≡ scratch_need g) × (check_need x ≡ check_need g)) (sym w.1) (needs_with g h.meta w.0)
