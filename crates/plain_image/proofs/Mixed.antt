-- Mixed blocks lie in the volume, and no page outside it is live.
use Rattle.std.proofs.Common.{◌≡◌, ◌&&◌, ℕ, ◌<◌, ◌≤◌, List, Bool, true, false, not, refl, sym, ◌∙◌, ap, subst, None}
use Rattle.std.proofs.lemmas.Bool.{le-ltb, and_parts}
use Rattle.geometry.specs.declared.geometry.Geometry.{Geometry}
use Rattle.geometry.specs.Numbers.{page_count}
use Rattle.image_model.specs.Places.{is_entry_page}
use Rattle.image_model.specs.Live.{live_at, is_live}
use Rattle.image_model.specs.Kinds.{is_mixed}
use Rattle.image_model.specs.Sound.{IsMixed}
use Rattle.image_model.specs.Within.{page_number, block_number}
use Rattle.image_laws.proofs.Frames.{live_parts}
use Rattle.image_laws.proofs.MixedBlocks.{mixed-tested}

pub outside : (g : Geometry) (image : List ℕ) (p : ℕ) → page_count g ≤ p → live_at g image p ≡ None
unfolding live_at is_live is_entry_page
outside g image p h = rw (le-ltb p (page_count g) h) refl

mixed_low : (g : Geometry) (image : List ℕ) (block : ℕ) → IsMixed g (live_at g image) block → block < g.blocks
mixed_low g image block m = subst (λ (b : ℕ). b < g.blocks) m.p_at (block_number g m.p (page_number g m.p (live_parts g image m.p m.x m.p_is).entry_page))

-- a block that is mixed anew
pub anew : (g : Geometry) (image first : List ℕ) (block : ℕ) → block < g.blocks → (is_mixed g image block && not (is_mixed g first block)) ≡ true → (IsMixed g (live_at g image) block → IsMixed g (live_at g first) block) → ⊥
anew g image first block low yes' keeps =
    let parts = and_parts (is_mixed g image block) (not (is_mixed g first block)) yes' in
    let then : is_mixed g first block ≡ true = (mixed-tested g first block low).1 (keeps ((mixed-tested g image block low).0 parts.0)) in
    let bad : not true ≡ true = ap not (sym then) ∙ parts.1 in
    absurd (cc)

second : (a b : Bool) → (a && not b) ≡ false → a ≡ true → b ≡ true
second true true e yes' = refl
second true false e yes' = absurd (let bad : true ≡ false = e in cc)
second false b e yes' = absurd (cc)

-- no block is
pub not_anew : (g : Geometry) (image first : List ℕ) → ((block : ℕ) → block < g.blocks → (is_mixed g image block && not (is_mixed g first block)) ≡ false) → (block : ℕ) → IsMixed g (live_at g image) block → IsMixed g (live_at g first) block
not_anew g image first none block m =
    let low : block < g.blocks = mixed_low g image block m in
    (mixed-tested g first block low).0 (second (is_mixed g image block) (is_mixed g first block) (none block low) ((mixed-tested g image block low).1 m))
