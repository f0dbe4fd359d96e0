-- Changes of a whole block.
use Rattle.std.proofs.Common.{◌≡◌, ◌≢◌, ℕ, ◌+◌, ◌-◌, ◌*◌, ◌/◌, ◌%◌, ◌<◌, ◌≤◌, ◌==◌, List, slice_index, true, false, ap, refl, sym, ◌∙◌, arith, ⊎_elim, add_assoc}
use Rattle.std.proofs.lemmas.Bool.{cases_lt, cases_eq, cases_Bool}
use Rattle.std.proofs.Math.Nat.{mul-le-mul_right, div-add-mod}
use Rattle.geometry.specs.declared.geometry.Geometry.{Geometry}
use Rattle.image_model.specs.Within.{sizes}
use Rattle.geometry.specs.Numbers.{per_block, lookups, slots, right_magic}
use Rattle.nor_core.specs.Flash.{SameOutside}
use Rattle.image_model.specs.Within.{Sizes}
use Rattle.image_model.specs.Live.{live_at, is_live}
use Rattle.image_model.specs.Places.{has_magic, entry_of, page_of, slot_of, block_of, place_of, is_entry_page}
use Rattle.image_laws.specs.Programs.{BlockKeeps, SpoiledIsDead}
use Rattle.image_laws.proofs.Places.{blocks_disjoint}
use Rattle.image_model.specs.Within.{entry_slot}
use Rattle.image_laws.proofs.Frames.{word_at-same, range-same, live_at-kept, table_of-same, damaged_of-same}

pub spoiled-is_dead : (g : Geometry) → SpoiledIsDead g
unfolding live_at is_live
spoiled-is_dead g a c spoiled p here =
    let no : has_magic g a (block_of g p) ≡ false = rw here spoiled in
    rw no (⊎_elim (λ (yes : is_entry_page g p ≡ true). rw yes refl) (λ (not : is_entry_page g p ≡ false). rw not refl) (cases_Bool (is_entry_page g p)))

place_at : (g : Geometry) → Sizes g → (p : ℕ) → p * g.page ≡ (p / per_block g) * g.block + (p % per_block g) * g.page
place_at g geo p =
    let whole : per_block g * (p / per_block g) + p % per_block g ≡ p = div-add-mod p (per_block g) in
    let times : (per_block g * (p / per_block g) + p % per_block g) * g.page ≡ p * g.page = ap (λ (x : ℕ). x * g.page) whole in
    let block : (p / per_block g) * g.block ≡ (p / per_block g) * (per_block g * g.page) = ap (λ (x : ℕ). (p / per_block g) * x) geo.block in
    omega arith

module _ (g : Geometry) (geo : Sizes g) (a b : List ℕ) (c : ℕ) (same : SameOutside (c * g.block) g.block a b) where
  -- a byte of another block
  byte-other : (d i : ℕ) → d ≢ c → i < g.block → slice_index b (d * g.block + i) ≡ slice_index a (d * g.block + i)
  byte-other d i differ small =
      ⊎_elim
      (λ (low : d < c). same.before (d * g.block + i) (omega (arith, blocks_disjoint g.block d c i 0 low small)))
      (λ (high : c ≤ d).
      let more : c + 1 ≤ d = omega (arith, differ) in
      let step : (c + 1) * g.block ≤ d * g.block = mul-le-mul_right g.block more in
      same.after (d * g.block + i) (omega arith))
      (cases_lt d c)

  pub slot-other : (d s : ℕ) → d ≢ c → s < slots g → slot_of g b d s ≡ slot_of g a d s
  unfolding slot_of
  slot-other d s differ small =
      let fewer : lookups g ≤ per_block g = omega (arith, geo.lookups_fit) in
      let rows : lookups g * g.page ≤ per_block g * g.page = mul-le-mul_right g.page fewer in
      let fits : lookups g * g.page ≤ g.block = omega (arith, geo.block) in
      word_at-same a b (d * g.block + 2 * s) (byte-other d (2 * s) differ (omega arith))
      (let next : slice_index b (d * g.block + (2 * s + 1)) ≡ slice_index a (d * g.block + (2 * s + 1)) = byte-other d (2 * s + 1) differ (omega arith) in rw add_assoc next)

  pub page-other : (p : ℕ) → block_of g p ≢ c → page_of g b p ≡ page_of g a p
  unfolding page_of
  page-other p differ =
      let whole : per_block g * (p / per_block g) + p % per_block g ≡ p = div-add-mod p (per_block g) in
      let pos : 0 < per_block g = omega (arith, geo.lookups_fit) in
      let place : p % per_block g + 1 ≤ per_block g = omega arith in
      let row : (p % per_block g + 1) * g.page ≤ per_block g * g.page = mul-le-mul_right g.page place in
      let at : p * g.page ≡ (p / per_block g) * g.block + (p % per_block g) * g.page = place_at g geo p in
      range-same a b (p * g.page) g.page same.size
      (λ i from to.
      let j : i ≡ (p / per_block g) * g.block + (i - (p / per_block g) * g.block) = omega arith in
      let byte = byte-other (p / per_block g) (i - (p / per_block g) * g.block) differ (omega (arith, geo.block)) in
      rw j byte)

  pub magic-other : (d : ℕ) → d ≢ c → has_magic g b d ≡ has_magic g a d
  unfolding has_magic
  magic-other d differ = ap (λ (w : ℕ). w == right_magic g d) (slot-other d (slots g - 2) differ (omega (arith, geo.slots_fit)))

  pub entry-other : (p : ℕ) → block_of g p ≢ c → entry_of g b p ≡ entry_of g a p
  unfolding entry_of
  entry-other p differ = slot-other (block_of g p) (place_of g p - lookups g) differ (entry_slot g p)

  pub live-other : (p : ℕ) → block_of g p ≢ c → live_at g b p ≡ live_at g a p
  live-other p differ = live_at-kept g a b p (λ page. (magic-other (block_of g p) differ, entry-other p differ, page-other p differ))

pub block-keeps : (g : Geometry) → BlockKeeps g
block-keeps g a b c is same before after =
    let live : (p : ℕ) → live_at g b p ≡ live_at g a p = λ p. ⊎_elim
    (λ (here : block_of g p ≡ c). after p here ∙ sym (before p here))
    (λ (there : block_of g p ≡ c → ⊥). live-other g (sizes g) a b c same p there)
    (cases_eq (block_of g p) c) in
    (table_of-same g b a live, damaged_of-same g b a live)
