-- The other blocks where one block changes, and what a free block holds.
use Rattle.std.proofs.Common.{◌≡◌, ◌≢◌, ℕ, zero, suc, ◌+◌, ◌-◌, ◌*◌, ◌/◌, ◌%◌, ◌<◌, ◌≤◌, ⊎_elim, List, Bool, true, ◌==◌, ◌&&◌, Some, None, ap, refl, sym, ◌∙◌, subst, arith}
use Rattle.std.specs.Prelude.{Option}
use Rattle.std.specs.List.{range_with_len, list_all}
use Rattle.std.proofs.Math.Nat.{mul-le-mul_right, div-add-mod}
use Rattle.std.proofs.lemmas.Bool.{cases_lt, and_parts, eqb-true}
use Rattle.geometry.specs.declared.geometry.Geometry.{Geometry}
use Rattle.geometry.specs.Numbers.{right_magic, per_block, lookups, slots, entries}
use Rattle.nor_core.specs.Flash.{SameOutside}
use Rattle.image_model.specs.Live.{live_at}
use Rattle.image_model.specs.Places.{has_magic, entry_of, page_of, block_of, place_of, is_entry_page}
use Rattle.image_model.specs.Tidy.{is_free_entry, is_free_block}
use Rattle.image_model.specs.Within.{Sizes, sizes, entry_in, entry_of_block, entry_slot}
use Rattle.image_laws.proofs.Frames.{range-same, live_parts}
use Rattle.image_laws.proofs.Erase.{slot-other}
use Rattle.image_laws.proofs.FreeBlocks.{all-at}
use Rattle.flash_view.proofs.Sorts.{free_is_dead}

-- ---- a change inside one block, as the other blocks see it

module _ (g : Geometry) (a b : List ℕ) (c : ℕ) (same : SameOutside (c * g.block) g.block a b) where
  pub page_other : (p : ℕ) → block_of g p ≢ c → page_of g b p ≡ page_of g a p
  unfolding page_of
  page_other p differ =
      let geo : Sizes g = sizes g in
      let whole : per_block g * (p / per_block g) + p % per_block g ≡ p = div-add-mod p (per_block g) in
      let times : (per_block g * (p / per_block g) + p % per_block g) * g.page ≡ p * g.page = ap (λ (x : ℕ). x * g.page) whole in
      let block : (p / per_block g) * g.block ≡ (p / per_block g) * (per_block g * g.page) = ap (λ (x : ℕ). (p / per_block g) * x) geo.block in
      let place : p % per_block g + 1 ≤ per_block g = omega (arith, geo.lookups_fit) in
      let row : (p % per_block g + 1) * g.page ≤ per_block g * g.page = mul-le-mul_right g.page place in
      range-same a b (p * g.page) g.page same.size
      (λ i from to. ⊎_elim
      (λ (before : p / per_block g < c).
      let step : (p / per_block g + 1) * g.block ≤ c * g.block = mul-le-mul_right g.block (omega arith) in
      same.before i (omega (arith, geo.block)))
      (λ (behind : c ≤ p / per_block g).
      let more : c + 1 ≤ p / per_block g = omega (arith, differ) in
      let step : (c + 1) * g.block ≤ (p / per_block g) * g.block = mul-le-mul_right g.block more in
      same.after i (omega (arith, geo.block)))
      (cases_lt (p / per_block g) c))

  pub magic_other : (d : ℕ) → d ≢ c → has_magic g b d ≡ has_magic g a d
  unfolding has_magic
  magic_other d differ = ap (λ (w : ℕ). w == right_magic g d) (slot-other g (sizes g) a b c same d (slots g - 2) differ (omega (arith, (sizes g).slots_fit)))

  pub entry_other : (p : ℕ) → block_of g p ≢ c → entry_of g b p ≡ entry_of g a p
  unfolding entry_of
  entry_other p differ = slot-other g (sizes g) a b c same (block_of g p) (place_of g p - lookups g) differ (entry_slot g p)

  pub free_entry_other : (p : ℕ) → block_of g p ≢ c → is_free_entry g b p ≡ is_free_entry g a p
  free_entry_other p differ = rw (entry_other p differ, page_other p differ) refl

  pub free_block_other : (d : ℕ) → d < g.blocks → d ≢ c → is_free_block g b d ≡ is_free_block g a d
  unfolding is_free_block
  free_block_other d low differ =
      let all = all_same (λ (q : ℕ). is_free_entry g a q) (λ (q : ℕ). is_free_entry g b q) (d * per_block g + lookups g) (entries g)
      (λ q from to. free_entry_other q (λ e. differ (sym (entry_in g d q low from to).0 ∙ e))) in
      rw (magic_other d differ, all) refl
    where
      all_same : (test now : ℕ → Bool) (x n : ℕ) → ((q : ℕ) → x ≤ q → q < x + n → now q ≡ test q) → list_all now (range_with_len x n) ≡ list_all test (range_with_len x n)
      all_same test now x zero h = refl
      all_same test now x (suc n) h = rw (h x (omega arith) (omega arith)) (ap (λ (r : Bool). test x && r) (all_same test now (x + 1) n (λ q low high. h q (omega arith) (omega arith))))

-- ---- a free block

module _ (g : Geometry) (b : List ℕ) (c : ℕ) (free : is_free_block g b c ≡ true) where
  pub free_magic : has_magic g b c ≡ true
  unfolding is_free_block
  free_magic = (and_parts _ _ free).0

  pub free_entry_at : (p : ℕ) → is_entry_page g p ≡ true → block_of g p ≡ c → is_free_entry g b p ≡ true
  unfolding is_free_block
  free_entry_at p page here =
      let w = subst (λ (d : ℕ). (d * per_block g + lookups g ≤ p) × (p < d * per_block g + lookups g + entries g)) here (entry_of_block g p page) in
      all-at (λ (q : ℕ). is_free_entry g b q) (c * per_block g + lookups g) (entries g) (and_parts _ _ free).1 p w.0 w.1

  pub free_dead : (p : ℕ) → block_of g p ≡ c → live_at g b p ≡ None
  free_dead p here = dead (live_at g b p) refl
    where
      dead : (o : Option (List ℕ)) → live_at g b p ≡ o → live_at g b p ≡ None
      dead None e = e
      dead (Some page) e = free_is_dead g b p (eqb-true _ 0xFFFF (and_parts _ _ (free_entry_at p (live_parts g b p page e).entry_page here)).0)
