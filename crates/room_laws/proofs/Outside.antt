-- A change inside a block leaves the pages of all other blocks.
use Rattle.std.proofs.Common.{◌≡◌, ◌≢◌, ℕ, ◌+◌, ◌-◌, ◌*◌, ◌/◌, ◌<◌, ◌≤◌, ◌⊎◌, List, true, ap, arith, ⊎_elim, inl, inr}
use Rattle.std.proofs.Math.Nat.{mul-le-mul_right}
use Rattle.std.proofs.lemmas.Nat.{div-mul-add}
use Rattle.std.proofs.lemmas.Bool.{cases_lt}
use Rattle.geometry.specs.declared.geometry.Geometry.{Geometry}
use Rattle.nor_core.specs.Flash.{SameOutside}
use Rattle.geometry.specs.Numbers.{per_block, lookups}
use Rattle.image_model.specs.Places.{block_of, place_of, is_entry_page, entry_of, page_of}
use Rattle.image_model.specs.Live.{live_at}
use Rattle.image_model.specs.Within.{sizes, entry_slot}
use Rattle.image_laws.proofs.Erase.{slot-other, live-other}
use Rattle.image_laws.proofs.Frames.{range-same}

-- a page of another block lies before the block or behind it
lies_outside : (P p block : ℕ) → 0 < P → (p / P ≡ block → ⊥) → (p < block * P) ⊎ (block * P + P ≤ p)
lies_outside P p block pos out = ⊎_elim
    (λ (low : p < block * P). inl low)
    (λ (from : block * P ≤ p). ⊎_elim
    (λ (up : p < block * P + P). let at : p ≡ block * P + (p - block * P) = omega arith in let bad : p / P ≡ block = rw at (div-mul-add block P (p - block * P) (omega arith)) in absurd (out bad))
    (λ (high : block * P + P ≤ p). inr high)
    (cases_lt p (block * P + P)))
    (cases_lt p (block * P))

bytes_stay : (g : Geometry) (was now : List ℕ) (block p : ℕ) → SameOutside (block * g.block) g.block was now → block_of g p ≢ block → page_of g now p ≡ page_of g was p
unfolding page_of
bytes_stay g was now block p same out =
    let whole : block * g.block ≡ block * (per_block g * g.page) = ap (λ (k : ℕ). block * k) (sizes g).block in
    let size : g.block ≡ per_block g * g.page = (sizes g).block in
    ⊎_elim
    (λ (before : p < block * per_block g). let m : (p + 1) * g.page ≤ block * per_block g * g.page = mul-le-mul_right g.page (omega arith) in
    range-same was now (p * g.page) g.page same.size (λ i from to. same.before i (omega (arith, whole, m, to))))
    (λ (after : block * per_block g + per_block g ≤ p). let m : (block * per_block g + per_block g) * g.page ≤ p * g.page = mul-le-mul_right g.page after in
    range-same was now (p * g.page) g.page same.size (λ i from to. same.after i (omega (arith, whole, size, m, from))))
    (lies_outside (per_block g) p block (omega (arith, (sizes g).lookups_fit)) out)

-- what an entry page has stays: its entry, its bytes, and whether it is live
pub record PageStays (g : Geometry) (was now : List ℕ) (p : ℕ) : Type 0 where
  pub entry : entry_of g now p ≡ entry_of g was p
  pub bytes : page_of g now p ≡ page_of g was p
  pub live : live_at g now p ≡ live_at g was p

pub others_stay : (g : Geometry) (was now : List ℕ) (block p : ℕ) → SameOutside (block * g.block) g.block was now → is_entry_page g p ≡ true → block_of g p ≢ block → PageStays g was now p
unfolding entry_of
others_stay g was now block p same entry out = record {
  entry = slot-other g (sizes g) was now block same (block_of g p) (place_of g p - lookups g) out (entry_slot g p);
  bytes = bytes_stay g was now block p same out;
  live = live-other g (sizes g) was now block same p out;
}
