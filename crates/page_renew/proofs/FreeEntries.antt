-- The copy of an index page has free entries behind the last one that is kept.
use Rattle.std.proofs.Common.{◌≡◌, ◌≢◌, ℕ, ◌+◌, ◌-◌, ◌*◌, ◌/◌, ◌%◌, ◌<◌, ◌≤◌, List, set, min, slice_index, refl, ◌∙◌, arith, get_or-set_other}
use Rattle.std.proofs.Math.Nat.{div-add-mod}
use Rattle.std.proofs.lemmas.Bool.{le-ltb, ne_eqb}
use Rattle.geometry.specs.declared.geometry.Geometry.{Geometry}
use Rattle.geometry.specs.Numbers.{head_slots, span_slots}
use Rattle.page_layout.specs.Layout.{slot_place}
use Rattle.image_model.specs.Within.{sizes}
use Rattle.image_model.specs.Headers.{span_of}
use Rattle.image_model.specs.Files.{further, index_span, slot_at}
use Rattle.page_renew.specs.Copies.{kept_of, IsCopy}

-- the entries that are kept end at or before the place of one behind them
kept_below : (near each n t span : ℕ) → near ≤ t → n ≤ t → (t - near) / each + 1 ≡ span → 8 + 2 * min (n - (near + (span - 1) * each)) each ≤ 8 + 2 * ((t - near) % each)
kept_below near each n t span high past at =
    let whole : each * ((t - near) / each) + (t - near) % each ≡ t - near = div-add-mod (t - near) each in
    let same : span - 1 ≡ (t - near) / each = omega (arith, at) in
    rw same (omega (arith, whole, high, past))

module _ (g : Geometry) (old y new : List ℕ) (count : ℕ) (copy : IsCopy g (span_of old) (kept_of g (span_of old) count) old y) (sets : new ≡ set y 4 0xF8) where
  -- in a further index page, and so are all behind it
  pub free_behind : (t k : ℕ) → head_slots g ≤ t → count ≤ t → index_span g t ≡ span_of old → slot_at g t ≤ k → k < g.page → slice_index new k ≡ 0xFF
  free_behind t k high past at low below =
      let there : further g t ≡ span_of old = rw (le-ltb t (head_slots g) high) at at in
      let more : span_of old ≢ 0 = λ z. omega (arith, z, there) in
      let kept : slot_place g (span_of old) (kept_of g (span_of old) count) ≡ 8 + 2 * min (count - (head_slots g + (span_of old - 1) * span_slots g)) (span_slots g) = rw (ne_eqb (span_of old) 0 more) refl in
      let place : slot_at g t ≡ 8 + 2 * ((t - head_slots g) % span_slots g) = rw (le-ltb t (head_slots g) high) refl in
      let less = kept_below (head_slots g) (span_slots g) count t (span_of old) high past there in
      rw sets (get_or-set_other y 4 k 0xF8 0 (λ e. omega (arith, e, low, place)) ∙ copy.erased k (omega (arith, low, kept, place, less)) below)
