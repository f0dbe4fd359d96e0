-- No id is damaged exactly where no page has the mark of a damaged file.
use Rattle.std.proofs.Common.{◌≡◌, ◌≢◌, ℕ, ◌<◌, ◌≤◌, List, [], Option, Some, None, sym, ◌∙◌, refl, arith}
use Rattle.std.specs.Prelude.{slice_index}
use Rattle.std.specs.Option.{option_map}
use Rattle.std.proofs.lemmas.Bool.{lt-ltb}
use Rattle.std.proofs.lemmas.Option.{none-some}
use Rattle.geometry.specs.declared.geometry.Geometry.{Geometry}
use Rattle.geometry.specs.Numbers.{page_count}
use Rattle.image_model.specs.declared.damage.Damage.{Damage}
use Rattle.image_model.specs.Live.{live_at, own}
use Rattle.image_model.specs.Files.{index_page}
use Rattle.image_model.specs.Tables.{has_of, damage, damages, damaged_of}
use Rattle.image_laws.proofs.Records.{filter_map-nil}
use Rattle.image_laws.proofs.Undamaged.{filter_map-none}
use Rattle.flash_view.specs.Found.{headed}
use Rattle.file_find.specs.Marks.{IsMarked, cause_at, mark_of}
use Rattle.file_find.proofs.Heads.{header_parts, mark_head}
use Rattle.file_find.proofs.Holders.{cause_other, unlisted_some}
use Rattle.file_find.proofs.Marking.{has_none, mark_none}
use Rattle.file_find.proofs.Wholes.{head_within}

no_cause : (o : Option (ℕ × Damage)) → option_map (λ (d : ℕ × Damage). d.1) o ≡ None → o ≡ None
no_cause None e = refl
no_cause (Some d) e = absurd (none-some d.1 (sym e))

module _ (g : Geometry) (image marks : List ℕ) (marked : IsMarked g image marks)
    (whole : (p : ℕ) → p < page_count g → slice_index marks p ≢ 1) (single : (p : ℕ) → p < page_count g → slice_index marks p ≢ 2) where
  -- an id with this header page, or with none
  none_by : (id : ℕ) (o : Option ℕ) → index_page g (own (live_at g image) id) 0 ≡ o → damage (has_of g (live_at g image)) 0x7FFF id (has_of g (live_at g image) id) ≡ None
  unfolding cause_at
  none_by id None at = rw (has_none g (live_at g image) id at) refl
  none_by id (Some p) at =
      let low = (header_parts g image id p at).1 in
      no_cause (damage (has_of g (live_at g image)) 0x7FFF id (has_of g (live_at g image) id))
      (sym (cause_other g image id p (slice_index marks p) at (marked.each p low) (whole p low) (single p low)))

  pub none_damaged : damaged_of g image ≡ []
  unfolding damaged_of damages
  none_damaged = filter_map-none (λ (id : ℕ). damage (has_of g (live_at g image)) 0x7FFF id (has_of g (live_at g image) id)) 1 0x7FFF
      (λ id low high. none_by id (index_page g (own (live_at g image) id) 0) refl)

-- the other way: no id is damaged, so no page has the mark of one that is
module _ (g : Geometry) (image marks : List ℕ) (marked : IsMarked g image marks) (undamaged : damaged_of g image ≡ []) where
  -- no id has a cause of damage
  no_cause_at : (id : ℕ) → 1 ≤ id → id ≤ 0x7FFF → cause_at g image id ≡ None
  unfolding cause_at damaged_of damages
  no_cause_at id low high =
      rw (filter_map-nil (λ (j : ℕ). damage (has_of g (live_at g image)) 0x7FFF j (has_of g (live_at g image) j)) 1 0x7FFF undamaged id low (omega (arith, high))) refl

  -- so no page has the mark 1 or 2: one that tells no id has 0, and of one that is marked the id would have a cause
  no_mark_by : (p mark : ℕ) (o : Option ℕ) → headed (live_at g image p) ≡ o → mark ≡ mark_of g image p → mark ≢ 0 → mark < 3 → ⊥
  no_mark_by p mark None at is some few = some (is ∙ sym (mark_none g image p (sym at)))
  no_mark_by p mark (Some id) at is some few =
      let within = head_within g image p id at in
      let first = mark_head g image p id at (λ z. some (is ∙ z)) in
      let cause = unlisted_some g image id p mark first is (rw (lt-ltb mark 3 few) refl) in
      none-some cause.0 (sym (no_cause_at id within.0 within.1) ∙ sym cause.1)

  pub no_mark : (mark : ℕ) → mark ≢ 0 → mark < 3 → (p : ℕ) → p < page_count g → slice_index marks p ≢ mark
  no_mark mark some few p low is = no_mark_by p mark (headed (live_at g image p)) refl (sym is ∙ marked.each p low) some few
