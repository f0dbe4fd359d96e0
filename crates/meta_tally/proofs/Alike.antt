-- What doesn't go by the meta bytes.
use Rattle.std.specs.Prelude.{filter, is_some}
use Rattle.std.specs.List.{range_with_len}
use Rattle.std.proofs.Common.{◌≡◌, ℕ, Bool, length, List, Option, ap, refl, sym, ◌∙◌}
use Rattle.std.proofs.Math.Path.{fun_ext}
use Rattle.geometry.specs.declared.geometry.Geometry.{Geometry}
use Rattle.geometry.specs.Numbers.{per_block, lookups, page_count, IsOf}
use Rattle.geometry.proofs.Geometries.{same_numbers}
use Rattle.image_model.specs.Places.{IsImage, page_of, slot_of, entry_of, is_entry_page, has_magic}
use Rattle.image_model.specs.Live.{Live, live_at, is_live}
use Rattle.image_model.specs.Files.{index_page}
use Rattle.meta_tally.specs.Heads.{head_at, head_count}
use Rattle.meta_tally.specs.Names.{IsMarked, mark_at, is_named_at}
use Rattle.meta_tally.specs.Counted.{IsAlike}

module _ (g h : Geometry) (same : IsAlike g h) where
  pub same_pages : page_count h ≡ page_count g
  unfolding page_count per_block
  same_pages = rw (same.page_is, same.block_is, same.blocks_is) refl

  pub same_page : (image : List ℕ) (p : ℕ) → page_of h image p ≡ page_of g image p
  unfolding page_of
  same_page image p = rw same.page_is refl

  pub same_live : (image : List ℕ) → live_at h image ≡ live_at g image
  unfolding live_at is_live page_of slot_of entry_of is_entry_page has_magic page_count per_block lookups
  same_live image = fun_ext (λ (p : ℕ). rw (same.page_is, same.block_is, same.blocks_is, same.magic_is) refl)

  same_index : (pages : Live) (span : ℕ) → index_page h pages span ≡ index_page g pages span
  unfolding index_page
  same_index pages span = rw same_pages refl

  pub same_head : (image : List ℕ) (p : ℕ) → head_at h image p ≡ head_at g image p
  unfolding head_at
  same_head image p = rw (same_page image p, same_live image, same_index) refl

  pub same_count : (image : List ℕ) → head_count h image ≡ head_count g image
  unfolding head_count
  same_count image =
      ap (λ (n : ℕ). length (filter (λ (p : ℕ). is_some (head_at h image p)) (range_with_len 0 n))) same_pages
      ∙ ap (λ (t : ℕ → Bool). length (filter t (range_with_len 0 (page_count g)))) (fun_ext (λ (p : ℕ). ap (λ (o : Option ℕ). is_some o) (same_head image p)))

  pub same_named : (image name : List ℕ) (p : ℕ) → is_named_at h image name p ≡ is_named_at g image name p
  unfolding is_named_at
  same_named image name p = rw (same_head image p, same_page image p) refl

  pub same_marked : (image marks : List ℕ) → IsMarked g image marks → IsMarked h image marks
  unfolding mark_at
  same_marked image marks are = record {
    len = rw same_pages are.len;
    each = λ p low. are.each p (rw same_pages at low) ∙ (rw (same_head image p, same_page image p) refl);
  }

  pub same_image : (image : List ℕ) → IsImage g image → IsImage h image
  same_image image is = record { len = rw (same.blocks_is, same.block_is) is.len }

-- two with the same meta bytes are one
pub one_alike : (g h k : Geometry) → IsAlike g h → IsAlike g k → h.meta ≡ k.meta → h ≡ k
one_alike g h k one two meta =
    same_numbers h k (one.page_is ∙ sym two.page_is) (one.block_is ∙ sym two.block_is) (one.blocks_is ∙ sym two.blocks_is) (one.phys_is ∙ sym two.phys_is) meta (one.magic_is ∙ sym two.magic_is)

-- the same volume with so many meta bytes
pub alike_of : (g h : Geometry) (meta : ℕ) → IsOf h g.page g.block g.blocks g.phys meta g.magic → IsAlike g h
alike_of g h meta is = record { page_is = is.page_is; block_is = is.block_is; blocks_is = is.blocks_is; phys_is = is.phys_is; meta_is = refl; magic_is = is.magic_is }

pub same_mark : (g h : Geometry) → IsAlike g h → (image : List ℕ) (p : ℕ) → mark_at h image p ≡ mark_at g image p
unfolding mark_at
same_mark g h same image p = rw (same_head g h same image p, same_page g h same image p) refl
