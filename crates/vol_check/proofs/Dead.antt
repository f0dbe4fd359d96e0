-- Dead entries by their parts.
use Rattle.std.proofs.Common.{◌≡◌, ℕ, ◌+◌, ◌*◌, ◌<◌, ◌≤◌, List, slice_index, Bool, true, false, not, if◌then◌else◌, ◌==◌, ◌&&◌, ap, refl, sym, ◌∙◌, subst, arith}
use Rattle.std.specs.Prelude.{is_none, Some, None}
use Rattle.geometry.specs.declared.geometry.Geometry.{Geometry}
use Rattle.geometry.specs.Numbers.{per_block}
use Rattle.page_layout.specs.declared.header.PageHeader.{PageHeader}
use Rattle.page_layout.specs.Layout.{header_at, bits_of, is_finished as is_finished_head}
use Rattle.image_model.specs.Within.{sizes, block_number, page_number}
use Rattle.image_model.specs.Places.{page_of, block_of, has_magic, entry_of, is_entry_page}
use Rattle.image_model.specs.Live.{live_at, is_live}
use Rattle.image_model.specs.Killed.{is_used, is_dead_entry}
use Rattle.flash_view.specs.Places.{IsEntryPage}
use Rattle.image_laws.proofs.Placing.{page_byte}
use Rattle.flash_view.proofs.Heads.{entry_page_told}
use Rattle.flash_view.proofs.Parts.{finished_is}
use Rattle.vol_check.specs.Stage.{is_taken_entry}
use Rattle.vol_check.specs.Works.{MayClean}

-- a lookup page has no entry
pub lookup_is_not_dead : (g : Geometry) (a : List ℕ) (p : ℕ) → is_entry_page g p ≡ false → false ≡ is_dead_entry g a p
unfolding is_used
lookup_is_not_dead g a p e = rw e refl

-- each block has its magic, that of a page too
pub page_magic : (own : Bool) (g : Geometry) (a : List ℕ) (p : ℕ) → MayClean own g a → IsEntryPage g p → has_magic g a (block_of g p) ≡ true
page_magic own g a p may place = may.magics (block_of g p) (block_number g p (page_number g p (entry_page_told g p place)))

none_if : (page : List ℕ) (live : Bool) → is_none (if live then Some page else None) ≡ not live
none_if page true = refl
none_if page false = refl

-- the entry of a page that has its block's magic
pub dead_told : (g : Geometry) (a : List ℕ) (p : ℕ) → IsEntryPage g p → has_magic g a (block_of g p) ≡ true → (is_taken_entry g a p && not (is_live g a p)) ≡ is_dead_entry g a p
unfolding is_used per_block live_at
dead_told g a p place magic = rw (entry_page_told g p place, magic, none_if) refl

-- ---- a page by its entry and its header

pub alive_told : (g : Geometry) (a : List ℕ) (p entry : ℕ) (head : PageHeader) → IsEntryPage g p → has_magic g a (block_of g p) ≡ true → entry ≡ entry_of g a p → head ≡ header_at (page_of g a p) →
    ((entry == head.id) && is_finished_head head) ≡ is_live g a p
unfolding is_live
alive_told g a p entry head place magic named is = rw (entry_page_told g p place, magic, named, is, finished_is (page_of g a p)) refl

pub byte_told : (g : Geometry) (a : List ℕ) (p : ℕ) (head : PageHeader) → head ≡ header_at (page_of g a p) → bits_of head.flags < 256 → slice_index a (p * g.page + 4) < 256
byte_told g a p head is small =
    let size : 128 ≤ g.page = (sizes g).page in
    let there : slice_index (page_of g a p) 4 ≡ slice_index a (p * g.page + 4) = page_byte g a p 4 (omega arith) in
    let flag : bits_of head.flags ≡ slice_index (page_of g a p) 4 = ap (λ (h : PageHeader). bits_of h.flags) is in
    omega (arith, there, flag, small)

-- the entry of a page is dead by what was read of it
pub dead_by : (g : Geometry) (a : List ℕ) (p : ℕ) (taken alive : Bool) → IsEntryPage g p → has_magic g a (block_of g p) ≡ true → taken ≡ is_taken_entry g a p → taken ≡ true → (has_magic g a (block_of g p) ≡ true → alive ≡ is_live g a p) →
    not alive ≡ is_dead_entry g a p
unfolding per_block
dead_by g a p taken alive place magic told used lives = ap not (lives magic) ∙ subst (λ (x : Bool). (x && not (is_live g a p)) ≡ is_dead_entry g a p) (sym told ∙ used) (dead_told g a p place magic)

-- and one that isn't in use is not
pub untaken_is_not_dead : (g : Geometry) (a : List ℕ) (p : ℕ) (taken : Bool) → IsEntryPage g p → has_magic g a (block_of g p) ≡ true → taken ≡ is_taken_entry g a p → taken ≡ false → taken ≡ is_dead_entry g a p
unfolding per_block
untaken_is_not_dead g a p taken place magic told none = none ∙ subst (λ (x : Bool). (x && not (is_live g a p)) ≡ is_dead_entry g a p) (sym told ∙ none) (dead_told g a p place magic)
