-- The programs of a page that is placed, one after the other.
use Rattle.std.proofs.Common.{◌≡◌, ℕ, ◌+◌, ◌*◌, ◌/◌, ◌%◌, ◌<◌, List, [], ◌∷◌, slice_range, inl, inr, refl, ◌∙◌, ap, subst, arith, add-zero}
use Rattle.std.specs.Int.{to_le_bytes, w16}
use Rattle.geometry.specs.declared.geometry.Geometry.{Geometry}
use Rattle.table_model.specs.declared.error.Tag.{Tag}
use Rattle.nor_core.specs.Flash.{HalfProgrammed, programmed}
use Rattle.nor_core.specs.declared.state.NorState.{Ghosts as NorOf}
use Rattle.nor_core.specs.Device.{Changes}
use Rattle.nor_core.proofs.Cuts.{wider, go_on}
use Rattle.image_model.specs.Places.{entry_at}
use Rattle.flash_view.specs.declared.kinds.Kind.{Kind}
use Rattle.flash_view.specs.Places.{page_start}
use Rattle.page_layout.specs.declared.header.PageHeader.{PageHeader}
use Rattle.page_layout.specs.Layout.{bits_of}
use Rattle.page_put.specs.Placing.{placed_id, placed_flags, placed_header, placed_page, with_entry, with_header, with_page, IsPlacing}

-- the two bytes of an id
id_bytes : (id asked : ℕ) → asked ≡ id → asked < 65536 → to_le_bytes w16 asked ≡ id % 256 ∷ id / 256 ∷ []
id_bytes id asked is small = let high : asked / 256 % 256 ≡ id / 256 = omega arith in cc

-- the five bytes of a header
pub header_bytes : (kind : Kind) (tag : Tag) (head : PageHeader) (bytes : List ℕ) → bytes ≡ head.id % 256 ∷ head.id / 256 ∷ head.span % 256 ∷ head.span / 256 ∷ bits_of head.flags ∷ [] →
    head.id ≡ placed_id kind tag.id → head.span ≡ tag.span → bits_of head.flags ≡ placed_flags kind → bytes ≡ placed_header kind tag
header_bytes kind tag head bytes is id span flags = is ∙ rw (id, span, flags) refl

-- the same program, written otherwise
same_program : {D : Type 0} {nor : NorOf D} {old new : D} {at to : ℕ} {asked bytes : List ℕ} → at ≡ to → asked ≡ bytes → Changes nor old new (HalfProgrammed at asked) → Changes nor old new (HalfProgrammed to bytes)
same_program {nor = nor} {old = old} {new = new} {at = at} {to = to} {asked = asked} {bytes = bytes} there same done =
    subst (λ (n : ℕ). Changes nor old new (HalfProgrammed n bytes)) there (subst (λ (l : List ℕ). Changes nor old new (HalfProgrammed at l)) same done)

module _ {D : Type 0} {nor : NorOf D} (g : Geometry) (p : ℕ) (kind : Kind) (tag : Tag) (built : List ℕ) where
  -- the entry
  module _ {old mid : D} (asked : ℕ) (is : asked ≡ placed_id kind tag.id) (small : asked < 65536) (first : Changes nor old mid (HalfProgrammed (entry_at g p) (to_le_bytes w16 asked))) where
    pub cut1 : Changes nor old mid (IsPlacing g p (placed_page g kind tag built))
    cut1 = wider (same_program refl (id_bytes _ asked is small) first) (λ tells image half. inl half)

    -- the header after it
    module _ (done : nor.tells old → nor.bytes mid ≡ programmed (nor.bytes old) (entry_at g p) (to_le_bytes w16 asked)) where
      entry_stands : nor.tells old → nor.bytes mid ≡ with_entry g p (placed_page g kind tag built) (nor.bytes old)
      entry_stands tells = rw (← id_bytes (placed_id kind tag.id) asked is small) (done tells)

      module _ {next : D} (g1 : Geometry) (same : g1 ≡ g) (bytes : List ℕ) (head : bytes ≡ placed_header kind tag) (second : Changes nor mid next (HalfProgrammed (page_start g1 p + 0) bytes)) where
        place1 : page_start g1 p + 0 ≡ p * g.page
        place1 = add-zero _ ∙ ap (λ (x : Geometry). p * x.page) same

        pub cut2 : Changes nor old next (IsPlacing g p (placed_page g kind tag built))
        cut2 = go_on cut1 (same_program place1 head second) (λ tells image before half. inr (inl (subst (λ (l : List ℕ). HalfProgrammed (p * g.page) (placed_header kind tag) l image) (entry_stands tells) half)))

        -- the rest after both
        module _ (done2 : nor.tells mid → nor.bytes next ≡ programmed (nor.bytes mid) (page_start g1 p + 0) bytes) where
          header_stands : nor.tells old → nor.bytes next ≡ with_header g p (placed_page g kind tag built) (nor.bytes old)
          header_stands tells =
              done2 (first.cuts.told tells)
              ∙ ap (λ (n : ℕ). programmed (nor.bytes mid) n bytes) place1
              ∙ ap (λ (l : List ℕ). programmed (nor.bytes mid) (p * g.page) l) head
              ∙ ap (λ (l : List ℕ). programmed l (p * g.page) (placed_header kind tag)) (entry_stands tells)

          module _ {new : D} (g2 : Geometry) (same2 : g2 ≡ g) (work : List ℕ) (kept : work ≡ built) (third : Changes nor next new (HalfProgrammed (page_start g2 p + 5) (slice_range work 5 g2.page))) where
            place2 : page_start g2 p + 5 ≡ p * g.page + 5
            place2 = ap (λ (x : Geometry). p * x.page + 5) same2

            rest : slice_range work 5 g2.page ≡ slice_range built 5 g.page
            rest = ap (λ (x : Geometry). slice_range work 5 x.page) same2 ∙ ap (λ (l : List ℕ). slice_range l 5 g.page) kept

            pub cut3 : Changes nor old new (IsPlacing g p (placed_page g kind tag built))
            cut3 = go_on cut2 (same_program place2 rest third) (λ tells image before half. inr (inr (subst (λ (l : List ℕ). HalfProgrammed (p * g.page + 5) (slice_range built 5 g.page) l image) (header_stands tells) half)))

            pub done3 : nor.tells old → nor.bytes new ≡ programmed (nor.bytes next) (page_start g2 p + 5) (slice_range work 5 g2.page) → nor.bytes new ≡ with_page g p (placed_page g kind tag built) (nor.bytes old)
            done3 tells is3 =
                is3
                ∙ ap (λ (n : ℕ). programmed (nor.bytes next) n (slice_range work 5 g2.page)) place2
                ∙ ap (λ (l : List ℕ). programmed (nor.bytes next) (p * g.page + 5) l) rest
                ∙ ap (λ (l : List ℕ). programmed l (p * g.page + 5) (slice_range built 5 g.page)) (header_stands tells)
