-- Which numbers of blocks make a volume of a shape that can be written.
use Rattle.std.proofs.Common.{◌≡◌, ◌≢◌, ℕ, ◌*◌, ◌≤◌, Bool, true, false, not, Option, Some, None, refl, sym, ◌∙◌, ap, arith}
use Rattle.std.specs.Prelude.{nat_lt, if◌then◌else◌}
use Rattle.std.specs.Option.{option_or}
use Rattle.std.proofs.Math.Nat.{mul-le-mul_right}
use Rattle.std.proofs.lemmas.Bool.{ltb-false, le-ltb}
use Rattle.std.proofs.lemmas.Option.{none-some}
use Rattle.geometry.specs.declared.geometry.Geometry.{Geometry}
use Rattle.geometry.specs.declared.magic.MagicKind.{MagicKind}
use Rattle.geometry.specs.declared.error.GeoErr.{GeoErr}
use Rattle.geometry.specs.declared.error.GeoErr.TheVariants.{BadPage, BadBlock, TooFewBlocks, TooManyPages, NoRoomForMagic, BadMeta, TooManyUsable, TooFewToWrite}
use Rattle.geometry.specs.Rules.{pages_in, entries_in, is_page, is_block, has_magic_room}
use Rattle.geometry.specs.Numbers.{per_block, lookups, entries, usable, refusal, write_refusal, IsOf}
use Rattle.folder_size.specs.declared.told.Shape.{Shape}
use Rattle.folder_size.specs.Needs.{HasShape, usable_refusal, written_refusal}

-- ---- the rules that numbers keep which are not refused

-- each of the rules, by whether it is kept or broken
record AllKept (page block few many room meta usable four : Bool) : Type 0 where
  page_fine : page ≡ true
  block_fine : block ≡ true
  not_few : few ≡ false
  not_many : many ≡ false
  room_fine : room ≡ true
  meta_fine : meta ≡ false
  usable_fine : usable ≡ false
  four_fine : four ≡ false

-- the first rule that is broken
abbrev first_broken : (page block few many room meta usable four : Bool) → Option GeoErr
first_broken page block few many room meta usable four = option_or
    (if not page then Some BadPage else if not block then Some BadBlock else if few then Some TooFewBlocks else if many then Some TooManyPages
    else if not room then Some NoRoomForMagic else if meta then Some BadMeta else None)
    (if usable then Some TooManyUsable else if four then Some TooFewToWrite else None)

none_broken : (page block few many room meta usable four : Bool) → first_broken page block few many room meta usable four ≡ None → AllKept page block few many room meta usable four
none_broken false block few many room meta usable four is = absurd (none-some BadPage (sym is))
none_broken true false few many room meta usable four is = absurd (none-some BadBlock (sym is))
none_broken true true true many room meta usable four is = absurd (none-some TooFewBlocks (sym is))
none_broken true true false true room meta usable four is = absurd (none-some TooManyPages (sym is))
none_broken true true false false false meta usable four is = absurd (none-some NoRoomForMagic (sym is))
none_broken true true false false true true usable four is = absurd (none-some BadMeta (sym is))
none_broken true true false false true false true four is = absurd (none-some TooManyUsable (sym is))
none_broken true true false false true false false true is = absurd (none-some TooFewToWrite (sym is))
none_broken true true false false true false false false is = record { page_fine = refl; block_fine = refl; not_few = refl; not_many = refl; room_fine = refl; meta_fine = refl; usable_fine = refl; four_fine = refl }

all_kept : (page block few many room meta usable four : Bool) → AllKept page block few many room meta usable four → first_broken page block few many room meta usable four ≡ None
all_kept page block few many room meta usable four is = rw (is.page_fine, is.block_fine, is.not_few, is.not_many, is.room_fine, is.meta_fine, is.usable_fine, is.four_fine) refl

-- so many blocks make a volume of a shape that can be written
pub record IsVolumeOf (shape : Shape) (n : ℕ) : Type 0 where
  pub page : is_page shape.page ≡ true
  pub block : is_block shape.page shape.block shape.phys ≡ true
  pub few_pages : n * pages_in shape.page shape.block ≤ 65535
  pub room : has_magic_room shape.page shape.block ≡ true
  pub meta : nat_lt 64 shape.meta ≡ false
  pub few_entries : n * entries_in shape.page shape.block ≤ 32766
  pub some : 4 ≤ n

pub kept : (shape : Shape) (n : ℕ) → written_refusal shape n ≡ None → IsVolumeOf shape n
unfolding written_refusal
kept shape n is =
    let w = none_broken (is_page shape.page) (is_block shape.page shape.block shape.phys) (nat_lt n 3) (nat_lt 65535 (n * pages_in shape.page shape.block)) (has_magic_room shape.page shape.block) (nat_lt 64 shape.meta) (nat_lt 32766 (n * entries_in shape.page shape.block)) (nat_lt n 4) is in
    record {
      page = w.page_fine;
      block = w.block_fine;
      few_pages = ltb-false 65535 (n * pages_in shape.page shape.block) w.not_many;
      room = w.room_fine;
      meta = w.meta_fine;
      few_entries = ltb-false 32766 (n * entries_in shape.page shape.block) w.usable_fine;
      some = ltb-false n 4 w.four_fine;
    }

pub not_refused : (shape : Shape) (n : ℕ) → IsVolumeOf shape n → written_refusal shape n ≡ None
unfolding written_refusal
not_refused shape n is = all_kept (is_page shape.page) (is_block shape.page shape.block shape.phys) (nat_lt n 3) (nat_lt 65535 (n * pages_in shape.page shape.block)) (has_magic_room shape.page shape.block) (nat_lt 64 shape.meta) (nat_lt 32766 (n * entries_in shape.page shape.block)) (nat_lt n 4) (record {
  page_fine = is.page;
  block_fine = is.block;
  not_few = le-ltb n 3 (omega (arith, is.some));
  not_many = le-ltb 65535 (n * pages_in shape.page shape.block) is.few_pages;
  room_fine = is.room;
  meta_fine = is.meta;
  usable_fine = le-ltb 32766 (n * entries_in shape.page shape.block) is.few_entries;
  four_fine = le-ltb n 4 is.some;
})

-- fewer blocks do too, while there are four
pub fewer_kept : (shape : Shape) (n m : ℕ) → IsVolumeOf shape n → m ≤ n → 4 ≤ m → IsVolumeOf shape m
fewer_kept shape n m is less four = record {
  page = is.page;
  block = is.block;
  few_pages = omega (arith, mul-le-mul_right (pages_in shape.page shape.block) less, is.few_pages);
  room = is.room;
  meta = is.meta;
  few_entries = omega (arith, mul-le-mul_right (entries_in shape.page shape.block) less, is.few_entries);
  some = four;
}

-- where four blocks make none, no number does
pub none_at_all : (shape : Shape) (why : GeoErr) → written_refusal shape 4 ≡ Some why → (n : ℕ) → written_refusal shape n ≢ None
none_at_all shape why is n none =
    let w = kept shape n none in
    none-some why (sym (not_refused shape 4 (fewer_kept shape n 4 w w.some (omega arith))) ∙ is)

-- ---- the same of geometries

pub per_block-is : (g : Geometry) (shape : Shape) → HasShape g shape → per_block g ≡ pages_in shape.page shape.block
unfolding per_block
per_block-is g shape has = ap (λ (p : ℕ). pages_in p g.block) has.page_is ∙ ap (λ (b : ℕ). pages_in shape.page b) has.block_is

pub entries-is : (g : Geometry) (shape : Shape) → HasShape g shape → entries g ≡ entries_in shape.page shape.block
unfolding entries per_block lookups
entries-is g shape has = ap (λ (p : ℕ). entries_in p g.block) has.page_is ∙ ap (λ (b : ℕ). entries_in shape.page b) has.block_is

pub shaped : (g : Geometry) (shape : Shape) (n : ℕ) (magic : MagicKind) → IsOf g shape.page shape.block n shape.phys shape.meta magic → HasShape g shape
shaped g shape n magic is = record { page_is = is.page_is; block_is = is.block_is; phys_is = is.phys_is; meta_is = is.meta_is }

-- why a volume of the shape can't be written
pub written_is : (g : Geometry) (shape : Shape) (n : ℕ) → HasShape g shape → g.blocks ≡ n → refusal shape.page shape.block n shape.phys shape.meta ≡ None → write_refusal g ≡ written_refusal shape n
unfolding written_refusal
written_is g shape n has blocks none =
    let all : usable g ≡ n * entries_in shape.page shape.block = ap (λ (b : ℕ). b * entries g) blocks ∙ ap (λ (e : ℕ). n * e) (entries-is g shape has) in
    ap (λ (u : ℕ). usable_refusal u g.blocks) all ∙ ap (λ (b : ℕ). usable_refusal (n * entries_in shape.page shape.block) b) blocks
    ∙ sym (ap (λ (o : Option GeoErr). option_or o (usable_refusal (n * entries_in shape.page shape.block) n)) none)

-- numbers that make no volume are refused so, too
pub refused_before : (shape : Shape) (n : ℕ) (why : GeoErr) → refusal shape.page shape.block n shape.phys shape.meta ≡ Some why → written_refusal shape n ≡ Some why
unfolding written_refusal
refused_before shape n why is = ap (λ (o : Option GeoErr). option_or o (usable_refusal (n * entries_in shape.page shape.block) n)) is

-- a volume that can be written has few entry pages
pub few_usable : (usable blocks : ℕ) → usable_refusal usable blocks ≡ None → usable ≤ 32766
few_usable usable blocks is = few_by usable (nat_lt 32766 usable) (nat_lt blocks 4) refl is
  where
    few_by : (usable : ℕ) (many four : Bool) → nat_lt 32766 usable ≡ many → (if many then Some TooManyUsable else if four then Some TooFewToWrite else None) ≡ None → usable ≤ 32766
    few_by usable true four at is = absurd (none-some TooManyUsable (sym is))
    few_by usable false four at is = ltb-false 32766 usable at
