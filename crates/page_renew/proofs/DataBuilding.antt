-- The copies in the bytes for work.
use Rattle.std.proofs.Common.{◌≡◌, ℕ, ◌<◌, ◌≤◌, List, ◌++◌, length, take, slice_index, ap, sym, ◌∙◌, arith}
use Rattle.std.proofs.lemmas.List.{take_at, get_or-take, get_or_append_left}
use Rattle.geometry.specs.declared.geometry.Geometry.{Geometry}
use Rattle.table_model.specs.declared.error.Tag.{Tag}
use Rattle.nor_core.specs.Flash.{SameOutside}
use Rattle.image_model.specs.Within.{sizes, page_length}
use Rattle.image_model.specs.Places.{page_of, IsImage}
use Rattle.image_model.specs.Files.{slot_at}
use Rattle.image_laws.specs.Reindex.{slot_word}
use Rattle.image_laws.proofs.Frames.{LivePage, live_parts}
use Rattle.image_laws.proofs.Placing.{page_byte}
use Rattle.page_renew.specs.Built.{IsBuilt, IsLoaded, IsNamed, IsRenamed}

pub loaded_by : (g : Geometry) (image : List ℕ) (page : ℕ) (work built : List ℕ) → take g.page work ≡ page_of g image page → built ≡ take g.page work → ((k : ℕ) → slice_index built k < 256) → IsLoaded g image page work
loaded_by g image page work built same is small = record {
  same = same;
  small = λ k below. rw (← get_or-take g.page work k 0 below, ← is) (small k);
  flags =
      let big : 128 ≤ g.page = (sizes g).page in
      rw (← page_byte g image page 4 (omega arith), ← same, ← is) (small 4);
}

pub renamed_by : (g : Geometry) (image : List ℕ) (index span to : ℕ) (tag : Tag) (n : ℕ) (plain page rest : List ℕ) → IsImage g image → IsBuilt g image index tag plain → n ≡ g.page → slot_word g page span ≡ to →
    SameOutside (slot_at g span) 2 (take n plain) page → ((k : ℕ) → slice_index page k < 256) → IsRenamed g image index span to (page ++ rest)
renamed_by g image index span to tag n plain page rest is built whole entry others small =
    let parts : LivePage g image index built.old = live_parts g image index built.old built.live in
    let around : SameOutside (slot_at g span) 2 (take g.page plain) page = rw whole at others in
    let len : length page ≡ g.page = around.size ∙ built.copied.size ∙ ap length (sym parts.bytes) ∙ page_length g image index is parts.entry_page in
    let cut : take g.page (page ++ rest) ≡ page = take_at page rest g.page len in
    record {
      tag = tag;
      plain = plain;
      built = built;
      entry = rw cut entry;
      others = rw cut around;
      small = λ k below. rw (get_or_append_left page rest 0 k (omega (arith, below, len))) (small k);
    }

pub named_by : (g : Geometry) (span to n : ℕ) (work page rest : List ℕ) → n ≡ g.page → length (take g.page work) ≡ g.page → slot_word g page span ≡ to → SameOutside (slot_at g span) 2 (take n work) page →
    ((k : ℕ) → slice_index page k < 256) → IsNamed g span to (take g.page work) (take g.page (page ++ rest))
named_by g span to n work page rest whole len entry others small =
    let around : SameOutside (slot_at g span) 2 (take g.page work) page = rw whole at others in
    let cut : take g.page (page ++ rest) ≡ page = take_at page rest g.page (around.size ∙ len) in
    record { entry = rw cut entry; others = rw cut around; small = λ k. rw cut (small k) }
