-- How many pages the working file takes.
use Rattle.std.proofs.Common.{◌≡◌, ℕ, ◌+◌, ◌-◌, ◌*◌, ◌/◌, ◌%◌, ◌<◌, ◌≤◌, List, length, take, ◌∙◌, ap, arith, ⊎_elim, length-take}
use Rattle.std.specs.Prelude.{nat_lt, if◌then◌else◌, []}
use Rattle.std.proofs.Math.Nat.{div-add-mod}
use Rattle.std.proofs.lemmas.Bool.{cases_lt, lt-ltb, le-ltb}
use Rattle.geometry.specs.declared.geometry.Geometry.{Geometry}
use Rattle.geometry.specs.Numbers.{ceil, body, head_slots, span_slots}
use Rattle.table_model.specs.Table.{File}
use Rattle.table_model.specs.Room.{index_count, data_count, index_pages, data_pages}
use Rattle.image_model.specs.Within.{sizes}
use Rattle.image_laws.proofs.Serving.{ceil-mono}
use Rattle.room_laws.proofs.Totals.{ceil-is}
use Rattle.header_laws.specs.Sums.{Adds}
use Rattle.header_laws.proofs.AddsUp.{put-adds, new-adds}
use Rattle.call_model.proofs.Unused.{least-unused}
use Rattle.copy_model.specs.Copying.{working, front_of, begun}
use Rattle.copy_model.specs.Rooms.{FirstCounts, NextCounts}

pub first-counts : (g : Geometry) → FirstCounts g
first-counts g f files =
    let adds : Adds g files (begun g f files 0) 1 0 = new-adds g (front_of g files []).id working files (least-unused files) in
    record { index_are = adds.index_are; data_are = omega (arith, adds.data_are) }

-- index pages for so many data pages
abbrev index_for : Geometry → ℕ → ℕ
index_for g n = if nat_lt (head_slots g) n then 1 + ceil (n - head_slots g) (span_slots g) else 1

index_for-mono : (g : Geometry) (n m : ℕ) → n ≤ m → index_for g n ≤ index_for g m
index_for-mono g n m less =
    let big = (sizes g).page in
    ⊎_elim
    (λ (more : head_slots g < n).
    let further = ceil-mono (n - head_slots g) (m - head_slots g) (span_slots g) (omega (arith, big)) (omega (arith, less)) in
    rw (lt-ltb (head_slots g) n more, lt-ltb (head_slots g) m (omega (arith, more, less))) (omega (arith, further)))
    (λ (few : n ≤ head_slots g). rw (le-ltb (head_slots g) n few) (⊎_elim
    (λ (more : head_slots g < m). rw (lt-ltb (head_slots g) m more) (omega arith))
    (λ (few_too : m ≤ head_slots g). rw (le-ltb (head_slots g) m few_too) (omega arith))
    (cases_lt (head_slots g) m)))
    (cases_lt (head_slots g) n)

-- bytes from the start of a data page on take one more
next_page : (page at len : ℕ) → 0 < page → at % page ≡ 0 → 0 < len → len ≤ page → ceil (at + len) page ≡ ceil at page + 1
next_page page at len some whole more few =
    let parts : page * (at / page) + at % page ≡ at = div-add-mod at page in
    let before : ceil at page ≡ at / page = ceil-is at page (at / page) 0 (omega (arith, parts, whole)) some in
    let later : ceil (at + len) page ≡ at / page + 1 = ceil-is (at + len) page (at / page + 1) (page - len) (omega (arith, parts, whole, few)) (omega (arith, more, few)) in
    omega (arith, before, later)

-- what the first bytes add
begun-adds : (g : Geometry) (f : File) (files : List File) (at : ℕ) → at ≤ length f.bytes → Adds g files (begun g f files at) (index_pages g at) (data_pages g at)
begun-adds g f files at inside =
    let long : length (take at f.bytes) ≡ at = length-take at f.bytes ∙ omega (arith, inside) in
    let adds = put-adds g (front_of g files (take at f.bytes)) files (least-unused files) in
    record { files_are = adds.files_are; index_are = adds.index_are ∙ ap (λ (n : ℕ). index_count g files + index_pages g n) long; data_are = adds.data_are ∙ ap (λ (n : ℕ). data_count g files + data_pages g n) long }

pub next-counts : (g : Geometry) → NextCounts g
next-counts g f files at len whole some few inside =
    let big = (sizes g).page in
    let before = begun-adds g f files at (omega (arith, inside)) in
    let later = begun-adds g f files (at + len) inside in
    let page : data_pages g (at + len) ≡ data_pages g at + 1 = next_page (body g) at len (omega (arith, big)) whole some few in
    let grows : index_pages g at ≤ index_pages g (at + len) = index_for-mono g (data_pages g at) (data_pages g (at + len)) (omega (arith, page)) in
    record {
      grows = grows;
      index_are = omega (arith, before.index_are, later.index_are, grows);
      data_are = omega (arith, before.data_are, later.data_are, page);
    }
