-- By another number of meta bytes fewer files are whole.
use Rattle.std.proofs.Common.{◌≡◌, ◌≢◌, ℕ, zero, suc, ◌+◌, ◌-◌, ◌*◌, ◌/◌, ◌%◌, ◌<◌, ◌≤◌, ◌&&◌, List, [], length, take, replicate, true, false, Bool, Option, Some, None, Result, Ok, Err, ap, refl, sym, ◌∙◌, arith, ⊎_elim, subst}
use Rattle.std.specs.Prelude.{filter, is_some, is_none, slice_range}
use Rattle.std.specs.List.{range_with_len}
use Rattle.std.proofs.lemmas.Bool.{cases_Bool, cases_eq, cases_lt, false≢true, and_parts, false_from_ne_true, eq-eqb}
use Rattle.std.proofs.lemmas.Option.{none-some}
use Rattle.geometry.specs.declared.geometry.Geometry.{Geometry}
use Rattle.geometry.specs.Numbers.{page_count, body}
use Rattle.table_model.specs.Table.{File}
use Rattle.table_model.specs.Room.{data_pages}
use Rattle.image_model.specs.declared.damage.Damage.{Damage}
use Rattle.image_model.specs.Within.{sizes}
use Rattle.image_model.specs.Places.{page_of}
use Rattle.image_model.specs.Headers.{obj_id, size_of, name_of}
use Rattle.image_model.specs.Live.{Live, live_at, own}
use Rattle.image_model.specs.Files.{index_page, is_index, file_of as the_file, judged, judged_by, bytes_of, first_missing}
use Rattle.image_model.specs.Tables.{table_of, damaged_of, has_of}
use Rattle.image_laws.proofs.Finish.{own-parts}
use Rattle.image_laws.proofs.Frames.{live_parts}
use Rattle.image_laws.proofs.Judge.{found_from, index_passes}
use Rattle.image_laws.proofs.Serving.{judged-bytes}
use Rattle.image_laws.proofs.Tables.{find_passes}
use Rattle.image_laws.proofs.Unshared.{counted-le}
use Rattle.renew_laws.specs.Primed.{Primed}
use Rattle.renew_laws.proofs.PrimeBeside.{prime-starts}
use Rattle.trim_laws.specs.Trim.{IsTrimmed}
use Rattle.meta_tally.specs.Heads.{head_at, head_count}
use Rattle.meta_tally.specs.Wholes.{is_complete_at}
use Rattle.meta_tally.specs.Counted.{IsAlike, is_counted, is_alone}
use Rattle.meta_tally.proofs.Alike.{same_pages, same_page, same_live, same_head}
use Rattle.meta_tally.proofs.Counting.{head_has, table_pages, heads_pages}
use Rattle.meta_laws.specs.Other.{HasPlainFile, TellsMeta, OtherReadsFewer}
use Rattle.meta_laws.proofs.OtherMeta.{not_whole}

-- where one number fails of those that pass another test, fewer pass
counted-less : (test more : ℕ → Bool) (c a n : ℕ) → a ≤ c → c < a + n → test c ≡ false → more c ≡ true → ((q : ℕ) → test q ≡ true → more q ≡ true) → length (filter test (range_with_len a n)) < length (filter more (range_with_len a n))
counted-less test more c a zero low high fails passes each = absurd (omega (arith, low, high))
counted-less test more c a (suc n) low high fails passes each =
    ⊎_elim
    (λ (here : a ≡ c).
    let rest = counted-le test more (a + 1) n (λ q low high yes. each q yes) in
    let one : test a ≡ false = rw here fails in
    let two : more a ≡ true = rw here passes in
    rw (one, two) (omega (arith, rest)))
    (λ (there : a ≡ c → ⊥).
    let rest = counted-less test more c (a + 1) n (omega (arith, there, low)) (omega (arith, high)) fails passes each in
    ⊎_elim
    (λ (yes : test a ≡ true). rw (yes, each a yes) (omega (arith, rest)))
    (λ (no : test a ≡ false). rw no (⊎_elim (λ (y : more a ≡ true). rw y (omega (arith, rest))) (λ (none : more a ≡ false). rw none rest) (cases_Bool (more a))))
    (cases_Bool (test a)))
    (cases_eq a c)

-- the meta bytes of a whole file
judged_meta : (g : Geometry) (pages : Live) (id : ℕ) (head : List ℕ) (n : Option (List ℕ)) (m : Option ℕ) (f : File) → judged_by g pages id head n m ≡ Ok f → f.meta ≡ slice_range head 45 (45 + g.meta)
judged_meta g pages id head None m f e = absurd (err_ok e)
  where
    err_ok : {x : Damage} → Err x ≡ Ok f → ⊥
    err_ok e = cc
judged_meta g pages id head (Some name) (Some span) f e = absurd (err_ok e)
  where
    err_ok : {x : Damage} → Err x ≡ Ok f → ⊥
    err_ok e = cc
judged_meta g pages id head (Some name) None f e = ap meta_in (sym e)
  where
    meta_in : Result File Damage → List ℕ
    meta_in (Ok x) = x.meta
    meta_in (Err x) = []

-- a file with bytes has a data page
some_span : (g : Geometry) (size : ℕ) → 0 < size → 0 < data_pages g size
some_span g size some = at_least (body g) size (omega (arith, (sizes g).page)) some
  where
    at_least : (b s : ℕ) → 0 < b → 0 < s → 0 < (s + b - 1) / b
    at_least b s pos some = grind arith

taken_some : (size : ℕ) (xs : List ℕ) → 0 < length (take size xs) → 0 < size
taken_some zero xs e = absurd (omega (arith, e))
taken_some (suc size) xs e = omega arith

none_of : (o : Option ℕ) → is_none o ≡ true → o ≡ None
none_of None e = refl
none_of (Some x) e = absurd (false≢true e)

module _ (g h : Geometry) (image : List ℕ) (alike : IsAlike g h) (tells : TellsMeta g image) (differ : h.meta ≢ g.meta) where
  abbrev plain : HasPlainFile g image
  plain = tells.plain

  start : (q : ℕ) × (head : List ℕ) × Primed g plain.id q head plain.file (λ r. false) image image
  start = prime-starts g image plain.id plain.file tells.holds tells.tidy plain.there

  abbrev q : ℕ
  q = start.0

  abbrev head : List ℕ
  head = start.1

  abbrev pages : Live
  pages = own (live_at g image) plain.id

  prime : Primed g plain.id q head plain.file (λ r. false) image image
  prime = start.2

  bytes : page_of g image q ≡ head
  bytes = (live_parts g image q head (own-parts (live_at g image) plain.id q head prime.header).0).bytes

  at : head_at g image q ≡ Some plain.id
  unfolding has_of
  at = (head_has g image plain.id q (judged g pages plain.id head) (found_from g pages plain.id q head prime.at prime.header)).0

  inside : q < page_count g
  unfolding has_of
  inside = (head_has g image plain.id q (judged g pages plain.id head) (found_from g pages plain.id q head prime.at prime.header)).1

  trimmed : IsTrimmed g head
  trimmed =
      let index : is_index (Some head) 0 ≡ true = ap (λ (o : Option (List ℕ)). is_index o 0) (sym prime.header) ∙ index_passes g pages 0 q prime.at in
      tells.trim.each q head (own-parts (live_at g image) plain.id q head prime.header).0 index

  meta_is : slice_range head 45 (45 + g.meta) ≡ replicate g.meta 0xFF
  unfolding judged
  meta_is = sym (judged_meta g pages plain.id head _ _ plain.file prime.file) ∙ plain.plain

  some : 0 < data_pages g (size_of head)
  unfolding judged
  some =
      let is : plain.file.bytes ≡ bytes_of g pages head = judged-bytes g pages plain.id head _ _ plain.file prime.file in
      some_span g (size_of head) (taken_some (size_of head) _ (rw is at plain.some))

  -- the file isn't whole by the other number
  fails : is_counted h image q ≡ false
  unfolding is_counted is_complete_at
  fails = false_from_ne_true _ (λ counted.
      let v = and_parts _ _ counted in
      let w = and_parts _ _ v.1 in
      let missing : first_missing h (own (live_at h image) (obj_id (page_of h image q) % 0x8000)) (page_of h image q) ≡ None = none_of _ w.0 in
      let page : page_of h image q ≡ head = same_page g h alike image q ∙ bytes in
      let id : obj_id head % 0x8000 ≡ plain.id = (own-parts (live_at g image) plain.id q head prime.header).1 in
      let whole : first_missing h pages head ≡ None = rw (page, same_live g h alike image, id) at missing in
      not_whole g h image alike tells.small plain.id q head plain.file prime trimmed meta_is some whole differ)

  each : (p : ℕ) → is_counted h image p ≡ true → is_some (head_at g image p) ≡ true
  unfolding is_counted
  each p e = rw (same_head g h alike image p) at (and_parts (is_some (head_at h image p)) (is_complete_at h image p && is_alone h image p (name_of (page_of h image p))) e).0

  pub fewer : length (table_of h image) < length (table_of g image)
  unfolding head_count
  fewer =
      let one : length (table_of h image) ≡ length (filter (is_counted h image) (range_with_len 0 (page_count g))) = table_pages h image ∙ ap (λ (n : ℕ). length (filter (is_counted h image) (range_with_len 0 n))) (same_pages g h alike) in
      let two : length (filter (λ p. is_some (head_at g image p)) (range_with_len 0 (page_count g))) ≡ length (table_of g image) + length (damaged_of g image) = heads_pages g image in
      let none : length (damaged_of g image) ≡ 0 = ap length tells.tidy.undamaged in
      let less = counted-less (is_counted h image) (λ p. is_some (head_at g image p)) q 0 (page_count g) (omega arith) (omega (arith, inside)) fails (rw at refl) each in
      omega (arith, one, two, none, less)

pub other_reads_fewer : (g : Geometry) → OtherReadsFewer g
other_reads_fewer g h image alike tells differ = fewer g h image alike tells differ
