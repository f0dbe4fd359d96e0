-- Before the header page of an append: bytes or an entry are programmed in place.
use Rattle.std.proofs.Common.{◌≡◌, ◌≢◌, ℕ, ◌+◌, ◌-◌, ◌*◌, ◌/◌, ◌%◌, ◌≤◌, List, length, slice_index, Bool, true, false, Option, Some, None, Result, Ok, ap, refl, sym, ◌∙◌, arith, ⊎_elim, subst}
use Rattle.std.proofs.Math.Path.{fun_ext}
use Rattle.std.proofs.Math.Nat.{div-add-mod, mul_comm}
use Rattle.std.specs.Prelude.{is_some, find, option_and_then}
use Rattle.std.specs.List.{range_with_len}
use Rattle.std.proofs.lemmas.Bool.{cases_eq, le-ltb, false_from_ne_true}
use Rattle.std.proofs.lemmas.Option.{some_pair_parts}
use Rattle.geometry.specs.declared.geometry.Geometry.{Geometry}
use Rattle.geometry.specs.Numbers.{body, head_slots, page_count}
use Rattle.nor_core.specs.Flash.{SameOutside, HalfProgrammed}
use Rattle.table_model.specs.Table.{File}
use Rattle.image_model.specs.declared.damage.Damage.{Damage}
use Rattle.image_model.specs.Within.{sizes}
use Rattle.image_model.specs.Headers.{obj_id, names_index, span_of, size_of}
use Rattle.image_model.specs.Live.{Live, live_at, own}
use Rattle.image_model.specs.Files.{is_index, index_page, further, entry_number, data_page, judged, found, slot_at}
use Rattle.image_model.specs.Places.{page_of, IsImage}
use Rattle.image_model.specs.Sound.{Keeps}
use Rattle.image_model.specs.Tables.{has_of}
use Rattle.image_model.specs.Tidy.{free_blocks}
use Rattle.image_laws.specs.TidySteps.{IsTidyBut}
use Rattle.image_laws.proofs.Append.{append_wide, append_kind, append_now, append_first, append_has, own-live, span-same}
use Rattle.image_laws.proofs.Doubled.{index-span_is}
use Rattle.image_laws.proofs.Finish.{own-parts}
use Rattle.image_laws.proofs.Frames.{live_parts, live-page_other}
use Rattle.image_laws.proofs.Judge.{found_from, index_passes}
use Rattle.image_laws.proofs.Placing.{page_byte}
use Rattle.image_laws.proofs.Sounding.{keeps-on}
use Rattle.image_laws.proofs.SpareKill.{tidy-has_magics}
use Rattle.image_laws.proofs.TidySteps.{agree_page}
use Rattle.renew_laws.proofs.ReserveKept.{kill-reserve}
use Rattle.renew_laws.specs.Primed.{Primed, ChangesInPlace, PrimeFill, PrimeName}
use Rattle.renew_laws.proofs.Spans.{page_named}
use Rattle.renew_laws.proofs.AppendTidy.{appending-tidies, appending-is_sound}
use Rattle.renew_laws.proofs.EntryInPlace.{entry-in_place, entry-in_place-tidies, entry_has, entry_now, entry_others, entry_index, entry_span, entry_wide}

-- ---- a page of the file changes, and no header page

module _ (g : Geometry) (a b c : List ℕ) (id h w : ℕ) (head y : List ℕ) (f : File) (beside : ℕ → Bool) (prime : Primed g id h head f beside a b) (image : IsImage g c) (keeps : Keeps g b c) (tidy : IsTidyBut g c beside)
    (others : (r : ℕ) → r ≢ w → own (live_at g c) id r ≡ own (live_at g b) id r) (now : own (live_at g c) id w ≡ Some y) (was_other : is_index (own (live_at g b) id w) 0 ≡ false) (is_other : is_index (Some y) 0 ≡ false)
    (first : index_page g (own (live_at g c) id) 0 ≡ Some h) (has : has_of g (live_at g c) ≡ has_of g (live_at g b)) where
  apart : h ≢ w
  apart e = let yes = index_passes g (own (live_at g b) id) 0 h prime.at in let no : is_index (own (live_at g b) id h) 0 ≡ false = ap (λ (r : ℕ). is_index (own (live_at g b) id r) 0) e ∙ was_other in
      let bad : true ≡ false = sym yes ∙ no in absurd (cc)

  header : own (live_at g c) id h ≡ Some head
  header = others h apart ∙ prime.header

  reads : judged g (own (live_at g c) id) id head ≡ Ok f
  unfolding has_of
  reads =
      let same : found g (own (live_at g c) id) id ≡ found g (own (live_at g b) id) id = ap (λ (k : ℕ → Option (ℕ × Result File Damage)). k id) has in
      let pair : Some (h, judged g (own (live_at g c) id) id head) ≡ Some (h, judged g (own (live_at g b) id) id head) =
      sym (found_from g (own (live_at g c) id) id h head first header) ∙ same ∙ found_from g (own (live_at g b) id) id h head prime.at prime.header in
      (some_pair_parts h h (judged g (own (live_at g c) id) id head) (judged g (own (live_at g b) id) id head) pair).1 ∙ prime.file

  primed_on : Primed g id h head f beside a c
  primed_on = record {
    image = image;
    keeps = keeps-on g a b c prime.keeps keeps;
    tidy = tidy;
    mine = λ r e. ⊎_elim (λ (here : r ≡ w). rw here (rw now refl)) (λ (there : r ≡ w → ⊥). ap is_some (others r there) ∙ prime.mine r e) (cases_eq r w);
    at = first;
    header = header;
    only = λ r passes. ⊎_elim
        (λ (here : r ≡ w). let no : is_index (own (live_at g c) id r) 0 ≡ false = rw here (rw now is_other) in let bad : true ≡ false = sym passes ∙ no in absurd (cc))
        (λ (there : r ≡ w → ⊥). prime.only r (ap (λ (o : Option (List ℕ)). is_index o 0) (sym (others r there)) ∙ passes))
        (cases_eq r w);
    file = reads;
  }

-- ---- bytes behind the end of the last data page

-- the entries are as they were where a data page changes
module _ (g : Geometry) (p : ℕ) (x y : List ℕ) (one two : Live) (was : one p ≡ Some x) (is : two p ≡ Some y) (others : (r : ℕ) → r ≢ p → two r ≡ one r) (kind_x : names_index x ≡ false) (kind_y : names_index y ≡ false) where
  index_same : (j : ℕ) → index_page g two j ≡ index_page g one j
  unfolding index_page
  index_same j =
      ap (λ (t : ℕ → Bool). find t (range_with_len 0 (page_count g)))
      (fun_ext (λ (r : ℕ). ⊎_elim
      (λ (here : r ≡ p). rw here (rw (is, was) (rw (kind_x, kind_y) refl)))
      (λ (there : r ≡ p → ⊥). rw (others r there) refl)
      (cases_eq r p)))

  bytes_same : (j : ℕ) (o : Option ℕ) → index_page g one j ≡ o → option_and_then two o ≡ option_and_then one o
  bytes_same j None e = refl
  bytes_same j (Some r) e = others r (λ k. let yes = index_passes g one j r e in let no : is_index (one r) j ≡ false = rw k (rw was (rw kind_x refl)) in let bad : true ≡ false = sym yes ∙ no in absurd (cc))

  entries_same : (head : List ℕ) (t : ℕ) → entry_number g two head t ≡ entry_number g one head t
  unfolding entry_number
  entries_same head t = rw (index_same (further g t)) (rw (bytes_same (further g t) (index_page g one (further g t)) refl) refl)

module _ (g : Geometry) (a b c : List ℕ) (h q from : ℕ) (head z bytes : List ℕ) (f : File) (beside : ℕ → Bool) (prime : Primed g (obj_id z % 0x8000) h head f beside a b)
    (named : entry_number g (own (live_at g b) (obj_id z % 0x8000)) head (size_of head / body g) ≡ Some q) (mine : own (live_at g b) (obj_id z % 0x8000) q ≡ Some z) (kind : names_index z ≡ false)
    (span : span_of z ≡ size_of head / body g) (low : 5 + size_of head % body g ≤ from) (high : from + length bytes ≤ g.page) (torn : HalfProgrammed (q * g.page + from) bytes b c) where
  live : live_at g b q ≡ Some z
  live = (own-parts (live_at g b) (obj_id z % 0x8000) q z mine).0

  past : q * g.page + 5 + (size_of head - span_of z * body g) ≤ q * g.page + from
  past =
      let whole : body g * (size_of head / body g) + size_of head % body g ≡ size_of head = div-add-mod (size_of head) (body g) in
      let product : span_of z * body g ≡ body g * (size_of head / body g) = ap (λ (k : ℕ). k * body g) span ∙ mul_comm (size_of head / body g) (body g) in
      omega (arith, whole, product, low)

  inside : q * g.page + from + length bytes ≤ q * g.page + g.page
  inside = omega (arith, high)

  wide : SameOutside (q * g.page) g.page b c
  wide = append_wide g b c q h (q * g.page + from) bytes z head prime.image live kind prime.at prime.header past inside torn.outside

  now : own (live_at g c) (obj_id z % 0x8000) q ≡ Some (page_of g c q)
  now = append_now g b c q h (q * g.page + from) bytes z head prime.image live kind prime.at prime.header past inside torn.outside

  kind_now : names_index (page_of g c q) ≡ false
  kind_now = append_kind g b c q h (q * g.page + from) bytes z head prime.image live kind prime.at prime.header past inside torn.outside ∙ kind

  span_now : span_of (page_of g c q) ≡ size_of head / body g
  span_now =
      let big : 128 ≤ g.page = (sizes g).page in
      span-same z (page_of g c q)
      (λ i small. page_byte g c q i (omega arith) ∙ torn.outside.before (q * g.page + i) (omega (arith, low, small)) ∙ sym (page_byte g b q i (omega arith)) ∙ ap (λ (l : List ℕ). slice_index l i) (live_parts g b q z live).bytes)
      ∙ span

  others : (r : ℕ) → r ≢ q → own (live_at g c) (obj_id z % 0x8000) r ≡ own (live_at g b) (obj_id z % 0x8000) r
  others r there = own-live (live_at g b) (live_at g c) (obj_id z % 0x8000) r (live-page_other g (sizes g) b c q (live_parts g b q z live).entry_page wide r there)

  keeps : Keeps g b c × (free_blocks g b ≤ free_blocks g c)
  keeps = appending-is_sound g b c q h (q * g.page + from) bytes z head prime.image (tidy-has_magics g b beside prime.tidy) live kind prime.at prime.header past inside torn

  tidy : IsTidyBut g c beside
  tidy = (appending-tidies g b c q h (q * g.page + from) bytes z head beside prime.image prime.tidy live kind prime.at prime.header past inside torn).0

  filled : Primed g (obj_id z % 0x8000) h head f beside a c
  filled = primed_on g a b c (obj_id z % 0x8000) h q head (page_of g c q) f beside prime (record { len = omega (arith, torn.outside.size, prime.image.len) }) keeps.0 tidy others now (rw mine (rw kind refl)) (rw kind_now refl)
      (append_first g b c q h (q * g.page + from) bytes z head prime.image live kind prime.at prime.header past inside torn.outside)
      (append_has g b c q h (q * g.page + from) bytes z head prime.image live kind prime.at prime.header past inside torn.outside)

  changed : ChangesInPlace g (obj_id z % 0x8000) q b c
  changed = record { now = now; others = others; places = index_same g q z (page_of g c q) (own (live_at g b) (obj_id z % 0x8000)) (own (live_at g c) (obj_id z % 0x8000)) mine now others kind kind_now }

  reads_last : data_page g (own (live_at g c) (obj_id z % 0x8000)) head (size_of head / body g) ≡ Some (page_of g c q)
  reads_last = page_named g (own (live_at g c) (obj_id z % 0x8000)) head (size_of head / body g) q (page_of g c q)
      (entries_same g q z (page_of g c q) (own (live_at g b) (obj_id z % 0x8000)) (own (live_at g c) (obj_id z % 0x8000)) mine now others kind kind_now head (size_of head / body g) ∙ named) now kind_now span_now

pub prime-fill : (g : Geometry) → PrimeFill g
prime-fill g a b c id h q from head z bytes f beside prime named mine kind span low high torn =
    let key : obj_id z % 0x8000 ≡ id = (own-parts (live_at g b) id q z mine).1 in
    let prime' : Primed g (obj_id z % 0x8000) h head f beside a b = subst (λ (k : ℕ). Primed g k h head f beside a b) (sym key) prime in
    let named' : entry_number g (own (live_at g b) (obj_id z % 0x8000)) head (size_of head / body g) ≡ Some q = subst (λ (k : ℕ). entry_number g (own (live_at g b) k) head (size_of head / body g) ≡ Some q) (sym key) named in
    let mine' : own (live_at g b) (obj_id z % 0x8000) q ≡ Some z = subst (λ (k : ℕ). own (live_at g b) k q ≡ Some z) (sym key) mine in
    let both = keeps g a b c h q from head z bytes f beside prime' named' mine' kind span low high torn in (
      both.0,
      both.1,
      subst (λ (k : ℕ). Primed g k h head f beside a c) key (filled g a b c h q from head z bytes f beside prime' named' mine' kind span low high torn),
      subst (λ (k : ℕ). ChangesInPlace g k q b c) key (changed g a b c h q from head z bytes f beside prime' named' mine' kind span low high torn),
      subst (λ (k : ℕ). data_page g (own (live_at g c) k) head (size_of head / body g) ≡ Some (page_of g c q)) key (reads_last g a b c h q from head z bytes f beside prime' named' mine' kind span low high torn),
    )

-- ---- an entry behind the last

pub prime-name : (g : Geometry) → PrimeName g
prime-name g a b c id h w t head x asked f beside prime mine index past high here two torn =
    let same : SameOutside (w * g.page + slot_at g t) 2 b c = subst (λ (n : ℕ). SameOutside (w * g.page + slot_at g t) n b c) two torn.outside in
    let keeps = entry-in_place g b c w h t id asked x head prime.image (tidy-has_magics g b beside prime.tidy) mine index prime.at prime.header past here two torn in
    let tidy = (entry-in_place-tidies g b c w h t id asked x head beside prime.image prime.tidy mine index prime.at prime.header past here two torn).0 in
    let now = entry_now g b c w h t id x head prime.image mine index prime.at prime.header past here same in
    let places = entry_index g b c w h t id x head prime.image mine index prime.at prime.header past here same in
    let others = entry_others g b c w h t id x head prime.image mine index prime.at prime.header past here same in
    let span = entry_span g b c w h t id x head prime.image mine index prime.at prime.header past here same in
    let behind : span_of x ≢ 0 = λ e. let zero : further g t ≡ 0 = rw (le-ltb t (head_slots g) high) at (here ∙ e) in absurd (omega (arith, zero)) in
    let was_other : is_index (own (live_at g b) id w) 0 ≡ false = rw mine (false_from_ne_true _ (λ yes. behind (index-span_is x 0 yes))) in
    let is_other : is_index (Some (page_of g c w)) 0 ≡ false = false_from_ne_true _ (λ yes. behind (sym span ∙ index-span_is (page_of g c w) 0 yes)) in
    let live = (own-parts (live_at g b) id w x mine).0 in
    let entry_page = (live_parts g b w x live).entry_page in
    let agree = agree_page g b c w (sizes g) entry_page (entry_wide g b c w h t id x head prime.image mine index prime.at prime.header past here same) in (
      keeps,
      kill-reserve g b c w x live agree,
      primed_on g a b c id h w head (page_of g c w) f beside prime (record { len = omega (arith, torn.outside.size, prime.image.len) }) keeps tidy
          others now was_other is_other (places 0 ∙ prime.at)
          (entry_has g b c w h t id x head prime.image mine index prime.at prime.header past here same),
      record { now = now; others = others; places = places },
    )
