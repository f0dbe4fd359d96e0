-- The pages of an id while an index page is renewed.
use Rattle.std.proofs.Common.{◌≡◌, ◌≢◌, ℕ, ◌<◌, ◌≤◌, ◌⊎◌, List, Bool, true, false, Option, Some, None, Result, Ok, ap, refl, sym, ◌∙◌, arith, ⊎_elim, subst, inl, inr}
use Rattle.std.proofs.Math.Path.{fun_ext}
use Rattle.std.specs.Prelude.{is_some, option_and_then, find}
use Rattle.std.specs.List.{range_with_len}
use Rattle.std.proofs.lemmas.Bool.{cases_eq, cases_lt, eq-eqb, ne_eqb, false_from_ne_true}
use Rattle.std.proofs.lemmas.Option.{none-some, same_Some}
use Rattle.geometry.specs.declared.geometry.Geometry.{Geometry}
use Rattle.image_model.specs.declared.damage.Damage.{Damage}
use Rattle.geometry.specs.Numbers.{page_count}
use Rattle.table_model.specs.Room.{data_pages, index_pages}
use Rattle.image_model.specs.Headers.{span_of, size_of}
use Rattle.image_laws.specs.Changes.{Gains, Loses}
use Rattle.image_model.specs.Live.{Live}
use Rattle.table_model.specs.Table.{File}
use Rattle.image_model.specs.Files.{is_index, index_page, entry_number, data_of, data_page, judged, found, index_span}
use Rattle.image_model.specs.Tidy.{serves}
use Rattle.image_laws.specs.Reindex.{Reindexes, slot_word, now_data, now_bytes}
use Rattle.image_laws.proofs.Tables.{find_only, find_gains}
use Rattle.image_laws.proofs.Judge.{index_passes, found_from}
use Rattle.image_laws.proofs.Doubled.{index-span_is}
use Rattle.renew_laws.proofs.Serves.{serves_parts, serves_index, serves_data}
use Rattle.image_laws.proofs.Reindexed.{Alikes, judged-like, judged-reads, entry-slot}

module _ (g : Geometry) (one two three : Live) (id w v h : ℕ) (old new head head' : List ℕ) (f0 f : File) (start : Reindexes g one id w h old new head head' f0 f)
    (within : v < page_count g) (gains : Gains v new one two) (loses : Loses w two three) where
  apart : w ≢ v
  apart e = none-some old (sym gains.before ∙ ap one (sym e) ∙ start.was)

  not_old : (j : ℕ) → span_of old ≢ j → is_index (Some old) j ≡ false
  not_old j other = false_from_ne_true _ (λ yes. other (index-span_is old j yes))

  not_new : (j : ℕ) → span_of old ≢ j → is_index (Some new) j ≡ false
  not_new j other = false_from_ne_true _ (λ yes. other (sym start.new_span ∙ index-span_is new j yes))

  is_new : is_index (Some new) (span_of old) ≡ true
  is_new = rw start.new_index (eq-eqb (span_of new) (span_of old) start.new_span)

  two_w : two w ≡ Some old
  two_w = gains.others w apart ∙ start.was

  pub three_v : three v ≡ Some new
  three_v = loses.others v (λ e. apart (sym e)) ∙ gains.after

  pub three_other : (r : ℕ) → r ≢ w → r ≢ v → three r ≡ one r
  three_other r x y = loses.others r x ∙ gains.others r y

  -- ---- the index pages

  span2_other : (j : ℕ) → span_of old ≢ j → index_page g two j ≡ index_page g one j
  unfolding index_page
  span2_other j differ =
      ap (λ (t : ℕ → Bool). find t (range_with_len 0 (page_count g)))
      (fun_ext (λ (r : ℕ). ⊎_elim
      (λ (copy : r ≡ v). let a : is_index (two r) j ≡ false = rw copy (rw gains.after (not_new j differ)) in let b : is_index (one r) j ≡ false = rw copy (rw gains.before refl) in a ∙ sym b)
      (λ (there : r ≡ v → ⊥). rw (gains.others r there) refl)
      (cases_eq r v)))

  span2 : ((q : ℕ) → index_page g one (span_of old) ≡ Some q → q < v → index_page g two (span_of old) ≡ Some q) × (((q : ℕ) → index_page g one (span_of old) ≡ Some q → v < q) → index_page g two (span_of old) ≡ Some v)
  unfolding index_page
  span2 = find_gains (λ (q : ℕ). is_index (one q) (span_of old)) (λ (q : ℕ). is_index (two q) (span_of old)) v 0 (page_count g) (λ q there. rw (gains.others q there) refl) (rw gains.after is_new) (omega arith) (omega arith)

  span2_before : w < v → index_page g two (span_of old) ≡ Some w
  span2_before less = span2.0 w start.first less

  span2_after : v < w → index_page g two (span_of old) ≡ Some v
  span2_after less = span2.1 (λ q e. let same : q ≡ w = same_Some q w (sym e ∙ start.first) in omega (arith, same))

  span3_other : (j : ℕ) → span_of old ≢ j → index_page g three j ≡ index_page g one j
  unfolding index_page
  span3_other j differ =
      ap (λ (t : ℕ → Bool). find t (range_with_len 0 (page_count g)))
      (fun_ext (λ (r : ℕ). ⊎_elim
      (λ (gone : r ≡ w). let a : is_index (three r) j ≡ false = rw gone (rw loses.after refl) in let b : is_index (one r) j ≡ false = rw gone (rw start.was (not_old j differ)) in a ∙ sym b)
      (λ (other : r ≡ w → ⊥). ⊎_elim
      (λ (copy : r ≡ v). let a : is_index (three r) j ≡ false = rw copy (rw three_v (not_new j differ)) in let b : is_index (one r) j ≡ false = rw copy (rw gains.before refl) in a ∙ sym b)
      (λ (there : r ≡ v → ⊥). rw (three_other r other there) refl)
      (cases_eq r v))
      (cases_eq r w)))

  pub span3 : index_page g three (span_of old) ≡ Some v
  unfolding index_page
  span3 = find_only (λ (r : ℕ). is_index (three r) (span_of old)) v 0 (page_count g) (omega arith) (omega arith) (rw three_v is_new)
      (λ r there. ⊎_elim
      (λ (gone : r ≡ w). rw gone (rw loses.after refl))
      (λ (other : r ≡ w → ⊥). false_from_ne_true _ (λ yes. other (start.alone r (rw (three_other r other there) at yes))))
      (cases_eq r w))

  two_bytes : (o : Option ℕ) → o ≢ Some v → option_and_then two o ≡ option_and_then one o
  two_bytes None differ = refl
  two_bytes (Some r) differ = gains.others r (λ e. differ (ap (λ (x : ℕ). Some x) e))

  first_not : (j : ℕ) → index_page g one j ≢ Some v
  first_not j e = let yes = index_passes g one j v e in let bad : false ≡ true = rw gains.before at yes in absurd (cc)

  three_bytes : (j : ℕ) → span_of old ≢ j → (o : Option ℕ) → index_page g one j ≡ o → option_and_then three o ≡ option_and_then one o
  three_bytes j differ None e = refl
  three_bytes j differ (Some r) e =
      three_other r
      (λ (gone : r ≡ w). let a : is_index (Some old) j ≡ true = rw start.was at (subst (λ (k : ℕ). is_index (one k) j ≡ true) gone (index_passes g one j r e)) in differ (index-span_is old j a))
      (λ (copy : r ≡ v). first_not j (e ∙ ap (λ (x : ℕ). Some x) copy))

  pub bytes3 : option_and_then three (index_page g three (span_of old)) ≡ Some new
  bytes3 = rw span3 three_v

  pub bytes3_other : (j : ℕ) → span_of old ≢ j → option_and_then three (index_page g three j) ≡ option_and_then one (index_page g one j)
  bytes3_other j differ = rw (span3_other j differ) (three_bytes j differ (index_page g one j) refl)

  bytes2_other : (j : ℕ) → span_of old ≢ j → option_and_then two (index_page g two j) ≡ option_and_then one (index_page g one j)
  bytes2_other j differ = rw (span2_other j differ) (two_bytes (index_page g one j) (first_not j))

  -- ---- the data pages

  no_old : (t : ℕ) → data_of (Some old) t ≡ None
  no_old t = rw start.index refl

  no_new : (t : ℕ) → data_of (Some new) t ≡ None
  no_new t = rw start.new_index refl

  data2 : (t r : ℕ) → data_of (two r) t ≡ data_of (one r) t
  data2 t r = ⊎_elim
      (λ (copy : r ≡ v). rw copy (rw (gains.after, gains.before) (no_new t)))
      (λ (there : r ≡ v → ⊥). rw (gains.others r there) refl)
      (cases_eq r v)

  data23 : (t r : ℕ) → data_of (two r) t ≡ data_of (three r) t
  data23 t r = ⊎_elim
      (λ (gone : r ≡ w). rw gone (rw (loses.after, two_w) (no_old t)))
      (λ (there : r ≡ w → ⊥). rw (loses.others r there) refl)
      (cases_eq r w)

  pub data3 : (t r : ℕ) → data_of (three r) t ≡ data_of (one r) t
  data3 t r = sym (data23 t r) ∙ data2 t r

  alike_before : w < v → Alikes g one two
  alike_before less = record {
    index = λ j. ⊎_elim
        (λ (same : span_of old ≡ j). subst (λ (k : ℕ). option_and_then two (index_page g two k) ≡ option_and_then one (index_page g one k)) same (rw (span2_before less, start.first) (two_w ∙ sym start.was)))
        (bytes2_other j)
        (cases_eq (span_of old) j);
    holds = data2;
  }

  alike_after : v < w → Alikes g three two
  alike_after less = record {
    index = λ j. ⊎_elim
        (λ (same : span_of old ≡ j). subst (λ (k : ℕ). option_and_then two (index_page g two k) ≡ option_and_then three (index_page g three k)) same (rw (span2_after less, span3) (gains.after ∙ sym three_v)))
        (λ (differ : span_of old ≡ j → ⊥). bytes2_other j differ ∙ sym (bytes3_other j differ))
        (cases_eq (span_of old) j);
    holds = data23;
  }

  -- ---- the header page, and the file

  pub head3 : (k : ℕ) × (index_page g three 0 ≡ Some k) × (three k ≡ Some head')
  head3 =
      ⊎_elim
      (λ (zero : span_of old ≡ 0). (v, subst (λ (j : ℕ). index_page g three j ≡ Some v) zero span3, three_v ∙ ap (λ (x : List ℕ). Some x) (sym (start.renewed zero))))
      (λ (other : span_of old ≡ 0 → ⊥).
      let now : index_page g three 0 ≡ Some h = span3_other 0 other ∙ start.at in
      let bytes : option_and_then three (Some h) ≡ option_and_then one (Some h) = three_bytes 0 other (Some h) start.at in
      (h, now, bytes ∙ start.header ∙ ap (λ (x : List ℕ). Some x) (sym (start.stays other))))
      (cases_eq (span_of old) 0)

  pub entry3_here : (t : ℕ) → index_span g t ≡ span_of old → entry_number g three head' t ≡ Some (slot_word g new t)
  entry3_here t e = entry-slot g three head3.0 head' t head3.1 head3.2 ∙ (rw e (rw bytes3 refl))

  pub entry3_other : (t : ℕ) → index_span g t ≢ span_of old → entry_number g three head' t ≡ entry_number g one head t
  entry3_other t differ = entry-slot g three head3.0 head' t head3.1 head3.2 ∙ (rw (bytes3_other (index_span g t) (λ e. differ (sym e))) refl) ∙ sym (entry-slot g one h head t start.at start.header)

  pub reads3 : (t : ℕ) → data_page g three head' t ≡ now_data g one head new t
  unfolding data_page now_data
  reads3 t =
      ⊎_elim
      (λ (here : index_span g t ≡ span_of old). rw (eq-eqb (index_span g t) (span_of new) (here ∙ sym start.new_span)) (rw (entry3_here t here) (data3 t (slot_word g new t))))
      (λ (there : index_span g t ≡ span_of old → ⊥). rw (ne_eqb (index_span g t) (span_of new) (λ e. there (e ∙ start.new_span)))
      (rw (entry3_other t there) (ap (λ (k : ℕ → Option (List ℕ)). option_and_then k (entry_number g one head t)) (fun_ext (data3 t)))))
      (cases_eq (index_span g t) (span_of old))

  pub judged3 : judged g three id head' ≡ Ok f
  unfolding now_bytes
  judged3 = judged-reads g one three id head head' f0 (now_data g one head new) start.file start.size start.name start.kind start.meta (λ t below. reads3 t) start.whole
      ∙ ap (λ (x : File). Ok x) (sym start.result)

  pub found3 : found g three id ≡ Some (head3.0, Ok f)
  found3 = found_from g three id head3.0 head' head3.1 head3.2 ∙ ap (λ (r : Result File Damage). Some (head3.0, r)) judged3

  index2_before : w < v → index_page g two 0 ≡ Some h
  index2_before less =
      ⊎_elim
      (λ (zero : span_of old ≡ 0). let e : h ≡ w = same_Some h w (sym start.at ∙ ap (index_page g one) (sym zero) ∙ start.first) in
      subst (λ (j : ℕ). index_page g two j ≡ Some h) zero (span2_before less ∙ ap (λ (x : ℕ). Some x) (sym e)))
      (λ (other : span_of old ≡ 0 → ⊥). span2_other 0 other ∙ start.at)
      (cases_eq (span_of old) 0)

  index2_after : v < w → index_page g two 0 ≡ index_page g three 0
  index2_after less =
      ⊎_elim
      (λ (zero : span_of old ≡ 0). subst (λ (j : ℕ). index_page g two j ≡ index_page g three j) zero (span2_after less ∙ sym span3))
      (λ (other : span_of old ≡ 0 → ⊥). span2_other 0 other ∙ sym (span3_other 0 other))
      (cases_eq (span_of old) 0)

  -- with both index pages the id has what it had, or what it will have
  pub found2 : (found g two id ≡ found g one id) ⊎ (found g two id ≡ found g three id)
  found2 =
      ⊎_elim
      (λ (less : w < v).
      let header : two h ≡ Some head = gains.others h (λ e. first_not 0 (start.at ∙ ap (λ (x : ℕ). Some x) e)) ∙ start.header in
      inl (found_from g two id h head (index2_before less) header ∙ ap (λ (r : Result File Damage). Some (h, r)) (judged-like g one two (alike_before less) id head) ∙ sym (found_from g one id h head start.at start.header)))
      (λ (more : v ≤ w).
      let less : v < w = omega (arith, apart) in
      let at : index_page g two 0 ≡ Some head3.0 = index2_after less ∙ head3.1 in
      let bytes : option_and_then two (index_page g two 0) ≡ option_and_then three (index_page g three 0) = (alike_after less).index 0 in
      let header : two head3.0 ≡ Some head' = (rw (at, head3.1) at bytes) ∙ head3.2 in
      inr (found_from g two id head3.0 head' at header ∙ ap (λ (r : Result File Damage). Some (head3.0, r)) (judged-like g three two (alike_after less) id head') ∙ sym (found_from g three id head3.0 head' head3.1 head3.2)))
      (cases_lt w v)

  -- ---- what serves

  serves_as : (t r : ℕ) → t < data_pages g (size_of head) → entry_number g three head' t ≡ Some r → is_some (data_of (one r) t) ≡ true → serves g three head' r ≡ true
  serves_as t r below e there = serves_data g three head' r t (rw start.size below) e (rw (data3 t r) there)

  serves_at : (j r : ℕ) → j < index_pages g (size_of head) → index_page g three j ≡ Some r → serves g three head' r ≡ true
  serves_at j r below e = serves_index g three head' r j (rw start.size below) e

  -- a copy that the new index page names
  pub serves_named : (t r : ℕ) → t < data_pages g (size_of head) → index_span g t ≡ span_of old → slot_word g new t ≡ r → is_some (data_of (one r) t) ≡ true → serves g three head' r ≡ true
  serves_named t r below here e there = serves_as t r below (entry3_here t here ∙ ap (λ (x : ℕ). Some x) e) there

  -- the new index page serves as the old one did
  pub serves_copy : serves g one head w ≡ true → serves g three head' v ≡ true
  serves_copy e =
      ⊎_elim
      (λ (x : (j : ℕ) × (j < index_pages g (size_of head)) × (index_page g one j ≡ Some w)).
      let passes : is_index (Some old) x.0 ≡ true = rw start.was at (index_passes g one x.0 w x.2) in
      let at : span_of old ≡ x.0 = index-span_is old x.0 passes in
      serves_at x.0 v x.1 (subst (λ (j : ℕ). index_page g three j ≡ Some v) at span3))
      (λ (x : (t : ℕ) × (t < data_pages g (size_of head)) × (entry_number g one head t ≡ Some w) × (is_some (data_of (one w) t) ≡ true)).
      let none : is_some (data_of (one w) x.0) ≡ false = rw start.was (rw (no_old x.0) refl) in let bad : true ≡ false = sym x.3 ∙ none in absurd (cc))
      (serves_parts g one head w e)

  -- another page serves still, or is one that the new index page names no longer
  pub serves_still : (olds : ℕ → Bool) → ((t : ℕ) → t < data_pages g (size_of head) → index_span g t ≡ span_of old → (slot_word g new t ≡ slot_word g old t) ⊎ (olds (slot_word g old t) ≡ true)) →
      (r : ℕ) → r ≢ w → serves g one head r ≡ true → (serves g three head' r ≡ true) ⊎ (olds r ≡ true)
  serves_still olds left r there e =
      ⊎_elim
      (λ (x : (j : ℕ) × (j < index_pages g (size_of head)) × (index_page g one j ≡ Some r)).
      let differ : span_of old ≢ x.0 = λ k. there (same_Some r w (sym x.2 ∙ ap (index_page g one) (sym k) ∙ start.first)) in
      inl (serves_at x.0 r x.1 (span3_other x.0 differ ∙ x.2)))
      (λ (x : (t : ℕ) × (t < data_pages g (size_of head)) × (entry_number g one head t ≡ Some r) × (is_some (data_of (one r) t) ≡ true)).
      ⊎_elim
      (λ (here : index_span g x.0 ≡ span_of old).
      let was : entry_number g one head x.0 ≡ Some (slot_word g old x.0) = entry-slot g one h head x.0 start.at start.header ∙ (rw here (rw start.first (rw start.was refl))) in
      let at : slot_word g old x.0 ≡ r = same_Some (slot_word g old x.0) r (sym was ∙ x.2) in
      ⊎_elim
      (λ (same : slot_word g new x.0 ≡ slot_word g old x.0). inl (serves_named x.0 r x.1 here (same ∙ at) x.3))
      (λ (gone : olds (slot_word g old x.0) ≡ true). inr (ap olds (sym at) ∙ gone))
      (left x.0 x.1 here))
      (λ (other : index_span g x.0 ≡ span_of old → ⊥). inl (serves_as x.0 r x.1 (entry3_other x.0 other ∙ x.2) x.3))
      (cases_eq (index_span g x.0) (span_of old)))
      (serves_parts g one head r e)
