-- Files that count, by their header pages and by their ids: each id that has a header page has one of its own.
use Rattle.std.proofs.Common.{◌≡◌, ℕ, ◌+◌, ◌%◌, ◌<◌, ◌≤◌, ◌==◌, ◌&&◌, not, Bool, true, false, cond, List, [], ◌∷◌, length, Option, Some, None, Result, Ok, Err, ap, refl, sym, ◌∙◌, arith, ⊎_elim, if◌then◌else◌}
use Rattle.std.specs.Prelude.{filter, is_some, is_none}
use Rattle.std.specs.List.{range_with_len, list_any, sum_by}
use Rattle.std.proofs.lemmas.Bool.{cases_Bool, eq-eqb, ne_eqb, false≢true, and_parts, false_from_ne_true, lt-ltb, ltb-true, eqb-true}
use Rattle.std.proofs.lemmas.Option.{none-some, same_Some, some_pair_parts}
use Rattle.std.proofs.lemmas.List.Sums.{sum_by-cons}
use Rattle.geometry.specs.declared.geometry.Geometry.{Geometry}
use Rattle.geometry.specs.Numbers.{page_count}
use Rattle.table_model.specs.Table.{File, same_text}
use Rattle.image_model.specs.declared.damage.Damage.{Damage}
use Rattle.image_model.specs.Places.{page_of}
use Rattle.image_model.specs.Headers.{obj_id, name_of}
use Rattle.image_model.specs.Live.{Live, live_at, own}
use Rattle.image_model.specs.Files.{index_page, is_index, judged, judged_by, file_of, first_missing}
use Rattle.image_model.specs.Tables.{Found, has_of, is_before, counts, counted, records, damage, damages, table_of, damaged_of}
use Rattle.image_model.specs.Tidy.{is_number}
use Rattle.image_laws.proofs.Frames.{live_parts}
use Rattle.image_laws.proofs.Finish.{own-parts, has_of-within}
use Rattle.image_laws.proofs.Judge.{found_parts, found_from, index_passes}
use Rattle.image_laws.proofs.Tables.{find_passes}
use Rattle.image_laws.proofs.Damaged.{any_from, any_at, same_truth}
use Rattle.image_laws.proofs.FreeBlocks.{filter-same}
use Rattle.image_laws.proofs.Matching.{filter-none_in, count_one, count_by_key, sum-range, sum-records, weight}
use Rattle.image_laws.proofs.Records.{bytes_same, bytes_equal}
use Rattle.plain_image.specs.Leading.{is_text}
use Rattle.meta_tally.specs.Heads.{head_at, head_count}
use Rattle.meta_tally.specs.Names.{is_named_at}
use Rattle.meta_tally.specs.Wholes.{is_complete_at}
use Rattle.meta_tally.specs.Counted.{shadows, is_alone, is_counted}
use Rattle.meta_tally.proofs.Finds.{number_is}

-- ---- header pages and ids

number_of : (o : Option ℕ) (p : ℕ) → o ≡ Some p → is_number o p ≡ true
number_of o p e = rw e (eq-eqb p p refl)

chosen : (b : Bool) (x id : ℕ) → (if b then Some x else None) ≡ Some id → (b ≡ true) × (x ≡ id)
chosen true x id e = (refl, same_Some x id e)
chosen false x id e = absurd (none-some id e)

some_page : (o : Option (List ℕ)) → is_index o 0 ≡ true → (page : List ℕ) × (o ≡ Some page)
some_page None e = absurd (false≢true e)
some_page (Some page) e = (page, refl)

module _ (g : Geometry) (image : List ℕ) where
  -- an id with a header page has it there
  pub head_has : (id p : ℕ) (r : Result File Damage) → has_of g (live_at g image) id ≡ Some (p, r) → (head_at g image p ≡ Some id) × (p < page_count g)
  unfolding has_of head_at index_page
  head_has id p r e =
      let w = found_parts g (own (live_at g image) id) id p r e in
      let v = own-parts (live_at g image) id p w.0 w.2 in
      let page : page_of g image p ≡ w.0 = (live_parts g image p w.0 v.0).bytes in
      let same : obj_id (page_of g image p) % 0x8000 ≡ id = rw page v.1 in
      let inside = find_passes (λ (q : ℕ). is_index (own (live_at g image) id q) 0) 0 (page_count g) p w.1 in
      (rw (same, number_of _ p w.1) refl, omega (arith, inside.2))

  -- and what it has is judged by that page
  pub has_head : (id p : ℕ) → head_at g image p ≡ Some id →
      (obj_id (page_of g image p) % 0x8000 ≡ id) × (has_of g (live_at g image) id ≡ Some (p, judged g (own (live_at g image) id) id (page_of g image p)))
  unfolding has_of head_at
  has_head id p e =
      let w = chosen _ _ id e in
      let index : index_page g (own (live_at g image) id) 0 ≡ Some p = number_is _ p (rw w.1 at w.0) in
      let head = some_page (own (live_at g image) id p) (index_passes g (own (live_at g image) id) 0 p index) in
      let v = own-parts (live_at g image) id p head.0 head.1 in
      let page : page_of g image p ≡ head.0 = (live_parts g image p head.0 v.0).bytes in
      (w.1, rw page (found_from g (own (live_at g image) id) id p head.0 index head.1))

-- ---- counts by pages and by ids

-- a test of the id whose header page a page is
abbrev pub by_id : (ℕ → Bool) → Option ℕ → Bool
by_id c None = false
by_id c (Some id) = c id

abbrev has_one : {X : Type 0} → Option X → Bool → ℕ
has_one o b = cond (is_some o && b) 1 0

and_false : (b : Bool) → (b && false) ≡ false
and_false true = refl
and_false false = refl

-- each page is the header page of one id at most
one_id : (c : ℕ → Bool) (n : ℕ) (o : Option ℕ) → ((k : ℕ) → o ≡ Some k → (1 ≤ k) × (k ≤ n)) → length (filter (λ (id : ℕ). is_number o id && c id) (range_with_len 1 n)) ≡ cond (by_id c o) 1 0
one_id c n None within = filter-none_in (λ (id : ℕ). false) 1 n (λ q low high. refl)
one_id c n (Some k) within =
    let inside = within k refl in
    ⊎_elim
    (λ (yes : c k ≡ true). rw yes (count_one (λ (id : ℕ). (k == id) && c id) k 1 n inside.0 (omega (arith, inside.1)) (rw (eq-eqb k k refl) yes) (λ j differ. rw (ne_eqb k j (λ e. differ (sym e))) refl)))
    (λ (no : c k ≡ false). rw no (filter-none_in (λ (id : ℕ). (k == id) && c id) 1 n (λ q low high. same_truth _ false (λ both. let w = and_parts _ _ both in let same : k ≡ q = eqb-true k q w.0 in sym (rw same at no) ∙ w.1) (λ x. absurd (false≢true x)))))
    (cases_Bool (c k))

-- ids with a header page are from 1 to n
abbrev Within : Geometry → List ℕ → ℕ → Type 0
Within g image n = (id p : ℕ) (r : Result File Damage) → has_of g (live_at g image) id ≡ Some (p, r) → (1 ≤ id) × (id ≤ n)

module _ (g : Geometry) (image : List ℕ) (n : ℕ) (within : Within g image n) (c : ℕ → Bool) where
  abbrev test : ℕ → ℕ → Bool
  test id p = is_number (head_at g image p) id && c id

  -- each id has one header page at most
  one_page : (id : ℕ) (o : Option (ℕ × Result File Damage)) → has_of g (live_at g image) id ≡ o → length (filter (test id) (range_with_len 0 (page_count g))) ≡ has_one o (c id)
  one_page id None e = filter-none_in (test id) 0 (page_count g) (λ q low high. false_from_ne_true _ (λ both.
      let w = and_parts _ _ both in
      none-some _ (sym e ∙ (has_head g image id q (number_is _ id w.0)).1)))
  one_page id (Some (p, r)) e =
      let head = head_has g image id p r e in
      ⊎_elim
      (λ (yes : c id ≡ true). rw yes (count_one (test id) p 0 (page_count g) (omega arith) (omega (arith, head.1)) (rw (head.0, eq-eqb id id refl) yes)
      (λ q differ. false_from_ne_true _ (λ both.
      let w = and_parts _ _ both in
      let other = (has_head g image id q (number_is _ id w.0)).1 in
      differ (some_pair_parts q p _ r (sym other ∙ e)).0))))
      (λ (no : c id ≡ false). rw no (filter-none_in (test id) 0 (page_count g) (λ q low high. rw no (and_false _))))
      (cases_Bool (c id))

  by_pages : length (filter (λ (p : ℕ). by_id c (head_at g image p)) (range_with_len 0 (page_count g))) ≡ sum_by (λ (id : ℕ). has_one (has_of g (live_at g image) id) (c id)) (range_with_len 1 n)
  by_pages =
      count_by_key (λ (p : ℕ). by_id c (head_at g image p)) test (page_count g) 1 n (λ p low. one_id c n (head_at g image p) (λ k e. within k p _ (has_head g image k p e).1))
      ∙ sum-range (λ (id : ℕ). length (filter (test id) (range_with_len 0 (page_count g)))) (λ (id : ℕ). has_one (has_of g (live_at g image) id) (c id)) 1 n (λ id low high. one_page id (has_of g (live_at g image) id) refl)

-- ---- files of the table, and damaged ids

length_sum : {X : Type 0} (xs : List X) → length xs ≡ sum_by (λ (x : X). 1) xs
length_sum [] = refl
length_sum (x ∷ xs) = let s = sum_by-cons (λ y. 1) x xs in omega (arith, s, length_sum xs)

sum_both : (f h : ℕ → ℕ) (xs : List ℕ) → sum_by (λ (x : ℕ). f x + h x) xs ≡ sum_by f xs + sum_by h xs
sum_both f h [] = refl
sum_both f h (x ∷ xs) =
    let a = sum_by-cons (λ (y : ℕ). f y + h y) x xs in
    let b = sum_by-cons f x xs in
    let d = sum_by-cons h x xs in
    omega (arith, a, b, d, sum_both f h xs)

module _ (has : Found) (n : ℕ) where
  one_counted : (o : Option (ℕ × Result File Damage)) → weight (λ (f : File). 1) (counted has n o) ≡ has_one o (is_some (counted has n o))
  one_counted None = refl
  one_counted (Some (p, Err e)) = refl
  one_counted (Some (p, Ok f)) = ⊎_elim (λ (yes : counts has n p f.name ≡ true). rw yes refl) (λ (no : counts has n p f.name ≡ false). rw no refl) (cases_Bool (counts has n p f.name))

  one_each : (id : ℕ) (o : Option (ℕ × Result File Damage)) → weight (λ (f : File). 1) (counted has n o) + weight (λ (d : ℕ × Damage). 1) (damage has n id o) ≡ has_one o true
  one_each id None = refl
  one_each id (Some (p, Err e)) = refl
  one_each id (Some (p, Ok f)) = ⊎_elim (λ (yes : counts has n p f.name ≡ true). rw yes refl) (λ (no : counts has n p f.name ≡ false). rw no refl) (cases_Bool (counts has n p f.name))

  records_sum : length (records has n) ≡ sum_by (λ (id : ℕ). weight (λ (f : File). 1) (counted has n (has id))) (range_with_len 1 n)
  unfolding records
  records_sum = length_sum (records has n) ∙ sum-records (λ (f : File). 1) (λ (id : ℕ). counted has n (has id)) 1 n

  damages_sum : length (damages has n) ≡ sum_by (λ (id : ℕ). weight (λ (d : ℕ × Damage). 1) (damage has n id (has id))) (range_with_len 1 n)
  unfolding damages
  damages_sum = length_sum (damages has n) ∙ sum-records (λ (d : ℕ × Damage). 1) (λ (id : ℕ). damage has n id (has id)) 1 n

  pub records_ids : length (records has n) ≡ sum_by (λ (id : ℕ). has_one (has id) (is_some (counted has n (has id)))) (range_with_len 1 n)
  records_ids = records_sum ∙ sum-range (λ (id : ℕ). weight (λ (f : File). 1) (counted has n (has id))) (λ (id : ℕ). has_one (has id) (is_some (counted has n (has id)))) 1 n (λ id low high. one_counted (has id))

  pub both_ids : length (records has n) + length (damages has n) ≡ sum_by (λ (id : ℕ). has_one (has id) true) (range_with_len 1 n)
  both_ids =
      let one = records_sum in
      let two = damages_sum in
      let three = sum_both (λ (id : ℕ). weight (λ (f : File). 1) (counted has n (has id))) (λ (id : ℕ). weight (λ (d : ℕ × Damage). 1) (damage has n id (has id))) (range_with_len 1 n) in
      let four = sum-range (λ (id : ℕ). weight (λ (f : File). 1) (counted has n (has id)) + weight (λ (d : ℕ × Damage). 1) (damage has n id (has id))) (λ (id : ℕ). has_one (has id) true) 1 n (λ id low high. one_each id (has id)) in
      omega (arith, one, two, three, four)

-- ---- whether the file of a header page counts

-- the name of a file that is whole
abbrev judged_name : Result File Damage → Option (List ℕ)
judged_name (Err e) = None
judged_name (Ok f) = Some f.name

by_judged : (g : Geometry) (pages : Live) (id : ℕ) (head : List ℕ) (n : Option (List ℕ)) (m : Option ℕ) (f : File) → judged_by g pages id head n m ≡ Ok f → (n ≡ Some f.name) × (is_none m ≡ true)
by_judged g pages id head None m f e = absurd (none-some f.name (ap judged_name e))
by_judged g pages id head (Some name) (Some span) f e = absurd (none-some f.name (ap judged_name e))
by_judged g pages id head (Some name) None f e = (ap judged_name e, refl)

whole_by : (g : Geometry) (pages : Live) (id : ℕ) (head name : List ℕ) (n : Option (List ℕ)) (m : Option ℕ) → n ≡ Some name → is_none m ≡ true → (f : File) × (judged_by g pages id head n m ≡ Ok f) × (f.name ≡ name)
whole_by g pages id head name None m e none = absurd (none-some name e)
whole_by g pages id head name (Some other) (Some span) e none = absurd (false≢true none)
whole_by g pages id head name (Some other) None e none = (_, refl, same_Some other name e)

module _ (g : Geometry) (image : List ℕ) where
  -- a whole file's header page has its name, and all data pages are there
  whole_parts : (id p : ℕ) (f : File) → has_of g (live_at g image) id ≡ Some (p, Ok f) → (head_at g image p ≡ Some id) × (name_of (page_of g image p) ≡ Some f.name) × (is_complete_at g image p ≡ true)
  unfolding is_complete_at judged
  whole_parts id p f e =
      let head = head_has g image id p (Ok f) e in
      let v = has_head g image id p head.0 in
      let is = (some_pair_parts p p _ (Ok f) (sym v.1 ∙ e)).1 in
      let w = by_judged g (own (live_at g image) id) id (page_of g image p) _ _ f is in
      (head.0, w.0, rw v.0 w.1)

  whole_from : (id p : ℕ) (name : List ℕ) → head_at g image p ≡ Some id → name_of (page_of g image p) ≡ Some name → is_complete_at g image p ≡ true → (f : File) × (has_of g (live_at g image) id ≡ Some (p, Ok f)) × (f.name ≡ name)
  unfolding is_complete_at judged
  whole_from id p name head is complete =
      let v = has_head g image id p head in
      let w = whole_by g (own (live_at g image) id) id (page_of g image p) name (name_of (page_of g image p)) (first_missing g (own (live_at g image) id) (page_of g image p)) is (rw v.0 at complete) in
      (w.0, v.1 ∙ ap (λ (x : Result File Damage). Some (p, x)) w.1, w.2)

  -- the same name
  text_is : (o : Option (List ℕ)) (name : List ℕ) → is_text o name ≡ true → o ≡ Some name
  text_is None name e = absurd (false≢true e)
  text_is (Some other) name e = ap (λ (x : List ℕ). Some x) (bytes_same other name e)

  module _ (n : ℕ) (within : Within g image n) (p : ℕ) (name : List ℕ) where
    earlier : (id : ℕ) (o : Option (ℕ × Result File Damage)) → has_of g (live_at g image) id ≡ o → is_before o p name ≡ true → (q : ℕ) × (q < p) × (shadows g image name q ≡ true)
    unfolding shadows is_named_at
    earlier id None e before = absurd (false≢true before)
    earlier id (Some (q, Err x)) e before = absurd (false≢true before)
    earlier id (Some (q, Ok f)) e before =
        let w = and_parts _ _ before in
        let v = whole_parts id q f e in
        (q, ltb-true q p w.0, rw (v.0, v.1, v.2, w.1) refl)

    is_earlier : (q : ℕ) → q < p → shadows g image name q ≡ true → (id : ℕ) × (1 ≤ id) × (id ≤ n) × (is_before (has_of g (live_at g image) id) p name ≡ true)
    unfolding shadows is_named_at
    is_earlier q low e = by_head (head_at g image q) refl where
      by_head : (o : Option ℕ) → head_at g image q ≡ o → (id : ℕ) × (1 ≤ id) × (id ≤ n) × (is_before (has_of g (live_at g image) id) p name ≡ true)
      by_head None at =
          let named : (is_some (head_at g image q) && is_text (name_of (page_of g image q)) name) ≡ true = (and_parts (is_some (head_at g image q) && is_text (name_of (page_of g image q)) name) (is_complete_at g image q) e).0 in
          let some : is_some (head_at g image q) ≡ true = (and_parts _ _ named).0 in
          absurd (false≢true (rw at at some))
      by_head (Some id) at =
          let named : (is_some (head_at g image q) && is_text (name_of (page_of g image q)) name) ≡ true = (and_parts (is_some (head_at g image q) && is_text (name_of (page_of g image q)) name) (is_complete_at g image q) e).0 in
          let complete : is_complete_at g image q ≡ true = (and_parts (is_some (head_at g image q) && is_text (name_of (page_of g image q)) name) (is_complete_at g image q) e).1 in
          let text : is_text (name_of (page_of g image q)) name ≡ true = (and_parts (is_some (head_at g image q)) (is_text (name_of (page_of g image q)) name) named).1 in
          let f = whole_from id q name at (text_is (name_of (page_of g image q)) name text) complete in
          let inside = within id q (Ok f.0) f.1 in
          let same : same_text f.0.name name ≡ true = rw f.2 (bytes_equal name) in
          (id, inside.0, inside.1, rw (f.1, lt-ltb q p low) same)

    -- a file counts where no whole file of its name is before it
    counts_is : counts (has_of g (live_at g image)) n p name ≡ not (list_any (shadows g image name) (range_with_len 0 p))
    unfolding counts
    counts_is = ap not (same_truth (list_any (λ (id : ℕ). is_before (has_of g (live_at g image) id) p name) (range_with_len 1 n)) (list_any (shadows g image name) (range_with_len 0 p))
        (λ some.
        let w = any_at (λ (id : ℕ). is_before (has_of g (live_at g image) id) p name) 1 n some in
        let v = earlier w.0 (has_of g (live_at g image) w.0) refl w.3 in
        any_from (shadows g image name) 0 p v.0 (omega arith) (omega (arith, v.1)) v.2)
        (λ some.
        let w = any_at (shadows g image name) 0 p some in
        let v = is_earlier w.0 (omega (arith, w.2)) w.3 in
        any_from (λ (id : ℕ). is_before (has_of g (live_at g image) id) p name) 1 n v.0 v.1 (omega (arith, v.2)) v.3))

  some_id : (o : Option ℕ) → is_some o ≡ by_id (λ (id : ℕ). true) o
  some_id None = refl
  some_id (Some id) = refl

  module _ (n : ℕ) (within : Within g image n) where
    is_chosen : (id p : ℕ) (head : List ℕ) (o : Option (List ℕ)) (m : Option ℕ) →
        is_some (counted (has_of g (live_at g image)) n (Some (p, judged_by g (own (live_at g image) id) id head o m))) ≡ (is_none m && is_alone g image p o)
    is_chosen id p head None None = refl
    is_chosen id p head None (Some span) = refl
    is_chosen id p head (Some name) (Some span) = refl
    is_chosen id p head (Some name) None = by_counts (file_of g (own (live_at g image) id) id head name) (counts (has_of g (live_at g image)) n p name) _ (counts_is n within p name) where
      by_counts : (f : File) (b x : Bool) → b ≡ x → is_some (if b then Some f else None) ≡ x
      by_counts f true x e = e
      by_counts f false x e = e

    counted_at : (p : ℕ) → is_counted g image p ≡ by_id (λ (id : ℕ). is_some (counted (has_of g (live_at g image)) n (has_of g (live_at g image) id))) (head_at g image p)
    unfolding is_counted is_complete_at judged
    counted_at p = by_head (head_at g image p) refl where
      by_head : (o : Option ℕ) → head_at g image p ≡ o →
          (is_some o && (is_none (first_missing g (own (live_at g image) (obj_id (page_of g image p) % 0x8000)) (page_of g image p)) && is_alone g image p (name_of (page_of g image p))))
          ≡ by_id (λ (id : ℕ). is_some (counted (has_of g (live_at g image)) n (has_of g (live_at g image) id))) o
      by_head None at = refl
      by_head (Some id) at =
          let w = has_head g image id p at in
          let chosen = is_chosen id p (page_of g image p) (name_of (page_of g image p)) (first_missing g (own (live_at g image) id) (page_of g image p)) in
          rw (w.1, w.0) (sym chosen)

    records_pages : length (records (has_of g (live_at g image)) n) ≡ length (filter (is_counted g image) (range_with_len 0 (page_count g)))
    records_pages =
        let has = has_of g (live_at g image) in
        let c : ℕ → Bool = λ (id : ℕ). is_some (counted has n (has id)) in
        records_ids has n
        ∙ sym (by_pages g image n within c)
        ∙ filter-same (is_counted g image) (λ (p : ℕ). by_id c (head_at g image p)) 0 (page_count g) (λ q low high. sym (counted_at q))

    both_pages : head_count g image ≡ length (records (has_of g (live_at g image)) n) + length (damages (has_of g (live_at g image)) n)
    unfolding head_count
    both_pages =
        let has = has_of g (live_at g image) in
        filter-same (λ (p : ℕ). by_id (λ (id : ℕ). true) (head_at g image p)) (λ (p : ℕ). is_some (head_at g image p)) 0 (page_count g) (λ q low high. some_id (head_at g image q))
        ∙ by_pages g image n within (λ (id : ℕ). true)
        ∙ sym (both_ids has n)

  -- as many files are in the table as pages are header pages of files that count
  pub table_pages : length (table_of g image) ≡ length (filter (is_counted g image) (range_with_len 0 (page_count g)))
  unfolding table_of
  table_pages = records_pages 0x7FFF (λ id p r e. has_of-within g image id p r e)

  -- whole files and damaged ids together are as many as ids that have a header page
  pub heads_pages : head_count g image ≡ length (table_of g image) + length (damaged_of g image)
  unfolding table_of damaged_of
  heads_pages = both_pages 0x7FFF (λ id p r e. has_of-within g image id p r e)
