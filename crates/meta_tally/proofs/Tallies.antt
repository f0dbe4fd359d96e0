-- Files counted, page by page.
use Rattle.std.proofs.Common.{◌≡◌, ◌≢◌, ℕ, ◌+◌, ◌-◌, ◌<◌, ◌≤◌, ◌&&◌, not, Bool, true, false, cond, List, length, Option, Some, None, slice_index, slice_set, ap, refl, sym, ◌∙◌, arith, ⊎_elim, length-set}
use Rattle.std.specs.Prelude.{is_some}
use Rattle.std.specs.List.{range_with_len, list_any}
use Rattle.std.proofs.lemmas.Bool.{cases_eq, cases_lt, cases_Bool, false≢true, and_parts, false_from_ne_true}
use Rattle.std.proofs.lemmas.List.{get_or-set_same, get_or-set_other}
use Rattle.geometry.specs.declared.geometry.Geometry.{Geometry}
use Rattle.geometry.specs.Numbers.{page_count}
use Rattle.image_model.specs.Places.{page_of}
use Rattle.image_model.specs.Headers.{name_of}
use Rattle.image_laws.proofs.Damaged.{any_from, any_at, same_truth}
use Rattle.image_laws.proofs.Records.{bytes_same}
use Rattle.plain_image.specs.Counted.{Counts}
use Rattle.plain_image.specs.Leading.{is_text}
use Rattle.plain_image.proofs.Ranges.{count_yes, count_no, count_none, count_all}
use Rattle.meta_tally.specs.Heads.{head_at}
use Rattle.meta_tally.specs.Names.{name_number, mark_by, mark_at, IsMarked, is_named_at, Noted}
use Rattle.meta_tally.specs.Wholes.{is_complete_at}
use Rattle.meta_tally.specs.Counted.{IsAlike, shadows, is_alone, is_counted, with_one, Tallied, AreTallied}
use Rattle.meta_tally.proofs.Alike.{same_named, same_pages, same_mark, one_alike}
use Rattle.meta_tally.proofs.Marks.{mark_some, marked_name, named_at}
use Rattle.meta_tally.proofs.Counting.{table_pages}

-- ---- one file, by each number of meta bytes

-- By the numbers of meta bytes below `meta` the file of page p was counted, where it counts.
pub record TallyTo (g : Geometry) (image : List ℕ) (p meta : ℕ) (old whole : List ℕ) : Type 0 where
  pub len : length whole ≡ 65
  pub each : (h : Geometry) → IsAlike g h → h.meta < meta → slice_index whole h.meta ≡ slice_index old h.meta + cond (is_counted h image p) 1 0
  pub rest : (k : ℕ) → meta ≤ k → slice_index whole k ≡ slice_index old k
  pub few : (k : ℕ) → slice_index whole k ≤ slice_index old k + 1

with_same : (whole : List ℕ) (k j : ℕ) (b : Bool) → k ≡ j → k < length whole → slice_index (with_one whole k b) j ≡ slice_index whole j + cond b 1 0
with_same whole k j false e low = omega arith
with_same whole k j true e low = rw (← e) (get_or-set_same whole k (slice_index whole k + 1) 0 low)

with_other : (whole : List ℕ) (k j : ℕ) (b : Bool) → j ≢ k → slice_index (with_one whole k b) j ≡ slice_index whole j
with_other whole k j false e = refl
with_other whole k j true e = get_or-set_other whole k j (slice_index whole k + 1) 0 e

with_len : (whole : List ℕ) (k : ℕ) (b : Bool) → length (with_one whole k b) ≡ length whole
with_len whole k false = refl
with_len whole k true = length-set whole k (slice_index whole k + 1)

at_most_one : (b : Bool) → cond b 1 0 ≤ 1
at_most_one true = omega arith
at_most_one false = omega arith

module _ (g : Geometry) (image : List ℕ) (p : ℕ) where
  pub tally_none : (old : List ℕ) → length old ≡ 65 → TallyTo g image p 0 old old
  tally_none old len = record { len = len; each = λ h same low. absurd (omega (arith, low)); rest = λ k low. refl; few = λ k. omega arith }

  pub tally_one : (meta : ℕ) (old whole : List ℕ) (b : Bool) → meta < 65 → TallyTo g image p meta old whole → ((h : Geometry) → IsAlike g h → h.meta ≡ meta → b ≡ is_counted h image p) → TallyTo g image p (meta + 1) old (with_one whole meta b)
  tally_one meta old whole b low was is = record {
    len = with_len whole meta b ∙ was.len;
    each = λ h same below. ⊎_elim
        (λ (here : meta ≡ h.meta).
        let one = with_same whole meta h.meta b here (omega (arith, low, was.len)) in
        let before = was.rest h.meta (omega (arith, here)) in
        one ∙ (rw (before, is h same (sym here)) refl))
        (λ (there : meta ≡ h.meta → ⊥). with_other whole meta h.meta b (λ e. there (sym e)) ∙ was.each h same (omega (arith, below, there)))
        (cases_eq meta h.meta);
    rest = λ k above. with_other whole meta k b (λ e. absurd (omega (arith, e, above))) ∙ was.rest k (omega (arith, above));
    few = λ k. ⊎_elim
        (λ (here : meta ≡ k).
        let one = with_same whole meta k b here (omega (arith, low, was.len)) in
        let before = was.rest k (omega (arith, here)) in
        let most = at_most_one b in
        omega (arith, one, before, most))
        (λ (there : meta ≡ k → ⊥). let same = with_other whole meta k b (λ e. there (sym e)) in let before = was.few k in omega (arith, same, before))
        (cases_eq meta k);
  }

  count_step : (h : Geometry) (count more : ℕ) → p < page_count h → Counts (is_counted h image) count p (page_count h) → more ≡ count + cond (is_counted h image p) 1 0 → Counts (is_counted h image) more (p + 1) (page_count h)
  count_step h count more low was is = ⊎_elim
      (λ (yes : is_counted h image p ≡ true). count_yes (is_counted h image) count more p (page_count h) low was yes (rw yes at is))
      (λ (no : is_counted h image p ≡ false). count_no (is_counted h image) count more p (page_count h) low was no (let same = rw no at is in omega (arith, same)))
      (cases_Bool (is_counted h image p))

  step : (h : Geometry) (count more : ℕ) → IsAlike g h → p < page_count g → Counts (is_counted h image) count p (page_count g) → more ≡ count + cond (is_counted h image p) 1 0 → Counts (is_counted h image) more (p + 1) (page_count g)
  step h count more same low was is = let pages = same_pages g h same in rw pages at (count_step h count more (rw pages low) (rw pages was) is)

  pub tally_all : (old whole : List ℕ) → p < page_count g → Tallied g image p old → TallyTo g image p 65 old whole → Tallied g image (p + 1) whole
  tally_all old whole low was done = record {
    len = done.len;
    each = λ h same. step h (slice_index old h.meta) (slice_index whole h.meta) same low (was.each h same) (done.each h same (omega (arith, h.valid.meta_most)));
    few = λ k. let a = was.few k in let b = done.few k in omega (arith, a, b);
  }

  -- a page that isn't the header page of a file with a name
  pub tally_nothing : (old : List ℕ) → p < page_count g → ((h : Geometry) → IsAlike g h → is_counted h image p ≡ false) → Tallied g image p old → Tallied g image (p + 1) old
  tally_nothing old low none was = record {
    len = was.len;
    each = λ h same. step h (slice_index old h.meta) (slice_index old h.meta) same low (was.each h same) (rw (none h same) (omega arith));
    few = λ k. let a = was.few k in omega (arith, a);
  }

pub none_tallied : (g : Geometry) (image whole : List ℕ) → length whole ≡ 65 → ((k : ℕ) → slice_index whole k ≡ 0) → Tallied g image 0 whole
none_tallied g image whole len zero = record {
  len = len;
  each = λ h same. rw (zero h.meta) (count_none (is_counted h image) (page_count g));
  few = λ k. let z = zero k in omega (arith, z);
}

pub all_tallied : (g : Geometry) (image whole : List ℕ) (p : ℕ) → page_count g ≤ p → Tallied g image p whole → AreTallied g image whole
all_tallied g image whole p end was = record {
  len = was.len;
  each = λ h same.
      let count = count_all (is_counted h image) (slice_index whole h.meta) p (page_count g) end (was.each h same) in
      count ∙ sym (rw (same_pages g h same) at (table_pages h image));
}

-- ---- names

-- a page without a mark
by_none : (o : Option ℕ) (n : Option (List ℕ)) (name : List ℕ) → mark_by o n ≡ 0 → (is_some o && is_text n name) ≡ false
by_none None n name e = refl
by_none (Some id) None name e = refl
by_none (Some id) (Some other) name e = absurd (mark_some other e)

module _ (g : Geometry) (image : List ℕ) (p : ℕ) where
  not_counted : (o : Option ℕ) (n : Option (List ℕ)) (b : Bool) → mark_by o n ≡ 0 → (is_some o && (b && is_alone g image p n)) ≡ false
  not_counted None n b e = refl
  not_counted (Some id) None true e = refl
  not_counted (Some id) None false e = refl
  not_counted (Some id) (Some other) b e = absurd (mark_some other e)

  pub unmarked : mark_at g image p ≡ 0 → is_counted g image p ≡ false
  unfolding mark_at is_counted
  unmarked none = not_counted (head_at g image p) (name_of (page_of g image p)) (is_complete_at g image p) none

  unnamed : mark_at g image p ≡ 0 → (name : List ℕ) → is_named_at g image name p ≡ false
  unfolding mark_at is_named_at
  unnamed none name = by_none (head_at g image p) (name_of (page_of g image p)) name none

  pub noted_nothing : (names : List ℕ) → mark_at g image p ≡ 0 → Noted g image p names → Noted g image (p + 1) names
  noted_nothing names none was = record {
    len = was.len;
    each = λ q name low named. ⊎_elim
        (λ (below : q < p). was.each q name below named)
        (λ (here : p ≤ q). let same : q ≡ p = omega (arith, low, here) in absurd (false≢true (sym (unnamed none name) ∙ (rw same at named))))
        (cases_lt q p);
  }

  -- the name of a page
  name_is : (name other : List ℕ) → is_named_at g image name p ≡ true → is_named_at g image other p ≡ true → other ≡ name
  unfolding is_named_at
  name_is name other one two = by_text (name_of (page_of g image p)) (and_parts _ _ one).1 (and_parts _ _ two).1 where
    by_text : (o : Option (List ℕ)) → is_text o name ≡ true → is_text o other ≡ true → other ≡ name
    by_text None e e' = absurd (false≢true e)
    by_text (Some x) e e' = sym (bytes_same x other e') ∙ bytes_same x name e

  pub noted_one : (name names : List ℕ) → name_number name < 0x80000 → is_named_at g image name p ≡ true → Noted g image p names → Noted g image (p + 1) (slice_set names (name_number name) 1)
  noted_one name names few head was = record {
    len = length-set names (name_number name) 1 ∙ was.len;
    each = λ q other low named. ⊎_elim
        (λ (same : name_number other ≡ name_number name). rw same (get_or-set_same names (name_number name) 1 0 (omega (arith, few, was.len))))
        (λ (differ : name_number other ≡ name_number name → ⊥).
        ⊎_elim
        (λ (below : q < p). get_or-set_other names (name_number name) (name_number other) 1 0 differ ∙ was.each q other below named)
        (λ (here : p ≤ q). let same : q ≡ p = omega (arith, low, here) in absurd (differ (ap (λ (x : List ℕ). name_number x) (name_is name other head (rw same at named)))))
        (cases_lt q p))
        (cases_eq (name_number other) (name_number name));
  }

  -- none of that name is below, where its number isn't noted
  pub none_named : (name names : List ℕ) → Noted g image p names → slice_index names (name_number name) ≡ 0 → (q : ℕ) → q < p → is_named_at g image name q ≡ false
  none_named name names was zero q low = false_from_ne_true _ (λ yes. let one = was.each q name low yes in absurd (omega (arith, one, zero)))

pub none_noted : (g : Geometry) (image names : List ℕ) → length names ≡ 0x80000 → Noted g image 0 names
none_noted g image names len = record { len = len; each = λ q name low named. absurd (omega (arith, low)) }

-- ---- whether one file counts

any_behind : (t : ℕ → Bool) (from p : ℕ) → from ≤ p → ((q : ℕ) → q < from → t q ≡ false) → list_any t (range_with_len 0 p) ≡ list_any t (range_with_len from (p - from))
any_behind t from p low none = same_truth _ _
    (λ some.
    let w = any_at t 0 p some in
    ⊎_elim
    (λ (below : w.0 < from). absurd (false≢true (sym (none w.0 below) ∙ w.3)))
    (λ (above : from ≤ w.0). any_from t from (p - from) w.0 above (omega (arith, w.2, low)) w.3)
    (cases_lt w.0 from))
    (λ some. let w = any_at t from (p - from) some in any_from t 0 p w.0 (omega arith) (omega (arith, w.2, low)) w.3)

never_and : (b x : Bool) → b ≡ false → (b && x) ≡ false
never_and b x e = rw e refl

module _ (g k : Geometry) (image : List ℕ) (from p : ℕ) (name : List ℕ) (alike : IsAlike g k) (low : from ≤ p)
    (none : (q : ℕ) → q < from → is_named_at g image name q ≡ false) (head : is_named_at g image name p ≡ true) where
  alone_is : is_alone k image p (name_of (page_of k image p)) ≡ not (list_any (shadows k image name) (range_with_len from (p - from)))
  unfolding is_named_at shadows
  alone_is = by_text (name_of (page_of k image p)) (and_parts _ _ named).1 where
    named : (is_some (head_at k image p) && is_text (name_of (page_of k image p)) name) ≡ true
    named = same_named g k alike image name p ∙ head

    by_text : (o : Option (List ℕ)) → is_text o name ≡ true → is_alone k image p o ≡ not (list_any (shadows k image name) (range_with_len from (p - from)))
    by_text None e = absurd (false≢true e)
    by_text (Some other) e =
        let same : other ≡ name = bytes_same other name e in
        rw same (ap not (any_behind (shadows k image name) from p low (λ q below. never_and (is_named_at k image name q) (is_complete_at k image q) (same_named g k alike image name q ∙ none q below))))

  some_head : is_some (head_at k image p) ≡ true
  unfolding is_named_at
  some_head = (and_parts _ _ (same_named g k alike image name p ∙ head)).0

  counted_is : is_counted k image p ≡ (is_complete_at k image p && not (list_any (shadows k image name) (range_with_len from (p - from))))
  unfolding is_counted
  counted_is = rw (some_head, alone_is) refl

  pub incomplete : is_complete_at k image p ≡ false → (h : Geometry) → IsAlike g h → h.meta ≡ k.meta → false ≡ is_counted h image p
  incomplete fails h same meta = let one = one_alike g h k same alike meta in rw one (sym (counted_is ∙ (rw fails refl)))

  pub complete : is_complete_at k image p ≡ true → (h : Geometry) → IsAlike g h → h.meta ≡ k.meta → not (list_any (shadows k image name) (range_with_len from (p - from))) ≡ is_counted h image p
  complete passes h same meta = let one = one_alike g h k same alike meta in rw one (sym (counted_is ∙ (rw passes refl)))

-- ---- the name of a marked page

-- without a name there is no mark
pub unmarked_none : (g : Geometry) (image : List ℕ) (p : ℕ) → name_of (page_of g image p) ≡ None → mark_at g image p ≡ 0
unfolding mark_at
unmarked_none g image p none = by_head (head_at g image p) (name_of (page_of g image p)) none where
  by_head : (o : Option ℕ) (n : Option (List ℕ)) → n ≡ None → mark_by o n ≡ 0
  by_head None n e = refl
  by_head (Some id) n e = rw e refl

-- with a mark the page is a header page with its name
pub marked_named : (g : Geometry) (image marks name : List ℕ) (p : ℕ) → IsMarked g image marks → p < page_count g → slice_index marks p ≢ 0 → name_of (page_of g image p) ≡ Some name → is_named_at g image name p ≡ true
marked_named g image marks name p are low some is = named_at g image p name (marked_name g image marks p are low some).1 is

-- a page without a mark is no header page of a file that counts
pub unmarked_alike : (g : Geometry) (image : List ℕ) (p : ℕ) → mark_at g image p ≡ 0 → (h : Geometry) → IsAlike g h → is_counted h image p ≡ false
unmarked_alike g image p none h same = unmarked h image p (same_mark g h same image p ∙ none)
