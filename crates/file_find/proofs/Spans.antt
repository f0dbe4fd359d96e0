-- The first span that has no data page.
use Rattle.std.proofs.Common.{◌≡◌, ℕ, zero, suc, ◌+◌, ◌-◌, ◌*◌, ◌/◌, ◌%◌, ◌<◌, ◌≤◌, not, Bool, true, false, List, ap, refl, sym, ◌∙◌, min, if◌then◌else◌, ⊎_elim, arith}
use Rattle.std.specs.Prelude.{Result, Ok, Err, IfOk, Option, Some, None, find, is_none, is_some}
use Rattle.std.specs.List.{range_with_len}
use Rattle.std.specs.Option.{option_map}
use Rattle.std.proofs.Math.Nat.{sub-zero, div-add-mod, mul-le-mul_right}
use Rattle.std.proofs.lemmas.Nat.{div-mul-add, mod-mul-add}
use Rattle.std.proofs.lemmas.Bool.{cases_Bool, cases_lt, lt-ltb, le-ltb}
use Rattle.nor_core.specs.Flash.{word_at}
use Rattle.geometry.specs.declared.geometry.Geometry.{Geometry}
use Rattle.geometry.specs.Numbers.{head_slots, span_slots}
use Rattle.table_model.specs.Room.{data_pages}
use Rattle.image_model.specs.declared.damage.Damage.TheVariants.{BadName, Missing}
use Rattle.image_model.specs.Headers.{name_of, size_of}
use Rattle.image_model.specs.Live.{Live}
use Rattle.image_model.specs.Files.{index_page, entry_number, data_of, data_page, first_missing, judged, judged_by}
use Rattle.file_find.specs.Judging.{entry_data, missing_entry, missing_between, cause_of}

-- ---- first spans

find_same : (f now : ℕ → Bool) (a n : ℕ) → ((q : ℕ) → a ≤ q → q < a + n → now q ≡ f q) → find now (range_with_len a n) ≡ find f (range_with_len a n)
find_same f now a zero same = refl
find_same f now a (suc n) same = let here : now a ≡ f a = same a (omega arith) (omega arith) in rw (here, find_same f now (a + 1) n (λ q low high. same q (omega arith) (omega arith))) refl

find_stop : (t : ℕ → Bool) (a n m q : ℕ) → find t (range_with_len a n) ≡ Some q → find t (range_with_len a (n + m)) ≡ Some q
find_stop t a zero m q e = absurd (cc)
find_stop t a (suc n) m q e =
    let more : suc n + m ≡ suc (n + m) = omega arith in
    ⊎_elim
    (λ (yes' : t a ≡ true). rw more (rw yes' (rw yes' at e)))
    (λ (no' : t a ≡ false). rw more (rw no' (find_stop t (a + 1) n m q (rw no' at e))))
    (cases_Bool (t a))

find_go : (t : ℕ → Bool) (a b n m : ℕ) → b ≡ a + n → find t (range_with_len a n) ≡ None → find t (range_with_len a (n + m)) ≡ find t (range_with_len b m)
find_go t a b zero m at e = let same : b ≡ a = omega arith in let less : zero + m ≡ m = omega arith in rw (same, less) refl
find_go t a b (suc n) m at e =
    let more : suc n + m ≡ suc (n + m) = omega arith in
    ⊎_elim
    (λ (yes' : t a ≡ true). let bad : Some a ≡ None = rw yes' at e in absurd (cc))
    (λ (no' : t a ≡ false). rw more (rw no' (find_go t (a + 1) b n m (omega arith) (rw no' at e))))
    (cases_Bool (t a))

module _ (g : Geometry) (pages : Live) (head : List ℕ) where
  pub between_stop : (first mid end q : ℕ) → first ≤ mid → mid ≤ end → missing_between g pages head first mid ≡ Some q → missing_between g pages head first end ≡ Some q
  unfolding missing_between
  between_stop first mid end q low high e =
      let all : end - first ≡ mid - first + (end - mid) = omega arith in
      rw all (find_stop (λ (s : ℕ). is_none (data_page g pages head s)) first (mid - first) (end - mid) q e)

  pub between_go : (first mid end : ℕ) → first ≤ mid → mid ≤ end → missing_between g pages head first mid ≡ None → missing_between g pages head first end ≡ missing_between g pages head mid end
  unfolding missing_between
  between_go first mid end low high e =
      let all : end - first ≡ mid - first + (end - mid) = omega arith in
      rw all (find_go (λ (s : ℕ). is_none (data_page g pages head s)) first mid (mid - first) (end - mid) (omega arith) e)

  pub between_none : (first end : ℕ) → end ≤ first → missing_between g pages head first end ≡ None
  unfolding missing_between
  between_none first end h = let none : end - first ≡ 0 = omega arith in rw none refl

  -- the spans that a header page names
  near_data : (span : ℕ) → span < head_slots g → data_page g pages head span ≡ entry_data pages head (45 + g.meta) 0 span
  unfolding data_page entry_number
  near_data span low = rw (lt-ltb span (head_slots g) low, sub-zero span) refl

  pub near_missing : (end : ℕ) → end ≤ head_slots g → missing_entry pages head (45 + g.meta) 0 end ≡ missing_between g pages head 0 end
  unfolding missing_between missing_entry
  near_missing end few =
      find_same (λ (s : ℕ). is_none (data_page g pages head s)) (λ (s : ℕ). is_none (entry_data pages head (45 + g.meta) 0 s)) 0 (end - 0)
      (λ s low high. ap (λ (o : Option (List ℕ)). is_none o) (sym (near_data s (omega arith))))

-- the place of a span behind the header page's
place_behind : (h k x j s : ℕ) → j < x → s ≡ h + k * x + j → ((s - h) / x ≡ k) × ((s - h) % x ≡ j)
place_behind h k x j s low is =
    let at : s - h ≡ k * x + j = omega arith in
    (rw at (div-mul-add k x j low), rw at (mod-mul-add k x j low))

module _ (g : Geometry) (pages : Live) (head : List ℕ) (k : ℕ) where
  -- the spans that a further index page names
  behind_data : (page : List ℕ) (q s : ℕ) → index_page g pages (k + 1) ≡ Some q → pages q ≡ Some page →
      head_slots g + k * span_slots g ≤ s → s < head_slots g + k * span_slots g + span_slots g →
      data_page g pages head s ≡ entry_data pages page 8 (head_slots g + k * span_slots g) s
  unfolding data_page entry_number
  behind_data page q s is holds low high =
      let w = place_behind (head_slots g) k (span_slots g) (s - (head_slots g + k * span_slots g)) s (omega arith) (omega arith) in
      rw (le-ltb s (head_slots g) (omega arith)) (rw (w.0, w.1) (rw is (rw holds refl)))

  pub behind_missing : (page : List ℕ) (q end : ℕ) → index_page g pages (k + 1) ≡ Some q → pages q ≡ Some page → end ≤ head_slots g + k * span_slots g + span_slots g →
      missing_entry pages page 8 (head_slots g + k * span_slots g) end ≡ missing_between g pages head (head_slots g + k * span_slots g) end
  unfolding missing_between missing_entry
  behind_missing page q end is holds few =
      find_same (λ (s : ℕ). is_none (data_page g pages head s)) (λ (s : ℕ). is_none (entry_data pages page 8 (head_slots g + k * span_slots g) s)) (head_slots g + k * span_slots g) (end - (head_slots g + k * span_slots g))
      (λ s low high. ap (λ (o : Option (List ℕ)). is_none o) (sym (behind_data page q s is holds low (omega arith))))

  no_data : (s : ℕ) → index_page g pages (k + 1) ≡ None → s ≡ head_slots g + k * span_slots g → 0 < span_slots g → data_page g pages head s ≡ None
  unfolding data_page entry_number
  no_data s none is some =
      let w = place_behind (head_slots g) k (span_slots g) 0 s some (omega arith) in
      rw (le-ltb s (head_slots g) (omega arith)) (rw w.0 (rw none refl))

  -- without the index page the first of them is missing
  pub behind_none : (end : ℕ) → index_page g pages (k + 1) ≡ None → head_slots g + k * span_slots g < end → 0 < span_slots g →
      missing_between g pages head (head_slots g + k * span_slots g) end ≡ Some (head_slots g + k * span_slots g)
  unfolding missing_between
  behind_none end none less some =
      let n : end - (head_slots g + k * span_slots g) ≡ suc (end - (head_slots g + k * span_slots g + 1)) = omega arith in
      let gone : data_page g pages head (head_slots g + k * span_slots g) ≡ None = no_data (head_slots g + k * span_slots g) none refl some in
      rw n (rw gone refl)

-- ---- how many further index pages there are

-- a number is at most so many times another as it is divided by that, rounded up
pub ceil_enough : (r x k : ℕ) → 0 < x → (r + x - 1) / x ≤ k → r ≤ k * x
ceil_enough r x k some high =
    let whole : x * ((r + x - 1) / x) + (r + x - 1) % x ≡ r + x - 1 = div-add-mod (r + x - 1) x in
    let step : (r + x - 1) / x * x ≤ k * x = mul-le-mul_right x high in
    let rest : (r + x - 1) % x < x = omega arith in
    omega arith

pub slots_some : (g : Geometry) → 0 < span_slots g
slots_some g = omega (arith, g.valid.page_least)

-- ---- numbers that are told

pub none_by : {A : Type 0} (o : Option A) (none is : Bool) → is_some o ≡ not none → none ≡ is → is_none o ≡ is
none_by None true is e f = f
none_by None false is e f = absurd (cc)
none_by (Some x) true is e f = absurd (cc)
none_by (Some x) false is e f = f

none_is : (o : Option (List ℕ)) → is_none o ≡ not (is_some o)
none_is None = refl
none_is (Some x) = refl

-- the entry of a span names no data page of it, where the page that it names is none
pub data_gone : (pages : Live) (index : List ℕ) (at first span p : ℕ) (holds : Bool) → p ≡ word_at index (at + 2 * (span - first)) → holds ≡ is_some (data_of (pages p) span) → is_none (entry_data pages index at first span) ≡ not holds
data_gone pages index at first span p holds word is =
    none_is (data_of (pages (word_at index (at + 2 * (span - first)))) span) ∙ ap (λ (q : ℕ). not (is_some (data_of (pages q) span))) (sym word) ∙ ap not (sym is)

-- the same for answers that are one and the same by all heads
pub told_each : {A E H : Type 0} (r : Result A E) (x : A) (y : H → A) → IfOk r (λ v. v ≡ x) → ((h : H) → x ≡ y h) → IfOk r (λ v. (h : H) → v ≡ y h)
told_each (Ok v) x y told e = λ h. told ∙ e h
told_each (Err e) x y told same = told

-- ---- the spans of one further index page after the other

module _ (g : Geometry) (pages : Live) (head : List ℕ) (k spans : ℕ) where
  pub part_some : (found : Option ℕ) → is_some found ≡ true →
      found ≡ missing_between g pages head (head_slots g + k * span_slots g) (min (head_slots g + k * span_slots g + span_slots g) spans) →
      found ≡ missing_between g pages head (head_slots g + k * span_slots g) spans
  part_some None is told = absurd (cc)
  part_some (Some q) is told =
      ⊎_elim
      (λ (less : head_slots g + k * span_slots g < spans). sym (between_stop g pages head (head_slots g + k * span_slots g) (min (head_slots g + k * span_slots g + span_slots g) spans) spans q (omega arith) (omega arith) (sym told)))
      (λ (past : spans ≤ head_slots g + k * span_slots g). let none = between_none g pages head (head_slots g + k * span_slots g) (min (head_slots g + k * span_slots g + span_slots g) spans) (omega arith) in absurd (let bad : Some q ≡ None = told ∙ none in cc))
      (cases_lt (head_slots g + k * span_slots g) spans)

  pub part_none : (found : Option ℕ) → is_some found ≡ false →
      found ≡ missing_between g pages head (head_slots g + k * span_slots g) (min (head_slots g + k * span_slots g + span_slots g) spans) →
      missing_between g pages head (head_slots g + k * span_slots g) spans ≡ missing_between g pages head (head_slots g + (k + 1) * span_slots g) spans
  part_none (Some q) is told = absurd (cc)
  part_none None is told =
      let next : head_slots g + (k + 1) * span_slots g ≡ head_slots g + k * span_slots g + span_slots g = omega arith in
      ⊎_elim
      (λ (less : head_slots g + k * span_slots g + span_slots g < spans).
      let end : min (head_slots g + k * span_slots g + span_slots g) spans ≡ head_slots g + k * span_slots g + span_slots g = omega arith in
      rw next (between_go g pages head (head_slots g + k * span_slots g) (head_slots g + k * span_slots g + span_slots g) spans (omega arith) (omega arith) (rw end at (sym told))))
      (λ (past : spans ≤ head_slots g + k * span_slots g + span_slots g).
      let end : min (head_slots g + k * span_slots g + span_slots g) spans ≡ spans = omega arith in
      rw end at (sym told) ∙ sym (between_none g pages head (head_slots g + (k + 1) * span_slots g) spans (omega arith)))
      (cases_lt (head_slots g + k * span_slots g + span_slots g) spans)

  pub part_all : (spans - head_slots g + span_slots g - 1) / span_slots g ≤ k → None ≡ missing_between g pages head (head_slots g + k * span_slots g) spans
  part_all all = let enough = ceil_enough (spans - head_slots g) (span_slots g) k (slots_some g) all in sym (between_none g pages head (head_slots g + k * span_slots g) spans (omega (arith, enough)))

-- ---- all spans, and why a file isn't whole

module _ (g : Geometry) (pages : Live) (head : List ℕ) where
  pub front_some : (spans q : ℕ) → Some q ≡ missing_entry pages head (45 + g.meta) 0 (min (head_slots g) spans) → Some q ≡ missing_between g pages head 0 spans
  front_some spans q told =
      sym (between_stop g pages head 0 (min (head_slots g) spans) spans q (omega arith) (omega arith) (sym (near_missing g pages head (min (head_slots g) spans) (omega arith)) ∙ sym told))

  pub front_none : (spans : ℕ) → None ≡ missing_entry pages head (45 + g.meta) 0 (min (head_slots g) spans) → missing_between g pages head (head_slots g) spans ≡ missing_between g pages head 0 spans
  front_none spans told =
      let none : missing_between g pages head 0 (min (head_slots g) spans) ≡ None = sym (near_missing g pages head (min (head_slots g) spans) (omega arith)) ∙ sym told in
      let rest = between_go g pages head 0 (min (head_slots g) spans) spans (omega arith) (omega arith) none in
      ⊎_elim
      (λ (less : head_slots g < spans). let near : min (head_slots g) spans ≡ head_slots g = omega arith in sym (rw near at rest))
      (λ (few : spans ≤ head_slots g). let near : min (head_slots g) spans ≡ spans = omega arith in between_none g pages head (head_slots g) spans few ∙ sym (rw near at rest ∙ between_none g pages head spans spans (omega arith)))
      (cases_lt (head_slots g) spans)

  missing_all : first_missing g pages head ≡ missing_between g pages head 0 (data_pages g (size_of head))
  unfolding missing_between
  missing_all = rw (sub-zero (data_pages g (size_of head))) refl

  pub cause_name : (id : ℕ) → name_of head ≡ None → Some BadName ≡ cause_of (judged g pages id head)
  unfolding judged
  cause_name id none = rw none refl

  judged_named : (id : ℕ) (name : Option (List ℕ)) (missing : Option ℕ) → is_none name ≡ false → cause_of (judged_by g pages id head name missing) ≡ option_map (λ s. Missing s) missing
  judged_named id None missing named = absurd (cc)
  judged_named id (Some name) None named = refl
  judged_named id (Some name) (Some s) named = refl

  -- with a name the cause is the first missing span
  pub cause_span : (id : ℕ) (missing : Option ℕ) → is_none (name_of head) ≡ false → missing ≡ missing_between g pages head 0 (data_pages g (size_of head)) → option_map (λ s. Missing s) missing ≡ cause_of (judged g pages id head)
  unfolding judged
  cause_span id missing named told = ap (λ (o : Option ℕ). option_map (λ (s : ℕ). Missing s) o) (told ∙ sym missing_all) ∙ sym (judged_named id (name_of head) (first_missing g pages head) named)

pub told_of_each : {A E H : Type 0} (r : Result A E) (x : H → A) (y : A) → IfOk r (λ v. (h : H) → v ≡ x h) → (h : H) → x h ≡ y → IfOk r (λ v. v ≡ y)
told_of_each (Ok v) x y told h e = told h ∙ e
told_of_each (Err e) x y told h same = told

pub is_none_true : (name : Option (List ℕ)) → is_none name ≡ true → name ≡ None
is_none_true None e = refl
is_none_true (Some name) e = absurd (cc)
