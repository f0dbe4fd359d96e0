-- A further index page put beside, of a span behind those of the file.
use Rattle.std.proofs.Common.{◌≡◌, ◌≢◌, ℕ, ◌+◌, ◌-◌, ◌*◌, ◌/◌, ◌%◌, ◌<◌, ◌≤◌, List, Bool, true, false, ◌==◌, ◌||◌, Option, Some, None, ap, refl, sym, ◌∙◌, arith, ⊎_elim}
use Rattle.std.proofs.Math.Path.{fun_ext}
use Rattle.std.proofs.Math.Nat.{div-add-mod, mul-le-mul_left}
use Rattle.std.specs.Prelude.{option_and_then, find, is_some}
use Rattle.std.specs.List.{range_with_len}
use Rattle.std.proofs.lemmas.Bool.{cases_eq, cases_lt, lt-ltb, le-ltb, false_from_ne_true, eq-eqb}
use Rattle.geometry.specs.declared.geometry.Geometry.{Geometry}
use Rattle.geometry.specs.Numbers.{head_slots, span_slots, ceil, page_count}
use Rattle.table_model.specs.Room.{data_pages, index_pages}
use Rattle.image_model.specs.Within.{sizes}
use Rattle.image_model.specs.Headers.{obj_id, names_index, span_of, size_of}
use Rattle.image_model.specs.Live.{Live, live_at, own}
use Rattle.image_model.specs.Files.{is_index, index_page, further, entry_number, data_of, data_page, judged}
use Rattle.image_model.specs.Sound.{HasMagics, Keeps}
use Rattle.image_model.specs.Tidy.{serves}
use Rattle.image_laws.specs.Changes.{Gains}
use Rattle.image_laws.specs.SoundSteps.{IsOfKind}
use Rattle.image_laws.specs.TidySteps.{Agree, IsTidyBut}
use Rattle.std.proofs.lemmas.Option.{none-some}
use Rattle.image_laws.proofs.Tables.{find_gains}
use Rattle.image_laws.proofs.Doubled.{index-span_is}
use Rattle.image_laws.proofs.Judge.{judged-same, index-none}
use Rattle.image_laws.proofs.Wanted.{header-below}
use Rattle.renew_laws.proofs.PutBeside.{gains_own, beside_keeps, beside_spares}
use Rattle.renew_laws.proofs.Serves.{serves_parts, serves_index, serves_data}

-- the index page of a data span of a file is one of the file's
pub further_below : (g : Geometry) (size t : ℕ) → head_slots g ≤ t → t < data_pages g size → further g t < index_pages g size
further_below g size t high below =
    let big : 128 ≤ g.page = (sizes g).page in
    let pos : 0 < span_slots g = omega (arith, big) in
    let n = data_pages g size in
    let a : span_slots g * ((t - head_slots g) / span_slots g) + (t - head_slots g) % span_slots g ≡ t - head_slots g = div-add-mod (t - head_slots g) (span_slots g) in
    let b : span_slots g * (ceil (n - head_slots g) (span_slots g)) + (n - head_slots g + span_slots g - 1) % span_slots g ≡ n - head_slots g + span_slots g - 1 = div-add-mod (n - head_slots g + span_slots g - 1) (span_slots g) in
    let small : (n - head_slots g + span_slots g - 1) % span_slots g < span_slots g = omega (arith, pos) in
    let less : (t - head_slots g) / span_slots g < ceil (n - head_slots g) (span_slots g) =
    ⊎_elim
    (λ (x : (t - head_slots g) / span_slots g < ceil (n - head_slots g) (span_slots g)). x)
    (λ (x : ceil (n - head_slots g) (span_slots g) ≤ (t - head_slots g) / span_slots g).
    let step : span_slots g * (ceil (n - head_slots g) (span_slots g)) ≤ span_slots g * ((t - head_slots g) / span_slots g) = mul-le-mul_left (span_slots g) x in
    absurd (omega (arith, a, b, small, step, below, high, pos)))
    (cases_lt ((t - head_slots g) / span_slots g) (ceil (n - head_slots g) (span_slots g))) in
    let more : head_slots g < n = omega (arith, high, below) in
    rw (lt-ltb (head_slots g) n more) (omega (arith, less))

module _ (g : Geometry) (p h id : ℕ) (page head : List ℕ) (one two : Live) (gains : Gains p page one two) (kind : names_index page ≡ true) (past : index_pages g (size_of head) ≤ span_of page) where
  index_other : (j : ℕ) → span_of page ≢ j → index_page g two j ≡ index_page g one j
  unfolding index_page
  index_other j differ =
      ap (λ (t : ℕ → Bool). find t (range_with_len 0 (page_count g)))
      (fun_ext (λ (r : ℕ). ⊎_elim
      (λ (here : r ≡ p).
      let a : is_index (two r) j ≡ false = rw here (rw gains.after (false_from_ne_true _ (λ yes. differ (index-span_is page j yes)))) in
      let b : is_index (one r) j ≡ false = rw here (rw gains.before refl) in a ∙ sym b)
      (λ (there : r ≡ p → ⊥). rw (gains.others r there) refl)
      (cases_eq r p)))

  pub index_below : (j : ℕ) → j < index_pages g (size_of head) → index_page g two j ≡ index_page g one j
  index_below j below = index_other j (λ e. absurd (omega (arith, e, below, past)))

  pub first_below : index_page g two 0 ≡ index_page g one 0
  first_below = index_below 0 (header-below g (size_of head))

  data_as : (t r : ℕ) → data_of (two r) t ≡ data_of (one r) t
  data_as t r =
      ⊎_elim
      (λ (here : r ≡ p).
      let a : data_of (two r) t ≡ None = rw here (rw gains.after (rw kind refl)) in
      let b : data_of (one r) t ≡ None = rw here (rw gains.before refl) in a ∙ sym b)
      (λ (there : r ≡ p → ⊥). rw (gains.others r there) refl)
      (cases_eq r p)

  bytes_at : (j : ℕ) (o : Option ℕ) → index_page g one j ≡ o → option_and_then two o ≡ option_and_then one o
  bytes_at j None e = refl
  bytes_at j (Some r) e = gains.others r (λ k. index-none g one j p (e ∙ ap (λ (x : ℕ). Some x) k) gains.before)

  entry_below : (t : ℕ) → t < data_pages g (size_of head) → entry_number g two head t ≡ entry_number g one head t
  unfolding entry_number
  entry_below t below =
      ⊎_elim
      (λ (low : t < head_slots g). rw (lt-ltb t (head_slots g) low) refl)
      (λ (high : head_slots g ≤ t).
      rw (le-ltb t (head_slots g) high) (rw (index_below (further g t) (further_below g (size_of head) t high below)) (rw (bytes_at (further g t) (index_page g one (further g t)) refl) refl)))
      (cases_lt t (head_slots g))

  data_below : (t : ℕ) → t < data_pages g (size_of head) → data_page g two head t ≡ data_page g one head t
  unfolding data_page
  data_below t below = rw (entry_below t below) (ap (λ (k : ℕ → Option (List ℕ)). option_and_then k (entry_number g one head t)) (fun_ext (data_as t)))

  pub reads_below : judged g two id head ≡ judged g one id head
  reads_below = judged-same g one two id head data_below

  pub serves_below : (r : ℕ) → serves g one head r ≡ true → serves g two head r ≡ true
  serves_below r e =
      ⊎_elim
      (λ (w : (j : ℕ) × (j < index_pages g (size_of head)) × (index_page g one j ≡ Some r)). serves_index g two head r w.0 w.1 (index_below w.0 w.1 ∙ w.2))
      (λ (w : (t : ℕ) × (t < data_pages g (size_of head)) × (entry_number g one head t ≡ Some r) × (is_some (data_of (one r) t) ≡ true)).
      serves_data g two head r w.0 w.1 (entry_below w.0 w.1 ∙ w.2) (ap is_some (data_as w.0 r) ∙ w.3))
      (serves_parts g one head r e)

-- it is the index page of its span where none was
pub index_here : (g : Geometry) (p : ℕ) (page : List ℕ) (one two : Live) → Gains p page one two → names_index page ≡ true → p < page_count g → index_page g one (span_of page) ≡ None → index_page g two (span_of page) ≡ Some p
unfolding index_page
index_here g p page one two gains kind within none =
    let now : is_index (two p) (span_of page) ≡ true = rw gains.after (rw kind (eq-eqb (span_of page) (span_of page) refl)) in
    (find_gains (λ (q : ℕ). is_index (one q) (span_of page)) (λ (q : ℕ). is_index (two q) (span_of page)) p 0 (page_count g) (λ q there. rw (gains.others q there) refl) now (omega arith) (omega (arith, within))).1
    (λ q e. absurd (none-some q (sym none ∙ e)))

-- ---- the image

module _ (g : Geometry) (a c : List ℕ) (p id h : ℕ) (page head : List ℕ) (of : obj_id page % 0x8000 ≡ id) (kind : IsOfKind g (live_at g a) p page) (index : names_index page ≡ true)
    (past : index_pages g (size_of head) ≤ span_of page) (at : index_page g (own (live_at g a) id) 0 ≡ Some h) (header : own (live_at g a) id h ≡ Some head) (agree : Agree g a c p) (gains : Gains p page (live_at g a) (live_at g c)) where
  mine : Gains p page (own (live_at g a) id) (own (live_at g c) id)
  mine = gains_own p id page (live_at g a) (live_at g c) of gains

  pub further_first : index_page g (own (live_at g c) id) 0 ≡ Some h
  further_first = first_below g p h id page head (own (live_at g a) id) (own (live_at g c) id) mine index past ∙ at

  pub further_reads : judged g (own (live_at g c) id) id head ≡ judged g (own (live_at g a) id) id head
  further_reads = reads_below g p h id page head (own (live_at g a) id) (own (live_at g c) id) mine index past

  serving : (r : ℕ) → r ≢ p → serves g (own (live_at g a) id) head r ≡ true → serves g (own (live_at g c) id) head r ≡ true
  serving r there = serves_below g p h id page head (own (live_at g a) id) (own (live_at g c) id) mine index past r

  pub further_keeps : HasMagics g a → Keeps g a c
  further_keeps = beside_keeps g a c p id h page head of kind gains agree at header further_first further_reads serving

  pub further_spares : (before : ℕ → Bool) → IsTidyBut g a before → IsTidyBut g c (λ r. before r || (r == p))
  further_spares = beside_spares g a c p id h page head of kind gains agree at header further_first further_reads serving
