-- Ids that have nothing change nothing of the table and of the damaged files.
use Rattle.std.proofs.Common.{◌≡◌, ℕ, zero, suc, ◌+◌, ◌-◌, ◌<◌, ◌≤◌, ◌||◌, List, [], ◌∷◌, ◌++◌, Bool, false, not, refl, sym, ◌∙◌, ap, arith, Option, Some, None}
use Rattle.std.proofs.Math.Path.{fun_ext}
use Rattle.std.specs.Prelude.{Result, Ok, Err, find, unwrap_or, get_or}
use Rattle.std.specs.Option.{option_or}
use Rattle.std.specs.List.{range_with_len, filter_map, list_any}
use Rattle.std.proofs.lemmas.List.{append-nil}
use Rattle.std.proofs.lemmas.List.Elements.{filter_map-append}
use Rattle.std.proofs.lemmas.List.Folds.{list_any-append, find-append}
use Rattle.geometry.specs.declared.geometry.Geometry.{Geometry}
use Rattle.table_model.specs.Table.{File}
use Rattle.image_model.specs.declared.damage.Damage.{Damage}
use Rattle.image_model.specs.Live.{live_at, own}
use Rattle.image_model.specs.Files.{index_page, found}
use Rattle.image_model.specs.Tables.{Found, has_of, ids, is_before, counts, counted, records, is_named, holder, damage, damages, table_of, damaged_of}
use Rattle.plain_image.specs.Headed.{IsHeads}
use Rattle.plain_image.proofs.Leading.{any_nothing, find_nothing}

-- a range in two parts
range_parts : (a n k : ℕ) → range_with_len a (n + k) ≡ range_with_len a n ++ range_with_len (a + n) k
range_parts a zero k =
    let few : 0 + k ≡ k = omega arith in
    let same : a ≡ a + 0 = omega arith in
    ap (range_with_len a) few ∙ ap (λ (b : ℕ). range_with_len b k) same
range_parts a (suc n) k =
    let more : suc n + k ≡ suc (n + k) = omega arith in
    let next : a + 1 + n ≡ a + suc n = omega arith in
    ap (range_with_len a) more ∙ ap (λ (l : List ℕ). a ∷ l) (range_parts (a + 1) n k ∙ ap (λ (b : ℕ). range_with_len (a + 1) n ++ range_with_len b k) next)

filter_nothing : {Y : Type 0} (h : ℕ → Option Y) (a k : ℕ) → ((i : ℕ) → a ≤ i → i < a + k → h i ≡ None) → filter_map h (range_with_len a k) ≡ []
filter_nothing h a zero none = refl
filter_nothing h a (suc k) none = rw (none a (omega arith) (omega arith)) (filter_nothing h (a + 1) k (λ i low high. none i (omega arith) (omega arith)))

or_false : (b : Bool) → (b || false) ≡ b
or_false b = grind arith

or_none : {X : Type 0} (o : Option X) → option_or o None ≡ o
or_none None = refl
or_none (Some x) = refl

module _ (has : Found) (n k : ℕ) (none : (id : ℕ) → 1 + n ≤ id → id < 1 + n + k → has id ≡ None) where
  -- a name has no earlier file among them
  counts_quiet : (p : ℕ) (name : List ℕ) → counts has (n + k) p name ≡ counts has n p name
  unfolding counts
  counts_quiet p name =
      let test = λ (id : ℕ). is_before (has id) p name in
      let behind : list_any test (range_with_len (1 + n) k) ≡ false = any_nothing test (1 + n) k (λ id low high. rw (none id low high) refl) in
      ap not (ap (list_any test) (range_parts 1 n k) ∙ list_any-append test (range_with_len 1 n) (range_with_len (1 + n) k) ∙ rw behind (or_false (list_any test (range_with_len 1 n))))

  counted_quiet : (o : Option (ℕ × Result File Damage)) → counted has (n + k) o ≡ counted has n o
  counted_quiet None = refl
  counted_quiet (Some (q, Err e)) = refl
  counted_quiet (Some (q, Ok f)) = rw (counts_quiet q f.name) refl

  pub records_quiet : records has (n + k) ≡ records has n
  unfolding records
  records_quiet =
      let same : (λ (id : ℕ). counted has (n + k) (has id)) ≡ (λ (id : ℕ). counted has n (has id)) = fun_ext (λ (id : ℕ). counted_quiet (has id)) in
      let h = λ (id : ℕ). counted has n (has id) in
      let behind : filter_map h (range_with_len (1 + n) k) ≡ [] = filter_nothing h (1 + n) k (λ id low high. rw (none id low high) refl) in
      ap (λ (f : ℕ → Option File). filter_map f (ids (n + k))) same ∙ ap (filter_map h) (range_parts 1 n k) ∙ filter_map-append h (range_with_len 1 n) (range_with_len (1 + n) k)
      ∙ ap (λ (l : List File). filter_map h (range_with_len 1 n) ++ l) behind ∙ append-nil (filter_map h (range_with_len 1 n))

  holder_quiet : (name : List ℕ) → holder has (n + k) name ≡ holder has n name
  unfolding holder
  holder_quiet name =
      let same : (λ (id : ℕ). is_named (counted has (n + k) (has id)) name) ≡ (λ (id : ℕ). is_named (counted has n (has id)) name) = fun_ext (λ (id : ℕ). ap (λ (o : Option File). is_named o name) (counted_quiet (has id))) in
      let test = λ (id : ℕ). is_named (counted has n (has id)) name in
      let behind : find test (range_with_len (1 + n) k) ≡ None = find_nothing test (1 + n) k (λ id low high. rw (none id low high) refl) in
      ap (λ (o : Option ℕ). unwrap_or o 0)
      (ap (λ (t : ℕ → Bool). find t (ids (n + k))) same ∙ ap (find test) (range_parts 1 n k) ∙ find-append test (range_with_len 1 n) (range_with_len (1 + n) k)
      ∙ ap (λ (o : Option ℕ). option_or (find test (range_with_len 1 n)) o) behind ∙ or_none (find test (range_with_len 1 n)))

  damage_quiet : (id : ℕ) (o : Option (ℕ × Result File Damage)) → damage has (n + k) id o ≡ damage has n id o
  damage_quiet id None = refl
  damage_quiet id (Some (p, Err e)) = refl
  damage_quiet id (Some (p, Ok f)) = rw (counts_quiet p f.name, holder_quiet f.name) refl

  pub damages_quiet : damages has (n + k) ≡ damages has n
  unfolding damages
  damages_quiet =
      let same : (λ (id : ℕ). damage has (n + k) id (has id)) ≡ (λ (id : ℕ). damage has n id (has id)) = fun_ext (λ (id : ℕ). damage_quiet id (has id)) in
      let h = λ (id : ℕ). damage has n id (has id) in
      let behind : filter_map h (range_with_len (1 + n) k) ≡ [] = filter_nothing h (1 + n) k (λ id low high. rw (none id low high) refl) in
      ap (λ (f : ℕ → Option (ℕ × Damage)). filter_map f (ids (n + k))) same ∙ ap (filter_map h) (range_parts 1 n k) ∙ filter_map-append h (range_with_len 1 n) (range_with_len (1 + n) k)
      ∙ ap (λ (l : List (ℕ × Damage)). filter_map h (range_with_len 1 n) ++ l) behind ∙ append-nil (filter_map h (range_with_len 1 n))

-- so only the ids up to the greatest that has a header page count
module _ (g : Geometry) (image : List ℕ) (heads : List (Option ℕ)) (top : ℕ) (is : IsHeads g (live_at g image) heads) (low : top ≤ 0x7FFF) (above : (id : ℕ) → top < id → id < 0x8000 → get_or heads id None ≡ None) where
  none_above : (id : ℕ) → 1 + top ≤ id → id < 1 + top + (0x7FFF - top) → has_of g (live_at g image) id ≡ None
  unfolding has_of found
  none_above id more less =
      let none : index_page g (own (live_at g image) id) 0 ≡ None = sym (is.each id (omega (arith, low, less))) ∙ above id (omega (arith, more)) (omega (arith, low, less)) in
      rw none refl

  most : top + (0x7FFF - top) ≡ 0x7FFF
  most = omega (arith, low)

  pub table_top : records (has_of g (live_at g image)) top ≡ table_of g image
  unfolding table_of
  table_top = sym (records_quiet (has_of g (live_at g image)) top (0x7FFF - top) none_above) ∙ ap (records (has_of g (live_at g image))) most

  pub damaged_top : damages (has_of g (live_at g image)) top ≡ damaged_of g image
  unfolding damaged_of
  damaged_top = sym (damages_quiet (has_of g (live_at g image)) top (0x7FFF - top) none_above) ∙ ap (damages (has_of g (live_at g image))) most
