-- Whole files and damaged ids together are as many as ids that have a header page, whatever the meta bytes.
use Rattle.std.proofs.Common.{◌≡◌, ℕ, ◌+◌, List, [], ◌∷◌, true, false, Option, Some, None, Result, Ok, Err, length, ap, refl, sym, ◌∙◌, arith, subst, ⊎_elim}
use Rattle.std.specs.Prelude.{is_some, option_and_then}
use Rattle.std.specs.Option.{option_map}
use Rattle.std.specs.List.{filter_map, cons_option}
use Rattle.std.proofs.lemmas.Bool.{cases_Bool, false≢true}
use Rattle.geometry.specs.declared.geometry.Geometry.{Geometry}
use Rattle.geometry.specs.Rules.{IsVolume}
use Rattle.geometry.specs.Numbers.{per_block, lookups, page_count}
use Rattle.table_model.specs.Table.{File}
use Rattle.image_model.specs.declared.damage.Damage.{Damage}
use Rattle.image_model.specs.Places.{page_of, slot_of, entry_of, is_entry_page, has_magic}
use Rattle.image_model.specs.Live.{Live, live_at, is_live, own}
use Rattle.image_model.specs.Files.{index_page, judged, found}
use Rattle.image_model.specs.Tables.{Found, counts, counted, records, damage, damages, has_of, ids, table_of, damaged_of}
use Rattle.meta_guess.specs.Guesses.{SameBut}
use Rattle.geometry.proofs.Geometries.{made}
use Rattle.meta_guess.proofs.Geometries.{with_meta, is_with}

-- 1 for what there is
abbrev one_if : {X : Type 0} → Option X → ℕ
one_if None = 0
one_if (Some x) = 1

module _ (has : Found) (n : ℕ) where
  -- the file of an id that counts, or its damage
  split : (id p : ℕ) (f : File) (fs : List File) (ds : List (ℕ × Damage)) → length (cons_option (counted has n (Some (p, Ok f))) fs) + length (cons_option (damage has n id (Some (p, Ok f))) ds) ≡ 1 + (length fs + length ds)
  split id p f fs ds = ⊎_elim
      (λ (is : counts has n p f.name ≡ true). rw is (omega arith))
      (λ (is : counts has n p f.name ≡ false). rw is (omega arith))
      (cases_Bool (counts has n p f.name))

  one_more : (id : ℕ) (o : Option (ℕ × Result File Damage)) (fs : List File) (ds : List (ℕ × Damage)) → length (cons_option (counted has n o) fs) + length (cons_option (damage has n id o) ds) ≡ one_if o + (length fs + length ds)
  one_more id None fs ds = omega arith
  one_more id (Some (p, Err e)) fs ds = omega arith
  one_more id (Some (p, Ok f)) fs ds = split id p f fs ds

-- what is there in both has the same number
same_one : {X Y : Type 0} (o : Option X) (q : Option Y) → is_some o ≡ is_some q → one_if o ≡ one_if q
same_one None None e = refl
same_one (Some x) (Some y) e = refl
same_one None (Some y) e = absurd (false≢true e)
same_one (Some x) None e = absurd (false≢true (sym e))

module _ (has now : Found) (n : ℕ) (same : (id : ℕ) → is_some (has id) ≡ is_some (now id)) where
  sums : (xs : List ℕ) → length (filter_map (λ id. counted has n (has id)) xs) + length (filter_map (λ id. damage has n id (has id)) xs)
      ≡ length (filter_map (λ id. counted now n (now id)) xs) + length (filter_map (λ id. damage now n id (now id)) xs)
  sums [] = refl
  sums (id ∷ xs) =
      let one = one_more has n id (has id) (filter_map (λ (k : ℕ). counted has n (has k)) xs) (filter_map (λ (k : ℕ). damage has n k (has k)) xs) in
      let two = one_more now n id (now id) (filter_map (λ (k : ℕ). counted now n (now k)) xs) (filter_map (λ (k : ℕ). damage now n k (now k)) xs) in
      omega (arith, one, two, same_one (has id) (now id) (same id), sums xs)

some_map : {X Y : Type 0} (h : X → Y) (o : Option X) → is_some (option_map h o) ≡ is_some o
some_map h None = refl
some_map h (Some x) = refl

-- An id has something where its header page is there.
has_some : (g : Geometry) (live : Live) (id : ℕ) → is_some (has_of g live id) ≡ is_some (option_and_then (own live id) (index_page g (own live id) 0))
unfolding has_of found
has_some g live id = by_page (index_page g (own live id) 0) where
  by_page : (o : Option ℕ) → is_some {T = ℕ × Result File Damage} (option_and_then (λ p. option_map (λ head. (p, judged g (own live id) id head)) (own live id p)) o) ≡ is_some (option_and_then (own live id) o)
  by_page None = refl
  by_page (Some p) =
      let h : List ℕ → ℕ × Result File Damage = λ head. (p, judged g (own live id) id head) in
      some_map h (own live id p)

-- a header page is one whatever the meta bytes
same_heads : (g : Geometry) (image : List ℕ) (meta id : ℕ) (v : IsVolume g.page g.block g.blocks g.phys meta) →
    option_and_then (own (live_at (with_meta g meta v) image) id) (index_page (with_meta g meta v) (own (live_at (with_meta g meta v) image) id) 0)
    ≡ option_and_then (own (live_at g image) id) (index_page g (own (live_at g image) id) 0)
unfolding with_meta made index_page own live_at is_live page_of slot_of entry_of is_entry_page has_magic page_count per_block lookups
same_heads g image meta id v = refl

same_with : (g : Geometry) (image : List ℕ) (meta : ℕ) (v : IsVolume g.page g.block g.blocks g.phys meta) →
    length (table_of (with_meta g meta v) image) + length (damaged_of (with_meta g meta v) image) ≡ length (table_of g image) + length (damaged_of g image)
unfolding table_of damaged_of records damages
same_with g image meta v =
    let h = with_meta g meta v in
    sums (has_of h (live_at h image)) (has_of g (live_at g image)) 0x7FFF
    (λ id. has_some h (live_at h image) id ∙ ap (λ (o : Option (List ℕ)). is_some o) (same_heads g image meta id v) ∙ sym (has_some g (live_at g image) id))
    (ids 0x7FFF)

-- whole files and damaged ids are as many by all meta bytes
pub same_sum : (g h : Geometry) (image : List ℕ) → SameBut g h → length (table_of h image) + length (damaged_of h image) ≡ length (table_of g image) + length (damaged_of g image)
same_sum g h image same =
    let w = is_with g h same in
    subst (λ (x : Geometry). length (table_of x image) + length (damaged_of x image) ≡ length (table_of g image) + length (damaged_of g image)) (sym w.1) (same_with g image h.meta w.0)
