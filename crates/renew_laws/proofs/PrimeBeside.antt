-- Between the first program of an append and its header page.
use Rattle.std.proofs.Common.{◌≡◌, ℕ, zero, suc, ◌+◌, ◌⊎◌, List, Bool, true, false, ◌==◌, ◌||◌, Option, Some, None, Ok, ap, refl, sym, ◌∙◌, arith, ⊎_elim, inl, inr}
use Rattle.std.specs.Prelude.{is_some, find}
use Rattle.std.specs.List.{range_with_len, filter_map, cons_option}
use Rattle.std.proofs.lemmas.Bool.{cases_eq, cases_Bool, or_cases, eqb-true, false_from_ne_true}
use Rattle.std.proofs.lemmas.Option.{none-some, same_Some}
use Rattle.geometry.specs.declared.geometry.Geometry.{Geometry}
use Rattle.table_model.specs.Table.{File, file_of}
use Rattle.image_model.specs.Within.{page_number}
use Rattle.image_model.specs.Headers.{span_of, size_of}
use Rattle.image_model.specs.Live.{Live, live_at, own}
use Rattle.image_model.specs.Files.{is_index}
use Rattle.image_model.specs.Sound.{HasMagics}
use Rattle.image_model.specs.Tables.{has_of, counted, records, table_of}
use Rattle.image_model.specs.Tidy.{serves}
use Rattle.image_laws.specs.Changes.{Gains}
use Rattle.image_laws.proofs.Doubled.{index-span_is}
use Rattle.image_laws.proofs.Finish.{has_of-keyed}
use Rattle.image_laws.proofs.Judge.{found_parts}
use Rattle.image_laws.proofs.Records.{counted-some, counted-keyed}
use Rattle.image_laws.proofs.Sounding.{keeps-itself, keeps-on, keeps-by_live}
use Rattle.image_laws.proofs.SpareKill.{tidy-has_magics}
use Rattle.image_laws.proofs.TidySteps.{neat-but, tidy-is_tidy}
use Rattle.image_laws.proofs.Wanted.{header-below}
use Rattle.renew_laws.specs.Primed.{Primed, PrimeStarts, PrimeData, PrimeIndex}
use Rattle.renew_laws.specs.Recopy.{PutsDataTo}
use Rattle.renew_laws.proofs.Beside.{put_data-cuts, data_gains, data_first, data_reads, data_keeps, data_spares}
use Rattle.renew_laws.proofs.BesideIndex.{index_here, further_first, further_reads, further_keeps, further_spares}
use Rattle.renew_laws.proofs.LiveServes.{served-or_spare}
use Rattle.renew_laws.proofs.PutBeside.{gains_own}
use Rattle.renew_laws.proofs.Serves.{index_there, served_place}

-- ---- a tidy image

-- the file of an id in a table is what that id counts for
find_cons : (id : ℕ) (o : Option File) (rest : List File) (f : File) → find (λ f. f.id == id) (cons_option o rest) ≡ Some f → ((o ≡ Some f) × (f.id ≡ id)) ⊎ (find (λ f. f.id == id) rest ≡ Some f)
find_cons id None rest f e = inr e
find_cons id (Some x) rest f e =
    ⊎_elim
    (λ (yes : (x.id == id) ≡ true). let same : x ≡ f = same_Some x f (rw yes at e) in inl (ap (λ (y : File). Some y) same, ap (λ (y : File). y.id) (sym same) ∙ eqb-true x.id id yes))
    (λ (no : (x.id == id) ≡ false). inr (rw no at e))
    (cases_Bool (x.id == id))

find_counted : (c : ℕ → Option File) → ((j : ℕ) (x : File) → c j ≡ Some x → x.id ≡ j) → (id a n : ℕ) (f : File) → find (λ f. f.id == id) (filter_map c (range_with_len a n)) ≡ Some f → c id ≡ Some f
find_counted c keyed id a zero f e = absurd (none-some f e)
find_counted c keyed id a (suc n) f e =
    ⊎_elim
    (λ (w : (c a ≡ Some f) × (f.id ≡ id)). ap c (sym w.1 ∙ keyed a f w.0) ∙ w.0)
    (find_counted c keyed id (a + 1) n f)
    (find_cons id (c a) (filter_map c (range_with_len (a + 1) n)) f e)

pub prime-starts : (g : Geometry) → PrimeStarts g
unfolding file_of table_of records has_of
prime-starts g a id f is t e =
    let counts : counted (has_of g (live_at g a)) 0x7FFF (has_of g (live_at g a) id) ≡ Some f =
    find_counted (λ (j : ℕ). counted (has_of g (live_at g a)) 0x7FFF (has_of g (live_at g a) j)) (counted-keyed (has_of g (live_at g a)) 0x7FFF (has_of-keyed g (live_at g a))) id 1 0x7FFF f e in
    let w = counted-some (has_of g (live_at g a)) 0x7FFF (has_of g (live_at g a) id) f counts in
    let v = found_parts g (own (live_at g a) id) id w.0 (Ok f) w.1 in
    let but = (tidy-is_tidy g a (λ (r : ℕ). false)).0 t in (
      w.0,
      v.0,
      record {
        image = is;
        keeps = keeps-itself g a (tidy-has_magics g a (λ (r : ℕ). false) but);
        tidy = but;
        mine = λ r none. let bad : false ≡ true = none in absurd (cc);
        at = v.1;
        header = v.2;
        only = λ r passes.
            let x = index_there (own (live_at g a) id r) 0 passes in
            ⊎_elim
            (λ (none : false ≡ true). absurd (cc))
            (λ (s : serves g (own (live_at g a) id) v.0 r ≡ true). same_Some r w.0 (sym (served_place g (own (live_at g a) id) v.0 r 0 s passes).0 ∙ v.1))
            (served-or_spare g a (λ (r : ℕ). false) (neat-but but) id w.0 v.0 v.1 v.2 r x.0 x.1);
        file = v.3;
      },
    )

-- ---- a page beside

module _ (g : Geometry) (a b : List ℕ) (id h p : ℕ) (head page : List ℕ) (f : File) (beside : ℕ → Bool) (prime : Primed g id h head f beside a b) where
  magics : HasMagics g b
  magics = tidy-has_magics g b beside prime.tidy

  -- its pages with one more
  module _ (c : List ℕ) (mine : Gains p page (own (live_at g b) id) (own (live_at g c) id)) (other : is_index (Some page) 0 ≡ false) where
    mine_now : (r : ℕ) → (beside r || (r == p)) ≡ true → is_some (own (live_at g c) id r) ≡ true
    mine_now r e =
        ⊎_elim
        (λ (here : r ≡ p). rw here (rw mine.after refl))
        (λ (there : r ≡ p → ⊥). ⊎_elim
        (λ (was : beside r ≡ true). ap is_some (mine.others r there) ∙ prime.mine r was)
        (λ (new : (r == p) ≡ true). absurd (there (eqb-true r p new)))
        (or_cases (beside r) (r == p) e))
        (cases_eq r p)

    only_now : (r : ℕ) → is_index (own (live_at g c) id r) 0 ≡ true → r ≡ h
    only_now r passes =
        ⊎_elim
        (λ (here : r ≡ p). let no : is_index (own (live_at g c) id r) 0 ≡ false = rw here (rw mine.after other) in let bad : true ≡ false = sym passes ∙ no in absurd (cc))
        (λ (there : r ≡ p → ⊥). prime.only r (ap (λ (o : Option (List ℕ)). is_index o 0) (sym (mine.others r there)) ∙ passes))
        (cases_eq r p)

    still_header : own (live_at g c) id h ≡ Some head
    still_header = mine.others h (λ e. none-some head (sym mine.before ∙ ap (own (live_at g b) id) (sym e) ∙ prime.header)) ∙ prime.header

pub prime-data : (g : Geometry) → PrimeData g
prime-data g a b id h p head page f beside prime kind data_kind of =
    let start : PutsDataTo g b p id h page head f = record { kind = kind; data_kind = data_kind; of = of; at = prime.at; header = prime.header; file = prime.file } in
    let m = magics g a b id h p head page f beside prime in
    let other : is_index (Some page) 0 ≡ false = rw data_kind refl in (
      λ c put. put_data-cuts g b c p id h page head f start m put,
      λ c put.
          let mine = data_gains g b c p id h page head f start put.gains in
          record {
            image = put.image;
            keeps = keeps-on g a b c prime.keeps (data_keeps g b c p id h page head f start put.gains put.agree m);
            tidy = data_spares g b c p id h page head f start put.gains put.agree beside prime.tidy;
            mine = mine_now g a b id h p head page f beside prime c mine other;
            at = data_first g b c p id h page head f start put.gains;
            header = still_header g a b id h p head page f beside prime c mine other;
            only = only_now g a b id h p head page f beside prime c mine other;
            file = data_reads g b c p id h page head f start put.gains ∙ prime.file;
          },
    )

pub prime-index : (g : Geometry) → PrimeIndex g
prime-index g a b id h p head page f beside prime kind index of past =
    let m = magics g a b id h p head page f beside prime in
    let other : is_index (Some page) 0 ≡ false =
    false_from_ne_true _ (λ yes. let first : span_of page ≡ 0 = index-span_is page 0 yes in let some = header-below g (size_of head) in absurd (omega (arith, first, some, past))) in (
      λ c put.
          ⊎_elim
          (λ (same : live_at g c ≡ live_at g b). keeps-by_live g b c m put.agree.magic (λ q. ap (λ (l : Live). l q) same))
          (λ (gains : Gains p page (live_at g b) (live_at g c)). further_keeps g b c p id h page head of kind index past prime.at prime.header put.agree gains m)
          put.live,
      λ c put.
          let mine = gains_own p id page (live_at g b) (live_at g c) of put.gains in (
            record {
              image = put.image;
              keeps = keeps-on g a b c prime.keeps (further_keeps g b c p id h page head of kind index past prime.at prime.header put.agree put.gains m);
              tidy = further_spares g b c p id h page head of kind index past prime.at prime.header put.agree put.gains beside prime.tidy;
              mine = mine_now g a b id h p head page f beside prime c mine other;
              at = further_first g b c p id h page head of kind index past prime.at prime.header put.agree put.gains;
              header = still_header g a b id h p head page f beside prime c mine other;
              only = only_now g a b id h p head page f beside prime c mine other;
              file = further_reads g b c p id h page head of kind index past prime.at prime.header put.agree put.gains ∙ prime.file;
            },
            λ entry none. index_here g p page (own (live_at g b) id) (own (live_at g c) id) mine index (page_number g p entry) none,
          ),
    )
