-- The header page of each id, and the file that it leads to.
use Rattle.std.proofs.Common.{◌≡◌, ℕ, ◌<◌, ◌≤◌, List, [], Bool, true, false, ◌==◌, Option, Some, None, Result, Ok, Err, ap, refl, sym, ◌∙◌, arith, ⊎_elim, inl, inr, ◌⊎◌}
use Rattle.std.specs.Prelude.{find, is_some, nat_lt}
use Rattle.std.specs.Option.{option_map}
use Rattle.std.specs.List.{range_with_len, filter_map}
use Rattle.std.proofs.lemmas.Bool.{cases_lt, ltb-true, lt-ltb, false≢true}
use Rattle.std.proofs.lemmas.Option.{none-some, same_Some, some_pair_parts}
use Rattle.geometry.specs.declared.geometry.Geometry.{Geometry}
use Rattle.table_model.specs.Table.{File, has_id, file_of, file_above}
use Rattle.image_model.specs.declared.damage.Damage.{Damage}
use Rattle.image_model.specs.Live.{live_at, Live, own}
use Rattle.image_model.specs.Files.{index_page, judged}
use Rattle.image_model.specs.Tables.{Found, has_of, counts, counted, damage, damages, damaged_of, records, table_of}
use Rattle.flash_view.specs.Found.{has_header, NextId}
use Rattle.image_laws.proofs.Records.{filter_map-nil, counts_from_quiet, counted-some, counted-keyed}
use Rattle.image_laws.proofs.Judge.{found_parts, found_from, found_none, index-none}
use Rattle.image_laws.proofs.Finish.{has_of-within, has_of-keyed}
use Rattle.header_laws.specs.Ids.{HasIds, HeadersWithin, NextIs}
use Rattle.header_laws.proofs.Listed.{any-found, found-first, found-none, found-at}

-- ---- where nothing is damaged, what an id has is a whole file that counts

whole_if_quiet : (has : Found) (m j : ℕ) (o : Option (ℕ × Result File Damage)) → damage has m j o ≡ None → (q : ℕ) (r : Result File Damage) → o ≡ Some (q, r) →
    (f : File) × (o ≡ Some (q, Ok f)) × (counted has m o ≡ Some f)
whole_if_quiet has m j None quiet q r e = absurd (none-some _ e)
whole_if_quiet has m j (Some (p, Err x)) quiet q r e = absurd (none-some _ (sym quiet))
whole_if_quiet has m j (Some (p, Ok f)) quiet q r e =
    let at : p ≡ q = (some_pair_parts p q (Ok f) r e).0 in
    (f, ap (λ (x : ℕ). Some (x, Ok f)) at, rw (counts_from_quiet has m j p f quiet) refl)

-- the header page of an id, and its file
pub record Headed (g : Geometry) (a : List ℕ) (id : ℕ) : Type 0 where
  pub p : ℕ
  pub head : List ℕ
  pub f : File
  pub low : 1 ≤ id
  pub high : id ≤ 0x7FFF
  pub at : index_page g (own (live_at g a) id) 0 ≡ Some p
  pub page : own (live_at g a) id p ≡ Some head
  pub file : judged g (own (live_at g a) id) id head ≡ Ok f
  pub has : has_of g (live_at g a) id ≡ Some (p, Ok f)
  pub counts : counted (has_of g (live_at g a)) 0x7FFF (has_of g (live_at g a) id) ≡ Some f
  pub keyed : f.id ≡ id

-- the file of an id in the table, as the list is made
abbrev pub file_at : Geometry → List ℕ → ℕ → Option File
file_at g a id = counted (has_of g (live_at g a)) 0x7FFF (has_of g (live_at g a) id)

some_page : (g : Geometry) (pages : Live) (p : ℕ) → index_page g pages 0 ≡ Some p → (head : List ℕ) × (pages p ≡ Some head)
some_page g pages p at =
    let go : (o : Option (List ℕ)) → pages p ≡ o → (head : List ℕ) × (pages p ≡ Some head) =
    λ o. elim o as (λ (o : Option (List ℕ)). pages p ≡ o → (head : List ℕ) × (pages p ≡ Some head)) [
      | None ↦ λ e. absurd (index-none g pages 0 p at e)
      | Some head ↦ λ e. (head, e)
    ] in go (pages p) refl

-- what an id with a header page has
has_some : (g : Geometry) (live : Live) (id p : ℕ) → index_page g (own live id) 0 ≡ Some p → (r : Result File Damage) × (has_of g live id ≡ Some (p, r))
unfolding has_of
has_some g live id p at = let w = some_page g (own live id) p at in (judged g (own live id) id w.0, found_from g (own live id) id p w.0 at w.1)

has_none : (g : Geometry) (live : Live) (id : ℕ) → index_page g (own live id) 0 ≡ None → has_of g live id ≡ None
unfolding has_of
has_none g live id none = found_none g (own live id) id none

pub headers-within : (g : Geometry) → HeadersWithin g
unfolding has_header
headers-within g a id some =
    let go : (o : Option ℕ) → index_page g (own (live_at g a) id) 0 ≡ o → is_some o ≡ true → (1 ≤ id) × (id ≤ 0x7FFF) =
    λ o. elim o as (λ (o : Option ℕ). index_page g (own (live_at g a) id) 0 ≡ o → is_some o ≡ true → (1 ≤ id) × (id ≤ 0x7FFF)) [
      | None ↦ λ e k. absurd (false≢true k)
      | Some p ↦ λ e k. let w = has_some g (live_at g a) id p e in has_of-within g a id p w.0 w.1
    ] in go (index_page g (own (live_at g a) id) 0) refl some

pub file_at-keyed : (g : Geometry) (a : List ℕ) (j : ℕ) (f : File) → file_at g a j ≡ Some f → f.id ≡ j
file_at-keyed g a j f e = counted-keyed (has_of g (live_at g a)) 0x7FFF (has_of-keyed g (live_at g a)) j f e

-- the file of an id in the table is what the id has
pub file_of-at : (g : Geometry) (a : List ℕ) (id : ℕ) → file_of id (table_of g a) ≡ file_at g a id
unfolding file_of table_of records
file_of-at g a id =
    found-at (λ f. f.id) (file_at g a) (file_at-keyed g a) 1 0x7FFF id
    (λ f e.
    let w = counted-some (has_of g (live_at g a)) 0x7FFF (has_of g (live_at g a) id) f e in
    let within = has_of-within g a id w.0 (Ok f) w.1 in (within.0, omega (arith, within.1)))

module _ (g : Geometry) (a : List ℕ) (undamaged : damaged_of g a ≡ []) where
  quiet : (id : ℕ) → 1 ≤ id → id ≤ 0x7FFF → damage (has_of g (live_at g a)) 0x7FFF id (has_of g (live_at g a) id) ≡ None
  unfolding damaged_of damages
  quiet id low high = filter_map-nil (λ (j : ℕ). damage (has_of g (live_at g a)) 0x7FFF j (has_of g (live_at g a) j)) 1 0x7FFF undamaged id low (omega arith)

  -- an id with a header page has a file
  pub headed : (id p : ℕ) → index_page g (own (live_at g a) id) 0 ≡ Some p → Headed g a id
  unfolding has_of
  headed id p at =
      let h = has_some g (live_at g a) id p at in
      let within = has_of-within g a id p h.0 h.1 in
      let w = whole_if_quiet (has_of g (live_at g a)) 0x7FFF id (has_of g (live_at g a) id) (quiet id within.0 within.1) p h.0 h.1 in
      let v = found_parts g (own (live_at g a) id) id p (Ok w.0) w.1 in
      record {
        p = p;
        head = v.0;
        f = w.0;
        low = within.0;
        high = within.1;
        at = at;
        page = v.2;
        file = v.3;
        has = w.1;
        counts = w.2;
        keyed = has_of-keyed g (live_at g a) id p w.0 w.1;
      }

  -- and a file has a header page
  pub headed-by_file : (id : ℕ) (f : File) → file_at g a id ≡ Some f → (h : Headed g a id) × (h.f ≡ f)
  unfolding has_of
  headed-by_file id f counts =
      let w = counted-some (has_of g (live_at g a)) 0x7FFF (has_of g (live_at g a) id) f counts in
      let v = found_parts g (own (live_at g a) id) id w.0 (Ok f) w.1 in
      let h = headed id w.0 v.1 in
      (h, same_Some h.f f (sym h.counts ∙ counts))

  pub no_file : (id : ℕ) → index_page g (own (live_at g a) id) 0 ≡ None → file_at g a id ≡ None
  no_file id none = rw (has_none g (live_at g a) id none) refl

  -- a header page or none
  pub headed_or : (id : ℕ) → (Headed g a id) ⊎ ((index_page g (own (live_at g a) id) 0 ≡ None) × (file_at g a id ≡ None))
  headed_or id =
      let go : (o : Option ℕ) → index_page g (own (live_at g a) id) 0 ≡ o → (Headed g a id) ⊎ ((index_page g (own (live_at g a) id) 0 ≡ None) × (file_at g a id ≡ None)) =
      λ o. elim o as (λ (o : Option ℕ). index_page g (own (live_at g a) id) 0 ≡ o → (Headed g a id) ⊎ ((index_page g (own (live_at g a) id) 0 ≡ None) × (file_at g a id ≡ None))) [
        | None ↦ λ e. inr (e, no_file id e)
        | Some p ↦ λ e. inl (headed id p e)
      ] in go (index_page g (own (live_at g a) id) 0) refl

pub has-ids : (g : Geometry) → HasIds g
unfolding has_header has_id file_of
has-ids g a undamaged id =
    let as_found : has_id id (table_of g a) ≡ is_some (file_at g a id) = any-found (λ (f : File). f.id == id) (table_of g a) ∙ ap is_some (file_of-at g a id) in
    ⊎_elim
    (λ (w : Headed g a id). rw w.at (sym (as_found ∙ ap is_some w.counts)))
    (λ (w : (index_page g (own (live_at g a) id) 0 ≡ None) × (file_at g a id ≡ None)). rw w.0 (sym (as_found ∙ ap is_some w.1)))
    (headed_or g a undamaged id)

-- an id with a header page, as a test
pub has_header-file : (g : Geometry) (a : List ℕ) → damaged_of g a ≡ [] → (id : ℕ) → has_header g a id ≡ true → Headed g a id
unfolding has_header
has_header-file g a undamaged id some =
    ⊎_elim
    (λ (w : Headed g a id). w)
    (λ (w : (index_page g (own (live_at g a) id) 0 ≡ None) × (file_at g a id ≡ None)). absurd (false≢true (rw w.0 at some)))
    (headed_or g a undamaged id)

pub header_of-file : (g : Geometry) (a : List ℕ) → damaged_of g a ≡ [] → (id : ℕ) (f : File) → file_at g a id ≡ Some f → has_header g a id ≡ true
unfolding has_header
header_of-file g a undamaged id f e = let w = (headed-by_file g a undamaged id f e).0 in rw w.at refl

pub next-is : (g : Geometry) → NextIs g
unfolding file_above table_of records
next-is g a undamaged after found next =
    let test : File → Bool = λ f. nat_lt after f.id in
    let P : Option File → Type 0 = λ o. find test (filter_map (file_at g a) (range_with_len 1 0x7FFF)) ≡ o → found ≡ option_map (λ (f : File). f.id) o in
    let N : Option ℕ → Type 0 = λ found. NextId g a after found → (o : Option File) → find test (filter_map (file_at g a) (range_with_len 1 0x7FFF)) ≡ o → found ≡ option_map (λ (f : File). f.id) o in
    let go : (found : Option ℕ) → N found = λ found. elim found as N [
      | None ↦ λ last o. elim o as (λ (o : Option File). find test (filter_map (file_at g a) (range_with_len 1 0x7FFF)) ≡ o → None ≡ option_map (λ (f : File). f.id) o) [
        | None ↦ λ e. refl
        | Some f ↦ λ e.
            let w = found-first (file_at g a) test 1 0x7FFF f e in
            let key : f.id ≡ w.j = file_at-keyed g a w.j f w.is in
            let above : after < f.id = ltb-true after f.id w.passes in
            absurd (false≢true (sym (last.none w.j (omega arith)) ∙ header_of-file g a undamaged w.j f w.is))
      ]
      | Some id ↦ λ next o. elim o as (λ (o : Option File). find test (filter_map (file_at g a) (range_with_len 1 0x7FFF)) ≡ o → Some id ≡ option_map (λ (f : File). f.id) o) [
        | None ↦ λ e.
            let h = has_header-file g a undamaged id next.has in
            let fails : nat_lt after h.f.id ≡ false = found-none (file_at g a) test 1 0x7FFF e id h.low (omega (arith, h.high)) h.f h.counts in
            absurd (false≢true (sym fails ∙ lt-ltb after h.f.id (omega (arith, h.keyed, next.above))))
        | Some f ↦ λ e.
            let w = found-first (file_at g a) test 1 0x7FFF f e in
            let key : f.id ≡ w.j = file_at-keyed g a w.j f w.is in
            let above : after < f.id = ltb-true after f.id w.passes in
            let least : id ≤ w.j = next.least w.j (omega arith) (header_of-file g a undamaged w.j f w.is) in
            let h = has_header-file g a undamaged id next.has in
            ⊎_elim
            (λ (less : id < w.j).
            let fails : nat_lt after h.f.id ≡ false = w.before id h.low less h.f h.counts in
            absurd (false≢true (sym fails ∙ lt-ltb after h.f.id (omega (arith, h.keyed, next.above)))))
            (λ (more : w.j ≤ id). ap (λ (x : ℕ). Some x) (omega (arith, key)))
            (cases_lt id w.j)
      ]
    ] in go found next (find test (filter_map (file_at g a) (range_with_len 1 0x7FFF))) refl
