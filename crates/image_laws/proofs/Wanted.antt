-- A page that is not wanted serves its id in no way.
use Rattle.std.proofs.Common.{◌≡◌, ◌≢◌, ℕ, ◌+◌, ◌-◌, ◌*◌, ◌/◌, ◌%◌, ◌<◌, ◌≤◌, List, true, false, ◌&&◌, Option, Some, None, Ok, ap, refl, sym, ◌∙◌, arith, ⊎_elim, subst}
use Rattle.std.specs.Prelude.{is_none, is_some, option_and_then}
use Rattle.std.proofs.lemmas.Bool.{cases_lt, eq-eqb, or_parts, lt-ltb}
use Rattle.std.proofs.lemmas.Option.{same_Some}
use Rattle.std.proofs.Math.Nat.{mul-le-mul_left, div-add-mod}
use Rattle.geometry.specs.declared.geometry.Geometry.{Geometry}
use Rattle.table_model.specs.Room.{data_pages, index_pages}
use Rattle.geometry.specs.Numbers.{head_slots, span_slots, ceil}
use Rattle.image_model.specs.Within.{sizes}
use Rattle.image_model.specs.Live.{live_at, Live, own}
use Rattle.image_model.specs.Headers.{obj_id, size_of, name_of}
use Rattle.table_model.specs.Table.{File}
use Rattle.image_model.specs.Files.{index_page, further, entry_number, data_of, data_page, first_missing, judged, judged_by}
use Rattle.image_model.specs.Tables.{has_of, counted}
use Rattle.image_model.specs.Tidy.{is_number, serves, is_wanted, is_wanted_as}
use Rattle.image_laws.specs.Programs.{IsIdle, UnwantedIsIdle}
use Rattle.image_laws.proofs.Records.{list_any-at, counted-some}
use Rattle.image_laws.proofs.Judge.{found_parts}
use Rattle.image_laws.proofs.Append.{find-all, some_page}

ceil-above : (n h x span : ℕ) → 0 < x → span < n → h ≤ span → (span - h) / x + 1 < 1 + ceil (n - h) x
ceil-above n h x span pos below high =
    let q : x * ((span - h) / x) + (span - h) % x ≡ span - h = div-add-mod (span - h) x in
    let c : x * ((n - h + x - 1) / x) + (n - h + x - 1) % x ≡ n - h + x - 1 = div-add-mod (n - h + x - 1) x in
    let r : (n - h + x - 1) % x < x = omega arith in
    ⊎_elim
    (λ (low : (span - h) / x < (n - h + x - 1) / x). omega arith)
    (λ (over : (n - h + x - 1) / x ≤ (span - h) / x). let step : x * ((n - h + x - 1) / x) ≤ x * ((span - h) / x) = mul-le-mul_left x over in absurd (omega arith))
    (cases_lt ((span - h) / x) ((n - h + x - 1) / x))

-- a further index page of a data span is one of the file's
further-below : (g : Geometry) (size span : ℕ) → 9 < g.page → 0 < span_slots g → span < data_pages g size → head_slots g ≤ span → further g span < index_pages g size
further-below g size span big pos below high =
    let more : head_slots g < data_pages g size = omega arith in
    rw (lt-ltb (head_slots g) (data_pages g size) more) (ceil-above (data_pages g size) (head_slots g) (span_slots g) span pos below high)

pub header-below : (g : Geometry) (size : ℕ) → 0 < index_pages g size
header-below g size = grind arith

-- a whole file has the page of each span
pub judged-whole : (g : Geometry) (pages : Live) (id : ℕ) (head : List ℕ) (f : File) → judged g pages id head ≡ Ok f → first_missing g pages head ≡ None
unfolding judged
judged-whole g pages id head f h =
    let go : (n : Option (List ℕ)) (m : Option ℕ) → judged_by g pages id head n m ≡ Ok f → m ≡ None =
    λ n m. elim m as (λ (m : Option ℕ). judged_by g pages id head n m ≡ Ok f → m ≡ None)
    [ None ↦ λ k. refl | Some span ↦ elim n as (λ (n : Option (List ℕ)). judged_by g pages id head n (Some span) ≡ Ok f → Some span ≡ None) [ None ↦ λ k. cc | Some name ↦ λ k. cc ] ] in
    go (name_of head) (first_missing g pages head) h

pub number-other : (o : Option ℕ) (p : ℕ) → is_number o p ≡ false → o ≢ Some p
number-other o p h e = let yes : is_number o p ≡ true = rw e (eq-eqb p p refl) in cc

data-named : (g : Geometry) (pages : Live) (head : List ℕ) (span p : ℕ) → is_none (data_page g pages head span) ≡ false → entry_number g pages head span ≡ Some p →
    (is_number (entry_number g pages head span) p && is_some (data_of (pages p) span)) ≡ false → ⊥
unfolding data_page
data-named g pages head span p present named unserved =
    let there : is_none (data_of (pages p) span) ≡ false = rw named at present in
    let z = some_page (data_of (pages p) span) there in
    let yes : (is_number (entry_number g pages head span) p && is_some (data_of (pages p) span)) ≡ true = rw named (rw (eq-eqb p p refl) (rw z.1 refl)) in
    cc

unserved-idle : (g : Geometry) (pages : Live) (id p h : ℕ) (head : List ℕ) (f : File) → 9 < g.page → 0 < span_slots g → index_page g pages 0 ≡ Some h → pages h ≡ Some head → judged g pages id head ≡ Ok f →
    serves g pages head p ≡ false → IsIdle g pages p
unfolding serves
unserved-idle g pages id p h head f big pos e b whole unserved =
    let w = or_parts _ _ unserved in
    let index : (j : ℕ) → j < index_pages g (size_of head) → index_page g pages j ≢ Some p =
    λ j below. number-other (index_page g pages j) p (list_any-at (λ (j : ℕ). is_number (index_page g pages j) p) 0 (index_pages g (size_of head)) w.0 j (omega arith) (omega arith)) in
    let present : (span : ℕ) → span < data_pages g (size_of head) → is_none (data_page g pages head span) ≡ false =
    λ span below. find-all (λ (span : ℕ). is_none (data_page g pages head span)) 0 (data_pages g (size_of head)) (judged-whole g pages id head f whole) span (omega arith) (omega arith) in
    record {
      no_header = index 0 (header-below g (size_of head));
      no_page = λ h' head' e' b' span below.
          let at : h' ≡ h = same_Some h' h (sym e' ∙ e) in
          let same : head' ≡ head = same_Some head' head (sym b' ∙ ap pages at ∙ b) in
          let below' : span < data_pages g (size_of head) = subst (λ (x : List ℕ). span < data_pages g (size_of x)) same below in (
            λ high. index (further g span) (further-below g (size_of head) span big pos below' high),
            λ named. data-named g pages head span p (present span below') (rw same at named)
                (list_any-at (λ (span : ℕ). is_number (entry_number g pages head span) p && is_some (data_of (pages p) span)) 0 (data_pages g (size_of head)) w.1 span (omega arith) (omega arith)),
          );
    }

pub some_file : (o : Option File) → is_some o ≡ true → (f : File) × (o ≡ Some f)
some_file None h = cc
some_file (Some f) h = (f, refl)

span_pos : (g : Geometry) → 9 < g.page → 0 < span_slots g
span_pos g big = omega arith

pub unwanted-idle : (g : Geometry) → UnwantedIsIdle g
unfolding is_wanted has_of
unwanted-idle g a p page live unwanted in_table =
    let big : 9 < g.page = omega (arith, (sizes g).page) in
    let has = has_of g (live_at g a) in
    let f = some_file (counted (has_of g (live_at g a)) 0x7FFF (has_of g (live_at g a) (obj_id page % 0x8000))) in_table in
    let w = counted-some (has_of g (live_at g a)) 0x7FFF (has_of g (live_at g a) (obj_id page % 0x8000)) f.0 f.1 in
    let v = found_parts g (own (live_at g a) (obj_id page % 0x8000)) (obj_id page % 0x8000) w.0 (Ok f.0) w.1 in
    let named : is_wanted_as g (live_at g a) (Some page) p ≡ false = rw live at unwanted in
    let head : option_and_then (own (live_at g a) (obj_id page % 0x8000)) (index_page g (own (live_at g a) (obj_id page % 0x8000)) 0) ≡ Some v.0 = rw v.1 v.2 in
    let unserved : serves g (own (live_at g a) (obj_id page % 0x8000)) v.0 p ≡ false = rw (in_table, head) at named in
    unserved-idle g (own (live_at g a) (obj_id page % 0x8000)) (obj_id page % 0x8000) p w.0 v.0 f.0 big (span_pos g big) v.1 v.2 v.3 unserved
