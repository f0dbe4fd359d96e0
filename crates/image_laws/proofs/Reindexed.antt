-- A renewed index page among the pages of an id.
use Rattle.std.proofs.Common.{◌≡◌, ℕ, zero, suc, ◌+◌, ◌<◌, ◌≤◌, List, [], ◌++◌, take, slice_index, slice_range, Bool, true, false, Option, Some, None, Ok, ap, refl, ◌∙◌, arith, ⊎_elim, subst}
use Rattle.std.proofs.Math.Path.{fun_ext}
use Rattle.std.specs.Prelude.{is_some, is_none, option_and_then, find, unwrap_or}
use Rattle.std.specs.Option.{option_map}
use Rattle.std.specs.List.{range_with_len, flat_map}
use Rattle.std.proofs.lemmas.Bool.{cases_lt, lt-ltb, le-ltb}
use Rattle.geometry.specs.declared.geometry.Geometry.{Geometry}
use Rattle.geometry.specs.Numbers.{head_slots}
use Rattle.table_model.specs.Room.{data_pages}
use Rattle.image_model.specs.Headers.{size_of, name_of}
use Rattle.image_model.specs.Live.{Live}
use Rattle.table_model.specs.Table.{File}
use Rattle.image_model.specs.Files.{index_page, further, entry_number, data_of, data_page, judged, judged_by, file_of, span_bytes, bytes_of, first_missing, index_span}
use Rattle.image_laws.specs.Reindex.{slot_word}
use Rattle.image_laws.proofs.Judge.{judged-same}

-- ---- pages that say the same of each span

pub record Alikes (g : Geometry) (pages now : Live) : Type 0 where
  pub index : (j : ℕ) → option_and_then now (index_page g now j) ≡ option_and_then pages (index_page g pages j)
  pub holds : (t r : ℕ) → data_of (now r) t ≡ data_of (pages r) t

module _ (g : Geometry) (pages now : Live) (like : Alikes g pages now) where
  entry_like : (head : List ℕ) (t : ℕ) → entry_number g now head t ≡ entry_number g pages head t
  unfolding entry_number
  entry_like head t = rw (like.index (further g t)) refl

  data_like : (head : List ℕ) (t : ℕ) → data_page g now head t ≡ data_page g pages head t
  unfolding data_page
  data_like head t = rw (entry_like head t) (ap (λ (f : ℕ → Option (List ℕ)). option_and_then f (entry_number g pages head t)) (fun_ext (like.holds t)))

  pub judged-like : (id : ℕ) (head : List ℕ) → judged g now id head ≡ judged g pages id head
  judged-like id head = judged-same g pages now id head (λ t below. data_like head t)

-- ---- what a whole file is of

judged_by-parts : (g : Geometry) (pages : Live) (id : ℕ) (head : List ℕ) (n : Option (List ℕ)) (m : Option ℕ) (f : File) → judged_by g pages id head n m ≡ Ok f →
    (name : List ℕ) × (n ≡ Some name) × (file_of g pages id head name ≡ f)
judged_by-parts g pages id head None m f h = cc
judged_by-parts g pages id head (Some name) (Some t) f h = cc
judged_by-parts g pages id head (Some name) None f h = let same : file_of g pages id head name ≡ f = cc in (name, refl, same)

pub judged-parts : (g : Geometry) (pages : Live) (id : ℕ) (head : List ℕ) (f : File) → judged g pages id head ≡ Ok f → (name : List ℕ) × (name_of head ≡ Some name) × (file_of g pages id head name ≡ f)
unfolding judged
judged-parts g pages id head f h = judged_by-parts g pages id head (name_of head) (first_missing g pages head) f h

pub find_none-in : (test : ℕ → Bool) (a n : ℕ) → ((q : ℕ) → a ≤ q → q < a + n → test q ≡ false) → find test (range_with_len a n) ≡ None
find_none-in test a zero none = refl
find_none-in test a (suc n) none = rw (none a (omega arith) (omega arith)) (find_none-in test (a + 1) n (λ q low high. none q (omega arith) (omega arith)))

pub pieces-same : (f now : ℕ → List ℕ) (a n : ℕ) → ((q : ℕ) → a ≤ q → q < a + n → now q ≡ f q) → flat_map now (range_with_len a n) ≡ flat_map f (range_with_len a n)
pieces-same f now a zero same = refl
pieces-same f now a (suc n) same = rw (same a (omega arith) (omega arith)) (ap (λ (ys : List ℕ). f a ++ ys) (pieces-same f now (a + 1) n (λ q low high. same q (omega arith) (omega arith))))

some-none : (o : Option (List ℕ)) → is_some o ≡ true → is_none o ≡ false
some-none None h = cc
some-none (Some x) h = refl

-- a header page whose spans of data have these pages
module _ (g : Geometry) (pages now : Live) (id : ℕ) (head head' : List ℕ) (f : File) (want : ℕ → Option (List ℕ)) (file : judged g pages id head ≡ Ok f)
    (size : size_of head' ≡ size_of head) (name : name_of head' ≡ name_of head) (kind : slice_index head' 12 ≡ slice_index head 12)
    (meta : slice_range head' 45 (45 + g.meta) ≡ slice_range head 45 (45 + g.meta))
    (reads : (t : ℕ) → t < data_pages g (size_of head) → data_page g now head' t ≡ want t) (whole : (t : ℕ) → t < data_pages g (size_of head) → is_some (want t) ≡ true) where
  bytes : List ℕ
  bytes = take (size_of head) (flat_map (λ (t : ℕ). slice_range (unwrap_or (want t) []) 5 g.page) (range_with_len 0 (data_pages g (size_of head))))

  none_missing : first_missing g now head' ≡ None
  none_missing = rw size (find_none-in (λ (t : ℕ). is_none (data_page g now head' t)) 0 (data_pages g (size_of head)) (λ q low high. rw (reads q (omega arith)) (some-none (want q) (whole q (omega arith)))))

  bytes_now : bytes_of g now head' ≡ take (size_of head) (flat_map (λ (t : ℕ). slice_range (unwrap_or (want t) []) 5 g.page) (range_with_len 0 (data_pages g (size_of head))))
  bytes_now = rw size (ap (λ (bs : List ℕ). take (size_of head) bs) (pieces-same (λ (t : ℕ). slice_range (unwrap_or (want t) []) 5 g.page) (span_bytes g now head') 0 (data_pages g (size_of head)) (λ q low high. rw (reads q (omega arith)) refl)))

  pub judged-reads : judged g now id head' ≡ Ok (record {
    id = f.id;
    name = f.name;
    kind = f.kind;
    meta = f.meta;
    bytes = take (size_of head) (flat_map (λ (t : ℕ). slice_range (unwrap_or (want t) []) 5 g.page) (range_with_len 0 (data_pages g (size_of head))));
  })
  unfolding judged
  judged-reads =
      let w = judged-parts g pages id head f file in
      let same : name_of head' ≡ Some w.0 = name ∙ w.1 in
      let fields : file_of g pages id head w.0 ≡ f = w.2 in
      subst (λ (y : File). judged g now id head' ≡ Ok (record {
        id = y.id;
        name = y.name;
        kind = y.kind;
        meta = y.meta;
        bytes = take (size_of head) (flat_map (λ (t : ℕ). slice_range (unwrap_or (want t) []) 5 g.page) (range_with_len 0 (data_pages g (size_of head))));
      })) fields
      (rw (same, none_missing) (rw (bytes_now, kind, meta) refl))

-- ---- entries through index pages

pub entry-slot : (g : Geometry) (pages : Live) (h : ℕ) (head : List ℕ) (t : ℕ) → index_page g pages 0 ≡ Some h → pages h ≡ Some head →
    entry_number g pages head t ≡ option_map (λ page. slot_word g page t) (option_and_then pages (index_page g pages (index_span g t)))
unfolding entry_number
entry-slot g pages h head t at header =
    ⊎_elim
    (λ (low : t < head_slots g). rw (lt-ltb t (head_slots g) low) (rw at (rw header refl)))
    (λ (high : head_slots g ≤ t). rw (le-ltb t (head_slots g) high) refl)
    (cases_lt t (head_slots g))
