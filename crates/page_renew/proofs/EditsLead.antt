-- Which edits lead to which file.
use Rattle.std.proofs.Common.{◌≡◌, ◌≢◌, ℕ, ◌+◌, ◌-◌, ◌*◌, ◌<◌, ◌≤◌, List, length, take, min, slice_index, slice_range, Bool, true, false, Option, Some, Result, Ok, ap, refl, sym, ◌∙◌, arith, ◌==◌}
use Rattle.std.specs.List.{All}
use Rattle.std.proofs.lemmas.Bool.{lt-ltb, ne_eqb, eq-eqb}
use Rattle.std.proofs.lemmas.Option.{same_Some}
use Rattle.geometry.specs.declared.geometry.Geometry.{Geometry}
use Rattle.geometry.specs.Numbers.{head_slots}
use Rattle.table_model.specs.Table.{File}
use Rattle.table_model.specs.Files.{written}
use Rattle.table_model.specs.Room.{data_pages}
use Rattle.image_model.specs.declared.damage.Damage.{Damage}
use Rattle.image_model.specs.Within.{sizes, page_length}
use Rattle.image_model.specs.Headers.{span_of, size_of, name_of}
use Rattle.nor_core.specs.Flash.{word_at}
use Rattle.image_model.specs.Live.{live_at, own}
use Rattle.image_model.specs.Files.{is_index, judged, file_of}
use Rattle.image_model.specs.Tables.{has_of, table_of}
use Rattle.image_model.specs.Tidy.{IsTidy}
use Rattle.image_laws.specs.Programs.{IsHead, HasOneHead}
use Rattle.image_laws.proofs.Finish.{own-parts, has_of-within}
use Rattle.image_laws.proofs.Frames.{live_parts}
use Rattle.image_laws.proofs.Judge.{found_from, index_passes}
use Rattle.image_laws.proofs.Reindexed.{judged-parts}
use Rattle.image_laws.proofs.Serving.{ceil-mono}
use Rattle.image_laws.proofs.TidySteps.{tidy-is_tidy}
use Rattle.renew_laws.specs.Leads.{SameSpans}
use Rattle.renew_laws.specs.Primed.{Primed}
use Rattle.renew_laws.proofs.Appended.{appended-is_written, one-page_appends, many-pages_append}
use Rattle.renew_laws.proofs.Leading.{renamed-leads}
use Rattle.renew_laws.proofs.PrimeRenew.{primed-renews}
use Rattle.renew_laws.proofs.RecopyCuts.{unused-name}
use Rattle.renew_laws.proofs.RenewTidy.{rename-tidies}
use Rattle.renew_laws.proofs.Truncating.{truncated-leads}
use Rattle.page_renew.specs.declared.edits.Edit.{Edit}
use Rattle.page_renew.specs.declared.edits.Edit.TheVariants.{Name, Meta, Cut, Grow, GrowBy}
use Rattle.page_renew.specs.Edits.{cut_at, header_in, edited_size, edited_name, edited_meta, IsEdited, TakesNext}
use Rattle.page_renew.specs.EditLaws.{edited_file, AddsNone, Adds, EditSays, EditTidies, Grows, GrowsInOne, GrowsInMany, GrowSays, GrowTidies, EditKeepsEntries, EditNamesNext}
use Rattle.page_renew.specs.Renewals.{CanSay, EditDone}
use Rattle.page_renew.proofs.Homes.{index_some}
use Rattle.page_renew.proofs.Says.{named_inside}
use Rattle.page_renew.proofs.Trimmed.{edited_trims}

-- ---- page numbers

-- one below both page counts is kept
pub word_kept : (g : Geometry) (x y : List ℕ) (edit : Edit) → IsEdited g x edit y → (t : ℕ) → t < data_pages g (size_of x) → t < data_pages g (edited_size edit (size_of x)) → t < head_slots g → word_at y (45 + g.meta + 2 * t) ≡ word_at x (45 + g.meta + 2 * t)
word_kept g x y (Name name) edited t low later below = edited.entries t below ∙ rw (lt-ltb t (min (data_pages g (size_of x)) (data_pages g (size_of x))) (omega arith)) refl
word_kept g x y (Meta meta) edited t low later below = edited.entries t below ∙ rw (lt-ltb t (min (data_pages g (size_of x)) (data_pages g (size_of x))) (omega arith)) refl
word_kept g x y (Cut size) edited t low later below = edited.entries t below ∙ rw (lt-ltb t (min (data_pages g (size_of x)) (data_pages g size)) (omega arith)) refl
word_kept g x y (Grow size) edited t low later below = edited.entries t below ∙ rw (lt-ltb t (min (data_pages g (size_of x)) (data_pages g size)) (omega arith)) refl
word_kept g x y (GrowBy size pages) edited t low later below =
    edited.entries t below ∙ rw (lt-ltb t (data_pages g (size_of x)) low, lt-ltb t (min (data_pages g (size_of x)) (data_pages g size)) (omega arith)) refl

pub keeps-entries : (g : Geometry) → EditKeepsEntries g
keeps-entries g x y edit edited t low later below = rw (lt-ltb t (head_slots g) below) (word_kept g x y edit edited t low later below)

pub names-next : (g : Geometry) → EditNamesNext g
names-next g x y (GrowBy size named) pages same edited i few below =
    let place : data_pages g (size_of x) + i - data_pages g (size_of x) ≡ i = omega arith in
    let count : length named.now ≡ length pages = ap (λ (l : List ℕ). length l) same in
    rw (lt-ltb (data_pages g (size_of x) + i) (head_slots g) below)
    (edited.entries (data_pages g (size_of x) + i) below
    ∙ named_inside (data_pages g (size_of x)) named.now (cut_at (min (data_pages g (size_of x)) (data_pages g size)) (header_in g x)).entry (data_pages g (size_of x) + i) (omega arith) (omega (arith, few, count))
    ∙ ap (λ (k : ℕ). slice_index named.now k) place ∙ ap (λ (l : List ℕ). slice_index l i) same)
names-next g x y _ pages same edited i few below = absurd same

same_spans : (g : Geometry) (x y : List ℕ) (edit : Edit) → IsEdited g x edit y → edited_size edit (size_of x) ≡ size_of x → SameSpans g x y
same_spans g x y edit edited same = record {
  size = edited.size ∙ same;
  words = λ t low below. word_kept g x y edit edited t low (rw same low) below;
}

-- ---- a file that is whole

module _ (g : Geometry) (a b : List ℕ) (id h : ℕ) (head : List ℕ) (f : File) (beside : ℕ → Bool) (prime : Primed g id h head f beside a b) where
  is_head : IsHead id head
  is_head =
      let x = index_some (own (live_at g b) id h) 0 (index_passes g (own (live_at g b) id) 0 h prime.at) in
      let same : x.0 ≡ head = same_Some x.0 head (sym x.1 ∙ prime.header) in
      record { index = rw same at x.2; of = (own-parts (live_at g b) id h head prime.header).1; first = rw same at x.3 }

  has : has_of g (live_at g b) id ≡ Some (h, Ok f)
  unfolding has_of
  has = found_from g (own (live_at g b) id) id h head prime.at prime.header ∙ ap (λ (r : Result File Damage). Some (h, r)) prime.file

  one : HasOneHead g b id h head
  one =
      let limits = has_of-within g b id h (Ok f) has in
      record { low = limits.0; high = limits.1; is = prime.header; is_head = is_head; only = prime.only; undamaged = prime.tidy.undamaged }

  lengths : (q : ℕ) (x : List ℕ) → own (live_at g b) id q ≡ Some x → length x ≡ g.page
  lengths q x e = let parts = live_parts g b q x (own-parts (live_at g b) id q x e).0 in ap length (sym parts.bytes) ∙ page_length g b q prime.image parts.entry_page

  unused : All (λ x. x.id ≢ id → x.name ≢ f.name) (table_of g b)
  unused = unused-name g b id h f prime.tidy.undamaged has

  edited_head : (edit : Edit) (y : List ℕ) → IsEdited g head edit y → IsHead id y
  edited_head edit y edited = let same = edited.id in record { index = rw same is_head.index; of = rw same is_head.of; first = edited.span ∙ is_head.first }

  leads_to : (edit : Edit) (f' : File) → TakesNext g edit (size_of head) → ((y : List ℕ) → IsEdited g head edit y → judged g (own (live_at g b) id) id y ≡ Ok f') → All (λ x. x.id ≢ id → x.name ≢ f'.name) (table_of g b) → CanSay g b id h edit head f'
  leads_to edit f' takes file names = record {
    one = one;
    trims = λ y edited. edited_trims g head y edit takes edited;
    leads = λ y edited. record { is_head = edited_head edit y edited; low = one.low; high = one.high; file = file y edited; undamaged = prime.tidy.undamaged; unused = names };
  }

  -- what the old header page says of the file
  parts : (name : List ℕ) × (name_of head ≡ Some name) × (file_of g (own (live_at g b) id) id head name ≡ f)
  parts = judged-parts g (own (live_at g b) id) id head f prime.file

  named : name_of head ≡ Some f.name
  named = parts.1 ∙ ap (λ (x : File). Some x.name) parts.2

  id_is : id ≡ f.id
  id_is = ap (λ (x : File). x.id) parts.2

  kind_is : slice_index head 12 ≡ f.kind
  kind_is = ap (λ (x : File). x.kind) parts.2

  meta_is : slice_range head 45 (45 + g.meta) ≡ f.meta
  meta_is = ap (λ (x : File). x.meta) parts.2

  -- a file with these fields is one with the old id and type
  fields_are : (k : ℕ) (name meta meta' bytes : List ℕ) → k ≡ f.kind → meta ≡ meta' → (x : File) → x ≡ record { id = f.id; name = name; kind = f.kind; meta = meta'; bytes = bytes } → record { id = id; name = name; kind = k; meta = meta; bytes = bytes } ≡ x
  fields_are k name meta meta' bytes is same x e = rw (is, same, id_is) (sym e)

  pub says : (edit : Edit) → AddsNone edit id (size_of head) (table_of g b) → CanSay g b id h edit head (edited_file edit f)
  says (Name name) none =
      leads_to (Name name) (edited_file (Name name) f) tt
      (λ y edited. (renamed-leads g (own (live_at g b) id) id head y name.now f prime.file (same_spans g head y (Name name) edited refl) edited.name).0
      ∙ ap (λ (x : File). Ok x) (fields_are (slice_index y 12) name.now (slice_range y 45 (45 + g.meta)) f.meta f.bytes (edited.kind ∙ kind_is) (edited.meta ∙ meta_is) (edited_file (Name name) f) refl))
      none
  says (Meta meta) none =
      leads_to (Meta meta) (edited_file (Meta meta) f) tt
      (λ y edited. (renamed-leads g (own (live_at g b) id) id head y f.name f prime.file (same_spans g head y (Meta meta) edited refl) (edited.name ∙ named)).0
      ∙ ap (λ (x : File). Ok x) (fields_are (slice_index y 12) f.name (slice_range y 45 (45 + g.meta)) meta.now f.bytes (edited.kind ∙ kind_is) edited.meta (edited_file (Meta meta) f) refl))
      unused
  says (Cut size) none =
      leads_to (Cut size) (edited_file (Cut size) f) tt
      (λ y edited.
      let now : size_of y ≡ size = edited.size in
      (truncated-leads g (own (live_at g b) id) id head y f.name f (sizes g).page lengths prime.file (rw now none)
      (λ t later below. word_kept g head y (Cut size) edited t (fewer size t none (rw now at later)) (rw now at later) below) (edited.name ∙ named))
      ∙ ap (λ (x : File). Ok x) (fields_are (slice_index y 12) f.name (slice_range y 45 (45 + g.meta)) f.meta (take (size_of y) f.bytes) (edited.kind ∙ kind_is) (edited.meta ∙ meta_is) (edited_file (Cut size) f) (rw now refl)))
      unused
    where
      fewer : (size t : ℕ) → size ≤ size_of head → t < data_pages g size → t < data_pages g (size_of head)
      fewer size t less below = let most = ceil-mono size (size_of head) (g.page - 5) (omega (arith, (sizes g).page)) less in omega (arith, most, below)
  says (Grow size) none = absurd none
  says (GrowBy size pages) none = absurd none

pub edit-says : (g : Geometry) → EditSays g
edit-says g a b id h head f beside edit prime none = says g a b id h head f beside prime edit none

-- the header page that was renewed is the one of the file
is_header : (o : Option (List ℕ)) (x : List ℕ) {id : ℕ} → o ≡ Some x → IsHead id x → is_index o 0 ≡ true
is_header o x was head =
    let span : (span_of x == 0) ≡ true = eq-eqb (span_of x) 0 head.first in
    rw was (rw (head.index, span) refl)

pub renewed_at : (g : Geometry) (a c : List ℕ) (id h : ℕ) (head : List ℕ) (f f' : File) (beside : ℕ → Bool) (edit : Edit) {b : List ℕ} → Primed g id h head f beside b a → (done : EditDone g id edit f' a c) → (done.o ≡ h) × (done.head ≡ head)
renewed_at g a c id h head f f' beside edit prime done =
    let at : done.o ≡ h = prime.only done.o (is_header (own (live_at g a) id done.o) done.head done.renews.was done.renews.old_head) in
    (at, same_Some done.head head (sym done.renews.was ∙ ap (own (live_at g a) id) at ∙ prime.header))

pub edit-tidies : (g : Geometry) → EditTidies g
edit-tidies g a c id h head f f' edit prime same done =
    let w = renewed_at g a c id h head f f' (λ (r : ℕ). false) edit prime done in
    let edited : IsEdited g head edit done.y = rw w.1 at done.edited in
    let spans : SameSpans g done.head done.y = rw w.1 (same_spans g head done.y edit edited same) in
    let tidy : IsTidy g a = (tidy-is_tidy g a (λ (r : ℕ). false)).1 (λ r e. let bad : false ≡ true = e in absurd (cc)) prime.tidy in
    (rename-tidies g a c done.to done.o id done.head done.y f f' done.renews (rw w.0 prime.at) (rw w.1 prime.file) spans done.replaced tidy).0

-- ---- bytes that are added

same_name : (edit : Edit) (name : Option (List ℕ)) → Adds edit → edited_name edit name ≡ name
same_name (Name now) name none = absurd none
same_name (Meta meta) name none = absurd none
same_name (Cut size) name none = absurd none
same_name (Grow size) name any = refl
same_name (GrowBy size pages) name any = refl

same_meta : (edit : Edit) (meta : List ℕ) → Adds edit → edited_meta edit meta ≡ meta
same_meta (Name name) meta none = absurd none
same_meta (Meta now) meta none = absurd none
same_meta (Cut size) meta none = absurd none
same_meta (Grow size) meta any = refl
same_meta (GrowBy size pages) meta any = refl

-- an edit to a longer file keeps the entries of the old one
words_kept : (g : Geometry) (head y : List ℕ) (edit : Edit) (n : ℕ) → edited_size edit (size_of head) ≡ size_of head + n → IsEdited g head edit y → (t : ℕ) → t < data_pages g (size_of head) → t < head_slots g → word_at y (45 + g.meta + 2 * t) ≡ word_at head (45 + g.meta + 2 * t)
words_kept g head y edit n longer edited t low below =
    let most = ceil-mono (size_of head) (edited_size edit (size_of head)) (g.page - 5) (omega (arith, (sizes g).page)) (omega (arith, longer)) in
    word_kept g head y edit edited t low (omega (arith, most, low)) below

pub grows-in_one : (g : Geometry) → GrowsInOne g
grows-in_one g a b id h head z bytes f beside edit prime grows = record {
  adds = grows.adds;
  takes = grows.takes;
  appends = λ y edited. one-page_appends g (own (live_at g b) id) head y bytes z (lengths g a b id h head f beside prime) (record {
    some = grows.some;
    fits = grows.fits;
    size = edited.size ∙ grows.size;
    words = words_kept g head y edit (length bytes) grows.size edited;
    page = grows.page y edited;
    holds = grows.holds;
  });
}

pub grows-in_many : (g : Geometry) → GrowsInMany g
grows-in_many g a b id h head bytes f beside edit prime grows = record {
  adds = grows.adds;
  takes = grows.takes;
  appends = λ y edited. many-pages_append g (own (live_at g b) id) head y bytes (lengths g a b id h head f beside prime) (record {
    some = grows.some;
    whole = grows.whole;
    size = edited.size ∙ grows.size;
    words = words_kept g head y edit (length bytes) grows.size edited;
    pages_are = grows.pages_are y edited;
  });
}

module _ (g : Geometry) (b : List ℕ) (id : ℕ) (head bytes : List ℕ) (edit : Edit) (grows : Grows g b id head bytes edit) (y : List ℕ) (edited : IsEdited g head edit y) where
  name_stays : name_of y ≡ name_of head
  name_stays = edited.name ∙ same_name edit (name_of head) grows.adds

  meta_stays : slice_range y 45 (45 + g.meta) ≡ slice_range head 45 (45 + g.meta)
  meta_stays = edited.meta ∙ same_meta edit (slice_range head 45 (45 + g.meta)) grows.adds

pub grow-says : (g : Geometry) → GrowSays g
grow-says g a b id h head bytes f beside edit prime grows =
    leads_to g a b id h head f beside prime edit (written (length f.bytes) bytes f) grows.takes
    (λ y edited. appended-is_written g (own (live_at g b) id) id head y bytes f (lengths g a b id h head f beside prime) prime.file
    (grows.appends y edited) (name_stays g b id head bytes edit grows y edited) edited.kind (meta_stays g b id head bytes edit grows y edited))
    (unused g a b id h head f beside prime)

pub grow-tidies : (g : Geometry) → GrowTidies g
grow-tidies g a b c id h head bytes f f' beside edit prime grows serving done =
    let w = renewed_at g b c id h head f f' beside edit prime done in
    let edited : IsEdited g head edit done.y = rw w.1 at done.edited in
    let law = primed-renews g a b id h done.to head done.y bytes f beside prime done.renews.inside done.renews.kind done.renews.leads.is_head
    (grows.appends done.y edited) (name_stays g b id head bytes edit grows done.y edited) edited.kind (meta_stays g b id head bytes edit grows done.y edited) (serving done.y edited) in
    law.2 c (rw w.0 at done.replaced)
