-- What stands behind the end of a file, while pages are put, killed and renewed.
use Rattle.std.proofs.Common.{◌≡◌, ◌≢◌, ℕ, ◌+◌, ◌-◌, ◌*◌, ◌/◌, ◌%◌, ◌<◌, ◌≤◌, List, [], slice_index, slice_range, true, false, Option, Some, None, ap, refl, sym, ◌∙◌, arith, ⊎_elim, subst}
use Rattle.std.specs.Prelude.{option_and_then, unwrap_or}
use Rattle.std.proofs.Math.Nat.{div-add-mod}
use Rattle.std.proofs.Math.Path.{fun_ext}
use Rattle.std.proofs.lemmas.Bool.{cases_eq, le-ltb}
use Rattle.std.proofs.lemmas.Option.{none-some, same_Some}
use Rattle.geometry.specs.declared.geometry.Geometry.{Geometry}
use Rattle.geometry.specs.Numbers.{body, head_slots, ceil}
use Rattle.table_model.specs.Table.{File}
use Rattle.table_model.specs.Room.{data_pages}
use Rattle.image_model.specs.Within.{sizes, page_number}
use Rattle.image_model.specs.Headers.{names_index, size_of, span_of}
use Rattle.image_model.specs.Live.{Live, live_at, own}
use Rattle.image_model.specs.Files.{is_index, index_page, further, entry_number, data_of, data_page, span_bytes, index_span, slot_at}
use Rattle.image_laws.specs.Changes.{Gains, Loses}
use Rattle.image_laws.specs.LiveSteps.{KillDone}
use Rattle.image_laws.specs.Reindex.{now_data}
use Rattle.image_laws.proofs.Finish.{own-parts}
use Rattle.image_laws.proofs.Append.{page_there}
use Rattle.image_laws.proofs.Judge.{IsHeadAtMost, index_passes, entry-same, data-same}
use Rattle.image_laws.proofs.Kill.{own-loses, index-loses, entry-loses}
use Rattle.image_laws.proofs.Sounding.{loses-back}
use Rattle.image_laws.proofs.Tables.{own-gains_other}
use Rattle.renew_laws.specs.Recopy.{RecopiesTo}
use Rattle.renew_laws.specs.Renew.{RenewsTo}
use Rattle.renew_laws.specs.Replace.{Replaced}
use Rattle.renew_laws.specs.Tails.{HasFreeEntries, HasCleanTail, IsTailReady, TailStays, TailBeside, TailDropped, FreesEntries, TailCopied, TailReadied, TailGrown}
use Rattle.renew_laws.proofs.Appended.{pages_of}
use Rattle.renew_laws.proofs.Beside.{beside-data, data_gains, data_first}
use Rattle.renew_laws.proofs.Overwritten.{body_at}
use Rattle.renew_laws.proofs.Spans.{span_page}
use Rattle.renew_laws.proofs.Serves.{index_there}
use Rattle.renew_laws.proofs.PutBeside.{gains_own}
use Rattle.renew_laws.proofs.RecopyCuts.{mine4, mine5, others5}
use Rattle.renew_laws.proofs.ReindexSteps.{head3, reads3, three_v, three_other}
use Rattle.renew_laws.proofs.RenewStep.{renewed_head}

-- a last page that is not full is one of the file's
last_below : (g : Geometry) (size : ℕ) → size % body g ≢ 0 → size / body g < data_pages g size
last_below g size some =
    let big : 128 ≤ g.page = (sizes g).page in
    let whole : body g * (size / body g) + size % body g ≡ size = div-add-mod size (body g) in
    let less : size % body g < body g = omega (arith, big) in
    let count : data_pages g size ≡ size / body g + 1 = ap (λ (n : ℕ). ceil n (body g)) (sym whole) ∙ pages_of (size / body g) (size % body g) (body g) (omega (arith, some)) (omega (arith, less)) in
    omega (arith, count)

pub tail-stays : (g : Geometry) → TailStays g
tail-stays g a b id same ready h head at header =
    subst (λ (pages : Live). HasCleanTail g pages head) (sym same) (ready h head (ap (λ (pages : Live). index_page g pages 0) (sym same) ∙ at) (ap (λ (pages : Live). pages h) (sym same) ∙ header))

-- the tail of an id is that of its header page
pub ready_from : (g : Geometry) (b : List ℕ) (id k : ℕ) (head : List ℕ) → index_page g (own (live_at g b) id) 0 ≡ Some k → own (live_at g b) id k ≡ Some head → HasCleanTail g (own (live_at g b) id) head → IsTailReady g b id
ready_from g b id k head at header clean h hd at' header' =
    let place : k ≡ h = same_Some k h (sym at ∙ at') in
    let same : head ≡ hd = same_Some head hd (sym header ∙ ap (own (live_at g b) id) place ∙ header') in
    subst (λ (x : List ℕ). HasCleanTail g (own (live_at g b) id) x) same clean

-- ---- a data page put beside

pub tail-beside : (g : Geometry) → TailBeside g
tail-beside g a b p id h page head f0 start put j ready =
    let mine = data_gains g a b p id h page head f0 start put.gains in
    ⊎_elim
    (λ (here : id ≡ j).
    let was : HasCleanTail g (own (live_at g a) id) head = (subst (λ (k : ℕ). IsTailReady g a k) (sym here) ready) h head start.at start.header in
    let first = data_first g a b p id h page head f0 start put.gains in
    let header : own (live_at g b) id h ≡ Some head = mine.others h (λ e. none-some head (sym mine.before ∙ ap (own (live_at g a) id) (sym e) ∙ start.header)) ∙ start.header in
    subst (λ (k : ℕ). IsTailReady g b k) here
    (ready_from g b id h head first header (record {
      bytes = λ z some e. was.bytes z some
          (sym (beside-data g p h id page head f0 (own (live_at g a) id) (own (live_at g b) id) mine start.data_kind start.at start.header start.file (size_of head / body g) (last_below g (size_of head) some)) ∙ e);
      entries = λ r t k x is index span high past low below. ⊎_elim
          (λ (new : r ≡ p).
          let same : page ≡ x = same_Some page x (sym mine.after ∙ ap (own (live_at g b) id) (sym new) ∙ is) in
          let bad : false ≡ true = sym start.data_kind ∙ ap names_index same ∙ index in absurd (cc))
          (λ (old : r ≡ p → ⊥). was.entries r t k x (sym (mine.others r old) ∙ is) index span high past low below)
          (cases_eq r p);
    })))
    (λ (there : id ≡ j → ⊥). tail-stays g a b j (own-gains_other p page (live_at g a) (live_at g b) put.gains j (λ e. there (sym start.of ∙ e))) ready)
    (cases_eq id j)

-- ---- a data page killed

-- a page that is there with one page less was there
data_back : (p t : ℕ) (one two : Live) → Loses p one two → (o : Option ℕ) (z : List ℕ) → option_and_then (λ q. data_of (two q) t) o ≡ Some z → option_and_then (λ q. data_of (one q) t) o ≡ Some z
data_back p t one two loses None z e = absurd (none-some z e)
data_back p t one two loses (Some q) z e =
    ⊎_elim
    (λ (here : q ≡ p). let none : data_of (two q) t ≡ None = rw here (rw loses.after refl) in absurd (none-some z (sym none ∙ e)))
    (λ (there : q ≡ p → ⊥). ap (λ (x : Option (List ℕ)). data_of x t) (sym (loses.others q there)) ∙ e)
    (cases_eq q p)

module _ (g : Geometry) (a b : List ℕ) (p : ℕ) (page : List ℕ) (live : live_at g a p ≡ Some page) (kind : names_index page ≡ false) (kill : KillDone g p a b) (j : ℕ) where
  less : Loses p (own (live_at g a) j) (own (live_at g b) j)
  less = own-loses p page (live_at g a) (live_at g b) live kill.loses j

  not_index : (s : ℕ) → index_page g (own (live_at g a) j) s ≢ Some p
  not_index s e =
      let passes = index_passes g (own (live_at g a) j) s p e in
      let x = index_there (own (live_at g a) j p) s passes in
      let same : x.0 ≡ page = same_Some x.0 page (sym (own-parts (live_at g a) j p x.0 x.1).0 ∙ live) in
      let no : is_index (own (live_at g a) j p) s ≡ false = rw x.1 (rw same (rw kind refl)) in
      let bad : true ≡ false = sym passes ∙ no in absurd (cc)

  places : (s : ℕ) → index_page g (own (live_at g b) j) s ≡ index_page g (own (live_at g a) j) s
  places s = index-loses g p (own (live_at g a) j) (own (live_at g b) j) less s (not_index s)

  reads_back : (head : List ℕ) (t : ℕ) (z : List ℕ) → data_page g (own (live_at g b) j) head t ≡ Some z → data_page g (own (live_at g a) j) head t ≡ Some z
  unfolding data_page
  reads_back head t z e =
      let entry : entry_number g (own (live_at g b) j) head t ≡ entry_number g (own (live_at g a) j) head t = entry-loses g p (own (live_at g a) j) (own (live_at g b) j) less head t (λ high. not_index (further g t)) in
      data_back p t (own (live_at g a) j) (own (live_at g b) j) less (entry_number g (own (live_at g a) j) head t) z (ap (λ (o : Option ℕ). option_and_then (λ q. data_of (own (live_at g b) j q) t) o) (sym entry) ∙ e)

  dropped : IsTailReady g a j → IsTailReady g b j
  dropped ready h head at header =
      let was = ready h head (sym (places 0) ∙ at) (loses-back p (own (live_at g a) j) (own (live_at g b) j) less h head header) in
      record {
        bytes = λ z some e. was.bytes z some (reads_back head (size_of head / body g) z e);
        entries = λ r t k x is index span high past low inside. was.entries r t k x (loses-back p (own (live_at g a) j) (own (live_at g b) j) less r x is) index span high past low inside;
      }

pub tail-dropped : (g : Geometry) → TailDropped g
tail-dropped g a b p page live kind kill j ready = dropped g a b p page live kind kill j ready

-- ---- an index page renewed

module _ (g : Geometry) (a b : List ℕ) (p o id h : ℕ) (old page head head' : List ℕ) (f0 f : File) (start : RecopiesTo g a p o id h old page head head' f0 f) (all : Replaced g p o page a b)
    (last : (z : List ℕ) → size_of head % body g ≢ 0 → now_data g (own (live_at g a) id) head page (size_of head / body g) ≡ Some z → (k : ℕ) → 5 + size_of head % body g ≤ k → k < g.page → slice_index z k ≡ 0xFF)
    (next : FreesEntries g old page head)
    (rest : (r t k : ℕ) (x : List ℕ) → r ≢ o → own (live_at g a) id r ≡ Some x → names_index x ≡ true → span_of x ≡ further g t → head_slots g ≤ t → data_pages g (size_of head) ≤ t → slot_at g t ≤ k → k < g.page → slice_index x k ≡ 0xFF) where
  gains : Gains p page (own (live_at g a) id) (own (live_at g all.middle) id)
  gains = mine4 g a p o id h old page head head' f0 f start all.middle all.put.gains

  loses : Loses o (own (live_at g all.middle) id) (own (live_at g b) id)
  loses = mine5 g a p o id h old page head head' f0 f start all.middle all.put.gains b all.kill.loses

  bytes_now : (z : List ℕ) → size_of head % body g ≢ 0 → data_page g (own (live_at g b) id) head' (size_of head / body g) ≡ Some z → (k : ℕ) → 5 + size_of head % body g ≤ k → k < g.page → slice_index z k ≡ 0xFF
  bytes_now z some e =
      last z some (sym (reads3 g (own (live_at g a) id) (own (live_at g all.middle) id) (own (live_at g b) id) id o p h old page head head' f0 f start.pages (page_number g p start.inside) gains loses (size_of head / body g)) ∙ e)

  entries_now : HasFreeEntries g (own (live_at g b) id) (data_pages g (size_of head))
  entries_now r t k x is index span high past low below =
      ⊎_elim
      (λ (new : r ≡ p).
      let same : page ≡ x =
      same_Some page x (sym (three_v g (own (live_at g a) id) (own (live_at g all.middle) id) (own (live_at g b) id) id o p h old page head head' f0 f start.pages (page_number g p start.inside) gains loses) ∙ ap (own (live_at g b) id) (sym new) ∙ is) in
      let here : index_span g t ≡ span_of old = rw (le-ltb t (head_slots g) high) (sym span ∙ ap span_of (sym same) ∙ start.pages.new_span) in
      ap (λ (l : List ℕ). slice_index l k) (sym same) ∙ next t k high past here low below)
      (λ (there : r ≡ p → ⊥). ⊎_elim
      (λ (gone : r ≡ o). absurd (none-some x (sym loses.after ∙ ap (own (live_at g b) id) (sym gone) ∙ is)))
      (λ (left : r ≡ o → ⊥). rest r t k x left
      (sym (three_other g (own (live_at g a) id) (own (live_at g all.middle) id) (own (live_at g b) id) id o p h old page head head' f0 f start.pages (page_number g p start.inside) gains loses r left there) ∙ is)
      index span high past low below)
      (cases_eq r o))
      (cases_eq r p)

  clean : HasCleanTail g (own (live_at g b) id) head'
  clean = record {
    bytes = subst
        (λ (n : ℕ). (z : List ℕ) → n % body g ≢ 0 → data_page g (own (live_at g b) id) head' (n / body g) ≡ Some z → (k : ℕ) → 5 + n % body g ≤ k → k < g.page → slice_index z k ≡ 0xFF)
        (sym start.pages.size) bytes_now;
    entries = subst (λ (n : ℕ). HasFreeEntries g (own (live_at g b) id) (data_pages g n)) (sym start.pages.size) entries_now;
  }

  readied : IsTailReady g b id
  readied =
      let w = head3 g (own (live_at g a) id) (own (live_at g all.middle) id) (own (live_at g b) id) id o p h old page head head' f0 f start.pages (page_number g p start.inside) gains loses in
      ready_from g b id w.0 head' w.1 w.2 clean

pub tail-readied : (g : Geometry) → TailReadied g
tail-readied g a b p o id h old page head head' f0 f start all last next rest = readied g a b p o id h old page head head' f0 f start all last next rest

pub tail-copied : (g : Geometry) → TailCopied g
tail-copied g a b p o id h old page head head' f0 f start all same next j ready =
    ⊎_elim
    (λ (here : id ≡ j).
    let was : HasCleanTail g (own (live_at g a) id) head = (subst (λ (k : ℕ). IsTailReady g a k) (sym here) ready) h head start.pages.at start.pages.header in
    subst (λ (k : ℕ). IsTailReady g b k) here
    (readied g a b p o id h old page head head' f0 f start all
    (λ z some now k low high.
    let below = last_below g (size_of head) some in
    let x = span_page g (own (live_at g a) id) id head f0 start.pages.file (size_of head / body g) below in
    let kept : slice_range (unwrap_or (now_data g (own (live_at g a) id) head page (size_of head / body g)) []) 5 g.page ≡ span_bytes g (own (live_at g a) id) head (size_of head / body g) = same (size_of head / body g) below in
    let bodies : slice_range z 5 g.page ≡ slice_range x.0 5 g.page = rw (now, x.1) at kept in
    let place : 5 + (k - 5) ≡ k = omega (arith, low) in
    ap (λ (i : ℕ). slice_index z i) (sym place) ∙ sym (body_at z g.page (k - 5) (omega (arith, low, high))) ∙ ap (λ (xs : List ℕ). slice_index xs (k - 5)) bodies ∙ body_at x.0 g.page (k - 5) (omega (arith, low, high))
    ∙ ap (λ (i : ℕ). slice_index x.0 i) place ∙ was.bytes x.0 some x.1 k low high)
    next (λ r t k x left. was.entries r t k x)))
    (λ (there : id ≡ j → ⊥).
    tail-stays g a b j (others5 g a p o id h old page head head' f0 f start all.middle all.put.gains b all.kill.loses j (λ e. there (sym e))) ready)
    (cases_eq id j)

-- ---- a header page renewed

-- a header page is no further index page, and no data page
module _ (g : Geometry) (p : ℕ) (one two : Live) (others : (q : ℕ) → q ≢ p → two q ≡ one q) (was : IsHeadAtMost (one p)) (is : IsHeadAtMost (two p)) where
  data_stays : (head : List ℕ) (t : ℕ) → data_page g two head t ≡ data_page g one head t
  unfolding data_page
  data_stays head t =
      rw (entry-same g p one two others was is head t)
      (ap (λ (f : ℕ → Option (List ℕ)). option_and_then f (entry_number g one head t)) (fun_ext (data-same g p one two others was is t)))

  not_further : (o : Option (List ℕ)) (x : List ℕ) (t : ℕ) → IsHeadAtMost o → o ≡ Some x → span_of x ≡ further g t → ⊥
  not_further None x t head e span = none-some x e
  not_further (Some y) x t head e span =
      let same : y ≡ x = same_Some y x e in
      let zero : span_of x ≡ 0 = ap span_of (sym same) ∙ head.1 in omega (arith, span, zero)

  clean_stays : (head : List ℕ) → HasCleanTail g one head → HasCleanTail g two head
  clean_stays head clean = record {
    bytes = λ z some e. clean.bytes z some (sym (data_stays head (size_of head / body g)) ∙ e);
    entries = λ r t k x there index span high past low below. ⊎_elim
        (λ (here : r ≡ p). absurd (not_further (two p) x t is (ap two (sym here) ∙ there) span))
        (λ (other : r ≡ p → ⊥). clean.entries r t k x (sym (others r other) ∙ there) index span high past low below)
        (cases_eq r p);
  }

pub tail-grown : (g : Geometry) → TailGrown g
tail-grown g a b p o id old head f start all clean =
    let gains : Gains p head (own (live_at g a) id) (own (live_at g all.middle) id) = gains_own p id head (live_at g a) (live_at g all.middle) start.leads.is_head.of all.put.gains in
    let was = own-parts (live_at g a) id o old start.was in
    let apart : o ≢ p = λ e. none-some old (sym all.put.gains.before ∙ ap (live_at g a) (sym e) ∙ was.0) in
    let live : live_at g all.middle o ≡ Some old = all.put.gains.others o apart ∙ was.0 in
    let loses : Loses o (own (live_at g all.middle) id) (own (live_at g b) id) = own-loses o old (live_at g all.middle) (live_at g b) live all.kill.loses id in
    let old_there : own (live_at g all.middle) id o ≡ Some old = gains.others o apart ∙ start.was in
    let first = clean_stays g p (own (live_at g a) id) (own (live_at g all.middle) id) gains.others (subst IsHeadAtMost (sym gains.before) tt) (subst IsHeadAtMost (sym gains.after) (start.leads.is_head.index, start.leads.is_head.first)) head clean in
    let second = clean_stays g o (own (live_at g all.middle) id) (own (live_at g b) id) loses.others (subst IsHeadAtMost (sym old_there) (start.old_head.index, start.old_head.first)) (subst IsHeadAtMost (sym loses.after) tt) head first in
    let found = renewed_head g a b p o id old head f start all in
    ready_from g b id p head found.0 found.1 second
