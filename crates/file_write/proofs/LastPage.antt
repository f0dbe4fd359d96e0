-- Bytes that end in the last data page of a file are programmed there.
use Rattle.std.proofs.Common.{◌≡◌, ◌≢◌, ℕ, ◌+◌, ◌-◌, ◌*◌, ◌/◌, ◌%◌, ◌<◌, ◌≤◌, ◌⊎◌, List, length, Bool, true, false, ◌==◌, Option, Some, None, ap, refl, sym, ◌∙◌, arith, subst, ⊎_elim, inl, inr}
use Rattle.std.specs.Prelude.{nat_le, ◌&&◌, if◌then◌else◌, is_some, slice_index, slice_range}
use Rattle.std.proofs.lemmas.Bool.{cases_eq, eq-eqb, ne_eqb, le-ltb}
use Rattle.std.proofs.lemmas.Option.{none-some, same_Some, cond_some, option_and_then_some}
use Rattle.geometry.proofs.Bounds.{few_usable}
use Rattle.geometry.specs.declared.geometry.Geometry.{Geometry}
use Rattle.geometry.specs.Numbers.{body, head_slots, span_slots, page_count, per_block}
use Rattle.nor_core.specs.Flash.{HalfProgrammed, SameOutside, programmed}
use Rattle.nor_core.proofs.Programs.{half_programmed}
use Rattle.table_model.specs.Table.{File, put_file}
use Rattle.table_model.specs.Files.{written}
use Rattle.table_model.specs.Room.{data_pages}
use Rattle.image_model.specs.Headers.{names_index, span_of, size_of}
use Rattle.image_model.specs.Live.{Live, live_at, own}
use Rattle.image_model.specs.Files.{entry_number, data_of, data_page}
use Rattle.image_model.specs.Places.{page_of, IsImage}
use Rattle.image_model.specs.Sound.{Keeps}
use Rattle.image_model.specs.Tidy.{free_blocks}
use Rattle.image_model.specs.Within.{sizes, page_number, page_length}
use Rattle.image_model.specs.Collect.{are_had}
use Rattle.image_model.specs.Tables.{table_of}
use Rattle.image_laws.specs.Flash.{Programmed}
use Rattle.image_laws.proofs.Finish.{own-parts}
use Rattle.image_laws.proofs.Frames.{live_parts}
use Rattle.image_laws.proofs.Serving.{ceil-mono}
use Rattle.image_laws.proofs.Finished.{finished-programmed}
use Rattle.image_laws.proofs.Placing.{page_byte, wider}
use Rattle.trim_laws.specs.Wear.{SameWear, Worn}
use Rattle.trim_laws.proofs.Trims.{inside_trims}
use Rattle.trim_laws.proofs.Wears.{inside_keeps, upkeep_same, worn_same}
use Rattle.trim_laws.proofs.Pages.{data_not_head}
use Rattle.flash_view.specs.DataPages.{numbered, data_number, data_number_of}
use Rattle.flash_view.specs.Steps.{Begins, Finishes, making}
use Rattle.page_put.specs.Recount.{IsUsedPage}
use Rattle.page_put.proofs.UsedPages.{live_used}
use Rattle.free_search.specs.Had.{IsClear}
use Rattle.free_search.proofs.HadBy.{less_had, in_place_had}
use Rattle.renew_laws.specs.Primed.{Primed, ChangesInPlace}
use Rattle.renew_laws.specs.Tails.{HasFreeEntries}
use Rattle.renew_laws.proofs.Holding.{fill-holds}
use Rattle.renew_laws.proofs.PrimeInPlace.{prime-fill}
use Rattle.renew_laws.proofs.Serves.{data_parts}
use Rattle.renew_laws.proofs.Spans.{span_page, page_named, page_by_word}
use Rattle.page_renew.specs.declared.edits.Edit.TheVariants.{Grow}
use Rattle.page_renew.specs.Renewals.{renewing_from}
use Rattle.page_renew.specs.PageSteps.{StepCut}
use Rattle.page_renew.proofs.EditsLead.{word_kept}
use Rattle.file_write.specs.Appends.{CanAppendAt, CanFill, index_needed, append_room, filling_at, appending_at}
use Rattle.file_write.proofs.Sizes.{size_few, last_below, some_pages}
use Rattle.file_write.proofs.AppendEnds.{primed_clear, IsReadyIn, kept, ends_in}

-- ---- the last data page of a file

-- page q is the live data page of a span by its entry
pub record IsNamed (g : Geometry) (pages : Live) (head : List ℕ) (t q : ℕ) : Type 0 where
  pub entry : entry_number g pages head t ≡ Some q
  pub z : List ℕ
  pub is : pages q ≡ Some z
  pub kind : names_index z ≡ false
  pub span : span_of z ≡ t

of_page : (pages : Live) (t q : ℕ) (o : Option (List ℕ)) → pages q ≡ o → is_some (data_of o t) ≡ true → (z : List ℕ) × (pages q ≡ Some z) × (names_index z ≡ false) × (span_of z ≡ t)
of_page pages t q None e some = absurd (cc)
of_page pages t q (Some z) e some = let parts = data_parts z t some in (z, e, parts.0, parts.1)

-- the one whose number is told
pub named_by : (g : Geometry) (pages : Live) (head : List ℕ) (t q : ℕ) → data_number g pages head t ≡ Some q → IsNamed g pages head t q
unfolding data_number
named_by g pages head t q number =
    option_and_then_some (numbered pages t) (entry_number g pages head t) q number (λ p e k.
    let w = cond_some (is_some (data_of (pages p) t)) p q k in
    let x = of_page pages t q (pages q) refl (subst (λ (r : ℕ). is_some (data_of (pages r) t) ≡ true) w.1 w.0) in
    record { entry = e ∙ ap (λ (r : ℕ). Some r) w.1; z = x.0; is = x.1; kind = x.2; span = x.3 })

-- a data page that is there has a number
pub number_there : (g : Geometry) (pages : Live) (head : List ℕ) (t : ℕ) (x : List ℕ) → data_page g pages head t ≡ Some x → (q : ℕ) × (data_number g pages head t ≡ Some q)
unfolding data_page data_number
number_there g pages head t x there =
    option_and_then_some (λ p. data_of (pages p) t) (entry_number g pages head t) x there (λ q e k. (q, rw e (rw k refl)))

pub number_of : (g : Geometry) (a b : List ℕ) (id h : ℕ) (head : List ℕ) (f : File) (beside : ℕ → Bool) (t : ℕ) → Primed g id h head f beside a b → data_number_of g b id t ≡ data_number g (own (live_at g b) id) head t
unfolding data_number_of
number_of g a b id h head f beside t prime = rw prime.at (rw prime.header refl)

-- a data page is none of the index pages
pub data_kind : (g : Geometry) (pages : Live) (head : List ℕ) (t : ℕ) (x : List ℕ) → data_page g pages head t ≡ Some x → names_index x ≡ false
unfolding data_page
data_kind g pages head t x there = option_and_then_some (λ p. data_of (pages p) t) (entry_number g pages head t) x there (λ q e k. of (pages q) k)
  where
    of : (o : Option (List ℕ)) → data_of o t ≡ Some x → names_index x ≡ false
    of None k = absurd (none-some x k)
    of (Some w) k = let same : w ≡ x = (cond_some _ w x k).1 in subst (λ (y : List ℕ). names_index y ≡ false) same (data_parts w t (ap is_some k)).0

-- ---- the last data page of a file that ends inside it

pub record LastData (g : Geometry) (a : List ℕ) (id : ℕ) (head : List ℕ) : Type 0 where
  pub q : ℕ
  pub x : List ℕ
  pub number : data_number_of g a id (size_of head / body g) ≡ Some q
  pub inside : q < page_count g
  pub whole : data_page g (own (live_at g a) id) head (size_of head / body g) ≡ Some x
  pub bytes : page_of g a q ≡ x
  pub long : length (page_of g a q) ≡ g.page
  pub count : data_pages g (size_of head) ≡ size_of head / body g + 1

pub last_data : (g : Geometry) (a : List ℕ) (id h : ℕ) (head : List ℕ) (f : File) → Primed g id h head f (λ r. false) a a → 0 < size_of head % body g → LastData g a id head
unfolding page_count per_block
last_data g a id h head f prime used =
    let pages = own (live_at g a) id in
    let span = size_of head / body g in
    let count = last_below g (size_of head) used in
    let x = span_page g pages id head f prime.file span (omega (arith, count)) in
    let n = number_there g pages head span x.0 x.1 in
    let named = named_by g pages head span n.0 n.1 in
    let live = (own-parts (live_at g a) id n.0 named.z named.is).0 in
    let parts = live_parts g a n.0 named.z live in
    record {
      q = n.0;
      x = named.z;
      number = number_of g a a id h head f (λ r. false) span prime ∙ n.1;
      inside = page_number g n.0 parts.entry_page;
      whole = page_named g pages head span n.0 named.z named.entry named.is named.kind named.span;
      bytes = parts.bytes;
      long = page_length g a n.0 prime.image parts.entry_page;
      count = count;
    }

-- ---- what the file's header page tells

module _ (g : Geometry) (a : List ℕ) (id h size : ℕ) (bytes : List ℕ) (f : File) (can : CanAppendAt g a id h size bytes f) where
  -- an index page is needed at least
  pub one_index : 1 ≤ index_needed g (length f.bytes)
  one_index = some_index ((length f.bytes % body g == 0) && nat_le (head_slots g) (length f.bytes / body g) && ((length f.bytes / body g - head_slots g) % span_slots g == 0))
    where
      some_index : (b : Bool) → 1 ≤ (if b then 2 else 1)
      some_index true = omega arith
      some_index false = omega arith

  -- a page of each kind is had
  pub one_each : are_had g a 1 1 ≡ true
  one_each = less_had g a (index_needed g (length f.bytes)) (data_pages g (length bytes)) 1 1 one_index (some_pages g (length bytes) can.can.some) can.can.had

  pub size_fits : size + length bytes < 0xFFFFFFFF
  size_fits = let few = size_few g (length f.bytes + length bytes) can.can.few in omega (arith, few, can.told, can.long)

  pub room_is : length bytes ≤ append_room g size
  room_is = subst (λ (n : ℕ). length bytes ≤ append_room g n) (can.long ∙ sym can.told) can.can.fits

  -- where they end in the data page in which they begin
  pub page_fits : (size % body g ≢ 0) ⊎ (head_slots g ≤ size / body g) → size % body g + length bytes ≤ body g
  page_fits apart =
      ⊎_elim
      (λ (none : size % body g ≡ 0). ⊎_elim
      (λ (used : size % body g ≢ 0). absurd (used none))
      (λ (far : head_slots g ≤ size / body g). let room : length bytes ≤ 1 * body g = rw (eq-eqb (size % body g) 0 none, le-ltb (size / body g) (head_slots g) far) at room_is in omega (arith, room, none))
      apart)
      (λ (used : size % body g ≡ 0 → ⊥).
      let room : length bytes ≤ body g - size % body g = rw (ne_eqb (size % body g) 0 used) at room_is in
      let less : size % body g < body g = (let big = (sizes g).page in omega (arith, big)) in
      omega (arith, room, less))
      (cases_eq (size % body g) 0)

  pub clear : IsClear g a
  clear = primed_clear g a a id h can.head f (λ r. false) can.prime

  -- the file's last data page is found where it ends inside it
  pub last_there : 0 < size % body g → ((q : ℕ) → data_number_of g a id (size / body g) ≡ Some q → q < page_count g → size / body g ≤ 0xFFFF → ⊥) → ⊥
  last_there used none =
      let last = last_data g a id h can.head f can.prime (subst (λ (n : ℕ). 0 < n % body g) can.told used) in
      let number : data_number_of g a id (size / body g) ≡ Some last.q = subst (λ (m : ℕ). data_number_of g a id (m / body g) ≡ Some last.q) (sym can.told) last.number in
      let more = ceil-mono (size_of can.head) (length f.bytes + length bytes) (body g) (omega (arith, (sizes g).page)) (omega (arith, can.long)) in
      let span : size_of can.head / body g ≤ 0xFFFF = omega (arith, last.count, more, can.can.few, few_usable g) in
      none last.q number last.inside (subst (λ (m : ℕ). m / body g ≤ 0xFFFF) (sym can.told) span)

-- ---- bytes are programmed behind its end

module _ (g : Geometry) (a : List ℕ) (id h size q at end : ℕ) (bytes : List ℕ) (f : File) (is : IsImage g a) (fill : CanFill g a id h size q bytes f) (at_is : at ≡ 5 + size % body g) (end_is : end ≡ size + length bytes) where
  abbrev can : CanAppendAt g a id h size bytes f
  can = fill.at

  abbrev pages : Live
  pages = own (live_at g a) id

  used : 0 < size_of can.head % body g
  used = subst (λ (n : ℕ). 0 < n % body g) can.told fill.used

  start : at ≡ 5 + size_of can.head % body g
  start = at_is ∙ ap (λ (n : ℕ). 5 + n % body g) can.told

  named : IsNamed g pages can.head (size_of can.head / body g) q
  named = named_by g pages can.head (size_of can.head / body g) q (sym (number_of g a a id h can.head f (λ r. false) (size_of can.head / body g) can.prime) ∙ subst (λ (n : ℕ). data_number_of g a id (n / body g) ≡ Some q) can.told fill.number)

  fits : size_of can.head % body g + length bytes ≤ body g
  fits = subst (λ (n : ℕ). n % body g + length bytes ≤ body g) can.told (page_fits g a id h size bytes f can (inl (λ (e : size % body g ≡ 0). let some = fill.used in omega (arith, some, e))))

  inside : at + length bytes ≤ g.page
  inside = omega (arith, fits, start, (sizes g).page)

  live : live_at g a q ≡ Some named.z
  live = (own-parts (live_at g a) id q named.z named.is).0

  whole : data_page g pages can.head (size_of can.head / body g) ≡ Some named.z
  whole = page_named g pages can.head (size_of can.head / body g) q named.z named.entry named.is named.kind named.span

  ones : (k : ℕ) → at ≤ k → k < at + length bytes → slice_index named.z k ≡ 0xFF
  ones k low high = (can.can.ready h can.head can.prime.at can.prime.header).bytes named.z (λ e. omega (arith, e, used)) whole k (omega (arith, low, start)) (omega (arith, high, inside))

  -- all erase counts stay
  filled_wear : (c : List ℕ) → HalfProgrammed (q * g.page + at) bytes a c → SameWear g a c
  filled_wear c torn = inside_keeps g a c q (q * g.page + at) (length bytes) (live_parts g a q named.z live).entry_page (omega arith) (omega (arith, inside)) torn.outside

  module _ (c : List ℕ) (torn : HalfProgrammed (q * g.page + at) bytes a c) where
    law : Keeps g a c × (free_blocks g a ≤ free_blocks g c) × Primed g id h can.head f (λ r. false) a c × ChangesInPlace g id q a c × (data_page g (own (live_at g c) id) can.head (size_of can.head / body g) ≡ Some (page_of g c q))
    law = prime-fill g a a c id h q at can.head named.z bytes f (λ r. false) can.prime named.entry named.is named.kind named.span (omega (arith, start)) inside torn

    cut : StepCut g (put_file (written (length f.bytes) bytes f) (table_of g a)) a c
    cut = kept g a id h size bytes f can c law.0 (λ two. let more = law.1 in omega (arith, two, more)) (filled_wear c torn)

    had : are_had g c 1 0 ≡ true
    had =
        let now = (own-parts (live_at g c) id q (page_of g c q) law.3.now).0 in
        let kind = data_kind g (own (live_at g c) id) can.head (size_of can.head / body g) (page_of g c q) law.4 in
        let wide : SameOutside (q * g.page) g.page a c = wider (q * g.page + at) (length bytes) (q * g.page) g.page a c (omega arith) (omega (arith, inside)) torn.outside in
        in_place_had g a c q named.z (page_of g c q) 1 0 (clear g a id h size bytes f can) (primed_clear g a c id h can.head f (λ r. false) law.2) wide live now (kind ∙ sym named.kind)
        (less_had g a 1 1 1 0 (omega arith) (omega arith) (one_each g a id h size bytes f can))

    -- the entries behind the last are free still
    free : HasFreeEntries g (own (live_at g c) id) (data_pages g (size_of can.head + length bytes))
    free r t k x is_x kind at_x high past low below =
        let more = ceil-mono (size_of can.head) (size_of can.head + length bytes) (body g) (omega (arith, (sizes g).page)) (omega arith) in
        ⊎_elim
        (λ (here : r ≡ q).
        let same : page_of g c q ≡ x = same_Some (page_of g c q) x (sym law.3.now ∙ ap (own (live_at g c) id) (sym here) ∙ is_x) in
        let no_index = data_kind g (own (live_at g c) id) can.head (size_of can.head / body g) (page_of g c q) law.4 in
        let bad : true ≡ false = sym kind ∙ ap names_index (sym same) ∙ no_index in absurd (cc))
        (λ (other : r ≡ q → ⊥).
        (can.can.ready h can.head can.prime.at can.prime.header).entries r t k x (sym (law.3.others r other) ∙ is_x) kind at_x high (omega (arith, past, more)) low below)
        (cases_eq r q)

    erased : (k : ℕ) → 5 + size_of can.head % body g + length bytes ≤ k → k < g.page → slice_index (page_of g c q) k ≡ 0xFF
    erased k low high =
        let a_page : page_of g a q ≡ named.z = (live_parts g a q named.z live).bytes in
        page_byte g c q k high ∙ torn.outside.after (q * g.page + k) (omega (arith, low, start)) ∙ sym (page_byte g a q k high) ∙ ap (λ (l : List ℕ). slice_index l k) a_page
        ∙ (can.can.ready h can.head can.prime.at can.prime.header).bytes named.z (λ e. omega (arith, e, used)) whole k (omega (arith, low)) high

    ready : Programmed (q * g.page + at) bytes a c → ((k : ℕ) → k < length bytes → slice_index bytes k < 256) → IsReadyIn g a id h size bytes f can c (Grow end)
    ready done small = record {
      beside = λ r. false;
      z = page_of g c q;
      prime = law.2;
      grows = record {
        adds = tt;
        takes = tt;
        size = omega (arith, end_is, can.told);
        some = can.can.some;
        fits = fits;
        holds = subst (λ (n : ℕ). slice_range (page_of g c q) n (n + length bytes) ≡ bytes) start (fill-holds g a c q at named.z bytes is live inside ones small done);
        page = λ y edited. page_by_word g (own (live_at g c) id) can.head y (size_of can.head / body g)
            (λ low.
            let below = last_below g (size_of can.head) used in
            let more = ceil-mono (size_of can.head) end (body g) (omega (arith, (sizes g).page)) (omega (arith, end_is, can.told)) in
            word_kept g can.head y (Grow end) edited (size_of can.head / body g) (omega (arith, below)) (omega (arith, below, more)) low)
            ∙ law.4;
      };
      erased = erased;
      free = free;
      serve = λ y edited r none. absurd (let bad : false ≡ true = none in cc);
      had = had;
      reserve = λ two. let more = law.1 in omega (arith, two, more);
      wear = filled_wear c torn;
    }

  pub fill_begins : Begins g a (making (λ k l. IsUsedPage k l q) (λ k. HalfProgrammed (q * k.page + at) bytes) (λ k was. programmed was (q * k.page + at) bytes)) (filling_at id h size q bytes f)
  fill_begins = record {
    needs = (
      live_used g a q named.z live,
      (λ c torn. upkeep_same g a c (inside_trims g a c q (q * g.page + at) named.z bytes is live (data_not_head named.z named.kind) (omega (arith, start)) (omega (arith, inside)) torn) (filled_wear c torn)),
      λ c now. subst (λ (l : List ℕ). Worn g a l) (sym now) (worn_same g a _ (filled_wear _ (half_programmed a (q * g.page + at) bytes))),
    );
    cut = λ c torn. cut c torn;
  }

  pub fill_ends : (c : List ℕ) → ((k : ℕ) → k < length bytes → slice_index bytes k < 256) → c ≡ programmed a (q * g.page + at) bytes → Finishes g a c (renewing_from id h (Grow end) (written (length f.bytes) bytes f)) (filling_at id h size q bytes f)
  fill_ends c small done =
      let torn : HalfProgrammed (q * g.page + at) bytes a c = subst (λ (n : List ℕ). HalfProgrammed (q * g.page + at) bytes a n) (sym done) (half_programmed a (q * g.page + at) bytes) in
      let all : Programmed (q * g.page + at) bytes a c = subst (λ (n : List ℕ). Programmed (q * g.page + at) bytes a n) (sym done) (finished-programmed (q * g.page + at) bytes a) in
      let e = ends_in g a id h size bytes f can c (Grow end) (ready c torn all small) in
      record { needs = e.needs; cut = e.cut; done = e.done }

-- the last data page was found
pub fill_at : (g : Geometry) (a : List ℕ) (id h size : ℕ) (bytes : List ℕ) (f : File) → CanAppendAt g a id h size bytes f → 0 < size % body g → (q : ℕ) → data_number_of g a id (size / body g) ≡ Some q →
    Finishes g a a (filling_at id h size q bytes f) (appending_at id h size bytes f)
fill_at g a id h size bytes f can used q number = record { needs = record { at = can; used = used; number = number }; cut = λ c cut. cut; done = λ c ok done. done }
