-- A record's bytes are written page by page.
use Rattle.std.proofs.Common.{◌≡◌, ◌<◌, ◌≤◌, ◌+◌, ◌-◌, ◌*◌, ◌/◌, ◌%◌, ◌⊎◌, ℕ, List, length, Bool, true, false, Option, Some, None, Result, Ok, Err, refl, sym, ◌∙◌, ap, subst, inl, inr, ⊎_elim, arith}
use Rattle.std.specs.Prelude.{OnOk, IfOk, IfErr, min}
use Rattle.std.proofs.Math.Nat.{div-add-mod}
use Rattle.std.proofs.lemmas.Nat.{mod-mul-add}
use Rattle.std.proofs.lemmas.Bool.{cases_lt}
use Rattle.nor_core.specs.declared.state.NorState.{Ghosts as NorOf}
use Rattle.nor_core.specs.Device.{OnlyReads}
use Rattle.geometry.specs.declared.geometry.Geometry.{Geometry}
use Rattle.geometry.specs.Numbers.{body}
use Rattle.table_model.specs.declared.reply.Stat.{Stat}
use Rattle.table_model.specs.Table.{File, Open, file_of}
use Rattle.table_model.specs.Room.{index_pages}
use Rattle.table_model.specs.Window.{settled_at}
use Rattle.table_model.specs.Ask.{Opens, Writes, Closes}
use Rattle.image_model.specs.Tables.{table_of}
use Rattle.image_model.specs.Within.{sizes}
use Rattle.vol_mount.specs.declared.reader.Reader.{Reader}
use Rattle.vol_mount.specs.Readers.{IsSameReader}
use Rattle.volume.specs.declared.volume.Volume.{Volume}
use Rattle.copy_model.specs.declared.err.CopyErr.{CopyErr}
use Rattle.copy_model.specs.declared.err.CopyErr.TheVariants.{FromFault}
use Rattle.copy_model.specs.Copying.{working}
use Rattle.copy_model.specs.Answers.{IsPiece}
use Rattle.copy_model.specs.Tasks.{Task}
use Rattle.copy_model.specs.Under.{IsUnder}
use Rattle.copy_model.specs.Parts.{IsMissing, IsFilling, IsWhole}
use Rattle.copy_model.proofs.Passing.{next_here}
use Rattle.copy_model.proofs.Opened.{filling_under}
use Rattle.vol_copy.specs.Ends.{TellsFiles}
use Rattle.vol_copy.specs.Stages.{IsPage, Rests, Works, LacksRoom, LacksPage, PageWent, CutsUnder, Leads, StopsAs, StopsFrom, With, page_end, index_more}
use Rattle.vol_copy.specs.Went.{Went, done_as, opened_as, wrote_as}
use Rattle.vol_copy.proofs.Composing.{works_some, lacks_some, rest_table, cuts_then, cuts_none, cuts_of, cuts_with, with_then}
use Rattle.vol_copy.proofs.Places.{on_ok, if_err}
use Rattle.vol_copy.proofs.Fills.{WithBytes, write_cuts, write_leads, write_short, write_stops, open_cuts, open_leads, open_short, open_stops, close_cuts, close_leads, close_stops}
use Rattle.vol_copy.proofs.Chains.{faults_stop, stops_then}

-- the record that is filled in, by the id that is told
filled_here : (stat : Stat) (at : ℕ) (t : Task) (d : Open) (files : List File) (is : IsFilling stat at t d files) → file_of stat.id t.source ≡ Some is.is.next.f
filled_here stat at t d files is = ap (λ (id : ℕ). file_of id t.source) (ap (λ (s : Stat). s.id) is.is.next.stat_is) ∙ next_here stat t is.before is.is.next

-- the bytes that a read of the source gave
abbrev pub ReadHere : {N : Type 0} (nor : NorOf N) (from : Reader N nor) (id at : ℕ) (bytes : List ℕ) → Type 0
ReadHere nor from id at bytes = (source : List File) (f : File) → TellsFiles nor from source → file_of id source ≡ Some f → IsPiece f at bytes

-- why it gave none
abbrev pub ReadFails : {N : Type 0} (nor : NorOf N) (from : Reader N nor) (id at count : ℕ) (why : CopyErr) → Type 0
ReadFails nor from id at count why = (source : List File) (f : File) → TellsFiles nor from source → file_of id source ≡ Some f → at + count ≤ length f.bytes → why ≡ FromFault

module _ {N M : Type 0} {nor_from : NorOf N} {nor : NorOf M} (stat : Stat) (at fd : ℕ) (from : Reader N nor_from) (old : Volume M nor) where
  -- the page's bytes can't be read
  pub unread_stops : (count : ℕ) → IsPage old.geometry stat at count → (why : CopyErr) → ReadFails nor_from from stat.id at count why → StopsFrom (With nor_from from (Works fd 52 (IsFilling stat at))) old old why
  unread_stops count page why fails = λ t has known.
      let is = has.1.known known in
      let size : stat.size ≡ length is.is.next.f.bytes = ap (λ (s : Stat). s.size) is.is.next.stat_is in
      subst (StopsAs t old) (sym (fails t.source is.is.next.f (has.0 known) (filled_here stat at t _ has.1.files is) (omega (arith, page.within, size)))) tt

  module _ (bytes : List ℕ) (page : IsPage old.geometry stat at (length bytes)) (read : ReadHere nor_from from stat.id at bytes) (new : Volume M nor) (result : Result Bool CopyErr) (went : Went wrote_as (Writes fd bytes) old new result) where
    bytes_read : (t : Task) → With nor_from from (Works fd 52 (IsFilling stat at)) t old → WithBytes stat at fd bytes old new result went page t old
    bytes_read t has = record { works = has.1; bytes_are = λ known f here. read t.source f (has.0 known) here }

    pub page_cuts : CutsUnder (With nor_from from (Works fd 52 (IsFilling stat at))) old new
    page_cuts = cuts_of (With nor_from from (Works fd 52 (IsFilling stat at))) (WithBytes stat at fd bytes old new result went page) old new bytes_read (write_cuts stat at fd bytes old new result went page)

    pub page_leads : result ≡ Ok true → Leads (With nor_from from (Works fd 52 (IsFilling stat at))) (Works fd 52 (IsFilling stat (at + length bytes))) old new
    page_leads ok = λ t has. write_leads stat at fd bytes old new result went page ok t (bytes_read t has)

    pub page_short : result ≡ Ok false → Leads (With nor_from from (Works fd 52 (IsFilling stat at))) (PageWent fd stat at (length bytes) false) old new
    page_short ok = λ t has.
        let lacks : LacksRoom (index_pages old.geometry (at + length bytes) - index_pages old.geometry at) 1 t new = write_short stat at fd bytes old new result went page ok t (bytes_read t has) in
        subst (λ (g : Geometry). LacksRoom (index_pages g (at + length bytes) - index_pages g at) 1 t new) (sym went.1.same.geometry) lacks

    pub page_stops : IfErr result (StopsFrom (With nor_from from (Works fd 52 (IsFilling stat at))) old new)
    page_stops = go result refl
      where
        go : (r : Result Bool CopyErr) → result ≡ r → IfErr r (StopsFrom (With nor_from from (Works fd 52 (IsFilling stat at))) old new)
        go (Ok fits) is = tt {0}
        go (Err why) is = faults_stop (With nor_from from (Works fd 52 (IsFilling stat at))) old new why (λ t has. write_stops stat at fd bytes old new result went page why is t (bytes_read t has))

    -- by the length that the page had before it was read
    pub page_wrote : (count : ℕ) → length bytes ≡ count → IfOk result (λ fits. Leads (With nor_from from (Works fd 52 (IsFilling stat at))) (PageWent fd stat at count fits) old new)
    page_wrote count same = subst (λ (n : ℕ). IfOk result (λ fits. Leads (With nor_from from (Works fd 52 (IsFilling stat at))) (PageWent fd stat at n fits) old new)) same (go result refl)
      where
        go : (r : Result Bool CopyErr) → result ≡ r → IfOk r (λ fits. Leads (With nor_from from (Works fd 52 (IsFilling stat at))) (PageWent fd stat at (length bytes) fits) old new)
        go (Ok true) is = page_leads is
        go (Ok false) is = page_short is
        go (Err why) is = tt {0}

-- ---- page after page

-- a page's bytes, from the start of a data page on
pub page_here : (g : Geometry) (stat : Stat) (at count len : ℕ) → at < stat.size → (at % body g ≡ 0) ⊎ (at ≡ stat.size) → 0 < count → count ≡ min (stat.size - at) (body g) → len ≡ count → IsPage g stat at len
page_here g stat at count len more ends some least long = record {
  some = omega (arith, some, long);
  page = ⊎_elim (λ (page : at % body g ≡ 0). page) (λ (end : at ≡ stat.size). absurd (omega (arith, more, end))) ends;
  most = omega (arith, least, long);
  within = omega (arith, least, long, more);
  whole = ⊎_elim (λ (high : stat.size - at < body g). inr (omega (arith, high, least, long, more))) (λ (low : body g ≤ stat.size - at). inl (omega (arith, low, least, long))) (cases_lt (stat.size - at) (body g));
}

-- where it ends
pub page_after : (g : Geometry) (size at count : ℕ) → at < size → (at % body g ≡ 0) ⊎ (at ≡ size) → 0 < body g → count ≡ min (size - at) (body g) → ((at + count) % body g ≡ 0) ⊎ (at + count ≡ size)
page_after g size at count more ends pos least = ⊎_elim
    (λ (high : size - at < body g). inr (omega (arith, high, least, more)))
    (λ (low : body g ≤ size - at). inl (ap (λ (n : ℕ). (at + n) % body g) (let all : count ≡ body g = omega (arith, low, least) in all) ∙ next_page at (body g) pos (⊎_elim (λ (page : at % body g ≡ 0). page) (λ (end : at ≡ size). absurd (omega (arith, more, end))) ends)))
    (cases_lt (size - at) (body g))
  where
    next_page : (a n : ℕ) → 0 < n → a % n ≡ 0 → (a + n) % n ≡ 0
    next_page a n some from =
        let whole : n * (a / n) + a % n ≡ a = div-add-mod a n in
        let here : (a / n + 1) * n + 0 ≡ a + n = omega (arith, whole, from) in
        ap (λ (m : ℕ). m % n) (sym here) ∙ mod-mul-add (a / n + 1) n 0 some

pub some_body : (g : Geometry) → 0 < body g
some_body g = let geo = sizes g in omega (arith, geo.page)

module _ {M : Type 0} {nor : NorOf M} (stat : Stat) (fd at : ℕ) (v : Volume M nor) where
  filled_under : (t : Task) (has : Works fd 52 (IsFilling stat at) t v) → t.known ≡ true → IsUnder t.alike t.source t.first (table_of t.g (nor.bytes v.nor.now))
  unfolding settled_at
  filled_under t has known = subst (IsUnder t.alike t.source t.first) (sym has.at.stands.stands.image.table)
      (filling_under stat t (record { id = has.id; flags = 52; offset = has.offset }) has.files has.some at (has.known known) (rest_table has.at))

  -- nothing is written
  pub filled_none : CutsUnder (Works fd 52 (IsFilling stat at)) v v
  filled_none = cuts_none (Works fd 52 (IsFilling stat at)) v (λ t has. works_some t v has) filled_under

-- nor beside a source
pub filled_none_with : {N M : Type 0} {nor_from : NorOf N} {nor : NorOf M} (stat : Stat) (at fd : ℕ) (from : Reader N nor_from) (v : Volume M nor) → CutsUnder (With nor_from from (Works fd 52 (IsFilling stat at))) v v
filled_none_with {nor_from = nor_from} stat at fd from v = cuts_of (With nor_from from (Works fd 52 (IsFilling stat at))) (Works fd 52 (IsFilling stat at)) v v (λ t has. has.1) (filled_none stat fd at v)

module _ {N M : Type 0} {nor_from : NorOf N} {nor : NorOf M} (stat : Stat) (fd : ℕ) (from : Reader N nor_from) where
  -- the target with all up to a place
  abbrev pub FilledTo : ℕ → Reader N nor_from → Task → Volume M nor → Type 0
  FilledTo at r t v = With nor_from r (Works fd 52 (IsFilling stat at)) t v

  pub begun_cuts : (v : Volume M nor) → CutsUnder (FilledTo 0 from) v v
  begun_cuts v = filled_none_with stat 0 fd from v

  pub begun_leads : (v : Volume M nor) → Leads (FilledTo 0 from) (Works fd 52 (IsFilling stat 0)) v v
  begun_leads v = λ t has. has.1

  module _ (at : ℕ) (from_mid : Reader N nor_from) (reads : OnlyReads nor_from from.nor.now from_mid.nor.now) (same : IsSameReader from from_mid) (old mid : Volume M nor) (cuts : CutsUnder (FilledTo 0 from) old mid) (leads : Leads (FilledTo 0 from) (Works fd 52 (IsFilling stat at)) old mid) (new : Volume M nor) where
    so_far : Leads (FilledTo 0 from) (FilledTo at from_mid) old mid
    so_far = with_then (Works fd 52 (IsFilling stat 0)) (Works fd 52 (IsFilling stat at)) from from_mid old mid reads same leads

    pub more_cuts : CutsUnder (FilledTo at from_mid) mid new → CutsUnder (FilledTo 0 from) old new
    more_cuts next = cuts_with (Works fd 52 (IsFilling stat 0)) (Works fd 52 (IsFilling stat at)) from from_mid old mid new reads same (λ t has. works_some t mid has) cuts leads next

    pub more_stops : (why : CopyErr) → StopsFrom (FilledTo at from_mid) mid new why → StopsFrom (FilledTo 0 from) old new why
    more_stops why stops = stops_then (FilledTo 0 from) (FilledTo at from_mid) old mid new why so_far stops

    pub more_leads : (count len : ℕ) → len ≡ count → (fits : Bool) → fits ≡ true → Leads (FilledTo at from_mid) (PageWent fd stat at len fits) mid new → Leads (FilledTo 0 from) (Works fd 52 (IsFilling stat (at + count))) old new
    more_leads count len long fits is wrote = λ t has. subst (λ (n : ℕ). PageWent fd stat at n true t new) long (subst (λ (b : Bool). PageWent fd stat at len b t new) is (wrote t (so_far t has)))

    pub more_short : (len : ℕ) (fits : Bool) → fits ≡ false → at + len ≡ page_end new.geometry stat.size at → Leads (FilledTo at from_mid) (PageWent fd stat at len fits) mid new → Leads (FilledTo 0 from) (LacksPage stat.size at) old new
    more_short len fits is end wrote = λ t has.
        let lacks : PageWent fd stat at len false t new = subst (λ (b : Bool). PageWent fd stat at len b t new) is (wrote t (so_far t has)) in
        subst (λ (e : ℕ). LacksRoom (index_pages new.geometry e - index_pages new.geometry at) 1 t new) end lacks

  -- all are written
  pub all_filled : (old new : Volume M nor) (at : ℕ) → Leads (FilledTo 0 from) (Works fd 52 (IsFilling stat at)) old new → at ≡ stat.size → Leads (FilledTo 0 from) (Works fd 52 (IsFilling stat stat.size)) old new
  all_filled old new at leads same = λ t has. subst (λ (n : ℕ). Works fd 52 (IsFilling stat n) t new) same (leads t has)

-- ---- the next data page has no room

module _ {M : Type 0} {nor : NorOf M} (size at end more : ℕ) (old new : Volume M nor) (end_is : end ≡ page_end old.geometry size at) (more_is : more ≡ index_pages old.geometry end - index_pages old.geometry at) where
  as_more : more ≡ index_more old.geometry size at
  as_more = more_is ∙ ap (λ (e : ℕ). index_pages old.geometry e - index_pages old.geometry at) end_is

  pub short_cuts : CutsUnder (LacksRoom more 1) old new → CutsUnder (LacksPage size at) old new
  short_cuts cuts = cuts_of (LacksPage size at) (LacksRoom more 1) old new (λ t has. subst (λ (n : ℕ). LacksRoom n 1 t old) (sym as_more) has) cuts

  pub short_stops : (why : CopyErr) → StopsFrom (LacksRoom more 1) old new why → StopsFrom (LacksPage size at) old new why
  short_stops why stops = λ t has. stops t (subst (λ (n : ℕ). LacksRoom n 1 t old) (sym as_more) has)

-- ---- all of it

module _ {N M : Type 0} {nor_from : NorOf N} {nor : NorOf M} (stat : Stat) (fd : ℕ) (from : Reader N nor_from) (old mid : Volume M nor) (cuts : CutsUnder (With nor_from from (Works fd 52 (IsFilling stat 0))) old mid) (new : Volume M nor) where
  -- the next page has no room
  pub unfilled_cuts : (at : ℕ) → Leads (With nor_from from (Works fd 52 (IsFilling stat 0))) (LacksPage stat.size at) old mid → CutsUnder (LacksPage stat.size at) mid new → CutsUnder (With nor_from from (Works fd 52 (IsFilling stat 0))) old new
  unfilled_cuts at leads given = cuts_then (With nor_from from (Works fd 52 (IsFilling stat 0))) (LacksPage stat.size at) old mid new (λ t has. lacks_some t mid has) cuts leads given

  pub unfilled_stops : (at : ℕ) → Leads (With nor_from from (Works fd 52 (IsFilling stat 0))) (LacksPage stat.size at) old mid → (why : CopyErr) → StopsFrom (LacksPage stat.size at) mid new why → StopsFrom (With nor_from from (Works fd 52 (IsFilling stat 0))) old new why
  unfilled_stops at leads why given = stops_then (With nor_from from (Works fd 52 (IsFilling stat 0))) (LacksPage stat.size at) old mid new why leads given

  -- the descriptor is closed
  module _ (leads : Leads (With nor_from from (Works fd 52 (IsFilling stat 0))) (Works fd 52 (IsFilling stat stat.size)) old mid) (result : Result (Unit {0}) CopyErr) (went : Went done_as (Closes fd) mid new result) where
    pub closed_cuts : CutsUnder (With nor_from from (Works fd 52 (IsFilling stat 0))) old new
    closed_cuts = cuts_then (With nor_from from (Works fd 52 (IsFilling stat 0))) (Works fd 52 (IsFilling stat stat.size)) old mid new (λ t has. works_some t mid has) cuts leads (close_cuts stat fd mid new result went)

    pub closed_done : OnOk result (Leads (With nor_from from (Works fd 52 (IsFilling stat 0))) (Rests (IsWhole stat)) old new)
    closed_done = on_ok result (λ ok. λ t has. close_leads stat fd mid new result went ok t (leads t has))

    pub closed_stops : IfErr result (StopsFrom (With nor_from from (Works fd 52 (IsFilling stat 0))) old new)
    closed_stops = if_err result (λ why is. faults_stop (With nor_from from (Works fd 52 (IsFilling stat 0))) old new why (λ t has. close_stops stat fd mid new result went why is t (leads t has)))

-- ---- the working file is made first

module _ {N M : Type 0} {nor_from : NorOf N} {nor : NorOf M} (stat : Stat) (from : Reader N nor_from) (old mid : Volume M nor) (r : Result (Option ℕ) CopyErr) (went : Went opened_as (Opens working 52) old mid r) where
  pub unopened_cuts : CutsUnder (With nor_from from (Rests (IsMissing stat))) old mid
  unopened_cuts = cuts_of (With nor_from from (Rests (IsMissing stat))) (Rests (IsMissing stat)) old mid (λ t has. has.1) (open_cuts stat old mid r went)

  pub unopened_stops : (why : CopyErr) → r ≡ Err why → StopsFrom (With nor_from from (Rests (IsMissing stat))) old mid why
  unopened_stops why is = faults_stop (With nor_from from (Rests (IsMissing stat))) old mid why (λ t has. open_stops stat old mid r went why is t has.1)

  -- there is no room for it
  module _ (none : r ≡ Ok None) (new : Volume M nor) where
    lacks : Leads (With nor_from from (Rests (IsMissing stat))) (LacksRoom 1 0) old mid
    lacks = λ t has. open_short stat old mid r went none t has.1

    pub unmade_cuts : CutsUnder (LacksRoom 1 0) mid new → CutsUnder (With nor_from from (Rests (IsMissing stat))) old new
    unmade_cuts given = cuts_then (With nor_from from (Rests (IsMissing stat))) (LacksRoom 1 0) old mid new (λ t has. lacks_some t mid has) unopened_cuts lacks given

    pub unmade_stops : (why : CopyErr) → StopsFrom (LacksRoom 1 0) mid new why → StopsFrom (With nor_from from (Rests (IsMissing stat))) old new why
    unmade_stops why given = stops_then (With nor_from from (Rests (IsMissing stat))) (LacksRoom 1 0) old mid new why lacks given

  -- it is filled
  module _ (fd : ℕ) (some : r ≡ Ok (Some fd)) (new : Volume M nor) where
    opens : Leads (With nor_from from (Rests (IsMissing stat))) (With nor_from from (Works fd 52 (IsFilling stat 0))) old mid
    opens = λ t has. (has.0, open_leads stat old mid r went fd some t has.1)

    pub opened_cuts : CutsUnder (With nor_from from (Works fd 52 (IsFilling stat 0))) mid new → CutsUnder (With nor_from from (Rests (IsMissing stat))) old new
    opened_cuts filled = cuts_then (With nor_from from (Rests (IsMissing stat))) (With nor_from from (Works fd 52 (IsFilling stat 0))) old mid new (λ t has. works_some t mid has.1) unopened_cuts opens filled

    pub opened_done : (result : Result (Unit {0}) CopyErr) → OnOk result (Leads (With nor_from from (Works fd 52 (IsFilling stat 0))) (Rests (IsWhole stat)) mid new) → OnOk result (Leads (With nor_from from (Rests (IsMissing stat))) (Rests (IsWhole stat)) old new)
    opened_done (Ok x) filled = λ t has. filled t (opens t has)
    opened_done (Err why) filled = tt {0}

    pub opened_stops : (result : Result (Unit {0}) CopyErr) → IfErr result (StopsFrom (With nor_from from (Works fd 52 (IsFilling stat 0))) mid new) → IfErr result (StopsFrom (With nor_from from (Rests (IsMissing stat))) old new)
    opened_stops (Ok x) filled = tt {0}
    opened_stops (Err why) filled = stops_then (With nor_from from (Rests (IsMissing stat))) (With nor_from from (Works fd 52 (IsFilling stat 0))) old mid new why opens filled
