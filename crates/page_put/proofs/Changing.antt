-- Programs in a page and in its entry, and the table of counts over them.
use Rattle.std.proofs.Common.{◌≡◌, ◌≢◌, ℕ, ◌+◌, ◌*◌, ◌<◌, ◌≤◌, ◌⊎◌, List, [], ◌∷◌, length, ◌-◌, drop, slice_index, ◌/◌, ◌%◌, true, sym, ◌∙◌, ap, arith, inl, inr, subst, add-zero, slice_range}
use Rattle.std.specs.Prelude.{Option, Some, None, IfSome, is_some, bit_and, Result, OnOk}
use Rattle.std.proofs.lemmas.Nat.{and_le_r}
use Rattle.std.proofs.lemmas.List.{length-take}
use Rattle.geometry.specs.declared.geometry.Geometry.{Geometry}
use Rattle.geometry.specs.Numbers.{rows_need}
use Rattle.nor_core.specs.declared.state.NorState.{Ghosts as NorOf}
use Rattle.nor_core.specs.Flash.{SameOutside, HalfProgrammed}
use Rattle.nor_core.specs.Device.{Changes}
use Rattle.table_model.specs.declared.error.Tag.{Tag}
use Rattle.image_model.specs.Places.{is_entry_page, block_of, entry_at, entry_of, slot_of}
use Rattle.image_model.specs.Within.{sizes}
use Rattle.image_laws.specs.Flash.{Programmed}
use Rattle.image_laws.proofs.Frames.{entry-same_page}
use Rattle.image_laws.proofs.Placing.{wider}
use Rattle.image_laws.proofs.TidySteps.{agree_page, agree_entry, agree-on}
use Rattle.image_laws.proofs.EraseCounts.{erases_stay}
use Rattle.flash_view.specs.declared.view.View.{View}
use Rattle.flash_view.specs.declared.counts.Sort.{Sort}
use Rattle.flash_view.specs.declared.kinds.Kind.{Kind}
use Rattle.flash_view.specs.declared.kinds.Kind.TheVariants.{Index, Data}
use Rattle.flash_view.specs.Same.{IsSameView, OnlyLooks}
use Rattle.flash_view.specs.Places.{IsEntryPage}
use Rattle.flash_view.proofs.Heads.{entry_page_told}
use Rattle.flash_view.specs.Counts.{sort_at, one_more, one_less, total_of}
use Rattle.flash_view.specs.Table.{row_of, HasTable, IsSummed}
use Rattle.page_put.specs.Placing.{placed_id, placed_page, with_page}
use Rattle.page_put.specs.Recount.{OneChanges, IsUsedAs, WasCounted, StandsAgain, IsUsedPage}
use Rattle.page_put.proofs.Finishing.{programs_place}
use Rattle.page_put.proofs.Recounted.{table_moves, fewer_beside}

module _ (g : Geometry) (p : ℕ) (page : is_entry_page g p ≡ true) where
  -- a program in the page
  pub page_changes : (at n : ℕ) (a b : List ℕ) → p * g.page ≤ at → at + n ≤ p * g.page + g.page → SameOutside at n a b → OneChanges g p a b
  page_changes at n a b low high same =
      let wide = wider at n (p * g.page) g.page a b low high same in
      record { agree = agree_page g a b p (sizes g) page wide; erases = λ block inside. erases_stay g a b p block page inside (inl wide) }

  -- one of its entry
  pub entry_changes : (a b : List ℕ) → SameOutside (entry_at g p) 2 a b → OneChanges g p a b
  entry_changes a b same = record { agree = agree_entry g a b p (sizes g) page same; erases = λ block inside. erases_stay g a b p block page inside (inr same) }

-- one after the other
pub changes_then : (g : Geometry) (p : ℕ) (a b c : List ℕ) → OneChanges g p a b → OneChanges g p b c → OneChanges g p a c
changes_then g p a b c first second = record { agree = agree-on g a b c p first.agree second.agree; erases = λ block inside. second.erases block inside ∙ first.erases block inside }

-- the programs of a page that is placed: its entry and its header, and the rest behind them
pub header_changes : (g h : Geometry) → h ≡ g → (p : ℕ) → is_entry_page g p ≡ true → (n : ℕ) (a b c : List ℕ) → SameOutside (entry_at g p) 2 a b → SameOutside (p * h.page + 0) n b c → n ≡ 5 → OneChanges g p a c
header_changes g h is p page n a b c first next size =
    changes_then g p a b c (entry_changes g p page a b first)
    (page_changes g p page (p * g.page + 0) n b c (omega arith) (omega (arith, size, g.valid.page_least)) (rw is at next))

pub rest_changes : (g h : Geometry) → h ≡ g → (p : ℕ) → is_entry_page g p ≡ true → (work b c : List ℕ) → SameOutside (p * h.page + 5) (length (slice_range work 5 h.page)) b c → OneChanges g p b c
rest_changes g h is p page work b c rest =
    page_changes g p page (p * g.page + 5) (length (slice_range work 5 g.page)) b c (omega arith) (omega (arith, length-take (g.page - 5) (drop 5 work), g.valid.page_least)) (rw is at rest)

-- what holds beside any sort
pub if_some : {P Q : Type 0} (o : Option Sort) → (P → Q) → IfSome o (λ s. P) → IfSome o (λ s. Q)
if_some None f h = tt
if_some (Some s) f h = f h

module _ {N : Type 0} {nor : NorOf N} {old mid new : View N nor} where
  -- the rows were right before programs, where the table stood
  pub was_counted : (p : ℕ) (before : Option Sort) → OnlyLooks old mid → IsSameView mid new → new.rows.now ≡ mid.rows.now → IfSome before (λ s. old.counted ≡ true) →
      (nor.tells old.nor.now → IfSome before (λ s. s ≡ sort_at old.geometry (nor.bytes old.nor.now) p)) → (nor.tells new.nor.now → nor.tells mid.nor.now) →
      (nor.tells mid.nor.now → IfSome before (λ s. OneChanges mid.geometry p (nor.bytes mid.nor.now) (nor.bytes new.nor.now))) →
      nor.tells new.nor.now → IfSome before (λ s. WasCounted new.geometry p s new.rows.now (nor.bytes new.nor.now))
  was_counted p None looks same rows stood told back one tells = tt
  was_counted p (Some s) looks same rows stood told back one tells =
      let before = looks.reads.told_before (back tells) in
      let geometry : new.geometry ≡ old.geometry = same.geometry ∙ looks.same.geometry in
      let table = (old.table stood).told before in
      rw (geometry, rows ∙ looks.rows) (record {
        was = nor.bytes old.nor.now;
        table = table;
        sort = told before;
        only = rw (looks.same.geometry, looks.reads.bytes) at (one (back tells));
      })

  -- so they were before a program in the page
  pub field_counted : (p at : ℕ) (from : List ℕ) (before : Option Sort) → OnlyLooks old mid → IsSameView mid new → new.rows.now ≡ mid.rows.now → IfSome before (λ s. old.counted ≡ true) →
      (nor.tells old.nor.now → IfSome before (λ s. s ≡ sort_at old.geometry (nor.bytes old.nor.now) p)) → Changes nor mid.nor.now new.nor.now (HalfProgrammed (p * mid.geometry.page + at) from) →
      IfSome before (λ s. IsEntryPage old.geometry p) → at + length from ≤ mid.geometry.page → nor.tells new.nor.now → IfSome before (λ s. WasCounted new.geometry p s new.rows.now (nor.bytes new.nor.now))
  field_counted p at from before looks same rows stood told changes entry fits =
      was_counted p before looks same rows stood told changes.cuts.told_before (λ tells.
      if_some before (λ (e : IsEntryPage old.geometry p). page_changes mid.geometry p (entry_page_told mid.geometry p (subst (λ (k : Geometry). IsEntryPage k p) (sym looks.same.geometry) e)) (p * mid.geometry.page + at) (length from)
      (nor.bytes mid.nor.now) (nor.bytes new.nor.now) (omega arith) (omega (arith, fits)) (changes.now tells).outside) entry)

  -- there is room for the rows, where the table stood
  pub was_room : (before : Option Sort) → OnlyLooks old mid → IsSameView mid new → new.rows.now ≡ mid.rows.now → IfSome before (λ s. old.counted ≡ true) → IfSome before (λ s. rows_need new.geometry ≤ length new.rows.now)
  was_room None looks same rows stood = tt
  was_room (Some s) looks same rows stood = rw (same.geometry ∙ looks.same.geometry, rows ∙ looks.rows) ((old.table stood).room)

-- ---- the table once a page's entry was looked at after the programs

-- what is known where a sort was counted before
pub record Looked {N : Type 0} {nor : NorOf N} (old mid : View N nor) (p : ℕ) (before after : Sort) : Type 0 where
  pub entry : IsEntryPage old.geometry p
  pub room : rows_need old.geometry ≤ length old.rows.now
  pub was : nor.tells old.nor.now → WasCounted old.geometry p before old.rows.now (nor.bytes old.nor.now)
  pub looks : OnlyLooks old mid
  pub told : nor.tells old.nor.now → IsUsedAs old.geometry (nor.bytes old.nor.now) p after

pub table_put : {N : Type 0} {nor : NorOf N} {old mid : View N nor} (p block : ℕ) (before after : Sort) (geometry : Geometry) (device : N) (rows : List ℕ) → Looked old mid p before after → block ≡ block_of old.geometry p →
    geometry ≡ mid.geometry → device ≡ mid.nor.now → length rows ≡ length mid.rows.now →
    row_of rows block ≡ one_more (one_less (row_of mid.rows.now block) before) after → ((c : ℕ) → c ≢ block → row_of rows c ≡ row_of mid.rows.now c) → (IsSummed mid.geometry mid.rows.now → IsSummed mid.geometry rows) → HasTable nor geometry device rows
table_put {nor = nor} {old = old} {mid = mid} p block before after geometry device rows l here kept is size own others summed =
    rw (kept, l.looks.same.geometry, is) (record {
      room = let s : length mid.rows.now ≡ length old.rows.now = ap length l.looks.rows in omega (arith, l.room, s, size);
      told = λ tells.
          let back = l.looks.reads.told_before tells in
          let used = l.told back in
          rw l.looks.reads.bytes (table_moves old.geometry p (entry_page_told old.geometry p l.entry) before after old.rows.now (nor.bytes old.nor.now) (l.was back) used.sort_is used.word used.used rows
          (rw (here, l.looks.rows) at own) (rw (here, l.looks.rows) at others) (rw (l.looks.same.geometry, l.looks.rows) at summed));
    })

-- the counts of a block leave room for one entry more, where one was taken off
pub table_full : {N : Type 0} {nor : NorOf N} {old mid : View N nor} (p block : ℕ) (before after : Sort) → Looked old mid p before after → block ≡ block_of old.geometry p → nor.tells old.nor.now → 65535 ≤ total_of (one_less (row_of mid.rows.now block) before) → ⊥
table_full {nor = nor} {old = old} {mid = mid} p block before after l here tells full =
    let few = fewer_beside old.geometry p (entry_page_told old.geometry p l.entry) before old.rows.now (nor.bytes old.nor.now) (l.was tells) in
    let most = rw (here, l.looks.rows) at full in
    absurd (omega (arith, few, most))

-- ---- entries that are used

module _ (g : Geometry) (p : ℕ) where
  -- a program in the page leaves its entry
  pub entry_stays : is_entry_page g p ≡ true → (at n : ℕ) (a b : List ℕ) → p * g.page ≤ at → at + n ≤ p * g.page + g.page → SameOutside at n a b → entry_of g b p ≡ entry_of g a p
  entry_stays page at n a b low high same = entry-same_page g (sizes g) a b p page (wider at n (p * g.page) g.page a b low high same) p

  -- an entry that is programmed isn't above what is asked of it
  entry_most : (low high : ℕ) (a b : List ℕ) → Programmed (entry_at g p) (low ∷ high ∷ []) a b → entry_of g b p ≤ low + 256 * high
  unfolding entry_of slot_of
  entry_most low high a b h =
      let lo : slice_index b (entry_at g p + 0) ≡ bit_and (slice_index a (entry_at g p + 0)) low = h.bytes 0 (omega arith) in
      let hi : slice_index b (entry_at g p + 1) ≡ bit_and (slice_index a (entry_at g p + 1)) high = h.bytes 1 (omega arith) in
      let first : slice_index b (entry_at g p + 0) ≤ low = omega (arith, lo, and_le_r (slice_index a (entry_at g p + 0)) low) in
      let next : slice_index b (entry_at g p + 1) ≤ high = omega (arith, hi, and_le_r (slice_index a (entry_at g p + 1)) high) in
      let zero : slice_index b (entry_at g p) ≤ low = rw add-zero at first in
      omega (arith, zero, next)

  id_most : (kind : Kind) (id : ℕ) → id ≤ 0x7FFE → placed_id kind id ≤ 0xFFFE
  id_most Index id small = omega (arith, small)
  id_most Data id small = omega (arith, small)

  -- the entry of a page that was placed isn't free
  pub placed_used : is_entry_page g p ≡ true → (kind : Kind) (tag : Tag) (built image : List ℕ) → tag.id ≤ 0x7FFE → entry_of g (with_page g p (placed_page g kind tag built) image) p ≢ 0xFFFF
  placed_used page kind tag built image small free =
      let all = programs_place g p (placed_page g kind tag built) image in
      let most = entry_most (placed_id kind tag.id % 256) (placed_id kind tag.id / 256) _ _ all.one in
      let id = id_most kind tag.id small in
      let two = entry_stays page (p * g.page) 5 _ _ (omega arith) (omega (arith, g.valid.page_least)) all.two.outside in
      let three = entry_stays page (p * g.page + 5) (length (slice_range built 5 g.page)) _ _ (omega arith) (omega (arith, length-take (g.page - 5) (drop 5 built), g.valid.page_least)) all.three.outside in
      absurd (omega (arith, most, id, two, three, free))

-- ---- the table stands again

module _ {N T E : Type 0} {nor : NorOf N} {old mid new : View N nor} (p : ℕ) (before : Option Sort) (end : View N nor) (result : Result T E) (looks : OnlyLooks old mid) (same : IsSameView mid new)
    (some : old.counted ≡ true → IsEntryPage old.geometry p → is_some before ≡ true)
    (stands : nor.tells new.nor.now → is_some before ≡ true → entry_of new.geometry (nor.bytes new.nor.now) p ≢ 0xFFFF → OnOk result (end.counted ≡ true)) where
  -- where the entry is used after the programs
  pub stands_again : (nor.tells mid.nor.now → nor.tells new.nor.now) → IsEntryPage old.geometry p → (nor.tells mid.nor.now → entry_of mid.geometry (nor.bytes new.nor.now) p ≢ 0xFFFF) → StandsAgain old end result
  stands_again told entry used = λ tells stood.
      let still = looks.reads.told tells in
      stands (told still) (some stood entry) (rw same.geometry (used still))

  -- after a program in a used page
  pub field_stands : (at : ℕ) (from : List ℕ) → Changes nor mid.nor.now new.nor.now (HalfProgrammed (p * mid.geometry.page + at) from) → at + length from ≤ mid.geometry.page →
      IsUsedPage old.geometry (nor.bytes old.nor.now) p → StandsAgain old end result
  field_stands at from changes fits is =
      let used : entry_of mid.geometry (nor.bytes mid.nor.now) p ≢ 0xFFFF = rw (looks.same.geometry, looks.reads.bytes) is.used in
      let page = entry_page_told mid.geometry p (subst (λ (k : Geometry). IsEntryPage k p) (sym looks.same.geometry) is.entry) in
      stands_again changes.cuts.told is.entry
      (λ tells. subst (λ (k : ℕ). k ≢ 0xFFFF) (sym (entry_stays mid.geometry p page (p * mid.geometry.page + at) (length from) (nor.bytes mid.nor.now) (nor.bytes new.nor.now) (omega arith) (omega (arith, fits)) (changes.now tells).outside)) used)
