-- A file is cut to its first bytes.
use Rattle.std.proofs.Common.{◌≡◌, ℕ, ◌<◌, ◌≤◌, List, [], length, Bool, Some, true, false, refl, ap, sym, arith, ⊎_elim, inr, ◌∙◌}
use Rattle.std.specs.Prelude.{nat_le, nat_lt}
use Rattle.std.proofs.lemmas.Bool.{cases_eq, lt-leb}
use Rattle.std.proofs.lemmas.Option.{same_Some}
use Rattle.geometry.specs.declared.geometry.Geometry.{Geometry}
use Rattle.geometry.specs.Numbers.{head_slots, page_count}
use Rattle.table_model.specs.Room.{index_pages, data_pages}
use Rattle.table_model.specs.Table.{File}
use Rattle.image_model.specs.Headers.{size_of}
use Rattle.image_model.specs.Live.{live_at, own}
use Rattle.image_model.specs.Places.{IsImage}
use Rattle.image_laws.proofs.Append.{own-live, own-some}
use Rattle.image_laws.proofs.Finish.{own-parts}
use Rattle.image_laws.proofs.Sounding.{sound-on}
use Rattle.image_laws.proofs.Unshared.{counted-le}
use Rattle.header_laws.proofs.Telling.{files-have_heads}
use Rattle.renew_laws.specs.Primed.{Primed}
use Rattle.renew_laws.proofs.PrimeBeside.{prime-starts}
use Rattle.trim_laws.proofs.Wears.{wear_then}
use Rattle.flash_view.specs.Steps.{Begins, Finishes}
use Rattle.page_renew.specs.declared.edits.Edit.TheVariants.{Cut}
use Rattle.page_renew.specs.EditLaws.{past_of}
use Rattle.page_renew.specs.Renewals.{CanEdit, EditDone, renewing}
use Rattle.page_renew.proofs.EditsLead.{edit-says}
use Rattle.page_renew.proofs.CutLeft.{cut-leaves}
use Rattle.file_drop.specs.declared.pages.Kept.{Kept}
use Rattle.file_drop.specs.Drops.{dropping_all}
use Rattle.file_drop.specs.Programs.{past_in, pages_past}
use Rattle.file_drop.proofs.Killing.{own_none}
use Rattle.file_drop.specs.Truncates.{shortened, CanTruncate, truncating}

-- some file, of which nothing is told
abbrev pub no_file : File
no_file = record { id = 0; name = []; kind = 0; meta = []; bytes = [] }

module _ (g : Geometry) (a : List ℕ) (id size : ℕ) (f : File) (is : IsImage g a) (can : CanTruncate g a id size f) where
  -- a file has an index page at least
  one_index : (n : ℕ) → 0 < index_pages g n
  one_index n = either (nat_lt (head_slots g) (data_pages g n)) refl
    where
      either : (b : Bool) → nat_lt (head_slots g) (data_pages g n) ≡ b → 0 < index_pages g n
      either true e = rw e (omega arith)
      either false e = rw e (omega arith)

  start : (h : ℕ) × (head : List ℕ) × Primed g id h head f (λ r. false) a a
  start = prime-starts g a id f is can.tidy can.there

  prime : Primed g id start.0 start.1 f (λ r. false) a a
  prime = start.2

  -- its header page tells its size
  size_is : length f.bytes ≡ size_of start.1
  size_is =
      let w = files-have_heads g a is can.tidy id f can.there in
      let place : w.p ≡ start.0 = same_Some w.p start.0 (sym w.at ∙ prime.at) in
      let live : live_at g a start.0 ≡ Some start.1 = (own-parts (live_at g a) id start.0 start.1 prime.header).0 in
      w.tells.size ∙ ap size_of (same_Some w.page start.1 (sym w.live ∙ ap (live_at g a) place ∙ live))

  less : size ≤ size_of start.1
  less = omega (arith, can.less, size_is)

  can_edit : CanEdit g a id (Cut size) (shortened size f)
  can_edit = record { tidy = can.tidy; had = can.had; o = start.0; at = prime.at; head = start.1; says = edit-says g a a id start.0 start.1 f (λ (r : ℕ). false) (Cut size) prime less }

  -- the new header page
  pub renews_first : Begins g a (renewing id (Cut size) (shortened size f)) (truncating id size f)
  renews_first = record { needs = can_edit; cut = λ c cut. cut }

  -- no page past the new counts has come
  abbrev past : List ℕ → ℕ → Bool
  past c q = past_of (index_pages g size) (data_pages g size) (own (live_at g c) id q)

  past_before : (b : List ℕ) → EditDone g id (Cut size) (shortened size f) a b → (q : ℕ) → past b q ≡ true → past a q ≡ true
  past_before b done q was =
      let head_is = done.renews.leads.is_head in
      ⊎_elim
      (λ (here : q ≡ done.o).
      let gone : past b done.o ≡ false = ap (past_of (index_pages g size) (data_pages g size)) (own_none (live_at g b) id done.o done.replaced.kill.loses.after) in
      let bad : true ≡ false = sym was ∙ ap (past b) here ∙ gone in absurd (cc))
      (λ (there : q ≡ done.o → ⊥). ⊎_elim
      (λ (here : q ≡ done.to).
      let live : live_at g b done.to ≡ Some done.y = done.replaced.kill.loses.others done.to (λ e. there (here ∙ e)) ∙ done.replaced.put.gains.after in
      let new : own (live_at g b) id done.to ≡ Some done.y = own-some (live_at g b) id done.to done.y live head_is.of in
      let low : nat_le (index_pages g size) 0 ≡ false = lt-leb (index_pages g size) 0 (one_index size) in
      let kept : past b done.to ≡ false = rw new (rw (head_is.index, head_is.first) low) in
      let bad : true ≡ false = sym was ∙ ap (past b) here ∙ kept in absurd (cc))
      (λ (apart : q ≡ done.to → ⊥).
      sym (ap (past_of (index_pages g size) (data_pages g size)) (own-live (live_at g a) (live_at g b) id q (done.replaced.kill.loses.others q there ∙ done.replaced.put.gains.others q apart))) ∙ was)
      (cases_eq q done.to))
      (cases_eq q done.o)

  pub none_more : (b : List ℕ) → EditDone g id (Cut size) (shortened size f) a b → pages_past g b id size ≤ pages_past g a id size
  unfolding past_in
  none_more b done = counted-le (past b) (past a) 0 (page_count g) (λ q low high yes. past_before b done q yes)

  -- the kills
  pub then_drops : (kept : Kept) → kept.index_pages ≡ index_pages g size → kept.data_pages ≡ data_pages g size → (b : List ℕ) → EditDone g id (Cut size) (shortened size f) a b → Finishes g a b (dropping_all id kept) (truncating id size f)
  then_drops kept index pages b done = record {
    needs = rw (index, pages) (cut-leaves g a b id start.0 start.1 f (shortened size f) size prime less done);
    cut = λ c k. record {
      sound = sound-on g a b c done.sound k.all.keeps.sound;
      table = inr (k.all.keeps.table ∙ done.table);
      reserve = λ two. let now = done.reserve two in omega (arith, now, k.all.free);
      wear = wear_then g a b c done.wear k.wear;
    };
    done = λ c ok k. record { tidy = k.tidy; table = k.keeps.all.keeps.table ∙ done.table; reserve = λ two. let now = done.reserve two in omega (arith, now, k.keeps.all.free) };
  }
