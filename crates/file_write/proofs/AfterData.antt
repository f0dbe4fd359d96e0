-- The data page of an append is put beside those of its file.
use Rattle.std.proofs.Common.{◌≡◌, ℕ, ◌+◌, ◌/◌, ◌%◌, ◌<◌, ◌≤◌, ◌⊎◌, List, length, Bool, true, false, ◌==◌, ◌||◌, Some, ap, refl, sym, ◌∙◌, arith, subst, ⊎_elim, inl}
use Rattle.std.specs.Prelude.{is_some, slice_range}
use Rattle.std.proofs.lemmas.Bool.{eqb-true, eq-eqb}
use Rattle.geometry.specs.declared.geometry.Geometry.{Geometry}
use Rattle.geometry.specs.Numbers.{body, head_slots}
use Rattle.table_model.specs.Table.{File, put_file}
use Rattle.table_model.specs.Files.{written}
use Rattle.table_model.specs.Room.{data_pages}
use Rattle.image_model.specs.Headers.{span_of, size_of}
use Rattle.image_model.specs.Live.{live_at, own}
use Rattle.image_model.specs.Files.{data_of, data_page, entry_number}
use Rattle.image_model.specs.Collect.{are_had}
use Rattle.image_model.specs.Tables.{table_of}
use Rattle.image_model.specs.Tidy.{serves, HasReserve}
use Rattle.image_laws.specs.Reindex.{slot_word}
use Rattle.image_laws.proofs.Append.{own-some}
use Rattle.trim_laws.specs.Wear.{SameWear}
use Rattle.trim_laws.proofs.Wears.{programs_keep}
use Rattle.flash_view.specs.declared.kinds.Kind.TheVariants.{Data}
use Rattle.flash_view.specs.Steps.{Begins, Finishes}
use Rattle.free_search.specs.Had.{IsClear}
use Rattle.free_search.proofs.HadBy.{less_had, put_had}
use Rattle.renew_laws.specs.Primed.{Primed}
use Rattle.renew_laws.proofs.PrimeBeside.{prime-data}
use Rattle.renew_laws.specs.Tails.{HasFreeEntries}
use Rattle.renew_laws.proofs.ReserveKept.{put-reserve}
use Rattle.renew_laws.proofs.TailSteps.{tail-beside}
use Rattle.renew_laws.proofs.Serves.{serves_data}
use Rattle.renew_laws.proofs.Spans.{span-is_named}
use Rattle.page_renew.specs.declared.edits.Edit.TheVariants.{GrowBy}
use Rattle.page_renew.specs.Edits.{IsEdited}
use Rattle.page_renew.specs.Renewals.{renewing_from}
use Rattle.page_renew.specs.PageSteps.{StepCut}
use Rattle.page_renew.proofs.EditsLead.{names-next}
use Rattle.page_renew.proofs.Homes.{of_data}
use Rattle.file_write.specs.Appends.{CanAppendAt, appending_at}
use Rattle.file_write.specs.Beside.{HasPage, AddsPage, AddedPage, adding, is_data}
use Rattle.file_write.proofs.AppendEnds.{primed_clear, IsReady, kept, stays, ends}
use Rattle.file_write.proofs.LastPage.{one_each, clear, page_fits}
use Rattle.file_write.proofs.Sizes.{whole_pages, next_page}

module _ (g : Geometry) (a : List ℕ) (id h size span : ℕ) (bytes : List ℕ) (f : File) (can : CanAppendAt g a id h size bytes f) where
  has_data : HasPage g Data a
  has_data = record { clear = clear g a id h size bytes f can; had = less_had g a 1 1 0 1 (omega arith) (omega arith) (one_each g a id h size bytes f can) }

  data_cut : (c : List ℕ) → (c ≡ a) ⊎ AddsPage g Data (is_data id span bytes g) a c → StepCut g (put_file (written (length f.bytes) bytes f) (table_of g a)) a c
  data_cut c left = ⊎_elim
      (λ (same : c ≡ a). subst (λ (x : List ℕ). StepCut g (put_file (written (length f.bytes) bytes f) (table_of g a)) a x) (sym same) (stays g a id h size bytes f can))
      (λ (w : AddsPage g Data (is_data id span bytes g) a c). kept g a id h size bytes f can c
      ((prime-data g a a id h w.p can.head w.page f (λ r. false) can.prime (of_data g a w.p w.page w.found.kind_is w.is.kind) w.is.kind w.is.of).0 c w.leaves)
      (put-reserve g a c w.p w.found.keeps w.leaves.agree) (programs_keep g a c w.p w.leaves.agree))
      left

  pub data_begins : Begins g a (adding Data (is_data id span bytes)) (appending_at id h size bytes f)
  data_begins = record { needs = has_data; cut = data_cut }

  module _ (b : List ℕ) (p : ℕ) (w : AddedPage g Data (is_data id span bytes g) a b p) where
    abbrev pub one : ℕ → Bool
    one r = false || (r == p)

    pub primed : Primed g id h can.head f one a b
    primed = (prime-data g a a id h p can.head w.page f (λ r. false) can.prime (of_data g a p w.page w.found.kind_is w.is.kind) w.is.kind w.is.of).1 b w.put

    pub its_page : own (live_at g b) id p ≡ Some w.page
    its_page = own-some (live_at g b) id p w.page w.put.gains.after w.is.of

    pub still_clear : IsClear g b
    still_clear = primed_clear g a b id h can.head f one primed

    pub still_had : (n : ℕ) → are_had g a n 1 ≡ true → are_had g b n 0 ≡ true
    still_had n had = (put_had g a b p w.page n 0 (clear g a id h size bytes f can) still_clear w.put).1 w.found w.is.kind had

    -- the entries behind the last span are free still
    pub still_free : HasFreeEntries g (own (live_at g b) id) (data_pages g (size_of can.head))
    still_free =
        let kept = tail-beside g a b p id h w.page can.head f
        (record { kind = of_data g a p w.page w.found.kind_is w.is.kind; data_kind = w.is.kind; of = w.is.of; at = can.prime.at; header = can.prime.header; file = can.prime.file }) w.put in
        (kept id can.can.ready h can.head primed.at primed.header).entries

    pub reserve : HasReserve g a → HasReserve g b
    reserve = put-reserve g a b p w.found.keeps w.put.agree

    pub wear : SameWear g a b
    wear = programs_keep g a b p w.put.agree
