-- The end of an append: its header page is renewed.
use Rattle.std.proofs.Common.{◌≡◌, ℕ, ◌+◌, ◌*◌, ◌/◌, ◌%◌, ◌<◌, ◌≤◌, List, length, slice_index, Bool, true, false, ap, refl, sym, ◌∙◌, arith, subst, ⊎_elim, inl, inr}
use Rattle.std.proofs.Math.Nat.{div-add-mod, mul-mod_right}
use Rattle.std.proofs.lemmas.Nat.{div-mul-add}
use Rattle.std.proofs.lemmas.Bool.{cases_lt}
use Rattle.std.proofs.lemmas.Option.{same_Some}
use Rattle.geometry.specs.declared.geometry.Geometry.{Geometry}
use Rattle.geometry.specs.Numbers.{body}
use Rattle.table_model.specs.Table.{File, put_file}
use Rattle.table_model.specs.Files.{written}
use Rattle.table_model.specs.Room.{data_pages}
use Rattle.image_model.specs.Files.{data_page}
use Rattle.image_model.specs.Headers.{size_of}
use Rattle.image_model.specs.Live.{live_at, own}
use Rattle.image_model.specs.Collect.{are_had}
use Rattle.image_model.specs.Tables.{table_of}
use Rattle.image_model.specs.Tidy.{serves, HasReserve}
use Rattle.image_model.specs.Sound.{HasMagics, Keeps}
use Rattle.image_laws.proofs.Sounding.{sound-on, keeps-itself}
use Rattle.image_laws.proofs.SpareKill.{tidy-has_magics}
use Rattle.image_laws.proofs.Finish.{own-parts}
use Rattle.image_laws.proofs.Append.{page_there}
use Rattle.renew_laws.specs.Primed.{Primed}
use Rattle.renew_laws.specs.Tails.{HasFreeEntries, HasCleanBytes, HasCleanTail}
use Rattle.renew_laws.proofs.TailSteps.{tail-grown}
use Rattle.trim_laws.specs.Wear.{SameWear}
use Rattle.trim_laws.proofs.Wears.{wear_none, wear_then}
use Rattle.flash_view.specs.Steps.{Finishes}
use Rattle.free_search.specs.Had.{IsClear}
use Rattle.free_search.proofs.HadBy.{tidy_but_is_clear}
use Rattle.page_renew.specs.declared.edits.Edit.{Edit}
use Rattle.page_renew.specs.Edits.{IsEdited}
use Rattle.page_renew.specs.EditLaws.{Grows, GrowsIn}
use Rattle.page_renew.specs.PageSteps.{StepCut}
use Rattle.page_renew.specs.Renewals.{renewing_from}
use Rattle.page_renew.proofs.EditsLead.{grow-says, grow-tidies, grows-in_one, renewed_at}
use Rattle.file_write.specs.Appends.{CanAppendAt, appending_at}

-- an image in which a file stands with its old header page is clear
pub primed_clear : (g : Geometry) (a b : List ℕ) (id h : ℕ) (head : List ℕ) (f : File) (beside : ℕ → Bool) → Primed g id h head f beside a b → IsClear g b
primed_clear g a b id h head f beside prime = tidy_but_is_clear g b beside prime.tidy (λ r e. let x = page_there (own (live_at g b) id r) (prime.mine r e) in rw (own-parts (live_at g b) id r x.0 x.1).0 refl)

module _ (g : Geometry) (a : List ℕ) (id h size : ℕ) (bytes : List ℕ) (f : File) (can : CanAppendAt g a id h size bytes f) where
  abbrev files : List File
  files = put_file (written (length f.bytes) bytes f) (table_of g a)

  -- what stands is what a cut may leave, and so is what keeps it
  pub kept : (c : List ℕ) → Keeps g a c → (HasReserve g a → HasReserve g c) → SameWear g a c → StepCut g files a c
  kept c keeps reserve wear = record { sound = keeps.sound; table = inl keeps.table; reserve = reserve; wear = wear }

  pub magics : HasMagics g a
  magics = tidy-has_magics g a (λ (r : ℕ). false) can.prime.tidy

  pub stays : StepCut g files a a
  stays = kept a (keeps-itself g a magics) (λ two. two) (wear_none g a)

  -- An edit of the header page takes the bytes into the file, 0xFF stands behind them in its last data page, and the entries behind the new last span
  -- are free.
  pub record IsReady (b : List ℕ) (edit : Edit) : Type 0 where
    pub beside : ℕ → Bool
    pub prime : Primed g id h can.head f beside a b
    pub grows : Grows g b id can.head bytes edit
    pub serve : (y : List ℕ) → IsEdited g can.head edit y → (r : ℕ) → beside r ≡ true → serves g (own (live_at g b) id) y r ≡ true
    pub last : (y : List ℕ) → IsEdited g can.head edit y → HasCleanBytes g (own (live_at g b) id) y
    pub free : HasFreeEntries g (own (live_at g b) id) (data_pages g (size_of can.head + length bytes))
    pub had : are_had g b 1 0 ≡ true
    pub reserve : HasReserve g a → HasReserve g b
    pub wear : SameWear g a b

  -- So the edited header page tells a clean tail.
  clean : (b : List ℕ) (edit : Edit) → IsReady b edit → (y : List ℕ) → IsEdited g can.head edit y → HasCleanTail g (own (live_at g b) id) y
  clean b edit r y edited = record {
    bytes = r.last y edited;
    entries = subst (λ (n : ℕ). HasFreeEntries g (own (live_at g b) id) (data_pages g n)) (sym (r.grows.appends y edited).size) r.free;
  }

  pub ends : (b : List ℕ) (edit : Edit) → IsReady b edit → Finishes g a b (renewing_from id h edit (written (length f.bytes) bytes f)) (appending_at id h size bytes f)
  ends b edit r = record {
    needs = record {
      beside = r.beside;
      tidy = r.prime.tidy;
      mine = r.prime.mine;
      had = r.had;
      head = can.head;
      says = grow-says g a b id h can.head bytes f r.beside edit r.prime r.grows;
    };
    cut = λ c cut. record {
      sound = sound-on g a b c r.prime.keeps.sound cut.sound;
      table = ⊎_elim
          (λ (same : table_of g c ≡ table_of g b). inl (same ∙ r.prime.keeps.table))
          (λ (new : table_of g c ≡ put_file (written (length f.bytes) bytes f) (table_of g b)). inr (new ∙ ap (λ (t : List File). put_file (written (length f.bytes) bytes f) t) r.prime.keeps.table))
          cut.table;
      reserve = λ two. cut.reserve (r.reserve two);
      wear = wear_then g a b c r.wear cut.wear;
    };
    done = λ c ok done.
        let tidies = grow-tidies g a b c id h can.head bytes f (written (length f.bytes) bytes f) r.beside edit r.prime r.grows r.serve done in
        let w = renewed_at g b c id h can.head f (written (length f.bytes) bytes f) r.beside edit r.prime done in
        let edited : IsEdited g can.head edit done.y = rw w.1 at done.edited in
        record {
          step = record { tidy = tidies.0; table = tidies.1; reserve = λ two. done.reserve (r.reserve two) };
          ready = tail-grown g b c done.to done.o id done.head done.y (written (length f.bytes) bytes f) done.renews done.replaced (clean b edit r done.y edited);
        };
  }

  -- So it is where they stand in one data page, behind the old end and with 0xFF behind them.
  pub record IsReadyIn (b : List ℕ) (edit : Edit) : Type 0 where
    pub beside : ℕ → Bool
    pub z : List ℕ
    pub prime : Primed g id h can.head f beside a b
    pub grows : GrowsIn g b id can.head z bytes edit
    pub serve : (y : List ℕ) → IsEdited g can.head edit y → (r : ℕ) → beside r ≡ true → serves g (own (live_at g b) id) y r ≡ true
    pub erased : (k : ℕ) → 5 + size_of can.head % body g + length bytes ≤ k → k < g.page → slice_index z k ≡ 0xFF
    pub free : HasFreeEntries g (own (live_at g b) id) (data_pages g (size_of can.head + length bytes))
    pub had : are_had g b 1 0 ≡ true
    pub reserve : HasReserve g a → HasReserve g b
    pub wear : SameWear g a b

  last_in : (b : List ℕ) (edit : Edit) → IsReadyIn b edit → (y : List ℕ) → IsEdited g can.head edit y → HasCleanBytes g (own (live_at g b) id) y
  last_in b edit r y edited z more there k low high =
      let size : size_of y ≡ size_of can.head + length bytes = edited.size ∙ r.grows.size in
      let whole : body g * (size_of can.head / body g) + size_of can.head % body g ≡ size_of can.head = div-add-mod (size_of can.head) (body g) in
      let room : size_of can.head % body g + length bytes < body g =
      ⊎_elim
      (λ (less : size_of can.head % body g + length bytes < body g). less)
      (λ (full : body g ≤ size_of can.head % body g + length bytes).
      let fits = r.grows.fits in
      let at : size_of y ≡ body g * (size_of can.head / body g + 1) = omega (arith, size, whole, full, fits) in
      absurd (more (ap (λ (n : ℕ). n % body g) at ∙ mul-mod_right (body g) (size_of can.head / body g + 1))))
      (cases_lt (size_of can.head % body g + length bytes) (body g)) in
      let at : size_of y ≡ size_of can.head / body g * body g + (size_of can.head % body g + length bytes) = omega (arith, size, whole) in
      let span : size_of y / body g ≡ size_of can.head / body g = ap (λ (n : ℕ). n / body g) at ∙ div-mul-add (size_of can.head / body g) (body g) (size_of can.head % body g + length bytes) room in
      let again : body g * (size_of y / body g) + size_of y % body g ≡ size_of y = div-add-mod (size_of y) (body g) in
      let product : body g * (size_of y / body g) ≡ body g * (size_of can.head / body g) = ap (λ (n : ℕ). body g * n) span in
      let rest : size_of y % body g ≡ size_of can.head % body g + length bytes = omega (arith, again, product, size, whole) in
      let same : r.z ≡ z = same_Some r.z z (sym (r.grows.page y edited) ∙ ap (data_page g (own (live_at g b) id) y) (sym span) ∙ there) in
      subst (λ (l : List ℕ). slice_index l k ≡ 0xFF) same (r.erased k (omega (arith, low, rest)) high)

  in_one : (b : List ℕ) (edit : Edit) → IsReadyIn b edit → IsReady b edit
  in_one b edit r = record {
    beside = r.beside;
    prime = r.prime;
    grows = grows-in_one g a b id h can.head r.z bytes f r.beside edit r.prime r.grows;
    serve = r.serve;
    last = last_in b edit r;
    free = r.free;
    had = r.had;
    reserve = r.reserve;
    wear = r.wear;
  }

  pub ends_in : (b : List ℕ) (edit : Edit) → IsReadyIn b edit → Finishes g a b (renewing_from id h edit (written (length f.bytes) bytes f)) (appending_at id h size bytes f)
  ends_in b edit r = ends b edit (in_one b edit r)
