-- The copy of a data page is put beside it.
use Rattle.std.proofs.Common.{◌≡◌, ◌≢◌, ℕ, ◌+◌, ◌*◌, ◌<◌, ◌≤◌, List, [], ◌++◌, length, take, drop, slice_index, true, false, ◌==◌, ◌||◌, Some, None, ap, sym, ◌∙◌, arith, inl, subst}
use Rattle.std.proofs.lemmas.List.{get_or-drop, take-append-drop}
use Rattle.std.proofs.lemmas.Option.{none-some}
use Rattle.geometry.specs.declared.geometry.Geometry.{Geometry}
use Rattle.table_model.specs.declared.error.Tag.{Tag}
use Rattle.table_model.specs.Table.{File}
use Rattle.trim_laws.specs.Wear.{SameWear}
use Rattle.trim_laws.proofs.Wears.{wear_none, programs_keep}
use Rattle.trim_laws.proofs.Pages.{data_trims}
use Rattle.flash_view.specs.declared.kinds.Kind.TheVariants.{Data}
use Rattle.flash_view.specs.Steps.{Finishes}
use Rattle.free_search.specs.Free.{IsFreeFor, FreePage}
use Rattle.free_search.specs.Had.{IsClear}
use Rattle.free_search.proofs.FoundPage.{free_of}
use Rattle.free_search.proofs.Had.{data_page_had}
use Rattle.free_search.proofs.HadBy.{less_had, put_had}
use Rattle.image_model.specs.Within.{sizes, page_length}
use Rattle.image_model.specs.Headers.{names_index, span_of}
use Rattle.image_model.specs.Live.{Live, live_at, own}
use Rattle.image_model.specs.Places.{page_of, IsImage}
use Rattle.image_model.specs.Sound.{HasMagics, Keeps}
use Rattle.image_model.specs.Tidy.{HasReserve}
use Rattle.image_laws.specs.Changes.{Gains}
use Rattle.image_laws.specs.LiveSteps.{PutLeaves, PutDone}
use Rattle.image_laws.specs.Put.{IsReadyPage}
use Rattle.image_model.specs.Files.{index_span}
use Rattle.image_laws.specs.SoundSteps.{IsOfKind}
use Rattle.image_laws.specs.TidySteps.{Agree}
use Rattle.image_laws.proofs.Finish.{own-parts}
use Rattle.image_laws.proofs.Frames.{live_parts}
use Rattle.image_laws.proofs.Judge.{index_passes}
use Rattle.image_laws.proofs.Placing.{page_byte}
use Rattle.image_laws.proofs.Sounding.{keeps-itself}
use Rattle.image_laws.proofs.SpareKill.{tidy-has_magics}
use Rattle.renew_laws.specs.Overwrite.{IsPatched}
use Rattle.renew_laws.specs.Primed.{Primed}
use Rattle.renew_laws.proofs.Beside.{beside-index, beside-entry}
use Rattle.renew_laws.proofs.PrimeBeside.{prime-data}
use Rattle.renew_laws.proofs.PutBeside.{gains_own}
use Rattle.renew_laws.proofs.ReserveKept.{put-reserve}
use Rattle.renew_laws.proofs.TailSteps.{tail-beside}
use Rattle.page_put.specs.Placing.{placed_page}
use Rattle.page_put.specs.LivePages.{finished_page, putting}
use Rattle.page_renew.specs.PageSteps.{StepCut}
use Rattle.page_renew.proofs.Homes.{index_some, of_data}
use Rattle.file_write.specs.declared.relinking.Patch.{Patch}
use Rattle.file_write.specs.declared.relinking.Spot.{Spot}
use Rattle.file_write.specs.Beside.{IsPageOf}
use Rattle.file_write.specs.Patches.{IsPatchedCopy}
use Rattle.file_write.specs.Relinkings.{patched_files, CanPatch, CanPatchAt, CanCopy, HasCopy, copying_to}
use Rattle.file_write.proofs.AppendEnds.{primed_clear}
use Rattle.file_write.proofs.Built.{is_ready, is_page}
use Rattle.file_write.proofs.LastPage.{IsNamed, named_by, number_of}

-- an empty file
abbrev pub no_file : File
no_file = record { id = 0; name = []; kind = 0; meta = []; bytes = [] }

-- the flags of a live page are a byte still once another page is changed
pub flags_stay : (g : Geometry) (a b : List ℕ) (p q : ℕ) (x : List ℕ) → Agree g a b p → live_at g a q ≡ Some x → q ≢ p → slice_index a (q * g.page + 4) < 256 → slice_index b (q * g.page + 4) < 256
flags_stay g a b p q x agree live other small =
    let big : 128 ≤ g.page = (sizes g).page in
    let near : 4 < g.page = omega (arith, big) in
    let byte : slice_index b (q * g.page + 4) ≡ slice_index a (q * g.page + 4) =
    sym (page_byte g b q 4 near) ∙ ap (λ (l : List ℕ). slice_index l 4) (agree.page q (live_parts g a q x live).entry_page other) ∙ page_byte g a q 4 near in
    rw byte small

-- ---- what stands

module _ (g : Geometry) (a : List ℕ) (patch : Patch) (bytes : List ℕ) (f : File) (can : CanPatch g a patch bytes f) where
  pub magics : HasMagics g a
  magics = tidy-has_magics g a (λ (r : ℕ). false) can.prime.tidy

  pub keeps_cut : (c : List ℕ) → Keeps g a c → (HasReserve g a → HasReserve g c) → SameWear g a c → StepCut g (patched_files g patch bytes f a) a c
  keeps_cut c keeps reserve wear = record { sound = keeps.sound; table = inl keeps.table; reserve = reserve; wear = wear }

  -- what stands is what a cut may leave
  pub patch_stays : StepCut g (patched_files g patch bytes f a) a a
  patch_stays = keeps_cut a (keeps-itself g a magics) (λ two. two) (wear_none g a)

  pub patch_clear : IsClear g a
  patch_clear = primed_clear g a a patch.id can.h can.head f (λ r. false) can.prime

  -- where a data page is had, one is found
  pub copy_found : FreePage g a Data 2 None None → ⊥
  copy_found none = let bad : false ≡ true = data_page_had g a None none ∙ less_had g a 1 1 0 1 (omega arith) (omega arith) can.had in absurd (cc)

pub copy_place : (g : Geometry) (a : List ℕ) (patch : Patch) (spot : Spot) (to : ℕ) (bytes : List ℕ) (f : File) → CanPatchAt g a patch spot bytes f → IsFreeFor g a Data 2 None to → CanCopy g a patch spot to bytes f
copy_place g a patch spot to bytes f at found = record { at = at; found = found }

-- ---- the copy

module _ (g : Geometry) (a : List ℕ) (patch : Patch) (spot : Spot) (to : ℕ) (bytes : List ℕ) (f : File) (work : List ℕ) (is : IsImage g a) (can : CanCopy g a patch spot to bytes f)
    (built : IsPatchedCopy g a spot.page patch.from patch.used bytes work) (range : (1 ≤ patch.id) × (patch.id ≤ 0x7FFE)) where
  abbrev at : CanPatchAt g a patch spot bytes f
  at = can.at

  abbrev pages : Live
  pages = own (live_at g a) patch.id

  abbrev tag : Tag
  tag = record { id = patch.id; span = patch.span }

  abbrev page : List ℕ
  page = take g.page work

  abbrev new : List ℕ
  new = finished_page g Data tag work

  named : IsNamed g pages at.can.head patch.span spot.page
  named = named_by g pages at.can.head patch.span spot.page (sym (number_of g a a patch.id at.can.h at.can.head f (λ r. false) patch.span at.can.prime) ∙ at.number)

  abbrev old : List ℕ
  old = named.z

  live : live_at g a spot.page ≡ Some old
  live = (own-parts (live_at g a) patch.id spot.page named.z named.is).0

  old_page : page_of g a spot.page ≡ old
  old_page = (live_parts g a spot.page named.z live).bytes

  page_len : length (page_of g a spot.page) ≡ g.page
  page_len = page_length g a spot.page is (live_parts g a spot.page named.z live).entry_page

  len : length page ≡ g.page
  len = built.patched.size ∙ page_len

  -- its span is a word
  word : patch.span < 65536
  word =
      let two : slice_index page 2 ≡ slice_index named.z 2 = built.patched.head 2 (omega arith) ∙ ap (λ (l : List ℕ). slice_index l 2) old_page in
      let three : slice_index page 3 ≡ slice_index named.z 3 = built.patched.head 3 (omega arith) ∙ ap (λ (l : List ℕ). slice_index l 3) old_page in
      omega (arith, named.span, two, three, built.small 2, built.small 3)

  whole : page ++ drop g.page work ≡ work
  whole = take-append-drop g.page work

  page_is : IsPageOf g Data tag (drop 5 page) new
  page_is = subst (λ (l : List ℕ). IsPageOf g Data tag (drop 5 page) (finished_page g Data tag l)) whole (is_page g Data tag page (drop g.page work) len built.small range.0 range.1 word)

  ready : IsReadyPage g (placed_page g Data tag work) 0xFC
  ready = subst (λ (l : List ℕ). IsReadyPage g (placed_page g Data tag l) 0xFC) whole (is_ready g Data tag page (drop g.page work) len built.small range.0 range.1 word)

  byte : (k : ℕ) → slice_index new (5 + k) ≡ slice_index page (5 + k)
  byte k = sym (get_or-drop 5 new k 0) ∙ ap (λ (l : List ℕ). slice_index l k) page_is.rest ∙ get_or-drop 5 page k 0

  of_old : (k : ℕ) → slice_index (page_of g a spot.page) (5 + k) ≡ slice_index old (5 + k)
  of_old k = ap (λ (l : List ℕ). slice_index l (5 + k)) old_page

  patched : IsPatched g old new patch.from patch.used bytes
  patched = record {
    inside = λ k below. let at_k : 5 + patch.from + k ≡ 5 + (patch.from + k) = omega arith in subst (λ (n : ℕ). slice_index new n ≡ slice_index bytes k) (sym at_k) (byte (patch.from + k) ∙ subst (λ (n : ℕ). slice_index page n ≡ slice_index bytes k) at_k (built.patched.inside k below));
    before = λ k low below. byte k ∙ built.patched.before k low below ∙ of_old k;
    after = λ k high below. byte k ∙ built.patched.after k high below ∙ of_old k;
    erased = λ k high below. let size = page_len in let big = (sizes g).page in byte k ∙ built.patched.erased k high (omega (arith, below, size, big));
  }

  kind : IsOfKind g (live_at g a) to new
  kind = of_data g a to new can.found.kind_is page_is.names

  law : ((c : List ℕ) → PutLeaves g to new a c → Keeps g a c) × ((c : List ℕ) → PutDone g to new a c → Primed g patch.id at.can.h at.can.head f (λ r. false || (r == to)) a c)
  law = prime-data g a a patch.id at.can.h to at.can.head new f (λ r. false) at.can.prime kind page_is.names page_is.of

  cut : (c : List ℕ) → PutLeaves g to new a c → StepCut g (patched_files g patch bytes f a) a c
  cut c leaves = keeps_cut g a patch bytes f at.can c (law.0 c leaves) (put-reserve g a c to can.found.keeps leaves.agree) (programs_keep g a c to leaves.agree)

  -- the index page
  x_is : (x : List ℕ) × (pages spot.index ≡ Some x) × (names_index x ≡ true) × (span_of x ≡ index_span g patch.span)
  x_is = index_some (pages spot.index) (index_span g patch.span) (index_passes g pages (index_span g patch.span) spot.index at.index)

  done : (b : List ℕ) → PutDone g to new a b → HasCopy g a patch spot to bytes f b
  done b put =
      let gains : Gains to new pages (own (live_at g b) patch.id) = gains_own to patch.id new (live_at g a) (live_at g b) page_is.of put.gains in
      let apart : (r : ℕ) (z : List ℕ) → pages r ≡ Some z → r ≢ to = λ r z there e. none-some z (sym gains.before ∙ ap pages (sym e) ∙ there) in
      let q_apart : spot.page ≢ to = apart spot.page named.z named.is in
      let prime : Primed g patch.id at.can.h at.can.head f (λ r. r == to) a b = law.1 b put in
      record {
        at = at;
        old = named.z;
        copy = new;
        x = x_is.0;
        prime = prime;
        places = λ j. beside-index g to at.can.h patch.id new at.can.head f pages (own (live_at g b) patch.id) gains page_is.names at.can.prime.at at.can.prime.header at.can.prime.file j;
        index_is = gains.others spot.index (apart spot.index x_is.0 x_is.1) ∙ x_is.1;
        names = beside-entry g to at.can.h patch.id new at.can.head f pages (own (live_at g b) patch.id) gains page_is.names at.can.prime.at at.can.prime.header at.can.prime.file at.can.head patch.span ∙ named.entry;
        there = gains.others spot.page q_apart ∙ named.is;
        old_kind = named.kind;
        copy_is = gains.after;
        copy_kind = page_is.names;
        copy_span = page_is.span;
        apart = q_apart;
        patched = patched;
        had = (put_had g a b to new 1 0 (patch_clear g a patch bytes f at.can) (primed_clear g a b patch.id at.can.h at.can.head f (λ r. r == to) prime) put).1 can.found page_is.names at.can.had;
        reserve = put-reserve g a b to can.found.keeps put.agree;
        wear = programs_keep g a b to put.agree;
        tails = tail-beside g a b to patch.id at.can.h new at.can.head f
            (record { kind = kind; data_kind = page_is.names; of = page_is.of; at = at.can.prime.at; header = at.can.prime.header; file = at.can.prime.file })
            put;
        flags = flags_stay g a b to spot.page named.z put.agree live q_apart built.flags;
      }

  pub copy_puts : Finishes g a a (putting to Data tag work) (copying_to patch spot to bytes f)
  copy_puts = record { needs = record { free = free_of g a Data 2 to None is can.found; ready = ready; trim = data_trims g new page_is.names }; cut = λ c put. cut c put; done = λ c ok put. done c put }
