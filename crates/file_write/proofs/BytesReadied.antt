-- The tail of a file is made ready: the file is found, and its last data page is replaced by a copy with 0xFF past the size.
use Rattle.std.proofs.Common.{◌≡◌, ◌≢◌, ℕ, ◌+◌, ◌*◌, ◌/◌, ◌%◌, ◌<◌, ◌≤◌, List, [], true, false, ◌==◌, Option, Some, None, Result, Ok, ap, refl, sym, ◌∙◌, arith, inl, subst}
use Rattle.std.specs.Prelude.{is_some, unwrap_or, option_and_then}
use Rattle.std.proofs.Math.Nat.{div-add-mod, mul_comm}
use Rattle.std.proofs.lemmas.Option.{same_Some}
use Rattle.geometry.specs.declared.geometry.Geometry.{Geometry}
use Rattle.geometry.specs.Numbers.{body}
use Rattle.table_model.specs.Table.{File, file_of, has_id, put_file}
use Rattle.table_model.specs.Files.{written}
use Rattle.table_model.specs.Room.{data_pages}
use Rattle.image_model.specs.declared.damage.Damage.{Damage}
use Rattle.image_model.specs.Headers.{size_of}
use Rattle.image_model.specs.Live.{live_at, own}
use Rattle.image_model.specs.Files.{index_page}
use Rattle.image_model.specs.Places.{IsImage}
use Rattle.image_model.specs.Tables.{has_of, table_of}
use Rattle.image_model.specs.Tidy.{IsTidy}
use Rattle.image_laws.proofs.Judge.{found_from}
use Rattle.image_laws.proofs.Sounding.{keeps-itself}
use Rattle.image_laws.proofs.SpareKill.{tidy-has_magics}
use Rattle.image_laws.proofs.TidySteps.{tidy-is_tidy}
use Rattle.header_laws.proofs.Listed.{any-found}
use Rattle.renew_laws.proofs.Overwritten.{nothing-written}
use Rattle.renew_laws.proofs.RecopyLeaves.{put-same}
use Rattle.trim_laws.proofs.Wears.{wear_none}
use Rattle.flash_view.specs.Steps.{Finishes}
use Rattle.page_renew.specs.PageSteps.{StepCut, StepDone}
use Rattle.page_renew.specs.declared.finding.Found.{Found}
use Rattle.page_renew.specs.Renewals.{IsHome}
use Rattle.file_write.specs.declared.relinking.Patch.{Patch}
use Rattle.file_write.specs.Readyings.{HasOnes, IsStale, CanReady, CanReadyIn, HasReadyTail, HasReadyTailAt, Readied, readying_entry, readying_in, readying}
use Rattle.file_write.specs.Relinkings.{CanPatch, HasPatch, IsFileAt, replacing}
use Rattle.file_write.proofs.CopyPut.{no_file}
use Rattle.file_write.proofs.FileHomes.{no_home, home_at}
use Rattle.file_write.proofs.Sizes.{last_below}
use Rattle.file_write.proofs.TailLooks.{tail_ready}

-- ---- what stands

-- what stands is what a cut may leave
pub ready_stays : (g : Geometry) (a : List ℕ) (id : ℕ) → CanReady g a id → StepCut g (table_of g a) a a
ready_stays g a id can = record { sound = (keeps-itself g a (tidy-has_magics g a (λ (r : ℕ). false) ((tidy-is_tidy g a (λ (r : ℕ). false)).0 can.tidy))).sound; table = inl refl; reserve = λ two. two; wear = wear_none g a }

-- the file of an id that the table has
abbrev pub chosen : List File → ℕ → File
chosen files id = unwrap_or (file_of id files) no_file

some_is : {T : Type 0} (o : Option T) (other : T) → is_some o ≡ true → o ≡ Some (unwrap_or o other)
some_is None other e = absurd (cc)
some_is (Some x) other e = refl

module _ (g : Geometry) (a : List ℕ) (id : ℕ) (is : IsImage g a) (tidy : IsTidy g a) (there : has_id id (table_of g a) ≡ true) where
  chosen_there : file_of id (table_of g a) ≡ Some (chosen (table_of g a) id)
  unfolding has_id file_of
  chosen_there = some_is (file_of id (table_of g a)) no_file (sym (any-found (λ (f : File). f.id == id) (table_of g a)) ∙ there)

  -- there is a header page
  pub home_there : IsHome g a id None → ⊥
  home_there none = no_home g a id (chosen (table_of g a) id) is tidy chosen_there none

  pub home_found : (found : Found) → IsHome g a id (Some found) → IsFileAt g a id found.size (chosen (table_of g a) id)
  home_found found is_found = home_at g a id (chosen (table_of g a) id) is tidy chosen_there found is_found

-- of a file whose tail can be made ready
pub ready_home : (g : Geometry) (a : List ℕ) (id : ℕ) → IsImage g a → CanReady g a id → (found : Found) → IsHome g a id (Some found) → Finishes g a a (readying_in id found.size (chosen (table_of g a) id)) (readying id)
ready_home g a id is can found is_found = record { needs = record { can = can; home = home_found g a id is can.tidy can.there found is_found }; cut = λ c cut. cut; done = λ c ok done. done }

-- of one whose tail is ready
pub ready_found : (g : Geometry) (a : List ℕ) (id : ℕ) → IsImage g a → HasReadyTail g a id → (found : Found) → IsHome g a id (Some found) → HasReadyTailAt g a id found.size (chosen (table_of g a) id)
ready_found g a id is has found is_found = record { home = home_found g a id is has.tidy has.there found is_found; ready = has.ready }

-- ---- a file of that size

module _ (g : Geometry) (a : List ℕ) (id size : ℕ) (f : File) (can : CanReadyIn g a id size f) where
  abbrev home : IsFileAt g a id size f
  home = can.home

  -- putting the file leaves the table
  pub file_same : put_file f (table_of g a) ≡ table_of g a
  unfolding has_of
  file_same =
      let has : has_of g (live_at g a) id ≡ Some (home.h, Ok f) = found_from g (own (live_at g a) id) id home.h home.head home.prime.at home.prime.header ∙ ap (λ (r : Result File Damage). Some (home.h, r)) home.prime.file in
      put-same g a id home.h f can.can.tidy.undamaged has

  -- its header page is this one
  pub head_same : (h : ℕ) (head : List ℕ) → index_page g (own (live_at g a) id) 0 ≡ Some h → own (live_at g a) id h ≡ Some head → home.head ≡ head
  head_same h head at header =
      let place : home.h ≡ h = same_Some home.h h (sym home.prime.at ∙ at) in
      same_Some home.head head (sym home.prime.header ∙ ap (own (live_at g a) id) place ∙ header)

  -- with 0xFF past the size,
  pub entry_next : HasOnes g a id size → Finishes g a a (readying_entry id size f) (readying_in id size f)
  entry_next ones = record { needs = record { at = can; ones = ones }; cut = λ c cut. cut; done = λ c ok done. done }

  -- and a free entry behind the last, it is ready
  pub ready_now : HasOnes g a id size → IsStale g a id size None → Readied g id a a
  ready_now ones free = record {
    step = record { tidy = can.can.tidy; table = refl; reserve = λ two. two };
    ready = tail_ready g a id size f home ones free;
  }

  -- ---- its last data page is replaced

  module _ (some : 0 < size % body g) where
    count : data_pages g (size_of home.head) ≡ size / body g + 1
    count = ap (data_pages g) (sym home.told) ∙ last_below g size some

    -- its span is one of a file
    pub span_small : size / body g ≤ 0xFFFF
    span_small = let n = count in omega (arith, n, home.few)

    module _ (span used : ℕ) (span_is : span ≡ size / body g) (used_is : used ≡ size % body g) where
      abbrev patch : Patch
      patch = record { id = id; span = span; from = 0; used = used }

      place : span * body g + used ≡ size
      place = let whole = div-add-mod size (body g) in let e : span * body g ≡ body g * (size / body g) = ap (λ (n : ℕ). n * body g) span_is ∙ mul_comm (size / body g) (body g) in omega (arith, whole, e, used_is)

      can_patch : CanPatch g a patch [] f
      can_patch = record {
        h = home.h;
        head = home.head;
        prime = home.prime;
        below = let n = count in omega (arith, n, span_is);
        inner = omega arith;
        fits = let p = place in omega (arith, p, home.told);
        enough = λ k low under. let p = place in omega (arith, p, home.told, under);
        least = λ ends. let same : used ≡ size_of home.head % body g = used_is ∙ ap (λ (n : ℕ). n % body g) home.told in omega (arith, same);
        had = can.can.had;
      }

      nothing : put_file (written (span * body g + 0) [] f) (table_of g a) ≡ table_of g a
      nothing = ap (λ (x : File). put_file x (table_of g a)) (nothing-written (span * body g + 0) f) ∙ file_same

      done : (b : List ℕ) → HasPatch g a patch [] f b → Readied g id a b
      done b all =
          let same : home.head ≡ all.can.head = head_same all.can.h all.can.head all.can.prime.at all.can.prime.header in
          let told : size ≡ size_of all.can.head = home.told ∙ ap size_of same in
          let part : size % body g ≢ 0 = λ e. omega (arith, e, some) in
          record {
            step = subst (λ (files : List File). StepDone g files a b) nothing all.step;
            ready = all.ready (subst (λ (n : ℕ). (n / body g ≡ span) × (n % body g ≢ 0)) told (sym span_is, part));
          }

      pub bytes_next : Finishes g a a (replacing patch [] f) (readying_in id size f)
      bytes_next = record {
        needs = can_patch;
        cut = λ c cut. subst (λ (files : List File). StepCut g files a c) nothing cut;
        done = λ c ok all. done c all;
      }
