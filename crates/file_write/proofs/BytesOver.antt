-- Bytes of a file are overwritten in the data page where they begin.
use Rattle.std.proofs.Common.{◌≡◌, ℕ, ◌+◌, ◌-◌, ◌*◌, ◌/◌, ◌%◌, ◌<◌, ◌≤◌, List, length, false, Some, None, refl, sym, ◌∙◌, ap, arith, inl, subst, ⊎_elim}
use Rattle.std.proofs.Math.Nat.{div-add-mod, mul-le-mul_left, mul_comm}
use Rattle.std.proofs.lemmas.Bool.{cases_lt}
use Rattle.std.proofs.lemmas.Option.{same_Some}
use Rattle.geometry.specs.declared.geometry.Geometry.{Geometry}
use Rattle.geometry.specs.Numbers.{body, ceil}
use Rattle.table_model.specs.Table.{File, put_file}
use Rattle.table_model.specs.Files.{written}
use Rattle.table_model.specs.Room.{data_pages}
use Rattle.image_model.specs.Headers.{size_of}
use Rattle.image_model.specs.Files.{index_page}
use Rattle.image_model.specs.Live.{live_at, own}
use Rattle.image_model.specs.Places.{IsImage}
use Rattle.image_model.specs.Tables.{table_of}
use Rattle.image_model.specs.Within.{sizes}
use Rattle.image_laws.proofs.Sounding.{keeps-itself}
use Rattle.image_laws.proofs.SpareKill.{tidy-has_magics}
use Rattle.image_laws.proofs.TidySteps.{tidy-is_tidy}
use Rattle.renew_laws.specs.Primed.{Primed}
use Rattle.renew_laws.specs.Tails.{IsTailReady}
use Rattle.trim_laws.proofs.Wears.{wear_none}
use Rattle.flash_view.specs.Steps.{Finishes}
use Rattle.page_renew.specs.PageSteps.{StepCut, StepDone}
use Rattle.page_renew.specs.declared.finding.Found.{Found}
use Rattle.page_renew.specs.Renewals.{IsHome}
use Rattle.file_write.specs.declared.relinking.Patch.{Patch}
use Rattle.file_write.specs.Overwrites.{CanOverwrite, overwriting}
use Rattle.file_write.specs.Patches.{IsPatchAt}
use Rattle.file_write.specs.Relinkings.{CanPatch, replacing, IsFileAt, CanOverwriteIn, overwriting_in}
use Rattle.file_write.proofs.FileHomes.{no_home, home_at}

-- what stands is what a cut may leave
pub over_stays : (g : Geometry) (a : List ℕ) (id at : ℕ) (bytes : List ℕ) (f : File) → CanOverwrite g a id at bytes f → StepCut g (put_file (written at bytes f) (table_of g a)) a a
over_stays g a id at bytes f can = record { sound = (keeps-itself g a (tidy-has_magics g a (λ (r : ℕ). false) ((tidy-is_tidy g a (λ (r : ℕ). false)).0 can.tidy))).sound; table = inl refl; reserve = λ two. two; wear = wear_none g a }

-- a place below the size is in one of the data pages
pub span_below : (at size b : ℕ) → 0 < b → at < size → at / b < ceil size b
span_below at size b pos below =
    ⊎_elim
    (λ (less : at / b < ceil size b). less)
    (λ (more : ceil size b ≤ at / b).
    let whole : b * ((size + b - 1) / b) + (size + b - 1) % b ≡ size + b - 1 = div-add-mod (size + b - 1) b in
    let low : (size + b - 1) % b < b = omega (arith, pos) in
    let here : b * (at / b) + at % b ≡ at = div-add-mod at b in
    let product : b * ceil size b ≤ b * (at / b) = mul-le-mul_left b more in
    absurd (omega (arith, whole, low, here, product, below)))
    (cases_lt (at / b) (ceil size b))

module _ (g : Geometry) (a : List ℕ) (id size at : ℕ) (bytes : List ℕ) (f : File) (can : CanOverwriteIn g a id size at bytes f) where
  abbrev home : IsFileAt g a id size f
  home = can.home

  below : at / body g < data_pages g (size_of home.head)
  below = span_below at (size_of can.home.head) (body g) (omega (arith, (sizes g).page)) (omega (arith, can.can.some, can.can.inside, can.home.long))

  -- there is such a page
  pub no_patch : IsPatchAt g size at (length bytes) None → ⊥
  no_patch none = none (omega (arith, below, can.home.few)) can.can.one_page (omega (arith, can.can.inside, can.home.long, can.home.told))

  module _ (patch : Patch) (id_is : patch.id ≡ id) (is : IsPatchAt g size at (length bytes) (Some patch)) where
    whole : body g * (at / body g) + at % body g ≡ at
    whole = div-add-mod at (body g)

    begin : patch.span * body g ≡ at - at % body g
    begin = ap (λ (n : ℕ). n * body g) is.0 ∙ mul_comm (at / body g) (body g) ∙ (let w = whole in omega (arith, w))

    place : patch.span * body g + patch.from ≡ at
    place = let b = begin in let w = whole in omega (arith, b, is.1, w)

    can_patch : CanPatch g a patch bytes f
    can_patch = record {
      h = can.home.h;
      head = can.home.head;
      prime = subst (λ (n : ℕ). Primed g n can.home.h can.home.head f (λ r. false) a a) (sym id_is) can.home.prime;
      below = rw is.0 below;
      inner = let e = is.1 in omega (arith, e, can.can.one_page);
      fits = let p = place in omega (arith, p, can.can.inside, can.home.long);
      enough = λ k low under. let b = begin in omega (arith, is.2, can.home.told, b, low, under);
      least = λ ends.
          let rest : body g * (size_of can.home.head / body g) + size_of can.home.head % body g ≡ size_of can.home.head = div-add-mod (size_of can.home.head) (body g) in
          let same : patch.span * body g ≡ body g * (size_of can.home.head / body g) = mul_comm patch.span (body g) ∙ ap (λ (n : ℕ). body g * n) (sym ends.0) in
          let b = begin in omega (arith, is.2, can.home.told, b, rest, same);
      had = can.can.had;
    }

    pub patches : Finishes g a a (replacing patch bytes f) (overwriting_in id size at bytes f)
    patches = record {
      needs = can_patch;
      cut = λ c cut. subst (λ (n : ℕ). StepCut g (put_file (written n bytes f) (table_of g a)) a c) place cut;
      done = λ c ok done.
          -- the same file, by its header page
          let at_same : can.home.h ≡ done.can.h = same_Some can.home.h done.can.h (sym can.home.prime.at ∙ subst (λ (n : ℕ). index_page g (own (live_at g a) n) 0 ≡ Some done.can.h) id_is done.can.prime.at) in
          let same : can.home.head ≡ done.can.head =
          same_Some can.home.head done.can.head (sym can.home.prime.header ∙ ap (own (live_at g a) id) at_same ∙ subst (λ (n : ℕ). own (live_at g a) n done.can.h ≡ Some done.can.head) id_is done.can.prime.header) in
          let size_is : size_of done.can.head ≡ length f.bytes = ap size_of (sym same) ∙ sym can.home.long in
          record {
            step = subst (λ (n : ℕ). StepDone g (put_file (written n bytes f) (table_of g a)) a c) place done.step;
            ready = λ here more. subst (λ (n : ℕ). IsTailReady g c n) id_is (done.ready (rw size_is (sym here ∙ sym is.0), λ e. more (ap (λ (n : ℕ). n % body g) (sym size_is) ∙ e)));
            kept = λ ready. subst (λ (n : ℕ). IsTailReady g c n) id_is (done.kept (subst (λ (n : ℕ). IsTailReady g a n) (sym id_is) ready));
          };
    }

pub over_home : (g : Geometry) (a : List ℕ) (id at : ℕ) (bytes : List ℕ) (f : File) → IsImage g a → CanOverwrite g a id at bytes f → (found : Found) → IsHome g a id (Some found) → Finishes g a a (overwriting_in id found.size at bytes f) (overwriting id at bytes f)
over_home g a id at bytes f is can found is_found = record { needs = record { can = can; home = home_at g a id f is can.tidy can.there found is_found }; cut = λ c cut. cut; done = λ c ok done. done }

pub over_no_home : (g : Geometry) (a : List ℕ) (id at : ℕ) (bytes : List ℕ) (f : File) → IsImage g a → CanOverwrite g a id at bytes f → IsHome g a id None → ⊥
over_no_home g a id at bytes f is can none = no_home g a id f is can.tidy can.there none
