-- A create, from the free page that was found.
use Rattle.std.proofs.Common.{◌≡◌, ℕ, List, true, false, None, refl, sym, ◌∙◌, inl}
use Rattle.geometry.specs.declared.geometry.Geometry.{Geometry}
use Rattle.flash_view.specs.declared.kinds.Kind.TheVariants.{Index}
use Rattle.image_model.specs.Places.{IsImage}
use Rattle.image_model.specs.Sound.{HasMagics}
use Rattle.image_laws.proofs.Sounding.{keeps-itself}
use Rattle.trim_laws.proofs.Wears.{wear_none}
use Rattle.free_search.specs.Free.{IsFreeFor, FreePage}
use Rattle.free_search.proofs.FoundPage.{free_of}
use Rattle.free_search.proofs.Had.{page_had}
use Rattle.flash_view.specs.Steps.{Finishes}
use Rattle.file_write.specs.Creates.{CanCreate, CreateCut, creating_at, creating}

-- what stands is what a cut may leave
pub stays : (g : Geometry) (image : List ℕ) (id : ℕ) (name : List ℕ) → CanCreate g image id name → CreateCut g image id name image
stays g image id name can =
    let magics : HasMagics g image = record { one = λ b c low low' no no'. let bad : true ≡ false = sym (can.tidy.magic b low) ∙ no in absurd (cc) } in
    record { sound = (keeps-itself g image magics).sound; table = inl refl; reserve = can.reserve; wear = wear_none g image }

-- where an index page is had, one is found
pub found_one : (g : Geometry) (image : List ℕ) (id : ℕ) (name : List ℕ) → CanCreate g image id name → FreePage g image Index 2 None None → ⊥
found_one g image id name can none = let bad : false ≡ true = page_had g image None none ∙ can.had in absurd (cc)

-- the header page is put where one was found
pub by_page : (g : Geometry) (image : List ℕ) (p id : ℕ) (name : List ℕ) → IsImage g image → CanCreate g image id name → IsFreeFor g image Index 2 None p → Finishes g image image (creating_at p id name) (creating id name)
by_page g image p id name is can found = record {
  needs = record { can = can; free = free_of g image Index 2 p None is found; kind = found.kind_is; keeps = found.keeps };
  cut = λ c cut. cut;
  done = λ c ok done. done;
}
