-- Volumes that this engine alone wrote: what kills and a fresh block keep, and which images are so.
use Rattle.std.proofs.Common.{◌≡◌, ◌≢◌, ℕ, ◌*◌, List, Bool, true, not, refl, sym, ◌∙◌, arith, ⊎_elim}
use Rattle.std.proofs.lemmas.Bool.{and_parts, cases_eq}
use Rattle.geometry.specs.declared.geometry.Geometry.{Geometry}
use Rattle.nor_core.specs.Flash.{SameOutside}
use Rattle.image_model.specs.Places.{has_magic, entry_of, page_of, block_of}
use Rattle.image_model.specs.Tidy.{IsTidy, TellsFree, is_erased, is_free_entry, is_free_block}
use Rattle.image_laws.specs.TidySteps.{Agree}
use Rattle.room_laws.proofs.Sorted.{tidy_tells_free}
use Rattle.flash_view.specs.Places.{IsEntryPage}
use Rattle.flash_view.proofs.Heads.{entry_page_told}
use Rattle.free_search.proofs.Beside.{page_other, magic_other, entry_other, free_entry_at}
use Rattle.vol_check.specs.Owned.{IsOwn, OwnIf}
use Rattle.vol_check.specs.Stage.{is_taken_entry}

-- the page of a free entry is erased
free_erased : (g : Geometry) (a : List ℕ) (p : ℕ) → is_free_entry g a p ≡ true → is_erased (page_of g a p) ≡ true
free_erased g a p free = (and_parts _ _ free).1

-- where the lookup pages tell which entries are free the image is so,
pub tells_own : (g : Geometry) (a : List ℕ) → TellsFree g a → IsOwn g a
tells_own g a tells = record { erased = λ p page magic ones. free_erased g a p (tells.free p page ones) }

-- and so is a tidy one
pub tidy_own : (g : Geometry) (a : List ℕ) → IsTidy g a → IsOwn g a
tidy_own g a tidy = tells_own g a (tidy_tells_free g a tidy)

-- the page of an entry of 0xFFFF
pub own_erased : (own : Bool) (g : Geometry) (a : List ℕ) (p : ℕ) → OwnIf own g a → IsEntryPage g p → has_magic g a (block_of g p) ≡ true → entry_of g a p ≡ 0xFFFF → own ≡ true → is_erased (page_of g a p) ≡ true
own_erased own g a p owns place magic ones is = (owns is).erased p (entry_page_told g p place) magic ones

-- such an entry is in use where its page isn't erased
pub ones_taken : (g : Geometry) (a : List ℕ) (p : ℕ) (blank : Bool) → entry_of g a p ≡ 0xFFFF → blank ≡ is_erased (page_of g a p) → not blank ≡ is_taken_entry g a p
ones_taken g a p blank ones is = rw (ones, is) refl

-- a kill of one entry keeps that
pub own_killed : (g : Geometry) (a c : List ℕ) (p : ℕ) → Agree g a c p → entry_of g c p ≡ 0 → IsOwn g a → IsOwn g c
own_killed g a c p agree zero own = record {
  erased = λ q page magic ones. ⊎_elim
      (λ (here : q ≡ p). let none : entry_of g c q ≡ 0 = rw here zero in absurd (omega (arith, none, ones)))
      (λ (there : q ≢ p). rw (agree.page q page there) (own.erased q page (sym (agree.magic (block_of g q)) ∙ magic) (sym (agree.entry q page there) ∙ ones)))
      (cases_eq q p);
}

-- and so does making a block fresh
pub own_fresh : (g : Geometry) (a b : List ℕ) (c : ℕ) → SameOutside (c * g.block) g.block a b → is_free_block g b c ≡ true → IsOwn g a → IsOwn g b
own_fresh g a b c same free own = record {
  erased = λ p page magic ones. ⊎_elim
      (λ (here : block_of g p ≡ c). free_erased g b p (free_entry_at g b c free p page here))
      (λ (there : block_of g p ≢ c). rw (page_other g a b c same p there)
      (own.erased p page (sym (magic_other g a b c same (block_of g p) there) ∙ magic) (sym (entry_other g a b c same p there) ∙ ones)))
      (cases_eq (block_of g p) c);
}
