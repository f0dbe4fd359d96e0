-- What leaves the wanted pages of an image and the places beside them.
use Rattle.std.proofs.Common.{◌≡◌, ◌≢◌, ℕ, ◌*◌, ◌⊎◌, List, true, false, refl, sym, ◌∙◌, ⊎_elim, inl, inr}
use Rattle.std.proofs.lemmas.Bool.{cases_eq, and_parts}
use Rattle.geometry.specs.declared.geometry.Geometry.{Geometry}
use Rattle.nor_core.specs.Flash.{SameOutside}
use Rattle.image_model.specs.Within.{sizes}
use Rattle.image_model.specs.Live.{live_at}
use Rattle.image_model.specs.Places.{has_magic, block_of}
use Rattle.image_model.specs.Tidy.{is_wanted, is_free_entry, is_free_block}
use Rattle.image_model.specs.Shared.{SameUses}
use Rattle.image_laws.specs.TidySteps.{Agree}
use Rattle.image_laws.proofs.Erase.{magic-other, entry-other, page-other}
use Rattle.image_laws.proofs.TidySteps.{wanted-same}
use Rattle.image_laws.proofs.Uses.{free-same}

-- nothing does
pub uses-itself : (g : Geometry) (a : List ℕ) → SameUses g a a
uses-itself g a = record { wanted = λ p. refl; kind = λ p w. refl; magic = λ block m. m; free = λ p page m. refl; fresh = λ block low none. inl none }

free-magic : (g : Geometry) (a : List ℕ) (block : ℕ) → is_free_block g a block ≡ true → has_magic g a block ≡ true
unfolding is_free_block
free-magic g a block free = (and_parts (has_magic g a block) _ free).0

-- one step after another
pub uses-on : (g : Geometry) (a b c : List ℕ) → SameUses g a b → SameUses g b c → SameUses g a c
uses-on g a b c x y = record {
  wanted = λ p. y.wanted p ∙ x.wanted p;
  kind = λ p w. y.kind p (x.wanted p ∙ w) ∙ x.kind p w;
  magic = λ block m. y.magic block (x.magic block m);
  free = λ p page m. y.free p page (x.magic (block_of g p) m) ∙ x.free p page m;
  fresh = λ block low none. ⊎_elim
      (λ (still : has_magic g b block ≡ false). y.fresh block low still)
      (λ (free : is_free_block g b block ≡ true). inr (free-same g b c y block low (free-magic g b block free) ∙ free))
      (x.fresh block low none);
}

-- Programs of a page and its entry, which is free neither before nor after, where each page is wanted as before.
pub uses-agree : (g : Geometry) (a c : List ℕ) (p : ℕ) → Agree g a c p → is_free_entry g a p ≡ false → is_free_entry g c p ≡ false → ((q : ℕ) → is_wanted g c q ≡ is_wanted g a q) →
    ((q : ℕ) → is_wanted g a q ≡ true → live_at g c q ≡ live_at g a q) → SameUses g a c
uses-agree g a c p agree was now wanted kind = record {
  wanted = wanted;
  kind = kind;
  magic = λ block m. agree.magic block ∙ m;
  free = λ q page m. ⊎_elim
      (λ (here : q ≡ p). rw here (now ∙ sym was))
      (λ (there : q ≡ p → ⊥). rw (agree.entry q page there, agree.page q page there) refl)
      (cases_eq q p);
  fresh = λ block low none. inl (agree.magic block ∙ none);
}

-- Any change of a block that lacks its magic, where it lacks it still or is free, and the live pages are the same.
module _ (g : Geometry) (a c : List ℕ) (block : ℕ) (lacks : has_magic g a block ≡ false) (outside : SameOutside (block * g.block) g.block a c) (live : (p : ℕ) → live_at g c p ≡ live_at g a p)
    (state : (has_magic g c block ≡ false) ⊎ (is_free_block g c block ≡ true)) where
  apart : (d : ℕ) → has_magic g a d ≡ true → d ≢ block
  apart d m here = let no : has_magic g a d ≡ false = rw here lacks in let bad : true ≡ false = sym m ∙ no in absurd (cc)

  pub uses-fresh : SameUses g a c
  uses-fresh = record {
    wanted = wanted-same g a c live;
    kind = λ p w. live p;
    magic = λ d m. magic-other g (sizes g) a c block outside d (apart d m) ∙ m;
    free = λ p page m. rw (entry-other g (sizes g) a c block outside p (apart (block_of g p) m), page-other g (sizes g) a c block outside p (apart (block_of g p) m)) refl;
    fresh = λ d low none. ⊎_elim
        (λ (here : d ≡ block). rw here state)
        (λ (there : d ≡ block → ⊥). inl (magic-other g (sizes g) a c block outside d there ∙ none))
        (cases_eq d block);
  }
