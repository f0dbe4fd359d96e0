-- A block without live pages made fresh in a tidy image.
use Rattle.std.proofs.Common.{◌≡◌, ℕ, ◌⊎◌, ⊎_elim, inl, inr, List, true, None, ap, sym, ◌∙◌}
use Rattle.std.proofs.lemmas.Bool.{cases_eq}
use Rattle.geometry.specs.declared.geometry.Geometry.{Geometry}
use Rattle.image_model.specs.Within.{sizes}
use Rattle.image_model.specs.Live.{live_at}
use Rattle.image_model.specs.Places.{block_of, entry_of, IsImage}
use Rattle.image_model.specs.Tidy.{IsTidy, is_free_entry, is_wanted}
use Rattle.image_model.specs.Sound.{Keeps}
use Rattle.image_laws.proofs.Erase.{live-other}
use Rattle.image_laws.proofs.Erasing.{erasing-sound}
use Rattle.image_laws.proofs.Frames.{damaged_of-same}
use Rattle.image_laws.proofs.TidySteps.{wanted-same}
use Rattle.free_search.proofs.Beside.{magic_other, entry_other, free_entry_other, free_magic, free_entry_at, free_dead}
use Rattle.page_put.specs.Fresh.{Freshens, IsFresh}

-- ---- the block holds no live page

module _ (g : Geometry) (block : ℕ) (a : List ℕ) (t : IsTidy g a) (dead : (q : ℕ) → block_of g q ≡ block → live_at g a q ≡ None) where
  pub fresh_keeps : IsImage g a → (erases : ℕ) (x : List ℕ) → Freshens g block erases a x → Keeps g a x
  fresh_keeps is erases x cut =
      erasing-sound g a x block is (λ d low differ. t.magic d low) cut.outside dead
      (⊎_elim
      (λ (same : x ≡ a). λ q here. ap (λ (l : List ℕ). live_at g l q) same ∙ dead q here)
      (λ (gone : (q : ℕ) → block_of g q ≡ block → live_at g x q ≡ None). gone)
      cut.dead)

  module _ (count : ℕ) (b : List ℕ) (fresh : IsFresh g block count a b) where
    pub fresh_live : (q : ℕ) → live_at g b q ≡ live_at g a q
    fresh_live q =
        ⊎_elim
        (λ (here : block_of g q ≡ block). free_dead g b block fresh.free q here ∙ sym (dead q here))
        (λ (there : block_of g q ≡ block → ⊥). live-other g (sizes g) a b block fresh.outside q there)
        (cases_eq (block_of g q) block)

    pub fresh_tidy : IsTidy g b
    fresh_tidy = record {
      magic = λ d low. ⊎_elim
          (λ (here : d ≡ block). rw here (free_magic g b block fresh.free))
          (λ (there : d ≡ block → ⊥). magic_other g a b block fresh.outside d there ∙ t.magic d low)
          (cases_eq d block);
      entries = λ q page. ⊎_elim
          (λ (here : block_of g q ≡ block). inr (inl (free_entry_at g b block fresh.free q page here)))
          (λ (there : block_of g q ≡ block → ⊥). ⊎_elim
          (λ (zero : entry_of g a q ≡ 0). inl (entry_other g a b block fresh.outside q there ∙ zero))
          (λ (rest : (is_free_entry g a q ≡ true) ⊎ (is_wanted g a q ≡ true)). inr (⊎_elim
          (λ (free : is_free_entry g a q ≡ true). inl (free_entry_other g a b block fresh.outside q there ∙ free))
          (λ (wanted : is_wanted g a q ≡ true). inr (wanted-same g a b fresh_live q ∙ wanted))
          rest))
          (t.entries q page))
          (cases_eq (block_of g q) block);
      undamaged = damaged_of-same g b a fresh_live ∙ t.undamaged;
      unmixed = λ p q x y e f same. t.unmixed p q x y (sym (fresh_live p) ∙ e) (sym (fresh_live q) ∙ f) same;
    }
