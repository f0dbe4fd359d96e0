-- An erase keeps the image sound.
use Rattle.std.proofs.Common.{◌≡◌, ◌≢◌, ℕ, ◌*◌, ◌<◌, List, true, false, sym, ◌∙◌, ⊎_elim}
use Rattle.std.proofs.lemmas.Bool.{cases_eq}
use Rattle.geometry.specs.declared.geometry.Geometry.{Geometry}
use Rattle.image_model.specs.Within.{sizes}
use Rattle.nor_core.specs.Flash.{SameOutside}
use Rattle.image_model.specs.Live.{live_at}
use Rattle.image_model.specs.Places.{has_magic, block_of}
use Rattle.image_laws.specs.SoundSteps.{ErasingIsSound}
use Rattle.image_laws.proofs.Erase.{magic-other, live-other, block-keeps}
use Rattle.image_laws.proofs.Sounding.{mixed-from}

at-c : (g : Geometry) (a b : List ℕ) (c : ℕ) → ((d : ℕ) → d < g.blocks → d ≢ c → has_magic g a d ≡ true) → SameOutside (c * g.block) g.block a b → (d : ℕ) → d < g.blocks → has_magic g b d ≡ false → d ≡ c
at-c g a b c others same d low lacks =
    ⊎_elim
    (λ (here : d ≡ c). here)
    (λ (there : d ≡ c → ⊥). let bad : true ≡ false = sym (magic-other g (sizes g) a b c same d there ∙ others d low there) ∙ lacks in absurd (cc))
    (cases_eq d c)

pub erasing-sound : (g : Geometry) → ErasingIsSound g
erasing-sound g a b c is others same before after =
    let keeps = block-keeps g a b c is same before after in
    let live : (p : ℕ) → live_at g b p ≡ live_at g a p = λ p. ⊎_elim
    (λ (here : block_of g p ≡ c). after p here ∙ sym (before p here))
    (λ (there : block_of g p ≡ c → ⊥). live-other g (sizes g) a b c same p there)
    (cases_eq (block_of g p) c) in
    record {
      sound = record {
        magics = record { one = λ d e low low' x y. at-c g a b c others same d low x ∙ sym (at-c g a b c others same e low' y) };
        mixed = λ d m. mixed-from g (live_at g a) (live_at g b) d (λ q x k. sym (live q) ∙ k) m;
        damaged = λ id k. rw keeps.1 at k;
      };
      table = keeps.0;
    }
