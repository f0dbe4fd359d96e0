-- A live page of an id with a header page is spare, or serves the file.
use Rattle.std.proofs.Common.{◌≡◌, ℕ, ◌%◌, ◌⊎◌, List, Bool, true, false, Some, ap, sym, ◌∙◌, ⊎_elim, inl, inr}
use Rattle.std.proofs.lemmas.Option.{same_Some}
use Rattle.geometry.specs.declared.geometry.Geometry.{Geometry}
use Rattle.image_model.specs.Live.{live_at, own}
use Rattle.image_model.specs.Headers.{obj_id}
use Rattle.image_model.specs.Files.{index_page}
use Rattle.image_model.specs.Tidy.{is_wanted, serves}
use Rattle.image_laws.specs.TidySteps.{IsNeatBut}
use Rattle.image_laws.proofs.Finish.{own-parts}
use Rattle.image_laws.proofs.Wants.{wanted_parts}
use Rattle.image_laws.proofs.SpareKill.{wanted-or_spare}

pub served-or_spare : (g : Geometry) (a : List ℕ) (spare : ℕ → Bool) → IsNeatBut g a spare → (id h : ℕ) (head : List ℕ) → index_page g (own (live_at g a) id) 0 ≡ Some h → own (live_at g a) id h ≡ Some head →
    (p : ℕ) (x : List ℕ) → own (live_at g a) id p ≡ Some x → (spare p ≡ true) ⊎ (serves g (own (live_at g a) id) head p ≡ true)
unfolding is_wanted
served-or_spare g a spare t id h head at header p x e =
    let live = own-parts (live_at g a) id p x e in
    ⊎_elim
    (λ (s : spare p ≡ true). inl s)
    (λ (wanted : is_wanted g a p ≡ true).
    let w = wanted_parts g (live_at g a) p wanted in
    let same : w.page ≡ x = same_Some w.page x (sym w.is ∙ live.0) in
    let key : obj_id w.page % 0x8000 ≡ id = ap (λ (y : List ℕ). obj_id y % 0x8000) same ∙ live.1 in
    let w_at = w.at in
    let w_header = w.header in
    let w_served = w.served in
    let place : w.h ≡ h = same_Some w.h h (sym (rw key at w_at) ∙ at) in
    let head_same : w.head ≡ head = same_Some w.head head (sym (rw key at w_header) ∙ ap (own (live_at g a) id) place ∙ header) in
    let serving : serves g (own (live_at g a) id) w.head p ≡ true = rw key at w_served in
    inr (ap (λ (y : List ℕ). serves g (own (live_at g a) id) y p) (sym head_same) ∙ serving))
    (wanted-or_spare g a spare t p x live.0)

pub served-but : (g : Geometry) (a : List ℕ) (spare : ℕ → Bool) → IsNeatBut g a spare → (id h : ℕ) (head : List ℕ) → index_page g (own (live_at g a) id) 0 ≡ Some h → own (live_at g a) id h ≡ Some head →
    (p : ℕ) (x : List ℕ) → spare p ≡ false → own (live_at g a) id p ≡ Some x → serves g (own (live_at g a) id) head p ≡ true
served-but g a spare t id h head at header p x out e =
    ⊎_elim
    (λ (s : spare p ≡ true). let bad : true ≡ false = sym s ∙ out in absurd (cc))
    (λ (s : serves g (own (live_at g a) id) head p ≡ true). s)
    (served-or_spare g a spare t id h head at header p x e)
