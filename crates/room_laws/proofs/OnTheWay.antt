-- Pages on their way.
use Rattle.std.proofs.Common.{◌≡◌, ◌≢◌, ℕ, zero, suc, ◌⊎◌, List, [], ◌∷◌, true, Some, refl, sym, ◌∙◌, ap, subst, arith, ⊎_elim, inl, inr}
use Rattle.std.specs.Prelude.{All, Contains}
use Rattle.std.proofs.lemmas.Bool.{cases_eq}
use Rattle.std.proofs.lemmas.Option.{same_Some, none-some}
use Rattle.geometry.specs.declared.geometry.Geometry.{Geometry}
use Rattle.image_model.specs.Places.{is_entry_page}
use Rattle.image_model.specs.Live.{live_at}
use Rattle.image_model.specs.Tidy.{is_free_entry}
use Rattle.image_laws.specs.Changes.{Gains, Loses}
use Rattle.image_laws.specs.TidySteps.{Agree}
use Rattle.image_laws.proofs.StillFree.{live-used}
use Rattle.room_laws.specs.Tags.{SameTag}
use Rattle.room_laws.specs.Ways.{Move, HasCome, WayNone, WayPut, WayKill, DoneLeaves}

-- ---- lists of moves

pub all_nil : {X : Type 0} (P : X → Type 0) → All P []
all_nil P k d low = absurd (omega arith)

pub all_cons : {X : Type 0} (P : X → Type 0) (x : X) (xs : List X) → P x → All P xs → All P (x ∷ xs)
all_cons P x xs here rest zero d low = here
all_cons P x xs here rest (suc k) d low = rest k d (omega arith)

pub all_head : {X : Type 0} (P : X → Type 0) (x : X) (xs : List X) → All P (x ∷ xs) → P x
all_head P x xs all = all 0 x (omega arith)

pub all_tail : {X : Type 0} (P : X → Type 0) (x : X) (xs : List X) → All P (x ∷ xs) → All P xs
all_tail P x xs all k d low = all (suc k) d (omega arith)

pub all_at : {X : Type 0} (P : X → Type 0) (xs : List X) (x : X) → All P xs → Contains xs x → P x
all_at P xs x all has = subst P has.2 (all has.0 x has.1)

pub in_tail : {X : Type 0} (x y : X) (xs : List X) → Contains xs y → Contains (x ∷ xs) y
in_tail x y xs has = (suc has.0, omega (arith, has.1), has.2)

pub in_head : {X : Type 0} (x : X) (xs : List X) → Contains (x ∷ xs) x
in_head x xs = (0, omega arith, refl)

pub all_from : {X : Type 0} (P : X → Type 0) (xs : List X) → ((x : X) → Contains xs x → P x) → All P xs
all_from P [] each = all_nil P
all_from P (x ∷ xs) each = all_cons P x xs (each x (in_head x xs)) (all_from P xs (λ y one. each y (in_tail x y xs one)))

-- ---- steps

come_more : (g : Geometry) (was : List ℕ) (move : Move) (moves : List Move) (p : ℕ) (x : List ℕ) → HasCome g was moves p x → HasCome g was (move ∷ moves) p x
come_more g was move moves p x c = record { move = c.move; one = in_tail move c.move moves c.one; at = c.at; old = c.old; from = c.from; tag = c.tag }

pub way_none : (g : Geometry) → WayNone g
way_none g was is = record { image_is = is; magic = λ b. refl; live = λ p x live. inl live; free = λ p page aside. refl }

-- other entries are as free as they were
agree_free : (g : Geometry) (a b : List ℕ) (p q : ℕ) → Agree g a b p → is_entry_page g q ≡ true → q ≢ p → is_free_entry g b q ≡ is_free_entry g a q
agree_free g a b p q agree page other = rw (agree.entry q page other, agree.page q page other) refl

pub way_put : (g : Geometry) → WayPut g
way_put g moves was image cut move old copy way leaves from tag = record {
  image_is = leaves.image;
  magic = λ b. leaves.agree.magic b ∙ way.magic b;
  live = λ p x live. ⊎_elim
      (λ (same : live_at g cut ≡ live_at g image). before p x (sym (ap (λ (l : ℕ → _). l p) same) ∙ live))
      (λ (gains : Gains move.to copy (live_at g image) (live_at g cut)). ⊎_elim
      (λ (here : p ≡ move.to).
      let is : x ≡ copy = same_Some x copy (sym live ∙ ap (live_at g cut) here ∙ gains.after) in
      inr (record { move = move; one = in_head move moves; at = sym here; old = old; from = from; tag = subst (λ (y : List ℕ). SameTag old y) (sym is) tag }))
      (λ (there : p ≡ move.to → ⊥). before p x (sym (gains.others p there) ∙ live))
      (cases_eq p move.to))
      leaves.live;
  free = λ p page aside. agree_free g image cut move.to p leaves.agree page (all_head (λ (m : Move). p ≢ m.to) move moves aside) ∙ way.free p page (all_tail (λ (m : Move). p ≢ m.to) move moves aside);
}
  where
    before : (p : ℕ) (x : List ℕ) → live_at g image p ≡ Some x → (live_at g was p ≡ Some x) ⊎ HasCome g was (move ∷ moves) p x
    before p x live = ⊎_elim (λ (first : live_at g was p ≡ Some x). inl first) (λ (come : HasCome g was moves p x). inr (come_more g was move moves p x come)) (way.live p x live)

pub way_kill : (g : Geometry) → WayKill g
way_kill g moves was image cut p old way leaves live = record {
  image_is = leaves.image;
  magic = λ b. leaves.agree.magic b ∙ way.magic b;
  live = λ q x there. ⊎_elim
      (λ (same : live_at g cut ≡ live_at g image). way.live q x (sym (ap (λ (l : ℕ → _). l q) same) ∙ there))
      (λ (loses : Loses p (live_at g image) (live_at g cut)). ⊎_elim
      (λ (here : q ≡ p). absurd (none-some x (sym loses.after ∙ ap (live_at g cut) (sym here) ∙ there)))
      (λ (other : q ≡ p → ⊥). way.live q x (sym (loses.others q other) ∙ there))
      (cases_eq q p))
      leaves.live;
  free = λ q page aside. ⊎_elim
      (λ (here : q ≡ p). ap (is_free_entry g cut) here ∙ leaves.used ∙ sym (live-used g was p old live) ∙ ap (is_free_entry g was) (sym here))
      (λ (other : q ≡ p → ⊥). agree_free g image cut p q leaves.agree page other ∙ way.free q page aside)
      (cases_eq q p);
}

pub done_leaves : (g : Geometry) → DoneLeaves g
done_leaves g a b p page = (
  λ d. record { image = d.image; agree = d.agree; live = inr d.gains },
  λ d. record { image = d.image; agree = d.agree; live = inr d.loses; used = rw d.zero refl },
)
