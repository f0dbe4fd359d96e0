-- Pages of an id that has no header page, or is not in the table.
use Rattle.std.proofs.Common.{◌≡◌, ◌≢◌, ℕ, ◌+◌, ◌*◌, ◌%◌, List, slice_index, false, Option, Some, None, ap, refl, sym, ◌∙◌, ⊎_elim}
use Rattle.std.specs.Prelude.{is_some}
use Rattle.std.proofs.lemmas.Bool.{cases_eq}
use Rattle.std.proofs.lemmas.Option.{none-some}
use Rattle.geometry.specs.declared.geometry.Geometry.{Geometry}
use Rattle.image_model.specs.Live.{live_at, Live, own}
use Rattle.image_model.specs.Headers.{obj_id}
use Rattle.image_laws.specs.Changes.{Loses}
use Rattle.image_model.specs.Tables.{has_of, counted}
use Rattle.image_model.specs.Tidy.{is_wanted, is_wanted_as}
use Rattle.image_laws.specs.Programs.{IsIdle}
use Rattle.image_laws.specs.IndexStage.{HeadlessIsIdle, UncountedLeaves}
use Rattle.image_laws.proofs.Frames.{live_parts}
use Rattle.image_laws.proofs.Bits.{one_bit_image}
use Rattle.image_laws.proofs.Kill.{killing-loses, own-loses_other, has_of-loses}

pub headless-is_idle : (g : Geometry) → HeadlessIsIdle g
headless-is_idle g pages p none = record {
  no_header = λ e. none-some p (sym none ∙ e);
  no_page = λ h head e b span below. absurd (none-some h (sym none ∙ e));
}

module _ (g : Geometry) (p : ℕ) (page : List ℕ) (old new : Live) (was : old p ≡ Some page) (change : Loses p old new) (idle : IsIdle g (own old (obj_id page % 0x8000)) p)
    (quiet : counted (has_of g old) 0x7FFF (has_of g old (obj_id page % 0x8000)) ≡ None) where
  as_same : (o : Option (List ℕ)) (q : ℕ) → is_wanted_as g new o q ≡ is_wanted_as g old o q
  as_same None q = refl
  as_same (Some x) q =
      let has : has_of g new ≡ has_of g old = has_of-loses p page old new was change g idle in
      ⊎_elim
      (λ (here : obj_id page % 0x8000 ≡ obj_id x % 0x8000).
      let none : is_some (counted (has_of g old) 0x7FFF (has_of g old (obj_id x % 0x8000))) ≡ false = rw (sym here) (rw quiet refl) in rw has (rw none refl))
      (λ (there : obj_id page % 0x8000 ≡ obj_id x % 0x8000 → ⊥).
      let pages : own new (obj_id x % 0x8000) ≡ own old (obj_id x % 0x8000) = own-loses_other p page old new was change (obj_id x % 0x8000) there in rw (has, pages) refl)
      (cases_eq (obj_id page % 0x8000) (obj_id x % 0x8000))

  pub uncounted-wanted : (q : ℕ) → q ≢ p → is_wanted_as g new (new q) q ≡ is_wanted_as g old (old q) q
  uncounted-wanted q there = rw (change.others q there) (as_same (old q) q)

pub uncounted-leaves : (g : Geometry) → UncountedLeaves g
unfolding is_wanted
uncounted-leaves g a b p flags page is live idle quiet clears torn q there =
    ⊎_elim
    (λ (same : b ≡ a). ap (λ (x : List ℕ). is_wanted_as g (live_at g x) (live_at g x q) q) same)
    (λ (done : slice_index b (p * g.page + 4) ≡ flags).
    uncounted-wanted g p page (live_at g a) (live_at g b) live (killing-loses g a b p flags is (live_parts g a p page live).entry_page clears.cleared torn done) idle quiet q there)
    (one_bit_image 7 (p * g.page + 4) flags a b clears torn)
