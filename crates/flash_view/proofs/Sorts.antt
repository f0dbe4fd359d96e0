-- What an entry counts as.
use Rattle.std.proofs.Common.{◌≡◌, ◌≢◌, ◌==◌, ℕ, List, true, false, refl, sym, ◌∙◌}
use Rattle.std.specs.Prelude.{Option, Some, None}
use Rattle.std.proofs.lemmas.Bool.{ne_eqb}
use Rattle.geometry.specs.declared.geometry.Geometry.{Geometry}
use Rattle.image_model.specs.Headers.{obj_id, is_finished}
use Rattle.image_model.specs.Places.{entry_of}
use Rattle.image_model.specs.Live.{live_at}
use Rattle.image_laws.proofs.Finish.{is_finished-zero}
use Rattle.image_laws.proofs.Tally.{is_finished-ones}
use Rattle.image_laws.proofs.Frames.{live_parts}
use Rattle.flash_view.specs.declared.counts.Sort.{Sort}
use Rattle.flash_view.specs.declared.counts.Sort.TheVariants.{Deleted, Free}
use Rattle.flash_view.specs.Counts.{sort_of_page, sort_at}

-- an entry that is the id of no finished page is of no live page
never_live : (g : Geometry) (image : List ℕ) (p : ℕ) → ((page : List ℕ) → obj_id page ≡ entry_of g image p → is_finished page ≡ false) → live_at g image p ≡ None
never_live g image p never = dead (live_at g image p) refl
  where
    dead : (o : Option (List ℕ)) → live_at g image p ≡ o → o ≡ None
    dead None e = refl
    dead (Some page) e =
        let w = live_parts g image p page e in
        let no : is_finished page ≡ false = never page (sym w.entry) in
        let yes : is_finished page ≡ true = w.finished in
        absurd (cc)

-- such is one of 0xFFFF
pub free_is_dead : (g : Geometry) (image : List ℕ) (p : ℕ) → entry_of g image p ≡ 0xFFFF → live_at g image p ≡ None
free_is_dead g image p ones = never_live g image p (λ page is. is_finished-ones page (is ∙ ones))

-- so is a deleted one
pub deleted_sort : (g : Geometry) (image : List ℕ) (p entry : ℕ) → entry ≡ 0 → entry ≡ entry_of g image p → Deleted ≡ sort_of_page (live_at g image p)
deleted_sort g image p entry none is =
    let dead : live_at g image p ≡ None = never_live g image p (λ page own. is_finished-zero page (rw (own, ← is, none) refl)) in
    rw dead refl

-- the sort of an entry that is free, and of one that isn't
pub free_sort : (g : Geometry) (image : List ℕ) (p entry : ℕ) → entry ≡ 0xFFFF → entry ≡ entry_of g image p → Free ≡ sort_at g image p
unfolding sort_at
free_sort g image p entry free is = let ones : entry_of g image p ≡ 0xFFFF = sym is ∙ free in rw ones refl

pub used_sort : (g : Geometry) (image : List ℕ) (p entry : ℕ) (sort : Sort) → entry ≢ 0xFFFF → entry ≡ entry_of g image p → sort ≡ sort_of_page (live_at g image p) → sort ≡ sort_at g image p
unfolding sort_at
used_sort g image p entry sort used is told = let no : (entry_of g image p == 0xFFFF) ≡ false = rw (← is) (ne_eqb entry 0xFFFF used) in rw (no, told) refl
