-- What a tidy image has nothing of, and what makes an image neat.
use Rattle.std.proofs.Common.{◌≡◌, ℕ, ◌%◌, ◌⊎◌, List, [], true, false, not, ◌&&◌, refl, sym, ◌∙◌, arith, ⊎_elim, inl, inr, subst}
use Rattle.std.specs.Prelude.{Option, Some, None, is_some, is_none}
use Rattle.std.proofs.lemmas.Bool.{cases_Bool, cases_eq, false≢true, true≢false, not-false, eq-eqb, ne_eqb}
use Rattle.std.proofs.lemmas.Option.{same_Some}
use Rattle.geometry.specs.declared.geometry.Geometry.{Geometry}
use Rattle.image_model.specs.Places.{entry_of, is_entry_page, block_of}
use Rattle.image_model.specs.Headers.{obj_id, span_of, names_index}
use Rattle.image_model.specs.Live.{live_at, own}
use Rattle.image_model.specs.Files.{index_page}
use Rattle.image_model.specs.Tables.{damaged_of}
use Rattle.image_model.specs.Tidy.{IsTidy, IsNeat, is_wanted, is_free_entry, serves}
use Rattle.image_model.specs.Killed.{is_used, is_dead_entry}
use Rattle.image_model.specs.Within.{block_number, page_number}
use Rattle.image_laws.proofs.SpareKill.{wanted-or_spare}
use Rattle.image_laws.proofs.TidySteps.{neat-none, neat_of}
use Rattle.image_laws.proofs.Wants.{wanted_parts}
use Rattle.vol_check.specs.Stage.{IsClean}
use Rattle.vol_check.specs.Culls.{is_doubled, is_doubled_as, HasNoDoubles, is_unwanted, IsServed}
use Rattle.vol_check.specs.MadeFresh.{HasAllMagics}
use Rattle.vol_check.proofs.CullStep.{used_by}
use Rattle.vol_check.proofs.Resting.{own_self, served_index}

-- ---- a tidy image has nothing to kill

not_used_zero : (g : Geometry) (a : List ℕ) (p : ℕ) → entry_of g a p ≡ 0 → is_dead_entry g a p ≡ false
unfolding is_used
not_used_zero g a p e = rw e (grind arith)

not_used_free : (g : Geometry) (a : List ℕ) (p : ℕ) → is_free_entry g a p ≡ true → is_dead_entry g a p ≡ false
unfolding is_used
not_used_free g a p e = rw e (grind arith)

not_dead : (g : Geometry) (a : List ℕ) (p : ℕ) → is_wanted g a p ≡ true → is_dead_entry g a p ≡ false
unfolding is_wanted
not_dead g a p e = let w = wanted_parts g (live_at g a) p e in rw w.is (grind arith)

no_entry : (g : Geometry) (a : List ℕ) (p : ℕ) → is_entry_page g p ≡ false → is_dead_entry g a p ≡ false
unfolding is_used
no_entry g a p e = rw e refl

pub tidy_clean : (g : Geometry) (a : List ℕ) → IsTidy g a → IsClean g a
tidy_clean g a t p =
    ⊎_elim
    (λ (page : is_entry_page g p ≡ true). ⊎_elim
    (λ (zero : entry_of g a p ≡ 0). not_used_zero g a p zero)
    (λ (more : (is_free_entry g a p ≡ true) ⊎ (is_wanted g a p ≡ true)). ⊎_elim (λ (free : is_free_entry g a p ≡ true). not_used_free g a p free) (λ (wanted : is_wanted g a p ≡ true). not_dead g a p wanted) more)
    (t.entries p page))
    (λ (none : is_entry_page g p ≡ false). no_entry g a p none)
    (cases_Bool (is_entry_page g p))

-- ---- nor a page to cull

pub tidy_wanted : (g : Geometry) (a : List ℕ) (p : ℕ) (page : List ℕ) → IsTidy g a → live_at g a p ≡ Some page → is_wanted g a p ≡ true
tidy_wanted g a p page t live =
    ⊎_elim
    (λ (spare : false ≡ true). absurd (false≢true spare))
    (λ (wanted : is_wanted g a p ≡ true). wanted)
    (wanted-or_spare g a (λ q. false) (neat-none (λ q. false) (neat_of t)) p page live)

pub tidy_served : (g : Geometry) (a : List ℕ) → IsTidy g a → IsServed g a
unfolding is_unwanted
tidy_served g a t p = by (live_at g a p) refl
  where
    by : (o : Option (List ℕ)) → live_at g a p ≡ o → (is_some o && not (is_wanted g a p)) ≡ false
    by None e = refl
    by (Some page) e = rw (tidy_wanted g a p page t e) refl

-- a wanted index page is the one of its id and span
wanted_single : (g : Geometry) (a : List ℕ) (p : ℕ) (page : List ℕ) → live_at g a p ≡ Some page → is_wanted g a p ≡ true → names_index page ≡ true →
    index_page g (own (live_at g a) (obj_id page % 0x8000)) (span_of page) ≡ Some p
unfolding is_wanted
wanted_single g a p page live wanted index =
    let w = wanted_parts g (live_at g a) p wanted in
    let same : w.page ≡ page = same_Some w.page page (sym w.is ∙ live) in
    let served : serves g (own (live_at g a) (obj_id page % 0x8000)) w.head p ≡ true = subst (λ (x : List ℕ). serves g (own (live_at g a) (obj_id x % 0x8000)) w.head p ≡ true) same w.served in
    served_index g (own (live_at g a) (obj_id page % 0x8000)) w.head page p (own_self (live_at g a) p page live) index served

pub tidy_single : (g : Geometry) (a : List ℕ) → IsTidy g a → HasNoDoubles g a
unfolding is_doubled
tidy_single g a t p = by (live_at g a p) refl
  where
    by : (o : Option (List ℕ)) → live_at g a p ≡ o → is_doubled_as g a p o ≡ false
    by None e = refl
    by (Some page) e = ⊎_elim
        (λ (index : names_index page ≡ true). rw (index, wanted_single g a p page e (tidy_wanted g a p page t e) index, eq-eqb p p refl) refl)
        (λ (other : names_index page ≡ false). rw other refl)
        (cases_Bool (names_index page))

-- ---- what makes an image neat

not_none : (o : Option (List ℕ)) → is_none o ≡ false → is_some o ≡ true
not_none None e = absurd (true≢false e)
not_none (Some page) e = refl

-- an entry in use whose page isn't dead is that of a wanted page
pub wanted_by : (g : Geometry) (a : List ℕ) (p : ℕ) → IsClean g a → IsServed g a → is_used g a p ≡ true → is_wanted g a p ≡ true
unfolding is_unwanted
wanted_by g a p clean served used =
    let alive : is_none (live_at g a p) ≡ false = rw used at (clean p) in
    let none : not (is_wanted g a p) ≡ false = rw (not_none (live_at g a p) alive) at (served p) in
    not-false (is_wanted g a p) none

pub neat_after : (g : Geometry) (a : List ℕ) → HasAllMagics g a → IsClean g a → IsServed g a → damaged_of g a ≡ [] → IsNeat g a
neat_after g a magics clean served undamaged = record {
  magic = magics;
  entries = λ p page. ⊎_elim
      (λ (zero : entry_of g a p ≡ 0). inl zero)
      (λ (used : entry_of g a p ≡ 0 → ⊥). ⊎_elim
      (λ (free : is_free_entry g a p ≡ true). inr (inl free))
      (λ (taken : is_free_entry g a p ≡ false). inr (inr (wanted_by g a p clean served (used_by g a p page (magics (block_of g p) (block_number g p (page_number g p page))) (ne_eqb _ 0 used) taken))))
      (cases_Bool (is_free_entry g a p)))
      (cases_eq (entry_of g a p) 0);
  undamaged = undamaged;
}
