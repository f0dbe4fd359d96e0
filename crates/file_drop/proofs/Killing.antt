-- A kill of a page that is to go, as a change of the live pages.
use Rattle.std.proofs.Common.{◌≡◌, ◌≢◌, ℕ, ◌+◌, ◌*◌, ◌<◌, List, arith, slice_index, Bool, true, false, not, ◌==◌, ◌&&◌, Option, Some, None, ap, refl, sym, ◌∙◌, ⊎_elim, inl, inr, subst}
use Rattle.std.specs.Prelude.{is_some}
use Rattle.std.proofs.Math.Bool.{and-true}
use Rattle.std.proofs.Math.Path.{fun_ext}
use Rattle.std.proofs.lemmas.Bool.{cases_eq, eq-eqb, ne_eqb, le-leb}
use Rattle.geometry.specs.declared.geometry.Geometry.{Geometry}
use Rattle.page_layout.specs.declared.header.PageHeader.{PageHeader}
use Rattle.image_model.specs.Headers.{names_index, span_of}
use Rattle.image_model.specs.Places.{is_entry_page}
use Rattle.image_model.specs.Live.{Live, live_at, own}
use Rattle.image_model.specs.Tidy.{is_free_entry}
use Rattle.image_model.specs.Sound.{HasMagics}
use Rattle.image_laws.specs.LiveSteps.{KillLeaves, KillDone}
use Rattle.image_laws.specs.Remove.{Orphans}
use Rattle.image_laws.proofs.Append.{own-live}
use Rattle.image_laws.proofs.Finish.{own-parts}
use Rattle.image_laws.proofs.FreeBlocks.{free_blocks-fall, used-is_not_free}
use Rattle.image_laws.proofs.Sounding.{keeps-by_live}
use Rattle.image_laws.proofs.TidySteps.{tidy_live}
use Rattle.renew_laws.specs.Idles.{Idles}
use Rattle.renew_laws.specs.Truncate.{is_past}
use Rattle.renew_laws.proofs.IdleKill.{idle-kills}
use Rattle.trim_laws.proofs.Wears.{programs_keep}
use Rattle.flash_view.specs.Steps.{Finishes}
use Rattle.page_put.specs.LivePages.{killing, Stays, Cleared}
use Rattle.page_renew.specs.EditLaws.{past_of}
use Rattle.file_drop.specs.declared.pages.Kept.{Kept}
use Rattle.file_drop.specs.Drops.{none_kept, is_left, HasLeft, DropCut, DropsPage, dropping}

-- ---- the pages of an id

pub own_none : (live : Live) (id q : ℕ) → live q ≡ None → own live id q ≡ None
unfolding own
own_none live id q e = rw e refl

pub some_page : (o : Option (List ℕ)) → is_some o ≡ true → (x : List ℕ) × (o ≡ Some x)
some_page None e = absurd (cc)
some_page (Some x) e = (x, refl)

pub past_page : (index pages : ℕ) (o : Option (List ℕ)) → past_of index pages o ≡ true → (x : List ℕ) × (o ≡ Some x)
past_page index pages None e = absurd (cc)
past_page index pages (Some x) e = (x, refl)

-- with none kept each of them is to go
all_past : (o : Option (List ℕ)) → past_of 0 0 o ≡ is_some o
all_past None = refl
all_past (Some x) = either (names_index x) refl
  where
    either : (b : Bool) → names_index x ≡ b → is_past 0 0 x ≡ true
    either true e = rw e (le-leb 0 (span_of x) (omega arith))
    either false e = rw e (le-leb 0 (span_of x) (omega arith))

pub all_left : (g : Geometry) (image : List ℕ) (id p : ℕ) → is_left g image id none_kept p ≡ is_some (own (live_at g image) id p)
all_left g image id p = all_past (own (live_at g image) id p)

-- ---- a page that is to go

module _ (g : Geometry) (a : List ℕ) (id : ℕ) (kept : Kept) (p : ℕ) (o : HasLeft g id kept a) (mine : is_left g a id kept p ≡ true) where
  page : (x : List ℕ) × (own (live_at g a) id p ≡ Some x)
  page = past_page kept.index_pages kept.data_pages (own (live_at g a) id p) mine

  live : live_at g a p ≡ Some page.0
  live = (own-parts (live_at g a) id p page.0 page.1).0

  cut : (c : List ℕ) → KillLeaves g p a c → DropCut g a c
  cut c h =
      let w = (idle-kills g a p page.0 (λ (q : ℕ). is_left g a id kept q) o mine live).0 c h in
      record { all = record { keeps = w.0; free = w.1 }; wear = programs_keep g a c p h.agree }

  module _ (c : List ℕ) (h : KillDone g p a c) where
    gone : is_left g c id kept p ≡ false
    gone = ap (past_of kept.index_pages kept.data_pages) (own_none (live_at g c) id p h.loses.after)

    other : (q : ℕ) → q ≢ p → is_left g c id kept q ≡ is_left g a id kept q
    other q there = ap (past_of kept.index_pages kept.data_pages) (own-live (live_at g a) (live_at g c) id q (h.loses.others q there))

    same : (q : ℕ) → (is_left g a id kept q && not (q == p)) ≡ is_left g c id kept q
    same q = ⊎_elim
        (λ (here : q ≡ p). rw (here, mine, eq-eqb p p refl) (sym gone))
        (λ (there : q ≡ p → ⊥). rw (ne_eqb q p there) (and-true (is_left g a id kept q) ∙ sym (other q there)))
        (cases_eq q p)

    done : DropsPage g id kept p a c
    done =
        let w = (idle-kills g a p page.0 (λ (q : ℕ). is_left g a id kept q) o mine live).1 c h in
        record {
          keeps = record { all = record { keeps = w.0; free = w.1 }; wear = programs_keep g a c p h.agree };
          left = subst (λ (t : ℕ → Bool). Idles g t c) (fun_ext same) w.2;
          gone = gone;
          others = λ q e. ⊎_elim (λ (here : q ≡ p). rw here gone) (λ (there : q ≡ p → ⊥). other q there ∙ e) (cases_eq q p);
        }

-- its kill is its turn
pub drops : (g : Geometry) (a : List ℕ) (id : ℕ) (kept : Kept) (p : ℕ) (head : PageHeader) → HasLeft g id kept a → is_left g a id kept p ≡ true → slice_index a (p * g.page + 4) < 256 → Finishes g a a (killing p) (dropping id kept p head)
drops g a id kept p head o mine byte = record { needs = record { live = ap is_some (live g a id kept p o mine); byte = byte }; cut = cut g a id kept p o mine; done = λ c ok h. done g a id kept p o mine c h }

-- ---- a page of the id that isn't live, as its header page is

pub dead_keeps : (g : Geometry) (a c : List ℕ) (p : ℕ) → HasMagics g a → is_entry_page g p ≡ true → is_free_entry g a p ≡ false → Stays g p a c → DropCut g a c
dead_keeps g a c p magics inside used h = record {
  all = record { keeps = keeps-by_live g a c magics h.agree.magic h.live; free = (free_blocks-fall g a c p h.agree).1 (used-is_not_free g a p inside used) };
  wear = programs_keep g a c p h.agree;
}

pub dead_orphans : (g : Geometry) (a c : List ℕ) (id p : ℕ) (spare : ℕ → Bool) → Orphans g spare a → ((q : ℕ) → q ≢ p → spare q ≡ true → is_left g a id none_kept q ≡ true) → ((q : ℕ) → is_left g a id none_kept q ≡ true → spare q ≡ true) →
    Cleared g p a c → HasLeft g id none_kept c
dead_orphans g a c id p spare o leaves back h =
    let same : live_at g c ≡ live_at g a = fun_ext h.stays.live in
    inl
    (record {
      tidy = tidy_live g a c p spare (λ (q : ℕ). is_left g c id none_kept q) h.stays.agree o.tidy (λ q there yes. rw same (leaves q there yes)) h.stays.live (inr (inl h.zero));
      headless = λ r x yes e. rw same (o.headless r x (back r (rw same at yes)) (rw same at e));
    })
