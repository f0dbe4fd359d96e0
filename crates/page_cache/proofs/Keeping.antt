-- Copies that stay right.
use Rattle.std.proofs.Common.{◌≡◌, ◌≢◌, ℕ, ◌+◌, ◌*◌, ◌<◌, ◌≤◌, ◌⊎◌, ⊎_elim, List, length, sym, ◌∙◌, ap, subst, arith}
use Rattle.geometry.specs.declared.geometry.Geometry.{Geometry}
use Rattle.geometry.specs.Numbers.{page_count}
use Rattle.nor_core.specs.Flash.{programmed, erased, SameOutside, HalfErased}
use Rattle.nor_core.specs.declared.device.Mark.{Mark}
use Rattle.std.specs.declared.option.Option.{Option}
use Rattle.std.specs.Prelude.{slice_index}
use Rattle.geometry.proofs.Bounds.{few_pages}
use Rattle.nor_core.specs.declared.state.NorState.{Ghosts as NorOf}
use Rattle.page_cache.specs.Frames.{frame_count, frame_at, number_of, page_in, IsFindable, IsCopy, AreSameCopies, GoesWithProgram, GoesWithErase, GivenUp, IsFree, EachFrame, EachPage}
use Rattle.page_cache.specs.Kept.{IsKept}
use Rattle.page_cache.proofs.Places.{same_or_not, lt_or_le}

outside_copy : (page at count : ℕ) (was now frame : List ℕ) → SameOutside at count was now → (number_of frame * page + page ≤ at) ⊎ (at + count ≤ number_of frame * page) → IsCopy page was frame → IsCopy page now frame
outside_copy page at count was now frame outside apart copy i inside = copy i inside ∙ ⊎_elim
    (λ before. sym (outside.before (number_of frame * page + i) (omega (arith, before, inside))))
    (λ behind. sym (outside.after (number_of frame * page + i) (omega (arith, behind))))
    apart

-- what changes of each page leave of all frames
module _ (g : Geometry) (R : List ℕ → List ℕ → Type 0) (a b : List ℕ) (each : EachPage g R a b) where
  -- a frame's number stays, where changes keep it
  pub number_still : ((x y : List ℕ) → R x y → number_of y ≡ number_of x) → (f : ℕ) → f < frame_count g a → page_in g b f ≡ page_in g a f
  number_still strict f below = ⊎_elim (λ used. strict _ _ (each.pages f below used)) (λ unused. ap number_of (each.rest f unused)) (lt_or_le (page_in g a f) (page_count g))

module _ {D : Type 0} {nor : NorOf D} (g : Geometry) (old new : D) (a b : List ℕ) (same : frame_count g b ≡ frame_count g a) where
  -- copies that only tell otherwise where others are
  pub kept_told : IsKept nor g old a → (nor.tells new → nor.tells old) → (nor.bytes new ≡ nor.bytes old) → AreSameCopies g a b → IsFindable g b → IsKept nor g new b
  kept_told kept told bytes copies findable = record {
    findable = findable;
    right = λ tells f below used i inside.
        let copy = copies f in
        copy.bytes (8 + i) (omega arith) ∙ kept.right (told tells) f (omega (arith, below, same)) (omega (arith, used, copy.number)) i inside
        ∙ ap (λ (l : List ℕ). slice_index l (number_of (frame_at g a f) * g.page + i)) (sym bytes)
        ∙ ap (λ (n : ℕ). slice_index (nor.bytes new) (n * g.page + i)) (sym copy.number);
  }

  pub kept_programmed : (at : ℕ) (from : List ℕ) → IsKept nor g old a → (nor.tells new → nor.tells old) → (nor.tells old → nor.bytes new ≡ programmed (nor.bytes old) at from) → IsFindable g b → EachPage g (GoesWithProgram g.page at from) a b → IsKept nor g new b
  kept_programmed at from kept told bytes findable each = record {
    findable = findable;
    right = λ tells f below used.
        let was : page_in g a f < page_count g = omega (arith, used, number_still g (GoesWithProgram g.page at from) a b each (λ x y r. r.number) f (omega (arith, below, same))) in
        subst (λ (l : List ℕ). IsCopy g.page l (frame_at g b f)) (sym (bytes (told tells)))
        ((each.pages f (omega (arith, below, same)) was).goes (nor.bytes old) (kept.right (told tells) f (omega (arith, below, same)) was));
  }

  pub kept_erased : (at count : ℕ) → IsKept nor g old a → (nor.tells new → nor.tells old) → (nor.tells old → at + count ≤ length (nor.bytes old)) → (nor.tells old → nor.bytes new ≡ erased (nor.bytes old) at count) → IsFindable g b → EachPage g (GoesWithErase g.page at count) a b → IsKept nor g new b
  kept_erased at count kept told fits bytes findable each = record {
    findable = findable;
    right = λ tells f below used.
        let was : page_in g a f < page_count g = omega (arith, used, number_still g (GoesWithErase g.page at count) a b each (λ x y r. r.number) f (omega (arith, below, same))) in
        subst (λ (l : List ℕ). IsCopy g.page l (frame_at g b f)) (sym (bytes (told tells)))
        ((each.pages f (omega (arith, below, same)) was).goes (nor.bytes old) (fits (told tells)) (kept.right (told tells) f (omega (arith, below, same)) was));
  }

  pub kept_failed : (at count : ℕ) → IsKept nor g old a → (nor.tells new → nor.tells old) → (nor.tells old → SameOutside at count (nor.bytes old) (nor.bytes new)) → IsFindable g b → EachPage g (GivenUp g.page at count) a b → IsKept nor g new b
  kept_failed at count kept told outside findable each = record {
    findable = findable;
    right = λ tells f below used. ⊎_elim
        (λ was. ⊎_elim
        (λ given. absurd (omega (arith, given.0, used, few_pages g)))
        (λ stays. subst (IsCopy g.page (nor.bytes new)) (sym stays.0)
        (outside_copy g.page at count (nor.bytes old) (nor.bytes new) (frame_at g a f) (outside (told tells)) stays.1
        (kept.right (told tells) f (omega (arith, below, same)) was)))
        (each.pages f (omega (arith, below, same)) was))
        (λ unused. absurd (omega (arith, ap number_of (each.rest f unused), unused, used)))
        (lt_or_le (page_in g a f) (page_count g));
  }

  -- one frame gets a page
  pub kept_loaded : (f page : ℕ) → IsKept nor g old a → (nor.tells new → nor.tells old) → (nor.bytes new ≡ nor.bytes old) → ((h : ℕ) → h ≢ f → frame_at g b h ≡ frame_at g a h)
      → IsFindable g b → (nor.tells old → IsCopy g.page (nor.bytes old) (frame_at g b f)) → IsKept nor g new b
  kept_loaded f page kept told bytes others findable copy = record {
    findable = findable;
    right = λ tells h below used. subst (λ (l : List ℕ). IsCopy g.page l (frame_at g b h)) (sym bytes) (⊎_elim
        (λ e. subst (λ (k : ℕ). IsCopy g.page (nor.bytes old) (frame_at g b k)) (sym e) (copy (told tells)))
        (λ ne. subst (IsCopy g.page (nor.bytes old)) (sym (others h ne)) (kept.right (told tells) h (omega (arith, below, same)) (subst (λ (l : List ℕ). number_of l < page_count g) (others h ne) used)))
        (same_or_not h f));
  }

  -- one frame became free, though no other did
  pub kept_lost : (f : ℕ) → IsKept nor g old a → (nor.tells new → nor.tells old) → (nor.bytes new ≡ nor.bytes old) → ((h : ℕ) → h ≢ f → number_of (frame_at g b h) ≡ page_in g a h) → ((h k : ℕ) → h ≢ f → 8 ≤ k → slice_index (frame_at g b h) k ≡ slice_index (frame_at g a h) k)
      → page_in g b f ≡ 65535 → IsFindable g b → IsKept nor g new b
  kept_lost f kept told bytes numbers copies free findable = record {
    findable = findable;
    right = λ tells h below used i inside. ⊎_elim
        (λ e. absurd (omega (arith, ap (page_in g b) e, free, used, few_pages g)))
        (λ ne.
        copies h (8 + i) ne (omega arith) ∙ kept.right (told tells) h (omega (arith, below, same)) (omega (arith, used, numbers h ne)) i inside
        ∙ ap (λ (l : List ℕ). slice_index l (page_in g a h * g.page + i)) (sym bytes)
        ∙ ap (λ (n : ℕ). slice_index (nor.bytes new) (n * g.page + i)) (sym (numbers h ne)))
        (same_or_not h f);
  }

-- a failed erase changes nothing outside its unit
pub half_outside : (start count : ℕ) (mark : Option Mark) (was now : List ℕ) → HalfErased start count mark was now → SameOutside start count was now
half_outside start count mark was now half = ⊎_elim
    (λ same. record { size = ap length same; before = λ k below. ap (λ (l : List ℕ). slice_index l k) same; after = λ k above. ap (λ (l : List ℕ). slice_index l k) same })
    (λ other. other.outside)
    half

-- free frames hold nothing wrong
pub kept_free : {D : Type 0} {nor : NorOf D} (g : Geometry) (d : D) (a b : List ℕ) → frame_count g b ≡ frame_count g a → IsFindable g b → EachFrame g IsFree a b → IsKept nor g d b
kept_free g d a b same findable free = record {
  findable = findable;
  right = λ tells f below used. absurd (omega (arith, free f (omega (arith, below, same)), used, few_pages g));
}
