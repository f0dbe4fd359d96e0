-- The turns of a remove and of a truncation one after the other.
use Rattle.std.proofs.Common.{length, ◌*◌, Result, Ok, Err, OnOk, ◌≡◌, ℕ, ◌+◌, ◌<◌, ◌≤◌, List, Bool, true, false, Some, refl, sym, ◌∙◌, arith, ⊎_elim, inl, inr}
use Rattle.std.specs.Option.{option_map}
use Rattle.std.proofs.lemmas.Bool.{cases_eq, cases_lt}
use Rattle.geometry.specs.declared.geometry.Geometry.{Geometry}
use Rattle.page_layout.specs.declared.header.PageHeader.{PageHeader}
use Rattle.page_layout.specs.Layout.{header_at}
use Rattle.geometry.specs.Numbers.{page_count}
use Rattle.image_model.specs.Within.{page_number}
use Rattle.image_model.specs.Places.{IsImage}
use Rattle.image_model.specs.Live.{live_at, own}
use Rattle.image_model.specs.Sound.{HasMagics}
use Rattle.image_laws.proofs.Finish.{own-parts}
use Rattle.image_laws.proofs.Frames.{live_parts}
use Rattle.image_laws.proofs.Sounding.{keeps-itself, keeps-on, sound-on}
use Rattle.image_laws.proofs.SpareKill.{tidy-has_magics}
use Rattle.image_laws.proofs.TidySteps.{tidy-is_tidy}
use Rattle.renew_laws.specs.Idles.{Idles}
use Rattle.renew_laws.proofs.IdleKill.{idles-end}
use Rattle.image_laws.specs.Remove.{Orphans}
use Rattle.image_laws.specs.Spares.{Spares}
use Rattle.trim_laws.proofs.Wears.{wear_none, wear_then}
use Rattle.flash_view.specs.Steps.{Step, Begins, Finishes}
use Rattle.file_drop.specs.declared.pages.Kept.{Kept}
use Rattle.file_drop.specs.Drops.{none_kept, is_left, HasLeft, DropCut, DropsPage, dropping, dropping_all}
use Rattle.file_drop.specs.Removals.{CanRemove, CanDrop, RemoveCut, HeaderDropped, dropping_header, removing_by, removing}
use Rattle.file_drop.proofs.Killing.{past_page}

-- an image that is tidy but for pages that are not needed has its magics
idles-magics : (g : Geometry) (a : List ℕ) (spare : ℕ → Bool) → Idles g spare a → HasMagics g a
idles-magics g a spare idles = ⊎_elim (λ (o : Orphans g spare a). tidy-has_magics g a spare o.tidy) (λ (s : Spares g spare a). tidy-has_magics g a spare s.tidy) idles

-- a device that holds the volume holds an image of it
pub image_of : (g : Geometry) (bytes : List ℕ) (size : ℕ) → length bytes ≡ size → g.blocks * g.block ≤ size → IsImage g bytes
image_of g bytes size len fits = record { len = omega (arith, len, fits) }

pub on_ok : {X Y : Type 0} (r : Result X Y) {P Q : Type 0} → (P → Q) → OnOk r P → OnOk r Q
on_ok (Ok x) f h = f h
on_ok (Err e) f h = tt

pub keeps_none : (g : Geometry) (id : ℕ) (kept : Kept) (a : List ℕ) → HasLeft g id kept a → DropCut g a a
keeps_none g id kept a o = record {
  all = record { keeps = keeps-itself g a (idles-magics g a (λ (q : ℕ). is_left g a id kept q) o); free = omega arith };
  wear = wear_none g a;
}

keeps_then : (g : Geometry) (a b c : List ℕ) → DropCut g a b → DropCut g b c → DropCut g a c
keeps_then g a b c x y = record {
  all = record { keeps = keeps-on g a b c x.all.keeps y.all.keeps; free = omega (arith, x.all.free, y.all.free) };
  wear = wear_then g a b c x.wear y.wear;
}

-- ---- page by page

-- no page below n is to go, and no other page than before
pub record Dropping (g : Geometry) (was now : List ℕ) (id : ℕ) (kept : Kept) (n : ℕ) : Type 0 where
  pub keeps : DropCut g was now
  pub left : HasLeft g id kept now
  pub passed : (q : ℕ) → q < n → is_left g now id kept q ≡ false
  pub others : (q : ℕ) → is_left g was id kept q ≡ false → is_left g now id kept q ≡ false

-- the turns of the pages below n
abbrev pub dropping_to : ℕ → Kept → ℕ → Step (Unit {0})
dropping_to id kept n = record { needs = λ g was. HasLeft g id kept was; cut = λ g was image. DropCut g was image; done = λ g was now ok. Dropping g was now id kept n }

pub none_yet : (g : Geometry) (a : List ℕ) (id : ℕ) (kept : Kept) → HasLeft g id kept a → DropCut g a a × Dropping g a a id kept 0
none_yet g a id kept o = (keeps_none g id kept a o, record { keeps = keeps_none g id kept a o; left = o; passed = λ q low. absurd (omega arith); others = λ q e. e })

-- pages that are passed over aren't to go
pub passes_others : (g : Geometry) (a b : List ℕ) (id : ℕ) (kept : Kept) (n m : ℕ) → ((q : ℕ) → n ≤ q → q < m → is_left g b id kept q ≡ false) → Dropping g a b id kept n → Dropping g a b id kept m
passes_others g a b id kept n m others s = record {
  keeps = s.keeps;
  left = s.left;
  others = s.others;
  passed = λ q low. ⊎_elim
      (λ (before : q < n). s.passed q before)
      (λ (behind : n ≤ q). others q behind low)
      (cases_lt q n);
}

pub turns : (g : Geometry) (a b : List ℕ) (id : ℕ) (kept : Kept) (n : ℕ) (head : PageHeader) → Some head ≡ option_map header_at (live_at g b n) → Dropping g a b id kept n → Finishes g a b (dropping id kept n head) (dropping_to id kept (n + 1))
turns g a b id kept n head live s = record {
  needs = (s.left, live);
  cut = λ c keeps. keeps_then g a b c s.keeps keeps;
  done = λ c ok turn. record {
    keeps = keeps_then g a b c s.keeps turn.keeps;
    left = turn.left;
    others = λ q e. turn.others q (s.others q e);
    passed = λ q low. ⊎_elim
        (λ (last : q ≡ n). rw last turn.gone)
        (λ (other : q ≡ n → ⊥). turn.others q (s.passed q (omega (arith, low, other))))
        (cases_eq q n);
  };
}

-- A look in between.
abbrev pub staying : Step (Unit {0})
staying = record { needs = λ g was. Unit {0}; cut = λ g was image. image ≡ was; done = λ g was now ok. now ≡ was }

-- and one that fails
abbrev pub faulty : Step (Unit {0})
faulty = record { needs = λ g was. Unit {0}; cut = λ g was image. image ≡ was; done = λ g was now ok. ⊥ }

pub fails_later : (g : Geometry) (a b : List ℕ) (id : ℕ) (kept : Kept) (n : ℕ) → Dropping g a b id kept n → Finishes g a b faulty (dropping_all id kept)
fails_later g a b id kept n s = record { needs = tt; cut = λ c same. rw same s.keeps; done = λ c ok none. absurd (none) }

pub all_passed : (g : Geometry) (a b : List ℕ) (id : ℕ) (kept : Kept) (n : ℕ) → ((q : ℕ) → n ≤ q → q < page_count g → is_left g b id kept q ≡ false) → Dropping g a b id kept n → Finishes g a b staying (dropping_all id kept)
all_passed g a b id kept n others s =
    let all = passes_others g a b id kept n (page_count g) others s in
    record {
      needs = tt;
      cut = λ c same. rw same s.keeps;
      done = λ c ok same. rw same (record {
        keeps = all.keeps;
        tidy = idles-end g b (λ (q : ℕ). is_left g b id kept q)
            (λ r mine.
            let x = past_page kept.index_pages kept.data_pages (own (live_at g b) id r) mine in
            let live : live_at g b r ≡ Some x.0 = (own-parts (live_at g b) id r x.0 x.1).0 in
            let low : r < page_count g = page_number g r (live_parts g b r x.0 live).entry_page in
            let bad : true ≡ false = sym mine ∙ all.passed r low in
            absurd (cc))
            all.left;
      });
    }

-- a page that isn't to go is passed
pub drops_none : (g : Geometry) (a : List ℕ) (id : ℕ) (kept : Kept) (p : ℕ) → is_left g a id kept p ≡ false → HasLeft g id kept a → DropsPage g id kept p a a
drops_none g a id kept p other o = record { keeps = keeps_none g id kept a o; left = o; gone = other; others = λ q e. e }

-- ---- the whole remove

-- where nothing was programmed
pub stays : (g : Geometry) (a : List ℕ) (id : ℕ) → CanRemove g a id → RemoveCut g a id a
stays g a id can =
    let m : HasMagics g a = tidy-has_magics g a (λ q. false) ((tidy-is_tidy g a (λ q. false)).0 can.tidy) in
    record { sound = (keeps-itself g a m).sound; table = inl refl; free = omega arith; wear = wear_none g a }

pub header_first : (g : Geometry) (a : List ℕ) (id p : ℕ) → CanDrop g a id p → Begins g a (dropping_header id p) (removing_by id p)
header_first g a id p can = record { needs = can; cut = λ c cut. cut }

pub pages_then : (g : Geometry) (a b : List ℕ) (id p : ℕ) → HeaderDropped g a id b → Finishes g a b (dropping_all id none_kept) (removing_by id p)
pages_then g a b id p s = record {
  needs = s.left;
  cut = λ c k. record {
    sound = sound-on g a b c s.sound k.all.keeps.sound;
    table = inr (k.all.keeps.table ∙ s.table);
    free = omega (arith, s.free, k.all.free);
    wear = wear_then g a b c s.wear k.wear;
  };
  done = λ c ok k. record { tidy = k.tidy; table = k.keeps.all.keeps.table ∙ s.table; free = omega (arith, s.free, k.keeps.all.free) };
}

pub by_header : (g : Geometry) (a : List ℕ) (id p : ℕ) → CanDrop g a id p → Finishes g a a (removing_by id p) (removing id)
by_header g a id p can = record { needs = can; cut = λ c cut. cut; done = λ c ok done. done }
