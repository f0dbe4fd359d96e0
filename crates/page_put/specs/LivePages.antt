-- A kill and a put, each as a step over the live pages.
use Rattle.std.specs.Prelude.{◌≡◌, ℕ, ◌+◌, ◌*◌, ◌/◌, ◌%◌, ◌<◌, List, [], ◌∷◌, ◌++◌, true, None, is_some, slice_index, slice_range}
use Rattle.geometry.specs.declared.geometry.Geometry.{Geometry}
use Rattle.table_model.specs.declared.error.Tag.{Tag}
use Rattle.image_model.specs.Live.{live_at}
use Rattle.image_model.specs.Places.{is_entry_page, entry_of, IsImage}
use Rattle.image_laws.specs.LiveSteps.{PutLeaves, PutDone, KillLeaves, KillDone}
use Rattle.image_laws.specs.NewFile.{IsFreePage}
use Rattle.image_laws.specs.Put.{IsReadyPage}
use Rattle.image_laws.specs.TidySteps.{Agree}
use Rattle.flash_view.specs.declared.kinds.Kind.{Kind}
use Rattle.flash_view.specs.Steps.{Step}
use Rattle.trim_laws.specs.Steps.{IsTrimHead}
use Rattle.page_put.specs.Placing.{placed_id, finished_flags, placed_page}

-- page p is live, and its flags are a byte
pub record IsKillable (g : Geometry) (image : List ℕ) (p : ℕ) : Type 0 where
  pub live : is_some (live_at g image p) ≡ true
  pub byte : slice_index image (p * g.page + 4) < 256

abbrev pub killing : ℕ → Step (Unit {0})
killing p = record { needs = λ g was. IsKillable g was p; cut = λ g was image. KillLeaves g p was image; done = λ g was now ok. KillDone g p was now }

-- page p isn't live, and its flags are a byte
pub record IsDead (g : Geometry) (image : List ℕ) (p : ℕ) : Type 0 where
  pub inside : is_entry_page g p ≡ true
  pub dead : live_at g image p ≡ None
  pub byte : slice_index image (p * g.page + 4) < 256

-- the live pages stay
pub record Stays (g : Geometry) (p : ℕ) (a c : List ℕ) : Type 0 where
  pub image : IsImage g c
  pub agree : Agree g a c p
  pub live : (q : ℕ) → live_at g c q ≡ live_at g a q

-- and the entry of p is zero
pub record Cleared (g : Geometry) (p : ℕ) (a b : List ℕ) : Type 0 where
  pub stays : Stays g p a b
  pub zero : entry_of g b p ≡ 0

abbrev pub clearing : ℕ → Step (Unit {0})
clearing p = record { needs = λ g was. IsDead g was p; cut = λ g was image. Stays g p was image; done = λ g was now ok. Cleared g p was now }

-- the bytes of a page that is finished: its header, and behind it what was built
abbrev pub finished_page : Geometry → Kind → Tag → List ℕ → List ℕ
finished_page g kind tag built =
    (placed_id kind tag.id % 256 ∷ placed_id kind tag.id / 256 ∷ tag.span % 256 ∷ tag.span / 256 ∷ finished_flags kind ∷ []) ++ slice_range built 5 g.page

-- page p is free, and what is to be put there is a page that is live once it is finished; a header page names no page behind the last one of its file
pub record IsPuttable (g : Geometry) (image : List ℕ) (p : ℕ) (kind : Kind) (tag : Tag) (built : List ℕ) : Type 0 where
  pub free : IsFreePage g image p
  pub ready : IsReadyPage g (placed_page g kind tag built) (finished_flags kind)
  pub trim : IsTrimHead g (finished_page g kind tag built)

abbrev pub putting : ℕ → Kind → Tag → List ℕ → Step (Unit {0})
putting p kind tag built = record {
  needs = λ g was. IsPuttable g was p kind tag built;
  cut = λ g was image. PutLeaves g p (finished_page g kind tag built) was image;
  done = λ g was now ok. PutDone g p (finished_page g kind tag built) was now;
}
