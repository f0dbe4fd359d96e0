-- Refusals of a folder, by the first bad name and by room.
use Rattle.std.proofs.Common.{◌≡◌, ℕ, List, Bool, true, false, Option, Some, None, Result, Ok, Err, sym, ◌∙◌, ap}
use Rattle.std.specs.Prelude.{IfOk, if◌then◌else◌}
use Rattle.geometry.specs.declared.geometry.Geometry.{Geometry}
use Rattle.folder_core.specs.Files.{Entry}
use Rattle.folder_plan.specs.declared.refusing.Refusal.{Refusal}
use Rattle.folder_plan.specs.declared.refusing.Refusal.TheVariants.{BadNames, Full}
use Rattle.folder_plan.specs.Refusals.{first_bad, index_sum, data_sum, leaves_two, fits, refusal_by, make_refusal}

-- a bad name
pub by_name : (g : Geometry) (entries : List Entry) (at : ℕ) → Some at ≡ first_bad entries → Some (BadNames at) ≡ make_refusal g entries
unfolding make_refusal
by_name g entries at first = ap (λ (o : Option ℕ). refusal_by g entries o) first

-- none
pub by_room : {E : Type 0} (g : Geometry) (entries same : List Entry) (result : Result (Option Refusal) E) → None ≡ first_bad entries → same ≡ entries → IfOk result (λ why. why ≡ refusal_by g same None) → IfOk result (λ why. why ≡ make_refusal g entries)
unfolding make_refusal
by_room g entries same (Ok why) first kept is = is ∙ ap (λ (l : List Entry). refusal_by g l None) kept ∙ ap (λ (o : Option ℕ). refusal_by g entries o) first
by_room g entries same (Err e) first kept is = tt {0}

sums : (g : Geometry) (entries : List Entry) (index pages : ℕ) → index ≡ index_sum g entries → pages ≡ data_sum g entries → leaves_two g index pages ≡ fits g entries
sums g entries index pages i p = ap (λ (n : ℕ). leaves_two g n pages) i ∙ ap (λ (n : ℕ). leaves_two g (index_sum g entries) n) p

-- there is room for these pages
pub has_some : (g : Geometry) (entries : List Entry) (index pages : ℕ) → index ≡ index_sum g entries → pages ≡ data_sum g entries → leaves_two g index pages ≡ true → None ≡ refusal_by g entries None
has_some g entries index pages i p room = ap (λ (b : Bool). if b then None else Some (Full (index_sum g entries) (data_sum g entries))) (sym room ∙ sums g entries index pages i p)

-- there is none
pub has_none : (g : Geometry) (entries : List Entry) (index pages : ℕ) → index ≡ index_sum g entries → pages ≡ data_sum g entries → leaves_two g index pages ≡ false → Some (Full index pages) ≡ refusal_by g entries None
has_none g entries index pages i p room =
    ap (λ (n : ℕ). Some (Full n pages)) i ∙ ap (λ (n : ℕ). Some (Full (index_sum g entries) n)) p
    ∙ ap (λ (b : Bool). if b then None else Some (Full (index_sum g entries) (data_sum g entries))) (sym room ∙ sums g entries index pages i p)
