-- Sums of pages over a folder's files.
use Rattle.std.proofs.Common.{◌≡◌, ℕ, ◌+◌, ◌<◌, List, [], length, take, refl, sym, ◌∙◌, ap}
use Rattle.std.proofs.lemmas.List.Sums.{sum_by_more}
use Rattle.geometry.specs.declared.geometry.Geometry.{Geometry}
use Rattle.table_model.specs.Room.{index_pages, data_pages}
use Rattle.folder_core.specs.Files.{Entry, size_at}
use Rattle.folder_plan.specs.Refusals.{index_sum, data_sum}

abbrev no_entry : Entry
no_entry = record { name = []; size = 0 }

pub index_none : (g : Geometry) (entries : List Entry) → index_sum g (take 0 entries) ≡ 0
unfolding index_sum
index_none g entries = refl

pub data_none : (g : Geometry) (entries : List Entry) → data_sum g (take 0 entries) ≡ 0
unfolding data_sum
data_none g entries = refl

-- one entry more
pub index_more : (g : Geometry) (entries : List Entry) (i : ℕ) → i < length entries → index_sum g (take (i + 1) entries) ≡ index_sum g (take i entries) + index_pages g (size_at entries i)
unfolding index_sum
index_more g entries i inside = sum_by_more (λ (e : Entry). index_pages g e.size) entries i no_entry inside

pub data_more : (g : Geometry) (entries : List Entry) (i : ℕ) → i < length entries → data_sum g (take (i + 1) entries) ≡ data_sum g (take i entries) + data_pages g (size_at entries i)
unfolding data_sum
data_more g entries i inside = sum_by_more (λ (e : Entry). data_pages g e.size) entries i no_entry inside

-- the sum of pages with those of one entry more, whose size was told
pub index_step : (g : Geometry) (entries same : List Entry) (i all more size : ℕ) → i < length entries → same ≡ entries → size ≡ size_at same i → more ≡ index_pages g size → all ≡ index_sum g (take i entries) → all + more ≡ index_sum g (take (i + 1) entries)
index_step g entries same i all more size inside kept told pages was =
    let here : more ≡ index_pages g (size_at entries i) = pages ∙ ap (λ (n : ℕ). index_pages g n) (told ∙ ap (λ (l : List Entry). size_at l i) kept) in
    ap (λ (n : ℕ). all + n) here ∙ ap (λ (n : ℕ). n + index_pages g (size_at entries i)) was ∙ sym (index_more g entries i inside)

pub data_step : (g : Geometry) (entries same : List Entry) (i all more size : ℕ) → i < length entries → same ≡ entries → size ≡ size_at same i → more ≡ data_pages g size → all ≡ data_sum g (take i entries) → all + more ≡ data_sum g (take (i + 1) entries)
data_step g entries same i all more size inside kept told pages was =
    let here : more ≡ data_pages g (size_at entries i) = pages ∙ ap (λ (n : ℕ). data_pages g n) (told ∙ ap (λ (l : List Entry). size_at l i) kept) in
    ap (λ (n : ℕ). all + n) here ∙ ap (λ (n : ℕ). n + data_pages g (size_at entries i)) was ∙ sym (data_more g entries i inside)
