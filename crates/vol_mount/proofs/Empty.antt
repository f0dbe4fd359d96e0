-- An image with no live page has no files.
use Rattle.std.proofs.Common.{◌≡◌, ℕ, List, [], refl, None}
use Rattle.std.specs.List.{range_with_len}
use Rattle.geometry.specs.declared.geometry.Geometry.{Geometry}
use Rattle.geometry.specs.Numbers.{page_count}
use Rattle.image_model.specs.Live.{Live, live_at, own}
use Rattle.image_model.specs.Files.{is_index, index_page, found}
use Rattle.image_model.specs.Tables.{Found, counted, damage, records, damages, has_of, table_of, damaged_of}
use Rattle.image_laws.proofs.Tables.{find_none}
use Rattle.image_laws.proofs.Undamaged.{filter_map-none}

has_none : (g : Geometry) (live : Live) → ((p : ℕ) → live p ≡ None) → (id : ℕ) → has_of g live id ≡ None
unfolding has_of found index_page own
has_none g live none id =
    let first : index_page g (own live id) 0 ≡ None = find_none (λ p. is_index (own live id p) 0) (range_with_len 0 (page_count g)) (λ q. rw (none q) refl) in
    rw first refl

no_records : (has : Found) (n : ℕ) → ((id : ℕ) → has id ≡ None) → records has n ≡ []
unfolding records
no_records has n none = filter_map-none (λ id. counted has n (has id)) 1 n (λ id low high. rw (none id) refl)

no_damages : (has : Found) (n : ℕ) → ((id : ℕ) → has id ≡ None) → damages has n ≡ []
unfolding damages
no_damages has n none = filter_map-none (λ id. damage has n id (has id)) 1 n (λ id low high. rw (none id) refl)

module _ (g : Geometry) (image : List ℕ) (none : (p : ℕ) → live_at g image p ≡ None) where
  pub table_none : table_of g image ≡ []
  unfolding table_of
  table_none = no_records (has_of g (live_at g image)) 0x7FFF (has_none g (live_at g image) none)

  pub damaged_none : damaged_of g image ≡ []
  unfolding damaged_of
  damaged_none = no_damages (has_of g (live_at g image)) 0x7FFF (has_none g (live_at g image) none)
