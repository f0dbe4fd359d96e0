-- The table of an image, and its damaged files.
use Rattle.std.specs.Prelude.{ℕ, List, Bool, false, not, nat_lt, ◌&&◌, Option, Some, None, Result, Ok, Err, if◌then◌else◌, find, unwrap_or}
use Rattle.std.specs.List.{range_with_len, filter_map, list_any}
use Rattle.geometry.specs.declared.geometry.Geometry.{Geometry}
use Rattle.table_model.specs.Table.{File, same_text}
use Rattle.image_model.specs.declared.damage.Damage.{Damage}
use Rattle.image_model.specs.declared.damage.Damage.TheVariants.{SameName}
use Rattle.image_model.specs.Live.{Live, live_at, own}
use Rattle.image_model.specs.Files.{found}

-- what each id has where it has a header page: that page's number, and the file or its damage
abbrev pub Found : Type 0
Found = ℕ → Option (ℕ × Result File Damage)

-- the ids from 1 to n
abbrev pub ids : ℕ → List ℕ
ids n = range_with_len 1 n

-- a whole file of that name whose header page stands before page p
abbrev pub is_before : Option (ℕ × Result File Damage) → ℕ → List ℕ → Bool
is_before None p name = false
is_before (Some (q, Err e)) p name = false
is_before (Some (q, Ok f)) p name = nat_lt q p && same_text f.name name

-- Of several whole files with one name the one whose header page is first counts.
unfoldable pub counts : Found → ℕ → ℕ → List ℕ → Bool
counts has n p name = not (list_any (λ id. is_before (has id) p name) (ids n))

-- the file of an id, where it is whole and counts
abbrev pub counted : Found → ℕ → Option (ℕ × Result File Damage) → Option File
counted has n None = None
counted has n (Some (p, Err e)) = None
counted has n (Some (p, Ok f)) = if counts has n p f.name then Some f else None

-- the files that count, in order of ids
unfoldable pub records : Found → ℕ → List File
records has n = filter_map (λ id. counted has n (has id)) (ids n)

-- the file has that name
abbrev pub is_named : Option File → List ℕ → Bool
is_named None name = false
is_named (Some f) name = same_text f.name name

-- the id that counts of those with that name
unfoldable pub holder : Found → ℕ → List ℕ → ℕ
holder has n name = unwrap_or (find (λ id. is_named (counted has n (has id)) name) (ids n)) 0

-- an id that has a header page and no file that counts, with its cause
abbrev pub damage : Found → ℕ → ℕ → Option (ℕ × Result File Damage) → Option (ℕ × Damage)
damage has n id None = None
damage has n id (Some (p, Err e)) = Some (id, e)
damage has n id (Some (p, Ok f)) = if counts has n p f.name then None else Some (id, SameName (holder has n f.name))

-- these, in order of ids
unfoldable pub damages : Found → ℕ → List (ℕ × Damage)
damages has n = filter_map (λ id. damage has n id (has id)) (ids n)

-- what each id has among these live pages
unfoldable pub has_of : Geometry → Live → Found
has_of g live id = found g (own live id) id

-- the table of an image: the files that count, in order of ids
unfoldable pub table_of : Geometry → List ℕ → List File
table_of g image = records (has_of g (live_at g image)) 0x7FFF

-- its damaged files: every other id that has a header page, in order of ids, each with its first cause
unfoldable pub damaged_of : Geometry → List ℕ → List (ℕ × Damage)
damaged_of g image = damages (has_of g (live_at g image)) 0x7FFF
