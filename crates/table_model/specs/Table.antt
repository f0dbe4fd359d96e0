-- The flat table: files by id, and the descriptors on them.
use Rattle.std.specs.Prelude.{ℕ, ◌+◌, List, [], ◌∷◌, length, Bool, not, nat_lt, nat_eq, ◌==◌, Option, if◌then◌else◌, filter, find, unwrap_or}
use Rattle.std.specs.List.{range_with_len, list_any}
use Rattle.std.specs.Cmp.Lexicographic.{pointwise}

-- a file of the table
pub record File : Type 0 where
  pub id : ℕ
  pub name : List ℕ
  pub kind : ℕ
  pub meta : List ℕ
  pub bytes : List ℕ

-- an open descriptor: the file's id, the flags of its opening, and its offset
pub record Open : Type 0 where
  pub id : ℕ
  pub flags : ℕ
  pub offset : ℕ

-- The state of a volume: its files in order of ids, no two of one id or one name, and its descriptors, numbered from 1.
pub record State : Type 0 where
  pub table : List File
  pub slots : List (Option Open)

-- two texts are the same
abbrev pub same_text : List ℕ → List ℕ → Bool
same_text xs ys = pointwise nat_eq xs ys

-- a file of that name is there
unfoldable pub has_name : List ℕ → List File → Bool
has_name name files = list_any (λ f. same_text f.name name) files

-- a file of that id is there
unfoldable pub has_id : ℕ → List File → Bool
has_id id files = list_any (λ f. f.id == id) files

-- the file of that name
unfoldable pub file_named : List ℕ → List File → Option File
file_named name files = find (λ f. same_text f.name name) files

-- the file of that id
unfoldable pub file_of : ℕ → List File → Option File
file_of id files = find (λ f. f.id == id) files

-- the file of the least id above that one
unfoldable pub file_above : ℕ → List File → Option File
file_above after files = find (λ f. nat_lt after f.id) files

-- the least id from 1 that no file has
unfoldable pub least_id : List File → ℕ
least_id files = unwrap_or (find (λ id. not (has_id id files)) (range_with_len 1 (length files + 1))) 0

-- the table with a file put in its place by its id
abbrev pub put_file : File → List File → List File
put_file f [] = f ∷ []
put_file f (x ∷ xs) = if nat_lt f.id x.id then f ∷ x ∷ xs else if f.id == x.id then f ∷ xs else x ∷ put_file f xs

-- the table without a file
abbrev pub drop_file : ℕ → List File → List File
drop_file id files = filter (λ f. not (f.id == id)) files
