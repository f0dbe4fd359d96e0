-- Promises on the files of a table.
use Rattle.std.specs.Prelude.{◌≡◌, ◌⊎◌, ℕ, List, [], ◌∷◌, Option, Some, None, option_map}
use Rattle.table_model.specs.Table.{File, file_named}
use Rattle.promise_model.specs.declared.form.Form.{Form}
use Rattle.promise_model.specs.declared.form.Form.TheVariants.{First, Any, Kept}

-- these bytes, or else those
abbrev pub or_bytes : Option (List ℕ) → Option (List ℕ) → Option (List ℕ)
or_bytes (Some bytes) later = Some bytes
or_bytes None later = later

-- the bytes of the first of these files that is there
unfoldable pub bytes_of : List (List ℕ) → List File → Option (List ℕ)
bytes_of [] files = None
bytes_of (name ∷ names) files = or_bytes (option_map (λ f. f.bytes) (file_named name files)) (bytes_of names files)

-- A promise: the number of its line, its form and its names, the bytes of the first of them that is there at its line (`here`), and those at its
-- end (`there`).
pub record Promise : Type 0 where
  pub line : ℕ
  pub form : Form
  pub names : List (List ℕ)
  pub here : Option (List ℕ)
  pub there : Option (List ℕ)

-- What a promise says of the bytes of the first of its files that is there: they are those of its line or those of its end; one is there; or
-- one is there with those of its line.
abbrev pub Allows : Form → (here there now : Option (List ℕ)) → Type 0
Allows First here there now = (now ≡ here) ⊎ (now ≡ there)
Allows Any here there now = now ≡ None → ⊥
Allows Kept here there now = (now ≡ None → ⊥) × (now ≡ here)

-- a table keeps a promise
unfoldable pub Keeps : Promise → List File → Type 0
Keeps p files = Allows p.form p.here p.there (bytes_of p.names files)
