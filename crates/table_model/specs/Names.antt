-- Which names are refused.
use Rattle.std.specs.Prelude.{ℕ, List, length, Bool, nat_lt, ◌==◌, ◌||◌, Option, Some, None, if◌then◌else◌}
use Rattle.std.specs.List.{list_any}
use Rattle.table_model.specs.declared.error.FsErr.{FsErr}
use Rattle.table_model.specs.declared.error.FsErr.TheVariants.{BadName, NameTooLong}

-- an empty name, or one that holds a zero byte
abbrev pub is_bad_name : List ℕ → Bool
is_bad_name name = (length name == 0) || list_any (λ b. b == 0) name

-- a name of more than 31 bytes: it and a zero byte fill the name field of a header page
abbrev pub is_long_name : List ℕ → Bool
is_long_name name = nat_lt 31 (length name)

-- why a name is refused, if it is
unfoldable pub name_refusal : List ℕ → Option FsErr
name_refusal name =
    if is_bad_name name then Some BadName
    else if is_long_name name then Some NameTooLong
    else None

-- why the two names of a rename are refused: first a bad one of the two, then a long one
unfoldable pub names_refusal : List ℕ → List ℕ → Option FsErr
names_refusal old_name new_name =
    if is_bad_name old_name || is_bad_name new_name then Some BadName
    else if is_long_name old_name || is_long_name new_name then Some NameTooLong
    else None
