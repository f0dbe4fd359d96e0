-- The source's records in order of ids, up to one and behind it.
use Rattle.std.specs.Prelude.{ℕ, List, filter, nat_lt, not}
use Rattle.table_model.specs.Table.{File}

-- records of ids above one
unfoldable pub behind : (after : ℕ) → List File → List File
behind after files = filter (λ f. nat_lt after f.id) files

-- the others
unfoldable pub up_to : (after : ℕ) → List File → List File
up_to after files = filter (λ f. not (nat_lt after f.id)) files
