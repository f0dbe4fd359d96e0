-- A volume whose descriptors are all closed.
use Rattle.std.specs.Prelude.{ℕ, List, replicate, min, None}
use Rattle.table_model.specs.Table.{File, State}

-- a volume with these files and so many descriptors, all closed
abbrev pub with_files : (slots : ℕ) → List File → State
with_files slots files = record { table = files; slots = replicate (min 65535 slots) None }
