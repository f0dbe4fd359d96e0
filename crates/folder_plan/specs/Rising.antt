-- Names that come one behind the other.
use Rattle.std.specs.Prelude.{ℕ, ◌≡◌, ◌<◌, ◌⊎◌, List}
use Rattle.std.specs.Ordering.{nat_cmp}
use Rattle.std.specs.Cmp.Lexicographic.{slice_cmp}
use Rattle.std.specs.declared.cmp.Ordering.TheVariants.{Less}
use Rattle.folder_core.specs.Files.{Entry, name_at}

-- a name comes before another in the order of bytes
abbrev pub IsBefore : List ℕ → List ℕ → Type 0
IsBefore name other = slice_cmp nat_cmp name other ≡ Less

-- each of the first names comes before this one, or is it
abbrev pub AreUpTo : List ℕ → ℕ → List Entry → Type 0
AreUpTo top i entries = (k : ℕ) → k < i → IsBefore (name_at entries k) top ⊎ (name_at entries k ≡ top)
