-- What the counts of a block say of a page that is wanted.
use Rattle.std.specs.Prelude.{ℕ, Bool}
use Rattle.flash_view.specs.declared.kinds.Kind.{Kind}
use Rattle.flash_view.specs.declared.counts.BlockCounts.{BlockCounts}
use Rattle.flash_view.specs.Counts.{takes}

-- by these counts the free entries of a block in use are for a kind, and there are such
abbrev pub the_takes : BlockCounts → Kind → ℕ → Bool
the_takes c kind entries = takes c kind entries
