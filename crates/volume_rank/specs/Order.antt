-- Which candidate reads better.
use Rattle.std.specs.Prelude.{ℕ, ◌≡◌, ◌-◌, ◌<◌, ◌⊎◌, Bool, ◌==◌, ◌&&◌, ◌||◌, nat_lt, true, false, List, length, slice_index_or, Option, Some, None}
use Rattle.volume_rank.specs.declared.found.Found.{Found}

-- how many blocks lack their magic, but for one, which may also lack it in a volume that mounts
abbrev pub lost_blocks : Found → ℕ
lost_blocks f = f.spoiled - 1

-- Of two that read as many files, and as many blocks of which are lost, one comes before the other: fewer ids are damaged, or as many and its
-- place is lower, which goes by the byte, then the block, the page and what the magic tells.
abbrev pub IsSounder : Found → Found → Type 0
IsSounder f g = (f.counts.damaged < g.counts.damaged) ⊎ ((f.counts.damaged ≡ g.counts.damaged) × (f.place < g.place))

-- Of two that read as many files: fewer blocks are lost, or as many.
abbrev pub IsFirmer : Found → Found → Type 0
IsFirmer f g = (lost_blocks f < lost_blocks g) ⊎ ((lost_blocks f ≡ lost_blocks g) × IsSounder f g)

-- One comes before another: it has more whole files, or as many.
abbrev pub IsBefore : Found → Found → Type 0
IsBefore f g = (g.counts.whole < f.counts.whole) ⊎ ((g.counts.whole ≡ f.counts.whole) × IsFirmer f g)

-- the same as tests
abbrev pub is_sounder : Found → Found → Bool
is_sounder f g = nat_lt f.counts.damaged g.counts.damaged || ((f.counts.damaged == g.counts.damaged) && nat_lt f.place g.place)

abbrev pub is_firmer : Found → Found → Bool
is_firmer f g = nat_lt (lost_blocks f) (lost_blocks g) || ((lost_blocks f == lost_blocks g) && is_sounder f g)

abbrev pub is_before : Found → Found → Bool
is_before f g = nat_lt g.counts.whole f.counts.whole || ((g.counts.whole == f.counts.whole) && is_firmer f g)

-- it comes behind that one, if there is one
abbrev pub is_behind : Option Found → Found → Bool
is_behind None f = true
is_behind (Some after) f = is_before after f

-- the better of the best so far and one more
abbrev pub Better : Option Found → Found → Option Found → Type 0
Better None f next = next ≡ Some f
Better (Some best) f next = ((is_before f best ≡ true) × (next ≡ Some f)) ⊎ ((is_before f best ≡ false) × (next ≡ Some best))

-- the first of a list that comes behind one, or there is none
abbrev pub FirstBehind : List Found → Option Found → Option Found → Type 0
FirstBehind list after (Some f) = (is_behind after f ≡ true) × ((d : Found) → (k : ℕ) × (k < length list) × (slice_index_or list k d ≡ f))
    × ((d : Found) (k : ℕ) → k < length list → is_behind after (slice_index_or list k d) ≡ true → is_before (slice_index_or list k d) f ≡ true → ⊥)
FirstBehind list after None = (d : Found) (k : ℕ) → k < length list → is_behind after (slice_index_or list k d) ≡ true → ⊥
