-- A run of written bytes that isn't on the chip yet.
use Rattle.std.specs.Prelude.{ℕ, ◌+◌, ◌*◌, ◌/◌, Bool, false, List, [], ◌++◌, length, Option, Some, None, nat_le, ◌==◌, ◌&&◌}

-- the bytes of a run, through which descriptor and into which file they go, and their place in it
pub record Run : Type 0 where
  pub fd : ℕ
  pub id : ℕ
  pub start : ℕ
  pub bytes : List ℕ

-- where the data page of a place ends, at `body` file bytes for each data page
abbrev pub page_end : ℕ → ℕ → ℕ
page_end body at = (at / body + 1) * body

-- a place is the end of a window's run, and the descriptor is the run's
abbrev pub is_at_end : Option Run → ℕ → ℕ → Bool
is_at_end None fd at = false
is_at_end (Some r) fd at = (r.fd == fd) && (r.start + length r.bytes == at)

-- so many bytes behind a window's run lie in the run's data page
abbrev pub has_room : ℕ → Option Run → ℕ → Bool
has_room body None len = false
has_room body (Some r) len = nat_le (r.start + length r.bytes + len) (page_end body r.start)

-- a write continues a window's run: it goes through the run's descriptor, starts where the run ends, and lies in its data page
unfoldable pub accepted : ℕ → Option Run → ℕ → ℕ → ℕ → Bool
accepted body run fd at len = is_at_end run fd at && has_room body run len

-- a run with more bytes at its end
abbrev pub with_more : List ℕ → Run → Run
with_more more r = record r { bytes = r.bytes ++ more }

-- a run's first byte's place in the file; 0 without a run
abbrev pub start_of : Option Run → ℕ
start_of None = 0
start_of (Some r) = r.start

-- a run's file; 0 without a run
abbrev pub id_of : Option Run → ℕ
id_of None = 0
id_of (Some r) = r.id

-- a run's bytes; none without a run
abbrev pub bytes_of : Option Run → List ℕ
bytes_of None = []
bytes_of (Some r) = r.bytes
