-- A call by its bytes and numbers, apart from where they stand in memory.
use Rattle.std.specs.Prelude.{ℕ, ℤ, List}
use Rattle.table_model.specs.declared.call.Whence.{Whence}
use Rattle.table_model.specs.declared.call.Call.{Call}
use Rattle.table_model.specs.declared.call.Call.TheVariants.{Create, OpenFile, Read, Write, Fill, Seek, Tell, Truncate, Flush, Close, Remove, FRemove, Rename}
use Rattle.table_model.specs.declared.call.Call.TheVariants.{StatName, FStat, Next, GetInfo, Gc, SetMeta, FSetMeta}

-- what a call asks
pub data Ask : Type 0 where
  Creates : (name : List ℕ) → Ask
  Opens : (name : List ℕ) → (flags : ℕ) → Ask
  Reads : (fd : ℕ) → (count : ℕ) → Ask
  Writes : (fd : ℕ) → (bytes : List ℕ) → Ask
  Fills : (fd : ℕ) → (count : ℕ) → (byte : ℕ) → Ask
  Seeks : (fd : ℕ) → (offset : ℤ) → (from : Whence) → Ask
  Tells : (fd : ℕ) → Ask
  Truncates : (fd : ℕ) → (size : ℕ) → Ask
  Flushes : (fd : ℕ) → Ask
  Closes : (fd : ℕ) → Ask
  Removes : (name : List ℕ) → Ask
  RemovesOpen : (fd : ℕ) → Ask
  Renames : (old_name : List ℕ) → (new_name : List ℕ) → Ask
  Stats : (name : List ℕ) → Ask
  StatsOpen : (fd : ℕ) → Ask
  NextAbove : (after : ℕ) → Ask
  Informs : Ask
  Collects : Ask
  SetsMeta : (name : List ℕ) → (meta : List ℕ) → Ask
  SetsMetaOpen : (fd : ℕ) → (meta : List ℕ) → Ask

-- what a call of the program asks
abbrev pub asked : Call → Ask
asked (Create name) = Creates name.now
asked (OpenFile name flags) = Opens name.now flags
asked (Read fd count) = Reads fd count
asked (Write fd bytes) = Writes fd bytes.now
asked (Fill fd count byte) = Fills fd count byte
asked (Seek fd offset from) = Seeks fd offset from
asked (Tell fd) = Tells fd
asked (Truncate fd size) = Truncates fd size
asked (Flush fd) = Flushes fd
asked (Close fd) = Closes fd
asked (Remove name) = Removes name.now
asked (FRemove fd) = RemovesOpen fd
asked (Rename old_name new_name) = Renames old_name.now new_name.now
asked (StatName name) = Stats name.now
asked (FStat fd) = StatsOpen fd
asked (Next after) = NextAbove after
asked GetInfo = Informs
asked Gc = Collects
asked (SetMeta name meta) = SetsMeta name.now meta.now
asked (FSetMeta fd meta) = SetsMetaOpen fd meta.now
