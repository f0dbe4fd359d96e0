-- How typed calls are answered, and calls that don't do what they are asked.
use Rattle.std.specs.Prelude.{ℕ, List, take, Bool, false, ◌||◌, Option, Some, None, Result, Ok, Err}
use Rattle.table_model.specs.declared.error.FsErr.{FsErr}
use Rattle.table_model.specs.declared.error.FsErr.TheVariants.{BadDescriptor}
use Rattle.table_model.specs.Table.{Open}
use Rattle.table_model.specs.Reply.{Answer, Gives, Refuses}
use Rattle.file_calls.specs.Replies.{is_damage, is_fault, is_tight}

-- a typed result, by what it shows where it is Ok
abbrev pub told : {T : Type 0} → (T → Answer) → Result T FsErr → Answer
told shows (Ok x) = shows x
told shows (Err why) = Refuses why

-- the answer tells that the device failed, or that a page reads otherwise
abbrev pub breaks : Answer → Bool
breaks (Refuses why) = is_fault why || is_damage why
breaks _ = false

-- how a call may be answered where bytes wait that can't be put onto the chip first
abbrev pub may_settle : Answer → Bool
may_settle (Refuses why) = is_fault why || (is_damage why || is_tight why)
may_settle _ = false

-- what a read answers: bytes at the front of those that were lent
abbrev pub as_read : Result ℕ FsErr → List ℕ → Answer
as_read (Ok n) into = Gives (take n into)
as_read (Err why) into = Refuses why

-- what telling an offset answers
abbrev pub offset_of : Option Open → Result ℕ FsErr
offset_of None = Err BadDescriptor
offset_of (Some d) = Ok d.offset
