-- A reply by its bytes and numbers, apart from where they stand in memory.
use Rattle.std.specs.Prelude.{ℕ, List}
use Rattle.table_model.specs.declared.error.FsErr.{FsErr}
use Rattle.table_model.specs.declared.reply.Stat.{Stat}
use Rattle.table_model.specs.declared.reply.Info.{Info}
use Rattle.table_model.specs.declared.reply.Reply.{Reply}
use Rattle.table_model.specs.declared.reply.Reply.TheVariants.{Done, Number, Bytes, File, NoMore, Room, Refusal}

-- what a call answers
pub data Answer : Type 0 where
  Fine : Answer
  Tells : (number : ℕ) → Answer
  Gives : (bytes : List ℕ) → Answer
  Shows : (stat : Stat) → Answer
  Ends : Answer
  Counts : (info : Info) → Answer
  Refuses : (why : FsErr) → Answer

-- what a reply of the program answers
abbrev pub answered : Reply → Answer
answered Done = Fine
answered (Number number) = Tells number
answered (Bytes bytes) = Gives bytes.now
answered (File stat) = Shows stat
answered NoMore = Ends
answered (Room info) = Counts info
answered (Refusal why) = Refuses why
