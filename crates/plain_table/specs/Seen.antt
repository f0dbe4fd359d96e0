-- What the plain program's values show.
use Rattle.std.specs.Prelude.{map, List, Vec, Option, Some, None}
use Rattle.std.specs.declared.alloc.Global.{Global}
use Rattle.plain_table.specs.declared.file.PlainFile.{PlainFile}
use Rattle.plain_table.specs.declared.slots.PlainOpen.{PlainOpen}
use Rattle.plain_table.specs.declared.said.Said.{Said}
use Rattle.plain_table.specs.declared.said.Said.TheVariants.{Done, Number, Bytes, File as AFile, NoMore, Room, Refusal}
use Rattle.plain_table.specs.declared.flat.Flat.{Flat}
use Rattle.table_model.specs.Table.{File, Open, State}
use Rattle.table_model.specs.Files.{stat_of}
use Rattle.table_model.specs.Reply.{Answer, Fine, Tells, Gives, Shows, Ends, Counts, Refuses}

-- a file without where its bytes lie in memory
abbrev pub file : PlainFile → File
file f = record { id = f.id; name = f.name.items; kind = f.kind; meta = f.meta.items; bytes = f.bytes.items }

-- an open descriptor
abbrev pub opened : PlainOpen → Open
opened d = record { id = d.id; flags = d.flags; offset = d.offset }

-- a descriptor, where it is open
abbrev pub held : Option PlainOpen → Option Open
held None = None
held (Some d) = Some (opened d)

-- what a call answers
abbrev pub said : Said → Answer
said Done = Fine
said (Number n) = Tells n
said (Bytes bytes) = Gives bytes.items
said (AFile f) = Shows (stat_of (file f))
said NoMore = Ends
said (Room info) = Counts info
said (Refusal why) = Refuses why

-- the flat state that the program holds
abbrev pub state_of : Flat → State
state_of f = record { table = map file f.files.items; slots = map held f.slots.items }

-- the files of a table
abbrev pub files_of : Vec PlainFile Global → List File
files_of t = map file t.items
