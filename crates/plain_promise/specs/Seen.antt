-- What the judge's values show.
use Rattle.std.specs.Prelude.{ℕ, map, List, Vec, Option, Some, None}
use Rattle.std.specs.declared.alloc.Global.{Global}
use Rattle.table_model.specs.Ask.{asked}
use Rattle.plain_table.specs.Seen.{file}
use Rattle.promise_model.specs.Lines.{Sort, Blank as ABlank, Calls, Promises, Ends, BadCall, BadPromise}
use Rattle.promise_model.specs.Promises.{Promise as APromise}
use Rattle.promise_model.specs.Verdicts.{Fault as AFault, BadLineAt, BadPromiseAt, Broken as ABroken}
use Rattle.plain_promise.specs.declared.sort.Marked.{Marked}
use Rattle.plain_promise.specs.declared.sort.Marked.TheVariants.{Promise, End, Bad as BadMark}
use Rattle.plain_promise.specs.declared.sort.Line.{Line}
use Rattle.plain_promise.specs.declared.sort.Line.TheVariants.{Blank, Call, Marked as IsMarked, Bad as BadOne}
use Rattle.plain_promise.specs.declared.promise.PlainPromise.{PlainPromise}
use Rattle.plain_promise.specs.declared.broken.Broken.{Broken}
use Rattle.plain_promise.specs.declared.grammar.Fault.{Fault}
use Rattle.plain_promise.specs.declared.grammar.Fault.TheVariants.{BadLine, BadPromise as BadForm}

-- the bytes of a text
abbrev pub text_seen : Vec ℕ Global → List ℕ
text_seen text = text.items

-- those of a text, if there is one
abbrev pub name_seen : Option (Vec ℕ Global) → Option (List ℕ)
name_seen None = None
name_seen (Some name) = Some name.items

-- those of some texts, if there are any
abbrev pub names_seen : Option (Vec (Vec ℕ Global) Global) → Option (List (List ℕ))
names_seen None = None
names_seen (Some names) = Some (map text_seen names.items)

-- a line `#!`
abbrev pub marked_seen : Marked → Sort
marked_seen (Promise form names) = Promises form (map text_seen names.items)
marked_seen End = Ends
marked_seen BadMark = BadPromise

-- a line
abbrev pub line_seen : Line → Sort
line_seen Blank = ABlank
line_seen (Call call) = Calls (asked call)
line_seen (IsMarked marked) = marked_seen marked
line_seen BadOne = BadCall

-- a promise
abbrev pub promise : PlainPromise → APromise
promise p = record { line = p.line; form = p.form; names = map text_seen p.names.items; here = name_seen p.here; there = name_seen p.there }

-- what is wrong with a line
abbrev pub fault : Fault → AFault
fault (BadLine line) = BadLineAt line
fault (BadForm line) = BadPromiseAt line

abbrev pub fault_seen : Option Fault → Option AFault
fault_seen None = None
fault_seen (Some f) = Some (fault f)

-- a promise that is broken
abbrev pub broken : Broken → ABroken
broken b = record { promise = b.promise; line = b.line; step = b.step; table = map file b.files.items }

-- the first one, if one was found
abbrev pub found : Option Broken → Option ABroken
found None = None
found (Some b) = Some (broken b)
