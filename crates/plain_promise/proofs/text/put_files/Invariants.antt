-- The lines of the files so far stand behind the text.
use Rattle.std.proofs.Common.{◌≡◌, ◌++◌, map, take}
use Rattle.plain_table.specs.Seen.{file}
use Rattle.promise_model.specs.Texts.{files_text}
use Rattle.plain_promise.proofs.text.put_files.Given as goal

abbrev pub invariant-loop-f : goal.invariant-loop-f
invariant-loop-f l = l.text.items ≡ l.fn.text.items ++ files_text (map file (take l.f-index l.files))
