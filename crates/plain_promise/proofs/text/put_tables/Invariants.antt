-- The tables so far stand behind the text.
use Rattle.std.proofs.Common.{◌≡◌, ◌+◌, ◌++◌, map, take}
use Rattle.plain_table.specs.Seen.{files_of}
use Rattle.promise_model.specs.Texts.{steps_text}
use Rattle.plain_promise.proofs.text.put_tables.Given as goal

abbrev pub invariant-loop-files : goal.invariant-loop-files
invariant-loop-files l = record {
  number : l.number ≡ l.step + l.files-index;
  text : l.text.items ≡ l.fn.text.items ++ steps_text l.line l.step (map files_of (take l.files-index l.tables));
}
