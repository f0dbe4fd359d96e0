use Rattle.std.proofs.Common.{◌≤◌}
use Rattle.file_find.proofs.Naming.{names_from, number_high}
use Rattle.file_find.proofs.ids.note_name.Goals as goal

pub returns-clause-names : goal.returns-clause-names
returns-clause-names c =
    let high : 0x8000 ≤ c.name_number-number.result = rw c.name_number-number.ensures (number_high c.args.name.now) in
    names_from c.args.start c.name_number-number.result c.args.marks.now c.note_one.new.marks high c.note_one.ensures
