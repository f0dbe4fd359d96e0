use Rattle.std.proofs.Common.{[], map, replicate, None}
use Rattle.table_model.specs.Window.{settled_at}
use Rattle.plain_table.specs.Seen.{file}
use Rattle.plain_promise.proofs.Printing.{listed_all}
use Rattle.plain_promise.proofs.listing.list_tables.Goals as goal

pub returns : goal.returns
returns c =
    listed_all c.args.geometry (settled_at (record { table = map file c.args.files.now; slots = replicate c.args.slots None })) c.args.script.now c.loop-words.at c.loop-words.number c.loop-words.moment c.loop-words.text.items c.loop-words.invariant
    [] c.put_place.new.text.items c.in_default.ensures.none c.in_ok-put_place.ensures
