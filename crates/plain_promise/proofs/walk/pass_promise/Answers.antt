use Rattle.std.proofs.Common.{◌≡◌, List, map, subst}
use Rattle.table_model.specs.Table.{File}
use Rattle.plain_table.specs.Seen.{file}
use Rattle.promise_model.specs.Promises.{bytes_of}
use Rattle.plain_promise.specs.Seen.{text_seen, promise}
use Rattle.plain_promise.proofs.Over.{over_promise}
use Rattle.plain_promise.proofs.walk.pass_promise.Goals as goal

pub returns : goal.returns
returns c =
    over_promise c.args.walk c.push.new.self c.in_ok-made.made c.args.form (map text_seen c.args.names.items) (map file c.args.there.now) c.in_ok-push.ensures.items
    (subst (λ (t : List File). promise c.in_ok-made.made ≡ (record {
      line = c.args.walk.line;
      form = c.args.form;
      names = map text_seen c.args.names.items;
      here = bytes_of (map text_seen c.args.names.items) t;
      there = bytes_of (map text_seen c.args.names.items) (map file c.args.there.now);
    })) c.files.ensures c.in_ok-made.ensures)
