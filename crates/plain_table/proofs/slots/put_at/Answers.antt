use Rattle.std.proofs.Common.{◌-◌}
use Rattle.std.proofs.lemmas.List.{map-set}
use Rattle.table_model.specs.Descriptors.{put_at}
use Rattle.plain_table.specs.Seen.{held}
use Rattle.plain_table.proofs.slots.put_at.Goals as goal

pub returns : goal.returns
unfolding put_at
returns c = map-set held c.args.slots.now (c.args.fd - 1) c.args.new
