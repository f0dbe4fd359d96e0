use Rattle.std.proofs.Common.{drop}
use Rattle.flash_view.proofs.Looking.{looks_then}
use Rattle.page_renew.proofs.IndexCopies.{built_by}
use Rattle.page_renew.proofs.building.build_copy.Goals as goal

pub returns-clause-looks : goal.returns-clause-looks
returns-clause-looks g c =
    let all = looks_then (looks_then c.in_ok-head.ensures.looks c.in_ok-count.ensures.looks) c.in_ok-load.ensures.looks in
    record {
      reads = all.reads;
      wrote = all.wrote;
      counted = all.counted;
      rows = all.rows;
      same = record {
        geometry = all.same.geometry;
        nor_name = all.same.nor_name;
        work_name = all.same.work_name;
        rows_name = all.same.rows_name;
        cache_name = all.same.cache_name;
        cache_size = all.same.cache_size;
        behind = all.same.behind;
        faults = all.same.faults;
        writes = all.same.writes;
        asked = all.same.asked;
        few = all.same.few;
      };
    }

pub returns-clause-told : goal.returns-clause-told
returns-clause-told g c = λ tells index.
    let geometry = c.args.v.now.geometry in
    let image = g.N.NorState.bytes c.args.v.now.nor.now in
    let first = c.in_ok-head.ensures in
    let second = looks_then first.looks c.in_ok-count.ensures.looks in
    let third = looks_then second c.in_ok-load.ensures.looks in
    let whole = g.met.N.Nor.sized c.args.v.now.nor.now tells in
    built_by geometry image c.args.page c.in_ok-head.head c.object-id.result c.in_ok-count.count c.kept_slots-kept.result c.page-len.result c.load.new.self.work.now c.copy_index.new.page
    (drop c.page-len.result c.load.new.self.work.now) (record { len = rw whole c.args.v.now.volume }) index (first.told tells) c.object-id.ensures
    (rw (first.looks.same.geometry, first.looks.reads.bytes) at (c.in_ok-count.ensures.told (first.looks.reads.told tells)))
    (rw third.same.geometry at c.kept_slots-kept.ensures.kept)
    (rw (second.same.geometry, second.reads.bytes) at (c.in_ok-load.ensures.told (second.reads.told tells)))
    (rw third.same.geometry at c.page-len.ensures)
    (rw third.same.geometry at c.copy_index.ensures.copy)
    c.copy_index.ensures.old_bytes c.copy_index.ensures.new_bytes
