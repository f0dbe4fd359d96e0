use Rattle.std.proofs.Common.{◌≡◌, true, false, refl, rules, w64}
use mir.Val.{SFits}
use Rattle.std.proofs.lemmas.Int.{to_z-of_z}
use Rattle.nor_core.proofs.Cuts.{reads_none}
use Rattle.table_model.specs.Ask.{Tells, Flushes, Closes}
use Rattle.file_calls.proofs.Going.{goes_by_slots}
use Rattle.file_calls.proofs.calls.call_in.Goals as goal

pub returns-in-Tell-clause-goes : goal.returns-in-Tell-clause-goes
returns-in-Tell-clause-goes g c = rw c.in-Tell.is (goes_by_slots (Tells c.in-Tell.fd) c.args.into.now c.args.v.now.wrote c.tell_in.ensures c.requires.fresh (reads_none c.args.v.now.nor.now) refl (λ k. refl))

pub returns-in-Flush-clause-goes : goal.returns-in-Flush-clause-goes
returns-in-Flush-clause-goes g c = rw c.in-Flush.is (goes_by_slots (Flushes c.in-Flush.fd) c.args.into.now c.args.v.now.wrote c.flush_in.ensures c.requires.fresh (reads_none c.args.v.now.nor.now) refl (λ k. refl))

pub returns-in-Close-clause-goes : goal.returns-in-Close-clause-goes
returns-in-Close-clause-goes g c = rw c.in-Close.is (goes_by_slots (Closes c.in-Close.fd) c.args.into.now c.args.v.now.wrote c.close_in.ensures c.requires.fresh (reads_none c.args.v.now.nor.now) refl (λ k. absurd (let no : false ≡ true = k in cc)))

pub returns-in-Create-clause-goes : goal.returns-in-Create-clause-goes
returns-in-Create-clause-goes g c = rw c.in-Create.is (c.create_in.ensures.goes c.args.slots.now c.args.into.now)

pub returns-in-OpenFile-clause-goes : goal.returns-in-OpenFile-clause-goes
returns-in-OpenFile-clause-goes g c = rw c.in-OpenFile.is (c.open_in.ensures.goes c.args.into.now)

pub returns-in-Read-clause-goes : goal.returns-in-Read-clause-goes
returns-in-Read-clause-goes g c = rw c.in-Read.is c.read_in.ensures.goes

pub returns-in-Seek-clause-goes : goal.returns-in-Seek-clause-goes
returns-in-Seek-clause-goes g c = let fits : SFits w64 c.in-Seek.offset = search rules in rw c.in-Seek.is (rw (to_z-of_z w64 c.in-Seek.offset fits) at (c.seek_in.ensures.goes c.args.into.now))

pub returns-in-Truncate-clause-goes : goal.returns-in-Truncate-clause-goes
returns-in-Truncate-clause-goes g c = rw c.in-Truncate.is (c.truncate_in.ensures.goes c.args.into.now)

pub returns-in-Remove-clause-goes : goal.returns-in-Remove-clause-goes
returns-in-Remove-clause-goes g c = rw c.in-Remove.is (c.remove_in.ensures.goes c.args.into.now)

pub returns-in-FRemove-clause-goes : goal.returns-in-FRemove-clause-goes
returns-in-FRemove-clause-goes g c = rw c.in-FRemove.is (c.remove_open.ensures.goes c.args.into.now)

pub returns-in-Rename-clause-goes : goal.returns-in-Rename-clause-goes
returns-in-Rename-clause-goes g c = rw c.in-Rename.is (c.rename_in.ensures.goes c.args.slots.now c.args.into.now)

pub returns-in-StatName-clause-goes : goal.returns-in-StatName-clause-goes
returns-in-StatName-clause-goes g c = rw c.in-StatName.is (c.tell_stat.ensures.goes c.args.slots.now c.args.into.now)

pub returns-in-FStat-clause-goes : goal.returns-in-FStat-clause-goes
returns-in-FStat-clause-goes g c = rw c.in-FStat.is (c.tell_open.ensures.goes c.args.into.now)

pub returns-in-Next-clause-goes : goal.returns-in-Next-clause-goes
returns-in-Next-clause-goes g c = rw c.in-Next.is (c.tell_next.ensures.goes c.args.slots.now c.args.into.now)

pub returns-in-GetInfo-clause-goes : goal.returns-in-GetInfo-clause-goes
returns-in-GetInfo-clause-goes g c = rw c.in-GetInfo.is (c.tell_info.ensures.goes c.args.slots.now c.args.into.now)

pub returns-in-Gc-clause-goes : goal.returns-in-Gc-clause-goes
returns-in-Gc-clause-goes g c = rw c.in-Gc.is (c.collect_in.ensures.goes c.args.slots.now c.args.into.now)

pub returns-in-SetMeta-clause-goes : goal.returns-in-SetMeta-clause-goes
returns-in-SetMeta-clause-goes g c = rw c.in-SetMeta.is (c.set_meta.ensures.goes c.args.slots.now c.args.into.now)

pub returns-in-FSetMeta-clause-goes : goal.returns-in-FSetMeta-clause-goes
returns-in-FSetMeta-clause-goes g c = rw c.in-FSetMeta.is (c.set_meta_open.ensures.goes c.args.into.now)

pub returns-in-Create-clause-counted : goal.returns-in-Create-clause-counted
returns-in-Create-clause-counted g c = c.create_in.ensures.counted c.args.slots.now c.args.into.now

pub returns-in-OpenFile-clause-counted : goal.returns-in-OpenFile-clause-counted
returns-in-OpenFile-clause-counted g c = c.open_in.ensures.counted c.args.into.now

pub returns-in-Read-clause-counted : goal.returns-in-Read-clause-counted
returns-in-Read-clause-counted g c = c.read_in.ensures.counted

pub returns-in-Seek-clause-counted : goal.returns-in-Seek-clause-counted
returns-in-Seek-clause-counted g c = c.seek_in.ensures.counted c.args.into.now

pub returns-in-Truncate-clause-counted : goal.returns-in-Truncate-clause-counted
returns-in-Truncate-clause-counted g c = c.truncate_in.ensures.counted c.args.into.now

pub returns-in-Remove-clause-counted : goal.returns-in-Remove-clause-counted
returns-in-Remove-clause-counted g c = c.remove_in.ensures.counted c.args.into.now

pub returns-in-FRemove-clause-counted : goal.returns-in-FRemove-clause-counted
returns-in-FRemove-clause-counted g c = c.remove_open.ensures.counted c.args.into.now

pub returns-in-Rename-clause-counted : goal.returns-in-Rename-clause-counted
returns-in-Rename-clause-counted g c = c.rename_in.ensures.counted c.args.slots.now c.args.into.now

pub returns-in-StatName-clause-counted : goal.returns-in-StatName-clause-counted
returns-in-StatName-clause-counted g c = c.tell_stat.ensures.counted c.args.slots.now c.args.into.now

pub returns-in-FStat-clause-counted : goal.returns-in-FStat-clause-counted
returns-in-FStat-clause-counted g c = c.tell_open.ensures.counted c.args.into.now

pub returns-in-Next-clause-counted : goal.returns-in-Next-clause-counted
returns-in-Next-clause-counted g c = c.tell_next.ensures.counted c.args.slots.now c.args.into.now

pub returns-in-GetInfo-clause-counted : goal.returns-in-GetInfo-clause-counted
returns-in-GetInfo-clause-counted g c = c.tell_info.ensures.counted c.args.slots.now c.args.into.now

pub returns-in-Gc-clause-counted : goal.returns-in-Gc-clause-counted
returns-in-Gc-clause-counted g c = c.collect_in.ensures.counted c.args.slots.now c.args.into.now

pub returns-in-SetMeta-clause-counted : goal.returns-in-SetMeta-clause-counted
returns-in-SetMeta-clause-counted g c = c.set_meta.ensures.counted c.args.slots.now c.args.into.now

pub returns-in-FSetMeta-clause-counted : goal.returns-in-FSetMeta-clause-counted
returns-in-FSetMeta-clause-counted g c = c.set_meta_open.ensures.counted c.args.into.now
