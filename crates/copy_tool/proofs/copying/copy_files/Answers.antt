use Rattle.std.proofs.Common.{length, refl, ap, ◌∙◌, arith, Err}
use Rattle.nor_core.proofs.Cuts.{reads_none, reads_then}
use Rattle.image_model.specs.Tables.{table_of}
use Rattle.vol_copy.proofs.Readers.{reader_none}
use Rattle.tool_parts.proofs.Refusals.{not_both}
use Rattle.copy_tool.proofs.Rests.{begun_rests}
use Rattle.copy_tool.proofs.Copies.{check_leaves, begin_stops, begin_kept, copy_leaves, ends_as, done_copies, stopped_copies}
use Rattle.copy_tool.proofs.Begins.{of_target, not_source, begin_in_copy, copy_among}
use Rattle.copy_tool.proofs.copying.copy_files.Goals as goal

pub returns-in-Err-clause-reads : goal.returns-in-Err-clause-reads
returns-in-Err-clause-reads g c = reads_none c.args.from.now.nor.now

pub returns-in-Err-clause-same_source : goal.returns-in-Err-clause-same_source
returns-in-Err-clause-same_source g c = reader_none c.args.from.now

pub returns-in-Err-clause-changes : goal.returns-in-Err-clause-changes
returns-in-Err-clause-changes g c = check_leaves c.begin.ensures.changes

pub returns-in-Err-clause-copies : goal.returns-in-Err-clause-copies
returns-in-Err-clause-copies g c = λ source_tells tells. begin_stops c.args.from.now.geometry (g.N.NorState.bytes c.args.from.now.nor.now) c.in-Err.ending (of_target c.in-Err.ending c.in-Err.ensures.among) (c.begin.ensures.changes.now tells) (c.in-Err.ensures.stops tells)

pub returns-in-Err-clause-idle : goal.returns-in-Err-clause-idle
returns-in-Err-clause-idle g c = λ source_tells tells all. c.begin.ensures.idle tells all.tidy all.reserve

pub returns-in-Err-clause-kept : goal.returns-in-Err-clause-kept
returns-in-Err-clause-kept g c = λ tells ending is. begin_kept c.in-Err.ending ending (c.in-Err.ensures.stops tells) is

pub returns-in-Ok-clause-changes : goal.returns-in-Ok-clause-changes
returns-in-Ok-clause-changes g c =
    let h = c.begin.new.volume.geometry in
    let old = c.args.to.now in
    let mid = c.begin.new.volume in
    let b = c.in_default.ensures in
    copy_leaves h (length old.slots.now) mid c.copy_all.new.to c.begin.ensures.same.geometry (omega (arith, c.requires.slots)) (λ tells. (tells, refl)) c.begin.ensures.changes b.begun
    (λ tells. begun_rests old.geometry old mid c.begin.ensures.same.geometry b.taken b.closed c.begin.ensures.changes tells (b.begun tells)) c.copy_all.ensures.cuts

pub returns-in-Err-copy_all-clause-changes : goal.returns-in-Err-copy_all-clause-changes
returns-in-Err-copy_all-clause-changes g c =
    let h = c.begin.new.volume.geometry in
    let old = c.args.to.now in
    let mid = c.begin.new.volume in
    let b = c.in_default.ensures in
    copy_leaves h (length old.slots.now) mid c.copy_all.new.to c.begin.ensures.same.geometry (omega (arith, c.requires.slots)) (λ tells. (tells, refl)) c.begin.ensures.changes b.begun
    (λ tells. begun_rests old.geometry old mid c.begin.ensures.same.geometry b.taken b.closed c.begin.ensures.changes tells (b.begun tells)) c.copy_all.ensures.cuts

pub returns-in-Ok-clause-copies : goal.returns-in-Ok-clause-copies
returns-in-Ok-clause-copies g c = λ source_tells tells.
    let old = c.args.to.now in
    let mid = c.begin.new.volume in
    let b = c.in_default.ensures in
    let source = table_of c.args.from.now.geometry (g.N.NorState.bytes c.args.from.now.nor.now) in
    let first = table_of old.geometry (g.B.NorState.bytes old.nor.now) in
    let rest = begun_rests old.geometry old mid c.begin.ensures.same.geometry b.taken b.closed c.begin.ensures.changes tells (b.begun tells) in
    let ends = ends_as c.args.from.now.geometry mid.geometry old.geometry c.begin.ensures.same.geometry (c.copy_all.ensures.ends source (source_tells, refl)) in
    let here = rw c.in-Ok.is at (ends.ends old.geometry (length old.slots.now) first (omega (arith, c.requires.slots)) rest) in
    done_copies c.args.from.now.geometry old.geometry (g.N.NorState.bytes c.args.from.now.nor.now) (length old.slots.now) old.nor.now mid c.copy_all.new.to c.begin.ensures.changes tells (b.begun tells) c.in-Ok.copied here

pub returns-in-Err-copy_all-clause-copies : goal.returns-in-Err-copy_all-clause-copies
returns-in-Err-copy_all-clause-copies g c = λ source_tells tells.
    let old = c.args.to.now in
    let mid = c.begin.new.volume in
    let b = c.in_default.ensures in
    let source = table_of c.args.from.now.geometry (g.N.NorState.bytes c.args.from.now.nor.now) in
    let first = table_of old.geometry (g.B.NorState.bytes old.nor.now) in
    let rest = begun_rests old.geometry old mid c.begin.ensures.same.geometry b.taken b.closed c.begin.ensures.changes tells (b.begun tells) in
    let ends = ends_as c.args.from.now.geometry mid.geometry old.geometry c.begin.ensures.same.geometry (c.copy_all.ensures.ends source (source_tells, refl)) in
    let here = rw c.in-Err-copy_all.is at (ends.ends old.geometry (length old.slots.now) first (omega (arith, c.requires.slots)) rest) in
    rw c.copy_ending.ensures.ends (stopped_copies c.args.from.now.geometry old.geometry (g.N.NorState.bytes c.args.from.now.nor.now) (length old.slots.now) old.nor.now mid c.copy_all.new.to c.begin.ensures.changes tells (b.begun tells) c.in-Err-copy_all.why here)

pub returns-in-Ok-clause-idle : goal.returns-in-Ok-clause-idle
returns-in-Ok-clause-idle g c = λ source_tells tells all.
    let old = c.args.to.now in
    let mid = c.begin.new.volume in
    let b = c.in_default.ensures in
    let source = table_of c.args.from.now.geometry (g.N.NorState.bytes c.args.from.now.nor.now) in
    let first = table_of old.geometry (g.B.NorState.bytes old.nor.now) in
    let rest = begun_rests old.geometry old mid c.begin.ensures.same.geometry b.taken b.closed c.begin.ensures.changes tells (b.begun tells) in
    let ends = ends_as c.args.from.now.geometry mid.geometry old.geometry c.begin.ensures.same.geometry (c.copy_all.ensures.ends source (source_tells, refl)) in
    reads_then (c.begin.ensures.idle tells all.tidy all.reserve) (ends.idle old.geometry (length old.slots.now) first (omega (arith, c.requires.slots)) rest all.all)

pub returns-in-Err-copy_all-clause-idle : goal.returns-in-Err-copy_all-clause-idle
returns-in-Err-copy_all-clause-idle g c = λ source_tells tells all.
    let old = c.args.to.now in
    let mid = c.begin.new.volume in
    let b = c.in_default.ensures in
    let source = table_of c.args.from.now.geometry (g.N.NorState.bytes c.args.from.now.nor.now) in
    let first = table_of old.geometry (g.B.NorState.bytes old.nor.now) in
    let rest = begun_rests old.geometry old mid c.begin.ensures.same.geometry b.taken b.closed c.begin.ensures.changes tells (b.begun tells) in
    let ends = ends_as c.args.from.now.geometry mid.geometry old.geometry c.begin.ensures.same.geometry (c.copy_all.ensures.ends source (source_tells, refl)) in
    reads_then (c.begin.ensures.idle tells all.tidy all.reserve) (ends.idle old.geometry (length old.slots.now) first (omega (arith, c.requires.slots)) rest all.all)

pub returns-in-Ok-clause-kept : goal.returns-in-Ok-clause-kept
returns-in-Ok-clause-kept g c = λ tells ending is. absurd (not_both (c.in_default.ensures.begun tells).takes is)

pub returns-in-Err-copy_all-clause-kept : goal.returns-in-Err-copy_all-clause-kept
returns-in-Err-copy_all-clause-kept g c = λ tells ending is. absurd (not_both (c.in_default.ensures.begun tells).takes is)

pub returns-in-Err-clause-later : goal.returns-in-Err-clause-later
returns-in-Err-clause-later g c = (of_target c.in-Err.ending c.in-Err.ensures.among).later

pub returns-in-Err-clause-source_cause : goal.returns-in-Err-clause-source_cause
returns-in-Err-clause-source_cause g c = λ is. not_source c.in-Err.ending c.in-Err.ensures.among is

pub returns-in-Err-clause-among : goal.returns-in-Err-clause-among
returns-in-Err-clause-among g c = begin_in_copy c.in-Err.ending c.in-Err.ensures.among

pub returns-in-Err-copy_all-clause-among : goal.returns-in-Err-copy_all-clause-among
returns-in-Err-copy_all-clause-among g c = rw c.copy_ending.ensures.ends (copy_among c.in-Err-copy_all.why (λ d is. c.copy_all.ensures.differs d (c.in-Err-copy_all.is ∙ ap Err is)))
