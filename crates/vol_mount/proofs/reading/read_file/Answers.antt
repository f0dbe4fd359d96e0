use Rattle.std.proofs.Common.{Some}
use Rattle.file_find.specs.Listing.{TheFile}
use Rattle.vol_mount.proofs.Listed.{file_of_head}
use Rattle.vol_mount.proofs.Stopping.{read_stops}
use Rattle.vol_mount.proofs.reading.read_file.Goals as goal

pub returns-in_err-read_from-in-Some-clause-told : goal.returns-in_err-read_from-in-Some-clause-told
returns-in_err-read_from-in-Some-clause-told g c = λ tells.
    let view = c.args.v.now in
    let image = g.N.NorState.bytes view.nor.now in
    let looks = c.in_ok-header.ensures.looks in
    let the : TheFile view.geometry image c.args.id (Some c.in-Some.header) = rw c.in-Some.is at (c.in_ok-header.ensures.told tells) in
    let told = (rw (looks.same.geometry, looks.reads.bytes) at c.in_err-read_from-in-Some.ensures.told) (looks.reads.told tells) the.file (file_of_head view.geometry image c.args.id c.in-Some.header the.file the.has) in
    read_stops _ _ _ _ _ _ _ c.in_err-read_from-in-Some.field-0.0 _ c.from_residual-in_err-read_from-in-Some.ensures.1 told

pub returns-in_ok-read_from-in-Some-clause-told : goal.returns-in_ok-read_from-in-Some-clause-told
returns-in_ok-read_from-in-Some-clause-told g c = λ tells.
    let view = c.args.v.now in
    let image = g.N.NorState.bytes view.nor.now in
    let looks = c.in_ok-header.ensures.looks in
    let the : TheFile view.geometry image c.args.id (Some c.in-Some.header) = rw c.in-Some.is at (c.in_ok-header.ensures.told tells) in
    let told = (rw (looks.same.geometry, looks.reads.bytes) at c.in_ok-read_from-in-Some.ensures.told) (looks.reads.told tells) the.file (file_of_head view.geometry image c.args.id c.in-Some.header the.file the.has) in
    (the.file, the.listed, told)
