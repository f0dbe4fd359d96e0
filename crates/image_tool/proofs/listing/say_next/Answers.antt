use Rattle.std.proofs.Common.{ℕ, Option, subst}
use Rattle.table_model.specs.declared.reply.Stat.{Stat}
use Rattle.image_tool.specs.Lists.{NextRecord}
use Rattle.image_tool.proofs.Speaking.{on_err}
use Rattle.image_tool.proofs.Found.{files_line, damages_line, damages_id, some_listed, none_listed}
use Rattle.image_tool.proofs.listing.say_next.Goals as goal

pub returns-in_err-stat-in-Files-clause-says : goal.returns-in_err-stat-in-Files-clause-says
returns-in_err-stat-in-Files-clause-says g c =
    let v = c.args.v.now in
    rw c.in-Files.is (rw (files_line v.geometry (g.B.NorState.bytes v.nor.now) c.args.after) at c.say_next_record.ensures.says)

pub returns-in_err-stat-in-Files-clause-front : goal.returns-in_err-stat-in-Files-clause-front
returns-in_err-stat-in-Files-clause-front g c = λ tells.
    let v = c.args.v.now in
    let front = c.in_err-stat-in-Files.ensures.front tells in
    on_err c.from_residual.result (rw c.in-Files.is (rw (files_line v.geometry (g.B.NorState.bytes v.nor.now) c.args.after) at front))

pub returns-in-Some-clause-says : goal.returns-in-Some-clause-says
returns-in-Some-clause-says g c =
    let v = c.args.v.now in
    rw c.in-Files.is (rw (files_line v.geometry (g.B.NorState.bytes v.nor.now) c.args.after) at c.say_next_record.ensures.says)

pub returns-in-Some-clause-found : goal.returns-in-Some-clause-found
returns-in-Some-clause-found g c = λ tells.
    let v = c.args.v.now in
    let image = g.B.NorState.bytes v.nor.now in
    rw c.in-Files.is (some_listed v.geometry image c.args.after _ c.in-Some.stat (subst (λ (o : Option (ℕ × Stat)). NextRecord v.geometry image c.args.after o) c.in-Some.is (c.in_ok-stat-in-Files.ensures.found tells)))

pub returns-in-Some-clause-whole : goal.returns-in-Some-clause-whole
returns-in-Some-clause-whole g c = λ tells.
    let v = c.args.v.now in
    let whole = c.in_ok-stat-in-Files.ensures.whole tells in
    rw c.in-Files.is (rw (files_line v.geometry (g.B.NorState.bytes v.nor.now) c.args.after) at whole)

pub returns-in-None-clause-says : goal.returns-in-None-clause-says
returns-in-None-clause-says g c =
    let v = c.args.v.now in
    rw c.in-Files.is (rw (files_line v.geometry (g.B.NorState.bytes v.nor.now) c.args.after) at c.say_next_record.ensures.says)

pub returns-in-None-clause-found : goal.returns-in-None-clause-found
returns-in-None-clause-found g c = λ tells.
    let v = c.args.v.now in
    let image = g.B.NorState.bytes v.nor.now in
    rw c.in-Files.is (none_listed v.geometry image c.args.after (subst (λ (o : Option (ℕ × Stat)). NextRecord v.geometry image c.args.after o) c.in-None.is (c.in_ok-stat-in-Files.ensures.found tells)))

pub returns-in-None-clause-whole : goal.returns-in-None-clause-whole
returns-in-None-clause-whole g c = λ tells.
    let v = c.args.v.now in
    let whole = c.in_ok-stat-in-Files.ensures.whole tells in
    rw c.in-Files.is (rw (files_line v.geometry (g.B.NorState.bytes v.nor.now) c.args.after) at whole)

pub returns-in-Damaged-clause-says : goal.returns-in-Damaged-clause-says
returns-in-Damaged-clause-says g c =
    let v = c.args.v.now in
    rw c.in-Damaged.is (rw (damages_line v.geometry (g.B.NorState.bytes v.nor.now) c.args.after) at c.say_next_damaged.ensures.says)

pub returns-in-Damaged-clause-found : goal.returns-in-Damaged-clause-found
returns-in-Damaged-clause-found g c = λ tells.
    let v = c.args.v.now in
    let found = c.say_next_damaged.ensures.found tells in
    rw c.in-Damaged.is (rw (damages_id v.geometry (g.B.NorState.bytes v.nor.now) c.args.after) at found)

pub returns-in-Damaged-clause-whole : goal.returns-in-Damaged-clause-whole
returns-in-Damaged-clause-whole g c = λ tells.
    let v = c.args.v.now in
    let whole = c.say_next_damaged.ensures.whole tells in
    rw c.in-Damaged.is (rw (damages_line v.geometry (g.B.NorState.bytes v.nor.now) c.args.after) at whole)

pub returns-in-Damaged-clause-front : goal.returns-in-Damaged-clause-front
returns-in-Damaged-clause-front g c = λ tells.
    let v = c.args.v.now in
    let front = c.say_next_damaged.ensures.front tells in
    rw c.in-Damaged.is (rw (damages_line v.geometry (g.B.NorState.bytes v.nor.now) c.args.after) at front)
