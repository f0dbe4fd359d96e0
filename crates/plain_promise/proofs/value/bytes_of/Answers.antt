use Rattle.std.proofs.Common.{◌∙◌, ap, sym, arith, map, Some}
use Rattle.plain_table.specs.Seen.{file}
use Rattle.plain_promise.proofs.Values.{bytes_here, bytes_on, bytes_end}
use Rattle.plain_promise.proofs.value.bytes_of.Goals as goal

pub returns-in-Some : goal.returns-in-Some
returns-in-Some c =
    ap Some c.as_slice-in-Some.ensures.value
    ∙ sym (bytes_here c.args.names.now (map file c.args.files.now) c.loop-name.name-index c.name-item.result c.loop-name-test.true c.name-item.is (file c.in-Some.f.now) (rw c.as_slice.ensures.value at c.in-Some.ensures.found))
    ∙ c.loop-name.invariant

pub loop-name-preserved : goal.loop-name-preserved
loop-name-preserved c =
    sym (bytes_on c.args.names.now (map file c.args.files.now) c.loop-name.name-index c.name-item.result c.loop-name-test.true c.name-item.is (rw c.as_slice.ensures.value at c.in-None.ensures.missing))
    ∙ c.loop-name.invariant

pub returns : goal.returns
returns c = sym (bytes_end c.args.names.now (map file c.args.files.now) c.loop-name.name-index (omega arith)) ∙ c.loop-name.invariant
