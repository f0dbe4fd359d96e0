use Rattle.std.proofs.Common.{◌≡◌, refl, arith, rules, Ok, Err}
use Rattle.volume.specs.declared.map_calls.MapErr.TheVariants.{Call}
use Rattle.volume.proofs.MapCalls.{stopped_reads, mapped_reads}
use Rattle.volume.proofs.volume.Volume.read_map.Goals as goal

pub returns-in_err-had : goal.returns-in_err-had
returns-in_err-had g c =
    let settled = c.in_err-had.ensures in
    let why = c.in_err-had.field-0.0 in
    let is : c.from_residual.result ≡ Err (Call why) = search rules in
    rw is (stopped_reads c.args.at c.args.into.now why (Err why) refl settled.closed settled.settles settled.map)

pub returns : goal.returns
returns g c =
    let settled = c.in_ok-had.ensures in
    let read = c.read_settled-result.ensures in
    let mid = c.settled.new.self in
    mapped_reads read.looks
    (record {
      geometry = read.same.geometry;
      nor_name = read.same.nor_name;
      work_name = read.same.work_name;
      cache_name = read.same.cache_name;
      slots_name = read.same.slots_name;
      window_name = read.same.window_name;
      cache_size = read.same.cache_size;
      behind = read.same.behind;
      faults = read.same.faults;
      few = read.same.few;
    })
    read.slots (rw (read.held, read.window) refl) c.in_ok-had.had (Ok c.in_ok-had.had) refl settled.closed settled.settles settled.still read.map read.numbers settled.map
    c.args.at c.args.into.now c.read_settled-result.new.into c.read_settled-result.result c.stage_of-self.ensures read.once read.none read.apart read.cause read.differs read.told
    (λ tells. record { len = let sized = g.met.N.Nor.sized _ tells in omega (arith, sized, mid.fits) })
