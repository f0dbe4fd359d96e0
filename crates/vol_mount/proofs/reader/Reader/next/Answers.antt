use Rattle.std.proofs.Common.{arith, ◌∙◌}
use Rattle.vol_mount.proofs.Same.{few_more}
use Rattle.vol_mount.proofs.reader.Reader.next.Goals as goal

pub returns-clause-same : goal.returns-clause-same
returns-clause-same g c =
    let first = c.in_ok-survey.ensures.same in
    let call = c.next_on.ensures in
    record {
      geometry = first.geometry;
      nor_name = first.nor_name;
      work_name = first.work_name;
      cache_name = first.cache_name;
      check_name = first.check_name;
      cache_size = c.next_on.auto.cache ∙ first.cache_size;
      known = first.known;
      faults = omega (arith, first.faults, call.looks.faults);
      few = few_more c.args.self.now c.survey.new.self c.next_on.new.nor c.next_on.new.cache first call.looks call.few;
    }
