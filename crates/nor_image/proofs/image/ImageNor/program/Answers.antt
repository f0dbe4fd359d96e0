use Rattle.std.proofs.Common.{rules, refl, arith, inl}
use Rattle.nor_core.proofs.Programs.{half_none}
use Rattle.nor_image.proofs.image.ImageNor.program.Goals as goal

pub returns-clause-changes : goal.returns-clause-changes
returns-clause-changes c = record {
  cuts = record {
    size = refl;
    unit = refl;
    lent = refl;
    told = λ tells. tells;
    told_before = λ tells. tells;
    moment = omega arith;
    faults = search rules;
    reads = omega arith;
    writes = search rules;
    cuts = λ t image count le left. inl left;
    kept = λ t image count le left. left;
  };
  said = refl;
  now = λ tells. half_none _ _ _;
}
