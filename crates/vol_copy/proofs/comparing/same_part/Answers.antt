use Rattle.std.proofs.Common.{◌≡◌, length, rules, refl}
use Rattle.table_model.specs.Table.{same_text}
use Rattle.vol_copy.specs.Stages.{Works, With}
use Rattle.vol_copy.specs.Seen.{IsLooking, LooksUntil}
use Rattle.vol_copy.proofs.Exits.{passed}
use Rattle.vol_copy.proofs.Seeing.{part_unread, part_fails, part_done}
use Rattle.vol_copy.proofs.comparing.same_part.Goals as goal

pub returns-in_err-read_of-clause-stops : goal.returns-in_err-read_of-clause-stops
returns-in_err-read_of-clause-stops g c =
    passed (LooksUntil (With g.N.NorState c.args.from.now (Works c.args.fd 8 (IsLooking c.args.stat.now c.args.at))) c.args.to.now c.args.to.now) c.from_residual.result _ c.from_residual.ensures.1
    (part_unread c.args.stat.now c.args.at c.args.fd c.read_of.new.into c.args.theirs.now c.args.theirs.now (length c.args.ours.now) c.requires.as_many refl c.requires.within c.args.from.now c.args.to.now c.args.to.now
    _ c.in_err-read_of.ensures.fails)

pub returns-in_err-read_on-clause-stops : goal.returns-in_err-read_on-clause-stops
returns-in_err-read_on-clause-stops g c =
    passed (LooksUntil (With g.N.NorState c.args.from.now (Works c.args.fd 8 (IsLooking c.args.stat.now c.args.at))) c.args.to.now c.read_on.new.to) c.from_residual-in_err-read_on.result _ c.from_residual-in_err-read_on.ensures.1
    (part_fails c.args.stat.now c.args.at c.args.fd c.read_of.new.into c.args.theirs.now c.read_on.new.into (length c.args.ours.now) c.requires.as_many c.read_on.ensures.size c.requires.within c.args.from.now c.args.to.now c.read_on.new.to
    c.in_ok-read_of.ensures.told c.read_on.result c.read_on.ensures.went _ c.in_err-read_on.was)

pub returns-clause-done : goal.returns-clause-done
returns-clause-done g c =
    let is : same_text c.read_of.new.into c.read_on.new.into ≡ c.eq.result = search rules in
    part_done c.args.stat.now c.args.at c.args.fd c.read_of.new.into c.args.theirs.now c.read_on.new.into (length c.args.ours.now) c.requires.as_many c.read_on.ensures.size c.requires.within c.args.from.now c.args.to.now c.read_on.new.to
    c.in_ok-read_of.ensures.told c.read_on.result c.read_on.ensures.went c.in_ok-read_on.was c.eq.result is
