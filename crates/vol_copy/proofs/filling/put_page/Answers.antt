use Rattle.std.proofs.Common.{ℕ, List, length, sym, subst, ◌∙◌, ap}
use Rattle.table_model.specs.Files.{bytes_at}
use Rattle.copy_model.specs.Parts.{IsFilling}
use Rattle.vol_copy.specs.Stages.{Works, With, StopsFrom, IsPage}
use Rattle.vol_copy.proofs.Exits.{passed}
use Rattle.vol_copy.proofs.Pages.{filled_none_with, unread_stops, page_cuts, page_stops, page_wrote}
use Rattle.table_model.specs.Ask.{Writes}
use Rattle.vol_copy.specs.Went.{wrote_as}
use Rattle.vol_copy.proofs.Causes.{went-never, wrote-never}
use Rattle.vol_copy.proofs.filling.put_page.Goals as goal

pub returns-in_err-read_of-clause-cuts : goal.returns-in_err-read_of-clause-cuts
returns-in_err-read_of-clause-cuts g c = filled_none_with c.args.stat.now c.args.at c.args.fd c.args.from.now c.args.to.now

pub returns-in_err-read_of-clause-stops : goal.returns-in_err-read_of-clause-stops
returns-in_err-read_of-clause-stops g c =
    passed (StopsFrom (With g.N.NorState c.args.from.now (Works c.args.fd 52 (IsFilling c.args.stat.now c.args.at))) c.args.to.now c.args.to.now) c.from_residual.result _ c.from_residual.ensures.1
    (unread_stops c.args.stat.now c.args.at c.args.fd c.args.from.now c.args.to.now (length c.args.piece.now) c.requires.page _ c.in_err-read_of.ensures.fails)

pub returns-clause-cuts : goal.returns-clause-cuts
returns-clause-cuts g c = page_cuts c.args.stat.now c.args.at c.args.fd c.args.from.now c.args.to.now c.read_of.new.into (subst (λ (n : ℕ). IsPage c.args.to.now.geometry c.args.stat.now c.args.at n) (sym c.read_of.ensures.size) c.requires.page) (λ source f tells here. c.in_ok-read_of.ensures.told source f tells here ∙ ap (λ (n : ℕ). bytes_at n c.args.at f) (sym c.read_of.ensures.size)) c.write_on.new.to c.write_on.result c.write_on.ensures.went

pub returns-clause-wrote : goal.returns-clause-wrote
returns-clause-wrote g c = page_wrote c.args.stat.now c.args.at c.args.fd c.args.from.now c.args.to.now c.read_of.new.into (subst (λ (n : ℕ). IsPage c.args.to.now.geometry c.args.stat.now c.args.at n) (sym c.read_of.ensures.size) c.requires.page) (λ source f tells here. c.in_ok-read_of.ensures.told source f tells here ∙ ap (λ (n : ℕ). bytes_at n c.args.at f) (sym c.read_of.ensures.size)) c.write_on.new.to c.write_on.result c.write_on.ensures.went (length c.args.piece.now) c.read_of.ensures.size

pub returns-clause-stops : goal.returns-clause-stops
returns-clause-stops g c = page_stops c.args.stat.now c.args.at c.args.fd c.args.from.now c.args.to.now c.read_of.new.into (subst (λ (n : ℕ). IsPage c.args.to.now.geometry c.args.stat.now c.args.at n) (sym c.read_of.ensures.size) c.requires.page) (λ source f tells here. c.in_ok-read_of.ensures.told source f tells here ∙ ap (λ (n : ℕ). bytes_at n c.args.at f) (sym c.read_of.ensures.size)) c.write_on.new.to c.write_on.result c.write_on.ensures.went

pub returns-clause-from_cause : goal.returns-clause-from_cause
returns-clause-from_cause g c = λ is. absurd (went-never wrote_as wrote-never (Writes c.args.fd c.read_of.new.into) c.args.to.now c.write_on.new.to c.write_on.result c.write_on.ensures.went is)
