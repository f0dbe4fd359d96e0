use Rattle.std.proofs.Common.{ℕ, ◌+◌, ◌-◌, ap, arith, refl}
use Rattle.image_model.specs.Within.{sizes}
use Rattle.vol_copy.proofs.Pages.{some_body, short_cuts, short_stops}
use Rattle.vol_copy.proofs.filling.stop_at.Goals as goal

pub piece_length-requires-clause-most : goal.piece_length-requires-clause-most
piece_length-requires-clause-most g c = some_body c.args.to.now.geometry

pub returns-clause-cuts : goal.returns-clause-cuts
returns-clause-cuts g c = short_cuts c.args.size c.args.at (c.args.at + c.piece_length.result) c.saturating_sub-more.result c.args.to.now c.give_up.new.to (ap (λ (n : ℕ). c.args.at + n) c.piece_length.ensures.least) (rw (c.saturating_sub-more.ensures, c.index_pages.ensures, c.index_pages-2.ensures) refl) c.give_up.ensures.cuts

pub returns-clause-stops : goal.returns-clause-stops
returns-clause-stops g c = short_stops c.args.size c.args.at (c.args.at + c.piece_length.result) c.saturating_sub-more.result c.args.to.now c.give_up.new.to (ap (λ (n : ℕ). c.args.at + n) c.piece_length.ensures.least) (rw (c.saturating_sub-more.ensures, c.index_pages.ensures, c.index_pages-2.ensures) refl) _ c.give_up.ensures.stops
