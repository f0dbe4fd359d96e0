use Rattle.std.proofs.Common.{ℕ, ◌≡◌, Bool, sym, ap, ◌∙◌, subst, arith}
use Rattle.std.proofs.lemmas.Bool.{leb-true}
use Rattle.volume_detect.specs.Marks.{HasNoWideGap, most_failing}
use Rattle.volume_detect.specs.Rows.{is_marked}
use Rattle.volume_detect.proofs.rows.is_row.Goals as goal

pub returns-then-has_wide_gap-clause-none : goal.returns-then-has_wide_gap-clause-none
returns-then-has_wide_gap-clause-none c = λ no row.
    let good = is_marked c.args.words.now c.args.first c.args.step c.args.g.now in
    c.has_wide_gap.ensures.wide c.if-has_wide_gap.true (subst (λ (x : ℕ). HasNoWideGap good x c.args.g.now.blocks) (sym c.widest_gap.ensures.gap) row.gaps)

pub returns-clause-row : goal.returns-clause-row
returns-clause-row c = λ yes.
    let g = c.args.g.now in
    let good = is_marked c.args.words.now c.args.first c.args.step g in
    let most : c.most_lacking.result ≡ most_failing g.magic (good 0) g.blocks = c.most_lacking.ensures
    ∙ ap (λ (first : Bool). most_failing g.magic first c.blocks-2.result) c.is_marked-has.ensures ∙ ap (λ (n : ℕ). most_failing g.magic (good 0) n) c.blocks-2.ensures in
    record {
      gaps = subst (λ (x : ℕ). HasNoWideGap good x g.blocks) c.widest_gap.ensures.gap (c.has_wide_gap.ensures.none c.if-has_wide_gap.false);
      few = omega (arith, leb-true _ _ yes, c.lacking.ensures, most);
    }
