use Rattle.std.proofs.Common.{ℕ, ◌≡◌, ◌+◌, ◌*◌, ◌==◌, true, false, sym, ap, ◌∙◌, arith}
use Rattle.std.proofs.lemmas.Bool.{eq-eqb, ne_eqb}
use Rattle.volume_detect.specs.Rows.{is_equal, word_of}
use Rattle.volume_detect.proofs.Gaps.{row_of_gaps, row_of_one}
use Rattle.volume_detect.proofs.rows.longest_row.Goals as goal

pub returns-then-word-magic : goal.returns-then-word-magic
returns-then-word-magic c =
    let at : c.args.first + c.args.step * 0 ≡ c.args.first = omega arith in
    let here : is_equal c.args.words.now c.args.first c.args.step c.args.magic 0 ≡ true = ap (λ (x : ℕ). word_of c.args.words.now x == c.args.magic) at ∙ ap (λ (x : ℕ). x == c.args.magic) (sym c.word.ensures) ∙ eq-eqb _ _ c.if-word-magic.true in
    row_of_gaps (is_equal c.args.words.now c.args.first c.args.step c.args.magic) c.args.most c.longest_of_gaps.result here c.longest_of_gaps.ensures

pub returns-else-word-magic : goal.returns-else-word-magic
returns-else-word-magic c =
    let at : c.args.first + c.args.step * 0 ≡ c.args.first = omega arith in
    let here : is_equal c.args.words.now c.args.first c.args.step c.args.magic 0 ≡ false = ap (λ (x : ℕ). word_of c.args.words.now x == c.args.magic) at ∙ ap (λ (x : ℕ). x == c.args.magic) (sym c.word.ensures) ∙ ne_eqb _ _ c.if-word-magic.false in
    row_of_one (is_equal c.args.words.now c.args.first c.args.step c.args.magic) c.args.most c.longest_of_one.result here c.longest_of_one.ensures
