use Rattle.std.proofs.Common.{◌≡◌, ◌≤◌, ℕ, length, sym, subst, refl, arith}
use Rattle.std.specs.List.{All}
use Rattle.std.proofs.lemmas.Bool.{false≢true}
use Rattle.chip_row.specs.Rows.{AllSized}
use Rattle.chip_row.proofs.Ends.{latest_past}
use Rattle.chip_row.proofs.row.ChipRow.new.Goals as goal

pub returns-then-not-is_sound-clause-fits : goal.returns-then-not-is_sound-clause-fits
returns-then-not-is_sound-clause-fits g c =
    let items = c.args.chips.items in
    let numbers = c.in-Some.numbers in
    let many : length items ≡ numbers.count = omega (arith, c.in-Some.ensures.count, c.len.ensures, c.args.chips.ok) in
    let past = subst (λ (m : ℕ). All (λ d. g.C.ChipState.last d ≤ m) items) (sym c.latest_of-moment.ensures) (latest_past g.C.ChipState items) in (
      λ ok. absurd (false≢true ok),
      λ both. absurd (c.if-not-is_sound.ensures.unsound refl many
          (subst (λ (s : ℕ). AllSized g.C.ChipState s numbers.unit items) (sym c.in-Some.ensures.chip_size) (subst (λ (u : ℕ). AllSized g.C.ChipState c.args.chip_size u items) (sym c.in-Some.ensures.unit) both.1)) past),
    )
