use Rattle.std.proofs.Common.{◌∙◌, map, ap, sym, refl, subst, arith, inl, inr, ⊎_elim}
use Rattle.table_model.specs.Window.{IsAmong}
use Rattle.plain_table.specs.Seen.{file, files_of}
use Rattle.plain_table.specs.Moments.{moment_of}
use Rattle.plain_table.proofs.Among.{among_from}
use Rattle.plain_table.proofs.moment.PlainMoment.may_leave.Goals as goal

pub returns-then-are_same : goal.returns-then-are_same
returns-then-are_same c = (
  λ h. (among_from (moment_of c.args.self.now) (map file c.args.table.now) (map files_of c.args.steps.now)).1 (inl (c.are_same.ensures.0 c.if-are_same.true ∙ ap (map file) c.as_slice.ensures.value)),
  λ h. refl,
)

pub returns-then-is_among : goal.returns-then-is_among
returns-then-is_among c = (
  λ h. (among_from (moment_of c.args.self.now) (map file c.args.table.now) (map files_of c.args.steps.now)).1
      (inr (inl (subst (λ tables. IsAmong (map file c.args.table.now) (map files_of tables)) c.as_slice-2.ensures.value (c.is_among.ensures.0 c.if-is_among.true)))),
  λ h. refl,
)

pub returns : goal.returns
returns c = (
  λ h. (among_from (moment_of c.args.self.now) (map file c.args.table.now) (map files_of c.args.steps.now)).1 (inr (inr (c.is_among-2.ensures.0 h))),
  λ h. ⊎_elim
      (λ settled. let yes = c.are_same.ensures.1 (settled ∙ ap (map file) (sym c.as_slice.ensures.value)) in absurd (grind (arith, yes)))
      (λ other. ⊎_elim
      (λ waits. let yes = c.is_among.ensures.1 (subst (λ tables. IsAmong (map file c.args.table.now) (map files_of tables)) (sym c.as_slice-2.ensures.value) waits) in absurd (grind (arith, yes)))
      (λ more. c.is_among-2.ensures.1 more)
      other)
      ((among_from (moment_of c.args.self.now) (map file c.args.table.now) (map files_of c.args.steps.now)).0 h),
)
