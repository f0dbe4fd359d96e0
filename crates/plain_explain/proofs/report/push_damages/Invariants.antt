-- The text so far, and what is to come.
use Rattle.std.proofs.Common.{◌≡◌, ◌++◌, ℕ, drop, string_bytes}
use Rattle.std.specs.List.{flat_map}
use Rattle.image_model.specs.declared.damage.Damage.{Damage}
use Rattle.plain_explain.specs.Report.{damage_line}
use Rattle.plain_explain.proofs.report.push_damages.Given as goal

abbrev pub invariant-loop-id : goal.invariant-loop-id
invariant-loop-id l = string_bytes l.text ++ flat_map (λ (d : ℕ × Damage). damage_line d.0 d.1) (drop l.id-index l.damages) ≡ string_bytes l.initial.text ++ flat_map (λ (d : ℕ × Damage). damage_line d.0 d.1) l.damages
