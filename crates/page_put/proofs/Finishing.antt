-- What placing and finishing leave, as the laws of a put name it.
use Rattle.std.proofs.Common.{◌≡◌, ℕ, ◌+◌, List, [], ◌∷◌, slice_index, refl, ◌∙◌, arith}
use Rattle.std.specs.Prelude.{bit_and}
use Rattle.geometry.specs.declared.geometry.Geometry.{Geometry}
use Rattle.nor_core.specs.Flash.{HalfProgrammed, IsBetween, programmed}
use Rattle.flash_view.specs.declared.kinds.Kind.{Kind}
use Rattle.flash_view.specs.declared.kinds.Kind.TheVariants.{Index, Data}
use Rattle.image_laws.specs.Flash.{Programmed}
use Rattle.image_laws.proofs.Finished.{finished-programmed}
use Rattle.page_put.specs.Placing.{placed_flags, finished_flags, ProgramsPlace, FinishClearsFinal}

pub programs_place : (g : Geometry) → ProgramsPlace g
programs_place g p page image = record { one = finished-programmed _ _ _; two = finished-programmed _ _ _; three = finished-programmed _ _ _ }

-- both bytes leave the same of the placed flags
same_left : (kind : Kind) → bit_and (placed_flags kind) 0xFD ≡ bit_and (placed_flags kind) (finished_flags kind)
same_left Index = refl
same_left Data = refl

between : (old asked other x : ℕ) → bit_and old asked ≡ bit_and old other → IsBetween old asked x → IsBetween old other x
between old asked other x same h = record { kept = rw (← same) h.kept; cleared = h.cleared }

finish_cut : (kind : Kind) (at : ℕ) (image cut : List ℕ) → slice_index image at ≡ placed_flags kind → HalfProgrammed at (0xFD ∷ []) image cut → HalfProgrammed at (finished_flags kind ∷ []) image cut
finish_cut kind at image cut old half = record {
  outside = half.outside;
  inside = λ k within.
      let here : k ≡ 0 = omega arith in
      let zero : at + 0 ≡ at = omega arith in
      rw (here, zero, old) (between (placed_flags kind) 0xFD (finished_flags kind) (slice_index cut at) (same_left kind) (rw (zero, old) at (half.inside 0 (omega arith))));
}

finish_done : (kind : Kind) (at : ℕ) (image : List ℕ) → slice_index image at ≡ placed_flags kind → Programmed at (finished_flags kind ∷ []) image (programmed image at (0xFD ∷ []))
finish_done kind at image old =
    let done = finished-programmed at (0xFD ∷ []) image in
    record {
      outside = done.outside;
      bytes = λ k within.
          let here : k ≡ 0 = omega arith in
          let zero : at + 0 ≡ at = omega arith in
          rw (here, zero, old) ((rw (zero, old) at (done.bytes 0 (omega arith))) ∙ same_left kind);
    }

pub finish_clears_final : FinishClearsFinal
finish_clears_final kind at image old = (λ cut half. finish_cut kind at image cut old half, finish_done kind at image old)
