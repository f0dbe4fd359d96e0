-- What a finished program leaves.
use Rattle.std.proofs.Common.{ℕ, ◌+◌, List, slice_index, refl, sym, subst}
use Rattle.nor_core.specs.Flash.{HalfProgrammed, IsBetween}
use Rattle.nor_core.proofs.Programs.{half_programmed, between_and, get_or-programmed_inside}
use Rattle.image_laws.specs.Flash.{Programmed, FinishedIsProgrammed}

pub finished-programmed : FinishedIsProgrammed
finished-programmed at asked old = record {
  outside = (half_programmed old at asked).outside;
  bytes = λ i small. get_or-programmed_inside old at asked i (at + i) refl small;
}

-- it is one of those that an interrupted one may leave
pub torn_from : (at : ℕ) (asked old new : List ℕ) → Programmed at asked old new → HalfProgrammed at asked old new
torn_from at asked old new h = record {
  outside = h.outside;
  inside = λ i small. subst (λ (x : ℕ). IsBetween (slice_index old (at + i)) (slice_index asked i) x) (sym (h.bytes i small)) (between_and _ _);
}
