-- The rows of the table of counts, behind the other bytes for work.
use Rattle.std.proofs.Common.{◌≡◌, ℕ, List, ◌++◌, length, drop, sym, subst}
use Rattle.std.proofs.Math.Seq.{drop-append_seam}
use Rattle.geometry.specs.declared.geometry.Geometry.{Geometry}
use Rattle.geometry.specs.Numbers.{scratch_need}
use Rattle.nor_core.specs.declared.state.NorState.{Ghosts as NorOf}
use Rattle.flash_view.specs.Table.{HasTable, rows_in}

-- a table stands on in the bytes that are joined again
pub rows_joined : {N : Type 0} {nor : NorOf N} (g : Geometry) (device : N) (work rows : List ℕ) → length work ≡ scratch_need g → HasTable nor g device rows → HasTable nor g device (rows_in g (work ++ rows))
rows_joined {nor = nor} g device work rows size table =
    let joined : drop (scratch_need g) (work ++ rows) ≡ rows = subst (λ (n : ℕ). drop n (work ++ rows) ≡ rows) size (drop-append_seam work rows) in
    subst (λ (l : List ℕ). HasTable nor g device l) (sym joined) table
