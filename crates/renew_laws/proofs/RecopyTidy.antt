-- Tidy images after a data page is put beside, and after an index page is renewed, program by program.
use Rattle.std.proofs.Common.{◌≡◌, ℕ, List, set, Bool, ◌&&◌}
use Rattle.geometry.specs.declared.geometry.Geometry.{Geometry}
use Rattle.image_model.specs.Live.{live_at, own}
use Rattle.image_model.specs.Tables.{table_of}
use Rattle.table_model.specs.Table.{File, put_file}
use Rattle.image_laws.specs.LiveSteps.{PutDone, KillDone}
use Rattle.image_laws.specs.Spares.{leftover, Spares}
use Rattle.image_laws.specs.TidySteps.{IsTidyBut}
use Rattle.image_laws.proofs.LiveStep.{put-changes, kill-changes}
use Rattle.renew_laws.specs.Recopy.{Renamed, Recopies, PutDataSpares, RecopyTidies}
use Rattle.renew_laws.proofs.Beside.{put_data-done}
use Rattle.renew_laws.proofs.RecopyStep.{live4, clears4, recopies_to, puts_to}
use Rattle.renew_laws.proofs.RecopyLeaves as whole
pub use Rattle.renew_laws.proofs.RecopyLeaves.{put-same}

pub put_data-spares : (g : Geometry) → PutDataSpares g
put_data-spares g a0 a1 a2 a3 a4 p id h page head fin f0 before start t all =
    let done = (put-changes g a0 a1 a2 a3 a4 p page fin start.image start.free start.ready all).1 in
    (put_data-done g a0 a4 p id h (set page 4 fin) head f0 (puts_to g a0 p id h page head fin f0 start) done).1 before t

-- a put and a kill of live pages, done
pub recopied : (g : Geometry) (a0 a4 a6 : List ℕ) (p o id h : ℕ) (old page head head' : List ℕ) (fin kill : ℕ) (f0 f : File) (copies olds : ℕ → Bool) → Recopies g a0 p o id h old page head head' fin kill f0 f →
    PutDone g p (set page 4 fin) a0 a4 → KillDone g o a4 a6 → IsTidyBut g a0 copies → Renamed g (own (live_at g a0) id) head old (set page 4 fin) copies olds →
    Spares g (λ r. olds r && leftover g (own (live_at g a6) id) head' r) a6 × (table_of g a6 ≡ put_file f (table_of g a0))
recopied g a0 a4 a6 p o id h old page head head' fin kill f0 f copies olds start done last t names =
    whole.recopied g a0 a4 a6 p o id h old (set page 4 fin) head head' f0 f copies olds (recopies_to g a0 p o id h old page head head' fin kill f0 f start) done last t names

pub recopy-tidies : (g : Geometry) → RecopyTidies g
recopy-tidies g a0 a1 a2 a3 a4 a5 a6 p o id h old page head head' fin kill f0 f copies olds start all kills t names =
    let done = (put-changes g a0 a1 a2 a3 a4 p page fin start.image start.free start.ready all).1 in
    let last = (kill-changes g a4 a5 a6 o kill old done.image (live4 g a0 p o id h old page head head' fin kill f0 f start a4 done.gains) (clears4 g a0 p o id h old page head head' fin kill f0 f start a4 done) kills).1 in
    recopied g a0 a4 a6 p o id h old page head head' fin kill f0 f copies olds start done last t names
