-- A renewed index page, and a data page put beside, program by program.
use Rattle.std.proofs.Common.{◌≡◌, ℕ, ◌+◌, ◌*◌, ◌<◌, ◌≤◌, List, [], set, slice_index, Some, ap, sym, ◌∙◌, arith, ⊎_elim}
use Rattle.geometry.specs.declared.geometry.Geometry.{Geometry}
use Rattle.image_model.specs.Within.{sizes}
use Rattle.image_model.specs.Live.{live_at, own}
use Rattle.table_model.specs.Table.{File}
use Rattle.image_model.specs.Sound.{HasMagics}
use Rattle.image_model.specs.Tables.{damaged_of}
use Rattle.image_laws.specs.Changes.{Gains, Loses}
use Rattle.image_laws.specs.Creating.{CutOf}
use Rattle.image_laws.specs.LiveSteps.{PutCut, KillCut, PutLeaves, PutDone, KillLeaves}
use Rattle.image_laws.specs.Programs.{ClearsBit}
use Rattle.image_laws.proofs.Frames.{live_parts}
use Rattle.image_laws.proofs.LiveStep.{put-changes, kill-changes}
use Rattle.image_laws.proofs.Placing.{page_byte}
use Rattle.renew_laws.specs.Recopy.{RecopiesTo, PutsDataTo, Recopies, RecopyIsSound, PutsData, PutDataKeeps}
use Rattle.renew_laws.proofs.Beside.{put_data-cuts, put_data-done}
use Rattle.renew_laws.proofs.RecopyCuts as whole
pub use Rattle.renew_laws.proofs.Beside.{beside-index, beside-entry, beside-header, beside-judged}

pub puts_to : (g : Geometry) (a0 : List ℕ) (p id h : ℕ) (page head : List ℕ) (fin : ℕ) (f0 : File) → PutsData g a0 p id h page head fin f0 → PutsDataTo g a0 p id h (set page 4 fin) head f0
puts_to g a0 p id h page head fin f0 s = record { kind = s.kind; data_kind = s.data_kind; of = s.of; at = s.at; header = s.header; file = s.file }

module _ (g : Geometry) (a0 : List ℕ) (p o id h : ℕ) (old page head head' : List ℕ) (fin kill : ℕ) (f0 f : File) (start : Recopies g a0 p o id h old page head head' fin kill f0 f) where
  pub recopies_to : RecopiesTo g a0 p o id h old (set page 4 fin) head head' f0 f
  recopies_to = record { undamaged = start.undamaged; inside = start.free.entry_page; kind = start.kind; pages = start.pages }

  module _ (c : List ℕ) (gains : Gains p (set page 4 fin) (live_at g a0) (live_at g c)) where
    pub mine4 : Gains p (set page 4 fin) (own (live_at g a0) id) (own (live_at g c) id)
    mine4 = whole.mine4 g a0 p o id h old (set page 4 fin) head head' f0 f recopies_to c gains

    pub live4 : live_at g c o ≡ Some old
    live4 = whole.live4 g a0 p o id h old (set page 4 fin) head head' f0 f recopies_to c gains

    pub mine5 : (d : List ℕ) → Loses o (live_at g c) (live_at g d) → Loses o (own (live_at g c) id) (own (live_at g d) id)
    mine5 d loses = whole.mine5 g a0 p o id h old (set page 4 fin) head head' f0 f recopies_to c gains d loses

  pub cut_put : HasMagics g a0 → (c : List ℕ) → PutLeaves g p (set page 4 fin) a0 c → CutOf g a0 f c × (damaged_of g c ≡ [])
  cut_put m c put = whole.cut_put g a0 p o id h old (set page 4 fin) head head' f0 f recopies_to m c put

  pub cut_kill : HasMagics g a0 → (a4 c : List ℕ) → PutDone g p (set page 4 fin) a0 a4 → KillLeaves g o a4 c → CutOf g a0 f c × (damaged_of g c ≡ [])
  cut_kill m a4 c put cut = whole.cut_kill g a0 p o id h old (set page 4 fin) head head' f0 f recopies_to m a4 c put cut

  pub clears4 : (a4 : List ℕ) → PutDone g p (set page 4 fin) a0 a4 → ClearsBit 7 (slice_index a4 (o * g.page + 4)) kill
  clears4 a4 put =
      let big : 128 ≤ g.page = (sizes g).page in
      let near : 4 < g.page = omega arith in
      let was = whole.was0 g a0 p o id h old (set page 4 fin) head head' f0 f recopies_to in
      let byte : slice_index a4 (o * g.page + 4) ≡ slice_index a0 (o * g.page + 4) =
      sym (page_byte g a4 o 4 near) ∙ ap (λ (x : List ℕ). slice_index x 4) (put.agree.page o (live_parts g a0 o old was.0).entry_page (whole.apart g a0 p o id h old (set page 4 fin) head head' f0 f recopies_to a4 put.gains))
      ∙ page_byte g a0 o 4 near in
      rw byte start.clears

pub recopy-is_sound : (g : Geometry) → RecopyIsSound g
recopy-is_sound g a0 a1 a2 a3 a4 a5 a6 c p o id h old page head head' fin kill f0 f start m fin' kills cut =
    let put = put-changes g a0 a1 a2 a3 a4 p page fin start.image start.free start.ready fin' in
    let done = put.1 in
    let gone = kill-changes g a4 a5 a6 o kill old done.image (live4 g a0 p o id h old page head head' fin kill f0 f start a4 done.gains) (clears4 g a0 p o id h old page head head' fin kill f0 f start a4 done) kills in
    ⊎_elim
    (λ (x : PutCut g p page fin a0 a1 a2 a3 c). cut_put g a0 p o id h old page head head' fin kill f0 f start m c (put.0 c x))
    (λ (x : KillCut g o kill a4 a5 c). cut_kill g a0 p o id h old page head head' fin kill f0 f start m a4 c done (gone.0 c x))
    cut

pub put_data-keeps : (g : Geometry) → PutDataKeeps g
put_data-keeps g a0 a1 a2 a3 a4 p id h page head fin f0 start m all =
    let put = put-changes g a0 a1 a2 a3 a4 p page fin start.image start.free start.ready all in
    let to = puts_to g a0 p id h page head fin f0 start in (
      λ c cut. let w = put.0 c cut in (put_data-cuts g a0 c p id h (set page 4 fin) head f0 to m w, w.agree),
      (put_data-done g a0 a4 p id h (set page 4 fin) head f0 to put.1).0 m,
    )
