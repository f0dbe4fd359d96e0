-- What a map leaves and says with its closing line.
use Rattle.std.proofs.Common.{◌≡◌, ◌≢◌, ℕ, List, ◌++◌, length, refl, sym, ◌∙◌, ap, subst, arith, ⊎_elim}
use Rattle.geometry.specs.declared.geometry.Geometry.{Geometry}
use Rattle.nor_core.specs.declared.state.NorState.{Ghosts as NorOf}
use Rattle.nor_core.specs.Count.{Rose}
use Rattle.nor_core.proofs.Cuts.{widened}
use Rattle.flash_view.specs.Same.{StaysBehind}
use Rattle.image_model.specs.Tables.{table_of}
use Rattle.call_model.specs.Safe.{IsSafe, HoldsImage}
use Rattle.tool_parts.specs.declared.ending.Ending.{Ending}
use Rattle.tool_parts.specs.declared.ending.Ending.TheVariants.{Done, BoardFault}
use Rattle.tool_parts.specs.Closing.{status_of, closing_line_of}
use Rattle.tool_parts.specs.Endings.{OnlyCloses, Concludes}
use Rattle.tool_core.specs.Mapping.{map_text, map_ending, IsChecked, CollectedAfter, MapsTo, DoesMap}
use Rattle.tool_parts.specs.Reads.{ReadsOnce}
use Rattle.tool_core.specs.Scrubbing.{ScrubCut}
use Rattle.tool_parts.proofs.Reading.{reads_said, behind_closed}
use Rattle.tool_core.proofs.ScrubTold.{done_of, closed_cuts}
use Rattle.tool_parts.proofs.Speaking.{concludes, none_closed, mended_closed}

module _ {D : Type 0} {nor : NorOf D} where
  -- a status that is no fault's is that of the ending
  status_is : {mid new : D} (result : Ending) (status n : ℕ) → n ≢ 7 → OnlyCloses nor mid new result status → status ≡ n → status_of result ≡ n
  status_is result status n fine closes is = ⊎_elim (λ told. sym told ∙ is) (λ fault. absurd (fine (sym is ∙ fault.0))) closes.ends

module _ {D : Type 0} {nor : NorOf D} {g : Geometry} where
  -- the image that a cut is told by
  cut_as : {old mid new : D} (id : ℕ) {image : List ℕ} {count : ℕ} → nor.bytes new ≡ nor.bytes mid → ScrubCut nor g old mid (map_text g (nor.bytes old) (nor.bytes mid) id ++ closing_line_of (map_ending g (nor.bytes old) id)) image count →
      ScrubCut nor g old new (map_text g (nor.bytes old) (nor.bytes new) id ++ closing_line_of (map_ending g (nor.bytes old) id)) image count
  cut_as {old} {mid} {new} id {image} {count} same c =
      let longest : List ℕ → ℕ = λ (l : List ℕ). length (map_text g (nor.bytes old) l id ++ closing_line_of (map_ending g (nor.bytes old) id)) in
      record { table = c.table; safe = c.safe; least = c.least; most = omega (arith, c.most, ap longest same); once_said = λ more. c.once_said more ∙ sym same }

module _ {D : Type 0} {nor : NorOf D} {g : Geometry} {id : ℕ} where
  -- a whole map
  pub map_does : {old mid new : D} (cache : ℕ) (result : Ending) (status : ℕ) → MapsTo nor g id old mid result → (result ≡ BoardFault → Rose (nor.faults old) (nor.faults mid)) → StaysBehind nor g old mid → ReadsOnce nor g cache old mid → OnlyCloses nor mid new result status → DoesMap nor g cache id old new status
  map_does {old} {mid} {new} cache result status m cause behind reads closes =
      let was = nor.bytes old in
      let text = map_text g was (nor.bytes mid) id in
      let ending = map_ending g was id in
      record {
        told = λ tells. subst (λ (l : List ℕ). Concludes nor old new (map_text g was l id) ending status) (sym closes.says.bytes)
            (concludes text ending result status (m.cuts.told tells) m.cuts.faults cause (m.speaks tells) closes);
        done = λ tells is. subst (λ (l : List ℕ). CollectedAfter g was l) (sym closes.says.bytes) (m.done tells (done_of result (status_is result status 0 (λ bad. omega (arith, bad)) closes is)));
        missing = λ tells is. subst (λ (l : List ℕ). IsChecked g was l) (sym closes.says.bytes) (m.missing tells (status_is result status 17 (λ bad. omega (arith, bad)) closes is));
        table = λ tells. ap (table_of g) closes.says.bytes ∙ m.table tells;
        safe = λ tells. subst (λ (l : List ℕ). IsSafe g was l) (sym closes.says.bytes) (m.safe tells);
        holds = λ tells fine. ⊎_elim
            (λ broken. absurd (fine (⊎_elim (λ told. told ∙ ap status_of broken) (λ fault. fault.0) closes.ends)))
            (λ holds. subst (λ (l : List ℕ). HoldsImage g was l) (sym closes.says.bytes) holds)
            (m.holds tells);
        mends = λ tells may. mended_closed g result (m.mends tells may) closes;
        kept = λ tells why refused. none_closed (m.kept tells why refused) closes;
        cuts = widened (closed_cuts text ending result status m.cuts m.speaks m.table m.safe closes) (λ image count here tells. cut_as id closes.says.bytes (here tells));
        behind = behind_closed behind closes;
        reads = reads_said cache reads closes.says closes.cuts.faults;
      }
