-- What a scrub leaves and says with its closing line.
use Rattle.std.proofs.Common.{◌≡◌, ◌≢◌, ℕ, List, ◌++◌, length, refl, sym, ◌∙◌, ap, subst, arith, ⊎_elim, Option, length-append}
use Rattle.geometry.specs.declared.geometry.Geometry.{Geometry}
use Rattle.nor_core.specs.declared.state.NorState.{Ghosts as NorOf}
use Rattle.nor_core.specs.Count.{Rose}
use Rattle.nor_core.specs.Device.{Leaves}
use Rattle.nor_core.proofs.Cuts.{andthen, widened}
use Rattle.flash_view.specs.Same.{StaysBehind}
use Rattle.image_model.specs.Tables.{table_of}
use Rattle.call_model.specs.Safe.{IsSafe, HoldsImage}
use Rattle.wear_scrub.specs.declared.scrubs.Scrub.{Scrub}
use Rattle.tool_parts.specs.declared.ending.Ending.{Ending}
use Rattle.tool_parts.specs.declared.ending.Ending.TheVariants.{Done, BoardFault}
use Rattle.tool_parts.specs.Closing.{status_of, closing_line_of}
use Rattle.tool_parts.specs.Endings.{OnlyCloses, Speaks, Concludes}
use Rattle.tool_parts.specs.Reads.{ReadsOnce}
use Rattle.tool_parts.specs.Refusals.{begin_refusal}
use Rattle.tool_core.specs.Scrubbing.{moved_text, scrub_ending, ScrubCut, ScrubbedAfter, ScrubsTo, DoesScrub}
use Rattle.tool_parts.proofs.Reading.{reads_said, behind_closed}
use Rattle.tool_parts.proofs.Speaking.{concludes, within, none_closed, mended_closed}

-- status 0 is that of a command that was done
pub done_of : (ending : Ending) → status_of ending ≡ 0 → ending ≡ Done
done_of Done is = refl
done_of _ is = absurd (omega (arith, is))

module _ {D : Type 0} {nor : NorOf D} {g : Geometry} where
  -- the image that a cut is told by
  cut_as : {old mid new : D} (moved : ℕ) (last : Option Scrub) {image : List ℕ} {count : ℕ} → nor.bytes new ≡ nor.bytes mid → ScrubCut nor g old mid (moved_text g (nor.bytes old) (nor.bytes mid) moved last ++ closing_line_of (scrub_ending g (nor.bytes old) (nor.bytes mid))) image count →
      ScrubCut nor g old new (moved_text g (nor.bytes old) (nor.bytes new) moved last ++ closing_line_of (scrub_ending g (nor.bytes old) (nor.bytes new))) image count
  cut_as {old} {mid} {new} moved last {image} {count} same c =
      let longest : List ℕ → ℕ = λ (l : List ℕ). length (moved_text g (nor.bytes old) l moved last ++ closing_line_of (scrub_ending g (nor.bytes old) l)) in
      record { table = c.table; safe = c.safe; least = c.least; most = omega (arith, c.most, ap longest same); once_said = λ more. c.once_said more ∙ sym same }

module _ {D : Type 0} {nor : NorOf D} {g : Geometry} where
  -- a cut in a command or in its closing line
  pub closed_cuts : {old mid new : D} (text : List ℕ) (ending result : Ending) (status : ℕ) → Leaves nor old mid (λ image count. nor.tells old → ScrubCut nor g old mid text image count) → (nor.tells old → Speaks nor old mid text ending result) → (nor.tells old → table_of g (nor.bytes mid) ≡ table_of g (nor.bytes old)) →
      (nor.tells old → IsSafe g (nor.bytes old) (nor.bytes mid)) → OnlyCloses nor mid new result status → Leaves nor old new (λ image count. nor.tells old → ScrubCut nor g old mid (text ++ closing_line_of ending) image count)
  closed_cuts {old} {mid} {new} text ending result status cuts speaks table safe closes = andthen
      (widened cuts (λ image count here tells.
      let i = here tells in
      let both = length-append text (closing_line_of ending) in
      record { table = i.table; safe = i.safe; least = i.least; most = omega (arith, i.most, both); once_said = i.once_said }))
      (widened closes.cuts (λ image count here tells.
      let is : image ≡ nor.bytes mid = here.all_bytes (cuts.told tells) in
      let bounds = within text ending result count (speaks tells) here.least here.most in
      record {
        table = ap (table_of g) is ∙ table tells;
        safe = subst (λ (l : List ℕ). IsSafe g (nor.bytes old) l) (sym is) (safe tells);
        least = bounds.0;
        most = bounds.1;
        once_said = λ more. is;
      }))

module _ {D : Type 0} {nor : NorOf D} {g : Geometry} {limit : ℕ} where
  -- a scrub with status 0 came to its end
  status_done : {old mid new : D} (result : Ending) (status : ℕ) → (s : ScrubsTo nor g limit old mid result) → OnlyCloses nor mid new result status → nor.tells old → status ≡ 0 → ScrubbedAfter g limit s.moved s.last (nor.bytes old) (nor.bytes mid)
  status_done {old} {mid} result status s closes tells done =
      let is : status_of result ≡ 0 = ⊎_elim (λ told. sym told ∙ done) (λ fault. absurd (omega (arith, done, fault.0))) closes.ends in
      s.done tells (done_of result is)

  -- a whole scrub
  pub scrub_does : {old mid new : D} (cache : ℕ) (result : Ending) (status : ℕ) → ScrubsTo nor g limit old mid result → (result ≡ BoardFault → Rose (nor.faults old) (nor.faults mid)) → StaysBehind nor g old mid → ReadsOnce nor g cache old mid → OnlyCloses nor mid new result status → DoesScrub nor g cache limit old new status
  scrub_does {old} {mid} {new} cache result status s cause behind reads closes =
      let was = nor.bytes old in
      record {
        moved = s.moved;
        last = s.last;
        told = λ tells. subst (λ (l : List ℕ). Concludes nor old new (moved_text g was l s.moved s.last) (scrub_ending g was l) status) (sym closes.says.bytes)
            (concludes (moved_text g was (nor.bytes mid) s.moved s.last) (scrub_ending g was (nor.bytes mid)) result status (s.cuts.told tells) s.cuts.faults cause (s.speaks tells) closes);
        done = λ tells zero_is. subst (λ (l : List ℕ). ScrubbedAfter g limit s.moved s.last was l) (sym closes.says.bytes) (status_done result status s closes tells zero_is);
        table = λ tells. ap (table_of g) closes.says.bytes ∙ s.table tells;
        safe = λ tells. subst (λ (l : List ℕ). IsSafe g was l) (sym closes.says.bytes) (s.safe tells);
        holds = λ tells fine. ⊎_elim
            (λ broken. absurd (fine (⊎_elim (λ told. told ∙ ap status_of broken) (λ fault. fault.0) closes.ends)))
            (λ holds. subst (λ (l : List ℕ). HoldsImage g was l) (sym closes.says.bytes) holds)
            (s.holds tells);
        mends = λ tells may. mended_closed g result (s.mends tells may) closes;
        kept = λ tells ending refused. none_closed (s.kept tells ending refused) closes;
        cuts = widened (closed_cuts (moved_text g was (nor.bytes mid) s.moved s.last) (scrub_ending g was (nor.bytes mid)) result status s.cuts s.speaks s.table s.safe closes) (λ image count here tells. cut_as s.moved s.last closes.says.bytes (here tells));
        behind = behind_closed behind closes;
        reads = reads_said cache reads closes.says closes.cuts.faults;
      }
