-- How a command concludes that said a text before its closing line.
use Rattle.std.proofs.Common.{◌≡◌, ◌≢◌, ℕ, ◌+◌, ◌≤◌, ◌⊎◌, List, ◌++◌, length, take, drop, sym, ◌∙◌, ap, subst, arith, inl, inr, ⊎_elim, append_assoc, length-append}
use Rattle.std.proofs.lemmas.List.{take-append-drop}
use Rattle.geometry.specs.declared.geometry.Geometry.{Geometry}
use Rattle.nor_core.specs.declared.state.NorState.{Ghosts as NorOf}
use Rattle.nor_core.specs.Count.{Rose}
use Rattle.nor_core.specs.Device.{Leaves, InSay, OnlyReads, Says}
use Rattle.nor_core.proofs.Cuts.{andthen, widened, read_on}
use Rattle.image_model.specs.Tidy.{HasReserve}
use Rattle.image_tool.specs.Saying.{OnlySays}
use Rattle.tool_parts.specs.declared.ending.Ending.{Ending}
use Rattle.tool_parts.specs.declared.ending.Ending.TheVariants.{BoardFault}
use Rattle.tool_parts.specs.Closing.{status_of, closing_line_of}
use Rattle.tool_parts.specs.Endings.{ClosesWith, OnlyCloses, Speaks, Concludes, WritesNone, HasMended}

module _ {D : Type 0} {nor : NorOf D} where
  concludes_said : {old mid new : D} (text : List ℕ) (ending : Ending) (status : ℕ) → nor.tells mid → nor.faults old ≤ nor.faults mid → nor.said mid ≡ nor.said old ++ text → OnlyCloses nor mid new ending status → Concludes nor old new text ending status
  concludes_said {old} {mid} {new} text ending status tells faults said closes =
      let closing = closing_line_of ending in
      let n = closes.says.said.0 in
      record {
        ends = ⊎_elim (λ told. inl told) (λ fault. inr (fault.0, omega (arith, fault.1, faults))) closes.ends;
        whole = λ fine. closes.whole tells fine ∙ ap (λ (l : List ℕ). l ++ closing) said ∙ append_assoc (nor.said old) text closing;
        front = record {
          part = text ++ take n closing;
          rest = drop n closing;
          said = closes.says.said.1 ∙ ap (λ (l : List ℕ). l ++ take n closing) said ∙ append_assoc (nor.said old) text (take n closing);
          whole_is = ap (λ (l : List ℕ). text ++ l) (sym (take-append-drop n closing)) ∙ sym (append_assoc text (take n closing) (drop n closing));
        };
      }

  -- a text and its closing line
  pub concludes : {old mid new : D} (text : List ℕ) (ending result : Ending) (status : ℕ) → nor.tells mid → nor.faults old ≤ nor.faults mid → (result ≡ BoardFault → Rose (nor.faults old) (nor.faults mid)) →
      Speaks nor old mid text ending result → OnlyCloses nor mid new result status → Concludes nor old new text ending status
  concludes {old} {mid} {new} text ending result status tells faults cause speaks closes = ⊎_elim
      (λ broken.
      let failed : status ≡ 7 = ⊎_elim (λ told. told ∙ ap status_of broken.0) (λ fault. fault.0) closes.ends in
      let rose = cause broken.0 in
      let still : new ≡ mid = closes.silent (ap closing_line_of broken.0) in
      let f = broken.1 in
      record {
        ends = inr (failed, omega (arith, rose, closes.cuts.faults));
        whole = λ fine. absurd (fine failed);
        front = record { part = f.part; rest = f.rest ++ closing_line_of ending; said = ap nor.said still ∙ f.said; whole_is = ap (λ (l : List ℕ). l ++ closing_line_of ending) f.whole_is ∙ append_assoc f.part f.rest (closing_line_of ending) };
      })
      (λ said. concludes_said text ending status tells faults said.1 (subst (λ (e : Ending). OnlyCloses nor mid new e status) said.0 closes))
      speaks

  -- a status that is no fault's is that of the ending
  pub by_result : {old mid new : D} {text : List ℕ} {ending result : Ending} {status : ℕ} → Speaks nor old mid text ending result → OnlyCloses nor mid new result status → status ≢ 7 → result ≡ ending
  by_result speaks closes fine = ⊎_elim
      (λ broken. absurd (fine (⊎_elim (λ told. told ∙ ap status_of broken.0) (λ fault. fault.0) closes.ends)))
      (λ said. said.0)
      speaks

  -- how many bytes were said at a cut in the closing line
  pub within : {old mid : D} (text : List ℕ) (ending result : Ending) (count : ℕ) → Speaks nor old mid text ending result → length (nor.said mid) ≤ count → count ≤ length (nor.said mid) + length (closing_line_of result) →
      (length (nor.said old) ≤ count) × (count ≤ length (nor.said old) + length (text ++ closing_line_of ending))
  within {old} {mid} text ending result count speaks least most =
      let both = length-append text (closing_line_of ending) in
      ⊎_elim
      (λ broken.
      let f = broken.1 in
      let e = ap length f.said ∙ length-append (nor.said old) f.part in
      let t = ap length f.whole_is ∙ length-append f.part f.rest in
      let none = ap (λ (r : Ending). length (closing_line_of r)) broken.0 in
      (omega (arith, least, e), omega (arith, most, e, t, none, both)))
      (λ said.
      let e = ap length said.1 ∙ length-append (nor.said old) text in
      let same = ap (λ (r : Ending). length (closing_line_of r)) said.0 in
      (omega (arith, least, e), omega (arith, most, e, same, both)))
      speaks

  -- a text and its closing line, where nothing else is done
  pub says_closed : {old mid new : D} (text : List ℕ) (ending result : Ending) (status : ℕ) → OnlySays nor old mid text → (nor.tells old → Speaks nor old mid text ending result) → OnlyCloses nor mid new result status → OnlySays nor old new (text ++ closing_line_of ending)
  says_closed {old} {mid} {new} text ending result status says speaks closes =
      let both = length-append text (closing_line_of ending) in
      record {
        bytes = closes.says.bytes ∙ says.bytes;
        writes = closes.says.writes ∙ says.writes;
        cuts = andthen
            (widened says.cuts (λ image count here tells. let i = here tells in record { all_bytes = i.all_bytes; least = i.least; most = omega (arith, i.most, both) }))
            (widened closes.cuts (λ image count here tells.
            let i = within text ending result count (speaks tells) here.least here.most in
            record { all_bytes = λ told. here.all_bytes (says.cuts.told tells) ∙ says.bytes; least = i.0; most = i.1 }));
      }

  -- reads write nothing
  pub writes_none : {old new : D} → OnlyReads nor old new → WritesNone nor old new
  writes_none {old} {new} reads = record { bytes = reads.bytes; writes = reads.writes; cuts = read_on _ reads }

  -- nor does a piece that is said after them
  pub none_said : {old mid new : D} {piece : List ℕ} → OnlyReads nor old mid → Says nor mid new piece → Leaves nor mid new (InSay nor mid piece) → WritesNone nor old new
  none_said {old} {mid} {new} reads says cuts = record {
    bytes = says.bytes ∙ reads.bytes;
    writes = says.writes ∙ reads.writes;
    cuts = andthen (read_on _ reads) (widened cuts (λ image count here tells. here.all_bytes (reads.told tells) ∙ reads.bytes));
  }

  -- nor does a closing line
  pub none_closed : {old mid new : D} {line : List ℕ} {wanted status : ℕ} → WritesNone nor old mid → ClosesWith nor mid new line wanted status → WritesNone nor old new
  none_closed {old} {mid} {new} none closes = record {
    bytes = closes.says.bytes ∙ none.bytes;
    writes = closes.says.writes ∙ none.writes;
    cuts = andthen none.cuts (widened closes.cuts (λ image count here tells. here.all_bytes (none.cuts.told tells) ∙ none.bytes));
  }

  -- two free blocks stay as a closing line is said
  pub mended_closed : (g : Geometry) {mid new : D} (result : Ending) {status : ℕ} → (result ≡ BoardFault) ⊎ (HasReserve g (nor.bytes mid) × (status_of result ≡ 14 → ⊥)) → OnlyCloses nor mid new result status → HasMended nor g new status
  mended_closed g {mid} {new} result {status} ends closes = record {
    reserve = λ fine. ⊎_elim
        (λ broken. absurd (fine (⊎_elim (λ told. told ∙ ap status_of broken) (λ fault. fault.0) closes.ends)))
        (λ mended. subst (λ (l : List ℕ). HasReserve g l) (sym closes.says.bytes) mended.0)
        ends;
    not_tight = λ is. ⊎_elim
        (λ told. ⊎_elim (λ broken. omega (arith, is, told, ap status_of broken)) (λ mended. mended.1 (sym told ∙ is)) ends)
        (λ fault. omega (arith, is, fault.0))
        closes.ends;
  }
