-- How a make ends, before its closing line and with it.
use Rattle.std.proofs.Common.{◌≡◌, ◌≢◌, ℕ, ◌*◌, ◌≤◌, ◌⊎◌, List, [], ◌∷◌, ◌++◌, length, refl, sym, ◌∙◌, ap, subst, arith, inl, inr, ⊎_elim, append-nil, Option, Some, None}
use Rattle.std.proofs.lemmas.Option.{none-some, same_Some}
use Rattle.geometry.specs.declared.geometry.Geometry.{Geometry}
use Rattle.nor_core.specs.declared.state.NorState.{Ghosts as NorOf}
use Rattle.nor_core.specs.Count.{Rose}
use Rattle.nor_core.specs.Flash.{SameOutside}
use Rattle.nor_core.specs.Device.{Changes}
use Rattle.flash_view.specs.Same.{StaysBehind}
use Rattle.flash_view.proofs.Behind.{behind_then, behind_said, behind_changes}
use Rattle.table_model.specs.declared.reply.Info.{Info}
use Rattle.folder_core.specs.declared.state.FolderState.{Ghosts as FolderOf}
use Rattle.folder_core.specs.Files.{Entry}
use Rattle.folder_core.specs.Puts.{Kept}
use Rattle.folder_plan.specs.declared.refusing.Refusal.{Refusal}
use Rattle.folder_plan.specs.declared.refusing.Refusal.TheVariants.{BadNames, Full as NoRoom}
use Rattle.folder_plan.specs.Refusals.{index_sum, make_refusal}
use Rattle.folder_plan.specs.Tables.{folder_table}
use Rattle.folder_plan.proofs.Keeping.{kept_then}
use Rattle.vol_mount.specs.Formatted.{IsFormatted}
use Rattle.volume.specs.declared.volume.Volume.{Volume}
use Rattle.volume_make.specs.Making.{made_text, make_text, IsMade}
use Rattle.tool_parts.specs.declared.ending.Ending.{Ending}
use Rattle.tool_parts.specs.declared.ending.Ending.TheVariants.{Done, BoardFault, FolderFault}
use Rattle.tool_parts.specs.Closing.{status_of}
use Rattle.tool_parts.specs.Endings.{OnlyCloses, Speaks, Concludes}
use Rattle.tool_core.specs.Filling.{HoldsFiles, WasFormatted, SpeaksOf}
use Rattle.tool_core.specs.Making.{refused_by, StopsMake, HoldsFolder, MakesTo, DoesMake}
use Rattle.tool_core.proofs.FillEnds.{holds_none, was_formatted, speaks_none, speaks_said}
use Rattle.tool_parts.proofs.Speaking.{concludes, by_result}
use Rattle.tool_parts.proofs.Reading.{behind_closed}

-- ---- a folder that is refused

refused_status : (why : Refusal) → (status_of (refused_by why) ≡ 6) ⊎ (status_of (refused_by why) ≡ 13)
refused_status (BadNames at) = inr refl
refused_status (NoRoom index pages) = inl refl

unrefused : {o : Option Refusal} (why : Refusal) → o ≡ None → o ≡ Some why → ⊥
unrefused why none some = none-some why (sym none ∙ some)

module _ {D : Type 0} {nor : NorOf D} where
  -- nothing was said but that the folder failed
  unread : {old mid new : D} (result : Ending) (status : ℕ) → nor.tells old → nor.faults old ≤ nor.faults mid → (nor.tells old → nor.tells mid) → result ≡ FolderFault → nor.said mid ≡ nor.said old → OnlyCloses nor mid new result status → Concludes nor old new [] FolderFault status
  unread {old} result status tells more told fault said closes = concludes [] FolderFault result status (told tells) more
      (λ is. absurd (let bad : FolderFault ≡ BoardFault = sym fault ∙ is in cc))
      (inr (fault, said ∙ sym (append-nil (nor.said old))))
      closes

module _ {D X : Type 0} {nor : NorOf D} {folder : FolderOf X} {g : Geometry} where
  -- its names and sizes refuse it
  make_named : {old new : D} {before after : X} (why : Refusal) (ending : Ending) (status : ℕ) → make_refusal g (folder.entries before) ≡ Some why → ending ≡ refused_by why → Kept folder before after → OnlyCloses nor old new ending status → DoesMake nor folder g old new before after status
  make_named {old} {new} why ending status is ends kept closes =
      let here : OnlyCloses nor old new (refused_by why) status = subst (λ (e : Ending). OnlyCloses nor old new e status) ends closes in
      let undone : status ≡ 0 → ⊥ = λ done. ⊎_elim
      (λ said. ⊎_elim (λ six. omega (arith, done, said, six)) (λ named. omega (arith, done, said, named)) (refused_status why))
      (λ fault. omega (arith, done, fault.0))
      here.ends in
      record {
        kept = kept;
        refused = λ w at. inl (subst (λ (r : Refusal). OnlyCloses nor old new (refused_by r) status) (same_Some why w (sym is ∙ at)) here);
        accepted = λ none. absurd (unrefused why none is);
        told = λ tells none. absurd (unrefused why none is);
        files = λ tells done. absurd (undone done);
        formats = λ tells done. absurd (undone done);
        behind = behind_said g _ closes.says closes.cuts;
      }

  -- it failed before that was known
  make_unlisted : {old new : D} {before after : X} (ending : Ending) (status : ℕ) → ending ≡ FolderFault → Rose (folder.faults before) (folder.faults after) → Kept folder before after → OnlyCloses nor old new ending status → DoesMake nor folder g old new before after status
  make_unlisted {old} {new} ending status fault rose kept closes =
      let here : OnlyCloses nor old new FolderFault status = subst (λ (e : Ending). OnlyCloses nor old new e status) fault closes in
      let is : (status ≡ 9) ⊎ (status ≡ 7) = ⊎_elim (λ told. inl told) (λ failed. inr failed.0) here.ends in
      let undone : status ≡ 0 → ⊥ = λ done. ⊎_elim (λ nine. omega (arith, done, nine)) (λ seven. omega (arith, done, seven)) is in
      record {
        kept = kept;
        refused = λ why some. inr (record { closes = here; cause = rose });
        accepted = λ none. (
          λ six. ⊎_elim (λ nine. omega (arith, six, nine)) (λ seven. omega (arith, six, seven)) is,
          λ named. ⊎_elim (λ nine. omega (arith, named, nine)) (λ seven. omega (arith, named, seven)) is,
        );
        told = λ tells none. inr (record { concludes = unread FolderFault status tells (omega arith) (λ same. same) refl refl here; cause = rose });
        files = λ tells done. absurd (undone done);
        formats = λ tells done. absurd (undone done);
        behind = behind_said g _ closes.says closes.cuts;
      }

  pub make_stopped : {old new : D} {before after : X} (ending : Ending) (status : ℕ) → StopsMake folder g before after ending → Kept folder before after → OnlyCloses nor old new ending status → DoesMake nor folder g old new before after status
  make_stopped ending status stops kept closes = ⊎_elim
      (λ failed. make_unlisted ending status failed.0 failed.1 kept closes)
      (λ why. make_named why.0 ending status why.1 why.2 kept closes)
      stops

  -- ---- one that isn't

  make_closed : {old mid new : D} {before after : X} (result : Ending) (status : ℕ) → make_refusal g (folder.entries before) ≡ None → Kept folder before after → (nor.tells old → MakesTo nor folder g old mid before result) →
      (nor.tells old → status ≡ 0 → WasFormatted nor g old new) → StaysBehind nor g old mid → (result ≡ BoardFault → Rose (nor.faults old) (nor.faults mid)) → (result ≡ FolderFault → Rose (folder.faults before) (folder.faults after)) → status_of result ≢ 6 → status_of result ≢ 13 → OnlyCloses nor mid new result status → DoesMake nor folder g old new before after status
  make_closed {old} {mid} {new} {before} result status accepted kept makes formats behind cause folder_cause no_full no_names closes = record {
    kept = kept;
    refused = λ why is. absurd (unrefused why accepted is);
    accepted = λ none. (
      λ six. ⊎_elim (λ told. no_full (sym told ∙ six)) (λ fault. omega (arith, six, fault.0)) closes.ends,
      λ named. ⊎_elim (λ told. no_names (sym told ∙ named)) (λ fault. omega (arith, named, fault.0)) closes.ends,
    );
    told = λ tells none. ⊎_elim
        (λ failed. inr (record { concludes = unread result status tells behind.cuts.faults behind.cuts.told failed.0 failed.1 closes; cause = folder_cause failed.0 }))
        (λ speaks. inl (concludes (make_text g (folder.entries before)) Done result status (behind.cuts.told tells) behind.cuts.faults cause speaks.speaks closes))
        (makes tells);
    files = λ tells done. ⊎_elim
        (λ failed. absurd (⊎_elim (λ said. omega (arith, done, said, ap status_of failed.0)) (λ fault. omega (arith, done, fault.0)) closes.ends))
        (λ speaks.
        let is : result ≡ Done = by_result speaks.speaks closes (λ failed. omega (arith, done, failed)) in
        subst (λ (l : List ℕ). HoldsFolder folder g l before) (sym closes.says.bytes) (speaks.left is))
        (makes tells);
    formats = formats;
    behind = behind_closed behind closes;
  }

  -- the board failed, and nothing was said
  pub makes_none : {old new : D} {before : X} (ending : Ending) → nor.said new ≡ nor.said old → ending ≡ BoardFault → MakesTo nor folder g old new before ending
  makes_none {old} {new} {before} ending said fault = inr (record {
    speaks = (speaks_none {nor = nor} {g = g} {files = []} ending said fault).speaks;
    left = λ done. absurd (let bad : Done ≡ BoardFault = sym done ∙ fault in cc);
  })

  -- a volume that could not be formatted
  pub make_unformatted : {old mid new : D} {before after : X} (result : Ending) (status : ℕ) → make_refusal g (folder.entries before) ≡ None → Kept folder before after → Changes nor old mid (SameOutside 0 (g.blocks * g.block)) → result ≡ BoardFault → Rose (nor.faults old) (nor.faults mid) → OnlyCloses nor mid new result status →
      DoesMake nor folder g old new before after status
  make_unformatted result status accepted kept changes fault rose closes = make_closed result status accepted kept
      (λ tells. makes_none result changes.said fault)
      (λ tells done. absurd (⊎_elim (λ said. omega (arith, done, said, ap status_of fault)) (λ failed. omega (arith, done, failed.0)) closes.ends))
      (behind_changes g changes)
      (λ is. rose)
      (λ is. absurd (let bad : BoardFault ≡ FolderFault = sym fault ∙ is in cc))
      (λ six. omega (arith, six, ap status_of fault))
      (λ named. omega (arith, named, ap status_of fault))
      closes

  -- the line of the files that were put, and these
  pub speaks_folder : {N : Type 0} {on : NorOf N} {after : Volume N on} {mid new : D} {before : X} {slots : ℕ} {info : Info} {line : List ℕ} {result : Ending} (made : IsMade folder g slots before after info) → line ≡ made_text info.files info.index_pages info.data_pages →
      SpeaksOf nor g mid new line (folder_table g made.files) result → MakesTo nor folder g mid new before result
  speaks_folder {N} {on} {after} {mid} {new} {before} {slots} {info} {line} {result} made is spoken =
      let same : line ≡ make_text g (folder.entries before) =
      is
      ∙ ap (λ (n : ℕ). made_text n info.index_pages info.data_pages) made.files_are
      ∙ ap (λ (n : ℕ). made_text (length (folder.entries before)) n info.data_pages) made.index_is
      ∙ ap (λ (n : ℕ). made_text (length (folder.entries before)) (index_sum g (folder.entries before)) n) made.data_is in
      inr (record {
        speaks = subst (λ (l : List ℕ). Speaks nor mid new l Done result) same spoken.speaks;
        left = λ done. record { files = made.files; entries = made.entries; told = made.told; holds = spoken.left done };
      })

  -- the same of a folder that was kept before
  makes_kept : {old mid : D} {before between : X} {result : Ending} → Kept folder before between → MakesTo nor folder g old mid between result → MakesTo nor folder g old mid before result
  makes_kept {old} {mid} {before} {between} {result} kept makes = ⊎_elim
      (λ failed. inl failed)
      (λ here. inr (record {
        speaks = subst (λ (l : List Entry). Speaks nor old mid (make_text g l) Done result) kept.entries here.speaks;
        left = λ done. let holds = here.left done in record { files = holds.files; entries = holds.entries ∙ kept.entries; told = λ tells. holds.told (kept.told tells) ∙ kept.files; holds = holds.holds };
      }))
      makes

  -- and of what was said after nothing
  pub makes_after : {old mid new : D} {before : X} {result : Ending} → nor.said mid ≡ nor.said old → MakesTo nor folder g mid new before result → MakesTo nor folder g old new before result
  makes_after {old} {mid} {new} {before} {result} said makes = ⊎_elim
      (λ failed. inl (failed.0, failed.1 ∙ said))
      (λ here. inr (record { speaks = speaks_said said here.speaks; left = here.left }))
      makes

  -- a volume that was formatted
  pub make_formatted : {old mid last new : D} {before between after : X} (result : Ending) (status : ℕ) → make_refusal g (folder.entries before) ≡ None → Kept folder before between → Kept folder between after → Changes nor old mid (SameOutside 0 (g.blocks * g.block)) → (nor.tells old → IsFormatted g (nor.bytes old) (nor.bytes mid)) →
      (nor.tells mid → HoldsFiles g (nor.bytes mid) [] → MakesTo nor folder g mid last between result) → StaysBehind nor g mid last → (result ≡ BoardFault → Rose (nor.faults mid) (nor.faults last)) → (result ≡ FolderFault → Rose (folder.faults between) (folder.faults after)) →
      status_of result ≢ 6 → status_of result ≢ 13 → OnlyCloses nor last new result status → DoesMake nor folder g old new before after status
  make_formatted result status accepted kept later changes formatted makes behind cause folder_cause no_full no_names closes = make_closed result status accepted (kept_then kept later)
      (λ tells. makes_after changes.said (makes_kept kept (makes (changes.cuts.told tells) (holds_none g _ _ (formatted tells)))))
      (λ tells done. was_formatted (formatted tells) behind closes)
      (behind_then g (behind_changes g changes) behind)
      (λ is. let rose = cause is in omega (arith, rose, changes.cuts.faults))
      (λ is. let rose = folder_cause is in omega (arith, rose, kept.faults))
      no_full
      no_names
      closes
