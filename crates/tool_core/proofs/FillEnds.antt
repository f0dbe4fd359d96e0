-- How a command ends that fills a volume, before its closing line.
use Rattle.std.proofs.Common.{◌≡◌, ℕ, ◌⊎◌, List, [], ◌++◌, take, drop, refl, sym, ◌∙◌, ap, subst, inl, inr, ⊎_elim, append-nil, true, false, Result, Ok, Err}
use Rattle.std.specs.Prelude.{IsOk}
use Rattle.std.proofs.lemmas.List.{take-append-drop}
use Rattle.std.proofs.lemmas.Bool.{cases_Bool}
use Rattle.geometry.specs.declared.geometry.Geometry.{Geometry}
use Rattle.nor_core.specs.declared.state.NorState.{Ghosts as NorOf}
use Rattle.nor_core.specs.Count.{Rose}
use Rattle.nor_core.specs.Device.{Changes, Says}
use Rattle.nor_core.proofs.Cuts.{wider, unchanged}
use Rattle.trim_laws.specs.Trim.{IsTrim}
use Rattle.trim_laws.proofs.Empty.{empty_trims}
use Rattle.flash_view.specs.Same.{StaysBehind}
use Rattle.table_model.specs.Table.{File, State}
use Rattle.table_model.specs.declared.error.FsErr.{FsErr}
use Rattle.table_model.specs.declared.error.FsErr.TheVariants.{DeviceFault, Failed}
use Rattle.run_model.specs.Ran.{RunStands}
use Rattle.vol_mount.specs.Formatted.{IsFormatted}
use Rattle.volume.specs.declared.volume.Volume.{Volume}
use Rattle.volume.specs.Holds.{memory}
use Rattle.volume.specs.Same.{IsSameVolume}
use Rattle.volume.specs.Settles.{SettledOr}
use Rattle.volume.specs.Stages.{takes_calls}
use Rattle.volume.proofs.Staying.{same_none}
use Rattle.volume.proofs.RunSettling.{unmounts_open}
use Rattle.volume_run.specs.Ready.{IsReady}
use Rattle.tool_parts.specs.declared.ending.Ending.{Ending}
use Rattle.tool_parts.specs.declared.ending.Ending.TheVariants.{Done, BoardFault}
use Rattle.tool_parts.specs.Endings.{ClosesWith, OnlyCloses, Speaks}
use Rattle.tool_core.specs.Filling.{HoldsFiles, WasFormatted, SpeaksOf}
use Rattle.tool_parts.proofs.Reading.{behind_closed}
use Rattle.script_run.proofs.Working.{goes_of}

-- ---- the written bytes that wait are put onto the chip

module _ {N : Type 0} {nor : NorOf N} {old new : Volume N nor} {last : Result (Unit {0}) FsErr} (takes : takes_calls old ≡ true → SettledOr old new last) (closed : takes_calls old ≡ false → (last ≡ Err Failed) × (new ≡ old)) where
  pub settled_same : IsSameVolume old new
  settled_same = ⊎_elim (λ yes. (takes yes).settles.same) (λ no. subst (λ (v : Volume N nor). IsSameVolume old v) (sym (closed no).1) (same_none old)) (cases_Bool (takes_calls old))

  pub settled_changes : Changes nor old.nor.now new.nor.now (λ was image. Unit {0})
  settled_changes = ⊎_elim
      (λ yes. wider (takes yes).settles.cuts (λ tells image here. tt {0}))
      (λ no. subst (λ (v : Volume N nor). Changes nor old.nor.now v.nor.now (λ was image. Unit {0})) (sym (closed no).1) (unchanged old.nor.now _ (λ tells. tt {0})))
      (cases_Bool (takes_calls old))

  pub settled_rose : last ≡ Err DeviceFault → Rose (nor.faults old.nor.now) (nor.faults new.nor.now)
  settled_rose is = ⊎_elim (λ yes. (unmounts_open last yes (takes yes)).cause is) (λ no. let both = sym (closed no).0 ∙ is in absurd (cc)) (cases_Bool (takes_calls old))

  -- what is on the chip then, of a volume at a state
  settled_cases : (g : Geometry) (s : State) → IsReady g old s → (IsOk last × HoldsFiles g (nor.bytes new.nor.now) s.table) ⊎ (last ≡ Err DeviceFault)
  settled_cases g s ready =
      let stands = subst (λ (h : Geometry). RunStands nor h old.nor.now (memory old) ready.moment) (sym ready.geometry) ready.stands in
      ⊎_elim
      (λ whole. inl (
        whole.0,
        subst (λ (h : Geometry). HoldsFiles h (nor.bytes new.nor.now) s.table) ready.geometry (record {
          tidy = whole.1.tidy;
          reserve = whole.1.holds.reserve stands.reserve;
          table = whole.1.table ∙ ap (λ (t : State). t.table) ready.state_is;
          trim = ((takes ready.takes).settles.upkeep.now stands.stands.tells ready.moment stands.stands.image).trims (subst (λ (h : Geometry). IsTrim h (nor.bytes old.nor.now)) (sym ready.geometry) ready.trim);
        }),
      ))
      (λ fault. inr fault)
      ((unmounts_open last ready.takes (takes ready.takes)).stands ready.moment ready.takes stands.stands)

  pub settled_files : (g : Geometry) (s : State) (done : Unit {0}) → last ≡ Ok done → IsReady g old s → HoldsFiles g (nor.bytes new.nor.now) s.table
  settled_files g s done is ready = ⊎_elim (λ fine. fine.1) (λ fault. let both = sym is ∙ fault in absurd (cc)) (settled_cases g s ready)

  pub settled_stops : (g : Geometry) (s : State) (why : FsErr) → last ≡ Err why → IsReady g old s → why ≡ DeviceFault
  settled_stops g s why is ready = ⊎_elim (λ fine. let bad = subst (λ (r : Result (Unit {0}) FsErr). IsOk r) is fine.0 in absurd (cc)) (λ fault. let both = sym is ∙ fault in cc) (settled_cases g s ready)

-- ---- a format

-- an empty volume has no files
pub holds_none : (g : Geometry) (was now : List ℕ) → IsFormatted g was now → HoldsFiles g now []
holds_none g was now f = record { tidy = f.tidy; reserve = f.reserve; table = f.table; trim = empty_trims g now f.tidy f.table }

-- a command that went on from it
pub was_formatted : {D : Type 0} {nor : NorOf D} {g : Geometry} {old empty last new : D} {line : List ℕ} {wanted status : ℕ} → IsFormatted g (nor.bytes old) (nor.bytes empty) → StaysBehind nor g empty last → ClosesWith nor last new line wanted status → WasFormatted nor g old new
was_formatted {empty = empty} formatted behind closes = record { empty = empty; formatted = formatted; later = goes_of (behind_closed behind closes).cuts }

-- ---- what is said

module _ {D : Type 0} {nor : NorOf D} where
  -- what is said after nothing
  pub speaks_said : {old mid new : D} {text : List ℕ} {ending result : Ending} → nor.said mid ≡ nor.said old → Speaks nor mid new text ending result → Speaks nor old new text ending result
  speaks_said {old} {mid} {new} {text} before speaks = ⊎_elim
      (λ broken. inl (broken.0, record { part = broken.1.part; rest = broken.1.rest; said = broken.1.said ∙ ap (λ (l : List ℕ). l ++ broken.1.part) before; whole_is = broken.1.whole_is }))
      (λ whole. inr (whole.0, whole.1 ∙ ap (λ (l : List ℕ). l ++ text) before))
      speaks

module _ {D : Type 0} {nor : NorOf D} {g : Geometry} where
  -- the board failed, and nothing was said
  pub speaks_none : {old new : D} {text : List ℕ} {files : List File} (ending : Ending) → nor.said new ≡ nor.said old → ending ≡ BoardFault → SpeaksOf nor g old new text files ending
  speaks_none {old} {new} {text} ending said fault = record {
    speaks = inl (fault, record { part = []; rest = text; said = said ∙ sym (append-nil (nor.said old)); whole_is = refl });
    left = λ done. absurd (let bad : Done ≡ BoardFault = sym done ∙ fault in cc);
  }

  -- the line was said
  pub speaks_whole : {old mid new : D} {piece text : List ℕ} {files : List File} → piece ≡ text → HoldsFiles g (nor.bytes mid) files → nor.said mid ≡ nor.said old → Says nor mid new piece → nor.said new ≡ nor.said mid ++ piece → SpeaksOf nor g old new text files Done
  speaks_whole {old} {mid} {new} {piece} {text} {files} is holds before says said = record {
    speaks = inr (refl, said ∙ ap (λ (l : List ℕ). l ++ piece) before ∙ ap (λ (l : List ℕ). nor.said old ++ l) is);
    left = λ done. subst (λ (l : List ℕ). HoldsFiles g l files) (sym says.bytes) holds;
  }

  -- a front of it was said
  pub speaks_part : {old mid new : D} {piece text : List ℕ} {files : List File} → piece ≡ text → nor.said mid ≡ nor.said old → Says nor mid new piece → SpeaksOf nor g old new text files BoardFault
  speaks_part {old} {mid} {new} {piece} {text} is before says = record {
    speaks = inl (
      refl,
      record {
        part = take says.said.0 text;
        rest = drop says.said.0 text;
        said = says.said.1 ∙ ap (λ (l : List ℕ). l ++ take says.said.0 piece) before ∙ ap (λ (l : List ℕ). nor.said old ++ take says.said.0 l) is;
        whole_is = sym (take-append-drop says.said.0 text);
      },
    );
    left = λ done. absurd (let bad : BoardFault ≡ Done = done in cc);
  }

  -- the same of what is said of files
  pub speaks_after : {old mid new : D} {text : List ℕ} {files : List File} {ending : Ending} → nor.said mid ≡ nor.said old → SpeaksOf nor g mid new text files ending → SpeaksOf nor g old new text files ending
  speaks_after before speaks = record { speaks = speaks_said before speaks.speaks; left = speaks.left }
