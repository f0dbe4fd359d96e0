-- How an extraction ends, before its closing line and with it.
use Rattle.std.proofs.Common.{◌≡◌, ℕ, ◌≤◌, List, ◌++◌, length, refl, sym, ◌∙◌, ap, subst, inl, inr, ⊎_elim, arith, append-nil, length-append, Option}
use Rattle.std.specs.Prelude.{unwrap_or}
use Rattle.geometry.specs.declared.geometry.Geometry.{Geometry}
use Rattle.nor_core.specs.declared.state.NorState.{Ghosts as NorOf}
use Rattle.nor_core.specs.Count.{Rose}
use Rattle.nor_core.specs.Device.{OnlyReads}
use Rattle.nor_core.proofs.Cuts.{andthen, widened}
use Rattle.image_model.specs.Tables.{table_of, damaged_of}
use Rattle.image_model.specs.Kinds.{spoiled_blocks}
use Rattle.folder_core.specs.declared.state.FolderState.{Ghosts as FolderOf}
use Rattle.vol_mount.specs.declared.lent.MountErr.{MountErr}
use Rattle.vol_mount.specs.declared.lent.MountErr.TheVariants.{NotAFs as MountNotAFs, DeviceFault as MountFault}
use Rattle.vol_mount.specs.Mounts.{CountsSpoiled}
use Rattle.image_tool.specs.Extracting.{ExtractsAll, ExtractsFront, ExtractsLines}
use Rattle.image_tool.specs.Lists.{list_of}
use Rattle.image_tool.specs.Putting.{folder_files, FolderGoes}
use Rattle.image_tool.specs.Saying.{OnlySays, SaysFront}
use Rattle.image_tool.specs.Texts.{record_lines}
use Rattle.image_tool.proofs.Pieces.{kept_none, files_none, partly_none, partly_all}
use Rattle.image_tool.proofs.Speaking.{says_none, front_none, says_after, front_after, says_same}
use Rattle.tool_parts.specs.declared.ending.Ending.{Ending}
use Rattle.tool_parts.specs.declared.ending.Ending.TheVariants.{BoardFault, FolderFault}
use Rattle.tool_parts.specs.Closing.{status_of, closing_line_of}
use Rattle.tool_parts.specs.Endings.{OnlyCloses, WritesNone}
use Rattle.tool_core.specs.Extracting.{extracted, Extracts, ExtractEnds, EndsListed, EndsBroken, DoesExtract}
use Rattle.tool_core.specs.Listing.{listed_text}
use Rattle.tool_parts.specs.Mounting.{mount_ends}
use Rattle.tool_parts.specs.Reads.{ReadsOnce}
use Rattle.tool_parts.specs.Refusals.{said_ending, list_ending}
use Rattle.tool_parts.proofs.Reading.{reads_said}
use Rattle.tool_parts.proofs.Refusals.{mount_two, mount_few}
use Rattle.tool_parts.proofs.Speaking.{concludes, says_closed, none_closed}

module _ {D X : Type 0} {nor : NorOf D} {folder : FolderOf X} where
  -- a volume that wasn't mounted
  pub not_mounted : (g : Geometry) (why : MountErr) {old new : D} (d : X) → OnlyReads nor old new → (nor.tells old → CountsSpoiled g (nor.bytes old) why) → Extracts nor folder g old new d d (mount_ends why)
  not_mounted g (MountNotAFs spoiled) {old} {new} d reads cause = record {
    says = says_none _ reads;
    ends = λ tells. let why = cause tells in rw (mount_two g (nor.bytes old) spoiled why.0 why.1) (inl (refl, record { said = reads.said ∙ sym (append-nil (nor.said old)); puts = files_none (kept_none d) }));
  }
  not_mounted g MountFault d reads cause = record { says = says_none _ reads; ends = λ tells. inr (inl (refl, record { front = front_none _ reads; partly = partly_none _ (kept_none d) })) }

module _ {D : Type 0} {nor : NorOf D} {g : Geometry} where
  -- the list and the files of the first image, which mounts
  same_text : {old mid : D} (h : Geometry) → h ≡ g → OnlyReads nor old mid → spoiled_blocks g (nor.bytes old) ≤ 1 → list_of h (nor.bytes mid) ≡ listed_text g (nor.bytes old)
  same_text {old} {mid} h same reads few = rw (mount_few g (nor.bytes old) few) (ap (λ (k : Geometry). list_of k (nor.bytes mid)) same ∙ ap (list_of g) reads.bytes)

  same_files : {old mid : D} (h : Geometry) → h ≡ g → OnlyReads nor old mid → spoiled_blocks g (nor.bytes old) ≤ 1 → table_of h (nor.bytes mid) ≡ extracted g (nor.bytes old)
  same_files {old} {mid} h same reads few = rw (mount_few g (nor.bytes old) few) (ap (λ (k : Geometry). table_of k (nor.bytes mid)) same ∙ ap (table_of g) reads.bytes)

  same_count : {old mid : D} (h : Geometry) → h ≡ g → OnlyReads nor old mid → length (damaged_of h (nor.bytes mid)) ≡ length (damaged_of g (nor.bytes old))
  same_count {old} {mid} h same reads = ap (λ (k : Geometry). length (damaged_of k (nor.bytes mid))) same ∙ ap (λ (l : List ℕ). length (damaged_of g l)) reads.bytes

  pub extract_says : {old mid new : D} (h : Geometry) → h ≡ g → OnlyReads nor old mid → (nor.tells old → spoiled_blocks g (nor.bytes old) ≤ 1) → OnlySays nor mid new (list_of h (nor.bytes mid)) → OnlySays nor old new (listed_text g (nor.bytes old))
  extract_says h same reads few says = says_after reads (says_same _ _ (λ tells. same_text h same reads (few (reads.told_before tells))) says)

module _ {D : Type 0} {nor : NorOf D} where
  -- saying writes nothing
  says_nothing : {old new : D} {text : List ℕ} → OnlySays nor old new text → WritesNone nor old new
  says_nothing says = record { bytes = says.bytes; writes = says.writes; cuts = widened says.cuts (λ image count here tells. (here tells).all_bytes tells) }

  -- a text and a closing line that is said behind what was said of it
  says_ended : {old mid new : D} (text : List ℕ) (ending : Ending) {status : ℕ} → OnlySays nor old mid text → (nor.tells old → SaysFront nor old mid text) → OnlyCloses nor mid new ending status → OnlySays nor old new (text ++ closing_line_of ending)
  says_ended {old} {mid} {new} text ending says front closes =
      let both = length-append text (closing_line_of ending) in
      record {
        bytes = closes.says.bytes ∙ says.bytes;
        writes = closes.says.writes ∙ says.writes;
        cuts = andthen
            (widened says.cuts (λ image count here tells. let i = here tells in record { all_bytes = i.all_bytes; least = i.least; most = omega (arith, i.most, both) }))
            (widened closes.cuts (λ image count here tells.
            let f = front tells in
            let e = ap length f.said ∙ length-append (nor.said old) f.part in
            let t = ap length f.whole_is ∙ length-append f.part f.rest in
            record { all_bytes = λ told. here.all_bytes (says.cuts.told tells) ∙ says.bytes; least = omega (arith, here.least, e); most = omega (arith, here.most, e, t, both) }));
      }

module _ {D X : Type 0} {nor : NorOf D} {folder : FolderOf X} {g : Geometry} where
  -- all files were put
  pub extract_done : {old mid new : D} {was now : X} (h : Geometry) (count : ℕ) (result : Ending) → h ≡ g → OnlyReads nor old mid → spoiled_blocks g (nor.bytes old) ≤ 1 →
      ExtractsAll nor folder (list_of h (nor.bytes mid)) (table_of h (nor.bytes mid)) mid new was now → count ≡ length (damaged_of h (nor.bytes mid)) → result ≡ said_ending count → ExtractEnds nor folder g old new was now result
  extract_done {old} {mid} {new} {was} {now} h count result same reads few all counted is = inl (
    is ∙ ap said_ending (counted ∙ same_count h same reads) ∙ sym (ap (λ (o : Option Ending). unwrap_or o (said_ending (length (damaged_of g (nor.bytes old))))) (mount_few g (nor.bytes old) few)),
    rw (sym (same_text h same reads few), sym (same_files h same reads few)) (record { said = all.said ∙ ap (λ (l : List ℕ). l ++ list_of h (nor.bytes mid)) reads.said; puts = all.puts }),
  )

  -- the board failed in it
  pub extract_stopped : {old mid new : D} {was now : X} (h : Geometry) → h ≡ g → OnlyReads nor old mid → spoiled_blocks g (nor.bytes old) ≤ 1 →
      ExtractsFront nor folder (list_of h (nor.bytes mid)) (table_of h (nor.bytes mid)) mid new was now → ExtractEnds nor folder g old new was now BoardFault
  extract_stopped {old} {mid} {new} {was} {now} h same reads few f = inr (inl (refl, rw (sym (same_text h same reads few), sym (same_files h same reads few)) (record { front = front_after reads f.front; partly = f.partly })))

  -- the folder failed in it
  pub extract_broken : {old mid new : D} {was now : X} (h : Geometry) → h ≡ g → OnlyReads nor old mid → spoiled_blocks g (nor.bytes old) ≤ 1 →
      ExtractsLines nor folder (list_of h (nor.bytes mid)) (table_of h (nor.bytes mid)) mid new was now → ExtractEnds nor folder g old new was now FolderFault
  extract_broken {old} {mid} {new} {was} {now} h same reads few f = inr (inr (refl, rw (sym (same_text h same reads few), sym (same_files h same reads few)) (record { front = front_after reads f.front; lines = record { front = f.lines.front; rest = f.lines.rest; table_is = f.lines.table_is; said = f.lines.said ∙ ap (λ (l : List ℕ). l ++ record_lines f.lines.front) reads.said }; partly = f.partly })))

  -- ---- with the closing line

  ends_done : {old mid new : D} {before after : X} (result : Ending) (status : ℕ) → OnlySays nor old mid (listed_text g (nor.bytes old)) → nor.tells mid → result ≡ list_ending g (nor.bytes old) →
      ExtractsAll nor folder (listed_text g (nor.bytes old)) (extracted g (nor.bytes old)) old mid before after → (result ≡ BoardFault → Rose (nor.faults old) (nor.faults mid)) → OnlyCloses nor mid new result status → EndsListed nor folder g old new before after status
  ends_done {old} result status says tells is all cause closes = record {
    says = says_closed (listed_text g (nor.bytes old)) (list_ending g (nor.bytes old)) result status says (λ told. inr (is, all.said)) closes;
    concludes = concludes (listed_text g (nor.bytes old)) (list_ending g (nor.bytes old)) result status tells says.cuts.faults cause (inr (is, all.said)) closes;
    whole = λ fine. all.puts;
    partly = partly_all (folder_files (extracted g (nor.bytes old))) all.puts;
  }

  ends_stopped : {old mid new : D} {before after : X} (result : Ending) (status : ℕ) → OnlySays nor old mid (listed_text g (nor.bytes old)) → nor.tells mid → result ≡ BoardFault →
      ExtractsFront nor folder (listed_text g (nor.bytes old)) (extracted g (nor.bytes old)) old mid before after → (result ≡ BoardFault → Rose (nor.faults old) (nor.faults mid)) → OnlyCloses nor mid new result status → EndsListed nor folder g old new before after status
  ends_stopped {old} result status says tells is f cause closes = record {
    says = says_closed (listed_text g (nor.bytes old)) (list_ending g (nor.bytes old)) result status says (λ told. inl (is, f.front)) closes;
    concludes = concludes (listed_text g (nor.bytes old)) (list_ending g (nor.bytes old)) result status tells says.cuts.faults cause (inl (is, f.front)) closes;
    whole = λ fine. absurd (fine (⊎_elim (λ told. told ∙ ap status_of is) (λ fault. fault.0) closes.ends));
    partly = f.partly;
  }

  ends_broken : {old mid new : D} {before after : X} (result : Ending) (status : ℕ) → OnlySays nor old mid (listed_text g (nor.bytes old)) → nor.tells mid → result ≡ FolderFault →
      ExtractsLines nor folder (listed_text g (nor.bytes old)) (extracted g (nor.bytes old)) old mid before after → (result ≡ BoardFault → Rose (nor.faults old) (nor.faults mid)) → (result ≡ FolderFault → Rose (folder.faults before) (folder.faults after)) →
      OnlyCloses nor mid new result status → EndsBroken nor folder g old new before after status
  ends_broken {old} {mid} {new} result status says tells is f cause folder_cause closes = record {
    front = f.lines.front;
    rest = f.lines.rest;
    files_are = f.lines.table_is;
    says = says_ended (listed_text g (nor.bytes old)) FolderFault says (λ told. f.front) (subst (λ (e : Ending). OnlyCloses nor mid new e status) is closes);
    concludes = concludes (record_lines f.lines.front) FolderFault result status tells says.cuts.faults cause (inr (is, f.lines.said)) closes;
    cause = folder_cause is;
    partly = f.partly;
  }

  -- what an extraction leaves once its closing line was said
  pub extract_closed : {old mid new : D} {before after : X} (cache : ℕ) (result : Ending) (status : ℕ) → Extracts nor folder g old mid before after result → FolderGoes folder before after →
      (result ≡ BoardFault → Rose (nor.faults old) (nor.faults mid)) → (result ≡ FolderFault → Rose (folder.faults before) (folder.faults after)) → ReadsOnce nor g cache old mid → OnlyCloses nor mid new result status →
      DoesExtract nor folder g cache old new before after status
  extract_closed {old} {mid} {new} {before} {after} cache result status x goes cause folder_cause reads closes = record {
    stays = none_closed (says_nothing x.says) closes;
    goes = goes;
    told = λ tells. ⊎_elim
        (λ done. inl (ends_done result status x.says (x.says.cuts.told tells) done.0 done.1 cause closes))
        (λ fails. ⊎_elim
        (λ stopped. inl (ends_stopped result status x.says (x.says.cuts.told tells) stopped.0 stopped.1 cause closes))
        (λ broken. inr (ends_broken result status x.says (x.says.cuts.told tells) broken.0 broken.1 cause folder_cause closes))
        fails)
        (x.ends tells);
    reads = reads_said cache reads closes.says closes.cuts.faults;
  }
