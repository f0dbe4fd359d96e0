-- The closing line of a run, and what the whole run leaves.
use Rattle.std.proofs.Common.{◌≡◌, ℕ, ◌+◌, ◌-◌, ◌<◌, ◌≤◌, ◌⊎◌, List, [], ◌∷◌, ◌++◌, length, take, drop, sym, ◌∙◌, ap, subst, arith, inl, inr, ⊎_elim, append-nil, append_assoc, length-append, None}
use Rattle.std.proofs.lemmas.List.{take-append-drop, length-take-le}
use Rattle.geometry.specs.declared.geometry.Geometry.{Geometry}
use Rattle.nor_core.specs.declared.state.NorState.{Ghosts as NorOf}
use Rattle.nor_core.proofs.Cuts.{andthen, widened}
use Rattle.table_model.specs.Window.{Moment, from_settled, IsAmong}
use Rattle.call_script.specs.Lines.{calls}
use Rattle.image_model.specs.Tables.{table_of}
use Rattle.image_model.specs.Tidy.{IsTidy, HasReserve}
use Rattle.image_model.specs.Collect.{chosen_block}
use Rattle.run_model.specs.Runs.{RunCall, after_all, replies, IsCut}
use Rattle.call_model.specs.Safe.{IsSafe, HoldsImage}
use Rattle.run_model.proofs.Runs.{cut_none, cut_later}
use Rattle.run_model.proofs.Chain.{no_replies}
use Rattle.tool_parts.specs.declared.ending.Ending.{Ending}
use Rattle.tool_parts.specs.Closing.{status_of, closing_line_of}
use Rattle.tool_parts.specs.Refusals.{begin_refusal}
use Rattle.tool_parts.specs.Endings.{OnlyCloses}
use Rattle.tool_parts.specs.Mounting.{IsMendable}
use Rattle.script_run.specs.Outcomes.{WhyRan, RunCut, Broke, Came, RunsTo}
use Rattle.script_run.specs.Running.{Outcome, CallCut, ClosingCut}
use Rattle.tool_parts.proofs.Refusals.{begun_reserve, tidy_mends}

module _ {D : Type 0} {nor : NorOf D} {g : Geometry} where
  -- a cut in the calls by those whose replies were said whole
  call_cut : {old : D} {m : Moment} {calls : List RunCall} {image : List ℕ} {count : ℕ} → RunCut nor g old m calls image count → CallCut nor g old m calls image count
  call_cut {old} {m} {calls} {image} c = record { said = c.cut.part; count_is = c.cut.count_is; safe = c.cut.safe; mends = c.mends; cut = c.cut.cut }

  -- two blocks are free in the last image, or no call was done and the first image isn't one that the check gives them
  came_reserve : {old mid : D} {m : Moment} {script left : List ℕ} {ending : Ending} → (c : Came nor g old mid m script left ending) → HasReserve g (nor.bytes mid) ⊎ ((c.front ≡ []) × (IsMendable g (nor.bytes old) → ⊥))
  came_reserve {old} {mid} came = ⊎_elim (λ early. inr (early.0, early.1.mends_not)) (λ ran. inl (begun_reserve g (nor.bytes old) (nor.bytes mid) ran.0)) came.why

  -- so a check takes it and gives it two free blocks, or nothing was said
  came_mends : {old mid : D} {m : Moment} {script left : List ℕ} {ending : Ending} → (c : Came nor g old mid m script left ending) → IsMendable g (nor.bytes mid) ⊎ ((replies g m c.front ≡ []) × (table_of g (nor.bytes mid) ≡ table_of g (nor.bytes old)))
  came_mends {old} {mid} {m} came = ⊎_elim
      (λ early. inr (ap (replies g m) early.0 ∙ no_replies g m, came.untouched early.0))
      (λ ran. inl (tidy_mends g (nor.bytes mid) (came.tidy ran.0) (begun_reserve g (nor.bytes old) (nor.bytes mid) ran.0)))
      came.why

  -- and where a reply was said or the first image is one that the check gives two free blocks, they are free
  came_closes : {old mid : D} {m : Moment} {script left : List ℕ} {ending : Ending} → (c : Came nor g old mid m script left ending) → IsMendable g (nor.bytes old) ⊎ (0 < length (replies g m c.front)) → HasReserve g (nor.bytes mid)
  came_closes {old} {mid} {m} came may = ⊎_elim
      (λ reserve. reserve)
      (λ none. absurd (⊎_elim (λ mends. none.1 mends) (λ some. let empty : length (replies g m came.front) ≡ 0 = ap length (ap (replies g m) none.0 ∙ no_replies g m) in omega (arith, some, empty)) may))
      (came_reserve came)

  -- so many bytes of the closing line were said
  closing_case : {old mid new : D} {m : Moment} {script left : List ℕ} (ending : Ending) (image : List ℕ) (count : ℕ) (part rest : List ℕ) → (c : Came nor g old mid m script left ending) → nor.bytes new ≡ nor.bytes mid → image ≡ nor.bytes mid → closing_line_of ending ≡ part ++ rest → count ≡ length (nor.said mid) + length part →
      CallCut nor g old m c.front image count ⊎ ClosingCut nor g old new (replies g m c.front) (closing_line_of ending) image count
  closing_case {old} {mid} {new} {m} ending image count [] rest came stays same closing_is count_is =
      let all : replies g m came.front ++ [] ≡ replies g m came.front = append-nil (replies g m came.front) in
      inl (call_cut (record {
        cut = record {
          part = replies g m came.front ++ [];
          count_is = omega (arith, count_is, ap length came.said, length-append (nor.said old) (replies g m came.front), ap length all);
          safe = subst (λ (l : List ℕ). IsSafe g (nor.bytes old) l) (sym same) came.safe;
          cut = subst (λ (zs : List RunCall). IsCut g m zs (replies g m came.front ++ []) image) (append-nil came.front) (cut_later g m came.front [] [] image (cut_none g (after_all g m came.front) [] image (subst (λ (l : List ℕ). IsAmong (table_of g l) (from_settled (after_all g m came.front) [])) (sym same) came.among)));
        };
        mends = ⊎_elim
            (λ mends. inl (subst (λ (l : List ℕ). IsMendable g l) (sym same) mends))
            (λ none. inr (all ∙ none.0, ap (table_of g) same ∙ none.1))
            (came_mends came);
      }))
  closing_case {old} {mid} {new} {m} ending image count (x ∷ part) rest came stays same closing_is count_is = inr (record {
    image_is = same ∙ sym stays;
    reserve = λ may. subst (λ (l : List ℕ). HasReserve g l) (sym same) (came_closes came may);
    part = x ∷ part;
    rest = rest;
    closing_is = closing_is;
    some = omega arith;
    count_is = omega (arith, count_is, ap length came.said, length-append (nor.said old) (replies g m came.front), length-append (replies g m came.front) (x ∷ part));
  })

  -- what a run leaves once its closing line was said
  pub outcome_of : {old mid new : D} (m : Moment) (script left : List ℕ) (ending : Ending) (status : ℕ) → nor.faults old ≤ nor.faults mid → RunsTo nor g old mid m script left ending → OnlyCloses nor mid new ending status → Outcome nor g old new m script left status
  outcome_of {old} {mid} {new} m script left ending status faults ran closes = ⊎_elim
      (λ broken. inl (record {
        status_is = ⊎_elim (λ told. told ∙ ap status_of broken.0) (λ fault. fault.0) closes.ends;
        said = (subst (λ (d : D). Broke nor g old d m (calls script)) (sym (closes.silent (ap closing_line_of broken.0))) broken.1).said;
        cuts = widened (subst (λ (d : D). Broke nor g old d m (calls script)) (sym (closes.silent (ap closing_line_of broken.0))) broken.1).cuts (λ image count here. call_cut here);
      }))
      (λ came. inr (record {
        ending = ending;
        ends = ⊎_elim (λ told. inl told) (λ fault. inr (fault.0, omega (arith, fault.1, faults))) closes.ends;
        front = came.front;
        later = came.later;
        asks_are = came.asks_are;
        fair = came.fair;
        why = subst (λ (l : List ℕ). WhyRan g (nor.bytes old) l script left came.front came.later ending) (sym closes.says.bytes) came.why;
        whole = λ fine. closes.whole came.tells fine ∙ ap (λ (l : List ℕ). l ++ closing_line_of ending) came.said ∙ append_assoc (nor.said old) (replies g m came.front) (closing_line_of ending);
        part = take closes.says.said.0 (closing_line_of ending);
        rest = drop closes.says.said.0 (closing_line_of ending);
        closing_is = sym (take-append-drop closes.says.said.0 (closing_line_of ending));
        said = closes.says.said.1 ∙ ap (λ (l : List ℕ). l ++ take closes.says.said.0 (closing_line_of ending)) came.said ∙ append_assoc (nor.said old) (replies g m came.front) (take closes.says.said.0 (closing_line_of ending));
        table = ap (table_of g) closes.says.bytes ∙ came.table;
        tidy = subst (λ (l : List ℕ). begin_refusal g (nor.bytes old) l ≡ None → IsTidy g l) (sym closes.says.bytes) came.tidy;
        stuck = λ n is. ap (chosen_block g) closes.says.bytes ∙ came.stuck n is;
        holds = subst (λ (l : List ℕ). HoldsImage g (nor.bytes old) l) (sym closes.says.bytes) came.holds;
        cuts = andthen (widened came.cuts (λ image count here. inl (call_cut here))) (widened closes.cuts (λ image count here.
            let n = count - length (nor.said mid) in
            let within : n ≤ length (closing_line_of ending) = omega (arith, here.most) in
            closing_case ending image count (take n (closing_line_of ending)) (drop n (closing_line_of ending)) came closes.says.bytes (here.all_bytes came.tells) (sym (take-append-drop n (closing_line_of ending))) (omega (arith, here.least, length-take-le n (closing_line_of ending) within))));
      }))
      ran
