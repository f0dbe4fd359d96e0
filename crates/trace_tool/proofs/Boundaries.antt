-- What stood between two events of a run's trace is good.
use Rattle.std.proofs.Common.{◌≡◌, ◌≢◌, ℕ, zero, suc, ◌+◌, ◌<◌, ◌≤◌, List, [], ◌∷◌, ◌++◌, length, refl, sym, ◌∙◌, ap, subst, arith, inl, inr, ⊎_elim, append_assoc, append-nil, length-append, true, false, Bool, ◌⊎◌}
use Rattle.std.specs.Prelude.{nat_lt, not, ◌&&◌, is_some, Option, Some, None}
use Rattle.std.proofs.lemmas.Bool.{cases_Bool, le-ltb}
use Rattle.geometry.specs.declared.geometry.Geometry.{Geometry}
use Rattle.nor_core.specs.declared.state.NorState.{Ghosts as NorOf}
use Rattle.nor_core.specs.Device.{Leaves, Stands}
use Rattle.nor_core.proofs.Cuts.{since}
use Rattle.table_model.specs.Ask.{Ask}
use Rattle.table_model.specs.Window.{Moment, settled_at}
use Rattle.call_script.specs.Lines.{Parsed, Bad, lines, of_line, calls}
use Rattle.image_model.specs.Tables.{table_of}
use Rattle.image_model.specs.Tidy.{free_blocks}
use Rattle.image_model.specs.Kinds.{spoiled_blocks}
use Rattle.image_model.specs.Shared.{fits_over, shared_blocks}
use Rattle.image_model.specs.Collect.{chosen_block}
use Rattle.image_model.specs.Sound.{HasMagics, IsSound}
use Rattle.image_laws.proofs.Sounding.{keeps-itself}
use Rattle.run_model.specs.Runs.{RunCall, AreFair, asks_of, after_all, replies, IsCut}
use Rattle.run_model.proofs.Runs.{is_settled}
use Rattle.trace_laws.specs.Standing.{MayStand}
use Rattle.trace_laws.proofs.Standing.{none_stands}
use Rattle.trace_laws.proofs.Fronts.{same_front}
use Rattle.trace_laws.proofs.Cuts.{cut_stood}
use Rattle.volume.proofs.Magics.{few_spoiled}
use Rattle.flash_trace.specs.Events.{Standing}
use Rattle.flash_trace.specs.Good.{IsGood, Unbegun, EndsBadly, IsBegun, unbegun_text, first_bad, bad_or, first_moment}
use Rattle.tool_parts.specs.declared.ending.Ending.{Ending}
use Rattle.tool_parts.specs.declared.ending.Ending.TheVariants.{Done, BadLine, SourceFault, TooLong, Tight, Mixed, NotAFs}
use Rattle.tool_parts.specs.Closing.{status_of, closing_line_of}
use Rattle.tool_parts.specs.Refusals.{begin_refusal, check_refusal, tight_refusal}
use Rattle.script_run.specs.Turns.{AllGood}
use Rattle.script_run.specs.Outcomes.{HasBad, IsTooLong, WhyRan, WhyEnds}
use Rattle.script_run.specs.Running.{CallCut, ClosingCut, Closes}

-- the line of a run that its images end
module _ (g : Geometry) (first image : List ℕ) (ending : Ending) (few : spoiled_blocks g first ≤ 1) (stuck : (n : ℕ) → ending ≡ Tight n → chosen_block g image ≡ None) where
  unbegun_line : begin_refusal g first image ≡ Some ending → unbegun_text g first image ≡ Some (closing_line_of ending)
  unfolding check_refusal tight_refusal unbegun_text
  unbegun_line e =
      let enough : nat_lt 1 (spoiled_blocks g first) ≡ false = le-ltb 1 (spoiled_blocks g first) few in
      ⊎_elim
      (λ (mixed : not (fits_over g first) ≡ true).
      let is : Some (Mixed (shared_blocks g first)) ≡ Some ending = rw (enough, mixed) at e in
      let same : Mixed (shared_blocks g first) ≡ ending = cc in
      rw (enough, mixed) (ap (λ (x : Ending). Some (closing_line_of x)) same))
      (λ (over : not (fits_over g first) ≡ false).
      ⊎_elim
      (λ (tight : nat_lt (free_blocks g image) 2 ≡ true).
      let is : Some (Tight (free_blocks g image)) ≡ Some ending = rw (enough, over, tight) at e in
      let same : Tight (free_blocks g image) ≡ ending = cc in
      let none : chosen_block g image ≡ None = stuck (free_blocks g image) (sym same) in
      rw (enough, over, tight, none) (ap (λ (x : Ending). Some (closing_line_of x)) same))
      (λ (free : nat_lt (free_blocks g image) 2 ≡ false). absurd (let is = rw (enough, over, free) at e in cc))
      (cases_Bool (nat_lt (free_blocks g image) 2)))
      (cases_Bool (not (fits_over g first)))

-- a script that is too long has more than 16,777,216 bytes
too_long : (script : List ℕ) (front : List Ask) → IsTooLong script front → 16777216 < length script
too_long script front t =
    let whole : length script ≡ length t.whole + (length t.rest + (suc (length t.left))) = ap length t.taken.script_is ∙ length-append t.whole (t.rest ++ (t.byte ∷ t.left)) ∙ ap (λ (n : ℕ). length t.whole + n) (length-append t.rest (t.byte ∷ t.left)) in
    omega (arith, whole, t.count)

-- nothing is a front of no line that has a byte
no_front : (part rest : List ℕ) → [] ≡ part ++ rest → 0 < length part → ⊥
no_front [] rest e some = absurd (omega (arith, some))
no_front (x ∷ xs) rest e some = absurd (cc)

-- the first line outside the grammar, by its number
good_or : (n : ℕ) (line : List ℕ) (later : Option ℕ) → (of_line line ≡ Bad → ⊥) → bad_or n (of_line line) later ≡ later
good_or n line later good = by (of_line line) good
  where
    by : (p : Parsed) → (p ≡ Bad → ⊥) → bad_or n p later ≡ later
    by Bad fair = absurd (fair refl)
    by _ fair = refl

bad_from : (n : ℕ) (done : List (List ℕ)) (bad : List ℕ) (others : List (List ℕ)) → AllGood done → of_line bad ≡ Bad → first_bad n (done ++ (bad ∷ others)) ≡ Some (n + length done)
unfolding first_bad AllGood
bad_from n [] bad others good is = let same : n ≡ n + 0 = omega arith in rw is (ap Some same)
bad_from n (line ∷ done) bad others good is =
    let same : n + 1 + length done ≡ n + suc (length done) = omega arith in
    good_or n line (first_bad (n + 1) (done ++ (bad ∷ others))) good.0 ∙ bad_from (n + 1) done bad others good.1 is ∙ ap Some same

bad_first : (script : List ℕ) (number : ℕ) → HasBad script number → first_bad 1 (lines script) ≡ Some number
bad_first script number h =
    let same : 1 + length h.done ≡ number = omega (arith, h.number_is) in
    ap (first_bad 1) h.lines_are ∙ bad_from 1 h.done h.bad h.others h.good h.is_bad ∙ ap Some same

module _ {D : Type 0} (nor : NorOf D) (g : Geometry) (slots : ℕ) (old new : D) (script left : List ℕ) (status : ℕ)
    (none_said : nor.said old ≡ []) (few : spoiled_blocks g (nor.bytes old) ≤ 1) (told : nor.tells old)
    (not_board : status ≢ 7) (not_script : status ≢ 8) (short : length script ≤ 16777216)
    (only_now : (image : List ℕ) (count : ℕ) → nor.left_since old (nor.moment old) image count → Stands nor old image count)
    (run : Closes nor g old new (first_moment g slots (nor.bytes old)) script left status) where
  abbrev first : List ℕ
  first = nor.bytes old

  abbrev begins : Moment
  begins = first_moment g slots first

  magics : HasMagics g first
  magics = few_spoiled g first few

  all_said : nor.said new ≡ replies g begins run.front ++ closing_line_of run.ending
  all_said = run.whole not_board ∙ ap (λ (l : List ℕ). l ++ (replies g begins run.front ++ closing_line_of run.ending)) none_said

  -- nothing was done
  good_first : (s : Standing) → Stands nor old s.image (length s.said) → IsGood g slots first script s
  unfolding settled_at
  good_first s stands =
      let image_is : s.image ≡ first = stands.all_bytes told in
      let none : length s.said ≡ 0 = omega (arith, stands.all_said, ap length none_said) in
      let said_is : s.said ≡ [] = nothing s.said none in
      record {
        sound = subst (λ (l : List ℕ). IsSound g l first) (sym image_is) (keeps-itself g first magics).sound;
        says = inl (subst (λ (l : List ℕ). MayStand g begins (calls script) l s.image) (sym said_is)
            (none_stands g begins (calls script) s.image (is_settled begins (table_of g s.image) [] (ap (table_of g) image_is ∙ sym settled_first))));
      }
    where
      nothing : (l : List ℕ) → length l ≡ 0 → l ≡ []
      nothing [] e = refl
      nothing (x ∷ xs) e = absurd (omega (arith, e))

      settled_first : begins.settled ≡ table_of g first
      settled_first = refl

  -- a cut in the calls
  good_call : (s : Standing) (rest : List ℕ) → nor.said new ≡ s.said ++ rest → CallCut nor g old begins run.front s.image (length s.said) → IsGood g slots first script s
  good_call s rest end cut =
      let same : length s.said ≡ length cut.said = omega (arith, cut.count_is, ap length none_said) in
      record {
        sound = cut.safe.sound magics;
        says = inl (record { done = run.front; later = run.later; asks_are = run.asks_are; fair = run.fair; cut = cut_stood g begins run.front (closing_line_of run.ending) cut.said s.said rest s.image cut.cut same (sym all_said ∙ end) });
      }

  -- a cut in the closing line
  good_closing : (s : Standing) (rest : List ℕ) → nor.said new ≡ s.said ++ rest → ClosingCut nor g old new (replies g begins run.front) (closing_line_of run.ending) s.image (length s.said) → IsGood g slots first script s
  unfolding replies settled_at after_all
  good_closing s rest end cut = record {
    sound = subst (λ (l : List ℕ). IsSound g l first) (sym cut.image_is) (run.holds.sound magics);
    says = inr (by_why run.ending refl run.why);
  }
    where
      same : length (replies g begins run.front ++ cut.part) ≡ length s.said
      same = omega (arith, cut.count_is, ap length none_said)

      said_is : s.said ≡ replies g begins run.front ++ cut.part
      said_is = sym (same_front (replies g begins run.front ++ cut.part) s.said cut.rest rest
          (append_assoc (replies g begins run.front) cut.part cut.rest ∙ ap (λ (l : List ℕ). replies g begins run.front ++ l) (sym cut.closing_is) ∙ sym all_said ∙ end) same)

      table_is : table_of g s.image ≡ (after_all g begins run.front).state.table
      table_is = ap (table_of g) cut.image_is ∙ run.table

      by_why : (ending : Ending) → run.ending ≡ ending → WhyRan g first (nor.bytes new) script left run.front run.later ending → EndsBadly g begins (calls script) (first_bad 1 (lines script)) s.said s.image ⊎ Unbegun g begins first s.said s.image
      by_why ending is (inl images) = inr (record {
        line = closing_line_of ending;
        why = unbegun_line g first s.image ending few (λ n e. ap (chosen_block g) cut.image_is ∙ run.stuck n (is ∙ e)) (subst (λ (l : List ℕ). begin_refusal g first l ≡ Some ending) (sym cut.image_is) images.1.refusal);
        begun = record {
          rest = cut.rest;
          line_is = ap closing_line_of (sym is) ∙ cut.closing_is ∙ ap (λ (l : List ℕ). l ++ cut.rest) (sym (said_is ∙ ap (λ (l : List RunCall). replies g begins l ++ cut.part) images.0));
          some = subst (λ (l : List ℕ). 0 < length l) (sym (said_is ∙ ap (λ (l : List RunCall). replies g begins l ++ cut.part) images.0)) cut.some;
        };
        table = table_is ∙ ap (λ (l : List RunCall). (after_all g begins l).state.table) images.0;
      })
      by_why Done is (inr script_ends) = absurd (no_front cut.part cut.rest (ap closing_line_of (sym is) ∙ cut.closing_is) cut.some)
      by_why (BadLine number) is (inr script_ends) = inl (record {
        number = number;
        bad_is = bad_first script number script_ends.1.1.bad_line;
        done = run.front;
        asks_are = run.asks_are ∙ ap (λ (l : List Ask). asks_of run.front ++ l) script_ends.1.0 ∙ append-nil (asks_of run.front);
        fair = run.fair;
        part = cut.part;
        said_is = said_is;
        begun = record { rest = cut.rest; line_is = ap closing_line_of (sym is) ∙ cut.closing_is; some = cut.some };
        table = table_is;
      })
      by_why TooLong is (inr script_ends) = absurd (omega (arith, short, too_long script (asks_of run.front) script_ends.1))
      by_why SourceFault is (inr script_ends) =
          absurd (⊎_elim (λ (by : status ≡ status_of run.ending). not_script (by ∙ ap status_of is)) (λ broke. not_board broke.0) run.ends)
      by_why _ is (inr script_ends) = absurd (script_ends.1)

  -- what stood between two events is good
  pub good_boundary : (s : Standing) (rest : List ℕ) → nor.left_since new (nor.moment old) s.image (length s.said) → nor.said new ≡ s.said ++ rest → IsGood g slots first script s
  good_boundary s rest left_since end =
      ⊎_elim (λ stands. good_first s stands) (λ cut. ⊎_elim (λ call. good_call s rest end call) (λ closing. good_closing s rest end closing) cut)
      (since run.cuts only_now s.image (length s.said) left_since)
