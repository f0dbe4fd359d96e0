-- What a rehearsal on an image comes to, from what it found.
use Rattle.std.proofs.Common.{◌≡◌, ◌≢◌, ◌⊎◌, ℕ, ◌<◌, ◌≤◌, List, length, ap, subst, refl, sym, ◌∙◌, arith, inl, inr, ⊎_elim, Bool, None, Ok}
use Rattle.std.specs.Prelude.{replicate}
use Rattle.geometry.specs.declared.geometry.Geometry.{Geometry}
use Rattle.table_model.specs.Table.{State}
use Rattle.image_model.specs.Tables.{table_of}
use Rattle.tool_parts.specs.declared.ending.Ending.TheVariants.{NotAFs, Mixed, BoardFault, SourceFault, TooLong}
use Rattle.image_model.specs.Kinds.{spoiled_blocks}
use Rattle.image_model.specs.Shared.{shared_blocks}
use Rattle.promise_model.specs.Verdicts.{Told, IsFaulty, MayBeTight, AllKept, NotKept}
use Rattle.tool_parts.specs.Closing.{status_of}
use Rattle.tool_parts.specs.Later.{IsLaterStatus}
use Rattle.tool_parts.specs.Refusals.{check_refusal}
use Rattle.tool_parts.proofs.Refusals.{refusal_is}
use Rattle.rehearse_tool.specs.declared.input.Stop.{Stop}
use Rattle.rehearse_tool.specs.declared.input.Stop.TheVariants.{Ends, NoMemory}
use Rattle.rehearse_tool.specs.declared.answer.Answer.{Answer}
use Rattle.rehearse_tool.specs.Outcomes.{IsJudged, IsStop, IsVerdictOn, IsRefusedBy, MayStop, IsOutcomeStatus, ComesTo, stop_status}
use Rattle.rehearse_tool.specs.Texts.{verdict_status}

-- the volume of an image, with so many descriptors
abbrev pub volume_with : Geometry → List ℕ → ℕ → State
volume_with g image slots = record { table = table_of g image; slots = replicate slots None }

-- a verdict, on what was read
pub comes_ok : (g : Geometry) (tables : Bool) (slots : ℕ) (image bytes text script : List ℕ) (answer : Answer) → image ≡ bytes → text ≡ script → check_refusal g image ≡ None → length text ≤ 16777216 → IsJudged g tables (volume_with g image slots) text answer.text.items answer.status
    → ComesTo g tables (volume_with g bytes slots) bytes script (Ok answer)
comes_ok g tables slots image bytes text script answer read whole taken few judged =
    subst (λ (i : List ℕ). IsVerdictOn g tables (volume_with g i slots) i script answer.text.items answer.status) read
    (subst (λ (t : List ℕ). IsVerdictOn g tables (volume_with g image slots) image t answer.text.items answer.status) whole (record { taken = taken; few = few; judged = judged }))

-- an image that isn't taken
pub comes_refused : (g : Geometry) (image bytes script : List ℕ) (stop : Stop) → image ≡ bytes → IsRefusedBy (check_refusal g image) stop → IsStop g bytes script stop
comes_refused g image bytes script NoMemory read why = tt {0}
comes_refused g image bytes script (Ends ending) read why = inl (ap (check_refusal g) (sym read) ∙ why)

-- a chip that can't be read, or no memory for it
pub comes_unread : {R : Type 0} (g : Geometry) (image script : List ℕ) (stop : Stop) → (stop ≡ NoMemory) ⊎ ((stop ≡ Ends BoardFault) × R) → IsStop g image script stop
comes_unread g image script stop why = ⊎_elim
    (λ (none : stop ≡ NoMemory). subst (IsStop g image script) (sym none) (tt {0}))
    (λ fault. subst (IsStop g image script) (sym fault.0) (inr (inl refl)))
    why

-- a script that is too long or can't be read, or no memory for it
pub comes_unscripted : {R : Type 0} (g : Geometry) (image bytes script : List ℕ) (stop : Stop) → image ≡ bytes → check_refusal g image ≡ None → (stop ≡ Ends TooLong → 16777216 < length script)
    → (stop ≡ NoMemory) ⊎ ((stop ≡ Ends TooLong) ⊎ ((stop ≡ Ends SourceFault) × R)) → IsStop g bytes script stop
comes_unscripted g image bytes script stop read taken long why =
    let takes : check_refusal g bytes ≡ None = ap (check_refusal g) (sym read) ∙ taken in
    ⊎_elim
    (λ (none : stop ≡ NoMemory). subst (IsStop g bytes script) (sym none) (tt {0}))
    (λ more. ⊎_elim
    (λ (is : stop ≡ Ends TooLong). subst (IsStop g bytes script) (sym is) (inr (inr (takes, inl (refl, long is)))))
    (λ fault. subst (IsStop g bytes script) (sym fault.0) (inr (inr (takes, inr refl))))
    more)
    why

-- ---- the statuses

later_by : (status n : ℕ) → status ≡ n → (n ≢ 1) × (n ≢ 2) × (n ≢ 10) → IsLaterStatus status
later_by status n is not = record { no_usage = λ e. not.0 (sym is ∙ e); no_geometry = λ e. not.1 (sym is ∙ e); no_short = λ e. not.2 (sym is ∙ e) }

-- no memory
pub among_none : (stop : Stop) → stop ≡ NoMemory → IsOutcomeStatus (stop_status stop)
among_none stop none = subst (λ (s : Stop). IsOutcomeStatus (stop_status s)) (sym none) (inr (NoMemory, tt {0}, refl))

-- a chip that can't be read, or no memory for it
pub among_unread : {R : Type 0} (stop : Stop) → (stop ≡ NoMemory) ⊎ ((stop ≡ Ends BoardFault) × R) → IsOutcomeStatus (stop_status stop)
among_unread stop why = ⊎_elim
    (λ (none : stop ≡ NoMemory). among_none stop none)
    (λ fault. subst (λ (s : Stop). IsOutcomeStatus (stop_status s)) (sym fault.0) (inr (Ends BoardFault, tt {0}, refl)))
    why

-- a script that is too long or can't be read, or no memory for it
pub among_unscripted : {R : Type 0} (stop : Stop) → (stop ≡ NoMemory) ⊎ ((stop ≡ Ends TooLong) ⊎ ((stop ≡ Ends SourceFault) × R)) → IsOutcomeStatus (stop_status stop)
among_unscripted stop why = ⊎_elim
    (λ (none : stop ≡ NoMemory). among_none stop none)
    (λ more. ⊎_elim
    (λ (is : stop ≡ Ends TooLong). subst (λ (s : Stop). IsOutcomeStatus (stop_status s)) (sym is) (inr (Ends TooLong, tt {0}, refl)))
    (λ fault. subst (λ (s : Stop). IsOutcomeStatus (stop_status s)) (sym fault.0) (inr (Ends SourceFault, tt {0}, refl)))
    more)
    why

-- an image that isn't taken, or no memory to tell
pub among_refused : (g : Geometry) (image : List ℕ) (stop : Stop) → IsRefusedBy (check_refusal g image) stop → IsOutcomeStatus (stop_status stop)
among_refused g image NoMemory why = inr (NoMemory, tt {0}, refl)
among_refused g image (Ends ending) why = ⊎_elim
    (λ (e : ending ≡ NotAFs (spoiled_blocks g image)). inr (Ends (NotAFs (spoiled_blocks g image)), tt {0}, ap status_of e))
    (λ (e : ending ≡ Mixed (shared_blocks g image)). inr (Ends (Mixed (shared_blocks g image)), tt {0}, ap status_of e))
    (refusal_is g image ending why)

-- a verdict
pub among_judged : (g : Geometry) (tables : Bool) (s : State) (script text : List ℕ) (status : ℕ) → IsJudged g tables s script text status → IsOutcomeStatus status
among_judged g tables s script text status judged = inl (judged.told, judged.status_is)

later_told : (told : Told) (status : ℕ) → status ≡ verdict_status told → IsLaterStatus status
later_told (IsFaulty f) status is = later_by status 5 is (λ e. omega (arith, e), λ e. omega (arith, e), λ e. omega (arith, e))
later_told (MayBeTight line) status is = later_by status 14 is (λ e. omega (arith, e), λ e. omega (arith, e), λ e. omega (arith, e))
later_told (AllKept promises tables) status is = later_by status 0 is (λ e. omega (arith, e), λ e. omega (arith, e), λ e. omega (arith, e))
later_told (NotKept b) status is = later_by status 24 is (λ e. omega (arith, e), λ e. omega (arith, e), λ e. omega (arith, e))

later_stop : (stop : Stop) (status : ℕ) → MayStop stop → status ≡ stop_status stop → IsLaterStatus status
later_stop NoMemory status may is = later_by status 15 is (λ e. omega (arith, e), λ e. omega (arith, e), λ e. omega (arith, e))
later_stop (Ends (NotAFs spoiled)) status may is = later_by status 3 is (λ e. omega (arith, e), λ e. omega (arith, e), λ e. omega (arith, e))
later_stop (Ends (Mixed blocks)) status may is = later_by status 4 is (λ e. omega (arith, e), λ e. omega (arith, e), λ e. omega (arith, e))
later_stop (Ends BoardFault) status may is = later_by status 7 is (λ e. omega (arith, e), λ e. omega (arith, e), λ e. omega (arith, e))
later_stop (Ends SourceFault) status may is = later_by status 8 is (λ e. omega (arith, e), λ e. omega (arith, e), λ e. omega (arith, e))
later_stop (Ends TooLong) status may is = later_by status 11 is (λ e. omega (arith, e), λ e. omega (arith, e), λ e. omega (arith, e))
later_stop (Ends _) status may is = absurd may

-- none of these is told before the chip is read
pub later_among : (status : ℕ) → IsOutcomeStatus status → IsLaterStatus status
later_among status among = ⊎_elim (λ verdict. later_told verdict.0 status verdict.1) (λ none. later_stop none.0 status none.1 none.2) among

-- where a status is that of a fault, the fault was one
pub fault_refused : {R : Type 0} (g : Geometry) (image : List ℕ) (stop : Stop) → IsRefusedBy (check_refusal g image) stop → (stop_status stop ≡ 7) ⊎ (stop_status stop ≡ 8) → R
fault_refused g image NoMemory why is = absurd (⊎_elim (λ (e : 15 ≡ 7). omega (arith, e)) (λ (e : 15 ≡ 8). omega (arith, e)) is)
fault_refused g image (Ends ending) why is = absurd (⊎_elim
    (λ (e : ending ≡ NotAFs (spoiled_blocks g image)). let s : status_of ending ≡ 3 = ap status_of e in ⊎_elim (λ b. omega (arith, s, b)) (λ f. omega (arith, s, f)) is)
    (λ (e : ending ≡ Mixed (shared_blocks g image)). let s : status_of ending ≡ 4 = ap status_of e in ⊎_elim (λ b. omega (arith, s, b)) (λ f. omega (arith, s, f)) is)
    (refusal_is g image ending why))

pub board_refused : {R : Type 0} (g : Geometry) (image : List ℕ) (stop : Stop) → IsRefusedBy (check_refusal g image) stop → stop_status stop ≡ 7 → R
board_refused g image stop why is = fault_refused g image stop why (inl is)

pub script_refused : {R : Type 0} (g : Geometry) (image : List ℕ) (stop : Stop) → IsRefusedBy (check_refusal g image) stop → stop_status stop ≡ 8 → R
script_refused g image stop why is = fault_refused g image stop why (inr is)

pub fault_unread : {R : Type 0} (stop : Stop) → (stop ≡ NoMemory) ⊎ ((stop ≡ Ends BoardFault) × R) → stop_status stop ≡ 7 → R
fault_unread stop why is = ⊎_elim
    (λ (none : stop ≡ NoMemory). let s : stop_status stop ≡ 15 = ap stop_status none in absurd (omega (arith, s, is)))
    (λ fault. fault.1)
    why

pub fault_unscripted : {R : Type 0} (stop : Stop) → (stop ≡ NoMemory) ⊎ ((stop ≡ Ends TooLong) ⊎ ((stop ≡ Ends SourceFault) × R)) → stop_status stop ≡ 8 → R
fault_unscripted stop why is = ⊎_elim
    (λ (none : stop ≡ NoMemory). let s : stop_status stop ≡ 15 = ap stop_status none in absurd (omega (arith, s, is)))
    (λ more. ⊎_elim
    (λ (long : stop ≡ Ends TooLong). let s : stop_status stop ≡ 11 = ap stop_status long in absurd (omega (arith, s, is)))
    (λ fault. fault.1)
    more)
    why
