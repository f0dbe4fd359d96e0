-- Words spell one copy, and what is refused before a device is read is refused for its words, numbers, device or memory.
use Rattle.std.proofs.Common.{◌≡◌, ◌≢◌, sym, ◌∙◌, ap, subst, arith, Option, Some, None}
use Rattle.geometry.specs.declared.geometry.Geometry.{Geometry}
use Rattle.geometry.specs.Numbers.{IsOf}
use Rattle.geometry.proofs.Geometries.{same_numbers}
use Rattle.tool_parts.specs.declared.ending.Ending.{Ending}
use Rattle.tool_parts.specs.declared.ending.Ending.TheVariants.{Usage, Geometry as WrongGeometry, ShortBuffer}
use Rattle.tool_parts.specs.declared.words.Numbers.{Numbers}
use Rattle.tool_parts.specs.Accepting.{first_of, read_refusal, write_refusal_of, length_refusal}
use Rattle.tool_parts.specs.Closing.{status_of}
use Rattle.tool_parts.specs.Early.{IsEarly, IsEarlyIf}
use Rattle.tool_parts.specs.Refusals.{or_ending}
use Rattle.tool_parts.proofs.Early.{length_early, refused_early}
use Rattle.copy_tool.specs.declared.words.CopyForm.{CopyForm}
use Rattle.copy_tool.specs.declared.plan.CopyPlan.{CopyPlan}
use Rattle.copy_tool.specs.declared.plan.Side.{Side}
use Rattle.copy_tool.specs.Words.{copy_form_of}
use Rattle.copy_tool.specs.Plan.{Asked, refusal_for, copy_refusal_of, IsPlanned}

both_early : (o p : Option Ending) → IsEarlyIf o → IsEarlyIf p → IsEarlyIf (or_ending o p)
both_early None p first second = second
both_early (Some ending) p first second = first

form_early : (form : Option CopyForm) (source target : Side) → IsEarlyIf (refusal_for form source target)
form_early None source target = tt {0}
form_early (Some f) source target = refused_early (first_of (read_refusal f.source source.unit source.size) (write_refusal_of f.target target.unit target.size)) _
    (both_early (length_refusal f.source.page f.source.block f.source.blocks source.lent) (length_refusal f.target.page f.target.block f.target.blocks target.lent) (length_early f.source.page f.source.block f.source.blocks source.lent) (length_early f.target.page f.target.block f.target.blocks target.lent))

refusal_early : (a : Asked) → IsEarlyIf (copy_refusal_of a)
unfolding copy_refusal_of
refusal_early a = form_early (copy_form_of a.words) a.source a.target

-- such an ending
pub ending_early : (a : Asked) (ending : Ending) → copy_refusal_of a ≡ Some ending → IsEarly ending
ending_early a ending is = subst (λ (o : Option Ending). IsEarlyIf o) is (refusal_early a)

-- its status is no fault of the source
pub early_source : (ending : Ending) → IsEarly ending → status_of ending ≢ 18
early_source Usage early = λ (is : 1 ≡ 18). absurd (omega arith)
early_source (WrongGeometry why) early = λ (is : 2 ≡ 18). absurd (omega arith)
early_source (ShortBuffer part need given) early = λ (is : 10 ≡ 18). absurd (omega arith)
early_source _ early = absurd early

-- ---- one copy

same_geometry : (x y : Geometry) (n m : Numbers) → IsOf x n.page n.block n.blocks n.block n.meta n.magic → n ≡ m → IsOf y m.page m.block m.blocks m.block m.meta m.magic → x ≡ y
same_geometry x y n m first same second =
    let again : IsOf y n.page n.block n.blocks n.block n.meta n.magic = subst (λ (f : Numbers). IsOf y f.page f.block f.blocks f.block f.meta f.magic) (sym same) second in
    same_numbers x y (first.page_is ∙ sym again.page_is) (first.block_is ∙ sym again.block_is) (first.blocks_is ∙ sym again.blocks_is) (first.phys_is ∙ sym again.phys_is) (first.meta_is ∙ sym again.meta_is) (first.magic_is ∙ sym again.magic_is)

same_plan : (x y : CopyPlan) → x.source ≡ y.source → x.target ≡ y.target → x ≡ y
same_plan x y source target = λ i. record { source = source i; target = target i }

pub one_plan : {a : Asked} {x y : CopyPlan} → IsPlanned a x → IsPlanned a y → x ≡ y
one_plan {a} {x} {y} first second =
    let both : Some first.form ≡ Some second.form = sym first.words_are ∙ second.words_are in
    let same : first.form ≡ second.form = cc in
    same_plan x y
    (same_geometry x.source y.source first.form.source second.form.source first.source_numbers (ap (λ (f : CopyForm). f.source) same) second.source_numbers)
    (same_geometry x.target y.target first.form.target second.form.target first.target_numbers (ap (λ (f : CopyForm). f.target) same) second.target_numbers)
