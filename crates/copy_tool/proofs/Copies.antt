-- What copying onto a target leaves, by how it was begun and how it ended.
use Rattle.std.proofs.Common.{◌≡◌, ℕ, ◌<◌, List, refl, sym, ◌∙◌, ap, subst, arith, inl, inr, ⊎_elim, Bool, Option, Some, None, Result, Ok, Err}
use Rattle.std.specs.Option.{option_map}
use Rattle.geometry.specs.declared.geometry.Geometry.{Geometry}
use Rattle.nor_core.specs.declared.state.NorState.{Ghosts as NorOf}
use Rattle.nor_core.specs.Device.{Changes, OnlyReads}
use Rattle.nor_core.proofs.Cuts.{wider, go_on}
use Rattle.table_model.specs.Table.{File, file_named}
use Rattle.image_model.specs.Tables.{table_of}
use Rattle.image_model.specs.Tidy.{IsTidy, HasReserve}
use Rattle.call_model.specs.Closed.{with_files}
use Rattle.call_model.proofs.Safety.{holds_safe}
use Rattle.copy_model.specs.Copying.{working}
use Rattle.copy_model.specs.Stops.{copy_stop}
use Rattle.copy_model.specs.Under.{MayHave, IsUnder, IsCopied, IsPart}
use Rattle.copy_model.specs.declared.err.Copied.{Copied}
use Rattle.copy_model.specs.declared.err.CopyErr.{CopyErr}
use Rattle.copy_model.specs.declared.err.CopyErr.TheVariants.{BadName as CopyBadName, Full as CopyFull, FromFault, ToFault, Damaged as CopyDamaged, Refused}
use Rattle.volume.specs.declared.volume.Volume.{Volume}
use Rattle.volume_run.specs.Resting.{IsAtRest}
use Rattle.vol_copy.specs.Ends.{alike_of, CutsCopy, Ends, EndsFrom}
use Rattle.tool_parts.specs.declared.ending.Ending.{Ending}
use Rattle.tool_parts.specs.Begins.{Begun, IsTight, StopsRun}
use Rattle.tool_parts.specs.Closing.{status_of}
use Rattle.tool_parts.specs.Mounting.{Checks}
use Rattle.tool_parts.specs.Refusals.{check_refusal, begin_refusal, or_ending}
use Rattle.tool_parts.proofs.Begun.{begins_on}
use Rattle.tool_parts.proofs.Mounted.{holds_check, safe_check}
use Rattle.tool_parts.proofs.Refusals.{not_both, refusal_is}
use Rattle.copy_tool.specs.Endings.{copy_ends, target_stop}
use Rattle.copy_tool.specs.Does.{KeepsNames, IsStuck, CopyLeaves}
use Rattle.copy_tool.specs.Steps.{IsOfTarget, IsDone, IsStopped, CopiesAs}
use Rattle.copy_tool.proofs.Rests.{rest_table, rest_tidy, rest_reserve}

-- each name may have what it had at first
name_stays : (alike : Bool) (record_is first under : Option File) → MayHave alike record_is first first under
name_stays alike None first under = refl
name_stays alike (Some f) first under = inr (inl refl)

pub names_stay : (gf g : Geometry) (source was now : List ℕ) → table_of g now ≡ table_of g was → KeepsNames gf g source was now
names_stay gf g source was now same = subst (λ (files : List File). IsUnder (alike_of gf g) (table_of gf source) (table_of g was) files) (sym same) (λ name apart. name_stays (alike_of gf g) (file_named name (table_of gf source)) (file_named name (table_of g was)) (file_named working (table_of g was)))

-- so they have after a check
pub checks_leave : {S : Type 0} {from : NorOf S} {gf g : Geometry} {source : S} {was image : List ℕ} → Checks g was image → CopyLeaves from gf g source was image
checks_leave {S} {from} {gf} {g} {source} {was} {image} here = record { safe = safe_check here; names = λ tells. names_stay gf g (from.bytes source) was image here.table }

pub check_leaves : {S D : Type 0} {from : NorOf S} {nor : NorOf D} {gf g : Geometry} {source : S} {old mid : D} → Changes nor old mid (Checks g) → Changes nor old mid (CopyLeaves from gf g source)
check_leaves changes = wider changes (λ tells image here. checks_leave here)

-- ---- why a target isn't worked on

or_first : (o p : Option Ending) (ending : Ending) → o ≡ Some ending → or_ending o p ≡ Some ending
or_first o p ending is = rw is refl

tight_begins : (g : Geometry) (was now : List ℕ) (ending : Ending) → IsTight g was now ending → begin_refusal g was now ≡ Some ending
tight_begins g was now ending tight = rw tight.takes tight.tight

not_tight : (g : Geometry) (was now : List ℕ) (ending : Ending) → check_refusal g was ≡ Some ending → status_of ending ≡ 14 → IsStuck g was now
not_tight g was now ending is fourteen = absurd (⊎_elim (λ two. omega (arith, fourteen, ap status_of two)) (λ mixed. omega (arith, fourteen, ap status_of mixed)) (refusal_is g was ending is))

stopped_by : (gf g : Geometry) (source was now : List ℕ) (ending : Ending) → IsOfTarget ending → begin_refusal g was now ≡ Some ending → (status_of ending ≡ 14 → IsStuck g was now) → IsStopped gf g source was now ending
stopped_by gf g source was now ending of_target is tight = record {
  stop = or_first _ _ ending is;
  undone = (of_target.undone, of_target.no_damage);
  full = λ six. absurd (of_target.no_full six);
  named = λ thirteen. absurd (of_target.no_names thirteen);
  tight = tight;
}

pub begin_stops : {D : Type 0} {nor : NorOf D} (gf : Geometry) {g : Geometry} (source : List ℕ) {old new : D} (ending : Ending) → IsOfTarget ending → Checks g (nor.bytes old) (nor.bytes new) → StopsRun nor g old new ending → CopiesAs gf g source (nor.bytes old) (nor.bytes new) (Err ending)
begin_stops {D} {nor} gf {g} source {old} {new} ending of_target here stops = ⊎_elim
    (λ fault. inl fault.fault)
    (λ ends. inr (inr (stopped_by gf g source (nor.bytes old) (nor.bytes new) ending of_target (⊎_elim (λ refused. or_first _ _ ending refused.refusal) (λ tight. tight_begins g (nor.bytes old) (nor.bytes new) ending tight) ends)
    (⊎_elim (λ refused. not_tight g (nor.bytes old) (nor.bytes new) ending refused.refusal) (λ tight. λ fourteen. record { table = here.table; stuck = tight.stuck; recovers_not = tight.recovers_not }) ends))))
    stops

-- a target that isn't taken is only read
pub begin_kept : {D : Type 0} {nor : NorOf D} {g : Geometry} {old new : D} (result why : Ending) → StopsRun nor g old new result → check_refusal g (nor.bytes old) ≡ Some why → OnlyReads nor old new
begin_kept result why stops is = ⊎_elim
    (λ fault. fault.looks why is)
    (λ ends. ⊎_elim (λ refused. refused.reads) (λ tight. absurd (not_both tight.takes is)) ends)
    stops

-- ---- a target that is

-- the copy on the checked target
pub copy_leaves : {N : Type 0} {nor : NorOf N} {gf g : Geometry} {S : Type 0} {from : NorOf S} {source : S} {told : List File → Type 0} (h : Geometry) (slots : ℕ) {old : N} (mid new : Volume N nor) → h ≡ g → 0 < slots → (from.tells source → told (table_of gf (from.bytes source))) → Changes nor old mid.nor.now (Checks g) → (nor.tells old → Begun g (nor.bytes old) (nor.bytes mid.nor.now)) →
    (nor.tells old → IsAtRest g mid (with_files slots (table_of g (nor.bytes old)))) → CutsCopy told (alike_of gf h) mid new → Changes nor old new.nor.now (CopyLeaves from gf g source)
copy_leaves {N} {nor} {gf} {g} {S} {from} {source} {told} h slots {old} mid new same some tells_files changes begun rests cuts =
    go_on (check_leaves changes) (subst (λ (k : Geometry). CutsCopy told (alike_of gf k) mid new) same cuts) (λ tells image before after.
    let here = after g slots (table_of g (nor.bytes old)) some (rests tells) in
    record {
      safe = holds_safe g (nor.bytes old) (nor.bytes mid.nor.now) image (holds_check (changes.now tells)) (begun tells).tidy here.0;
      names = λ source_tells. here.1 (table_of gf (from.bytes source)) (tells_files source_tells);
    })

-- the copy on a volume of the same geometry
pub ends_as : {M : Type 0} {nor : NorOf M} {source : List File} {old new : Volume M nor} {result : Result Copied CopyErr} (gf h g : Geometry) → h ≡ g → EndsFrom (alike_of gf h) source old new result → EndsFrom (alike_of gf g) source old new result
ends_as {M} {nor} {source} {old} {new} {result} gf h g same ends = subst (λ (k : Geometry). EndsFrom (alike_of gf k) source old new result) same ends

-- ---- how it ended

begun_at : (g : Geometry) (was mid now : List ℕ) → Begun g was mid → now ≡ mid → begin_refusal g was now ≡ None
begun_at g was mid now begun same = begins_on g was now begun.takes (subst (λ (l : List ℕ). HasReserve g l) (sym same) begun.reserve)

stop_behind : (gf g : Geometry) (source was now : List ℕ) (why : CopyErr) → begin_refusal g was now ≡ None → copy_stop g (alike_of gf g) (table_of gf source) (table_of g was) ≡ Some why → target_stop gf g source was now ≡ Some (copy_ends why)
stop_behind gf g source was now why begun stop =
    ap (λ (o : Option Ending). or_ending o (option_map copy_ends (copy_stop g (alike_of gf g) (table_of gf source) (table_of g was)))) begun ∙ ap (option_map copy_ends) stop

module _ {N : Type 0} {nor : NorOf N} (gf g : Geometry) (source : List ℕ) (slots : ℕ) (old : N) (mid new : Volume N nor) (changes : Changes nor old mid.nor.now (Checks g)) (tells : nor.tells old) (begun : Begun g (nor.bytes old) (nor.bytes mid.nor.now)) where
  pub done_copies : (c : Copied) → Ends (alike_of gf g) (table_of gf source) (table_of g (nor.bytes old)) g slots mid new (Ok c) → IsDone gf g source (nor.bytes old) (nor.bytes new.nor.now) c
  done_copies c done = record {
    begun = begins_on g (nor.bytes old) (nor.bytes new.nor.now) begun.takes (rest_reserve slots done.rest);
    stop = done.none;
    copies = record {
      table = rest_table slots done.rest;
      each = subst (λ (files : List File). IsCopied (alike_of gf g) (table_of gf source) (table_of g (nor.bytes old)) files) (sym (rest_table slots done.rest)) done.is_copied;
      tidy = rest_tidy slots done.rest;
      reserve = rest_reserve slots done.rest;
    };
    kept = done.kept_is;
    all = done.copied_is;
  }

  pub stopped_copies : (why : CopyErr) → Ends (alike_of gf g) (table_of gf source) (table_of g (nor.bytes old)) g slots mid new (Err why) → CopiesAs gf g source (nor.bytes old) (nor.bytes new.nor.now) (Err (copy_ends why))
  stopped_copies (CopyBadName at) ends = inr (inr (record {
    stop = stop_behind gf g source (nor.bytes old) (nor.bytes new.nor.now) (CopyBadName at) (begun_at g (nor.bytes old) (nor.bytes mid.nor.now) (nor.bytes new.nor.now) begun ends.1.bytes) ends.0;
    undone = (λ (e : 13 ≡ 0). omega (arith, e), λ (e : 13 ≡ 12). omega (arith, e));
    full = λ (e : 13 ≡ 6). absurd (omega (arith, e));
    tight = λ (e : 13 ≡ 14). absurd (omega (arith, e));
    named = λ e. record {
      table = ap (table_of g) ends.1.bytes ∙ (changes.now tells).table;
      tidy = subst (λ (l : List ℕ). IsTidy g l) (sym ends.1.bytes) begun.tidy;
      reserve = subst (λ (l : List ℕ). HasReserve g l) (sym ends.1.bytes) begun.reserve;
    };
  }))
  stopped_copies (CopyFull index pages) ends = inr (inr (record {
    stop = stop_behind gf g source (nor.bytes old) (nor.bytes new.nor.now) (CopyFull index pages) (begins_on g (nor.bytes old) (nor.bytes new.nor.now) begun.takes (rest_reserve slots ends.rest)) ends.stops;
    undone = (λ (e : 6 ≡ 0). omega (arith, e), λ (e : 6 ≡ 12). omega (arith, e));
    full = λ e. record {
      part = λ room. subst (λ (files : List File). IsPart (alike_of gf g) (table_of gf source) (table_of g (nor.bytes old)) files) (sym (rest_table slots ends.rest)) (ends.part room);
      same = λ room. rest_table slots ends.rest ∙ ends.same room;
      tidy = rest_tidy slots ends.rest;
      reserve = rest_reserve slots ends.rest;
    };
    named = λ (e : 6 ≡ 13). absurd (omega (arith, e));
    tight = λ (e : 6 ≡ 14). absurd (omega (arith, e));
  }))
  stopped_copies FromFault ends = inr (inl refl)
  stopped_copies ToFault ends = inl refl
  stopped_copies (CopyDamaged differ) ends = absurd ends
  stopped_copies Refused ends = absurd ends
