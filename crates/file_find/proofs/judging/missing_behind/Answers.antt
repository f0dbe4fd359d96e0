use Rattle.std.proofs.Common.{◌≡◌, ◌+◌, ◌-◌, ◌*◌, ◌/◌, ◌≤◌, min, sym, ◌∙◌, arith}
use Rattle.geometry.specs.Numbers.{head_slots, span_slots}
use Rattle.image_model.specs.Live.{live_at, own}
use Rattle.file_find.specs.Judging.{missing_between}
use Rattle.file_find.proofs.Spans.{part_some, part_none, part_all, slots_some}
use Rattle.flash_view.proofs.Looking.{looks_then, built_then}
use Rattle.file_find.proofs.judging.missing_behind.Goals as goal

pub returns-then-is_some-clause-told : goal.returns-then-is_some-clause-told
returns-then-is_some-clause-told g c = λ tells head.
    let was = c.loop-k.invariant in
    let view = c.args.v.now in
    let geo = view.geometry in
    let pages = own (live_at geo (g.N.NorState.bytes view.nor.now)) c.args.id in
    let turn : c.in_ok-missing.missing ≡ missing_between geo pages head (head_slots geo + c.loop-k.k * span_slots geo) (min (head_slots geo + c.loop-k.k * span_slots geo + span_slots geo) c.args.spans) =
    rw (was.looks.same.geometry, was.looks.reads.bytes) at (c.in_ok-missing.ensures.told (was.looks.reads.told tells) head) in
    part_some geo pages head c.loop-k.k c.args.spans c.in_ok-missing.missing (sym c.is_some.ensures ∙ c.if-is_some.true) turn ∙ was.told tells head

pub loop-k-preserved : goal.loop-k-preserved
loop-k-preserved g c =
    let was = c.loop-k.invariant in
    let looked = c.in_ok-missing.ensures in
    record {
      count = was.count;
      looks = looks_then was.looks looked.looks;
      built = built_then was.looks was.built _ looked.built;
      told = λ tells head.
          let view = c.args.v.now in
          let geo = view.geometry in
          let pages = own (live_at geo (g.N.NorState.bytes view.nor.now)) c.args.id in
          let turn : c.in_ok-missing.missing ≡ missing_between geo pages head (head_slots geo + c.loop-k.k * span_slots geo) (min (head_slots geo + c.loop-k.k * span_slots geo + span_slots geo) c.args.spans) =
          rw (was.looks.same.geometry, was.looks.reads.bytes) at (looked.told (was.looks.reads.told tells) head) in
          sym (part_none geo pages head c.loop-k.k c.args.spans c.in_ok-missing.missing (sym c.is_some.ensures ∙ c.if-is_some.false) turn) ∙ was.told tells head;
    }

pub returns-clause-told : goal.returns-clause-told
returns-clause-told g c = λ tells head.
    let was = c.loop-k.invariant in
    let view = c.args.v.now in
    let geo = view.geometry in
    let pages = own (live_at geo (g.N.NorState.bytes view.nor.now)) c.args.id in
    let some = slots_some geo in
    let all : (c.args.spans - head_slots geo + span_slots geo - 1) / span_slots geo ≤ c.loop-k.k = omega (arith, was.count, c.further_pages-k-end.ensures) in
    part_all geo pages head c.loop-k.k c.args.spans all ∙ was.told tells head
