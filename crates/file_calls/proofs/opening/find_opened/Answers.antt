use Rattle.std.proofs.Common.{◌≡◌, true, false, ◌&&◌, refl, sym, ◌∙◌, arith, inl, inr, bit_and}
use Rattle.image_model.specs.Places.{IsImage}
use Rattle.image_model.specs.Tables.{table_of}
use Rattle.table_model.specs.Descriptors.{makes, is_exclusive}
use Rattle.file_calls.proofs.Removing.{named_some, named_none}
use Rattle.file_calls.proofs.Openings.{is_set, is_clear, file_there}
use Rattle.file_calls.proofs.opening.find_opened.Goals.{else-flags-ne0-via-then-flags-ne0+else-flags-ne0-2, else-flags-ne0-via-else-flags-ne0}
use Rattle.file_calls.proofs.opening.find_opened.Goals as goal

pub returns-then-flags-ne0-2-clause-told : goal.returns-then-flags-ne0-2-clause-told
returns-then-flags-ne0-2-clause-told g c = λ tells tidy no_fault.
    let view = c.args.v.now in
    let image = g.N.NorState.bytes view.nor.now in
    let size = g.met.N.Nor.sized view.nor.now tells in
    let whole : IsImage view.geometry image = record { len = omega (arith, size, view.volume) } in
    let at = named_some view.geometry image c.args.name.now c.in-Some.id whole tidy (sym (c.in_ok-id.ensures.told tells tidy) ∙ c.in-Some.is) in
    let made : makes c.args.flags ≡ true = is_set (bit_and c.args.flags 4) c.if-flags-ne0.true in
    let new : is_exclusive c.args.flags ≡ true = is_set (bit_and c.args.flags 64) c.if-flags-ne0-2.true in
    inl (refl, file_there c.args.name.now (table_of view.geometry image) c.in-Some.id at, rw (made, new) refl)

pub returns-else-flags-ne0-clause-told : goal.returns-else-flags-ne0-clause-told
returns-else-flags-ne0-clause-told g c = λ tells tidy.
    let view = c.args.v.now in
    let image = g.N.NorState.bytes view.nor.now in
    let size = g.met.N.Nor.sized view.nor.now tells in
    let whole : IsImage view.geometry image = record { len = omega (arith, size, view.volume) } in
    let at = named_some view.geometry image c.args.name.now c.in-Some.id whole tidy (sym (c.in_ok-id.ensures.told tells tidy) ∙ c.in-Some.is) in
    let old : (makes c.args.flags && is_exclusive c.args.flags) ≡ false = elim c.else-flags-ne0.branch [
      | else-flags-ne0-via-then-flags-ne0+else-flags-ne0-2 w ↦ (let made : makes c.args.flags ≡ true = is_set (bit_and c.args.flags 4) w.if-flags-ne0.true in let not_new : is_exclusive c.args.flags ≡ false = is_clear (bit_and c.args.flags 64) w.if-flags-ne0-2.false in rw (made, not_new) refl)
      | else-flags-ne0-via-else-flags-ne0 w ↦ (let not_made : makes c.args.flags ≡ false = is_clear (bit_and c.args.flags 4) w.if-flags-ne0.false in rw not_made refl)
    ] in
    (at, old)

pub returns-then-flags-ne0-3-clause-told : goal.returns-then-flags-ne0-3-clause-told
returns-then-flags-ne0-3-clause-told g c = λ tells tidy.
    let view = c.args.v.now in
    let image = g.N.NorState.bytes view.nor.now in
    let size = g.met.N.Nor.sized view.nor.now tells in
    let whole : IsImage view.geometry image = record { len = omega (arith, size, view.volume) } in
    (named_none view.geometry image c.args.name.now whole tidy (sym (c.in_ok-id.ensures.told tells tidy) ∙ c.in-None.is), is_set (bit_and c.args.flags 4) c.if-flags-ne0-3.true)

pub returns-then-flags-ne0-3-clause-making : goal.returns-then-flags-ne0-3-clause-making
returns-then-flags-ne0-3-clause-making g c = λ e. is_set (bit_and c.args.flags 4) c.if-flags-ne0-3.true

pub returns-else-flags-ne0-3-clause-told : goal.returns-else-flags-ne0-3-clause-told
returns-else-flags-ne0-3-clause-told g c = λ tells tidy no_fault.
    let view = c.args.v.now in
    let image = g.N.NorState.bytes view.nor.now in
    let size = g.met.N.Nor.sized view.nor.now tells in
    let whole : IsImage view.geometry image = record { len = omega (arith, size, view.volume) } in
    inr (refl, named_none view.geometry image c.args.name.now whole tidy (sym (c.in_ok-id.ensures.told tells tidy) ∙ c.in-None.is), is_clear (bit_and c.args.flags 4) c.if-flags-ne0-3.false)
