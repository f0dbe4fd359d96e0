use Rattle.std.proofs.Common.{◌≡◌, ◌&&◌, get_or, sym, ◌∙◌, arith, nat_lt, if◌then◌else◌, Option, Some, None, ℕ, true, false, Bool}
use Rattle.std.proofs.lemmas.Grind.{common_steps}
use Rattle.std.proofs.lemmas.Bool.{lt-ltb, le-ltb}
use Rattle.image_model.specs.Live.{live_at, own}
use Rattle.image_model.specs.Tables.{has_of}
use Rattle.plain_image.specs.Leading.{earlier, has_name}
use Rattle.plain_image.proofs.Leading.{earlier_some}
use Rattle.plain_image.proofs.table.earlier.Goals as goal
use Rattle.plain_image.proofs.table.earlier.Goals.{In_ok-q, else-q-p-via-then-q-p+else-has_name, else-q-p-via-else-q-p}

told : (c : In_ok-q) → earlier (has_of c.args.g.now (live_at c.args.g.now c.args.image.now) c.args.id) c.args.p c.args.name.now
    ≡ (if nat_lt c.in_ok-q.q c.args.p && has_name (own (live_at c.args.g.now c.args.image.now) c.args.id c.in_ok-q.q) c.args.name.now then Some c.in_ok-q.q else None)
told c =
    let some : get_or c.args.files.now c.args.id None ≡ Some c.in_ok-q.q = grind (arith, common_steps) in
    earlier_some c.args.g.now (live_at c.args.g.now c.args.image.now) 0x8000 c.args.id c.args.p c.in_ok-q.q c.args.files.now c.args.name.now c.requires.files c.requires.id some

if_both : (a b : Bool) (q : ℕ) (o : Option ℕ) → o ≡ (if a && b then Some q else None) → a ≡ true → b ≡ true → Some q ≡ o
if_both true true q o e yes' also = sym e
if_both true false q o e yes' also = absurd (cc)
if_both false b q o e yes' also = absurd (cc)

if_second : (a b : Bool) (q : ℕ) (o : Option ℕ) → o ≡ (if a && b then Some q else None) → b ≡ false → None ≡ o
if_second true true q o e no' = absurd (cc)
if_second true false q o e no' = sym e
if_second false b q o e no' = sym e

if_first : (a b : Bool) (q : ℕ) (o : Option ℕ) → o ≡ (if a && b then Some q else None) → a ≡ false → None ≡ o
if_first true b q o e no' = absurd (cc)
if_first false b q o e no' = sym e

pub returns-then-has_name : goal.returns-then-has_name
returns-then-has_name c =
    if_both _ _ c.in_ok-q.q _ (told (goal.at.returns-then-has_name c).In_ok-q) (lt-ltb c.in_ok-q.q c.args.p c.if-q-p.true) (sym c.has_name.ensures ∙ c.if-has_name.true)

pub returns-else-q-p : goal.returns-else-q-p
returns-else-q-p c =
    elim c.else-q-p.branch [
      | else-q-p-via-then-q-p+else-has_name w ↦ if_second _ _ c.in_ok-q.q _ (told (goal.at.returns-else-q-p c).In_ok-q) (sym w.has_name.ensures ∙ w.if-has_name.false)
      | else-q-p-via-else-q-p w ↦ if_first _ _ c.in_ok-q.q _ (told (goal.at.returns-else-q-p c).In_ok-q) (le-ltb c.in_ok-q.q c.args.p w.if-q-p.false)
    ]
