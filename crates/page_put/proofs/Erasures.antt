-- The calls of making a block fresh, one after the other, as contracts tell of them.
use Rattle.std.proofs.Common.{◌≡◌, ◌≢◌, ℕ, ◌+◌, ◌*◌, ◌/◌, ◌<◌, ◌≤◌, ◌⊎◌, inl, inr, ⊎_elim, List, length, Ok, Err, Some, None, Bool, if◌then◌else◌, sym, ◌∙◌, ap, subst, arith}
use Rattle.std.specs.Prelude.{Option, Result, OnOk, OnErr}
use Rattle.std.proofs.lemmas.Result.{on_ok_weaker}
use Rattle.std.proofs.lemmas.Bool.{cases_eq, ne_eqb}
use Rattle.std.proofs.Math.Nat.{mul-le-mul_right}
use Rattle.geometry.specs.declared.geometry.Geometry.{Geometry}
use Rattle.nor_core.specs.declared.device.Mark.{Mark}
use Rattle.nor_core.specs.declared.device.Failed.{Failed}
use Rattle.nor_core.specs.declared.state.NorState.{Ghosts as NorOf}
use Rattle.nor_core.specs.Flash.{HalfErased, erased}
use Rattle.nor_core.specs.Device.{Changes, InErase}
use Rattle.nor_core.proofs.Cuts.{wider, go_on}
use Rattle.image_model.specs.Places.{IsImage}
use Rattle.image_laws.specs.Blocks.{magic_mark}
use Rattle.page_put.specs.Fresh.{IsFresh, UnitCut, InErasing, MarkCut, FreshCut, mark_of, with_front_erased, blank, with_magic}
use Rattle.page_put.proofs.Freshening.{lies, unit_inside, front_more, front_erased, is_fresh}

-- a device that holds the volume holds an image of it
pub image_of : (g : Geometry) (bytes : List ℕ) (size : ℕ) → length bytes ≡ size → g.blocks * g.block ≤ size → IsImage g bytes
image_of g bytes size len fits = record { len = omega (arith, len, fits) }

either : {A B : Type 0} (r : Result (Unit {0}) Failed) → OnOk r A → OnErr r B → A ⊎ B
either (Ok x) a b = inl a
either (Err e) a b = inr b

-- where a unit of a block stands
pub unit_start : (g : Geometry) (block i n : ℕ) → n ≡ block * (g.block / g.phys) + i → n * g.phys ≡ block * g.block + i * g.phys
unit_start g block i n is =
    let whole : block * ((g.block / g.phys) * g.phys) ≡ block * g.block = ap (λ (x : ℕ). block * x) (omega (arith, (lies g).units)) in
    let scaled : n * g.phys ≡ (block * (g.block / g.phys) + i) * g.phys = ap (λ (x : ℕ). x * g.phys) is in
    omega arith

pub unit_fits : (g : Geometry) (block i n : ℕ) → block < g.blocks → i < g.block / g.phys → n ≡ block * (g.block / g.phys) + i → (n + 1) * g.phys ≤ g.blocks * g.block
unit_fits g block i n low small is =
    let start = unit_start g block i n is in
    let inside = unit_inside g i small in
    let next : (block + 1) * g.block ≤ g.blocks * g.block = mul-le-mul_right g.block (omega arith) in
    omega arith

-- the mark of a unit's erase by what is said of the first unit and of the others
pub marked : (g : Geometry) (block i : ℕ) (mark : Option Mark) → (i ≡ 0 → mark ≡ Some (magic_mark g block)) → (i ≢ 0 → mark ≡ None) → mark ≡ mark_of g block i
marked g block i mark first later = ⊎_elim
    (λ (zero_is : i ≡ 0). first zero_is ∙ sym (ap (λ (n : ℕ). mark_of g block n) zero_is))
    (λ (other : i ≡ 0 → ⊥). later other ∙ sym (ap (λ (b : Bool). if b then Some (magic_mark g block) else None) (ne_eqb i 0 other)))
    (cases_eq i 0)

module _ (g : Geometry) (block i n : ℕ) (is : n ≡ block * (g.block / g.phys) + i) where
  pub erase_done : (result : Result (Unit {0}) Failed) (was now : List ℕ) → OnOk result (now ≡ erased was (n * g.phys) g.phys) → OnOk result (now ≡ erased was (block * g.block + i * g.phys) g.phys)
  erase_done result was now done = subst (λ (at : ℕ). OnOk result (now ≡ erased was at g.phys)) (unit_start g block i n is) done

  module _ {D : Type 0} {nor : NorOf D} {old new : D} (mark : Option Mark) (result : Result (Unit {0}) Failed) where
    pub erase_goes : mark ≡ mark_of g block i → nor.unit old ≡ g.phys → (nor.tells old → OnOk result (nor.bytes new ≡ erased (nor.bytes old) (n * g.phys) g.phys)) → (nor.tells old → OnErr result (HalfErased (n * g.phys) g.phys mark (nor.bytes old) (nor.bytes new))) →
        Changes nor old new (InErase nor old new n mark) → Changes nor old new (UnitCut g block i)
    erase_goes marked unit done half changes = wider changes (λ tells image cut.
        let start = unit_start g block i n is in
        let as_cut : (l : List ℕ) → HalfErased (n * g.phys) g.phys mark (nor.bytes old) l → UnitCut g block i (nor.bytes old) l = λ l some.
        inl (subst (λ (at : ℕ). HalfErased at g.phys (mark_of g block i) (nor.bytes old) l) start (subst (λ (m : Option Mark). HalfErased (n * g.phys) g.phys m (nor.bytes old) l) marked some)) in
        let now : UnitCut g block i (nor.bytes old) (nor.bytes new) = ⊎_elim
        (λ (all : nor.bytes new ≡ erased (nor.bytes old) (block * g.block + i * g.phys) g.phys). inr all)
        (λ (some : HalfErased (n * g.phys) g.phys mark (nor.bytes old) (nor.bytes new)). as_cut (nor.bytes new) some)
        (either result (erase_done result (nor.bytes old) (nor.bytes new) (done tells)) (half tells)) in
        ⊎_elim
        (λ (some : HalfErased (n * nor.unit old) (nor.unit old) mark (nor.bytes old) image). as_cut image (subst (λ (u : ℕ). HalfErased (n * u) u mark (nor.bytes old) image) unit some))
        (λ (same : image ≡ nor.bytes new). subst (λ (l : List ℕ). UnitCut g block i (nor.bytes old) l) (sym same) now)
        cut)

-- one unit after others
module _ (g h : Geometry) (block i : ℕ) (same : h ≡ g) (small : i < g.block / g.phys) where
  pub erasing_then : {D : Type 0} {nor : NorOf D} {old mid new : D} → (nor.tells old → nor.bytes mid ≡ with_front_erased g block (i * g.phys) (nor.bytes old)) → Changes nor old mid (InErasing g block) → Changes nor mid new (UnitCut h block i) →
      Changes nor old new (InErasing g block)
  erasing_then {nor = nor} {old} {mid} {new} so_far before goes =
      go_on before (subst (λ (k : Geometry). Changes nor mid new (UnitCut k block i)) same goes)
      (λ tells image was step. record { unit = i; below = small; cut = subst (λ (l : List ℕ). UnitCut g block i l image) (so_far tells) step })

  pub front_then : (was mid now : List ℕ) → block < g.blocks → IsImage g was → mid ≡ with_front_erased g block (i * g.phys) was → now ≡ erased mid (block * h.block + i * h.phys) h.phys → now ≡ with_front_erased g block ((i + 1) * g.phys) was
  front_then was mid now low image so_far done =
      subst (λ (k : Geometry). now ≡ erased mid (block * k.block + i * k.phys) k.phys) same done
      ∙ ap (λ (l : List ℕ). erased l (block * g.block + i * g.phys) g.phys) so_far ∙ front_more g block was low image i small

-- all units
pub front_all : (g : Geometry) (block i : ℕ) (was now : List ℕ) → i ≡ g.block / g.phys → now ≡ with_front_erased g block (i * g.phys) was → now ≡ blank g block was
front_all g block i was now all so_far =
    let whole : i * g.phys ≡ (g.block / g.phys) * g.phys = ap (λ (n : ℕ). n * g.phys) all in
    let size : i * g.phys ≡ g.block = omega (arith, whole, (lies g).units) in
    so_far ∙ ap (λ (n : ℕ). with_front_erased g block n was) size

-- the programs of the last two slots after the erase
module _ (g h : Geometry) (block count : ℕ) (same : h ≡ g) where
  pub marks_then : {D : Type 0} {nor : NorOf D} {old mid new : D} → (nor.tells old → nor.bytes mid ≡ blank g block (nor.bytes old)) → Changes nor old mid (InErasing g block) → Changes nor mid new (MarkCut h block count) → Changes nor old new (FreshCut g block count)
  marks_then {nor = nor} {old} {mid} {new} erased_is before programs =
      go_on (wider before (λ tells image erasing. inl erasing)) (subst (λ (k : Geometry). Changes nor mid new (MarkCut k block count)) same programs)
      (λ tells image was step. inr (subst (λ (l : List ℕ). MarkCut g block count l image) (erased_is tells) step))

  pub marked_then : (result : Result (Unit {0}) Failed) (was mid now : List ℕ) → mid ≡ blank g block was → OnOk result (now ≡ with_magic h block count mid) → OnOk result (now ≡ with_magic g block count (blank g block was))
  marked_then result was mid now erased_is done =
      subst (λ (l : List ℕ). OnOk result (now ≡ with_magic g block count l)) erased_is (subst (λ (k : Geometry). OnOk result (now ≡ with_magic k block count mid)) same done)

-- a block whose last programs are done is fresh
pub fresh_done : (g : Geometry) (block erases : ℕ) (result : Result (Unit {0}) Failed) (was now : List ℕ) → block < g.blocks → erases ≤ 0x7FFF → IsImage g was →
    OnOk result (now ≡ with_magic g block erases (blank g block was)) → OnOk result (IsFresh g block erases was now)
fresh_done g block erases result was now low small image done =
    on_ok_weaker result (is_fresh g block erases was (blank g block was) now low image small (front_erased g block was low image g.block (omega arith))) done
