-- What a call that only looked tells, by what the calls in it told.
use Rattle.std.proofs.Common.{ℕ, List, Result, Ok, Err, OnErr, IfOk, IsErr, arith}
use Rattle.nor_core.specs.declared.state.NorState.{Ghosts as NorOf}
use Rattle.nor_core.specs.Count.{Rose}
use Rattle.geometry.specs.declared.geometry.Geometry.{Geometry}
use Rattle.flash_view.specs.declared.view.View.{View}
use Rattle.flash_view.specs.Same.{OnlyLooks}
use Rattle.flash_view.specs.Looks.{Looks}
use Rattle.flash_view.proofs.Looking.{looks_then}

on_err : {T E : Type 0} (P Q : Type 0) (r : Result T E) → (P → Q) → OnErr r P → OnErr r Q
on_err P Q (Ok x) more was = was
on_err P Q (Err why) more was = more was

pub if_ok : {T E : Type 0} (P Q : T → Type 0) (r : Result T E) → ((x : T) → P x → Q x) → IfOk r P → IfOk r Q
if_ok P Q (Ok x) more was = more x was
if_ok P Q (Err why) more was = was

-- a premise goes in
pub under : {T E A : Type 0} (P : T → Type 0) (r : Result T E) → (A → IfOk r P) → IfOk r (λ x. A → P x)
under P (Ok x) told = told
under P (Err why) told = tt

err_of : {T E Q : Type 0} (r : Result T E) → Q → OnErr r Q
err_of (Ok x) q = tt
err_of (Err why) q = q

none_ok : {T E : Type 0} (P : T → Type 0) (r : Result T E) → IsErr r → IfOk r P
none_ok P (Ok x) is = absurd (cc)
none_ok P (Err why) is = tt

module _ {N T E : Type 0} {nor : NorOf N} {tells : Geometry → List ℕ → T → Type 0} where
  -- it answers
  pub looked : {old new : View N nor} {x : T} → OnlyLooks old new → (nor.tells old.nor.now → tells old.geometry (nor.bytes old.nor.now) x) → Looks {E = E} old new (Ok x) tells
  looked only told = record { only = only; cause = tt; told = told }

  -- a look in it failed
  pub failed : {old mid new : View N nor} {r : Result T E} → OnlyLooks old mid → OnlyLooks mid new → Rose (nor.faults mid.nor.now) (nor.faults new.nor.now) → IsErr r → Looks old new r tells
  failed {old} {mid} {new} {r} first second rose is = record {
    only = looks_then first second;
    cause = err_of r (omega (arith, rose, first.same.faults));
    told = λ yes. none_ok _ r is;
  }

  -- it answers what its last call did, which is known of that answer,
  pub looked_by : {old mid new : View N nor} {r : Result T E} {last : Geometry → List ℕ → T → Type 0} → OnlyLooks old mid → Looks mid new r last → (nor.tells old.nor.now → IfOk r (tells old.geometry (nor.bytes old.nor.now))) → Looks old new r tells
  looked_by {old} {mid} {new} {r} first second told = record {
    only = looks_then first second.only;
    cause = on_err _ _ r (λ rose. omega (arith, rose, first.same.faults)) second.cause;
    told = told;
  }

  -- or by what that call tells
  pub looked_then : {old mid new : View N nor} {r : Result T E} {last : Geometry → List ℕ → T → Type 0} → OnlyLooks old mid → Looks mid new r last →
      (nor.tells old.nor.now → (x : T) → last mid.geometry (nor.bytes mid.nor.now) x → tells old.geometry (nor.bytes old.nor.now) x) → Looks old new r tells
  looked_then {r} first second more = looked_by first second (λ yes. if_ok _ _ r (more yes) (second.told (first.reads.told yes)))
