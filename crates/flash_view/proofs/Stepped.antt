-- Calls over a view one after the other.
use Rattle.std.proofs.Common.{◌≡◌, ℕ, List, true, false, refl, sym, ◌∙◌, arith, ap, ⊎_elim, subst, Result, Ok, Err, MatchResult, IsErrOf, OnErr, OnOk, IsErr, IfErr, length}
use Rattle.std.specs.Prelude.{IsErrAnd}
use Rattle.std.proofs.lemmas.Bool.{cases_Bool}
use Rattle.std.proofs.lemmas.Result.{on_ok_weaker}
use Rattle.geometry.specs.declared.geometry.Geometry.{Geometry}
use Rattle.image_model.specs.Places.{IsImage}
use Rattle.nor_core.specs.declared.device.Failed.{Failed}
use Rattle.nor_core.specs.Count.{Rose}
use Rattle.nor_core.specs.Device.{Changes, OnlyReads}
use Rattle.nor_core.specs.declared.state.NorState.{Ghosts as NorOf}
use Rattle.nor_core.proofs.Cuts.{wider, go_on, unchanged, after_reads, reads_then, reads_none}
use Rattle.page_cache.proofs.Held.{few_none}
use Rattle.flash_view.specs.declared.view.View.{View}
use Rattle.flash_view.specs.Same.{StaysBehind, IsSameView, OnlyLooks, OnlyCounts}
use Rattle.trim_laws.specs.Upkeep.{Upkeep}
use Rattle.trim_laws.specs.Wear.{Worn}
use Rattle.trim_laws.proofs.Wears.{upkeep_none, upkeep_then, worn_none, worn_then}
use Rattle.flash_view.proofs.Behind.{behind_none}
use Rattle.flash_view.proofs.Looking.{same_then, looks_counts}
use Rattle.flash_view.specs.Steps.{Step, Errors, Framed, Stepped, Begins, Finishes, acting, making, failed, IsRebuilt}

on_ok : {T E : Type 0} (r : Result T E) (fault : E) (P Q : T → Type 0) → ((x : T) → P x → Q x) → MatchResult r P (λ why. why ≡ fault) → MatchResult r Q (λ why. why ≡ fault)
on_ok (Ok x) fault P Q f h = f x h
on_ok (Err e) fault P Q f h = h

-- what holds at all does where a call is done
pub on_done : {T E : Type 0} (r : Result T E) {P : Type 0} → P → OnOk r P
on_done (Ok x) h = h
on_done (Err e) h = tt

-- a fault of a device is the one that there is
pub one_fault : (e : Failed) → e ≡ failed.fault
one_fault e = refl

-- and means no more
fault_means : {T : Type 0} (r : Result T Failed) → IfErr r failed.means
fault_means (Ok x) = tt
fault_means (Err e) = tt

fault_is : {T E : Type 0} (r : Result T E) (fault : E) → IsErr r → IsErrAnd r (λ why. why ≡ fault) → Err fault ≡ r
fault_is (Ok x) fault is same = absurd (cc)
fault_is (Err why) fault is same = ap Err (sym same)

module _ {N : Type 0} {nor : NorOf N} where
  -- a device that holds the volume holds an image of it
  pub view_image : (v : View N nor) → (nor.tells v.nor.now → length (nor.bytes v.nor.now) ≡ nor.size v.nor.now) → nor.tells v.nor.now → IsImage v.geometry (nor.bytes v.nor.now)
  view_image v sized tells = record { len = omega (arith, sized tells, v.volume) }

  -- ---- the frame

  pub framed_counts : {old new : View N nor} → OnlyCounts old new → Framed old new
  framed_counts counts = record { same = counts.same; wrote = λ e. counts.wrote ∙ e; untouched = λ before after. counts.reads }

  pub framed_looks : {old new : View N nor} → OnlyLooks old new → Framed old new
  framed_looks looks = framed_counts (looks_counts looks)

  pub framed_wrote : {old new : View N nor} → IsSameView old new → new.wrote ≡ true → Framed old new
  framed_wrote same wrote = record { same = same; wrote = λ e. wrote; untouched = λ before after. let bad : true ≡ false = sym wrote ∙ after in absurd (cc) }

  pub framed_then : {old mid new : View N nor} → Framed old mid → Framed mid new → Framed old new
  framed_then {old} {mid} {new} first second = record {
    same = same_then first.same second.same;
    wrote = λ e. second.wrote (first.wrote e);
    untouched = λ before after. ⊎_elim
        (λ (yes : mid.wrote ≡ true). let bad : true ≡ false = sym (second.wrote yes) ∙ after in absurd (cc))
        (λ (no : mid.wrote ≡ false). reads_then (first.untouched before no) (second.untouched no after))
        (cases_Bool mid.wrote);
  }

  -- ---- a look

  module _ {T E : Type 0} {errors : Errors E} {old new : View N nor} {r : Result T E} {step : Step T} where
    -- a look alone
    pub looked : OnlyLooks old new → (IsErrOf r errors.fault → Rose (nor.faults old.nor.now) (nor.faults new.nor.now)) → IfErr r errors.means →
        (nor.tells old.nor.now → step.needs old.geometry (nor.bytes old.nor.now) →
        step.cut old.geometry (nor.bytes old.nor.now) (nor.bytes old.nor.now)
        × MatchResult r (step.done old.geometry (nor.bytes old.nor.now) (nor.bytes old.nor.now)) (λ why. why ≡ errors.fault)) →
        Stepped errors old new r step
    looked looks cause means law = record {
      framed = framed_looks looks;
      cause = cause;
      means = means;
      cuts = after_reads looks.reads (unchanged new.nor.now _ (λ tells need. subst (λ (a : List ℕ). step.needs old.geometry a → step.cut old.geometry a a) (sym looks.reads.bytes) (λ n. (law (looks.reads.told_before tells) n).0) need));
      ends = λ tells need. subst (λ (b : List ℕ). MatchResult r (step.done old.geometry (nor.bytes old.nor.now) b) (λ why. why ≡ errors.fault)) (sym looks.reads.bytes) (law tells need).1;
      upkeep = after_reads looks.reads (unchanged new.nor.now _ (λ tells need. upkeep_none old.geometry _));
      worn = λ tells need. on_done r (subst (λ (b : List ℕ). Worn old.geometry (nor.bytes old.nor.now) b) (sym looks.reads.bytes) (worn_none old.geometry (nor.bytes old.nor.now)));
      stands = λ tells need stood. on_done r (looks.counted ∙ stood);
    }

  -- work alone
  pub rebuilt : {old new : View N nor} → IsRebuilt old new → OnlyLooks old new
  rebuilt {old} {new} same = record {
    reads = subst (λ (d : N). OnlyReads nor old.nor.now d) (sym same.device) (reads_none old.nor.now);
    wrote = same.wrote;
    counted = same.counted;
    rows = same.rows;
    same = record {
      geometry = same.geometry;
      nor_name = same.nor_name;
      work_name = same.work_name;
      rows_name = same.rows_name;
      cache_name = same.cache_name;
      cache_size = ap length same.cache;
      behind = subst (λ (d : N). StaysBehind nor old.geometry old.nor.now d) (sym same.device) (behind_none old.geometry old.nor.now);
      faults = let e = ap nor.faults same.device in omega arith;
      writes = let e = ap nor.device_writes same.device in omega arith;
      asked = λ before after. let bad : true ≡ false = sym after ∙ (same.wrote ∙ before) in absurd (cc);
      few = rw (same.device, same.cache) (few_none old.geometry old.nor.now old.cache.now);
    };
  }

  -- a call after a look
  module _ {T E : Type 0} {errors : Errors E} {old mid new : View N nor} {r : Result T E} {last whole : Step T} where
    pub after_look : OnlyLooks old mid → Stepped errors mid new r last →
        (nor.tells old.nor.now → whole.needs old.geometry (nor.bytes old.nor.now) → Finishes old.geometry (nor.bytes old.nor.now) (nor.bytes old.nor.now) last whole) → Stepped errors old new r whole
    after_look looks call law =
        let cuts : Changes nor mid.nor.now new.nor.now (λ was image. last.needs old.geometry was → last.cut old.geometry was image) =
        subst (λ (k : Geometry). Changes nor mid.nor.now new.nor.now (λ was image. last.needs k was → last.cut k was image)) looks.same.geometry call.cuts in
        let ends : nor.tells mid.nor.now → last.needs old.geometry (nor.bytes old.nor.now) → MatchResult r (last.done old.geometry (nor.bytes old.nor.now) (nor.bytes new.nor.now)) (λ why. why ≡ errors.fault) =
        subst (λ (a : List ℕ). nor.tells mid.nor.now → last.needs old.geometry a → MatchResult r (last.done old.geometry a (nor.bytes new.nor.now)) (λ why. why ≡ errors.fault)) looks.reads.bytes
        (subst (λ (k : Geometry). nor.tells mid.nor.now → last.needs k (nor.bytes mid.nor.now) → MatchResult r (last.done k (nor.bytes mid.nor.now) (nor.bytes new.nor.now)) (λ why. why ≡ errors.fault)) looks.same.geometry call.ends) in
        let upkeep : Changes nor mid.nor.now new.nor.now (λ was image. last.needs old.geometry was → Upkeep old.geometry was image) =
        subst (λ (k : Geometry). Changes nor mid.nor.now new.nor.now (λ was image. last.needs k was → Upkeep k was image)) looks.same.geometry call.upkeep in
        let worn : nor.tells mid.nor.now → last.needs old.geometry (nor.bytes old.nor.now) → OnOk r (Worn old.geometry (nor.bytes old.nor.now) (nor.bytes new.nor.now)) =
        subst (λ (a : List ℕ). nor.tells mid.nor.now → last.needs old.geometry a → OnOk r (Worn old.geometry a (nor.bytes new.nor.now))) looks.reads.bytes
        (subst (λ (k : Geometry). nor.tells mid.nor.now → last.needs k (nor.bytes mid.nor.now) → OnOk r (Worn k (nor.bytes mid.nor.now) (nor.bytes new.nor.now))) looks.same.geometry call.worn) in
        let stands : nor.tells mid.nor.now → last.needs old.geometry (nor.bytes old.nor.now) → mid.counted ≡ true → OnOk r (new.counted ≡ true) =
        subst (λ (a : List ℕ). nor.tells mid.nor.now → last.needs old.geometry a → mid.counted ≡ true → OnOk r (new.counted ≡ true)) looks.reads.bytes
        (subst (λ (k : Geometry). nor.tells mid.nor.now → last.needs k (nor.bytes mid.nor.now) → mid.counted ≡ true → OnOk r (new.counted ≡ true)) looks.same.geometry call.stands) in
        record {
          framed = framed_then (framed_looks looks) call.framed;
          cause = λ e. let rose = call.cause e in let more = looks.same.faults in omega arith;
          means = call.means;
          cuts = wider (after_reads looks.reads cuts) (λ tells image cut need. let l = law tells need in l.cut image (cut l.needs));
          ends = λ tells need. let l = law tells need in on_ok r errors.fault _ _ (λ x done. l.done _ x done) (ends (looks.reads.told tells) l.needs);
          upkeep = wider (after_reads looks.reads upkeep) (λ tells image kept need. kept (law tells need).needs);
          worn = λ tells need. worn (looks.reads.told tells) (law tells need).needs;
          stands = λ tells need stood. stands (looks.reads.told tells) (law tells need).needs (looks.counted ∙ stood);
        }

  -- ---- the start of a call

  starts : {S T D : Type 0} {before : Errors D} {old new : View N nor} {r : Result S D} {first : Step S} {whole : Step T} → Stepped before old new r first →
      (nor.tells old.nor.now → whole.needs old.geometry (nor.bytes old.nor.now) → Begins old.geometry (nor.bytes old.nor.now) first whole) →
      Changes nor old.nor.now new.nor.now (λ was image. whole.needs old.geometry was → whole.cut old.geometry was image)
  starts call begins = wider call.cuts (λ tells image cut need. let b = begins tells need in b.cut image (cut b.needs))

  starts_upkeep : {S T D : Type 0} {before : Errors D} {old new : View N nor} {r : Result S D} {first : Step S} {whole : Step T} → Stepped before old new r first →
      (nor.tells old.nor.now → whole.needs old.geometry (nor.bytes old.nor.now) → Begins old.geometry (nor.bytes old.nor.now) first whole) →
      Changes nor old.nor.now new.nor.now (λ was image. whole.needs old.geometry was → Upkeep old.geometry was image)
  starts_upkeep call begins = wider call.upkeep (λ tells image kept need. kept (begins tells need).needs)

  -- ---- a call after another

  module _ {S T D E : Type 0} {before : Errors D} {errors : Errors E} {old mid new : View N nor} {x : S} {r : Result T E} {first : Step S} {last whole : Step T} where
    pub stepped_then : Stepped before old mid (Ok x) first → Stepped errors mid new r last →
        (nor.tells old.nor.now → whole.needs old.geometry (nor.bytes old.nor.now) → Begins old.geometry (nor.bytes old.nor.now) first whole) →
        (nor.tells old.nor.now → whole.needs old.geometry (nor.bytes old.nor.now) → first.done old.geometry (nor.bytes old.nor.now) (nor.bytes mid.nor.now) x →
        Finishes old.geometry (nor.bytes old.nor.now) (nor.bytes mid.nor.now) last whole) →
        Stepped errors old new r whole
    stepped_then call next begins finishes =
        let cuts : Changes nor mid.nor.now new.nor.now (λ was image. last.needs old.geometry was → last.cut old.geometry was image) =
        subst (λ (k : Geometry). Changes nor mid.nor.now new.nor.now (λ was image. last.needs k was → last.cut k was image)) call.framed.same.geometry next.cuts in
        let ends : nor.tells mid.nor.now → last.needs old.geometry (nor.bytes mid.nor.now) → MatchResult r (last.done old.geometry (nor.bytes mid.nor.now) (nor.bytes new.nor.now)) (λ why. why ≡ errors.fault) =
        subst (λ (k : Geometry). nor.tells mid.nor.now → last.needs k (nor.bytes mid.nor.now) → MatchResult r (last.done k (nor.bytes mid.nor.now) (nor.bytes new.nor.now)) (λ why. why ≡ errors.fault)) call.framed.same.geometry next.ends in
        let upkeep : Changes nor mid.nor.now new.nor.now (λ was image. last.needs old.geometry was → Upkeep old.geometry was image) =
        subst (λ (k : Geometry). Changes nor mid.nor.now new.nor.now (λ was image. last.needs k was → Upkeep k was image)) call.framed.same.geometry next.upkeep in
        let worn : nor.tells mid.nor.now → last.needs old.geometry (nor.bytes mid.nor.now) → OnOk r (Worn old.geometry (nor.bytes mid.nor.now) (nor.bytes new.nor.now)) =
        subst (λ (k : Geometry). nor.tells mid.nor.now → last.needs k (nor.bytes mid.nor.now) → OnOk r (Worn k (nor.bytes mid.nor.now) (nor.bytes new.nor.now))) call.framed.same.geometry next.worn in
        let stands : nor.tells mid.nor.now → last.needs old.geometry (nor.bytes mid.nor.now) → mid.counted ≡ true → OnOk r (new.counted ≡ true) =
        subst (λ (k : Geometry). nor.tells mid.nor.now → last.needs k (nor.bytes mid.nor.now) → mid.counted ≡ true → OnOk r (new.counted ≡ true)) call.framed.same.geometry next.stands in
        record {
          framed = framed_then call.framed next.framed;
          cause = λ e. let rose = next.cause e in let more = call.framed.same.faults in omega arith;
          means = next.means;
          cuts = go_on (wider call.cuts (λ tells image cut need. let b = begins tells need in b.cut image (cut b.needs))) cuts
              (λ tells image was cut need. let f = finishes tells need (call.ends tells (begins tells need).needs) in f.cut image (cut f.needs));
          ends = λ tells need. let f = finishes tells need (call.ends tells (begins tells need).needs) in on_ok r errors.fault _ _ (λ y done. f.done _ y done) (ends (call.cuts.cuts.told tells) f.needs);
          upkeep = go_on (starts_upkeep call begins) upkeep (λ tells image before kept need.
              let b = begins tells need in
              upkeep_then old.geometry _ _ _ (before need) (call.worn tells b.needs) (kept (finishes tells need (call.ends tells b.needs)).needs));
          worn = λ tells need.
              let b = begins tells need in
              on_ok_weaker r (worn_then old.geometry _ _ _ (call.worn tells b.needs)) (worn (call.cuts.cuts.told tells) (finishes tells need (call.ends tells b.needs)).needs);
          stands = λ tells need stood. let b = begins tells need in stands (call.cuts.cuts.told tells) (finishes tells need (call.ends tells b.needs)).needs (call.stands tells b.needs stood);
        }

  -- ---- the ends of a call

  module _ {S T D E : Type 0} {before : Errors D} {errors : Errors E} {old new : View N nor} {first : Step S} {whole : Step T} where
    -- a fault is passed on
    pub fails_as : {e : D} {why : E} → Stepped before old new (Err e) first → (why ≡ errors.fault → e ≡ before.fault) → (e ≡ before.fault → why ≡ errors.fault) → errors.means why →
        (nor.tells old.nor.now → whole.needs old.geometry (nor.bytes old.nor.now) → Begins old.geometry (nor.bytes old.nor.now) first whole) → Stepped errors old new (Err why) whole
    fails_as {e} {why} call back on means begins = record {
      framed = call.framed;
      cause = λ is. let same : why ≡ errors.fault = cc in call.cause (ap_err (back same));
      means = means;
      cuts = starts call begins;
      ends = λ tells need. on (call.ends tells (begins tells need).needs);
      upkeep = starts_upkeep call begins;
      worn = λ tells need. tt;
      stands = λ tells need stood. tt;
    }
      where
        ap_err : {x y : D} → x ≡ y → ◌≡◌ {A = Result S D} (Err x) (Err y)
        ap_err h = rw h refl

    -- what is done is done
    pub ends_as : {x : S} {y : T} → Stepped before old new (Ok x) first → (nor.tells old.nor.now → whole.needs old.geometry (nor.bytes old.nor.now) → Begins old.geometry (nor.bytes old.nor.now) first whole) →
        (nor.tells old.nor.now → whole.needs old.geometry (nor.bytes old.nor.now) → first.done old.geometry (nor.bytes old.nor.now) (nor.bytes new.nor.now) x → whole.done old.geometry (nor.bytes old.nor.now) (nor.bytes new.nor.now) y) →
        Stepped errors old new (Ok y) whole
    ends_as call begins ends = record {
      framed = call.framed;
      cause = λ is. absurd (cc);
      means = tt;
      cuts = starts call begins;
      ends = λ tells need. ends tells need (call.ends tells (begins tells need).needs);
      upkeep = starts_upkeep call begins;
      worn = λ tells need. call.worn tells (begins tells need).needs;
      stands = λ tells need stood. call.stands tells (begins tells need).needs stood;
    }

  -- a step on the same view as a weaker one
  pub weaker : {T E : Type 0} {errors : Errors E} {old new : View N nor} {r : Result T E} {last whole : Step T} → Stepped errors old new r last →
      (nor.tells old.nor.now → whole.needs old.geometry (nor.bytes old.nor.now) → Finishes old.geometry (nor.bytes old.nor.now) (nor.bytes old.nor.now) last whole) → Stepped errors old new r whole
  weaker {errors = errors} {r = r} call law = record {
    framed = call.framed;
    cause = call.cause;
    means = call.means;
    cuts = wider call.cuts (λ tells image cut need. let l = law tells need in l.cut image (cut l.needs));
    ends = λ tells need. let l = law tells need in on_ok r errors.fault _ _ (λ x done. l.done _ x done) (call.ends tells l.needs);
    upkeep = wider call.upkeep (λ tells image kept need. kept (law tells need).needs);
    worn = λ tells need. call.worn tells (law tells need).needs;
    stands = λ tells need stood. call.stands tells (law tells need).needs stood;
  }

  -- programs
  pub acted : {old new : View N nor} {r : Result (Unit {0}) Failed} (U : Geometry → List ℕ → Type 0) (R D : Geometry → List ℕ → List ℕ → Type 0) → IsSameView old new → new.wrote ≡ true →
      OnErr r (Rose (nor.faults old.nor.now) (nor.faults new.nor.now)) → Changes nor old.nor.now new.nor.now (R old.geometry) →
      (nor.tells old.nor.now → OnOk r (D old.geometry (nor.bytes old.nor.now) (nor.bytes new.nor.now))) →
      (U old.geometry (nor.bytes old.nor.now) → nor.tells old.nor.now → old.counted ≡ true → OnOk r (new.counted ≡ true)) → Stepped failed old new r (acting U R D)
  acted {new = new} {r = r} U R D same wrote cause changes done stands = record {
    framed = framed_wrote same wrote;
    cause = λ e. caused r e cause;
    means = fault_means r;
    cuts = wider changes (λ tells image cut need. cut);
    ends = λ tells need. ended r _ (done tells);
    upkeep = wider changes (λ tells image here need. need.1 image here);
    worn = λ tells need. on_ok_weaker r (need.2 (nor.bytes new.nor.now)) (done tells);
    stands = λ tells need stood. stands need.0 tells stood;
  }
    where
      caused : (r : Result (Unit {0}) Failed) {P : Type 0} → IsErrOf r failed.fault → OnErr r P → P
      caused (Ok x) e h = absurd (cc)
      caused (Err why) e h = h

      ended : (r : Result (Unit {0}) Failed) (P : Type 0) → OnOk r P → MatchResult r (λ x. P) (λ why. why ≡ failed.fault)
      ended (Ok x) P h = h
      ended (Err why) P h = one_fault why

  pub made : {old new : View N nor} {r : Result (Unit {0}) Failed} (U : Geometry → List ℕ → Type 0) (R : Geometry → List ℕ → List ℕ → Type 0) (make : Geometry → List ℕ → List ℕ) → IsSameView old new → new.wrote ≡ true →
      OnErr r (Rose (nor.faults old.nor.now) (nor.faults new.nor.now)) → Changes nor old.nor.now new.nor.now (R old.geometry) →
      (nor.tells old.nor.now → OnOk r (nor.bytes new.nor.now ≡ make old.geometry (nor.bytes old.nor.now))) →
      (U old.geometry (nor.bytes old.nor.now) → nor.tells old.nor.now → old.counted ≡ true → OnOk r (new.counted ≡ true)) → Stepped failed old new r (making U R make)
  made U R make = acted U R (λ g was now. now ≡ make g was)

  -- the exit of a `?` on a fault of the device
  pub fails : {S T : Type 0} {old new : View N nor} {e : Failed} {r : Result T Failed} {first : Step S} {whole : Step T} → Stepped failed old new (Err e) first → IsErr r →
      (nor.tells old.nor.now → whole.needs old.geometry (nor.bytes old.nor.now) → Begins old.geometry (nor.bytes old.nor.now) first whole) → Stepped failed old new r whole
  fails {T = T} {old = old} {new = new} {r = r} {whole = whole} call is begins =
      let fault : Result T Failed = Err failed.fault in
      let failing : Stepped {nor = nor} failed old new fault whole = fails_as call (λ same. refl) (λ same. refl) tt begins in
      subst (λ (x : Result T Failed). Stepped {nor = nor} failed old new x whole) (is_fault r is) failing
    where
      is_fault : {T : Type 0} (r : Result T Failed) → IsErr r → Err failed.fault ≡ r
      is_fault (Ok x) is = absurd (cc)
      is_fault (Err why) is = refl

  -- the exit of a `?` on a fault in a look
  pub look_fails : {T : Type 0} {old new : View N nor} {r : Result T Failed} {step : Step T} → OnlyLooks old new → Rose (nor.faults old.nor.now) (nor.faults new.nor.now) → IsErr r →
      (nor.tells old.nor.now → step.needs old.geometry (nor.bytes old.nor.now) → step.cut old.geometry (nor.bytes old.nor.now) (nor.bytes old.nor.now)) → Stepped failed old new r step
  look_fails {old = old} {r = r} {step = step} looks rose is law = looked looks (λ e. rose) (fault_means r) (λ tells need. (law tells need, is_fault r (step.done old.geometry (nor.bytes old.nor.now) (nor.bytes old.nor.now)) is))
    where
      is_fault : {T : Type 0} (r : Result T Failed) (P : T → Type 0) → IsErr r → MatchResult r P (λ why. why ≡ failed.fault)
      is_fault (Ok x) P is = absurd (cc)
      is_fault (Err why) P is = refl

  -- an arm of a `match` that gives a fault of the device as another error, and one that ends as the call did
  pub fault_as : {T E : Type 0} {errors : Errors E} {old new : View N nor} {e : Failed} {step : Step T} → Stepped failed old new (Err e) step → Stepped errors old new (Err errors.fault) step
  fault_as {errors = errors} call = fails_as call (λ same. refl) (λ same. refl) errors.told (λ tells need. record { needs = need; cut = λ c cut. cut })

  pub done_as : {T E : Type 0} {errors : Errors E} {old new : View N nor} {x : T} {step : Step T} → Stepped failed old new (Ok x) step → Stepped errors old new (Ok x) step
  done_as call = ends_as call (λ tells need. record { needs = need; cut = λ c cut. cut }) (λ tells need done. done)

  -- the exit of a `?` that gives a fault of the device as another error: after a step, and after a look
  pub fault_passes : {T E : Type 0} {errors : Errors E} {old new : View N nor} {e : Failed} {r : Result T E} {step : Step T} → Stepped failed old new (Err e) step → IsErr r → IsErrAnd r (λ why. why ≡ errors.fault) → Stepped errors old new r step
  fault_passes {T = T} {E = E} {errors = errors} {old = old} {new = new} {r = r} {step = step} call is same =
      let failing : Stepped {nor = nor} errors old new (Err errors.fault) step = fault_as call in
      subst (λ (x : Result T E). Stepped {nor = nor} errors old new x step) (fault_is r errors.fault is same) failing

  pub look_faults : {T E : Type 0} {errors : Errors E} {old new : View N nor} {r : Result T E} {step : Step T} → OnlyLooks old new → Rose (nor.faults old.nor.now) (nor.faults new.nor.now) → IsErr r → IsErrAnd r (λ why. why ≡ errors.fault) →
      (nor.tells old.nor.now → step.needs old.geometry (nor.bytes old.nor.now) → step.cut old.geometry (nor.bytes old.nor.now) (nor.bytes old.nor.now)) → Stepped errors old new r step
  look_faults {T = T} {E = E} {errors = errors} {old = old} {new = new} {r = r} {step = step} looks rose is same law =
      let failing : Stepped {nor = nor} errors old new (Err errors.fault) step = looked looks (λ e. rose) errors.told (λ tells need. (law tells need, refl)) in
      subst (λ (x : Result T E). Stepped {nor = nor} errors old new x step) (fault_is r errors.fault is same) failing

  -- the exit of a `?` on any error
  pub passes : {S T E : Type 0} {errors : Errors E} {e : E} {old new : View N nor} {r : Result T E} {first : Step S} {whole : Step T} → Stepped errors old new (Err e) first → r ≡ Err e →
      (nor.tells old.nor.now → whole.needs old.geometry (nor.bytes old.nor.now) → Begins old.geometry (nor.bytes old.nor.now) first whole) → Stepped errors old new r whole
  passes {T = T} {E = E} {errors = errors} {e = e} {old = old} {new = new} {whole = whole} call is begins =
      let same : Result T E = Err e in
      let failing : Stepped {nor = nor} errors old new same whole = fails_as call (λ k. k) (λ k. k) call.means begins in
      subst (λ (x : Result T E). Stepped {nor = nor} errors old new x whole) (sym is) failing

  -- the device still holds an image after a call
  pub image_after : {T E : Type 0} {errors : Errors E} {old new : View N nor} {r : Result T E} {step : Step T} → ((d : N) → nor.tells d → length (nor.bytes d) ≡ nor.size d) → Stepped errors old new r step →
      nor.tells old.nor.now → IsImage old.geometry (nor.bytes new.nor.now)
  image_after {new = new} sized call tells =
      subst (λ (k : Geometry). IsImage k (nor.bytes new.nor.now)) call.framed.same.geometry (view_image new (sized new.nor.now) (call.cuts.cuts.told tells))

-- what a call that took its step leaves where it is done, and its error
pub if_done : {E : Type 0} (r : Result (Unit {0}) E) (fault : E) (P : Type 0) → MatchResult r (λ x. P) (λ why. why ≡ fault) → OnOk r P
if_done (Ok x) fault P h = h
if_done (Err why) fault P h = tt

pub if_fails : {T E : Type 0} (r : Result T E) (fault : E) (P : T → Type 0) → MatchResult r P (λ why. why ≡ fault) → IfErr r (λ why. why ≡ fault)
if_fails (Ok x) fault P h = tt
if_fails (Err why) fault P h = h
