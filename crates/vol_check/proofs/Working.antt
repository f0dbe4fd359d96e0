-- Works of the check, one after the other.
use Rattle.std.proofs.Common.{◌≡◌, ℕ, List, true, refl, sym, ◌∙◌, arith, subst, Result, Ok, Err, MatchResult, IsErr}
use Rattle.std.proofs.lemmas.Result.{on_ok_weaker}
use Rattle.geometry.specs.declared.geometry.Geometry.{Geometry}
use Rattle.nor_core.specs.declared.device.Failed.{Failed}
use Rattle.nor_core.specs.declared.state.NorState.{Ghosts as NorOf}
use Rattle.nor_core.specs.Count.{Rose}
use Rattle.nor_core.specs.Device.{OnlyReads, Changes}
use Rattle.nor_core.proofs.Cuts.{wider, read_after, reads_then, after_reads, unchanged}
use Rattle.image_model.specs.Sound.{HasMagics}
use Rattle.trim_laws.specs.Wear.{Worn}
use Rattle.trim_laws.proofs.Wears.{upkeep_none}
use Rattle.flash_view.specs.declared.view.View.{View}
use Rattle.flash_view.specs.Same.{OnlyLooks, OnlyCounts}
use Rattle.flash_view.proofs.Looking.{looks_counts}
use Rattle.flash_view.specs.Steps.{Step, Stepped, failed}
use Rattle.flash_view.proofs.Stepped.{looked, look_fails, after_look, stepped_then, ends_as, fails, framed_then, framed_counts}
use Rattle.vol_check.specs.Works.{Work, Worked, StageCut}
use Rattle.vol_check.proofs.Passing.{stage_none, stage_on}

-- A part of a work that began on image a can begin on image b, and has nothing to do where the whole has nothing to do.
pub record Goes {S T : Type 0} (g : Geometry) (a b : List ℕ) (part : Work S) (whole : Work T) : Type 0 where
  pub needs : part.needs g b
  pub idle : whole.idle g a → part.idle g a

-- what holds of a view before it was only read holds of it after
moved : (P : Geometry → List ℕ → Type 0) {g h : Geometry} {a b : List ℕ} → h ≡ g → b ≡ a → P g a → P h b
moved P {g} {h} {a} {b} e f p = subst (λ (k : Geometry). P k b) (sym e) (subst (λ (l : List ℕ). P g l) (sym f) p)

-- the step of a work that ended with k and left image b, told as y, and of one that gave a fault
abbrev ended : {S T : Type 0} → Work S → S → T → List ℕ → Step T
ended work k y b = record { needs = λ g was. HasMagics g was × work.needs g was; cut = StageCut; done = λ g was now z. (now ≡ b) × (z ≡ y) × StageCut g was now × work.done g was now k }

abbrev faulty : {S T : Type 0} → Work S → Step T
faulty work = record { needs = λ g was. HasMagics g was × work.needs g was; cut = StageCut; done = λ g was now z. ⊥ }

-- no work
abbrev nothing : Work (Unit {0})
nothing = record { needs = λ g was. Unit {0}; done = λ g was now ok. Unit {0}; idle = λ g was. Unit {0} }

-- what holds of the image that a view begins on, where its bytes are told and the work can begin on it
abbrev pub On : {N T : Type 0} {nor : NorOf N} → View N nor → Work T → (Geometry → List ℕ → Type 0) → Type 0
On {nor = nor} v work P = nor.tells v.nor.now → HasMagics v.geometry (nor.bytes v.nor.now) → work.needs v.geometry (nor.bytes v.nor.now) → P v.geometry (nor.bytes v.nor.now)

module _ {N : Type 0} {nor : NorOf N} where
  -- ---- with looks

  module _ {T : Type 0} {old new : View N nor} {whole : Work T} where
    -- a look alone
    pub look_works : {y : T} → OnlyLooks old new → On old whole (λ g a. whole.done g a a y) → Worked old new (Ok y) whole
    look_works looks law = record {
      step = looked looks (λ e. absurd (cc)) tt (λ tells need. (stage_none _ _ need.0, law tells need.0 need.1));
      idle = λ tells magics need quiet. looks.reads;
    }

    -- a fault in a look
    pub look_stops : {r : Result T Failed} → OnlyLooks old new → Rose (nor.faults old.nor.now) (nor.faults new.nor.now) → IsErr r → Worked old new r whole
    look_stops looks rose is = record { step = look_fails looks rose is (λ tells need. stage_none _ _ need.0); idle = λ tells magics need quiet. looks.reads }

  module _ {T : Type 0} {old mid new : View N nor} {r : Result T Failed} {work : Work T} where
    -- a work after a look
    pub works_on : OnlyLooks old mid → Worked mid new r work → Worked old new r work
    works_on looks call = record {
      step = after_look looks call.step (λ tells need. record { needs = need; cut = λ c k. k; done = λ c x d. d });
      idle = λ tells magics need quiet.
          let geo = looks.same.geometry in
          let bytes = looks.reads.bytes in
          reads_then looks.reads (call.idle (looks.reads.told tells) (moved HasMagics geo bytes magics) (moved work.needs geo bytes need) (moved work.idle geo bytes quiet));
    }

    -- reads after a work, over which the table of counts stands still
    pub works_counted : Worked old mid r work → OnlyCounts mid new → (mid.counted ≡ true → new.counted ≡ true) → Worked old new r work
    works_counted call counts still = record {
      step = record {
        framed = framed_then call.step.framed (framed_counts counts);
        cause = λ e. let rose = call.step.cause e in let more = counts.same.faults in omega arith;
        means = call.step.means;
        cuts = read_after call.step.cuts counts.reads;
        upkeep = read_after call.step.upkeep counts.reads;
        worn = λ tells need. on_ok_weaker r (subst (λ (b : List ℕ). Worn old.geometry (nor.bytes old.nor.now) b) (sym counts.reads.bytes)) (call.step.worn tells need);
        stands = λ tells need stood. on_ok_weaker r still (call.step.stands tells need stood);
        ends = λ tells need. subst (λ (b : List ℕ). MatchResult r (work.done old.geometry (nor.bytes old.nor.now) b) (λ why. why ≡ failed.fault)) (sym counts.reads.bytes) (call.step.ends tells need);
      };
      idle = λ tells magics need quiet. reads_then (call.idle tells magics need quiet) counts.reads;
    }

    pub works_read : Worked old mid r work → OnlyLooks mid new → Worked old new r work
    works_read call looks = works_counted call (looks_counts looks) (λ stood. looks.counted ∙ stood)

  -- ---- as part of another

  module _ {S T : Type 0} {old new : View N nor} {first : Work S} {whole : Work T} where
    pub stops : {e : Failed} {r : Result T Failed} → Worked old new (Err e) first → IsErr r →
        On old whole (λ g a. Goes g a a first whole) → Worked old new r whole
    stops call is start = record {
      step = fails call.step is (λ tells need. record { needs = (need.0, (start tells need.0 need.1).needs); cut = λ c k. k });
      idle = λ tells magics need quiet. let s = start tells magics need in call.idle tells magics s.needs (s.idle quiet);
    }

    pub works_as : {x : S} {y : T} → Worked old new (Ok x) first →
        On old whole (λ g a. Goes g a a first whole) →
        On old whole (λ g a. StageCut g a (nor.bytes new.nor.now) → first.done g a (nor.bytes new.nor.now) x → whole.done g a (nor.bytes new.nor.now) y) → Worked old new (Ok y) whole
    works_as call start law = record {
      step = ends_as call.step (λ tells need. record { needs = (need.0, (start tells need.0 need.1).needs); cut = λ c k. k })
          (λ tells need done. law tells need.0 need.1 (call.step.cuts.now tells (need.0, (start tells need.0 need.1).needs)) done);
      idle = λ tells magics need quiet. let s = start tells magics need in call.idle tells magics s.needs (s.idle quiet);
    }

  module _ {R S T : Type 0} {old mid new : View N nor} {x : R} {first : Work R} {last : Work S} {whole : Work T} where
    idle_then : {q : Result S Failed} → Worked old mid (Ok x) first → Worked mid new q last →
        On old whole (λ g a. Goes g a a first whole) →
        On old whole (λ g a. first.done g a (nor.bytes mid.nor.now) x → Goes g a (nor.bytes mid.nor.now) last whole) →
        On old whole (λ g a. whole.idle g a → OnlyReads nor old.nor.now new.nor.now)
    idle_then call next start go tells magics need quiet =
        let s = start tells magics need in
        let reads = call.idle tells magics s.needs (s.idle quiet) in
        let f = go tells magics need (call.step.ends tells (magics, s.needs)) in
        let geo = call.step.framed.same.geometry in
        reads_then reads (next.idle (reads.told tells) (moved HasMagics geo reads.bytes magics) (subst (λ (k : Geometry). last.needs k (nor.bytes mid.nor.now)) (sym geo) f.needs) (moved last.idle geo reads.bytes (f.idle quiet)))

    -- a fault in a work after another
    pub works_stop : {e : Failed} {r : Result T Failed} → Worked old mid (Ok x) first → Worked mid new (Err e) last → IsErr r →
        On old whole (λ g a. Goes g a a first whole) →
        On old whole (λ g a. first.done g a (nor.bytes mid.nor.now) x → Goes g a (nor.bytes mid.nor.now) last whole) → Worked old new r whole
    works_stop {r = r} call next is start go =
        let fault : Stepped {nor = nor} failed mid new r (faulty last) = fails next.step is (λ tells need. record { needs = need; cut = λ c k. k }) in
        record {
          step = stepped_then call.step fault (λ tells need. record { needs = (need.0, (start tells need.0 need.1).needs); cut = λ c k. k }) (λ tells need done.
              let kept = call.step.cuts.now tells (need.0, (start tells need.0 need.1).needs) in
              record { needs = (kept.keeps.keeps.sound.magics, (go tells need.0 need.1 done).needs); cut = λ c k. stage_on _ _ _ _ kept k; done = λ c z d. absurd (d) });
          idle = idle_then call next start go;
        }

    -- a work after another
    pub works_end : {k : S} {y : T} → Worked old mid (Ok x) first → Worked mid new (Ok k) last →
        On old whole (λ g a. Goes g a a first whole) →
        On old whole (λ g a. first.done g a (nor.bytes mid.nor.now) x → Goes g a (nor.bytes mid.nor.now) last whole) →
        On old whole (λ g a. first.done g a (nor.bytes mid.nor.now) x → StageCut g a (nor.bytes new.nor.now) → last.done g (nor.bytes mid.nor.now) (nor.bytes new.nor.now) k → whole.done g a (nor.bytes new.nor.now) y) → Worked old new (Ok y) whole
    works_end {k} {y} call next start go law =
        let now = nor.bytes new.nor.now in
        let told : Stepped {nor = nor} failed mid new (Ok y) (ended last k y now) = ends_as next.step (λ tells need. record { needs = need; cut = λ c k. k }) (λ tells need done. (refl, refl, next.step.cuts.now tells need, done)) in
        record {
          step = stepped_then call.step told (λ tells need. record { needs = (need.0, (start tells need.0 need.1).needs); cut = λ c k. k }) (λ tells need done.
              let kept = call.step.cuts.now tells (need.0, (start tells need.0 need.1).needs) in
              record {
                needs = (kept.keeps.keeps.sound.magics, (go tells need.0 need.1 done).needs);
                cut = λ c k. stage_on _ _ _ _ kept k;
                done = λ c z d. rw (d.0, d.1) (law tells need.0 need.1 done (stage_on _ _ _ _ kept (subst (λ (l : List ℕ). StageCut old.geometry (nor.bytes mid.nor.now) l) d.0 d.2))
                    (subst (λ (l : List ℕ). last.done old.geometry (nor.bytes mid.nor.now) l k) d.0 d.3));
              });
          idle = idle_then call next start go;
        }

  -- a fault in a look after a work
  module _ {S T : Type 0} {old mid new : View N nor} {x : S} {first : Work S} {whole : Work T} where
    pub read_stops : {r : Result T Failed} → Worked old mid (Ok x) first → OnlyLooks mid new → Rose (nor.faults mid.nor.now) (nor.faults new.nor.now) → IsErr r → On old whole (λ g a. Goes g a a first whole) → Worked old new r whole
    read_stops call looks rose is start =
        let fault : Worked {nor = nor} mid new (Err failed.fault) nothing = look_stops looks rose refl in
        works_stop call fault is start (λ tells magics need done. record { needs = tt; idle = λ quiet. tt })

  -- a fault while blocks are counted after a work
  module _ {S T : Type 0} {old mid new : View N nor} {x : S} {first : Work S} {whole : Work T} where
    pub counts_stop : {r : Result T Failed} → Worked old mid (Ok x) first → OnlyCounts mid new → Rose (nor.faults mid.nor.now) (nor.faults new.nor.now) → IsErr r → On old whole (λ g a. Goes g a a first whole) → Worked old new r whole
    counts_stop call counts rose is start =
        let fault : Worked {nor = nor} mid new (Err failed.fault) nothing = record {
          step = record {
            framed = framed_counts counts;
            cause = λ e. rose;
            means = tt;
            cuts = after_reads counts.reads (unchanged new.nor.now _ (λ tells need. stage_none _ _ need.0));
            upkeep = after_reads counts.reads (unchanged new.nor.now _ (λ tells need. upkeep_none mid.geometry _));
            worn = λ tells need. tt;
            stands = λ tells need stood. tt;
            ends = λ tells need. refl;
          };
          idle = λ tells magics need quiet. counts.reads;
        } in
        works_stop call fault is start (λ tells magics need done. record { needs = tt; idle = λ quiet. tt })

  -- a look after a work, and what it tells
  module _ {S T : Type 0} {old mid new : View N nor} {x : S} {y : T} {first : Work S} {whole : Work T} where
    pub works_seen : (P : Geometry → List ℕ → Type 0) → Worked old mid (Ok x) first → OnlyLooks mid new → (nor.tells mid.nor.now → P mid.geometry (nor.bytes mid.nor.now)) →
        On old whole (λ g a. Goes g a a first whole) →
        On old whole (λ g a. P g (nor.bytes new.nor.now) → first.done g a (nor.bytes new.nor.now) x → whole.done g a (nor.bytes new.nor.now) y) → Worked old new (Ok y) whole
    works_seen P call looks told start law = works_as (works_read call looks) start (λ tells magics need kept done.
        law tells magics need (moved P (sym call.step.framed.same.geometry) looks.reads.bytes (told (call.step.cuts.cuts.told tells))) done)

  -- ---- what a work leaves

  -- at most one block lacks its magic
  pub work_magics : {T : Type 0} {old new : View N nor} {r : Result T Failed} {work : Work T} → Worked old new r work → (nor.tells old.nor.now → HasMagics old.geometry (nor.bytes old.nor.now)) → (nor.tells old.nor.now → work.needs old.geometry (nor.bytes old.nor.now)) →
      nor.tells new.nor.now → HasMagics new.geometry (nor.bytes new.nor.now)
  work_magics {new = new} call magics need tells =
      let before = call.step.cuts.cuts.told_before tells in
      subst (λ (k : Geometry). HasMagics k (nor.bytes new.nor.now)) (sym call.step.framed.same.geometry) (call.step.cuts.now before (magics before, need before)).keeps.keeps.sound.magics

  -- each image that a cut in it may leave keeps the first one, with the uses of its pages
  pub work_changes : {T : Type 0} {old new : View N nor} {r : Result T Failed} {work : Work T} → Worked old new r work → (nor.tells old.nor.now → HasMagics old.geometry (nor.bytes old.nor.now)) →
      (nor.tells old.nor.now → work.needs old.geometry (nor.bytes old.nor.now)) → Changes nor old.nor.now new.nor.now (StageCut old.geometry)
  work_changes call magics need = wider call.step.cuts (λ tells image cut. cut (magics tells, need tells))
