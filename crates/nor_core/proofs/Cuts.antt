-- How what a cut may leave goes on from call to call.
use Rattle.std.proofs.Common.{ℕ, ◌⊎◌, length, inl, inr, ⊎_elim, List, refl, sym, ◌∙◌, ap, subst, arith}
use Rattle.nor_core.specs.Device.{NorOf, OnlyReads, Leaves, Changes, Stands}

module _ {D : Type 0} {nor : NorOf D} where
  -- one call after another
  pub andthen : {old mid new : D} {P : List ℕ → ℕ → Type 0} → Leaves nor old mid P → Leaves nor mid new P → Leaves nor old new P
  andthen first second = record {
    size = second.size ∙ first.size;
    unit = second.unit ∙ first.unit;
    lent = second.lent ∙ first.lent;
    told = λ tells. second.told (first.told tells);
    told_before = λ tells. first.told_before (second.told_before tells);
    moment = omega (arith, first.moment, second.moment);
    faults = omega (arith, first.faults, second.faults);
    reads = omega (arith, first.reads, second.reads);
    writes = omega (arith, first.writes, second.writes);
    cuts = λ t image count le left. ⊎_elim (first.cuts t image count le) (λ here. inr here) (second.cuts t image count (omega (arith, le, first.moment)) left);
    kept = λ t image count le left. second.kept t image count (omega (arith, le, first.moment)) (first.kept t image count le left);
  }

  -- what has P has Q
  pub widened : {old new : D} {P Q : List ℕ → ℕ → Type 0} → Leaves nor old new P → ((image : List ℕ) (count : ℕ) → P image count → Q image count) → Leaves nor old new Q
  widened done wider = record {
    size = done.size;
    unit = done.unit;
    lent = done.lent;
    told = done.told;
    told_before = done.told_before;
    moment = done.moment;
    faults = done.faults;
    reads = done.reads;
    writes = done.writes;
    cuts = λ t image count le left. ⊎_elim (λ before. inl before) (λ here. inr (wider image count here)) (done.cuts t image count le left);
    kept = done.kept;
  }

  -- a call that only reads leaves nothing else
  pub read_on : {old new : D} (P : List ℕ → ℕ → Type 0) → OnlyReads nor old new → Leaves nor old new P
  read_on P done = record {
    size = done.size;
    unit = done.unit;
    lent = done.lent;
    told = done.told;
    told_before = done.told_before;
    faults = done.faults;
    reads = done.reads;
    moment = omega (arith, done.moment);
    writes = omega (arith, done.writes);
    cuts = λ t image count le left. inl (done.cuts t image count left);
    kept = λ t image count le left. done.kept t image count left;
  }

  -- where nothing was called nothing more may be left
  pub started : (d : D) (P : List ℕ → ℕ → Type 0) → Leaves nor d d P
  started d P = record {
    size = refl;
    unit = refl;
    lent = refl;
    told = λ tells. tells;
    told_before = λ tells. tells;
    moment = omega arith;
    faults = omega arith;
    reads = omega arith;
    writes = omega arith;
    cuts = λ t image count le left. inl left;
    kept = λ t image count le left. left;
  }

  -- a cut since the beginning
  pub since : {old new : D} {P : List ℕ → ℕ → Type 0} → Leaves nor old new P → ((image : List ℕ) (count : ℕ) → nor.left_since old (nor.moment old) image count → Stands nor old image count) → (image : List ℕ) (count : ℕ) → nor.left_since new (nor.moment old) image count → Stands nor old image count ⊎ P image count
  since {old} done only_now image count left = ⊎_elim (λ before. inl (only_now image count before)) (λ here. inr here) (done.cuts (nor.moment old) image count (omega arith) left)

  -- what has R has S
  pub wider : {old new : D} {R S : List ℕ → List ℕ → Type 0} → Changes nor old new R → (nor.tells old → (image : List ℕ) → R (nor.bytes old) image → S (nor.bytes old) image) → Changes nor old new S
  wider done wide = record {
    cuts = widened done.cuts (λ image count here. (here.0, λ tells. wide tells image (here.1 tells)));
    said = done.said;
    now = λ tells. wide tells _ (done.now tells);
  }

  -- a change after another: each image that the second may leave has R, since what stood between had it
  pub go_on : {old mid new : D} {R S : List ℕ → List ℕ → Type 0} → Changes nor old mid R → Changes nor mid new S → (nor.tells old → (image : List ℕ) → R (nor.bytes old) (nor.bytes mid) → S (nor.bytes mid) image → R (nor.bytes old) image) → Changes nor old new R
  go_on first second step = record {
    cuts = andthen first.cuts (widened second.cuts (λ image count here. (here.0 ∙ ap length first.said, λ tells. step tells image (first.now tells) (here.1 (first.cuts.told tells)))));
    said = second.said ∙ first.said;
    now = λ tells. step tells _ (first.now tells) (second.now (first.cuts.told tells));
  }

  -- two changes by one relation that passes on
  pub both : {old mid new : D} {R : List ℕ → List ℕ → Type 0} → ((a b c : List ℕ) → R a b → R b c → R a c) → Changes nor old mid R → Changes nor mid new R → Changes nor old new R
  both passes first second = go_on first second (λ tells image before after. passes _ _ _ before after)

  -- where nothing was called a relation that holds of what stands is kept
  pub unchanged : (d : D) (R : List ℕ → List ℕ → Type 0) → (nor.tells d → R (nor.bytes d) (nor.bytes d)) → Changes nor d d R
  unchanged d R here = record { cuts = started d _; said = refl; now = here }

  -- a read after a change
  pub read_after : {old mid new : D} {R : List ℕ → List ℕ → Type 0} → Changes nor old mid R → OnlyReads nor mid new → Changes nor old new R
  read_after {old} {mid} {new} {R} first second = record {
    cuts = andthen first.cuts (read_on _ second);
    said = second.said ∙ first.said;
    now = λ tells. subst (R (nor.bytes old)) (sym second.bytes) (first.now tells);
  }

  -- a change after reads
  pub after_reads : {old mid new : D} {R : List ℕ → List ℕ → Type 0} → OnlyReads nor old mid → Changes nor mid new R → Changes nor old new R
  after_reads {old} {mid} {new} {R} first second = record {
    cuts = andthen (read_on _ first) (widened second.cuts (λ image count here. (here.0 ∙ ap length first.said, λ tells. subst (λ (l : List ℕ). R l image) first.bytes (here.1 (first.told tells)))));
    said = second.said ∙ first.said;
    now = λ tells. subst (λ (l : List ℕ). R l (nor.bytes new)) first.bytes (second.now (first.told tells));
  }

  -- reads after reads
  pub reads_then : {old mid new : D} → OnlyReads nor old mid → OnlyReads nor mid new → OnlyReads nor old new
  reads_then first second = record {
    size = second.size ∙ first.size;
    unit = second.unit ∙ first.unit;
    lent = second.lent ∙ first.lent;
    bytes = second.bytes ∙ first.bytes;
    said = second.said ∙ first.said;
    moment = second.moment ∙ first.moment;
    writes = second.writes ∙ first.writes;
    told = λ tells. second.told (first.told tells);
    told_before = λ tells. first.told_before (second.told_before tells);
    faults = omega (arith, first.faults, second.faults);
    reads = omega (arith, first.reads, second.reads);
    cuts = λ t image count left. first.cuts t image count (second.cuts t image count left);
    kept = λ t image count left. second.kept t image count (first.kept t image count left);
  }

  -- no read
  pub reads_none : (d : D) → OnlyReads nor d d
  reads_none d = record {
    size = refl;
    unit = refl;
    lent = refl;
    told = λ tells. tells;
    told_before = λ tells. tells;
    bytes = refl;
    said = refl;
    moment = refl;
    faults = omega arith;
    reads = omega arith;
    writes = refl;
    cuts = λ t image count left. left;
    kept = λ t image count left. left;
  }
