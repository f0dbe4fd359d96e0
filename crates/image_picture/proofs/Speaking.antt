-- How drawing goes on from piece to piece.
use Rattle.std.proofs.Common.{◌≡◌, ℕ, ◌+◌, ◌≤◌, List, [], ◌++◌, length, take, ap, refl, sym, ◌∙◌, ◌<◌, ⊎_elim, arith, subst, append_assoc, append-nil, length-append, Result, Ok, Err}
use Rattle.std.specs.Prelude.{OnOk, OnErr}
use Rattle.std.proofs.Math.Seq.{take-append-add, take-append_seam}
use Rattle.std.proofs.lemmas.List.{take-append-le, take_all}
use Rattle.std.proofs.lemmas.Bool.{cases_lt}
use Rattle.nor_core.specs.declared.state.NorState.{Ghosts as NorOf}
use Rattle.nor_core.specs.Count.{Rose}
use Rattle.nor_core.specs.Device.{OnlyReads, Leaves, Says, InSay}
use Rattle.nor_core.proofs.Cuts.{andthen, widened, read_on, started}
use Rattle.image_picture.specs.Drawing.{Drawn, Stopped}

-- a fact is one on an error
pub on_err : {A E P : Type 0} (r : Result A E) → P → OnErr r P
on_err (Ok value) here = tt {0}
on_err (Err why) here = here

-- a front of the second of two texts is one of both, and so is one of the first
front_then : (text more : List ℕ) (n : ℕ) → take (length text + n) (text ++ more) ≡ text ++ take n more
front_then text more n = take-append-add text more n

front_first : (text more : List ℕ) (n : ℕ) → (m : ℕ) × (take n text ≡ take m (text ++ more))
front_first text more n =
    ⊎_elim
    (λ (low : n < length text). let least : n ≤ length text = omega arith in (n, sym (take-append-le n text more least)))
    (λ (high : length text ≤ n). (length text, take_all n text high ∙ sym (take-append_seam text more)))
    (cases_lt n (length text))

module _ {D : Type 0} {nor : NorOf D} where
  -- nothing is said
  pub drawn_none : (d : D) → Drawn nor d d []
  drawn_none d = record { bytes = refl; writes = refl; cuts = started d _; said = λ tells. sym (append-nil (nor.said d)) }

  -- one piece
  pub drawn_piece : {old new : D} {piece : List ℕ} → Says nor old new piece → Leaves nor old new (InSay nor old piece) → (nor.tells old → nor.said new ≡ nor.said old ++ piece) → Drawn nor old new piece
  drawn_piece says leaves whole = record { bytes = says.bytes; writes = says.writes; cuts = widened leaves (λ image count here tells. here); said = whole }

  pub stopped_piece : {old new : D} {piece : List ℕ} → Says nor old new piece → Leaves nor old new (InSay nor old piece) → Rose (nor.faults old) (nor.faults new) → Stopped nor old new piece
  stopped_piece says leaves rose = record { bytes = says.bytes; writes = says.writes; cuts = widened leaves (λ image count here tells. here); fault = rose; said = λ tells. says.said }

  pub said_whole : {A E : Type 0} {old new : D} {piece : List ℕ} (r : Result A E) → Says nor old new piece → Leaves nor old new (InSay nor old piece) → (nor.tells old → OnOk r (nor.said new ≡ nor.said old ++ piece)) → OnOk r (Drawn nor old new piece)
  said_whole (Ok value) says leaves whole = drawn_piece says leaves whole
  said_whole (Err why) says leaves whole = tt {0}

  pub said_front : {A E : Type 0} {old new : D} {piece : List ℕ} (r : Result A E) → Says nor old new piece → Leaves nor old new (InSay nor old piece) → OnErr r (Rose (nor.faults old) (nor.faults new)) → OnErr r (Stopped nor old new piece)
  said_front (Ok value) says leaves rose = tt {0}
  said_front (Err why) says leaves rose = stopped_piece says leaves rose

  -- the same text, otherwise written
  same_cuts : {old new : D} (a b : List ℕ) → (nor.tells old → a ≡ b) → Leaves nor old new (λ image count. nor.tells old → InSay nor old a image count) → Leaves nor old new (λ image count. nor.tells old → InSay nor old b image count)
  same_cuts {old} {new} a b same cuts = widened cuts (λ image count here tells. subst (λ (t : List ℕ). InSay nor old t image count) (same tells) (here tells))

  pub drawn_same : {old new : D} (a b : List ℕ) → (nor.tells old → a ≡ b) → Drawn nor old new a → Drawn nor old new b
  drawn_same {old} {new} a b same h = record { bytes = h.bytes; writes = h.writes; cuts = same_cuts a b same h.cuts; said = λ tells. h.said tells ∙ ap (λ (t : List ℕ). nor.said old ++ t) (same tells) }

  pub stopped_same : {old new : D} (a b : List ℕ) → (nor.tells old → a ≡ b) → Stopped nor old new a → Stopped nor old new b
  stopped_same {old} {new} a b same h = record { bytes = h.bytes; writes = h.writes; cuts = same_cuts a b same h.cuts; fault = h.fault; said = λ tells. let s = h.said tells in (s.0, s.1 ∙ ap (λ (t : List ℕ). nor.said old ++ take s.0 t) (same tells)) }

  -- a read that failed
  pub stopped_read : {old new : D} (text : List ℕ) → OnlyReads nor old new → Rose (nor.faults old) (nor.faults new) → Stopped nor old new text
  stopped_read {old} {new} text reads rose = record { bytes = reads.bytes; writes = reads.writes; cuts = read_on _ reads; fault = rose; said = λ tells. (0, reads.said ∙ sym (append-nil (nor.said old))) }

  -- after reads
  cuts_after : {old mid new : D} (text : List ℕ) → OnlyReads nor old mid → Leaves nor mid new (λ image count. nor.tells mid → InSay nor mid text image count) → Leaves nor old new (λ image count. nor.tells old → InSay nor old text image count)
  cuts_after {old} {mid} {new} text reads cuts = andthen (read_on _ reads) (widened cuts (λ image count here tells.
      let i = here (reads.told tells) in
      let e = ap length reads.said in
      record { all_bytes = λ told. i.all_bytes (reads.told told) ∙ reads.bytes; least = omega (arith, e, i.least); most = omega (arith, e, i.most) }))

  pub drawn_after : {old mid new : D} {text : List ℕ} → OnlyReads nor old mid → Drawn nor mid new text → Drawn nor old new text
  drawn_after {old} {mid} {new} {text} reads h = record { bytes = h.bytes ∙ reads.bytes; writes = h.writes ∙ reads.writes; cuts = cuts_after text reads h.cuts; said = λ tells. h.said (reads.told tells) ∙ ap (λ (l : List ℕ). l ++ text) reads.said }

  pub stopped_after : {old mid new : D} {text : List ℕ} → OnlyReads nor old mid → Stopped nor mid new text → Stopped nor old new text
  stopped_after {old} {mid} {new} {text} reads h = record { bytes = h.bytes ∙ reads.bytes; writes = h.writes ∙ reads.writes; cuts = cuts_after text reads h.cuts; fault = omega (arith, reads.faults, h.fault); said = λ tells. let s = h.said (reads.told tells) in (s.0, s.1 ∙ ap (λ (l : List ℕ). l ++ take s.0 text) reads.said) }

  -- a cut in a text is one in a longer text
  wider_cuts : {old new : D} (text tail : List ℕ) → Leaves nor old new (λ image count. nor.tells old → InSay nor old text image count) → Leaves nor old new (λ image count. nor.tells old → InSay nor old (text ++ tail) image count)
  wider_cuts {old} {new} text tail cuts = widened cuts (λ image count here tells.
      let i = here tells in
      record { all_bytes = i.all_bytes; least = i.least; most = omega (arith, i.most, length-append text tail) })

  -- a text behind another one that was said whole
  cuts_then : {old mid new : D} (text more : List ℕ) → Drawn nor old mid text → Leaves nor mid new (λ image count. nor.tells mid → InSay nor mid more image count) → Leaves nor old new (λ image count. nor.tells old → InSay nor old (text ++ more) image count)
  cuts_then {old} {mid} {new} text more first cuts = andthen (wider_cuts text more first.cuts) (widened cuts (λ image count here tells.
      let i = here (first.cuts.told tells) in
      let e = ap length (first.said tells) ∙ length-append (nor.said old) text in
      record { all_bytes = λ told. i.all_bytes (first.cuts.told told) ∙ first.bytes; least = omega (arith, e, i.least); most = omega (arith, e, i.most, length-append text more) }))

  pub drawn_then : {old mid new : D} {text more : List ℕ} → Drawn nor old mid text → Drawn nor mid new more → Drawn nor old new (text ++ more)
  drawn_then {old} {mid} {new} {text} {more} first second = record {
    bytes = second.bytes ∙ first.bytes;
    writes = second.writes ∙ first.writes;
    cuts = cuts_then text more first second.cuts;
    said = λ tells. second.said (first.cuts.told tells) ∙ ap (λ (l : List ℕ). l ++ more) (first.said tells) ∙ append_assoc (nor.said old) text more;
  }

  pub stopped_then : {old mid new : D} {text more : List ℕ} → Drawn nor old mid text → Stopped nor mid new more → Stopped nor old new (text ++ more)
  stopped_then {old} {mid} {new} {text} {more} first second = record {
    bytes = second.bytes ∙ first.bytes;
    writes = second.writes ∙ first.writes;
    cuts = cuts_then text more first second.cuts;
    fault = omega (arith, first.cuts.faults, second.fault);
    said = λ tells.
        let s = second.said (first.cuts.told tells) in
        (length text + s.0, s.1 ∙ ap (λ (l : List ℕ). l ++ take s.0 more) (first.said tells) ∙ append_assoc (nor.said old) text (take s.0 more) ∙ ap (λ (l : List ℕ). nor.said old ++ l) (sym (front_then text more s.0)));
  }

  pub stopped_first : {old new : D} {text : List ℕ} (more : List ℕ) → Stopped nor old new text → Stopped nor old new (text ++ more)
  stopped_first {old} {new} {text} more h = record {
    bytes = h.bytes;
    writes = h.writes;
    cuts = wider_cuts text more h.cuts;
    fault = h.fault;
    said = λ tells.
        let s = h.said tells in
        let f = front_first text more s.0 in
        (f.0, s.1 ∙ ap (λ (l : List ℕ). nor.said old ++ l) f.1);
  }
