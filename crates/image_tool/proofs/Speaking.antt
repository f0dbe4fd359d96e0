-- How saying goes on from line to line.
use Rattle.std.proofs.Common.{◌≡◌, ℕ, List, [], ◌++◌, length, take, drop, ap, refl, sym, ◌∙◌, arith, subst, append_assoc, append-nil, length-append, Result, Ok, Err}
use Rattle.std.specs.Prelude.{OnErr}
use Rattle.std.proofs.lemmas.List.{take-append-drop}
use Rattle.nor_core.specs.declared.state.NorState.{Ghosts as NorOf}
use Rattle.nor_core.specs.Device.{OnlyReads, Leaves, Says, InSay}
use Rattle.nor_core.proofs.Cuts.{andthen, widened, read_on}
use Rattle.image_tool.specs.Saying.{OnlySays, SaysFront}

-- these bytes were said of a text, and this is what it goes on with
pub record Ahead (first now text next : List ℕ) : Type 0 where
  pub part : List ℕ
  pub tail : List ℕ
  pub said : now ≡ first ++ part
  pub text_is : text ≡ part ++ (next ++ tail)

-- a fact is one on an error
pub on_err : {A E P : Type 0} (r : Result A E) → P → OnErr r P
on_err (Ok value) here = tt {0}
on_err (Err why) here = here

module _ {D : Type 0} {nor : NorOf D} where
  -- one piece
  pub says_one : {old new : D} {text : List ℕ} → Says nor old new text → Leaves nor old new (InSay nor old text) → OnlySays nor old new text
  says_one says leaves = record { bytes = says.bytes; writes = says.writes; cuts = widened leaves (λ image count here tells. here) }

  pub front_one : {old new : D} {text : List ℕ} → Says nor old new text → SaysFront nor old new text
  front_one {old} {new} {text} says = record { part = take says.said.0 text; rest = drop says.said.0 text; said = says.said.1; whole_is = sym (take-append-drop says.said.0 text) }

  -- reads say nothing
  pub says_none : {old new : D} (text : List ℕ) → OnlyReads nor old new → OnlySays nor old new text
  says_none text reads = record { bytes = reads.bytes; writes = reads.writes; cuts = read_on _ reads }

  pub front_none : {old new : D} (text : List ℕ) → OnlyReads nor old new → SaysFront nor old new text
  front_none {old} {new} text reads = record { part = []; rest = text; said = reads.said ∙ sym (append-nil (nor.said old)); whole_is = refl }

  -- the same text, otherwise written
  pub says_same : {old new : D} (a b : List ℕ) → (nor.tells old → a ≡ b) → OnlySays nor old new a → OnlySays nor old new b
  says_same {old} {new} a b same h = record { bytes = h.bytes; writes = h.writes; cuts = widened h.cuts (λ image count here tells. subst (λ (t : List ℕ). InSay nor old t image count) (same tells) (here tells)) }

  -- saying after reads
  pub says_after : {old mid new : D} {text : List ℕ} → OnlyReads nor old mid → OnlySays nor mid new text → OnlySays nor old new text
  says_after {old} {mid} {new} {text} reads h = record {
    bytes = h.bytes ∙ reads.bytes;
    writes = h.writes ∙ reads.writes;
    cuts = andthen (read_on _ reads) (widened h.cuts (λ image count here tells.
        let i = here (reads.told tells) in
        let e = ap length reads.said in
        record { all_bytes = λ told. i.all_bytes (reads.told told) ∙ reads.bytes; least = omega (arith, e, i.least); most = omega (arith, e, i.most) }));
  }

  -- reads after saying
  pub says_read : {old mid new : D} {text : List ℕ} → OnlySays nor old mid text → OnlyReads nor mid new → OnlySays nor old new text
  says_read h reads = record { bytes = reads.bytes ∙ h.bytes; writes = reads.writes ∙ h.writes; cuts = andthen h.cuts (read_on _ reads) }

  pub front_after : {old mid new : D} {text : List ℕ} → OnlyReads nor old mid → SaysFront nor mid new text → SaysFront nor old new text
  front_after {old} {mid} {new} {text} reads f = record { part = f.part; rest = f.rest; said = f.said ∙ ap (λ (l : List ℕ). l ++ f.part) reads.said; whole_is = f.whole_is }

  -- a front of a text is one of a longer text
  pub says_wider : {old new : D} {text : List ℕ} (tail : List ℕ) → OnlySays nor old new text → OnlySays nor old new (text ++ tail)
  says_wider {old} {new} {text} tail h = record {
    bytes = h.bytes;
    writes = h.writes;
    cuts = widened h.cuts (λ image count here tells.
        let i = here tells in
        record { all_bytes = i.all_bytes; least = i.least; most = omega (arith, i.most, length-append text tail) });
  }

  pub front_wider : {old new : D} {text : List ℕ} (tail : List ℕ) → SaysFront nor old new text → SaysFront nor old new (text ++ tail)
  front_wider {old} {new} {text} tail f = record { part = f.part; rest = f.rest ++ tail; said = f.said; whole_is = ap (λ (l : List ℕ). l ++ tail) f.whole_is ∙ append_assoc f.part f.rest tail }

  -- what a text goes on with is said
  pub says_more : {old mid new : D} {text next : List ℕ} → OnlySays nor old mid text → OnlySays nor mid new next → (nor.tells old → Ahead (nor.said old) (nor.said mid) text next) → OnlySays nor old new text
  says_more {old} {mid} {new} {text} {next} first second ahead = record {
    bytes = second.bytes ∙ first.bytes;
    writes = second.writes ∙ first.writes;
    cuts = andthen first.cuts (widened second.cuts (λ image count here tells.
        let i = here (first.cuts.told tells) in
        let a = ahead tells in
        let e = ap length a.said ∙ length-append (nor.said old) a.part in
        let t = ap length a.text_is ∙ length-append a.part (next ++ a.tail) in
        let u = length-append next a.tail in
        record { all_bytes = λ told. i.all_bytes (first.cuts.told told) ∙ first.bytes; least = omega (arith, e, i.least); most = omega (arith, e, t, u, i.most) }));
  }

  pub front_more : {old mid new : D} {text next : List ℕ} → Ahead (nor.said old) (nor.said mid) text next → SaysFront nor mid new next → SaysFront nor old new text
  front_more {old} {mid} {new} {text} {next} a f = record {
    part = a.part ++ f.part;
    rest = f.rest ++ a.tail;
    said = f.said ∙ ap (λ (l : List ℕ). l ++ f.part) a.said ∙ append_assoc (nor.said old) a.part f.part;
    whole_is = a.text_is ∙ ap (λ (l : List ℕ). a.part ++ (l ++ a.tail)) f.whole_is ∙ ap (λ (l : List ℕ). a.part ++ l) (append_assoc f.part f.rest a.tail) ∙ sym (append_assoc a.part f.part (f.rest ++ a.tail));
  }

  -- a further text behind one that was said whole
  pub says_behind : {old mid new : D} (text more : List ℕ) → OnlySays nor old mid text → (nor.tells old → nor.said mid ≡ nor.said old ++ text) → OnlySays nor mid new more → OnlySays nor old new (text ++ more)
  says_behind text more first said second = says_more (says_wider more first) second (λ tells. record { part = text; tail = []; said = said tells; text_is = ap (λ (l : List ℕ). text ++ l) (sym (append-nil more)) })
