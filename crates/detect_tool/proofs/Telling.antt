-- How the lines of candidates are said one after the other.
use Rattle.std.proofs.Common.{◌≡◌, ℕ, suc, ◌+◌, ◌<◌, ◌≤◌, List, [], ◌∷◌, ◌++◌, length, take, drop, HoldsAt, Option, Some, None, Result, Ok, Err, refl, sym, ap, ◌∙◌, subst, arith, append_assoc, append-nil}
use Rattle.std.specs.List.{flat_map}
use Rattle.std.proofs.lemmas.Grind.{flat_map-append}
use Rattle.std.proofs.lemmas.List.{take-append-drop, drop_more, take_more, take_all}
use Rattle.std.proofs.lemmas.List.Concat.{flat_map-cons}
use Rattle.std.proofs.lemmas.List.Sorted.{length_permutation}
use Rattle.std.specs.Prelude.{OnOk}
use Rattle.nor_core.specs.declared.device.Failed.{Failed}
use Rattle.nor_core.specs.Device.{Leaves, Says, InSay}
use Rattle.nor_core.specs.declared.state.NorState.{Ghosts as NorOf}
use Rattle.nor_core.proofs.Cuts.{reads_none}
use Rattle.image_tool.specs.Saying.{OnlySays, SaysFront}
use Rattle.image_tool.proofs.Speaking.{Ahead, says_none, says_one, says_more, front_one, front_more, on_err}
use Rattle.volume_rank.specs.declared.found.Found.{Found}
use Rattle.volume_rank.specs.Order.{FirstBehind}
use Rattle.detect_tool.specs.Lines.{found_line, found_lines}
use Rattle.detect_tool.specs.Ranked.{IsRanking}
use Rattle.detect_tool.specs.Detecting.{SaysAll}
use Rattle.detect_tool.proofs.Ranking.{After, next_is, none_is}

-- The lines of the first n were said, and this is the last of them.
pub record Said {D : Type 0} (nor : NorOf D) (list : List Found) (n : ℕ) (last : Option Found) (old mid : D) : Type 0 where
  pub says : OnlySays nor old mid (found_lines list)
  pub place : nor.tells old → nor.said mid ≡ nor.said old ++ found_lines (take n list)
  pub after : After list n last

-- the lines of a list, at its number n
lines_at : (list : List Found) (n : ℕ) (f : Found) → n < length list → HoldsAt (λ x. x ≡ f) list n → found_lines list ≡ found_lines (take n list) ++ (found_line f ++ found_lines (drop (n + 1) list))
unfolding found_lines
lines_at list n f low at =
    ap (flat_map found_line) (sym (take-append-drop n list))
    ∙ flat_map-append found_line (take n list) (drop n list)
    ∙ ap (λ (l : List Found). flat_map found_line (take n list) ++ flat_map found_line l) (drop_more list n f low ∙ ap (λ (x : Found). x ∷ drop (n + 1) list) (at f))
    ∙ ap (λ (l : List ℕ). flat_map found_line (take n list) ++ l) (flat_map-cons found_line f (drop (n + 1) list))

-- and those of one more
lines_more : (list : List Found) (n : ℕ) (f : Found) → n < length list → HoldsAt (λ x. x ≡ f) list n → found_lines (take (n + 1) list) ≡ found_lines (take n list) ++ found_line f
unfolding found_lines
lines_more list n f low at =
    ap (flat_map found_line) (take_more list n f low ∙ ap (λ (x : Found). take n list ++ x ∷ []) (at f))
    ∙ flat_map-append found_line (take n list) (f ∷ [])
    ∙ ap (λ (l : List ℕ). flat_map found_line (take n list) ++ l) (flat_map-cons found_line f [] ∙ append-nil (found_line f))

no_lines : found_lines [] ≡ []
unfolding found_lines
no_lines = refl

-- number n is the one before the next
after_more : (list : List Found) (n : ℕ) (f : Found) → HoldsAt (λ x. x ≡ f) list n → After list (n + 1) (Some f)
after_more list n f at = let e : suc n ≡ n + 1 = omega arith in subst (λ (k : ℕ). After list k (Some f)) e (f, refl, at)

-- nothing yet
pub said_none : {D : Type 0} {nor : NorOf D} (list : List Found) (d : D) → Said nor list 0 None d d
said_none {D} {nor} list d = record {
  says = says_none _ (reads_none d);
  place = λ tells. sym (append-nil (nor.said d)) ∙ ap (λ (l : List ℕ). nor.said d ++ l) (sym no_lines);
  after = refl;
}

module _ (found list : List Found) (r : IsRanking found list) where
  few : (n : ℕ) → n ≤ length found → n ≤ length list
  few n low = omega (arith, low, length_permutation found list r.same)

module _ {D : Type 0} {nor : NorOf D} (found list : List Found) (r : IsRanking found list) where
  -- what comes next
  ahead : {old mid : D} (n : ℕ) (last : Option Found) (f : Found) → n < length found → Said nor list n last old mid → FirstBehind found last (Some f) → HoldsAt (λ x. x ≡ f) list n × (nor.tells old → Ahead (nor.said old) (nor.said mid) (found_lines list) (found_line f))
  ahead n last f low was first =
      let here = next_is found list r n last f (few found list r n (omega (arith, low))) was.after first in (
        here.1,
        λ tells. record {
          part = found_lines (take n list);
          tail = found_lines (drop (n + 1) list);
          said = was.place tells;
          text_is = lines_at list n f here.0 here.1;
        },
      )

  -- one more
  pub said_next : {old mid new : D} (n : ℕ) (last : Option Found) (f : Found) → n < length found → Said nor list n last old mid → FirstBehind found last (Some f) →
      OnlySays nor mid new (found_line f) → (nor.tells mid → nor.said new ≡ nor.said mid ++ found_line f) → Said nor list (n + 1) (Some f) old new
  said_next {old} {mid} {new} n last f low was first says whole =
      let next = ahead n last f low was first in
      record {
        says = says_more was.says says next.1;
        place = λ tells. whole (was.says.cuts.told tells) ∙ ap (λ (l : List ℕ). l ++ found_line f) (was.place tells) ∙ append_assoc (nor.said old) (found_lines (take n list)) (found_line f)
            ∙ ap (λ (l : List ℕ). nor.said old ++ l) (sym (lines_more list n f (omega (arith, low, length_permutation found list r.same)) next.0));
        after = after_more list n f next.0;
      }

  -- the board failed in it
  pub said_broken : {old mid new : D} (n : ℕ) (last : Option Found) (f : Found) (why : Failed) → n < length found → Said nor list n last old mid → FirstBehind found last (Some f) →
      OnlySays nor mid new (found_line f) → SaysFront nor mid new (found_line f) → SaysAll nor old new (found_lines list) (Err why)
  said_broken n last f why low was first says front =
      let next = ahead n last f low was first in
      record { says = says_more was.says says next.1; whole = λ tells. tt; front = λ tells. front_more (next.1 tells) front }

  -- there is always one more
  pub not_done : {old mid : D} (n : ℕ) (last : Option Found) → n < length found → Said nor list n last old mid → FirstBehind found last None → ⊥
  not_done n last low was none = none_is found list r n last was.after none (omega (arith, low, length_permutation found list r.same))

  -- all
  pub said_all : {old mid : D} (n : ℕ) (last : Option Found) → n ≡ length found → Said nor list n last old mid → SaysAll nor old mid (found_lines list) (Ok tt)
  said_all {old} {mid} n last all was = record {
    says = was.says;
    whole = λ tells. was.place tells ∙ ap (λ (l : List Found). nor.said old ++ found_lines l) (take_all n list (omega (arith, all, length_permutation found list r.same)));
    front = λ tells. tt;
  }

-- a line that is said at once
pub said_line : {D : Type 0} {nor : NorOf D} {old new : D} (text : List ℕ) (result : Result (Unit {0}) Failed) → Says nor old new text → Leaves nor old new (InSay nor old text) → (nor.tells old → OnOk result (nor.said new ≡ nor.said old ++ text)) → SaysAll nor old new text result
said_line text result says cuts done = record { says = says_one says cuts; whole = done; front = λ tells. on_err result (front_one says) }
