-- Places in a run of a script: behind a reply, and what may stand there.
use Rattle.std.proofs.Common.{◌≡◌, ℕ, ◌+◌, ◌-◌, ◌<◌, List, [], ◌∷◌, ◌++◌, length, drop, slice_range, refl, sym, ◌∙◌, ap, subst, arith, append_assoc, append-nil, length-append, Bool, true, false, Option, Some, None, inl, inr}
use Rattle.std.proofs.Math.Seq.{drop-append_seam}
use Rattle.std.proofs.lemmas.List.{drop-drop, drop_all, drop-append-le, length-drop, take_all}
use Rattle.geometry.specs.declared.geometry.Geometry.{Geometry}
use Rattle.table_model.specs.Ask.{Ask}
use Rattle.table_model.specs.Window.{Moment, after}
use Rattle.call_script.specs.Lines.{lines, calls, calls_of}
use Rattle.run_model.specs.Runs.{RunCall, IsCorner, IsFair, AreFair, asks_of, after_all, said_of, replies}
use Rattle.run_model.proofs.Runs.{said_some, plain_fair, fair-append, asks-append, replies-append, after_all-append}
use Rattle.trace_laws.specs.Standing.{call_of, line_of, IsUnanswered}
use Rattle.plain_table.specs.Moments.{moment_of, geometry_of}
use Rattle.plain_table.specs.declared.moment.PlainMoment.{PlainMoment}
use Rattle.flash_trace.specs.declared.case.Case.{Case}
use Rattle.flash_trace.specs.declared.spot.Place.{Place}
use Rattle.flash_trace.specs.declared.ways.Way.{Way}
use Rattle.flash_trace.specs.declared.ways.Ways.{Ways}
use Rattle.flash_trace.specs.declared.ways.Ahead.{Ahead}
use Rattle.flash_trace.specs.declared.ways.Ahead.TheVariants.{End, Bad, Call}
use Rattle.flash_trace.specs.Good.{first_bad}
use Rattle.flash_trace.specs.Ways.{IsWay, IsTightWay, AreWays, IsAhead, IsOneOf, IsQuiet, NotBegun}
use Rattle.flash_trace.specs.Places.{IsFound, IsPlace, IsSettled, begins, part_of}

-- a way in which a call may be answered, as a run answers it
pub record IsAnswer (g : Geometry) (m : Moment) (ask : Ask) (way : Way) : Type 0 where
  pub spare : Bool
  pub fair : IsFair g m (call_of ask spare)
  pub way_is : IsWay g m ask spare way

pub answer_of : (g : Geometry) (m : Moment) (ask : Ask) (ways : Ways) (way : Way) → AreWays g m ask ways → IsOneOf way (Call ways) → IsAnswer g m ask way
answer_of g m ask ways way are (inl is) = record { spare = true; fair = plain_fair g m ask; way_is = subst (IsWay g m ask true) (sym is) are.plain }
answer_of g m ask ways way are (inr is) =
    let w : IsCorner g m.state ask × IsWay g m ask false way = subst (IsTightWay g m ask) is are.tight in
    record { spare = false; fair = λ e. w.0; way_is = w.1 }

not_tight : (g : Geometry) (m : Moment) (ask : Ask) (o : Option Way) (part more : List ℕ) → IsTightWay g m ask o → NotBegun part o → IsCorner g m.state ask → part ≡ line_of g m ask false ++ more → ⊥
not_tight g m ask None part more tight quiet corner is = tight corner
not_tight g m ask (Some way) part more tight quiet corner is = quiet more (is ∙ ap (λ (l : List ℕ). l ++ more) (sym tight.1.line))

-- no whole reply to the next call was said
pub unanswered : (g : Geometry) (m : Moment) (ask : Ask) (ways : Ways) (part : List ℕ) → AreWays g m ask ways → IsQuiet part (Call ways) → IsUnanswered g m ask part
unanswered g m ask ways part are quiet true fair more is = quiet.0 more (is ∙ ap (λ (l : List ℕ). l ++ more) (sym are.plain.line))
unanswered g m ask ways part are quiet false fair more is = not_tight g m ask ways.tight part more are.tight quiet.1 (fair refl) is

one_fair : (g : Geometry) (m : Moment) (call : RunCall) → IsFair g m call → AreFair g m (call ∷ [])
unfolding AreFair
one_fair g m call fair = (fair, tt {0})

one_reply : (g : Geometry) (m : Moment) (call : RunCall) → replies g m (call ∷ []) ≡ said_of g m call
unfolding replies
one_reply g m call = append-nil (said_of g m call)

one_after : (g : Geometry) (m : Moment) (ask : Ask) (spare : Bool) → after_all g m (call_of ask spare ∷ []) ≡ after g spare m ask
unfolding after_all
one_after g m ask spare = refl

-- behind a reply that was said whole
pub place_on : (g : Geometry) (m : Moment) (script : List ℕ) (was now : Place) (ways : Ways) (way : Way) (more : List ℕ) → IsPlace g m script was → was.ahead ≡ Call ways → IsOneOf way (Call ways) → part_of was ≡ way.line.items ++ more → now.moment ≡ way.next → now.said.items ≡ was.said.items → now.heard ≡ was.heard + length way.line.items
    → now.replies ≡ was.replies + 1 → IsFound g (moment_of way.next) script (calls_of (lines (drop was.at script))) (first_bad was.line (lines (drop was.at script))) now.ahead now.at now.line → IsPlace g m script now
place_on g m script was now ways way more p ahead_is one part_is moment_is said_is heard_is replies_is found =
    let here : Moment = moment_of was.moment in
    let rest : List Ask = calls_of (lines (drop was.at script)) in
    let ahead : IsAhead g here p.asks (first_bad 1 (lines script)) rest (first_bad was.line (lines (drop was.at script))) (Call ways) = subst (IsAhead g here p.asks (first_bad 1 (lines script)) rest (first_bad was.line (lines (drop was.at script)))) ahead_is p.found.is in
    let ask : Ask = ahead.0 in
    let a : IsAnswer g here ask way = answer_of g here ask ways way ahead.3 one in
    let call : RunCall = call_of ask a.spare in
    let then : Moment = after_all g m p.done in
    let fair_call : AreFair g then (call ∷ []) = subst (λ (j : Moment). AreFair g j (call ∷ [])) p.moment_is (one_fair g here call a.fair) in
    let reply : replies g then (call ∷ []) ≡ way.line.items = ap (λ (j : Moment). replies g j (call ∷ [])) (sym p.moment_is) ∙ one_reply g here call ∙ sym a.way_is.line in
    let part_now : part_of now ≡ more =
    ap (λ (l : List ℕ). drop now.heard l) said_is ∙ ap (λ (n : ℕ). drop n was.said.items) heard_is ∙ sym (drop-drop (length way.line.items) was.heard was.said.items) ∙ ap (drop (length way.line.items)) part_is ∙ drop-append_seam way.line.items more in
    let next_is : moment_of now.moment ≡ moment_of way.next = ap moment_of moment_is in
    record {
      done = p.done ++ call ∷ [];
      asks = rest;
      fair = fair-append g m p.done (call ∷ []) p.fair fair_call;
      asks_are = p.asks_are ∙ ap (λ (l : List Ask). asks_of p.done ++ l) ahead.1 ∙ sym (append_assoc (asks_of p.done) (ask ∷ []) rest) ∙ ap (λ (l : List Ask). l ++ rest) (sym (asks-append p.done (call ∷ [])));
      said_is = said_is ∙ p.said_is ∙ ap (λ (l : List ℕ). replies g m p.done ++ l) (part_is ∙ ap (λ (l : List ℕ). l ++ more) (sym reply)) ∙ sym (append_assoc (replies g m p.done) (replies g then (call ∷ [])) more)
          ∙ ap (λ (l : List ℕ). l ++ more) (sym (replies-append g m p.done (call ∷ []))) ∙ ap (λ (l : List ℕ). replies g m (p.done ++ call ∷ []) ++ l) (sym part_now);
      moment_is = next_is ∙ a.way_is.next ∙ ap (λ (j : Moment). after g a.spare j ask) p.moment_is ∙ sym (one_after g then ask a.spare) ∙ sym (after_all-append g m p.done (call ∷ []));
      geometry_is = ap geometry_of moment_is ∙ a.way_is.geometry;
      count = replies_is ∙ ap (λ (n : ℕ). n + 1) p.count ∙ sym (length-append p.done (call ∷ []));
      found = record {
        is = subst (λ (j : Moment). IsAhead g j rest (first_bad 1 (lines script)) (calls_of (lines (drop now.at script))) (first_bad now.line (lines (drop now.at script))) now.ahead) (sym next_is)
            (subst (λ (b : Option ℕ). IsAhead g (moment_of way.next) rest b (calls_of (lines (drop now.at script))) (first_bad now.line (lines (drop now.at script))) now.ahead) (sym ahead.2) found.is);
        within = found.within;
        few = found.few;
      };
    }

-- the bytes from a place on
pub range_end : (n : ℕ) (l : List ℕ) → slice_range l n (length l) ≡ drop n l
range_end n l = take_all (length l - n) (drop n l) (omega (arith, length-drop n l))

drop_none : (n : ℕ) (l : List ℕ) → l ≡ [] → drop n l ≡ []
drop_none n l e = drop_all n l (omega (arith, ap length e))

-- before the first call nothing was said
pub place_first : (g : Geometry) (m : Moment) (script : List ℕ) (now : Place) → moment_of now.moment ≡ m → geometry_of now.moment ≡ g → now.said.items ≡ [] → now.replies ≡ 0
    → IsFound g (moment_of now.moment) script (calls script) (first_bad 1 (lines script)) now.ahead now.at now.line → IsPlace g m script now
unfolding AreFair replies after_all
place_first g m script now moment_is geometry_is none count found = record {
  done = [];
  asks = calls script;
  fair = tt {0};
  asks_are = refl;
  said_is = none ∙ sym (drop_none now.heard now.said.items none);
  moment_is = moment_is;
  geometry_is = geometry_is;
  count = count;
  found = found;
}

not_empty : (way : Way) (line : List ℕ) → way.line.items ≡ line → 0 < length line → (more : List ℕ) → [] ≡ way.line.items ++ more → ⊥
not_empty way line is some more e = let n : 0 ≡ length (way.line.items ++ more) = ap length e in absurd (omega (arith, n, length-append way.line.items more, ap length is, some))

quiet_tight : (g : Geometry) (m : Moment) (ask : Ask) (o : Option Way) → IsTightWay g m ask o → NotBegun [] o
quiet_tight g m ask None tight = tt {0}
quiet_tight g m ask (Some way) tight = not_empty way (line_of g m ask false) tight.1.line (said_some g m (call_of ask false))

-- no bytes hold no reply
pub quiet_none : (g : Geometry) (m : Moment) (asks rest : List Ask) (bad later : Option ℕ) (a : Ahead) → IsAhead g m asks bad rest later a → IsQuiet [] a
quiet_none g m asks rest bad later End is = tt {0}
quiet_none g m asks rest bad later (Bad number) is = tt {0}
quiet_none g m asks rest bad later (Call ways) is = (not_empty ways.plain (line_of g m is.0 true) is.3.plain.line (said_some g m (call_of is.0 true)), quiet_tight g m is.0 ways.tight is.3.tight)

-- more was said
pub place_said : (g : Geometry) (m : Moment) (script : List ℕ) (was now : Place) (piece : List ℕ) → IsPlace g m script was → now.moment ≡ was.moment → now.ahead ≡ was.ahead → now.at ≡ was.at → now.line ≡ was.line → now.replies ≡ was.replies → now.heard ≡ was.heard
    → now.said.items ≡ was.said.items ++ piece → IsPlace g m script now
place_said g m script was now piece p moment_is ahead_is at_is line_is replies_is heard_is said_is =
    let part_now : part_of now ≡ part_of was ++ piece = ap (λ (n : ℕ). drop n now.said.items) heard_is ∙ ap (drop was.heard) said_is ∙ drop-append-le was.heard was.said.items piece was.within in
    record {
      done = p.done;
      asks = p.asks;
      fair = p.fair;
      asks_are = p.asks_are;
      said_is = said_is ∙ ap (λ (l : List ℕ). l ++ piece) p.said_is ∙ append_assoc (replies g m p.done) (part_of was) piece ∙ ap (λ (l : List ℕ). replies g m p.done ++ l) (sym part_now);
      moment_is = ap moment_of moment_is ∙ p.moment_is;
      geometry_is = ap geometry_of moment_is ∙ p.geometry_is;
      count = replies_is ∙ p.count;
      found = subst (λ (q : PlainMoment). IsFound g (moment_of q) script p.asks (first_bad 1 (lines script)) now.ahead now.at now.line) (sym moment_is)
          (subst (λ (a : Ahead). IsFound g (moment_of was.moment) script p.asks (first_bad 1 (lines script)) a now.at now.line) (sym ahead_is)
          (subst (λ (n : ℕ). IsFound g (moment_of was.moment) script p.asks (first_bad 1 (lines script)) was.ahead n now.line) (sym at_is)
          (subst (λ (n : ℕ). IsFound g (moment_of was.moment) script p.asks (first_bad 1 (lines script)) was.ahead was.at n) (sym line_is) p.found)));
    }

reply_by : (g : Geometry) (m : Moment) (asks rest : List Ask) (bad later : Option ℕ) (a : Ahead) (way : Way) → IsAhead g m asks bad rest later a → IsOneOf way a → (ask : Ask) × IsAnswer g m ask way
reply_by g m asks rest bad later End way is one = absurd one
reply_by g m asks rest bad later (Bad number) way is one = absurd one
reply_by g m asks rest bad later (Call ways) way is one = (is.0, answer_of g m is.0 ways way is.3 one)

-- what is heard at a place is an answer to its next call
reply_at : (g : Geometry) (m : Moment) (script : List ℕ) (was : Place) (way : Way) → IsPlace g m script was → IsOneOf way was.ahead → (ask : Ask) × IsAnswer g (moment_of was.moment) ask way
reply_at g m script was way p one = reply_by g (moment_of was.moment) p.asks (calls_of (lines (drop was.at script))) (first_bad 1 (lines script)) (first_bad was.line (lines (drop was.at script))) was.ahead way p.found.is one

-- it isn't empty
pub line_some : (g : Geometry) (m : Moment) (script : List ℕ) (was : Place) (way : Way) → IsPlace g m script was → IsOneOf way was.ahead → 0 < length way.line.items
line_some g m script was way p one =
    let r = reply_at g m script was way p one in
    subst (λ (l : List ℕ). 0 < length l) (sym r.1.way_is.line) (said_some g (moment_of was.moment) (call_of r.0 r.1.spare))

module _ (g : Geometry) (m : Moment) (script : List ℕ) (was now : Place) (way : Way) (more : List ℕ) (p : IsPlace g m script was) (part_is : part_of was ≡ way.line.items ++ more)
    (moment_is : now.moment ≡ way.next) (said_is : now.said.items ≡ was.said.items) (heard_is : now.heard ≡ was.heard + length way.line.items) (replies_is : now.replies ≡ was.replies + 1)
    (found : IsFound g (moment_of way.next) script (calls_of (lines (drop was.at script))) (first_bad was.line (lines (drop was.at script))) now.ahead now.at now.line) where
  heard_by : (a : Ahead) → was.ahead ≡ a → IsOneOf way a → IsPlace g m script now
  heard_by End is one = absurd one
  heard_by (Bad number) is one = absurd one
  heard_by (Call ways) is one = place_on g m script was now ways way more p is one part_is moment_is said_is heard_is replies_is found

  -- behind a reply that was heard
  pub place_heard : IsOneOf way was.ahead → IsPlace g m script now
  place_heard one = heard_by was.ahead refl one

-- and what is found behind it is that of the volume
pub place_turned : (g : Geometry) (m : Moment) (script : List ℕ) (was now : Place) (way : Way) (more : List ℕ) → IsPlace g m script was → IsOneOf way was.ahead → part_of was ≡ way.line.items ++ more → now.moment ≡ way.next → now.said.items ≡ was.said.items → now.heard ≡ was.heard + length way.line.items
    → now.replies ≡ was.replies + 1 → IsFound (geometry_of way.next) (moment_of way.next) script (calls_of (lines (drop was.at script))) (first_bad was.line (lines (drop was.at script))) now.ahead now.at now.line → IsPlace g m script now
place_turned g m script was now way more p one part_is moment_is said_is heard_is replies_is found =
    let r = reply_at g m script was way p one in
    place_heard g m script was now way more p part_is moment_is said_is heard_is replies_is
    (subst (λ (j : Geometry). IsFound j (moment_of way.next) script (calls_of (lines (drop was.at script))) (first_bad was.line (lines (drop was.at script))) now.ahead now.at now.line) r.1.way_is.geometry found) one

-- Before the first call, with nothing said, no whole reply stands.
pub settled_first : (case : Case) (now : Place) → moment_of now.moment ≡ begins case → geometry_of now.moment ≡ case.g.now → now.said.items ≡ [] → now.replies ≡ 0
    → IsFound (geometry_of now.moment) (moment_of now.moment) case.script.now (calls_of (lines (drop 0 case.script.now))) (first_bad 1 (lines (drop 0 case.script.now))) now.ahead now.at now.line → IsSettled case now
settled_first case now moment_is geometry_is none count found =
    let script : List ℕ = case.script.now in
    let here : IsFound case.g.now (moment_of now.moment) script (calls script) (first_bad 1 (lines script)) now.ahead now.at now.line =
    subst (λ (j : Geometry). IsFound j (moment_of now.moment) script (calls script) (first_bad 1 (lines script)) now.ahead now.at now.line) geometry_is found in
    record {
      at = place_first case.g.now (begins case) script now moment_is geometry_is none count here;
      quiet = subst (λ (l : List ℕ). IsQuiet l now.ahead) (sym (drop_none now.heard now.said.items none))
          (quiet_none case.g.now (moment_of now.moment) (calls script) (calls_of (lines (drop now.at script))) (first_bad 1 (lines script)) (first_bad now.line (lines (drop now.at script))) now.ahead here.is);
    }
