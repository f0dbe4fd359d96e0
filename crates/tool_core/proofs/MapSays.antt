-- The lines of a map, one after the other.
use Rattle.std.proofs.Common.{◌≡◌, ◌≢◌, ℕ, zero, suc, ◌+◌, ◌<◌, ◌≤◌, ◌⊎◌, List, [], ◌++◌, refl, sym, ◌∙◌, ap, subst, arith, inl, inr, ⊎_elim, append-nil, append_assoc, Bool, true, false, Option, Some, None, Ok, Err}
use Rattle.std.specs.Prelude.{nat_lt, if◌then◌else◌, unwrap_or, OnOk, OnErr}
use Rattle.std.proofs.lemmas.Bool.{cases_lt}
use Rattle.std.proofs.lemmas.Bool.Decides.{nat_tests}
use Rattle.geometry.specs.declared.geometry.Geometry.{Geometry}
use Rattle.nor_core.specs.declared.device.Failed.{Failed}
use Rattle.nor_core.specs.declared.state.NorState.{Ghosts as NorOf}
use Rattle.nor_core.specs.Device.{Leaves, InSay, Says}
use Rattle.nor_core.proofs.Cuts.{reads_none}
use Rattle.image_tool.specs.Saying.{OnlySays, SaysFront}
use Rattle.image_tool.proofs.Speaking.{Ahead, says_one, says_none, says_same, says_more, front_one, front_more}
use Rattle.flash_view.specs.DataPages.{data_number_of}
use Rattle.volume.specs.declared.volume.Volume.{Volume}
use Rattle.volume.specs.MapReads.{page_told}
use Rattle.tool_core.specs.Mapping.{page_line, span_line, span_lines, TellsPage, TellsPages, next_line, SaysSpan, SaysSpans}

-- ---- the line of a span

is_more : (m n : ℕ) → m < n → nat_lt m n ≡ true
is_more m n h = grind (arith, nat_tests)

is_end : (m n : ℕ) → n ≤ m → nat_lt m n ≡ false
is_end m n h = grind (arith, nat_tests)

same_page : (o : Option ℕ) (a b : ℕ) → o ≡ Some a → o ≡ Some b → a ≡ b
same_page o a b e f = cc

no_page : (o : Option ℕ) (a : ℕ) → o ≡ Some a → o ≡ None → ⊥
no_page o a e f = cc

module _ {N : Type 0} {nor : NorOf N} where
  silent : (v : Volume N nor) (id count span : ℕ) → nat_lt span count ≡ false → next_line v id count span ≡ []
  silent v id count span last = ap (λ (b : Bool). if b then span_line v.geometry (nor.bytes v.nor.now) id span else []) last

module _ {N : Type 0} {nor : NorOf N} {id count : ℕ} where
  -- the map tells something of each span up to the end
  tells_some : (v : Volume N nor) (span : ℕ) → TellsPages id count v → span ≤ count → span < 4096 → page_told v span ≡ None → ⊥
  tells_some v span pages within low none = ⊎_elim
      (λ (more : span < count). let p = pages.pages span more in no_page (page_told v span) p.page p.told none)
      (λ (last : count ≤ span).
      let same : count ≡ span = omega arith in
      no_page (page_told v span) 0xFFFF (subst (λ (n : ℕ). page_told v n ≡ Some 0xFFFF) same (pages.ends (omega (arith, low, same)))) none)
      (cases_lt span count)

  -- 0xFFFF at the end alone
  tells_end : (v : Volume N nor) (span : ℕ) → TellsPages id count v → span ≤ count → page_told v span ≡ Some 0xFFFF → nat_lt span count ≡ false
  tells_end v span pages within told = ⊎_elim
      (λ (more : span < count).
      let p = pages.pages span more in
      absurd (omega (arith, p.low, same_page (page_told v span) p.page 0xFFFF p.told told)))
      (λ (last : count ≤ span). is_end span count last)
      (cases_lt span count)

  -- another number is that of the data page
  tells_page : (v : Volume N nor) (span page : ℕ) → TellsPages id count v → span ≤ count → span < 4096 → page_told v span ≡ Some page → (page ≡ 0xFFFF → ⊥) →
      (nat_lt span count ≡ true) × (page_line span page ≡ next_line v id count span)
  tells_page v span page pages within low told apart = ⊎_elim
      (λ (more : span < count).
      let p = pages.pages span more in
      let same : page ≡ p.page = same_page (page_told v span) page p.page told p.told in
      let test : nat_lt span count ≡ true = is_more span count more in
      let number : unwrap_or (data_number_of v.geometry (nor.bytes v.nor.now) id span) 0xFFFF ≡ page = ap (λ (o : Option ℕ). unwrap_or o 0xFFFF) p.is ∙ sym same in
      (test, ap (page_line span) (sym number) ∙ sym (ap (λ (b : Bool). if b then span_line v.geometry (nor.bytes v.nor.now) id span else []) test)))
      (λ (last : count ≤ span).
      let same : count ≡ span = omega arith in
      absurd (apart (same_page (page_told v span) page 0xFFFF told (subst (λ (n : ℕ). page_told v n ≡ Some 0xFFFF) same (pages.ends (omega (arith, low, same)))))))
      (cases_lt span count)

  -- where there is no line nothing is said
  pub says_no_span : (v : Volume N nor) (span : ℕ) → (nor.tells v.nor.now → TellsPages id count v) → (nor.tells v.nor.now → nat_lt span count ≡ false) → SaysSpan id count span v v (Ok false)
  says_no_span v span pages last = record {
    says = says_none (next_line v id count span) (reads_none v.nor.now);
    whole = λ tells. sym (append-nil (nor.said v.nor.now)) ∙ ap (λ (l : List ℕ). nor.said v.nor.now ++ l) (sym (silent v id count span (last tells)));
    front = λ tells. tt;
    more = λ tells. sym (last tells);
    pages = pages;
  }

  pub untold_span : (v : Volume N nor) (span : ℕ) → span < 4096 → (nor.tells v.nor.now → TellsPages id count v × (span ≤ count)) → page_told v span ≡ None → SaysSpan id count span v v (Ok false)
  untold_span v span low pages none = says_no_span v span (λ tells. (pages tells).0) (λ tells. absurd (tells_some v span (pages tells).0 (pages tells).1 low none))

  pub ended_span : (v : Volume N nor) (span page : ℕ) → (nor.tells v.nor.now → TellsPages id count v × (span ≤ count)) → page_told v span ≡ Some page → page ≡ 0xFFFF → SaysSpan id count span v v (Ok false)
  ended_span v span page pages told is = says_no_span v span (λ tells. (pages tells).0) (λ tells. tells_end v span (pages tells).0 (pages tells).1 (told ∙ ap (λ (n : ℕ). Some n) is))

  -- a map goes on telling as its volume says something
  pages_on : {old new : Volume N nor} → new.geometry ≡ old.geometry → nor.bytes new.nor.now ≡ nor.bytes old.nor.now → new.map ≡ old.map → new.numbers.now ≡ old.numbers.now → TellsPages id count old → TellsPages id count new
  pages_on {old} {new} geometry bytes map numbers pages =
      let still : (i : ℕ) → page_told new i ≡ page_told old i = λ i. rw (map, numbers) refl in
      record {
        few = pages.few;
        pages = λ span less.
            let p = pages.pages span less in
            record { page = p.page; told = still span ∙ p.told; is = ap (λ (g : Geometry). data_number_of g (nor.bytes new.nor.now) id span) geometry ∙ ap (λ (l : List ℕ). data_number_of old.geometry l id span) bytes ∙ p.is; low = p.low };
        ends = λ less. still count ∙ pages.ends less;
      }

  -- the line was said
  pub said_span : {old new : Volume N nor} {piece : List ℕ} (span page : ℕ) → span < 4096 → (nor.tells old.nor.now → TellsPages id count old × (span ≤ count)) → page_told old span ≡ Some page → (page ≡ 0xFFFF → ⊥) → piece ≡ page_line span page →
      Says nor old.nor.now new.nor.now piece → Leaves nor old.nor.now new.nor.now (InSay nor old.nor.now piece) → (nor.tells old.nor.now → nor.said new.nor.now ≡ nor.said old.nor.now ++ piece) →
      new.geometry ≡ old.geometry → (new.map ≡ old.map) × (new.numbers.now ≡ old.numbers.now) → SaysSpan id count span old new (Ok true)
  said_span {old} {new} {piece} span page low pages told apart is says cuts done geometry map =
      let text = next_line old id count span in
      let line : nor.tells old.nor.now → (nat_lt span count ≡ true) × (piece ≡ text) = λ tells. let t = tells_page old span page (pages tells).0 (pages tells).1 low told apart in (t.0, is ∙ t.1) in
      record {
        says = says_same piece text (λ tells. (line tells).1) (says_one says cuts);
        whole = λ tells. done tells ∙ ap (λ (l : List ℕ). nor.said old.nor.now ++ l) (line tells).1;
        front = λ tells. tt;
        more = λ tells. sym (line tells).0;
        pages = λ tells. pages_on geometry says.bytes map.0 map.1 (pages tells).0;
      }

  -- the board failed as it was said
  pub broken_span : {old new : Volume N nor} {piece : List ℕ} (span page : ℕ) (why : Failed) → span < 4096 → (nor.tells old.nor.now → TellsPages id count old × (span ≤ count)) → page_told old span ≡ Some page → (page ≡ 0xFFFF → ⊥) → piece ≡ page_line span page →
      Says nor old.nor.now new.nor.now piece → Leaves nor old.nor.now new.nor.now (InSay nor old.nor.now piece) → SaysSpan id count span old new (Err why)
  broken_span {old} {new} {piece} span page why low pages told apart is says cuts =
      let text = next_line old id count span in
      let line : nor.tells old.nor.now → piece ≡ text = λ tells. is ∙ (tells_page old span page (pages tells).0 (pages tells).1 low told apart).1 in
      record {
        says = says_same piece text line (says_one says cuts);
        whole = λ tells. tt;
        front = λ tells. subst (λ (l : List ℕ). SaysFront nor old.nor.now new.nor.now l) (line tells) (front_one says);
        more = λ tells. tt;
        pages = λ tells. tt;
      }

-- ---- all lines

first_lines : (g : Geometry) (image : List ℕ) (id : ℕ) → span_lines g image id 0 ≡ []
unfolding span_lines
first_lines g image id = refl

more_lines : (g : Geometry) (image : List ℕ) (id span : ℕ) → span_lines g image id (span + 1) ≡ span_lines g image id span ++ span_line g image id span
unfolding span_lines
more_lines g image id span = let same : span + 1 ≡ suc span = omega arith in ap (span_lines g image id) same

-- the lines of more spans begin with those of fewer
lines_behind : (g : Geometry) (image : List ℕ) (id span count : ℕ) → span ≤ count → (tail : List ℕ) × (span_lines g image id count ≡ span_lines g image id span ++ tail)
unfolding span_lines
lines_behind g image id span zero within = ([], ap (span_lines g image id) (let none : zero ≡ span = omega (arith, within) in none) ∙ sym (append-nil (span_lines g image id span)))
lines_behind g image id span (suc count) within = ⊎_elim
    (λ (more : span < suc count).
    let before = lines_behind g image id span count (omega (arith, more)) in
    (before.0 ++ span_line g image id count, ap (λ (l : List ℕ). l ++ span_line g image id count) before.1 ∙ append_assoc (span_lines g image id span) before.0 (span_line g image id count)))
    (λ (last : suc count ≤ span). ([], ap (span_lines g image id) (let same : suc count ≡ span = omega (arith, within, last) in same) ∙ sym (append-nil (span_lines g image id span))))
    (cases_lt span (suc count))

-- the next one
lines_ahead : (g : Geometry) (image : List ℕ) (id span count : ℕ) → span ≤ count → (tail : List ℕ) × (span_lines g image id count ≡ span_lines g image id span ++ ((if nat_lt span count then span_line g image id span else []) ++ tail))
lines_ahead g image id span count within = ⊎_elim
    (λ (more : span < count).
    let b = lines_behind g image id (span + 1) count (omega (arith, more)) in (
      b.0,
      b.1 ∙ ap (λ (l : List ℕ). l ++ b.0) (more_lines g image id span) ∙ append_assoc (span_lines g image id span) (span_line g image id span) b.0
          ∙ sym (ap (λ (t : Bool). span_lines g image id span ++ ((if t then span_line g image id span else []) ++ b.0)) (is_more span count more)),
    ))
    (λ (last : count ≤ span). (
      [],
      ap (span_lines g image id) (let same : count ≡ span = omega arith in same) ∙ sym (append-nil (span_lines g image id span))
          ∙ sym (ap (λ (t : Bool). span_lines g image id span ++ ((if t then span_line g image id span else []) ++ [])) (is_end span count last)),
    ))
    (cases_lt span count)

more_than : (span count : ℕ) → true ≡ nat_lt span count → span < count
more_than span count more = grind (arith, nat_tests)

no_more : (span count : ℕ) → span ≤ count → false ≡ nat_lt span count → count ≡ span
no_more span count within last = grind (arith, nat_tests)

module _ {N : Type 0} {nor : NorOf N} where
  -- the lines of so many spans were said
  pub record SpansSaid (id count span : ℕ) (old new : Volume N nor) : Type 0 where
    pub says : OnlySays nor old.nor.now new.nor.now (span_lines old.geometry (nor.bytes old.nor.now) id count)
    pub said : nor.tells old.nor.now → nor.said new.nor.now ≡ nor.said old.nor.now ++ span_lines old.geometry (nor.bytes old.nor.now) id span
    pub pages : nor.tells old.nor.now → TellsPages id count new × (span ≤ count)

  -- the next line is that of the first image
  line_same : (old mid : Volume N nor) (id count span : ℕ) → mid.geometry ≡ old.geometry → nor.bytes mid.nor.now ≡ nor.bytes old.nor.now → next_line mid id count span ≡ (if nat_lt span count then span_line old.geometry (nor.bytes old.nor.now) id span else [])
  line_same old mid id count span same bytes =
      ap (λ (g : Geometry). if nat_lt span count then span_line g (nor.bytes mid.nor.now) id span else []) same ∙ ap (λ (l : List ℕ). if nat_lt span count then span_line old.geometry l id span else []) bytes

module _ {N : Type 0} {nor : NorOf N} {id count : ℕ} where
  pub spans_none : (v : Volume N nor) → (nor.tells v.nor.now → TellsPages id count v) → SpansSaid id count 0 v v
  spans_none v pages = record {
    says = says_none _ (reads_none v.nor.now);
    said = λ tells. sym (append-nil (nor.said v.nor.now)) ∙ ap (λ (l : List ℕ). nor.said v.nor.now ++ l) (sym (first_lines v.geometry (nor.bytes v.nor.now) id));
    pages = λ tells. (pages tells, omega arith);
  }

  -- what the map tells where the next line is to be said
  pub pages_then : {old mid : Volume N nor} (span : ℕ) → SpansSaid id count span old mid → nor.tells mid.nor.now → TellsPages id count mid × (span ≤ count)
  pages_then span s tells = s.pages (s.says.cuts.told_before tells)

  ahead : {old mid : Volume N nor} (span : ℕ) → mid.geometry ≡ old.geometry → SpansSaid id count span old mid → nor.tells old.nor.now → Ahead (nor.said old.nor.now) (nor.said mid.nor.now) (span_lines old.geometry (nor.bytes old.nor.now) id count) (next_line mid id count span)
  ahead {old} {mid} span same s tells =
      let g = old.geometry in
      let image = nor.bytes old.nor.now in
      let a = lines_ahead g image id span count (s.pages tells).1 in
      record {
        part = span_lines g image id span;
        tail = a.0;
        said = s.said tells;
        text_is = a.1 ∙ ap (λ (l : List ℕ). span_lines g image id span ++ (l ++ a.0)) (sym (line_same old mid id count span same s.says.bytes));
      }

  -- a line more
  pub spans_more : {old mid new : Volume N nor} (span : ℕ) → mid.geometry ≡ old.geometry → SpansSaid id count span old mid → SaysSpan id count span mid new (Ok true) → SpansSaid id count (span + 1) old new
  spans_more {old} {mid} {new} span same s turn =
      let g = old.geometry in
      let image = nor.bytes old.nor.now in
      record {
        says = says_more s.says turn.says (ahead span same s);
        said = λ tells.
            let here = s.says.cuts.told tells in
            let line : next_line mid id count span ≡ span_line g image id span = line_same old mid id count span same s.says.bytes ∙ ap (λ (b : Bool). if b then span_line g image id span else []) (sym (turn.more here)) in
            turn.whole here ∙ ap (λ (l : List ℕ). l ++ next_line mid id count span) (s.said tells) ∙ append_assoc (nor.said old.nor.now) (span_lines g image id span) (next_line mid id count span)
            ∙ ap (λ (l : List ℕ). nor.said old.nor.now ++ (span_lines g image id span ++ l)) line ∙ ap (λ (l : List ℕ). nor.said old.nor.now ++ l) (sym (more_lines g image id span));
        pages = λ tells. let here = s.says.cuts.told tells in (turn.pages here, omega (arith, more_than span count (turn.more here)));
      }

  -- no line more
  pub spans_done : {old mid new : Volume N nor} (span : ℕ) → mid.geometry ≡ old.geometry → SpansSaid id count span old mid → SaysSpan id count span mid new (Ok false) → SaysSpans nor old.geometry id count old.nor.now new.nor.now (Ok tt)
  spans_done {old} {mid} {new} span same s turn =
      let g = old.geometry in
      let image = nor.bytes old.nor.now in
      record {
        says = says_more s.says turn.says (ahead span same s);
        whole = λ tells.
            let here = s.says.cuts.told tells in
            let last = turn.more here in
            turn.whole here ∙ ap (λ (l : List ℕ). nor.said mid.nor.now ++ l) (silent mid id count span (sym last)) ∙ append-nil (nor.said mid.nor.now) ∙ s.said tells
            ∙ ap (λ (n : ℕ). nor.said old.nor.now ++ span_lines g image id n) (sym (no_more span count (s.pages tells).1 last));
        front = λ tells. tt;
      }

  -- the board failed in a line
  pub spans_broken : {old mid new : Volume N nor} (span : ℕ) (why : Failed) → mid.geometry ≡ old.geometry → SpansSaid id count span old mid → SaysSpan id count span mid new (Err why) → SaysSpans nor old.geometry id count old.nor.now new.nor.now (Err why)
  spans_broken {old} {mid} {new} span why same s turn = record {
    says = says_more s.says turn.says (ahead span same s);
    whole = λ tells. tt;
    front = λ tells. front_more (ahead span same s tells) (turn.front (s.says.cuts.told tells));
  }

  -- as many as there is room for were said
  pub spans_full : {old new : Volume N nor} (span : ℕ) → 4096 ≤ span → SpansSaid id count span old new → SaysSpans nor old.geometry id count old.nor.now new.nor.now (Ok tt)
  spans_full {old} {new} span full s = record {
    says = s.says;
    whole = λ tells.
        let p = s.pages tells in
        s.said tells ∙ ap (λ (n : ℕ). nor.said old.nor.now ++ span_lines old.geometry (nor.bytes old.nor.now) id n) (let same : span ≡ count = omega (arith, full, p.0.few, p.1) in same);
    front = λ tells. tt;
  }
