-- Turn after turn.
use Rattle.std.proofs.Common.{◌≡◌, ℕ, suc, ◌+◌, ◌<◌, ◌≤◌, List, [], ◌∷◌, ◌++◌, length, refl, sym, ◌∙◌, ap, subst, arith, inl, inr, ⊎_elim, append_assoc, append-nil, length-append, false, eqb, Option, Some, None}
use Rattle.std.proofs.lemmas.Grind.{common_steps}
use Rattle.geometry.specs.declared.geometry.Geometry.{Geometry}
use Rattle.nor_core.specs.declared.state.NorState.{Ghosts as NorOf}
use Rattle.table_model.specs.Ask.{Ask}
use Rattle.table_model.specs.Window.{Moment}
use Rattle.call_script.specs.Lines.{onto, calls_of, lines, NoBreak}
use Rattle.call_script.proofs.Breaks.{line_first, line_last}
use Rattle.call_model.specs.Memory.{Memory}
use Rattle.run_model.specs.Runs.{after_all}
use Rattle.run_model.specs.Ran.{RunStands, Reached}
use Rattle.run_model.proofs.Chain.{later_reached, later_said, reached_none}
use Rattle.tool_parts.specs.declared.ending.Ending.{Ending}
use Rattle.tool_parts.specs.declared.ending.Ending.TheVariants.{Done, BadLine, BoardFault, SourceFault, TooLong}
use Rattle.script_run.specs.Turns.{DidLine, AllGood, BeginsBad, At, CountsLines, CountsBytes, Stops, Turned, Turns, OneMore, ended_turn}
use Rattle.script_run.proofs.LineWork.{bad_long, calls-append, good-append}

-- the lines of two parts of a run are counted
count_lines : (ending : Option Ending) (a b c i j : ℕ) → b ≡ a + i → CountsLines ending b c j → CountsLines ending a c (i + j)
count_lines None a b c i j e h = omega (arith, e, h)
count_lines (Some (BadLine n)) a b c i j e h = omega (arith, e, h)
count_lines _ a b c i j e h = tt {0}

-- the bytes of two parts of a run are counted
count_bytes : (ending : Option Ending) {D : Type 0} (a b c : At D) (xs ys tail : List ℕ) → b.taken + length a.pending ≡ a.taken + length xs + length b.pending → CountsBytes ending b c ys tail → CountsBytes ending a c (xs ++ ys) tail
count_bytes None {D} a b c xs ys tail e h = omega (arith, e, h, length-append xs ys)
count_bytes (Some Done) {D} a b c xs ys tail e h = (omega (arith, e, h.0, length-append xs ys), h.1)
count_bytes (Some TooLong) {D} a b c xs ys tail e h = omega (arith, e, h, length-append xs ys)
count_bytes (Some (BadLine n)) {D} a b c xs ys tail e h = record { taken = h.taken; tail_is = h.tail_is; count = omega (arith, e, h.count, length-append xs ys); few = h.few; seen = h.seen }
count_bytes _ {D} a b c xs ys tail e h = tt {0}

module _ {D : Type 0} {nor : NorOf D} {g : Geometry} where
  -- a run that goes on has come to a moment
  pub went : {m : Moment} {a b : At D} → (t : Turned nor g None m a b) → Reached nor g a.device b.device b.memory m (calls_of t.done) × (t.tail ≡ b.pending ++ b.left)
  went {m} {a} {b} t = ⊎_elim (λ broken. absurd (let e : None ≡ Some BoardFault = broken.0 in cc)) (λ here. here) t.stops

  stops_on : (ending : Option Ending) (m : Moment) (a b c : At D) (xs ys : List Ask) (tail : List ℕ) → (r : Reached nor g a.device b.device b.memory m xs) → Stops nor g (after_all g m r.calls) b c ys tail ending → Stops nor g m a c (xs ++ ys) tail ending
  stops_on ending m a b c xs ys tail r s = ⊎_elim
      (λ broken. inl (broken.0, later_said ys r broken.1))
      (λ here. inr (later_reached r here.0, here.1))
      s

  -- a turn after others
  pub turn_on : (ending : Option Ending) (m : Moment) (a b c : At D) → (f : Turned nor g None m a b) → (r : Reached nor g a.device b.device b.memory m (calls_of f.done)) → f.tail ≡ b.pending ++ b.left → Turned nor g ending (after_all g m r.calls) b c → Turned nor g ending m a c
  turn_on ending m a b c f r tail_is s =
      let calls_are : calls_of (f.done ++ s.done) ≡ calls_of f.done ++ calls_of s.done = calls-append f.done s.done f.good in
      record {
        seg = f.seg ++ s.seg;
        done = f.done ++ s.done;
        tail = s.tail;
        rest_is = f.rest_is ∙ ap (λ (l : List ℕ). f.seg ++ l) (tail_is ∙ s.rest_is) ∙ sym (append_assoc f.seg s.seg s.tail);
        lines_are = λ more follows. ap lines (append_assoc f.seg s.seg more) ∙ f.lines_are (s.seg ++ more) (tt {0}) ∙ ap (λ (l : List (List ℕ)). f.done ++ l) (s.lines_are more follows) ∙ sym (append_assoc f.done s.done (lines more));
        good = good-append f.done s.done f.good s.good;
        number = subst (λ (n : ℕ). CountsLines ending a.handed c.handed n) (sym (length-append f.done s.done)) (count_lines ending a.handed b.handed c.handed (length f.done) (length s.done) f.number s.number);
        bytes = count_bytes ending a b c f.seg s.seg s.tail f.bytes s.bytes;
        stops = subst (λ (zs : List Ask). Stops nor g m a c zs s.tail ending) (sym calls_are) (stops_on ending m a b c (calls_of f.done) (calls_of s.done) s.tail r s.stops);
      }

cut_here : (line q l : List ℕ) → (line ++ (10 ∷ q)) ++ l ≡ (line ++ (10 ∷ [])) ++ (q ++ l)
cut_here line q l = append_assoc line (10 ∷ q) l ∙ sym (append_assoc line (10 ∷ []) (q ++ l))

-- no byte 10 at the front and none after it
pub apart : (b : ℕ) (bs : List ℕ) → NoBreak (b ∷ bs) → (eqb b 10 ≡ false) × NoBreak bs
apart b bs h =
    let here : b ≡ 10 → ⊥ = h.none 0 (omega arith) in
    (grind (arith, common_steps), record { none = λ k below. h.none (suc k) (omega arith) })

-- how long the first line is
pub head_length : List (List ℕ) → ℕ
head_length [] = 0
head_length (l ∷ ls) = length l

pub onto_length : (b : ℕ) (ls : List (List ℕ)) → head_length (onto b ls) ≡ head_length ls + 1
unfolding head_length
onto_length b [] = refl
onto_length b (l ∷ ls) = omega arith

pub first_long : (p l : List ℕ) → NoBreak p → length p ≤ head_length (lines (p ++ l))
unfolding lines
first_long [] l h = omega arith
first_long (b ∷ p) l h = let a = apart b p h in rw a.0 (omega (arith, onto_length b (lines (p ++ l)), first_long p l a.1))

bad_of : (tail : List ℕ) (ls : List (List ℕ)) → lines tail ≡ ls → 4096 < head_length ls → BeginsBad tail
unfolding head_length
bad_of tail [] e h = absurd (omega (arith, h))
bad_of tail (l ∷ ls) e h = record { bad = l; others = ls; lines_are = e; is_bad = bad_long l h }

pub head_of : (l : List ℕ) (ls xs : List (List ℕ)) → xs ≡ l ∷ ls → head_length xs ≡ length l
unfolding head_length
head_of l ls xs e = ap head_length e

-- a line that was ended in the bytes that were taken
ended_seen : (bad : List ℕ) (others : List (List ℕ)) (p line q l : List ℕ) → NoBreak line → p ≡ line ++ (10 ∷ q) → lines (p ++ l) ≡ bad ∷ others → length bad < length p
unfolding head_length
ended_seen bad others p line q l plain is e =
    let here : lines (p ++ l) ≡ line ∷ lines (q ++ l) = ap (λ (x : List ℕ). lines (x ++ l)) is ∙ ap lines (append_assoc line (10 ∷ q) l) ∙ line_first line (q ++ l) plain in
    let same : line ∷ lines (q ++ l) ≡ bad ∷ others = sym here ∙ e in
    let long : length line ≡ length bad = ap head_length same in
    omega (arith, long, ap length is, length-append line (10 ∷ q))

module _ {D : Type 0} {nor : NorOf D} {g : Geometry} where
  -- no line was done: more bytes were taken
  pub took_more : (d : D) (w : Memory) (m : Moment) (p l q r : List ℕ) (k j h : ℕ) → RunStands nor g d w m → p ++ l ≡ q ++ r → j + length p ≡ k + length q → Turned nor g None m (record { device = d; memory = w; pending = p; left = l; taken = k; handed = h }) (record { device = d; memory = w; pending = q; left = r; taken = j; handed = h })
  unfolding calls_of AllGood after_all
  took_more d w m p l q r k j h stands e count = record { seg = []; done = []; tail = q ++ r; rest_is = e; lines_are = λ more follows. refl; good = tt {0}; number = omega arith; bytes = omega (arith, count); stops = inr (reached_none d w m stands, refl) }

  -- the bytes that were taken are more than a line may have
  pub too_long_line : (d : D) (w : Memory) (m : Moment) (p l : List ℕ) (k h n : ℕ) → RunStands nor g d w m → NoBreak p → 4096 < length p → n ≡ h + 1 → k ≤ 16777216 → Turned nor g (Some (BadLine n)) m (record { device = d; memory = w; pending = p; left = l; taken = k; handed = h }) (record { device = d; memory = w; pending = p; left = l; taken = k; handed = h })
  unfolding calls_of AllGood after_all
  too_long_line d w m p l k h n stands plain long is few = record { seg = []; done = []; tail = p ++ l; rest_is = refl; lines_are = λ more follows. refl; good = tt {0}; number = omega (arith, is); bytes = record { taken = p; tail_is = refl; count = omega arith; few = few; seen = λ bad others e. inr (inl long) }; stops = inr (reached_none d w m stands, bad_of (p ++ l) (lines (p ++ l)) refl (omega (arith, long, first_long p l plain))) }

  -- the script could not be read
  pub source_failed : (d : D) (w : Memory) (m : Moment) (p l q r : List ℕ) (k j h : ℕ) → RunStands nor g d w m → NoBreak p → length p ≤ 4096 → q ≡ p → r ≡ l → Turned nor g (Some SourceFault) m (record { device = d; memory = w; pending = p; left = l; taken = k; handed = h }) (record { device = d; memory = w; pending = q; left = r; taken = j; handed = h })
  unfolding calls_of AllGood after_all
  source_failed d w m p l q r k j h stands plain few e f = record { seg = []; done = []; tail = p ++ l; rest_is = refl; lines_are = λ more follows. refl; good = tt {0}; number = tt {0}; bytes = tt {0}; stops = inr (reached_none d w m stands, record { tail_is = ap (λ (x : List ℕ). x ++ l) (sym e) ∙ ap (λ (x : List ℕ). q ++ x) (sym f); no_break = subst NoBreak (sym e) plain; few = subst (λ (x : List ℕ). length x ≤ 4096) (sym e) few }) }

  -- the script has more bytes than are read
  pub too_long : (d : D) (w : Memory) (m : Moment) (p l r : List ℕ) (k h : ℕ) → RunStands nor g d w m → NoBreak p → length p ≤ 4096 → k ≡ 16777216 → OneMore l r → Turned nor g (Some TooLong) m (record { device = d; memory = w; pending = p; left = l; taken = k; handed = h }) (record { device = d; memory = w; pending = p; left = r; taken = k; handed = h })
  unfolding calls_of AllGood after_all
  too_long d w m p l r k h stands plain few all more = record { seg = []; done = []; tail = p ++ l; rest_is = refl; lines_are = λ more follows. refl; good = tt {0}; number = tt {0}; bytes = omega arith; stops = inr (reached_none d w m stands, (more.byte, more.rest, record { tail_is = ap (λ (x : List ℕ). p ++ x) more.old_is; no_break = plain; few = few }, all)) }

  -- a line that was ended was done
  pub line_done : (ending : Option Ending) (d e : D) (w v : Memory) (m : Moment) (p line q l : List ℕ) (k h n : ℕ) → NoBreak line → p ≡ line ++ (10 ∷ q) → n ≡ h + 1 → k ≤ 16777216 → DidLine nor g d e w v m line n ending → Turned nor g ending m (record { device = d; memory = w; pending = p; left = l; taken = k; handed = h }) (record { device = e; memory = v; pending = q; left = l; taken = k; handed = n })
  unfolding AllGood calls_of
  line_done None d e w v m p line q l k h n plain is number few did = record { seg = line ++ (10 ∷ []); done = line ∷ []; tail = q ++ l; rest_is = ap (λ (x : List ℕ). x ++ l) is ∙ cut_here line q l; lines_are = λ more follows. ap lines (append_assoc line (10 ∷ []) more) ∙ line_first line more plain; good = (did.0, tt {0}); number = number; bytes = omega (arith, ap length is, length-append line (10 ∷ q), length-append line (10 ∷ [])); stops = inr (did.1, refl) }
  line_done (Some (BadLine x)) d e w v m p line q l k h n plain is number few did = record { seg = []; done = []; tail = p ++ l; rest_is = refl; lines_are = λ more follows. refl; good = tt {0}; number = omega (arith, did.1, number); bytes = record { taken = p; tail_is = refl; count = omega arith; few = few; seen = λ bad others e. inl (ended_seen bad others p line q l plain is e) }; stops = inr (did.2, record { bad = line; others = lines (q ++ l); lines_are = ap (λ (x : List ℕ). lines (x ++ l)) is ∙ ap lines (append_assoc line (10 ∷ q) l) ∙ line_first line (q ++ l) plain; is_bad = did.0 }) }
  line_done (Some BoardFault) d e w v m p line q l k h n plain is number few did = record { seg = line ++ (10 ∷ []); done = line ∷ []; tail = q ++ l; rest_is = ap (λ (x : List ℕ). x ++ l) is ∙ cut_here line q l; lines_are = λ more follows. ap lines (append_assoc line (10 ∷ []) more) ∙ line_first line more plain; good = (did.0, tt {0}); number = tt {0}; bytes = tt {0}; stops = inl (refl, did.1) }
  line_done _ d e w v m p line q l k h n plain is number few did = absurd did

  -- no byte is left
  pub no_last : (d : D) (w : Memory) (m : Moment) (p : List ℕ) (k h : ℕ) → RunStands nor g d w m → length p ≡ 0 → k ≤ 16777216 → Turned nor g (Some Done) m (record { device = d; memory = w; pending = p; left = []; taken = k; handed = h }) (record { device = d; memory = w; pending = p; left = []; taken = k; handed = h })
  unfolding calls_of AllGood
  no_last d w m [] k h stands e few = record { seg = []; done = []; tail = []; rest_is = refl; lines_are = λ more follows. refl; good = tt {0}; number = tt {0}; bytes = (refl, few); stops = inr (reached_none d w m stands, (refl, refl)) }
  no_last d w m (x ∷ p) k h stands e few = absurd (omega (arith, e))

  -- a last line that was not ended was done
  pub last_done : (ending : Option Ending) (d e : D) (w v : Memory) (m : Moment) (line : List ℕ) (k h n : ℕ) → NoBreak line → 0 < length line → k ≤ 16777216 → n ≡ h + 1 → DidLine nor g d e w v m line n ending → Turned nor g (Some (ended_turn ending)) m (record { device = d; memory = w; pending = line; left = []; taken = k; handed = h }) (record { device = e; memory = v; pending = line; left = []; taken = k; handed = h })
  unfolding AllGood calls_of lines
  last_done None d e w v m line k h n plain some few number did = record { seg = line; done = line ∷ []; tail = []; rest_is = refl; lines_are = λ more follows. ap (λ (x : List ℕ). lines (line ++ x)) follows ∙ ap lines (append-nil line) ∙ line_last line some plain ∙ ap (λ (x : List ℕ). line ∷ lines x) (sym follows); good = (did.0, tt {0}); number = tt {0}; bytes = (refl, few); stops = inr (did.1, (refl, refl)) }
  last_done (Some (BadLine x)) d e w v m line k h n plain some few number did = record { seg = []; done = []; tail = line ++ []; rest_is = refl; lines_are = λ more follows. refl; good = tt {0}; number = omega (arith, did.1, number); bytes = record { taken = line; tail_is = refl; count = omega arith; few = few; seen = λ bad others e. inr (inr refl) }; stops = inr (did.2, record { bad = line; others = []; lines_are = ap lines (append-nil line) ∙ line_last line some plain; is_bad = did.0 }) }
  last_done (Some BoardFault) d e w v m line k h n plain some few number did = record { seg = line; done = line ∷ []; tail = []; rest_is = refl; lines_are = λ more follows. ap (λ (x : List ℕ). lines (line ++ x)) follows ∙ ap lines (append-nil line) ∙ line_last line some plain ∙ ap (λ (x : List ℕ). line ∷ lines x) (sym follows); good = (did.0, tt {0}); number = tt {0}; bytes = tt {0}; stops = inl (refl, did.1) }
  last_done _ d e w v m line k h n plain some few number did = absurd did

  -- a last line of bytes that were taken before, where no more was read
  pub last_as : (ending : Option Ending) (d e : D) (w v : Memory) (m : Moment) (p q l r : List ℕ) (k j h i : ℕ) → q ≡ p → l ≡ [] → r ≡ [] → j ≡ k → i ≡ h →
      Turned nor g ending m (record { device = d; memory = w; pending = q; left = []; taken = j; handed = i }) (record { device = e; memory = v; pending = q; left = []; taken = j; handed = i }) →
      Turned nor g ending m (record { device = d; memory = w; pending = p; left = l; taken = k; handed = h }) (record { device = e; memory = v; pending = q; left = r; taken = j; handed = i })
  last_as ending d e w v m p q l r k j h i same none none_after taken handed t =
      let b : At D = record { device = e; memory = v; pending = q; left = r; taken = j; handed = i } in
      let one = subst (λ (x : List ℕ). Turned nor g ending m (record { device = d; memory = w; pending = q; left = []; taken = j; handed = i }) (record { device = e; memory = v; pending = q; left = x; taken = j; handed = i })) (sym none_after) t in
      let two = subst (λ (x : List ℕ). Turned nor g ending m (record { device = d; memory = w; pending = x; left = []; taken = j; handed = i }) b) same one in
      let three = subst (λ (x : List ℕ). Turned nor g ending m (record { device = d; memory = w; pending = p; left = x; taken = j; handed = i }) b) (sym none) two in
      let four = subst (λ (x : ℕ). Turned nor g ending m (record { device = d; memory = w; pending = p; left = l; taken = x; handed = i }) b) taken three in
      subst (λ (x : ℕ). Turned nor g ending m (record { device = d; memory = w; pending = p; left = l; taken = k; handed = x }) b) handed four

  -- a turn after others, by the geometry that the run began with
  pub turn_then : (ending : Option Ending) (h : Geometry) (m : Moment) (a b c : At D) → h ≡ g → Turned nor g None m a b → Turns nor h ending b c → Turned nor g ending m a c
  turn_then ending h m a b c same f then =
      let next : Turns nor g ending b c = subst (λ (k : Geometry). Turns nor k ending b c) same then in
      let r = went f in
      turn_on ending m a b c f r.0 r.1 (next (after_all g m r.0.calls) r.0.stands)
