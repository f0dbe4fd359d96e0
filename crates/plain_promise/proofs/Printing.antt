-- The texts of tables, one behind the other.
use Rattle.std.proofs.Common.{◌≡◌, ℕ, ◌+◌, ◌<◌, ◌≤◌, List, [], ◌∷◌, ◌++◌, length, map, slice_index_or, take, drop, refl, sym, ◌∙◌, ap, subst, arith, append_assoc, append-nil, Vec}
use Rattle.std.specs.declared.alloc.Global.{Global}
use Rattle.std.proofs.lemmas.List.{take_more, map-append, length-map}
use Rattle.std.proofs.lemmas.Grind.{common_steps, flat_map-append}
use Rattle.geometry.specs.declared.geometry.Geometry.{Geometry}
use Rattle.table_model.specs.Table.{File}
use Rattle.table_model.specs.Window.{Moment, from_settled}
use Rattle.call_script.specs.Lines.{lines}
use Rattle.plain_table.specs.Seen.{file, files_of}
use Rattle.plain_table.specs.Moments.{moment_of, geometry_of}
use Rattle.plain_table.specs.declared.file.PlainFile.{PlainFile}
use Rattle.plain_table.specs.declared.moment.PlainMoment.{PlainMoment}
use Rattle.promise_model.specs.Lines.{Sort, Blank, Calls, Promises, Ends, BadCall, BadPromise, sort_of}
use Rattle.promise_model.specs.Promises.{Promise}
use Rattle.promise_model.specs.Places.{Place, places, with_place, moment_behind, in_force, end_table}
use Rattle.promise_model.specs.Texts.{file_line, files_text, step_line, steps_text, places_text}
use Rattle.table_model.specs.declared.call.Call.{Call}
use Rattle.plain_promise.specs.declared.sort.Line.{Line}
use Rattle.plain_promise.specs.declared.sort.Line.TheVariants.{Blank as IsBlank, Call as IsCall, Marked as IsMarked, Bad as IsBad}
use Rattle.plain_promise.specs.declared.sort.Marked.TheVariants.{Promise as IsPromise, End as IsEnd, Bad as BadMark}
use Rattle.plain_promise.specs.Seen.{line_seen}
use Rattle.plain_promise.specs.Walks.{IsLine, tables_at, Lists}

-- ---- files

pub files_none : (old : List ℕ) (fs : List PlainFile) → old ≡ old ++ files_text (map file (take 0 fs))
unfolding files_text
files_none old fs = sym (append-nil old)

files_join : (us vs : List File) → files_text (us ++ vs) ≡ files_text us ++ files_text vs
unfolding files_text
files_join us vs = flat_map-append file_line us vs

files_one : (f : File) → files_text (f ∷ []) ≡ file_line f
unfolding files_text
files_one f = append-nil (file_line f)

pub files_more : (old now new : List ℕ) (fs : List PlainFile) (i : ℕ) (f : PlainFile) → i < length fs → f ≡ slice_index_or fs i f → now ≡ old ++ files_text (map file (take i fs)) → new ≡ now ++ file_line (file f) → new ≡ old ++ files_text (map file (take (i + 1) fs))
files_more old now new fs i f less at was is =
    let next : take (i + 1) fs ≡ take i fs ++ (f ∷ []) = take_more fs i f less ∙ ap (λ (g : PlainFile). take i fs ++ (g ∷ [])) (sym at) in
    let seen : map file (take (i + 1) fs) ≡ map file (take i fs) ++ (file f ∷ []) = ap (map file) next ∙ map-append file (take i fs) (f ∷ []) in
    let whole : files_text (map file (take (i + 1) fs)) ≡ files_text (map file (take i fs)) ++ file_line (file f) = ap files_text seen ∙ files_join (map file (take i fs)) (file f ∷ []) ∙ ap (λ (t : List ℕ). files_text (map file (take i fs)) ++ t) (files_one (file f)) in
    is ∙ ap (λ (t : List ℕ). t ++ file_line (file f)) was ∙ append_assoc old (files_text (map file (take i fs))) (file_line (file f)) ∙ ap (λ (t : List ℕ). old ++ t) (sym whole)

-- ---- tables

pub steps_one : (line step : ℕ) (table : List File) → steps_text line step (table ∷ []) ≡ step_line line step ++ files_text table
unfolding steps_text
steps_one line step table = append-nil (step_line line step ++ files_text table)

pub steps_join : (line step from : ℕ) (us vs : List (List File)) → from ≡ step + length us → steps_text line step (us ++ vs) ≡ steps_text line step us ++ steps_text line from vs
unfolding steps_text
steps_join line step from [] vs at = let same : step ≡ from = omega (arith, at) in ap (λ (k : ℕ). steps_text line k vs) same
steps_join line step from (u ∷ us) vs at =
    ap (λ (t : List ℕ). step_line line step ++ files_text u ++ t) (steps_join line (step + 1) from us vs (omega (arith, at)))
    ∙ sym (append_assoc (step_line line step ++ files_text u) (steps_text line (step + 1) us) (steps_text line from vs))

pub steps_none : (old : List ℕ) (line step : ℕ) (ts : List (Vec PlainFile Global)) → old ≡ old ++ steps_text line step (map files_of (take 0 ts))
unfolding steps_text
steps_none old line step ts = sym (append-nil old)

pub steps_more : (old now new : List ℕ) (line step number : ℕ) (ts : List (Vec PlainFile Global)) (i : ℕ) (t : Vec PlainFile Global) → i < length ts → t ≡ slice_index_or ts i t → number ≡ step + i
    → now ≡ old ++ steps_text line step (map files_of (take i ts)) → new ≡ now ++ (step_line line number ++ files_text (files_of t)) → new ≡ old ++ steps_text line step (map files_of (take (i + 1) ts))
steps_more old now new line step number ts i t less at is was made =
    let next : take (i + 1) ts ≡ take i ts ++ (t ∷ []) = take_more ts i t less ∙ ap (λ (u : Vec PlainFile Global). take i ts ++ (u ∷ [])) (sym at) in
    let seen : map files_of (take (i + 1) ts) ≡ map files_of (take i ts) ++ (files_of t ∷ []) = ap (map files_of) next ∙ map-append files_of (take i ts) (t ∷ []) in
    let count : length (map files_of (take i ts)) ≡ i = length-map (take i ts) files_of ∙ grind (arith, common_steps, less) in
    let whole : steps_text line step (map files_of (take (i + 1) ts)) ≡ steps_text line step (map files_of (take i ts)) ++ (step_line line number ++ files_text (files_of t)) =
    ap (steps_text line step) seen ∙ steps_join line step number (map files_of (take i ts)) (files_of t ∷ []) (omega (arith, is, count))
    ∙ ap (λ (x : List ℕ). steps_text line step (map files_of (take i ts)) ++ x) (steps_one line number (files_of t)) in
    made ∙ ap (λ (x : List ℕ). x ++ (step_line line number ++ files_text (files_of t))) was ∙ append_assoc old (steps_text line step (map files_of (take i ts))) (step_line line number ++ files_text (files_of t)) ∙ ap (λ (x : List ℕ). old ++ x) (sym whole)

-- the tables of a place
pub place_text : (old one two new : List ℕ) (line next : ℕ) (m : Moment) (more : List (List File)) → next ≡ 1 + length m.waiting
    → one ≡ old ++ steps_text line 0 (m.settled ∷ []) → two ≡ one ++ steps_text line 1 m.waiting → new ≡ two ++ steps_text line next more → new ≡ old ++ steps_text line 0 (from_settled m more)
place_text old one two new line next m more is a b c =
    let rest : steps_text line 1 (m.waiting ++ more) ≡ steps_text line 1 m.waiting ++ steps_text line next more = steps_join line 1 next m.waiting more is in
    let all : steps_text line 0 (from_settled m more) ≡ steps_text line 0 (m.settled ∷ []) ++ steps_text line 1 (m.waiting ++ more) = steps_join line 0 1 (m.settled ∷ []) (m.waiting ++ more) (omega arith) in
    c ∙ ap (λ (x : List ℕ). x ++ steps_text line next more) (b ∙ ap (λ (x : List ℕ). x ++ steps_text line 1 m.waiting) a)
    ∙ append_assoc (old ++ steps_text line 0 (m.settled ∷ [])) (steps_text line 1 m.waiting) (steps_text line next more)
    ∙ append_assoc old (steps_text line 0 (m.settled ∷ [])) (steps_text line 1 m.waiting ++ steps_text line next more)
    ∙ ap (λ (x : List ℕ). old ++ (steps_text line 0 (m.settled ∷ []) ++ x)) (sym rest) ∙ ap (λ (x : List ℕ). old ++ x) (sym all)

-- ---- lines

-- the text from a line of that number on
unfoldable pub listing : Geometry → Moment → ℕ → List (List ℕ) → List ℕ
listing g m n [] = steps_text n 0 (from_settled m [])
listing g m n (line ∷ ls) = steps_text n 0 (tables_at g m (sort_of line)) ++ listing g (moment_behind g m (sort_of line)) (n + 1) ls

place_listed : (g : Geometry) (m : Moment) (given : List Promise) (n : ℕ) (s : Sort) (rest : List Place) → places_text (with_place g m given n s rest) ≡ steps_text n 0 (tables_at g m s) ++ places_text rest
unfolding places_text steps_text
place_listed g m given n (Calls ask) rest = refl
place_listed g m given n Blank rest = refl
place_listed g m given n (Promises form names) rest = refl
place_listed g m given n Ends rest = refl
place_listed g m given n BadCall rest = refl
place_listed g m given n BadPromise rest = refl

places_on : (g : Geometry) (m : Moment) (given : List Promise) (n : ℕ) (line : List ℕ) (ls : List (List ℕ)) → places g m given n (line ∷ ls) ≡ with_place g m given n (sort_of line) (places g (moment_behind g m (sort_of line)) (in_force given n (sort_of line) m.state.table (end_table g m ls)) (n + 1) ls)
unfolding places
places_on g m given n line ls = refl

places_last : (g : Geometry) (m : Moment) (given : List Promise) (n : ℕ) → places_text (places g m given n []) ≡ steps_text n 0 (from_settled m [])
unfolding places places_text
places_last g m given n = append-nil (steps_text n 0 (from_settled m []))

-- it is that of the places, whichever promises are in force
pub listing_is : (g : Geometry) (m : Moment) (given : List Promise) (n : ℕ) (ls : List (List ℕ)) → places_text (places g m given n ls) ≡ listing g m n ls
unfolding listing
listing_is g m given n [] = places_last g m given n
listing_is g m given n (line ∷ ls) =
    let there = in_force given n (sort_of line) m.state.table (end_table g m ls) in
    ap places_text (places_on g m given n line ls)
    ∙ place_listed g m given n (sort_of line) (places g (moment_behind g m (sort_of line)) there (n + 1) ls)
    ∙ ap (λ (t : List ℕ). steps_text n 0 (tables_at g m (sort_of line)) ++ t) (listing_is g (moment_behind g m (sort_of line)) there (n + 1) ls)

listing_on : (g : Geometry) (m : Moment) (n : ℕ) (line : List ℕ) (ls : List (List ℕ)) → listing g m n (line ∷ ls) ≡ steps_text n 0 (tables_at g m (sort_of line)) ++ listing g (moment_behind g m (sort_of line)) (n + 1) ls
unfolding listing
listing_on g m n line ls = refl

-- ---- a line that is no call

no_steps : (text : List ℕ) (n : ℕ) → text ≡ text ++ steps_text n 0 []
unfolding steps_text
no_steps text n = sym (append-nil text)

pub lists_none : (l : Line) (s : Sort) (n : ℕ) (m : PlainMoment) (text : List ℕ) → line_seen l ≡ s → ((call : Call) → l ≡ IsCall call → ⊥) → Lists s n m text text m
lists_none IsBlank s n m text is not = subst (λ (t : Sort). Lists t n m text text m) is (record { text = no_steps text n; moment = refl; geometry = refl })
lists_none (IsCall call) s n m text is not = absurd (not call refl)
lists_none (IsMarked (IsPromise form names)) s n m text is not = subst (λ (t : Sort). Lists t n m text text m) is (record { text = no_steps text n; moment = refl; geometry = refl })
lists_none (IsMarked IsEnd) s n m text is not = subst (λ (t : Sort). Lists t n m text text m) is (record { text = no_steps text n; moment = refl; geometry = refl })
lists_none (IsMarked BadMark) s n m text is not = subst (λ (t : Sort). Lists t n m text text m) is (record { text = no_steps text n; moment = refl; geometry = refl })
lists_none IsBad s n m text is not = subst (λ (t : Sort). Lists t n m text text m) is (record { text = no_steps text n; moment = refl; geometry = refl })

-- what is known at a line
pub record IsListed (g : Geometry) (m : Moment) (script : List ℕ) (at number : ℕ) (now : PlainMoment) (printed : List ℕ) : Type 0 where
  pub inside : at ≤ length script
  pub few : number ≤ at + 1
  pub geometry : geometry_of now ≡ g
  pub text : printed ++ listing g (moment_of now) number (lines (drop at script)) ≡ listing g m 1 (lines script)

pub listed_first : (g : Geometry) (m : Moment) (script : List ℕ) (now : PlainMoment) → geometry_of now ≡ g → moment_of now ≡ m → IsListed g m script 0 1 now []
listed_first g m script now geo is = record { inside = omega arith; few = omega arith; geometry = geo; text = ap (λ (k : Moment). listing g k 1 (lines script)) is }

module _ (g : Geometry) (m : Moment) (script : List ℕ) (at number : ℕ) (now : PlainMoment) (text : List ℕ) (was : IsListed g m script at number now text) where
  pub listed_on : (line new : List ℕ) (behind : ℕ) (next : PlainMoment) → IsLine script at line behind → Lists (sort_of line) number now text new next → IsListed g m script behind (number + 1) next new
  listed_on line new behind next is lists =
      let ls : List (List ℕ) = lines (drop behind script) in
      let s : Sort = sort_of line in
      let behind_it : Moment = moment_behind g (moment_of now) s in
      let made : new ≡ text ++ steps_text number 0 (tables_at g (moment_of now) s) = lists.text ∙ ap (λ (h : Geometry). text ++ steps_text number 0 (tables_at h (moment_of now) s)) was.geometry in
      let moved : moment_of next ≡ behind_it = lists.moment ∙ ap (λ (h : Geometry). moment_behind h (moment_of now) s) was.geometry in
      record {
        inside = is.within;
        few = omega (arith, was.few, is.on);
        geometry = lists.geometry ∙ was.geometry;
        text =
            ap (λ (k : Moment). new ++ listing g k (number + 1) ls) moved
            ∙ ap (λ (t : List ℕ). t ++ listing g behind_it (number + 1) ls) made
            ∙ append_assoc text (steps_text number 0 (tables_at g (moment_of now) s)) (listing g behind_it (number + 1) ls)
            ∙ ap (λ (t : List ℕ). text ++ t) (sym (listing_on g (moment_of now) number line ls) ∙ ap (listing g (moment_of now) number) (sym is.lines_are))
            ∙ was.text;
      }

  pub listed_all : (given : List Promise) (new : List ℕ) → lines (drop at script) ≡ [] → new ≡ text ++ steps_text number 0 (from_settled (moment_of now) []) → new ≡ places_text (places g m given 1 (lines script))
  unfolding listing
  listed_all given new none made =
      made ∙ ap (λ (ls : List (List ℕ)). text ++ listing g (moment_of now) number ls) (sym none) ∙ was.text ∙ sym (listing_is g m given 1 (lines script))
