-- The number of replies that were said whole.
use Rattle.std.proofs.Common.{◌≡◌, ℕ, ◌+◌, ◌&&◌, List, [], ◌∷◌, ◌++◌, length, drop, refl, sym, ◌∙◌, ap, subst, arith, ⊎_elim, append_assoc, Bool, true, false, not}
use Rattle.std.proofs.Math.Seq.{drop-append_seam}
use Rattle.std.proofs.lemmas.Bool.{and_parts, false_from_ne_true}
use Rattle.std.proofs.lemmas.Bool.Decides.{Decides-eqb}
use Rattle.std.proofs.lemmas.Slice.Eq.{starts_is}
use Rattle.geometry.specs.declared.geometry.Geometry.{Geometry}
use Rattle.table_model.specs.Table.{State}
use Rattle.table_model.specs.Ask.{Ask}
use Rattle.table_model.specs.Flat.{answer}
use Rattle.table_model.specs.Steps.{is_refusal, cuts_file}
use Rattle.table_model.specs.Window.{Moment, after}
use Rattle.run_model.specs.Runs.{RunCall, IsCorner, IsFair, AreFair, has_index_room, next, asks_of, replies, said_of}
use Rattle.trace_laws.specs.Standing.{call_of, line_of}
use Rattle.trace_laws.specs.Counting.{is_corner, begins_so, replies_in}
use Rattle.trace_laws.proofs.Fronts.{Heads, more_heads, heads_one}
use Rattle.trace_laws.proofs.Spares.{corner_answers}

not_false : (b : Bool) → not b ≡ true → b ≡ false
not_false true e = absurd (let no : false ≡ true = e in cc)
not_false false e = refl

-- the test of the corner
pub corner_yes : (g : Geometry) (s : State) (ask : Ask) → is_corner g s ask ≡ true → IsCorner g s ask
unfolding is_corner
corner_yes g s ask e =
    let whole = and_parts (cuts_file ask && not (has_index_room g s.table)) (not (is_refusal (answer g true s ask).answer)) e in
    let front = and_parts (cuts_file ask) (not (has_index_room g s.table)) whole.0 in
    record { cuts = front.0; full = not_false (has_index_room g s.table) front.1; done = not_false (is_refusal (answer g true s ask).answer) whole.1 }

pub corner_is : (g : Geometry) (s : State) (ask : Ask) → IsCorner g s ask → is_corner g s ask ≡ true
unfolding is_corner
corner_is g s ask c = rw (c.cuts, c.full, c.done) refl

-- the test of a reply line
pub begins_yes : (g : Geometry) (m : Moment) (ask : Ask) (spare : Bool) (said : List ℕ) → begins_so g m ask spare said ≡ true → said ≡ line_of g m ask spare ++ drop (length (line_of g m ask spare)) said
unfolding begins_so
begins_yes g m ask spare said e = (starts_is Decides-eqb said (line_of g m ask spare) (begins_so g m ask spare said) refl).0 e

pub begins_is : (g : Geometry) (m : Moment) (ask : Ask) (spare : Bool) (said more : List ℕ) → said ≡ line_of g m ask spare ++ more → begins_so g m ask spare said ≡ true
unfolding begins_so
begins_is g m ask spare said more e = (starts_is Decides-eqb said (line_of g m ask spare) (begins_so g m ask spare said) refl).1 more e

-- ---- a reply more

one_more : (g : Geometry) (m : Moment) (ask : Ask) (asks : List Ask) (said more : List ℕ) → said ≡ line_of g m ask true ++ more → replies_in g m (ask ∷ asks) said ≡ replies_in g (after g true m ask) asks more + 1
unfolding replies_in
one_more g m ask asks said more e =
    let rest : drop (length (line_of g m ask true)) said ≡ more = ap (drop (length (line_of g m ask true))) e ∙ drop-append_seam (line_of g m ask true) more in
    rw (begins_is g m ask true said more e, rest) refl

tight_more : (g : Geometry) (m : Moment) (ask : Ask) (asks : List Ask) (said more : List ℕ) → begins_so g m ask true said ≡ false → IsCorner g m.state ask → said ≡ line_of g m ask false ++ more → replies_in g m (ask ∷ asks) said ≡ replies_in g (after g false m ask) asks more + 1
unfolding replies_in
tight_more g m ask asks said more not corner e =
    let rest : drop (length (line_of g m ask false)) said ≡ more = ap (drop (length (line_of g m ask false))) e ∙ drop-append_seam (line_of g m ask false) more in
    rw (not, corner_is g m.state ask corner, begins_is g m ask false said more e, rest) refl

-- The first reply of a run is counted, and those behind it.
pub counts_more : (g : Geometry) (m : Moment) (ask : Ask) (asks : List Ask) (spare : Bool) (said more : List ℕ) → IsFair g m (call_of ask spare) → said ≡ line_of g m ask spare ++ more → replies_in g m (ask ∷ asks) said ≡ replies_in g (after g spare m ask) asks more + 1
counts_more g m ask asks true said more fair e = one_more g m ask asks said more e
counts_more g m ask asks false said more fair e = ⊎_elim
    (λ same. one_more g m ask asks said more (e ∙ ap (λ (l : List ℕ). l ++ more) same.line) ∙ ap (λ (j : Moment). replies_in g j asks more + 1) (sym same.next))
    (λ tight. tight_more g m ask asks said more (false_from_ne_true (begins_so g m ask true said) (λ (yes' : begins_so g m ask true said ≡ true).
    let whole = begins_yes g m ask true said yes' in
    let bad : 111 ≡ 45 = heads_one 111 45 said (subst (Heads 111) (sym whole) (more_heads 111 (line_of g m ask true) (drop (length (line_of g m ask true)) said) tight.done)) (subst (Heads 45) (sym e) (more_heads 45 (line_of g m ask false) more tight.tight)) in
    omega (arith, bad))) (fair refl) e)
    (corner_answers g m ask (fair refl))

fair_first : (g : Geometry) (m : Moment) (x : RunCall) (xs : List RunCall) → AreFair g m (x ∷ xs) → IsFair g m x × AreFair g (next g m x) xs
unfolding AreFair
fair_first g m x xs fair = fair

first_reply : (g : Geometry) (m : Moment) (x : RunCall) (xs : List RunCall) (part : List ℕ) → replies g m (x ∷ xs) ++ part ≡ said_of g m x ++ (replies g (next g m x) xs ++ part)
unfolding replies
first_reply g m x xs part = append_assoc (said_of g m x) (replies g (next g m x) xs) part

none_counted : (g : Geometry) (m : Moment) (said : List ℕ) → replies_in g m [] said ≡ 0
unfolding replies_in
none_counted g m said = refl

-- The replies to all calls of a run are as many as these, whatever is said behind them.
pub counts_all : (g : Geometry) (m : Moment) (done : List RunCall) (part : List ℕ) → AreFair g m done → replies_in g m (asks_of done) (replies g m done ++ part) ≡ length done
counts_all g m [] part fair = none_counted g m (replies g m [] ++ part)
counts_all g m (x ∷ done) part fair =
    let w = fair_first g m x done fair in
    let first = counts_more g m x.ask (asks_of done) x.spare (replies g m (x ∷ done) ++ part) (replies g (next g m x) done ++ part) w.0 (first_reply g m x done part) in
    first ∙ ap (λ (n : ℕ). n + 1) (counts_all g (next g m x) done part w.1) ∙ omega arith
