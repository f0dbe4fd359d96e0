-- The tables at the ends, and the calls that may be tight, from line to line.
use Rattle.std.proofs.Common.{◌≡◌, ℕ, ◌+◌, ◌≤◌, List, [], ◌∷◌, ◌++◌, length, map, drop, refl, sym, ◌∙◌, ap, subst, arith, append-nil, Some, None, true, false, Vec}
use Rattle.std.specs.declared.alloc.Global.{Global}
use Rattle.plain_table.specs.declared.file.PlainFile.{PlainFile}
use Rattle.geometry.specs.declared.geometry.Geometry.{Geometry}
use Rattle.table_model.specs.Table.{File}
use Rattle.table_model.specs.Window.{Moment}
use Rattle.call_script.specs.Lines.{lines}
use Rattle.plain_table.specs.Seen.{files_of}
use Rattle.plain_table.specs.Moments.{moment_of, geometry_of}
use Rattle.promise_model.specs.Lines.{Ends, sort_of}
use Rattle.promise_model.specs.Places.{moment_behind}
use Rattle.promise_model.specs.Verdicts.{is_tight, first_tight}
use Rattle.plain_promise.specs.declared.ends.Passed.{Passed}
use Rattle.plain_promise.specs.Walks.{IsLine, with_end, end_tables, PassesOn}

-- what a walk for the ends knows at a line
pub record IsPassed (g : Geometry) (m : Moment) (script : List ℕ) (at number : ℕ) (p : Passed) : Type 0 where
  pub within : at ≤ length script
  pub few : number ≤ at + 1
  pub geometry : geometry_of p.moment ≡ g
  pub tables : map files_of p.tables.items ++ end_tables g (moment_of p.moment) (lines (drop at script)) ≡ end_tables g m (lines script)
  pub tight : first_tight g (moment_of p.moment) number (lines (drop at script)) ≡ first_tight g m 1 (lines script)

end_on : (g : Geometry) (m : Moment) (line : List ℕ) (ls : List (List ℕ)) → end_tables g m (line ∷ ls) ≡ with_end m.state.table (sort_of line) (end_tables g (moment_behind g m (sort_of line)) ls)
unfolding end_tables
end_on g m line ls = refl

tight_on : (g : Geometry) (m : Moment) (n : ℕ) (line : List ℕ) (ls : List (List ℕ)) → is_tight g m (sort_of line) ≡ false → first_tight g m n (line ∷ ls) ≡ first_tight g (moment_behind g m (sort_of line)) (n + 1) ls
unfolding first_tight
tight_on g m n line ls none = rw none refl

tight_here : (g : Geometry) (m : Moment) (n : ℕ) (line : List ℕ) (ls : List (List ℕ)) → is_tight g m (sort_of line) ≡ true → first_tight g m n (line ∷ ls) ≡ Some n
unfolding first_tight
tight_here g m n line ls so = rw so refl

-- the first line
pub passed_first : (script : List ℕ) (p : Passed) → p.tables.items ≡ [] → IsPassed (geometry_of p.moment) (moment_of p.moment) script 0 1 p
passed_first script p none = record {
  within = omega arith;
  few = omega arith;
  geometry = refl;
  tables = ap (λ (l : List (Vec PlainFile Global)). map files_of l ++ end_tables (geometry_of p.moment) (moment_of p.moment) (lines script)) none;
  tight = refl;
}

module _ (g : Geometry) (m : Moment) (script : List ℕ) (at number : ℕ) (p : Passed) (was : IsPassed g m script at number p) (line : List ℕ) (behind : ℕ) (is : IsLine script at line behind) where
  -- a line that is passed
  pub passed_on : (next : Passed) → PassesOn (sort_of line) p next → IsPassed g m script behind (number + 1) next
  passed_on next on =
      let tight : is_tight g (moment_of p.moment) (sort_of line) ≡ false = subst (λ (h : Geometry). is_tight h (moment_of p.moment) (sort_of line) ≡ false) was.geometry on.tight in
      let moment : moment_of next.moment ≡ moment_behind g (moment_of p.moment) (sort_of line) = on.moment ∙ ap (λ (h : Geometry). moment_behind h (moment_of p.moment) (sort_of line)) was.geometry in
      record {
        within = is.within;
        few = omega (arith, was.few, is.on);
        geometry = on.geometry ∙ was.geometry;
        tables = on.tables (end_tables g (moment_of next.moment) (lines (drop behind script)))
            ∙ ap (λ (j : Moment). map files_of p.tables.items ++ with_end (moment_of p.moment).state.table (sort_of line) (end_tables g j (lines (drop behind script)))) moment
            ∙ ap (λ (ts : List (List File)). map files_of p.tables.items ++ ts) (sym (end_on g (moment_of p.moment) line (lines (drop behind script))))
            ∙ ap (λ (ls : List (List ℕ)). map files_of p.tables.items ++ end_tables g (moment_of p.moment) ls) (sym is.lines_are) ∙ was.tables;
        tight = ap (λ (j : Moment). first_tight g j (number + 1) (lines (drop behind script))) moment ∙ sym (tight_on g (moment_of p.moment) number line (lines (drop behind script)) tight)
            ∙ ap (first_tight g (moment_of p.moment) number) (sym is.lines_are) ∙ was.tight;
      }

  -- a call that may be tight
  pub passed_tight : is_tight (geometry_of p.moment) (moment_of p.moment) (sort_of line) ≡ true → first_tight g m 1 (lines script) ≡ Some number
  passed_tight so =
      let here : is_tight g (moment_of p.moment) (sort_of line) ≡ true = subst (λ (h : Geometry). is_tight h (moment_of p.moment) (sort_of line) ≡ true) was.geometry so in
      sym was.tight ∙ ap (first_tight g (moment_of p.moment) number) is.lines_are ∙ tight_here g (moment_of p.moment) number line (lines (drop behind script)) here

-- behind the last line
module _ (g : Geometry) (m : Moment) (script : List ℕ) (at number : ℕ) (p : Passed) (was : IsPassed g m script at number p) (none : lines (drop at script) ≡ []) where
  pub passed_all : first_tight g m 1 (lines script) ≡ None
  unfolding first_tight
  passed_all = sym was.tight ∙ ap (first_tight g (moment_of p.moment) number) none

  pub passed_end : (last : Passed) → PassesOn Ends p last → map files_of last.tables.items ≡ end_tables g m (lines script)
  unfolding end_tables
  passed_end last on = sym (append-nil (map files_of last.tables.items)) ∙ on.tables []
      ∙ ap (λ (ls : List (List ℕ)). map files_of p.tables.items ++ end_tables g (moment_of p.moment) ls) (sym none) ∙ was.tables
