-- The files of a table one after the other, in order of ids.
use Rattle.std.proofs.Common.{◌≡◌, ℕ, ◌+◌, ◌<◌, ◌≤◌, List, [], ◌∷◌, length, Option, Some, None, ap, refl, sym, ◌∙◌, arith, subst}
use Rattle.std.proofs.lemmas.Option.{none-some, same_Some}
use Rattle.std.proofs.lemmas.List.Sums.{sum_by-cons}
use Rattle.geometry.specs.declared.geometry.Geometry.{Geometry}
use Rattle.nor_core.specs.declared.state.NorState.{Ghosts as NorOf}
use Rattle.table_model.specs.declared.reply.Stat.{Stat}
use Rattle.table_model.specs.Table.{File, State, file_above}
use Rattle.table_model.specs.Files.{stat_of}
use Rattle.table_model.specs.Calls.{shown}
use Rattle.table_model.specs.Reply.{Ends, Shows}
use Rattle.table_model.proofs.Ascending.{Ascends, head_found, found_behind}
use Rattle.image_laws.proofs.Ascending.{table-ascends}
use Rattle.volume.specs.declared.volume.Volume.{Volume}
use Rattle.file_calls.specs.Replies.{shown_or_end}
use Rattle.volume_run.specs.declared.asking.Stop.{Stop}
use Rattle.volume_run.specs.Ready.{IsReady}
use Rattle.volume_run.specs.Stops.{StopsFrom}
use Rattle.volume_soak.specs.Turns.{bytes_in}
use Rattle.volume_soak.specs.Doing.{Finds, FindsFrom, HasCountedFrom}

-- the id of a file
abbrev pub id_of : File → ℕ
id_of f = f.id

-- The files of a table up to an id were counted, and these are left.
pub record Counted (table : List File) (after files bytes : ℕ) : Type 0 where
  pub rest : List File
  pub ascends : Ascends id_of after rest
  pub same : (id : ℕ) → after ≤ id → file_above id table ≡ file_above id rest
  pub many : files + length rest ≡ length table
  pub sum : bytes + bytes_in rest ≡ bytes_in table
  pub few : files ≤ after
  pub small : after < 65536

no_bytes : bytes_in [] ≡ 0
unfolding bytes_in
no_bytes = refl

more_bytes : (f : File) (files : List File) → bytes_in (f ∷ files) ≡ length f.bytes + bytes_in files
unfolding bytes_in
more_bytes f files = sum_by-cons (λ (x : File). length x.bytes) f files

first_above : (x : File) (xs : List File) (after : ℕ) → after < x.id → file_above after (x ∷ xs) ≡ Some x
unfolding file_above
first_above x xs after lt = head_found id_of x xs after lt

behind : (x : File) (xs : List File) (id : ℕ) → x.id ≤ id → file_above id (x ∷ xs) ≡ file_above id xs
unfolding file_above
behind x xs id le = found_behind id_of x xs id le

none_above : (after : ℕ) → file_above after [] ≡ None
unfolding file_above
none_above after = refl

-- a file that is shown
shown_file : (stat : Stat) (o : Option File) → Shows stat ≡ shown o → (f : File) × (o ≡ Some f) × (stat ≡ stat_of f)
shown_file stat None is = absurd (let no : Shows stat ≡ Ends = is in cc)
shown_file stat (Some f) is = (f, refl, cc)

no_file : (o : Option File) → Ends ≡ shown o → o ≡ None
no_file None is = refl
no_file (Some f) is = absurd (let no : Ends ≡ Shows (stat_of f) = is in cc)

-- nothing was counted
counted_none : (table : List File) → Ascends id_of 0 table → Counted table 0 0 0
counted_none table asc = record { rest = table; ascends = asc; same = λ id le. refl; many = omega arith; sum = omega arith; few = omega arith; small = omega arith }

some_more : (table rest : List File) (after files bytes : ℕ) (f : File) → Ascends id_of after rest → ((id : ℕ) → after ≤ id → file_above id table ≡ file_above id rest) → files + length rest ≡ length table →
    bytes + bytes_in rest ≡ bytes_in table → files ≤ after → file_above after rest ≡ Some f → f.id < 65536 → Counted table f.id (files + 1) (bytes + length f.bytes)
unfolding Ascends
some_more table [] after files bytes f asc same many sum few is small = absurd (none-some f (sym (none_above after) ∙ is))
some_more table (x ∷ xs) after files bytes f asc same many sum few is small =
    let here : x ≡ f = same_Some x f (sym (first_above x xs after asc.0) ∙ is) in
    let at : x.id ≡ f.id = ap id_of here in
    let size : length x.bytes ≡ length f.bytes = ap (λ (y : File). length y.bytes) here in
    record {
      rest = xs;
      ascends = subst (λ (n : ℕ). Ascends id_of n xs) at asc.1;
      same = λ id le. same id (omega (arith, at, asc.0, le)) ∙ behind x xs id (omega (arith, at, le));
      many = omega (arith, many);
      sum = omega (arith, sum, more_bytes x xs, size);
      few = omega (arith, few, asc.0, at);
      small = small;
    }

-- a file more was counted
counted_more : (table : List File) (after files bytes : ℕ) (f : File) → Counted table after files bytes → file_above after table ≡ Some f → f.id < 65536 → Counted table f.id (files + 1) (bytes + length f.bytes)
counted_more table after files bytes f c is small = some_more table c.rest after files bytes f c.ascends c.same c.many c.sum c.few (sym (c.same after (omega arith)) ∙ is) small

none_left : (after : ℕ) (rest : List File) → Ascends id_of after rest → file_above after rest ≡ None → rest ≡ []
unfolding Ascends
none_left after [] asc is = refl
none_left after (x ∷ xs) asc is = absurd (none-some x (sym is ∙ first_above x xs after asc.0))

-- the next file of a volume at a state was told, and those before it were counted
pub record IsCounting {N : Type 0} {nor : NorOf N} (g : Geometry) (s : State) (v : Volume N nor) (found : Option Stat) (files bytes : ℕ) : Type 0 where
  pub after : ℕ
  pub finds : Finds g s after v found
  pub counted : Counted s.table after files bytes

-- the same of a volume that stood at any state
abbrev pub IsCountingFrom : {N : Type 0} {nor : NorOf N} → Volume N nor → Volume N nor → Option Stat → (files bytes : ℕ) → Type 0
IsCountingFrom old v found files bytes = (g : Geometry) (s : State) → IsReady g old s → IsCounting g s v found files bytes

module _ {N : Type 0} {nor : NorOf N} where
  pub counting_none : {old v : Volume N nor} (found : Option Stat) → FindsFrom old 0 v found → IsCountingFrom old v found 0 0
  counting_none {old} {v} found finds = λ g s ready.
      let f = finds g s ready in
      record { after = 0; finds = f; counted = counted_none s.table (subst (λ (t : List File). Ascends id_of 0 t) f.table (table-ascends g (nor.bytes v.nor.now))) }

  pub counting_more : {old mid new : Volume N nor} (stat : Stat) (seen found : Option Stat) (files bytes : ℕ) → stat.id < 65536 → seen ≡ Some stat → IsCountingFrom old mid seen files bytes → FindsFrom mid stat.id new found → IsCountingFrom old new found (files + 1) (bytes + stat.size)
  counting_more {old} {mid} {new} stat seen found files bytes small is counting finds = λ g s ready.
      let c = counting g s ready in
      let w = shown_file stat (file_above c.after s.table) (sym (ap shown_or_end is) ∙ c.finds.found_is) in
      let at : stat.id ≡ w.0.id = ap (λ (t : Stat). t.id) w.2 in
      let size : stat.size ≡ length w.0.bytes = ap (λ (t : Stat). t.size) w.2 in
      record {
        after = stat.id;
        finds = finds g s c.finds.ready;
        counted = subst (λ (id : ℕ). Counted s.table id (files + 1) (bytes + stat.size)) (sym at)
            (subst (λ (n : ℕ). Counted s.table w.0.id (files + 1) (bytes + n)) (sym size) (counted_more s.table c.after files bytes w.0 c.counted w.1 (omega (arith, at, small))));
      }

  -- no file is left
  pub counted_all : {old v : Volume N nor} (seen : Option Stat) (files bytes : ℕ) → seen ≡ None → IsCountingFrom old v seen files bytes → HasCountedFrom old v files bytes
  counted_all seen files bytes is counting = λ g s ready.
      let c = counting g s ready in
      let none : file_above c.after s.table ≡ None = no_file (file_above c.after s.table) (sym (ap shown_or_end is) ∙ c.finds.found_is) in
      let left : c.counted.rest ≡ [] = none_left c.after c.counted.rest c.counted.ascends (sym (c.counted.same c.after (omega arith)) ∙ none) in
      record {
        ready = c.finds.ready;
        files_are = omega (arith, c.counted.many, ap (λ (l : List File). length l) left);
        bytes_are = omega (arith, c.counted.sum, ap bytes_in left, no_bytes);
      }

  -- there are fewer files than that
  pub never_many : {old v : Volume N nor} (found : Option Stat) (files bytes : ℕ) → 65536 ≤ files → IsCountingFrom old v found files bytes → HasCountedFrom old v files bytes
  never_many found files bytes many counting = λ g s ready. let c = counting g s ready in absurd (omega (arith, many, c.counted.few, c.counted.small))

  -- stopped after files that were counted
  pub stops_counting : {old mid : Volume N nor} (found : Option Stat) (files bytes : ℕ) (why : Stop) → IsCountingFrom old mid found files bytes → StopsFrom mid why → StopsFrom old why
  stops_counting found files bytes why counting stops = λ g s ready. stops g s (counting g s ready).finds.ready
