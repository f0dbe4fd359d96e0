-- What a line of a script is to a rehearsal: a call, a promise, or neither.
use Rattle.std.specs.Prelude.{ℕ, ◌++◌, Bool, false, List, [], ◌∷◌, codes, Option, Some, None, ◌==◌, ◌&&◌, if◌then◌else◌}
use Rattle.table_model.specs.Ask.{Ask, Creates}
use Rattle.call_script.specs.Lines.{Parsed, NoCall, Asks, Bad, words, is_text, of_line}
use Rattle.promise_model.specs.declared.form.Form.{Form}
use Rattle.promise_model.specs.declared.form.Form.TheVariants.{First, Any, Kept}

-- A line is empty or a comment, a call, a promise of one form on some names, the end of the promises `first`, outside the grammar, or a line
-- `#!` that is none of these.
pub data Sort : Type 0 where
  Blank : Sort
  Calls : (ask : Ask) → Sort
  Promises : (form : Form) → (names : List (List ℕ)) → Sort
  Ends : Sort
  BadCall : Sort
  BadPromise : Sort

-- the name of a call that makes a file
abbrev pub created_name : Parsed → Option (List ℕ)
created_name (Asks (Creates name)) = Some name
created_name _ = None

-- the name that a word spells: that of the file which the line `create WORD` makes
unfoldable pub name_of : List ℕ → Option (List ℕ)
name_of word = created_name (of_line (codes "create " ++ word))

-- a name before others, where all are spelled
abbrev pub before_names : Option (List ℕ) → Option (List (List ℕ)) → Option (List (List ℕ))
before_names None more = None
before_names (Some name) None = None
before_names (Some name) (Some more) = Some (name ∷ more)

-- the names that some words spell, where each spells one
unfoldable pub names_of : List (List ℕ) → Option (List (List ℕ))
names_of [] = Some []
names_of (w ∷ ws) = before_names (name_of w) (names_of ws)

-- a promise on some names, where they were spelled
abbrev pub promise_on : Form → Option (List (List ℕ)) → Sort
promise_on form None = BadPromise
promise_on form (Some names) = Promises form names

-- a promise on one name
abbrev pub promise_on_one : Option (List (List ℕ)) → Sort
promise_on_one (Some (name ∷ [])) = Promises Kept (name ∷ [])
promise_on_one _ = BadPromise

-- the promise of a form's word and the words behind it, of which there is one at least
abbrev pub promised_on : List ℕ → List (List ℕ) → Sort
promised_on form ws =
    if is_text form (codes "first") then promise_on First (names_of ws)
    else if is_text form (codes "some") then promise_on Any (names_of ws)
    else if is_text form (codes "kept") then promise_on_one (names_of ws)
    else BadPromise

-- what the words behind `#!` say
abbrev pub said_by : List (List ℕ) → Sort
said_by [] = BadPromise
said_by (form ∷ []) = if is_text form (codes "end") then Ends else BadPromise
said_by (form ∷ w ∷ ws) = promised_on form (w ∷ ws)

-- what the words of a line `#!` say
unfoldable pub promised : List (List ℕ) → Sort
promised [] = BadPromise
promised (mark ∷ ws) = if is_text mark (codes "#!") then said_by ws else BadPromise

-- a line begins with `#!`
abbrev pub is_marked : List ℕ → Bool
is_marked [] = false
is_marked (a ∷ []) = false
is_marked (a ∷ b ∷ bs) = (a == 35) && (b == 33)

-- what a line is that the grammar reads so
abbrev pub sort_by : Parsed → List ℕ → Sort
sort_by NoCall line = if is_marked line then promised (words line) else Blank
sort_by (Asks ask) line = Calls ask
sort_by Bad line = BadCall

-- what a line is
unfoldable pub sort_of : List ℕ → Sort
sort_of line = sort_by (of_line line) line
