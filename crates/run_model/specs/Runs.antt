-- The calls of a script, their replies, and what a power cut in them may leave.
use Rattle.std.specs.Prelude.{◌≡◌, ℕ, ◌+◌, ◌<◌, List, [], ◌∷◌, ◌++◌, length, map, Bool, true, false, None, nat_le}
use Rattle.geometry.specs.declared.geometry.Geometry.{Geometry}
use Rattle.geometry.specs.Numbers.{ceil, entries}
use Rattle.table_model.specs.Table.{File, State}
use Rattle.table_model.specs.Room.{index_count, data_count}
use Rattle.table_model.specs.Ask.{Ask}
use Rattle.table_model.specs.Flat.{answer}
use Rattle.table_model.specs.Steps.{steps, is_refusal, cuts_file}
use Rattle.table_model.specs.Window.{Moment, after, from_settled, IsAmong}
use Rattle.call_script.specs.Replies.{text}
use Rattle.image_model.specs.Tables.{table_of}
use Rattle.image_model.specs.Collect.{chosen_block, are_had}

-- A table has room for an index page where its pages and one such page more, each kind in blocks of its own, leave two blocks free.
unfoldable pub has_index_room : Geometry → List File → Bool
has_index_room g files = nat_le (ceil (index_count g files + 1) (entries g) + ceil (data_count g files) (entries g) + 2) g.blocks

-- The corner: a call cuts a file, and with two free blocks the flat table does so, but the table has no room for an index page. A cut needs
-- one, for the file's new header page, and the pages that it takes away are free only after it. So there may be no page.
pub record IsCorner (g : Geometry) (s : State) (ask : Ask) : Type 0 where
  pub cuts : cuts_file ask ≡ true
  pub full : has_index_room g s.table ≡ false
  pub done : is_refusal (answer g true s ask).answer ≡ false

-- A call of a run, and how it is answered: with `spare` as the flat table is with two free blocks, which a run has before each call; without
-- as with fewer, which is Tight where a page is needed.
pub record RunCall : Type 0 where
  pub ask : Ask
  pub spare : Bool

-- a call is answered as with fewer in the corner alone
abbrev pub IsFair : Geometry → Moment → RunCall → Type 0
IsFair g m call = call.spare ≡ false → IsCorner g m.state call.ask

-- the moment after a call
abbrev pub next : Geometry → Moment → RunCall → Moment
next g m call = after g call.spare m call.ask

-- the reply line of a call
unfoldable pub said_of : Geometry → Moment → RunCall → List ℕ
said_of g m call = text (answer g call.spare m.state call.ask).answer

-- what some calls ask
abbrev pub asks_of : List RunCall → List Ask
asks_of calls = map (λ call. call.ask) calls

-- some calls, each answered as with two free blocks
abbrev pub plain : List Ask → List RunCall
plain asks = map (λ ask. record { ask = ask; spare = true }) asks

-- the moment after some calls, one after the other
unfoldable pub after_all : Geometry → Moment → List RunCall → Moment
after_all g m [] = m
after_all g m (call ∷ calls) = after_all g (next g m call) calls

-- the reply lines of some calls
unfoldable pub replies : Geometry → Moment → List RunCall → List ℕ
replies g m [] = []
replies g m (call ∷ calls) = said_of g m call ++ replies g (next g m call) calls

-- each of some calls, one after the other, is answered as with fewer in the corner alone
unfoldable pub AreFair : Geometry → Moment → List RunCall → Type 0
AreFair g m [] = Unit {0}
AreFair g m (call ∷ calls) = IsFair g m call × AreFair g (next g m call) calls

-- these bytes are a front of a line, and not all of it
pub record IsPart (said whole : List ℕ) : Type 0 where
  pub rest : List ℕ
  pub whole_is : whole ≡ said ++ rest
  pub some : 0 < length rest

-- No block that is worth cleaning can be cleaned, and no page is had for an index page.
pub record LacksPage (g : Geometry) (image : List ℕ) : Type 0 where
  pub stuck : chosen_block g image ≡ None
  pub none_had : are_had g image 1 0 ≡ false

-- A cut in a call, a part of its reply said: the table is one from the last settled to the last step of the call. Once a byte was said, it is
-- one to the last step of the call as it is answered; and the image lacks a page, where the call is answered without one.
pub record IsInCall (g : Geometry) (m : Moment) (call : RunCall) (part image : List ℕ) : Type 0 where
  pub said : IsPart part (said_of g m call)
  pub among : IsAmong (table_of g image) (from_settled m (steps g true m.state call.ask))
  pub once_said : 0 < length part → IsAmong (table_of g image) (from_settled m (steps g call.spare m.state call.ask))
  pub lacks : 0 < length part → call.spare ≡ false → LacksPage g image

-- what stands while the first of some calls is under way, a part of its reply said
unfoldable pub IsUnderWay : Geometry → Moment → List RunCall → (part image : List ℕ) → Type 0
IsUnderWay g m [] part image = (part ≡ []) × IsAmong (table_of g image) (from_settled m [])
IsUnderWay g m (call ∷ calls) part image = IsInCall g m call part image

-- A cut in some calls, by those whose replies were said whole: these replies were said and a part of the next, and the table of the image is
-- one from the last that these calls settled to the last step of the next call.
pub record IsCut (g : Geometry) (m : Moment) (calls : List RunCall) (said image : List ℕ) : Type 0 where
  pub front : List RunCall
  pub later : List RunCall
  pub part : List ℕ
  pub calls_are : calls ≡ front ++ later
  pub said_is : said ≡ replies g m front ++ part
  pub under_way : IsUnderWay g (after_all g m front) later part image
