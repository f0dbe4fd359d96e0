-- Frames of lent bytes that hold copies of pages: two bytes tell the page's number, six tell where other pages are, and the
-- page's bytes follow.
use Rattle.std.specs.Prelude.{ℕ, ◌≡◌, ◌≢◌, ◌+◌, ◌*◌, ◌/◌, ◌%◌, ◌<◌, ◌≤◌, ◌==◌, ◌⊎◌, min, true, Bool, List, length, slice_index, slice_range}
use Rattle.geometry.specs.declared.geometry.Geometry.{Geometry}
use Rattle.geometry.specs.Numbers.{page_count}
use Rattle.nor_core.specs.Flash.{programmed, erased}
use Rattle.page_cache.specs.Counting.{some_below, many_below}
use Rattle.page_cache.specs.declared.frame.Event.{Event}
use Rattle.page_cache.specs.declared.frame.Event.TheVariants.{Program, Erase, Failure}

-- bytes of a frame
abbrev pub frame_size : Geometry → ℕ
frame_size g = g.page + 8

-- how many frames these bytes hold, at most as many as a volume has pages
unfoldable pub frame_count : Geometry → List ℕ → ℕ
frame_count g frames = min (length frames / frame_size g) 65535

-- the bytes of a frame
unfoldable pub frame_at : Geometry → List ℕ → ℕ → List ℕ
frame_at g frames f = slice_range frames (f * frame_size g) (f * frame_size g + frame_size g)

-- the number in a frame's first two bytes, little endian
abbrev pub number_of : List ℕ → ℕ
number_of frame = slice_index frame 0 + 256 * slice_index frame 1

-- a number in two bytes of a frame, little endian
abbrev pub word_in : List ℕ → ℕ → ℕ
word_in frame k = slice_index frame k + 256 * slice_index frame (k + 1)

-- the page whose copy a frame holds; a number that is no page's tells that it is free
abbrev pub page_in : Geometry → List ℕ → ℕ → ℕ
page_in g frames f = number_of (frame_at g frames f)

-- a page's copy is held
abbrev pub holds : Geometry → List ℕ → ℕ → Bool
holds g frames page = some_below (λ f. page_in g frames f == page) (frame_count g frames)

-- how many pages of the volume are held
abbrev pub held : Geometry → List ℕ → ℕ
held g frames = many_below (holds g frames) (page_count g)

-- each page of the volume that was held is held
abbrev pub KeepsHeld : Geometry → List ℕ → List ℕ → Type 0
KeepsHeld g old new = (page : ℕ) → page < page_count g → holds g old page ≡ true → holds g new page ≡ true

-- the bytes of a page lie outside a range of the device
abbrev pub LiesOutside : ℕ → ℕ → ℕ → ℕ → Type 0
LiesOutside page at count number = (number * page + page ≤ at) ⊎ (at + count ≤ number * page)

-- each page of the volume that was held and lies outside a range of the device is held
abbrev pub KeepsOutside : Geometry → ℕ → ℕ → List ℕ → List ℕ → Type 0
KeepsOutside g at count old new = (page : ℕ) → page < page_count g → LiesOutside g.page at count page → holds g old page ≡ true → holds g new page ≡ true

-- each page of the volume that was held, but one, is held
abbrev pub KeepsAllBut : Geometry → ℕ → List ℕ → List ℕ → Type 0
KeepsAllBut g gone old new = (page : ℕ) → page < page_count g → page ≢ gone → holds g old page ≡ true → holds g new page ≡ true

-- no frame is free
abbrev pub AllInUse : Geometry → List ℕ → Type 0
AllInUse g frames = (f : ℕ) → f < frame_count g frames → page_in g frames f < page_count g

-- with a frame for each page, a frame that is in use holds the page of its own number
abbrev pub IsPlaced : Geometry → List ℕ → Type 0
IsPlaced g frames = page_count g ≤ frame_count g frames → (f : ℕ) → f < frame_count g frames → page_in g frames f < page_count g → page_in g frames f ≡ f

-- a page's home: the frame that is looked at first, and that gives up its page where none is free
abbrev pub home_of : Geometry → List ℕ → ℕ → ℕ
home_of g frames page = page % frame_count g frames

-- from this frame on, and before the next one's number, stand pages whose home is a frame and that aren't there
abbrev pub since_of : Geometry → List ℕ → ℕ → ℕ
since_of g frames home = word_in (frame_at g frames home) 2

abbrev pub until_of : Geometry → List ℕ → ℕ → ℕ
until_of g frames home = word_in (frame_at g frames home) 4

-- no frame below this one is free
abbrev pub used_to : Geometry → List ℕ → ℕ
used_to g frames = word_in (frame_at g frames 0) 6

-- a frame is where a page is looked for: its home, or else one of those that its home tells
abbrev pub IsNear : Geometry → List ℕ → (page frame : ℕ) → Type 0
IsNear g frames page frame = frame ≢ home_of g frames page →
    (since_of g frames (home_of g frames page) ≤ frame) × (frame < until_of g frames (home_of g frames page))

-- each page that is held stands in one frame alone, where it is looked for, and no frame below a number is free
pub record IsFindable (g : Geometry) (frames : List ℕ) : Type 0 where
  pub placed : IsPlaced g frames
  pub near : (f : ℕ) → f < frame_count g frames → page_in g frames f < page_count g → IsNear g frames (page_in g frames f) f
  pub one : (f h : ℕ) → f < frame_count g frames → h < frame_count g frames → page_in g frames f < page_count g →
      page_in g frames f ≡ page_in g frames h → f ≡ h
  pub used : (f : ℕ) → f < used_to g frames → f < frame_count g frames → page_in g frames f < page_count g

-- what a frame tells of other pages stays
pub record SameHead (old new : List ℕ) : Type 0 where
  pub since : word_in new 2 ≡ word_in old 2
  pub until : word_in new 4 ≡ word_in old 4
  pub used : word_in new 6 ≡ word_in old 6

-- a frame's number and its page's bytes stay
pub record SameCopy (old new : List ℕ) : Type 0 where
  pub number : number_of new ≡ number_of old
  pub bytes : (k : ℕ) → 8 ≤ k → slice_index new k ≡ slice_index old k

-- all frames keep their numbers and their pages' bytes
abbrev pub AreSameCopies : Geometry → List ℕ → List ℕ → Type 0
AreSameCopies g old new = (f : ℕ) → SameCopy (frame_at g old f) (frame_at g new f)

-- the frames that a home tells are those of before and one more
pub record Widened (frame : ℕ) (old new : List ℕ) : Type 0 where
  pub copy : SameCopy old new
  pub used : word_in new 6 ≡ word_in old 6
  pub low : word_in new 2 ≤ frame
  pub high : frame < word_in new 4
  pub wider : (x : ℕ) → word_in old 2 ≤ x → x < word_in old 4 → (word_in new 2 ≤ x) × (x < word_in new 4)

-- the number below which no frame is free is another
pub record Bounded (count : ℕ) (old new : List ℕ) : Type 0 where
  pub copy : SameCopy old new
  pub since : word_in new 2 ≡ word_in old 2
  pub until : word_in new 4 ≡ word_in old 4
  pub used : word_in new 6 ≡ count

-- a frame holds the bytes that its page has
abbrev pub IsCopy : ℕ → List ℕ → List ℕ → Type 0
IsCopy page bytes frame = (i : ℕ) → i < page → slice_index frame (8 + i) ≡ slice_index bytes (number_of frame * page + i)

-- each frame that is in use holds the bytes that its page has
abbrev pub AreCopies : Geometry → List ℕ → List ℕ → Type 0
AreCopies g bytes frames = (f : ℕ) → f < frame_count g frames → page_in g frames f < page_count g → IsCopy g.page bytes (frame_at g frames f)

-- a frame goes with a program: what was a copy before it is a copy after it
pub record GoesWithProgram (page at : ℕ) (from old new : List ℕ) : Type 0 where
  pub number : number_of new ≡ number_of old
  pub head : SameHead old new
  pub goes : (bytes : List ℕ) → IsCopy page bytes old → IsCopy page (programmed bytes at from) new

-- a frame goes with an erase
pub record GoesWithErase (page at count : ℕ) (old new : List ℕ) : Type 0 where
  pub number : number_of new ≡ number_of old
  pub head : SameHead old new
  pub goes : (bytes : List ℕ) → at + count ≤ length bytes → IsCopy page bytes old → IsCopy page (erased bytes at count) new

-- a frame was given up where a range of the device meets its page, and else stays
abbrev pub GivenUp : ℕ → ℕ → ℕ → List ℕ → List ℕ → Type 0
GivenUp page at count old new = ((number_of new ≡ 65535) × (at < number_of old * page + page) × (number_of old * page < at + count) × SameHead old new)
    ⊎ ((new ≡ old) × LiesOutside page at count (number_of old))

-- how many bytes of the device an event meets
abbrev pub span_of : Event → ℕ
span_of (Program from) = length from.now
span_of (Erase count) = count
span_of (Failure count) = count

-- a frame goes with an event that meets the device from a byte on
abbrev pub Follows : (page at : ℕ) → Event → List ℕ → List ℕ → Type 0
Follows page at (Program from) = GoesWithProgram page at from.now
Follows page at (Erase count) = GoesWithErase page at count
Follows page at (Failure count) = GivenUp page at count

-- before a failure, by which frames may become free, no frame is told to be in use
abbrev pub IsReady : Geometry → Event → List ℕ → Type 0
IsReady g (Program from) frames = Unit {0}
IsReady g (Erase count) frames = Unit {0}
IsReady g (Failure count) frames = used_to g frames ≡ 0

-- a frame that is free, and tells of no other
abbrev pub IsFree : List ℕ → List ℕ → Type 0
IsFree old new = (number_of new ≡ 65535) × (word_in new 6 ≡ 0)

-- each frame became another by a relation
abbrev pub EachFrame : Geometry → (List ℕ → List ℕ → Type 0) → List ℕ → List ℕ → Type 0
EachFrame g R old new = (f : ℕ) → f < frame_count g old → R (frame_at g old f) (frame_at g new f)

-- each frame that held a page of the volume became another by a relation, and the others stay
pub record EachPage (g : Geometry) (R : List ℕ → List ℕ → Type 0) (old new : List ℕ) : Type 0 where
  pub pages : (f : ℕ) → f < frame_count g old → page_in g old f < page_count g → R (frame_at g old f) (frame_at g new f)
  pub rest : (f : ℕ) → page_count g ≤ page_in g old f → frame_at g new f ≡ frame_at g old f

-- the frames that hold one page became others by a relation, and the others stay
pub record OnePage (g : Geometry) (R : List ℕ → List ℕ → Type 0) (page : ℕ) (old new : List ℕ) : Type 0 where
  pub here : (f : ℕ) → f < frame_count g old → page_in g old f ≡ page → R (frame_at g old f) (frame_at g new f)
  pub others : (f : ℕ) → page_in g old f ≢ page → frame_at g new f ≡ frame_at g old f

-- so many bytes from a place on lie in one page of the volume
pub record InOnePage (g : Geometry) (at count : ℕ) : Type 0 where
  pub page : at / g.page < page_count g
  pub inside : at % g.page + count ≤ g.page
