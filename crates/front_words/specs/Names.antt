-- The names in a line.
use Rattle.std.specs.Prelude.{ℕ, List, slice_get, Option, Some, None, option_and_then, if◌then◌else◌}
use Rattle.front_words.specs.declared.word.Word.{Word}
use Rattle.front_words.specs.declared.word.Word.TheVariants.{Ls, Pack, Gen, Unpack, Fsck, Cat, Put, Rm, Mv, Df, Size, Picture}
use Rattle.front_words.specs.declared.option.Slot.{Slot}
use Rattle.front_words.specs.declared.option.Slot.TheVariants.{Create, Unpack as UnpackSlot}
use Rattle.front_words.specs.declared.asked.Asked.{Asked}
use Rattle.front_words.specs.Tokens.{Part, places, Held, Nothing, Once, Twice}
use Rattle.front_words.specs.Asking.{in_slot}

-- in which place the image stands
abbrev pub image_at : Word → Option ℕ
image_at Ls = Some 1
image_at Pack = Some 2
image_at Gen = Some 3
image_at Unpack = Some 1
image_at Fsck = Some 1
image_at Cat = Some 1
image_at Put = Some 1
image_at Rm = Some 1
image_at Mv = Some 1
image_at Df = Some 1
image_at Size = None
image_at Picture = Some 1

-- in which place the folder stands
abbrev pub folder_at : Word → Option ℕ
folder_at Ls = None
folder_at Pack = Some 1
folder_at Gen = Some 2
folder_at Unpack = Some 2
folder_at Fsck = None
folder_at Cat = None
folder_at Put = None
folder_at Rm = None
folder_at Mv = None
folder_at Df = None
folder_at Size = Some 1
folder_at Picture = None

-- the value that is held once
abbrev pub once : Held → Option (List ℕ)
once Nothing = None
once (Once text) = Some text
once Twice = None

abbrev pub once_in : Slot → List Part → Option (List ℕ)
once_in slot ps = once (in_slot slot ps)

-- the word in a place, if there is such a place
abbrev pub at_place : Option ℕ → List (List ℕ) → Option (List ℕ)
at_place None ws = None
at_place (Some i) ws = slice_get ws i

-- the name of the image
abbrev pub image_in : Asked → List Part → Option (List ℕ)
image_in asked ps = if asked.by_option then slice_get (places ps) 0 else at_place (image_at asked.word) (places ps)

-- the value of the option of mkspiffs that names a folder
abbrev pub folder_by : Word → List Part → Option (List ℕ)
folder_by Ls ps = None
folder_by Pack ps = once_in Create ps
folder_by Gen ps = None
folder_by Unpack ps = once_in UnpackSlot ps
folder_by Fsck ps = None
folder_by Cat ps = None
folder_by Put ps = None
folder_by Rm ps = None
folder_by Mv ps = None
folder_by Df ps = None
folder_by Size ps = None
folder_by Picture ps = None

-- the name of the folder
abbrev pub folder_in : Asked → List Part → Option (List ℕ)
folder_in asked ps = if asked.by_option then folder_by asked.word ps else at_place (folder_at asked.word) (places ps)
