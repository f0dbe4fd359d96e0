-- The texts of replies.
use Rattle.std.specs.Prelude.{ℕ, List, [], ◌∷◌, ◌++◌, length, codes, decimal}
use Rattle.std.specs.Fmt.{signed_decimal}
use Rattle.table_model.specs.Reply.{Answer, Fine, Tells, Gives, Shows, Ends, Counts, Refuses}
use Rattle.table_model.specs.Numbers.{number_of}
use Rattle.table_model.specs.declared.reply.Stat.{Stat}
use Rattle.table_model.specs.declared.reply.Info.{Info}
use Rattle.call_script.specs.Texts.{printed, hex_text}

-- bytes that were read: how many, and the bytes where there are any
abbrev pub bytes_text : List ℕ → List ℕ
bytes_text [] = codes "0"
bytes_text (b ∷ bs) = decimal (length (b ∷ bs)) ++ 32 ∷ printed (b ∷ bs)

-- the meta bytes behind a file's name, where there are any
abbrev pub meta_text : List ℕ → List ℕ
meta_text [] = []
meta_text (m ∷ ms) = 32 ∷ hex_text (m ∷ ms)

-- a file's id, type, size, name and meta bytes
unfoldable pub stat_text : Stat → List ℕ
stat_text s = decimal s.id ++ 32 ∷ decimal s.kind ++ 32 ∷ decimal s.size ++ 32 ∷ printed s.name ++ meta_text s.meta

-- how many files, index pages, data pages and usable pages there are
unfoldable pub info_text : Info → List ℕ
info_text i =
    codes "files " ++ decimal i.files ++ codes " index " ++ decimal i.index_pages ++ codes " data " ++ decimal i.data_pages
    ++ codes " usable " ++ decimal i.usable_pages

-- a reply but for the byte that ends it
unfoldable pub told : Answer → List ℕ
told Fine = codes "ok"
told (Tells n) = codes "ok " ++ decimal n
told (Gives bytes) = codes "ok " ++ bytes_text bytes
told (Shows stat) = codes "ok " ++ stat_text stat
told Ends = codes "ok none"
told (Counts info) = codes "ok " ++ info_text info
told (Refuses why) = signed_decimal (number_of why)

-- the line of a reply
abbrev pub text : Answer → List ℕ
text answer = told answer ++ 10 ∷ []
