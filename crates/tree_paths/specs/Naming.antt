-- Names of files of a volume, and paths of a tree of folders.
use Rattle.std.specs.Prelude.{ℕ, ◌+◌, List, [], ◌∷◌, ◌++◌, length, take, drop, codes, Bool, true, false, not, nat_eq, nat_lt, nat_le, ◌==◌, ◌&&◌, ◌||◌}
use Rattle.std.specs.Prelude.{if◌then◌else◌}
use Rattle.std.specs.List.{flat_map, list_any}
use Rattle.std.specs.Cmp.Lexicographic.{pointwise}
use Rattle.std.specs.Char.{is_ascii_graphic}
use Rattle.std.specs.Str.{is_utf8}
use Rattle.call_script.specs.Texts.{hex_pair, unescaped}
use Rattle.tree_paths.specs.Tree.{is_tree_path}

-- the folder of the names that are no paths of a tree, and the slash behind it
abbrev pub aside : List ℕ
aside = codes "names-that-do-not-fit-into-a-tree/"

-- a slash and a path of up to 30 bytes of UTF-8, by which a host goes down alone
abbrev pub is_plain : List ℕ → Bool
is_plain [] = false
is_plain (b ∷ path) = (b == 47) && (nat_le (length path) 30 && (is_tree_path path && is_utf8 path))

-- a byte that stands for itself in a part of a path
abbrev pub stands : ℕ → Bool
stands b = is_ascii_graphic b && (not (b == 37) && not (b == 47))

-- a byte in a part of a path: as itself, or as `%` and its two hexadecimal digits
abbrev pub spelled_byte : ℕ → List ℕ
spelled_byte b = if stands b then b ∷ [] else 37 ∷ hex_pair b

abbrev pub spelled_bytes : List ℕ → List ℕ
spelled_bytes bytes = flat_map spelled_byte bytes

-- a name as one part of a path: a first dot is no dot there, and an empty name is a `%` alone
abbrev pub spelled : List ℕ → List ℕ
spelled [] = 37 ∷ []
spelled (b ∷ bs) = if b == 46 then (37 ∷ hex_pair 46) ++ spelled_bytes bs else spelled_bytes (b ∷ bs)

-- the path of a name that is put aside
abbrev pub aside_path : List ℕ → List ℕ
aside_path name = aside ++ spelled name

-- the path of a name: what stands behind its slash, or aside
abbrev pub tree_path : List ℕ → Bool → List ℕ
tree_path name is_aside = if is_plain name && not is_aside then drop 1 name else aside_path name

-- the name of a path: a slash and the path, or what it stands for aside
abbrev pub tree_name : List ℕ → List ℕ
tree_name path = if pointwise nat_eq (take (length aside) path) aside then unescaped (drop (length aside) path) else 47 ∷ path

-- a slash comes first
abbrev pub has_slash : List ℕ → Bool
has_slash [] = false
has_slash (b ∷ bs) = b == 47

-- the other name goes on with a slash behind this one
abbrev pub is_over : List ℕ → List ℕ → Bool
is_over name other = pointwise nat_eq (take (length name) other) name && has_slash (drop (length name) other)

-- the path of one of these names would be a folder on the path of the other
abbrev pub clash : List ℕ → List ℕ → Bool
clash name other = is_over name other || is_over other name

-- the paths of names that are put behind earlier ones, each aside that clashes with one before it
abbrev pub tree_paths_after : List (List ℕ) → List (List ℕ) → List (List ℕ)
tree_paths_after earlier [] = []
tree_paths_after earlier (name ∷ names) = tree_path name (list_any (λ other. clash name other) earlier) ∷ tree_paths_after (name ∷ earlier) names

abbrev pub tree_paths : List (List ℕ) → List (List ℕ)
tree_paths names = tree_paths_after [] names
