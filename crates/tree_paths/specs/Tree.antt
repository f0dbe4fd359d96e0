-- Paths by which a host goes down from a folder.
use Rattle.std.specs.Prelude.{◌≡◌, ℕ, ◌-◌, List, [], ◌∷◌, ◌++◌, length, take, Bool, true, false, not, ◌==◌, ◌&&◌, if◌then◌else◌}
use Rattle.std.specs.List.{slice_split, list_all, list_any}

-- nothing, one dot or two
abbrev pub is_dots : List ℕ → Bool
is_dots [] = true
is_dots (a ∷ []) = a == 46
is_dots (a ∷ b ∷ []) = (a == 46) && (b == 46)
is_dots (a ∷ b ∷ c ∷ rest) = false

-- a part of a path by which a host goes down to a file or a folder of that name: neither empty, nor `.` or `..`, and without the zero byte that ends a path
abbrev pub is_part : List ℕ → Bool
is_part part = not (is_dots part) && not (list_any (λ b. b == 0) part)

-- what stands between the slashes of a path
abbrev pub parts : List ℕ → List (List ℕ)
parts path = slice_split (λ b. b == 47) path

-- by each part of this path a host goes down
abbrev pub is_tree_path : List ℕ → Bool
is_tree_path path = list_all is_part (parts path)

-- The place behind one part of a path, as the names of the folders from the root down to it: nothing and `.` stay there, `..` goes up,
-- and above the root is the root.
abbrev pub stay_or_up : List (List ℕ) → List ℕ → List (List ℕ)
stay_or_up here [] = here
stay_or_up here (a ∷ []) = here
stay_or_up here (a ∷ b ∷ rest) = take (length here - 1) here

abbrev pub step : List (List ℕ) → List ℕ → List (List ℕ)
step here part = if is_dots part then stay_or_up here part else here ++ part ∷ []

-- the place behind all of these parts
abbrev pub walk : List (List ℕ) → List (List ℕ) → List (List ℕ)
walk here [] = here
walk here (part ∷ rest) = walk (step here part) rest

-- where a host arrives by a path from a place; a path that begins with a slash begins at the root
abbrev pub arrive : List (List ℕ) → List ℕ → List (List ℕ)
arrive here [] = here
arrive here (b ∷ path) = if b == 47 then walk [] (parts path) else walk here (parts (b ∷ path))

-- From whichever place a host follows this path, it arrives at that place and the path's own parts below it. No zero byte ends it early.
pub record IsInside (path : List ℕ) : Type 0 where
  pub below : (here : List (List ℕ)) → arrive here path ≡ here ++ parts path
  pub some : (part : List ℕ) × (rest : List (List ℕ)) × (parts path ≡ part ∷ rest)
  pub whole : list_any (λ b. b == 0) path ≡ false

-- neither path is that of a folder on the other one
pub record AreApart (p q : List ℕ) : Type 0 where
  pub under : (rest : List ℕ) → p ≡ q ++ 47 ∷ rest → ⊥
  pub over : (rest : List ℕ) → q ≡ p ++ 47 ∷ rest → ⊥

-- a path is apart from each of these
abbrev pub AreApartFrom : List ℕ → List (List ℕ) → Type 0
AreApartFrom p [] = Unit {0}
AreApartFrom p (q ∷ qs) = AreApart p q × AreApartFrom p qs

-- each two of these paths are apart
abbrev pub ArePairwiseApart : List (List ℕ) → Type 0
ArePairwiseApart [] = Unit {0}
ArePairwiseApart (p ∷ ps) = AreApartFrom p ps × ArePairwiseApart ps
