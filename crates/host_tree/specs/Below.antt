-- Where files of a tree are made.
use Rattle.std.specs.Prelude.{ℕ, ◌≡◌, List, ◌∷◌, ◌++◌}
use Rattle.tree_paths.specs.Tree.{IsInside}

-- a path that begins with that of a folder, and goes on by parts that lead down alone
pub record IsBelow (top path : List ℕ) : Type 0 where
  pub rest : List ℕ
  pub inside : IsInside rest
  pub joined : path ≡ top ++ 47 ∷ rest
