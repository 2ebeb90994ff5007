-- A right header names where the links and the paths begin. Assumes nothing.
use mathlib.Core.Path.{◌≡◌}
use mathlib.Core.List.{List}
use Rattle.model.specs.Answer.{word}
use Rattle.model.specs.Correspondence.{pairs, links, paths, links_at, paths_at, list_rules}
use Rattle.model.proofs.Basics.{Facts}
use Prim.Native.Nat.{ℕ, ◌+◌, ◌*◌}

-- Where the links, the paths and the end stand, as the counts fix it.

module _ (list : List ℕ) {p : ℕ} (ps : p ≡ word list 2) where
  pub links_at_lem : 8 + 6 * p ≡ links_at list
  unfolding links_at pairs
  links_at_lem = cc

  pub paths_at_lem : {l : ℕ} → l ≡ word list 4 → 8 + 6 * p + 2 * l ≡ paths_at list
  unfolding paths_at links_at pairs links
  paths_at_lem ls = cc

  pub end_at : {l t : ℕ} → l ≡ word list 4 → t ≡ word list 6 → 8 + 6 * p + 2 * l + 6 * t ≡ paths_at list + 6 * paths list
  unfolding paths_at links_at pairs links paths
  end_at ls ts = cc

-- A header that keeps to its rules says where the links and the paths begin.

module _ (list : List ℕ) (header : Facts (list_rules list)) where
  pub links_from : word list 5 ≡ links_at list
  unfolding list_rules
  links_from = header.1.1.1.1.1.1.0

  pub paths_from : word list 7 ≡ paths_at list
  unfolding list_rules
  paths_from = header.1.1.1.1.1.1.1.1.0
