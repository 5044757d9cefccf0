-- The user's method that a command names, by its tree.
use Rattle.std.proofs.Common.{◌≡◌, ℕ, Option, None, Some, option_map, refl}
use Rattle.tree_model.specs.Tree.{MethodOf}
use Rattle.image_model.specs.Image.{EntryOf}

-- the method, if there is a tree
pub with-tree : (q : Option (EntryOf ℕ)) (t : MethodOf ℕ) → Some t ≡ option_map (λ (m : EntryOf ℕ). m.tree) q → (m : EntryOf ℕ) × (q ≡ Some m) × (m.tree ≡ t)
with-tree None t e = absurd (cc)
with-tree (Some m) t e = let same : m.tree ≡ t = cc in (m, refl, same)

pub no-tree : (q : Option (EntryOf ℕ)) → None ≡ option_map (λ (m : EntryOf ℕ). m.tree) q → q ≡ None
no-tree None e = refl
no-tree (Some m) e = absurd (cc)
