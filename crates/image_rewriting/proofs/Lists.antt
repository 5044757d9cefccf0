-- Lists of comments of different lengths.
use Rattle.std.proofs.Common.{◌≡◌, suc, List, [], ◌∷◌, length, refl, ap}
use Rattle.std.specs.Borrow.{Bor}
use Rattle.tree_model.specs.Tree.{Notes}
use Rattle.image_rewriting.specs.Equal.{noted}

-- lists of different lengths do not point to the same comments
pub length-noted : (xs ys : List (Bor Notes)) → noted xs ≡ noted ys → length xs ≡ length ys
length-noted [] [] e = refl
length-noted [] (y ∷ ys) e = cc
length-noted (x ∷ xs) [] e = cc
length-noted (x ∷ xs) (y ∷ ys) e = ap suc (length-noted xs ys cc)
