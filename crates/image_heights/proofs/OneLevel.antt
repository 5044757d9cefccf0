-- A node has one level at least.
use Rattle.std.proofs.Common.{◌≡◌, ◌≤◌, ℕ, false, nat_le, sym, arith}
use Rattle.std.proofs.lemmas.Bool.{lt-leb}
use Rattle.tree_model.specs.Tree.{LiteralOf, number, str, symbol, char, array, bytes, word, TreeOf, var, literal, send, cascade, assign, block, brace, return}
use Rattle.tree_model.specs.Measure.{literal_height, height}

literal_some : (l : LiteralOf ℕ) → 1 ≤ literal_height l
literal_some (number t) = omega arith
literal_some (str t) = omega arith
literal_some (symbol t) = omega arith
literal_some (char b) = omega arith
literal_some (array ls) = omega arith
literal_some (bytes ls) = omega arith
literal_some (word n) = omega arith

height_some : (t : TreeOf ℕ) → 1 ≤ height t
height_some (var n) = omega arith
height_some (literal l) = literal_some l
height_some (send r u xs) = omega arith
height_some (cascade r ms) = omega arith
height_some (assign n r) = omega arith
height_some (block ps ds ss c) = omega arith
height_some (brace ts) = omega arith
height_some (return r) = omega arith

pub nothing_left : (t : TreeOf ℕ) (left : ℕ) → left ≡ 0 → false ≡ nat_le (height t) left
nothing_left t left e = sym (lt-leb (height t) left (omega (arith, e, height_some t)))
