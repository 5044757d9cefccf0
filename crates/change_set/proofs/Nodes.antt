-- A node in the code at a place, and the same code with another one there.
use Rattle.std.proofs.Common.{◌≡◌, ℕ, true, List, Option, None, Some, option_map, is_some, refl, sym, ap, ◌∙◌, true≢false}
use Rattle.std.specs.Option.{option_and_then}
use Rattle.tree_model.specs.Tree.{TreeOf, SequenceOf}
use Rattle.tree_model.specs.Path.{part_in, replaced_in}
use Rattle.tree_model.proofs.Parts.{part_in-replaced_in}
use Rattle.st_tree.specs.View.{sequence_of}
use Rattle.st_tree.specs.declared.tree.Sequence.{Sequence}
use Rattle.st_tree.proofs.Back.{sequence_of-sequence_from, doit_restored}
use Rattle.change_set.specs.Code.{node_of, with_node}

module _ (path : List ℕ) (b : Sequence) (old t : TreeOf ℕ) (e : node_of path b ≡ Some old) where
  -- the other node stands where the path leads
  pub node-there : node_of path (with_node path t b) ≡ Some t
  node-there = ap (λ (a : SequenceOf ℕ). part_in a path) (sequence_of-sequence_from (replaced_in (sequence_of b) path t)) ∙ part_in-replaced_in (sequence_of b) path old t e

  -- the old node is put back
  pub node-back : with_node path old (with_node path t b) ≡ b
  node-back =
      let other = with_node path t b in
      doit_restored b other (with_node path old other) path old t e (sequence_of-sequence_from (replaced_in (sequence_of b) path t)) (sequence_of-sequence_from (replaced_in (sequence_of other) path old))

-- a record, and a node in its body
pub record HasNode {X : Type 0} (body : X → Sequence) (path : List ℕ) (o : Option X) : Type 0 where
  pub item : X
  pub is : o ≡ Some item
  pub node : TreeOf ℕ
  pub there : node_of path (body item) ≡ Some node

pub has_node : {X : Type 0} (body : X → Sequence) (path : List ℕ) (o : Option X) → is_some (option_and_then (node_of path) (option_map body o)) ≡ true → HasNode body path o
has_node body path None h = absurd (true≢false (sym h))
has_node {X} body path (Some x) h = by (node_of path (body x)) refl h
  where
    by : (o : Option (TreeOf ℕ)) → node_of path (body x) ≡ o → is_some o ≡ true → HasNode body path (Some x)
    by None e l = absurd (true≢false (sym l))
    by (Some t) e l = record { item = x; is = refl; node = t; there = e }
