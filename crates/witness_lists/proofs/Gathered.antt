-- What is gathered of nodes, of live slots and of do-its.
use Rattle.std.proofs.Common.{◌≡◌, ℕ, zero, suc, ◌+◌, ◌<◌, Bool, List, [], ◌∷◌, ◌++◌, drop, length, map, Option, Some, slice_get, sym, ap, ◌∙◌, arith}
use Rattle.std.specs.List.{flat_map, enumerate_from}
use Rattle.std.specs.Option.{option_map_or}
use Rattle.std.proofs.lemmas.List.Folds.{flat_map-map}
use Rattle.tree_model.specs.Tree.{SequenceOf}
use Rattle.tree_model.specs.Nodes.{Placed, nodes}
use Rattle.placed_nodes.specs.declared.placed.PlacedNode.{PlacedNode}
use Rattle.placed_nodes.specs.Placing.{placed}
use Rattle.class_table.specs.declared.record.DoIt.{DoIt}
use Rattle.class_table.specs.Slots.{Slots}
use Rattle.class_table.specs.View.{doit_of}
use Rattle.class_table.proofs.Live.{there}
use Rattle.refusal_witnesses.specs.Witnesses.{OwnerOf, a_node, where_true, nodes_that}
use Rattle.witness_lists.specs.declared.nodes.Sought.{Sought}
use Rattle.witness_lists.specs.Walks.{doit_found, numbered_found}
use Rattle.witness_lists.proofs.Lists.{where-filter}

-- the nodes that pass a test, gathered one by one
pub gathered_nodes : (test : Placed ℕ → Bool) (owner : OwnerOf ℕ) (b : SequenceOf ℕ) (found : List PlacedNode) → placed found ≡ nodes b
    → flat_map (λ (p : PlacedNode). where_true (test (p.path, p.node.now)) (a_node owner p.path)) found ≡ nodes_that test owner b
gathered_nodes test owner b found e =
    sym (flat_map-map (λ (x : Placed ℕ). where_true (test x) (a_node owner x.0)) (λ (p : PlacedNode). (p.path, p.node.now)) found)
    ∙ ap (flat_map (λ (x : Placed ℕ). where_true (test x) (a_node owner x.0))) e
    ∙ where-filter test (λ (x : Placed ℕ). a_node owner x.0) (nodes b)

-- what stands from a place on, if an item is there
drop-item : {X : Type 0} (xs : List X) (i : ℕ) (x : X) → slice_get xs i ≡ Some x → drop i xs ≡ x ∷ drop (suc i) xs
drop-item [] i x e = absurd (cc)
drop-item (y ∷ ys) zero x e = let same : y ≡ x = cc in ap (λ z. z ∷ ys) same
drop-item (y ∷ ys) (suc i) x e = drop-item ys i x e

module _ (s : Slots) (x : Sought) (k : ℕ) (within : k < length s.doits) where
  -- what is sought in the do-it of a number, before what is sought in those after it
  pub doits_more : doit_found s x k ++ flat_map (numbered_found s.names x) (enumerate_from (k + 1) (map doit_of (drop (k + 1) s.doits))) ≡ flat_map (numbered_found s.names x) (enumerate_from k (map doit_of (drop k s.doits)))
  doits_more =
      ap (λ (o : Option DoIt). option_map_or (λ (d : DoIt). numbered_found s.names x (k, doit_of d)) o [] ++ flat_map (numbered_found s.names x) (enumerate_from (k + 1) (map doit_of (drop (k + 1) s.doits)))) held.1
      ∙ sym (ap (λ (ds : List DoIt). flat_map (numbered_found s.names x) (enumerate_from k (map doit_of ds))) behind)
    where
      held : (d : DoIt) × (slice_get s.doits k ≡ Some d)
      held = there s.doits k within

      behind : drop k s.doits ≡ held.0 ∷ drop (k + 1) s.doits
      behind = let next : suc k ≡ k + 1 = omega arith in drop-item s.doits k held.0 held.1 ∙ ap (λ (n : ℕ). held.0 ∷ drop n s.doits) next
