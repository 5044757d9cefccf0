-- Facts of the nodes of an image, by the methods and do-its in which they stand.
use Rattle.std.proofs.Common.{◌≡◌, ℕ, zero, suc, ◌+◌, List, [], ◌∷◌, Some, refl, sym, ap, ◌∙◌, arith}
use Rattle.std.specs.Prelude.{Bool, true, false, ◌||◌, cond, map, filter, flat_map, slice_get, Contains}
use Rattle.std.specs.List.{list_any, enumerate_from}
use Rattle.std.proofs.lemmas.Bool.{false≢true}
use Rattle.std.proofs.lemmas.List.Elements.{All-contains, All-from_recursion}
use Rattle.tree_model.specs.Tree.{TreeOf, SequenceOf}
use Rattle.tree_model.specs.Path.{part_in}
use Rattle.tree_model.specs.Nodes.{Placed, nodes}
use Rattle.tree_model.proofs.NodesLemmas.{Contains-part_in}
use Rattle.scope_model.specs.Control.{is_empty}
use Rattle.image_model.specs.Image.{EntryOf, DoItOf, ImageOf}
use Rattle.image_model.specs.Nodes.{Place, in_method, in_doit, NodeOf, nodes_of, image_nodes}
use Rattle.run_model.specs.Values.{Name}
use Rattle.run_model.proofs.Finite.{any-left, any-right}
use Rattle.rename_laws.proofs.Unnamed.{each-fails}

-- nothing in a filtered list: nothing passes
pub none-passes : {X Y : Type 0} (f : X → Y) (p : X → Bool) (xs : List X) → is_empty (map f (filter p xs)) ≡ true → list_any p xs ≡ false
none-passes f p [] e = refl
none-passes {X} f p (x ∷ xs) e = by (p x) e (none-passes f p xs)
  where
    by : (b : Bool) → is_empty (map f (cond b (x ∷ filter p xs) (filter p xs))) ≡ true → (is_empty (map f (filter p xs)) ≡ true → list_any p xs ≡ false) → (b || list_any p xs) ≡ false
    by true q rest = absurd (false≢true q)
    by false q rest = rest q

-- an item of a list fails where no item of it passes
pub item-fails : {X : Type 0} (p : X → Bool) (xs : List X) (x : X) → list_any p xs ≡ false → Contains xs x → p x ≡ false
item-fails p xs x e h = All-contains (λ y. p y ≡ false) xs x (All-from_recursion (λ y. p y ≡ false) xs (each-fails p xs e)) h

-- a mapped list
any-mapped : {X Y : Type 0} (f : X → Y) (p : Y → Bool) (xs : List X) → list_any p (map f xs) ≡ list_any (λ x. p (f x)) xs
any-mapped f p [] = refl
any-mapped f p (x ∷ xs) = ap (λ b. p (f x) || b) (any-mapped f p xs)

-- the lists of numbered items
numbered : {X Y : Type 0} (p : Y → Bool) (g : ℕ → X → List Y) (from : ℕ) (xs : List X) → list_any p (flat_map (λ (e : ℕ × X). g e.0 e.1) (enumerate_from from xs)) ≡ false → (k : ℕ) (x : X) → slice_get xs k ≡ Some x → list_any p (g (from + k) x) ≡ false
numbered p g from [] e k x at = absurd (cc)
numbered p g from (y ∷ ys) e zero x at =
    let same : y ≡ x = cc in
    let n : from + 0 ≡ from = omega arith in
    ap (λ l. list_any p (g l x)) n ∙ ap (λ z. list_any p (g from z)) (sym same) ∙ any-left p (g from y) (flat_map (λ e. g e.0 e.1) (enumerate_from (from + 1) ys)) e
numbered p g from (y ∷ ys) e (suc k) x at =
    let n : from + suc k ≡ from + 1 + k = omega arith in
    ap (λ l. list_any p (g l x)) n ∙ numbered p g (from + 1) ys (any-right p (g from y) (flat_map (λ e. g e.0 e.1) (enumerate_from (from + 1) ys)) e) k x at

module _ (i : ImageOf Name) (p : NodeOf Name → Bool) (none : list_any p (image_nodes i) ≡ false) where
  abbrev of_methods : List (NodeOf Name)
  of_methods = flat_map (λ (e : ℕ × EntryOf Name). nodes_of (in_method e.0) e.1.tree.body) (enumerate_from 0 i.methods)

  abbrev of_doits : List (NodeOf Name)
  of_doits = flat_map (λ (e : ℕ × DoItOf Name). nodes_of (in_doit e.0) e.1.body) (enumerate_from 0 i.doits)

  -- a node of a sequence
  in-sequence : (place : Place) (b : SequenceOf Name) → list_any p (nodes_of place b) ≡ false → (path : List ℕ) (u : TreeOf Name) → part_in b path ≡ Some u → p (record { use_of = record { place = place; path = path }; tree = u }) ≡ false
  in-sequence place b e path u at =
      item-fails (λ (x : Placed Name). p (record { use_of = record { place = place; path = x.0 }; tree = x.1 })) (nodes b) (path, u)
      (sym (any-mapped (λ (x : Placed Name). record { use_of = record { place = place; path = x.0 }; tree = x.1 }) p (nodes b)) ∙ e) (Contains-part_in b path u at)

  -- no node of a method passes
  pub in-method-fails : (k : ℕ) (m : EntryOf Name) → slice_get i.methods k ≡ Some m → (path : List ℕ) (u : TreeOf Name) → part_in m.tree.body path ≡ Some u → p (record { use_of = record { place = in_method k; path = path }; tree = u }) ≡ false
  in-method-fails k m at path u q =
      in-sequence (in_method k) m.tree.body (ap (λ x. list_any p (nodes_of (in_method x) m.tree.body)) (zero-plus k) ∙ numbered p (λ x (n : EntryOf Name). nodes_of (in_method x) n.tree.body) 0 i.methods (any-left p of_methods of_doits none) k m at) path u q
    where
      zero-plus : (x : ℕ) → x ≡ 0 + x
      zero-plus x = omega arith

  -- no node of a do-it passes
  pub in-doit-fails : (k : ℕ) (d : DoItOf Name) → slice_get i.doits k ≡ Some d → (path : List ℕ) (u : TreeOf Name) → part_in d.body path ≡ Some u → p (record { use_of = record { place = in_doit k; path = path }; tree = u }) ≡ false
  in-doit-fails k d at path u q =
      in-sequence (in_doit k) d.body (ap (λ x. list_any p (nodes_of (in_doit x) d.body)) (zero-plus k) ∙ numbered p (λ x (n : DoItOf Name). nodes_of (in_doit x) n.body) 0 i.doits (any-right p of_methods of_doits none) k d at) path u q
    where
      zero-plus : (x : ℕ) → x ≡ 0 + x
      zero-plus x = omega arith
