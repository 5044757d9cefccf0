-- What a method of the user declares and names.
use Rattle.std.proofs.Common.{◌≡◌, ℕ, ◌||◌, Bool, true, false, cond, List, [], ◌∷◌, ◌++◌, map, Bor, Option, None, Some, option_map, slice_get, refl, sym, ap, ◌∙◌}
use Rattle.std.specs.Prelude.{nat_eq}
use Rattle.std.specs.List.{list_any, flat_map}
use Rattle.std.specs.Option.{option_map_or, option_and_then}
use Rattle.std.proofs.lemmas.List.Folds.{list_any-append}
use Rattle.tree_model.specs.Tree.{TreeOf, MethodOf}
use Rattle.tree_model.specs.Nodes.{Placed, nodes}
use Rattle.image_model.specs.Image.{EntryOf}
use Rattle.image_model.specs.Uses.{name_used}
use Rattle.st_tree.specs.View.{method_of}
use Rattle.mentions.specs.Mentions.{trees_of_nodes}
use Rattle.mentions.specs.Listing.{pointed}
use Rattle.class_table.specs.declared.record.MethodRec.{MethodRec}
use Rattle.class_table.specs.declared.record.MethodInfo.{MethodInfo}
use Rattle.class_table.specs.Info.{IsInfoOf}
use Rattle.class_table.specs.Slots.{Slots}
use Rattle.class_table.specs.Valid.{IsOrderly}
use Rattle.class_table.specs.View.{entry_of, entry_at, live_at, number_image}
use Rattle.rename_model.specs.NamesThere.{declared_by}
use Rattle.command_model.specs.Places.{users_method}
use Rattle.command_model.specs.Temporaries.{declared_in}
use Rattle.hierarchy_questions.specs.OwnMethods.{own_slot}
use Rattle.hierarchy_questions.proofs.OwnMethods.{own-slot, own-live}
use Rattle.code_questions.proofs.Witnesses.{any-mapped}
use Rattle.parameter_questions.specs.Named.{names_it}

-- the tree of a method of the user
abbrev pub user_tree : MethodRec → Option (MethodOf ℕ)
user_tree m = cond m.kernel None (Some (method_of m.tree))

module _ (s : Slots) where
  -- the tree of the method in a slot, if it is live and one of the user
  abbrev pub tree_at : ℕ → Option (MethodOf ℕ)
  tree_at j = option_and_then user_tree (live_at s.methods s.method_order j)

  pub named-tree : (orderly : IsOrderly s) (c : ℕ) (meta : Bool) (selector : ℕ)
      → option_and_then tree_at (own_slot s c meta selector) ≡ option_map (λ (m : EntryOf ℕ). m.tree) (users_method nat_eq (number_image s) c meta selector)
  named-tree orderly c meta selector =
      by (own_slot s c meta selector) (own-live s orderly c meta selector)
      ∙ ap (λ (o : Option (EntryOf ℕ)). option_map (λ (m : EntryOf ℕ). m.tree) (option_and_then (λ (m : EntryOf ℕ). cond m.kernel None (Some m)) o)) (sym (own-slot s orderly c meta selector))
    where
      read : (m : MethodRec) (b : Bool) → cond b None (Some (method_of m.tree)) ≡ option_map (λ (e : EntryOf ℕ). e.tree) (cond b None (Some (entry_of s.classes m)))
      read m true = refl
      read m false = refl

      by : (o : Option ℕ) → ((j : ℕ) → o ≡ Some j → (m : MethodRec) × (live_at s.methods s.method_order j ≡ Some m) × (slice_get s.methods j ≡ Some m))
          → option_and_then tree_at o ≡ option_map (λ (m : EntryOf ℕ). m.tree) (option_and_then (λ (m : EntryOf ℕ). cond m.kernel None (Some m)) (option_and_then (entry_at s) o))
      by None h = refl
      by (Some j) h =
          let t = h j refl in
          ap (option_and_then user_tree) t.1
          ∙ read t.0 t.0.kernel
          ∙ sym (ap (λ (o : Option MethodRec). option_map (λ (m : EntryOf ℕ). m.tree) (option_and_then (λ (m : EntryOf ℕ). cond m.kernel None (Some m)) (option_map (entry_of s.classes) o))) t.2)

-- what is told of a method in a slot
pub none-told : (o : Option MethodRec) → IsInfoOf None o → None ≡ option_and_then user_tree o
none-told None t = refl
none-told (Some m) t = absurd t

pub kernel-told : (x : MethodInfo) (o : Option MethodRec) → IsInfoOf (Some x) o → x.kernel ≡ true → None ≡ option_and_then user_tree o
kernel-told x None t e = absurd t
kernel-told x (Some m) t e = sym (ap (λ (b : Bool). cond b None (Some (method_of m.tree))) (sym t.kernel ∙ e))

pub user-told : (x : MethodInfo) (o : Option MethodRec) → IsInfoOf (Some x) o → x.kernel ≡ false → option_map method_of (option_map (λ (m : MethodRec). m.tree) o) ≡ option_and_then user_tree o
user-told x None t e = absurd t
user-told x (Some m) t e = sym (ap (λ (b : Bool). cond b None (Some (method_of m.tree))) (sym t.kernel ∙ e))

-- a test of the tree of a method that there may be
pub tree-test : (test : MethodOf ℕ → Bool) (t : MethodOf ℕ) (o : Option (EntryOf ℕ)) → Some t ≡ option_map (λ (m : EntryOf ℕ). m.tree) o → test t ≡ option_map_or (λ (m : EntryOf ℕ). test m.tree) o false
tree-test test t None e = absurd (cc)
tree-test test t (Some m) e = let same : t ≡ m.tree = cc in ap test same

pub no-tree : (test : EntryOf ℕ → Bool) (o : Option (EntryOf ℕ)) → None ≡ option_map (λ (m : EntryOf ℕ). m.tree) o → false ≡ option_map_or test o false
no-tree test None e = refl
no-tree test (Some m) e = absurd (cc)

-- the pieces of mapped items
flat-mapped : {X Y Z : Type 0} (f : X → Y) (g : Y → List Z) (xs : List X) → flat_map g (map f xs) ≡ flat_map (λ x. g (f x)) xs
flat-mapped f g [] = refl
flat-mapped f g (x ∷ xs) = ap (λ (zs : List _). g (f x) ++ zs) (flat-mapped f g xs)

any-flat : {X Y : Type 0} (p : Y → Bool) (g : X → List Y) (xs : List X) → list_any p (flat_map g xs) ≡ list_any (λ x. list_any p (g x)) xs
any-flat p g [] = refl
any-flat p g (x ∷ xs) = list_any-append p (g x) (flat_map g xs) ∙ ap (λ (b : Bool). list_any p (g x) || b) (any-flat p g xs)

-- two tests beside each other
or-turned : (a b c d : Bool) → ((a || b) || (c || d)) ≡ ((a || c) || (b || d))
or-turned true b c d = refl
or-turned false true true d = refl
or-turned false true false d = refl
or-turned false false c d = refl

any-or : {X : Type 0} (p q : X → Bool) (xs : List X) → (list_any p xs || list_any q xs) ≡ list_any (λ x. p x || q x) xs
any-or p q [] = refl
any-or p q (x ∷ xs) = or-turned (p x) (list_any p xs) (q x) (list_any q xs) ∙ ap (λ (b : Bool). (p x || q x) || b) (any-or p q xs)

-- what a method declares, by its nodes
pub declared-there : (m : MethodOf ℕ) (ns : List (Bor (TreeOf ℕ))) → pointed ns ≡ trees_of_nodes (nodes m.body) → (m.arguments ++ m.body.temporaries ++ flat_map declared_by (pointed ns)) ≡ declared_in m
declared-there m ns e =
    ap (λ (zs : List ℕ). m.arguments ++ m.body.temporaries ++ zs) (ap (flat_map declared_by) e ∙ flat-mapped (λ (p : Placed ℕ). p.1) declared_by (nodes m.body))

module _ (n : ℕ) (m : MethodOf ℕ) where
  abbrev used : Placed ℕ → Bool
  used e = option_map_or (nat_eq n) (name_used e.1) false

  abbrev declares : Placed ℕ → Bool
  declares e = list_any (nat_eq n) (declared_by e.1)

  or-named : (a b c d : Bool) → (((a || b) || c) || d) ≡ (a || (b || (d || c)))
  or-named true b c d = refl
  or-named false true c d = refl
  or-named false false true true = refl
  or-named false false true false = refl
  or-named false false false true = refl
  or-named false false false false = refl

  -- what is named, by what is declared and what is used
  pub named-there : (ns : List (Bor (TreeOf ℕ))) → pointed ns ≡ trees_of_nodes (nodes m.body)
      → (list_any (nat_eq n) (declared_in m) || list_any (λ (t : TreeOf ℕ). option_map_or (nat_eq n) (name_used t) false) (pointed ns)) ≡ names_it n m
  named-there ns e =
      (λ j. (list_any-append (nat_eq n) (m.arguments ++ m.body.temporaries) (flat_map (λ (p : Placed ℕ). declared_by p.1) (nodes m.body))
      ∙ (λ l. list_any-append (nat_eq n) m.arguments m.body.temporaries l || any-flat (nat_eq n) (λ (p : Placed ℕ). declared_by p.1) (nodes m.body) l)) j
      || (ap (list_any (λ (t : TreeOf ℕ). option_map_or (nat_eq n) (name_used t) false)) e ∙ any-mapped (λ (p : Placed ℕ). p.1) (λ (t : TreeOf ℕ). option_map_or (nat_eq n) (name_used t) false) (nodes m.body)) j)
      ∙ or-named (list_any (nat_eq n) m.arguments) (list_any (nat_eq n) m.body.temporaries) (list_any declares (nodes m.body)) (list_any used (nodes m.body))
      ∙ ap (λ (b : Bool). list_any (nat_eq n) m.arguments || (list_any (nat_eq n) m.body.temporaries || b)) (any-or used declares (nodes m.body))
