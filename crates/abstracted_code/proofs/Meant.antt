-- What becomes of code, from what was asked of it and made of it.
use Rattle.std.proofs.Common.{◌≡◌, ℕ, Bool, true, false, not, ◌&&◌, List, [], None, Some, option_map, find, refl, sym, ap, ◌∙◌}
use Rattle.std.specs.Prelude.{nat_eq, codes, if◌then◌else◌}
use Rattle.std.specs.Borrow.{Bor}
use Rattle.std.specs.List.{list_any}
use Rattle.std.specs.Option.{option_map_or}
use Rattle.tree_model.specs.Tree.{TreeOf, var, literal, send, cascade, assign, block, brace, return, SequenceOf, MethodOf}
use Rattle.tree_model.specs.Nodes.{nodes}
use Rattle.scope_model.specs.NameTests.{is_pseudo_in}
use Rattle.scope_model.specs.Scope.{method_scope, doit_scope}
use Rattle.st_tree.specs.View.{method_of, sequence_of}
use Rattle.st_tree.specs.declared.tree.Method.{Method}
use Rattle.st_tree.specs.declared.tree.Sequence.{Sequence}
use Rattle.image_model.specs.Image.{ClassOf, EntryOf}
use Rattle.image_model.specs.Words.{number_words}
use Rattle.image_model.specs.Means.{MeaningOf, of_instance, means_outside}
use Rattle.image_model.specs.Uses.{is_variable, name_used}
use Rattle.command_model.specs.Places.{is_local}
use Rattle.command_model.specs.Walk.{rebuilt_sequence, rebuilt_method}
use Rattle.class_table.specs.Slots.{Slots}
use Rattle.class_table.specs.View.{class_name, number_image}
use Rattle.abstracted_code.specs.declared.abstraction.Abstraction.{Abstraction}
use Rattle.abstracted_code.specs.declared.abstracting.Code.{Code}
use Rattle.abstracted_code.specs.declared.abstracting.Code.TheVariants as code
use Rattle.abstracted_code.specs.declared.abstracting.Abstracting.{Abstracting}
use Rattle.abstracted_code.specs.Abstracted.{in_method, in_doit, node_after, means_it, method_after, body_after}
use Rattle.abstracted_code.specs.Free.{local_of, is_free, is_use, made_by, made_free}
use Rattle.abstracted_code.proofs.FreeNames.{meant-nowhere, means-open}

module _ (s : Slots) (a : Abstraction) where
  -- whether a meaning is the variable
  abbrev is_it : MeaningOf ℕ → Bool
  is_it = is_variable nat_eq of_instance a.class

  -- a node after, by a test of names
  node-by : (at : List ℕ → ℕ → MeaningOf ℕ) (path : List ℕ) (t : TreeOf ℕ) → node_after s a at path t ≡ made_by a (λ p n. nat_eq a.variable n && is_it (at p n)) path t
  node-by at path (var n) = refl
  node-by at path (literal l) = refl
  node-by at path (send r x args) = refl
  node-by at path (cascade r ms) = refl
  node-by at path (assign n t) = refl
  node-by at path (block ps ts ss e) = refl
  node-by at path (brace ts) = refl
  node-by at path (return t) = refl

  -- code where names mean the variable exactly if they are free
  module _ (at : List ℕ → ℕ → MeaningOf ℕ) (it : Abstracting) (same : it.abstraction ≡ a) (h : (path : List ℕ) (n : ℕ) → (nat_eq a.variable n && is_it (at path n)) ≡ is_free (record it { abstraction = a }) path n) where
    meant-by : (b : SequenceOf ℕ) → means_it s a at b ≡ list_any (is_use it) (nodes b)
    meant-by b = (λ j. list_any (λ e. option_map_or (λ n. h e.0 n j) (name_used e.1) false) (nodes b)) ∙ (λ j. list_any (is_use (record it { abstraction = sym same j })) (nodes b))

    node-free : (path : List ℕ) (t : TreeOf ℕ) → made_free it path t ≡ node_after s a at path t
    node-free path t =
        (λ j. made_free (record it { abstraction = same j }) path t)
        ∙ (λ j. made_by a (λ p n. sym (h p n) j) path t)
        ∙ sym (node-by at path t)

  -- the names that are looked at are those of the table
  free-same : (names : Bor (List (List ℕ))) (c : Code) → names.now ≡ s.names → (path : List ℕ) (n : ℕ)
      → (nat_eq a.variable n && not (is_local (local_of s.names c path n))) ≡ is_free (record { abstraction = a; names = names; code = c }) path n
  free-same names c known path n = λ j. nat_eq a.variable n && not (is_local (local_of (sym known j) c path n))

  -- a method
  module _ (class : ℕ) (meta : Bool) (tree : Bor Method) where
    abbrev m : EntryOf ℕ
    m = record { class = class_name s.classes class; meta = meta; protocol = []; source = []; tree = method_of tree.now; kernel = false }

    abbrev outside : ℕ → MeaningOf ℕ
    outside = means_outside (number_words s.names) (number_image s) m.class meta

    module _ (meaning : MeaningOf ℕ) (path : List ℕ) (is : Bool) (top : path ≡ []) (told : meaning ≡ in_method s a m path a.variable) (e : is ≡ is_it meaning) where
      asked : is_it (in_method s a m [] a.variable) ≡ is
      asked = sym (e ∙ ap is_it (told ∙ ap (λ (p : List ℕ). in_method s a m p a.variable) top))

      -- it does not mean the variable
      pub method-out : is ≡ false → None ≡ method_after s a m
      method-out none =
          ap (λ (b : Bool). if b then Some (rebuilt_method (node_after s a (in_method s a m)) m.tree) else None)
          (sym (meant-nowhere (is_pseudo_in s.names) (method_scope m.tree) outside a.class a.variable (asked ∙ none)))

      -- it may
      module _ (some : is ≡ true) (names : Bor (List (List ℕ))) (known : names.now ≡ s.names) (used : Bool)
          (uses : used ≡ list_any (is_use (record { abstraction = a; names = names; code = code.Method tree })) (nodes m.tree.body)) where
        free : (p : List ℕ) (n : ℕ) → (nat_eq a.variable n && is_it (in_method s a m p n)) ≡ is_free (record { abstraction = a; names = names; code = code.Method tree }) p n
        free p n = means-open (is_pseudo_in s.names) (method_scope m.tree) outside a.class a.variable (asked ∙ some) p n ∙ free-same names (code.Method tree) known p n

        meant : means_it s a (in_method s a m) m.tree.body ≡ used
        meant = meant-by (in_method s a m) (record { abstraction = a; names = names; code = code.Method tree }) refl free m.tree.body ∙ sym uses

        pub method-unused : used ≡ false → None ≡ method_after s a m
        method-unused none = ap (λ (b : Bool). if b then Some (rebuilt_method (node_after s a (in_method s a m)) m.tree) else None) (sym (meant ∙ none))

        pub method-made : used ≡ true → (copy after : Method) → copy ≡ tree.now → method_of after ≡ rebuilt_method (made_free (record { abstraction = a; names = names; code = code.Method tree })) (method_of copy)
            → Some (method_of after) ≡ method_after s a m
        method-made there copy after same made =
            ap Some (made ∙ ap (λ (t : Method). rebuilt_method (made_free (record { abstraction = a; names = names; code = code.Method tree })) (method_of t)) same
            ∙ (λ j. rebuilt_method (λ p t. node-free (in_method s a m) (record { abstraction = a; names = names; code = code.Method tree }) refl free p t j) m.tree))
            ∙ ap (λ (b : Bool). if b then Some (rebuilt_method (node_after s a (in_method s a m)) m.tree) else None) (sym (meant ∙ there))

  -- a do-it
  module _ (body : Bor Sequence) where
    abbrev b : SequenceOf ℕ
    b = sequence_of body.now

    abbrev home : ℕ → MeaningOf ℕ
    home = means_outside (number_words s.names) (number_image s) (option_map (λ (c : ClassOf ℕ). c.name) (find (λ (c : ClassOf ℕ). (number_words s.names).is_undefined_object c.name) (number_image s).classes)) false

    module _ (meaning : MeaningOf ℕ) (path : List ℕ) (is : Bool) (top : path ≡ []) (told : meaning ≡ in_doit s a b path a.variable) (e : is ≡ is_it meaning) where
      doit-asked : is_it (in_doit s a b [] a.variable) ≡ is
      doit-asked = sym (e ∙ ap is_it (told ∙ ap (λ (p : List ℕ). in_doit s a b p a.variable) top))

      pub doit-out : is ≡ false → None ≡ body_after s a b
      doit-out none =
          ap (λ (c : Bool). if c then Some (rebuilt_sequence (node_after s a (in_doit s a b)) b) else None)
          (sym (meant-nowhere (is_pseudo_in s.names) (doit_scope b) home a.class a.variable (doit-asked ∙ none)))

      module _ (some : is ≡ true) (names : Bor (List (List ℕ))) (known : names.now ≡ s.names) (used : Bool)
          (uses : used ≡ list_any (is_use (record { abstraction = a; names = names; code = code.DoIt body })) (nodes b)) where
        doit-free : (p : List ℕ) (n : ℕ) → (nat_eq a.variable n && is_it (in_doit s a b p n)) ≡ is_free (record { abstraction = a; names = names; code = code.DoIt body }) p n
        doit-free p n = means-open (is_pseudo_in s.names) (doit_scope b) home a.class a.variable (doit-asked ∙ some) p n ∙ free-same names (code.DoIt body) known p n

        doit-meant : means_it s a (in_doit s a b) b ≡ used
        doit-meant = meant-by (in_doit s a b) (record { abstraction = a; names = names; code = code.DoIt body }) refl doit-free b ∙ sym uses

        pub doit-unused : used ≡ false → None ≡ body_after s a b
        doit-unused none = ap (λ (c : Bool). if c then Some (rebuilt_sequence (node_after s a (in_doit s a b)) b) else None) (sym (doit-meant ∙ none))

        pub doit-made : used ≡ true → (copy after : Sequence) → copy ≡ body.now → sequence_of after ≡ rebuilt_sequence (made_free (record { abstraction = a; names = names; code = code.DoIt body })) (sequence_of copy)
            → Some (sequence_of after) ≡ body_after s a b
        doit-made there copy after same made =
            ap Some (made ∙ ap (λ (t : Sequence). rebuilt_sequence (made_free (record { abstraction = a; names = names; code = code.DoIt body })) (sequence_of t)) same
            ∙ (λ j. rebuilt_sequence (λ p t. node-free (in_doit s a b) (record { abstraction = a; names = names; code = code.DoIt body }) refl doit-free p t j) b))
            ∙ ap (λ (c : Bool). if c then Some (rebuilt_sequence (node_after s a (in_doit s a b)) b) else None) (sym (doit-meant ∙ there))
