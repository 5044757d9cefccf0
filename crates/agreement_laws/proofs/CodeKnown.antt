-- What code reaches, by its nodes: the classes that they mean, and the selectors of messages to `super`.
use Rattle.std.proofs.Common.{◌≡◌, ℕ, List, [], ◌∷◌, ◌++◌, Option, Some, None, refl, sym, ap, ◌∙◌}
use Rattle.std.specs.Prelude.{Bool, true, false, codes, option_and_then, ◌||◌}
use Rattle.std.proofs.lemmas.Bool.{false≢true}
use Rattle.rb_base.specs.Names.{text_eq}
use Rattle.rb_base.proofs.NamesLemmas.{text_eq-refl}
use Rattle.tree_model.specs.Tree.{TreeOf, var, literal, send, cascade, assign, block, brace, return, TreesOf, MessagesOf, no_messages, more_messages, SequenceOf}
use Rattle.tree_model.specs.Path.{nth, child, part_at, part_in, statement_trees}
use Rattle.tree_model.specs.Nodes.{Placed, nodes}
use Rattle.tree_model.proofs.NodesLemmas.{Contains-part_in}
use Rattle.scope_model.specs.Scope.{method_scope, doit_scope}
use Rattle.image_model.specs.Image.{EntryOf, DoItOf, ImageOf}
use Rattle.image_model.specs.Means.{of_instance, of_class_side, of_class, MeaningOf, pseudo, argument, temporary, variable, a_class, transcript, undeclared}
use Rattle.image_model.specs.Uses.{has_message}
use Rattle.run_model.specs.Values.{Name}
use Rattle.run_model.proofs.RenamingLemmas.{text-same}
use Rattle.resolved_model.specs.ResolvedTrees.{reading}
use Rattle.resolved_model.specs.Resolving.{MeantAt, reference_of, meant_in, meant_in_doit, resolved_method, resolved_doit}
use Rattle.resolved_model.specs.ResolvedEval.{reads_super}
use Rattle.resolved_model.specs.ResolvedImages.{doing_of}
use Rattle.command_model.specs.SameMethods.{is_super_node, has_super}
use Rattle.lookup_model.specs.KnownCode.{KnownReference, KnownMessage, KnownCode, KnownDoing}
use Rattle.agreement_laws.proofs.KnownNodes.{is_super_at, KnownSelectors, KnownNode, scope-known}
use Rattle.rename_laws.proofs.NodesOfImages.{item-fails}
use Rattle.agreement_laws.specs.Reaching.{is_super, Sends, SendsAbove, ReadsAClass}

-- a node of a sequence reads a class
abbrev pub ReadsClass : MeantAt → SequenceOf Name → Name → Type 0
ReadsClass at b c = ReadsAClass (λ path n. (at path n).meaning) b c

-- a name that is read as `super` is `super`
super-meaning : (g : MeaningOf Name) (k : ℕ) (n : Name) → reads_super (reading (reference_of g k n)) ≡ true → is_super n ≡ true
super-meaning pseudo k n h = ap (text_eq (codes "super")) (text-same n (codes "super") h) ∙ text_eq-refl (codes "super")
super-meaning (argument scope) k n h = absurd (false≢true h)
super-meaning (temporary scope) k n h = absurd (false≢true h)
super-meaning (variable of_instance c) k n h = absurd (false≢true h)
super-meaning (variable of_class_side c) k n h = absurd (false≢true h)
super-meaning (variable of_class c) k n h = absurd (false≢true h)
super-meaning (a_class c) k n h = absurd (false≢true h)
super-meaning transcript k n h = absurd (false≢true h)
super-meaning undeclared k n h = absurd (false≢true h)

super-node : (at : MeantAt) (path : List ℕ) (r : TreeOf Name) → is_super_at at path r ≡ true → is_super_node is_super r ≡ true
super-node at path (var n) h = super-meaning (at path n).meaning (at path n).place n h
super-node at path (literal l) h = h
super-node at path (send r s args) h = h
super-node at path (cascade r ms) h = h
super-node at path (assign n t) h = h
super-node at path (block ps ts ss e) h = h
super-node at path (brace ts) h = h
super-node at path (return t) h = h

-- any selector
abbrev pub AnySelector : Name → Type 0
AnySelector t = Unit {0}

module _ (Class Selector Above : Name → Type 0) where
  -- what is read under a name
  meaning-known : (g : MeaningOf Name) (k : ℕ) (n : Name) → ((c : Name) → g ≡ a_class c → Class c) → KnownReference Class Selector Above (reference_of g k n)
  meaning-known pseudo k n h = tt
  meaning-known (argument scope) k n h = tt
  meaning-known (temporary scope) k n h = tt
  meaning-known (variable of_instance c) k n h = tt
  meaning-known (variable of_class_side c) k n h = tt
  meaning-known (variable of_class c) k n h = tt
  meaning-known (a_class c) k n h = h c refl
  meaning-known transcript k n h = tt
  meaning-known undeclared k n h = tt

  -- the selectors of a cascade
  selectors-known : (ms : MessagesOf Name) → ((t : Name) → has_message text_eq t ms ≡ true → Selector t) → KnownSelectors Class Selector Above ms
  selectors-known no_messages h = tt
  selectors-known (more_messages s args ms) h = (h s (ap (λ b. b || has_message text_eq s ms) (text_eq-refl s)), selectors-known ms (λ t e. h t (or-right (text_eq t s) (has_message text_eq t ms) e)))
    where
      or-right : (a b : Bool) → b ≡ true → (a || b) ≡ true
      or-right true b e = refl
      or-right false b e = e

  module _ (at : MeantAt) (b : SequenceOf Name) (classes : (c : Name) → ReadsClass at b c → Class c) (sends : (t : Name) → Sends b t → Selector t) (supers : (t : Name) → SendsAbove b t → Above t) where
    message-known : (path : List ℕ) (r : TreeOf Name) (t : Name) (args : TreesOf Name) → part_in b path ≡ Some (send r t args) → (x : Bool) → is_super_at at (path ++ 0 ∷ []) r ≡ x → KnownMessage Class Selector Above x t
    message-known path r t args q true e = supers t (path, r, args, q, super-node at (path ++ 0 ∷ []) r e)
    message-known path r t args q false e = sends t (path, send r t args, q, text_eq-refl t)

    -- a node
    pub node-known : (path : List ℕ) (u : TreeOf Name) → part_in b path ≡ Some u → KnownNode Class Selector Above at path u
    node-known path (var n) q = meaning-known (at path n).meaning (at path n).place n (λ c e. classes c (path, n, q, e))
    node-known path (literal l) q = tt
    node-known path (send r t args) q = message-known path r t args q (is_super_at at (path ++ 0 ∷ []) r) refl
    node-known path (cascade r ms) q = selectors-known ms (λ t e. sends t (path, cascade r ms, q, e))
    node-known path (assign n t) q = tt
    node-known path (block ps ts ss e) q = tt
    node-known path (brace ts) q = tt
    node-known path (return t) q = tt

  -- what a method does, by its primitive
  pub doing-known : (i : ImageOf Name) (m : EntryOf Name) → ((c : Name) → ReadsClass (meant_in i m) m.tree.body c → Class c) → ((t : Name) → Sends m.tree.body t → Selector t) → ((t : Name) → SendsAbove m.tree.body t → Above t) → (p : Option ℕ) → KnownDoing Class Selector Above (doing_of i m p)
  unfolding resolved_method
  doing-known i m classes sends supers (Some n) = tt
  doing-known i m classes sends supers None = scope-known Class Selector Above (method_scope m.tree) (meant_in i m) (node-known (meant_in i m) m.tree.body classes sends supers)

  -- a do-it
  pub doit-known : (i : ImageOf Name) (d : DoItOf Name) → ((c : Name) → ReadsClass (meant_in_doit i d) d.body c → Class c) → ((t : Name) → Sends d.body t → Selector t) → ((t : Name) → SendsAbove d.body t → Above t) → KnownCode Class Selector Above (resolved_doit i d)
  unfolding resolved_doit
  doit-known i d classes sends supers = scope-known Class Selector Above (doit_scope d.body) (meant_in_doit i d) (node-known (meant_in_doit i d) d.body classes sends supers)

-- one more step
part_at-further : (t : TreeOf Name) (path : List ℕ) (u c : TreeOf Name) → part_at t path ≡ Some u → child u 0 ≡ Some c → part_at t (path ++ 0 ∷ []) ≡ Some c
part_at-further t [] u c p q = ap (λ z. part_at z (0 ∷ [])) same ∙ ap (λ o. option_and_then (λ z. part_at z []) o) q
  where
    same : t ≡ u
    same = cc
part_at-further t (k ∷ ks) u c p q = by (child t k) p (λ d. part_at-further d ks u c)
  where
    by : (o : Option (TreeOf Name)) → option_and_then (λ d. part_at d ks) o ≡ Some u → ((d : TreeOf Name) → part_at d ks ≡ Some u → child u 0 ≡ Some c → part_at d (ks ++ 0 ∷ []) ≡ Some c) → option_and_then (λ d. part_at d (ks ++ 0 ∷ [])) o ≡ Some c
    by (Some d) e rest = rest d e q
    by None e rest = absurd (cc)

part_in-further : (b : SequenceOf Name) (path : List ℕ) (u c : TreeOf Name) → part_in b path ≡ Some u → child u 0 ≡ Some c → part_in b (path ++ 0 ∷ []) ≡ Some c
part_in-further b [] u c p q = absurd (cc)
part_in-further b (k ∷ ks) u c p q = by (nth (statement_trees b.statements) k) p
  where
    by : (o : Option (TreeOf Name)) → option_and_then (λ d. part_at d ks) o ≡ Some u → option_and_then (λ d. part_at d (ks ++ 0 ∷ [])) o ≡ Some c
    by (Some d) e = part_at-further d ks u c e q
    by None e = absurd (cc)

-- where `super` does not stand nothing is sent to it
pub nothing-above : (m : EntryOf Name) → has_super is_super m ≡ false → (t : Name) → SendsAbove m.tree.body t → ⊥
nothing-above m none t (path, r, args, q, e) =
    false≢true (sym (item-fails (λ (p : Placed Name). is_super_node is_super p.1) (nodes m.tree.body) (path ++ 0 ∷ [], r) none (Contains-part_in m.tree.body (path ++ 0 ∷ []) r (part_in-further m.tree.body path (send r t args) r q refl))) ∙ e)
