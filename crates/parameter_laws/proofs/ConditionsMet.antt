-- Where the conditions of `removeParameter` hold, the argument may go.
use Rattle.std.proofs.Common.{◌≡◌, ℕ, ◌-◌, ◌<◌, List, [], ◌∷◌, ◌++◌, Option, Some, None, refl, sym, ap, ◌∙◌, subst, arith}
use Rattle.std.specs.Prelude.{Bool, true, false, not, ◌&&◌, ◌||◌, nat_le, if◌then◌else◌, codes, slice_get}
use Rattle.std.specs.List.{AllByRecursion, list_all, list_any}
use Rattle.std.specs.Option.{option_map_or}
use Rattle.std.proofs.lemmas.Bool.{false≢true, leb-true, not-true, not-false}
use Rattle.rb_base.specs.Names.{text_eq}
use Rattle.tree_model.specs.Tree.{TreeOf, var, literal, send, cascade, assign, block, brace, return, MessagesOf, no_messages, more_messages, SequenceOf}
use Rattle.tree_model.specs.Path.{nth, part_in}
use Rattle.tree_model.specs.Nodes.{Placed, nodes}
use Rattle.scope_model.specs.Control.{is_empty}
use Rattle.scope_model.specs.declared.local.Local.{Local}
use Rattle.scope_model.specs.declared.local.Local.TheVariants.{Argument, Temporary, NotLocal}
use Rattle.scope_model.specs.SpecialNames.{is_pseudo_variable}
use Rattle.scope_model.specs.Scope.{method_scope, scopes_round, local_by, local_in}
use Rattle.image_model.specs.Image.{EntryOf, DoItOf, ImageOf}
use Rattle.image_model.specs.Words.{text_words}
use Rattle.image_model.specs.Means.{MeaningOf, pseudo, argument, temporary, variable, a_class, transcript, undeclared, means_by, means_outside, means, means_in_doit}
use Rattle.image_model.specs.Nodes.{Place, in_method, in_doit, NodeOf, image_nodes, means_in}
use Rattle.image_model.specs.Uses.{is_sender, has_message}
use Rattle.run_model.specs.Values.{Name}
use Rattle.run_model.proofs.Finite.{by_cases, and-true_left, and-true_right}
use Rattle.run_model.proofs.RenamingLemmas.{text-same}
use Rattle.resolved_model.specs.ResolvedImages.{resolved_image}
use Rattle.mapped_model.proofs.RenamedVariableLemmas.{all-at, at-all}
use Rattle.argument_laws.specs.PlainArguments.{ImageMayLose}
use Rattle.rename_model.specs.CommandWords.{arity, is_reflective_name, text_command_words}
use Rattle.rename_model.specs.Conditions.{is_reflective, reflects, method_reflects, has_no_reflection, is_no_kernel_selector}
use Rattle.rename_laws.specs.BehindKernel.{is_fixed}
use Rattle.rename_laws.proofs.OutsideLoose.{outside-loose}
use Rattle.rename_laws.proofs.NodesOfImages.{none-passes, in-method-fails, in-doit-fails}
use Rattle.rename_laws.proofs.TextsTold.{text-turned}
use Rattle.rename_laws.proofs.Unnamed.{neither_left, neither_right, each-fails, each-passes}
use Rattle.command_model.specs.Asked.{text_asked}
use Rattle.command_model.specs.Places.{is_formal}
use Rattle.command_model.specs.ParameterConditions.{counts_argument, formal_reads, is_parameter_unused, are_arguments_plain, may_be_dropped, passed_by}
use Rattle.parameter_laws.specs.Arities.{IsPlainlyWritten}
use Rattle.parameter_laws.proofs.Reading.{is_own_argument, reads_argument}
use Rattle.parameter_laws.proofs.PlainStrictly.{IsOther, passes_plain, node_plain, node-strict, part_in-on}
use Rattle.parameter_laws.proofs.KernelApart.{IsApart, methods-apart, no-primitive, second-fails}
use Rattle.parameter_laws.proofs.UnreadImages.{node-fails, IsPlainCode, IsUnreadMethod, image-may}

-- all pass where none fails
none-denied : {X : Type 0} (p : X → Bool) (xs : List X) → list_all p xs ≡ true → list_any (λ x. not (p x)) xs ≡ false
none-denied p [] e = refl
none-denied p (x ∷ xs) e = λ i. not (and-true_left (p x) (list_all p xs) e i) || none-denied p xs (and-true_right (p x) (list_all p xs) e) i

-- of two of which one holds, the second does where the first does not
second-holds : (a b : Bool) → (a || b) ≡ true → a ≡ false → b ≡ true
second-holds true b e f = absurd (false≢true (sym f))
second-holds false b e f = e

-- what is not fixed is no argument
loose-own : (g : MeaningOf Name) → is_fixed g ≡ false → is_own_argument g ≡ false
loose-own pseudo e = refl
loose-own (argument scope) e = absurd (false≢true (sym e))
loose-own (temporary scope) e = refl
loose-own (variable kind c) e = refl
loose-own (a_class c) e = refl
loose-own transcript e = refl
loose-own undeclared e = refl

-- an own argument is an argument of the method
own-formal : (b : Bool) (l : Local) (g : MeaningOf Name) → is_own_argument g ≡ false → is_own_argument (if b then pseudo else means_by (if b then NotLocal else l) g) ≡ is_formal (if b then NotLocal else l)
own-formal true l g e = refl
own-formal false (Argument scope) g e = refl
own-formal false (Temporary scope) g e = refl
own-formal false NotLocal g e = e

-- a node that does not send a selector passes nothing for it
module _ (s : Name) (k : ℕ) (mean : Name → MeaningOf Name) where
  messages-kept : (r : TreeOf Name) (ms : MessagesOf Name) → has_message text_eq s ms ≡ false → list_all (passes_plain s k mean) (passed_by text_eq s (cascade r ms)) ≡ true
  messages-kept r no_messages e = refl
  messages-kept r (more_messages u args ms) e =
      ap (λ b. list_all (passes_plain s k mean) (if b then args ∷ passed_by text_eq s (cascade r ms) else passed_by text_eq s (cascade r ms))) (neither_left (text_eq s u) (has_message text_eq s ms) e)
      ∙ messages-kept r ms (neither_right (text_eq s u) (has_message text_eq s ms) e)

  node-kept : (u : TreeOf Name) → is_sender text_eq s u ≡ false → node_plain s k mean u ≡ true
  node-kept (var n) e = refl
  node-kept (literal l) e = refl
  node-kept (send r u args) e = ap (λ b. list_all (passes_plain s k mean) (if b then args ∷ [] else [])) e
  node-kept (cascade r ms) e = messages-kept r ms e
  node-kept (assign n t) e = refl
  node-kept (block ps ts ss n) e = refl
  node-kept (brace ts) e = refl
  node-kept (return t) e = refl

-- both of two, the other way round
turned : (a b : Bool) → (a && b) ≡ false → (b && a) ≡ false
turned true true e = e
turned true false e = refl
turned false true e = refl
turned false false e = refl

module _ (i : ImageOf Name) (s : Name) (k : ℕ) where
  -- the place of the argument, counted from 0
  abbrev place : ℕ
  place = k - 1

  -- what the condition on arguments says of a node
  abbrev drops_at : NodeOf Name → Bool
  drops_at e = list_all (λ args. option_map_or (may_be_dropped text_asked i e) (nth args place) false) (passed_by text_eq s e.tree)

  -- a node of a method or a do-it
  abbrev node_at : Place → List ℕ → TreeOf Name → NodeOf Name
  node_at where_is path u = record { use_of = record { place = where_is; path = path }; tree = u }

  -- code that names nothing reflective passes something plain
  code-plain : (where_is : Place) (b : SequenceOf Name) → reflects text_command_words b ≡ false → ((path : List ℕ) (u : TreeOf Name) → part_in b path ≡ Some u → drops_at (node_at where_is path u) ≡ true) →
      (path : List ℕ) (u : TreeOf Name) → part_in b path ≡ Some u → node_plain s place (λ n. means_in text_words i where_is path n) u ≡ true
  code-plain where_is b c drops path u q =
      node-strict i (node_at where_is path u) s place u (λ j n p. other n (node-fails (λ (x : Placed Name). is_reflective text_command_words x.1) b c (path ++ j ∷ []) (var n) (part_in-on b path u (var n) j p q))) (drops path u q)
    where
      other : (n : Name) → is_reflective_name n ≡ false → IsOther n
      other n h = ap not (text-turned n (codes "thisContext") ∙ neither_left (text_eq (codes "thisContext") n) (text_eq (codes "Smalltalk") n) h)

  module _ (quiet : has_no_reflection text_command_words i ≡ true) (apart : is_no_kernel_selector text_eq text_command_words i s ≡ true) (unread : is_parameter_unused text_asked i s k ≡ true) (plain : are_arguments_plain text_asked i s k ≡ true) (written : AllByRecursion IsPlainlyWritten i.methods) where
    none-reflects : (list_any (method_reflects text_command_words) i.methods || list_any (λ (d : DoItOf Name). reflects text_command_words d.body) i.doits) ≡ false
    none-reflects = not-true (list_any (method_reflects text_command_words) i.methods || list_any (λ (d : DoItOf Name). reflects text_command_words d.body) i.doits) quiet

    none-kept : list_any (λ (e : NodeOf Name). not (drops_at e)) (image_nodes i) ≡ false
    none-kept = none-denied drops_at (image_nodes i) (and-true_right (counts_argument text_asked s k) (list_all drops_at (image_nodes i)) plain)

    -- the argument is one of the selector
    counted : place < arity s
    counted =
        let both = and-true_left (nat_le 1 k && nat_le k (arity s)) _ unread in
        let low = leb-true 1 k (and-true_left (nat_le 1 k) (nat_le k (arity s)) both) in
        let high = leb-true k (arity s) (and-true_right (nat_le 1 k) (nat_le k (arity s)) both) in
        omega (arith, low, high)

    -- a method passes something plain
    method-plain : (j : ℕ) (m : EntryOf Name) → slice_get i.methods j ≡ Some m → IsPlainCode s place (means text_words i m) m.tree.body
    method-plain j m at path u q =
        by_cases m.kernel
        (λ t. node-kept s place (means text_words i m path) u (node-fails (λ (x : Placed Name). is_sender text_eq s x.1) m.tree.body (neither_right (text_eq s m.tree.selector) _ (all-at (IsApart s) i.methods j m (methods-apart i s apart) at t)) path u q))
        (λ t.
        let own = second-fails (not m.kernel) (text_command_words.is_not_understood m.tree.selector || reflects text_command_words m.tree.body)
        (all-at (λ (x : EntryOf Name). method_reflects text_command_words x ≡ false) i.methods j m (each-fails (method_reflects text_command_words) i.methods (neither_left (list_any (method_reflects text_command_words) i.methods) _ none-reflects)) at) (ap not t) in
        sym (ap (λ o. node_plain s place (λ n. option_map_or (λ (x : EntryOf Name). means text_words i x path n) o undeclared) u) at)
        ∙ code-plain (in_method j) m.tree.body (neither_right (text_command_words.is_not_understood m.tree.selector) (reflects text_command_words m.tree.body) own)
        (λ p v e. not-false (drops_at (node_at (in_method j) p v)) (in-method-fails i (λ (x : NodeOf Name). not (drops_at x)) none-kept j m at p v e)) path u q)

    -- and a do-it
    doit-plain : (j : ℕ) (d : DoItOf Name) → slice_get i.doits j ≡ Some d → IsPlainCode s place (means_in_doit text_words i d) d.body
    doit-plain j d at path u q =
        sym (ap (λ o. node_plain s place (λ n. option_map_or (λ (x : DoItOf Name). means_in_doit text_words i x path n) o undeclared) u) at)
        ∙ code-plain (in_doit j) d.body
        (all-at (λ (x : DoItOf Name). reflects text_command_words x.body ≡ false) i.doits j d (each-fails (λ (x : DoItOf Name). reflects text_command_words x.body) i.doits (neither_right (list_any (method_reflects text_command_words) i.methods) _ none-reflects)) at)
        (λ p v e. not-false (drops_at (node_at (in_doit j) p v)) (in-doit-fails i (λ (x : NodeOf Name). not (drops_at x)) none-kept j d at p v e)) path u q

    -- a method of the selector that does not read the argument x
    module _ (m : EntryOf Name) (x : Name) (at : slice_get m.tree.arguments place ≡ Some x) (empty : is_empty (formal_reads text_asked m.tree x) ≡ true) where
      name-unread : (path : List ℕ) (n : Name) → part_in m.tree.body path ≡ Some (var n) → (text_eq x n && is_formal (local_in text_eq is_pseudo_variable m.tree path n)) ≡ false
      name-unread path n q = node-fails _ m.tree.body (none-passes (λ (e : Placed Name). e.0) _ (nodes m.tree.body) empty) path (var n) q

      own-named : (path : List ℕ) (n : Name) → is_own_argument (means text_words i m path n) ≡ is_formal (local_in text_eq is_pseudo_variable m.tree path n)
      own-named path n =
          own-formal (is_pseudo_variable n) (local_by text_eq (scopes_round (method_scope m.tree) path) n) (means_outside text_words i m.class m.meta n)
          (loose-own (means_outside text_words i m.class m.meta n) (outside-loose i m.class m.meta n))

      node-unread : (path : List ℕ) (u : TreeOf Name) → part_in m.tree.body path ≡ Some u → reads_argument place m.tree.arguments (means text_words i m path) u ≡ false
      node-unread path (var n) q =
          (λ z. own-named path n z && option_map_or (λ y. text_eq y n) (at z) false)
          ∙ turned (text_eq x n) (is_formal (local_in text_eq is_pseudo_variable m.tree path n)) (name-unread path n q)
      node-unread path (literal l) q = refl
      node-unread path (send r u ts) q = refl
      node-unread path (cascade r ms) q = refl
      node-unread path (assign n t) q = refl
      node-unread path (block ps ts ss e) q = refl
      node-unread path (brace ts) q = refl
      node-unread path (return t) q = refl

    method-unread : (j : ℕ) (m : EntryOf Name) → slice_get i.methods j ≡ Some m → IsUnreadMethod s place i m
    method-unread j m at t =
        by_cases m.kernel
        (λ q. absurd (false≢true (sym (neither_left (text_eq s m.tree.selector) _ (all-at (IsApart s) i.methods j m (methods-apart i s apart) at q)) ∙ t)))
        (λ q.
        let all = all-at _ i.methods j m (each-passes _ i.methods (and-true_right (counts_argument text_asked s k) _ unread)) at in
        let users = second-holds m.kernel (not (text_eq s m.tree.selector) || option_map_or (λ x. is_empty (formal_reads text_asked m.tree x)) (slice_get m.tree.arguments place) false) all q in
        let own = second-holds (not (text_eq s m.tree.selector)) (option_map_or (λ x. is_empty (formal_reads text_asked m.tree x)) (slice_get m.tree.arguments place) false) users (ap not t) in (
          subst (λ n. place < n) (ap arity (text-same s m.tree.selector t) ∙ sym ((all-at IsPlainlyWritten i.methods j m written at).arguments q)) counted,
          by (slice_get m.tree.arguments place) refl own,
        ))
      where
        by : (o : Option Name) → slice_get m.tree.arguments place ≡ o → option_map_or (λ x. is_empty (formal_reads text_asked m.tree x)) o false ≡ true →
            (path : List ℕ) (u : TreeOf Name) → part_in m.tree.body path ≡ Some u → reads_argument place m.tree.arguments (means text_words i m path) u ≡ false
        by None p e = absurd (false≢true e)
        by (Some x) p e = node-unread m x p e

    pub conditions-may : ImageMayLose s place (resolved_image i)
    conditions-may =
        image-may s place i (at-all (λ (m : EntryOf Name). IsPlainCode s place (means text_words i m) m.tree.body) i.methods method-plain)
        (at-all (λ (d : DoItOf Name). IsPlainCode s place (means_in_doit text_words i d) d.body) i.doits doit-plain) (at-all (IsUnreadMethod s place i) i.methods method-unread) (no-primitive i s apart written)
