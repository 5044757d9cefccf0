-- What `inlineMethod` makes of an image is the image with a message to self inlined.
use Rattle.std.proofs.Common.{◌≡◌, ◌≤◌, ℕ, List, [], ◌∷◌, ◌++◌, length, Option, Some, None, refl, sym, ap, ◌∙◌, subst, arith, inl}
use Rattle.std.specs.Prelude.{Bool, true, false, not, ◌&&◌, ◌||◌, ◌≢◌, if◌then◌else◌, nat_lt, IsTrue, map, codes, option_map, unwrap_or}
use Rattle.std.specs.List.{AllByRecursion, list_any}
use Rattle.std.specs.Option.{option_map_or}
use Rattle.std.proofs.lemmas.Bool.{false≢true}
use Rattle.rb_base.specs.Names.{text_eq}
use Rattle.tree_model.specs.Tree.{TreeOf, var, send, return, StatementsOf, no_statements, more_statements, Notes}
use Rattle.tree_model.specs.Path.{count, nth, statement_trees, part_among, part_in, method_replaced, statements_replaced}
use Rattle.tree_model.specs.Nodes.{Placed, nodes}
use Rattle.scope_model.specs.SpecialNames.{control_form}
use Rattle.scope_model.specs.declared.local.Local.TheVariants.{Argument, Temporary, NotLocal}
use Rattle.scope_model.specs.Control.{is_empty, is_closure_at}
use Rattle.scope_model.specs.Scope.{PlacedScope, method_scope, entered, scopes_round, is_among, local_by}
use Rattle.image_model.specs.Image.{ClassOf, EntryOf, ImageOf}
use Rattle.image_model.specs.ImageNames.{OptionNames}
use Rattle.image_model.specs.Words.{text_words}
use Rattle.image_model.specs.Chain.{chain}
use Rattle.image_model.specs.Lookup.{lookup}
use Rattle.image_model.specs.Means.{means, means_outside}
use Rattle.run_model.specs.Values.{Name}
use Rattle.run_model.specs.ObjectPrimitives.{value_classes}
use Rattle.run_model.proofs.Finite.{by_cases, and-true_left, and-true_right}
use Rattle.run_model.proofs.RenamingLemmas.{text-same}
use Rattle.image_model.proofs.Lists.{all-implies}
use Rattle.resolved_model.specs.ResolvedImages.{plain_class, resolved_entry, resolved_image}
use Rattle.resolved_model.specs.Environments.{opened, declared_in, tree_in, statements_in}
use Rattle.mapped_model.proofs.RenamedVariableLemmas.{all-at}
use Rattle.rename_model.specs.Conditions.{is_user_class}
use Rattle.rename_laws.specs.BehindKernel.{AssignsNothingFixed}
use Rattle.rename_laws.proofs.Unnamed.{denied}
use Rattle.agreement_laws.proofs.MethodsFound.{IsIn, lookup-in}
use Rattle.reread_law.specs.WellFormed.{IsValue, WellFormed, WellFormedStatements}
use Rattle.reread_law.specs.WholeTrees.{FitsPrimitive, WellFormedMethod}
use Rattle.rename_model.specs.ClassRenamed.{WritingOf}
use Rattle.unfolded_calls.specs.Unfolding.{Context, IsBelow, IsOpen, Unfolds, UnfoldsLines, unfolds_code, IsUnfolded}
use Rattle.unfolded_calls.proofs.Running.{class-there}
use Rattle.unfolded_calls.proofs.Itself.{all-statements}
use Rattle.unfolded_calls.proofs.Untouched.{means-outside}
use Rattle.unfolded_places.specs.Becoming.{Becomes}
use Rattle.unfolded_places.specs.PartsReplaced.{StaysMessageAmong}
use Rattle.unfolded_places.specs.Inlining.{passed_for, Filling, filling}
use Rattle.unfolded_places.specs.Fillings.{filled_tree, MayFill}
use Rattle.unfolded_places.specs.InlinedOnce.{none_gone}
use Rattle.unfolded_places.proofs.Congruence.{ControlLaw}
use Rattle.unfolded_places.proofs.Refilled.{tree-fills-with}
use Rattle.unfolded_places.proofs.InlinedOne.{part-again}
use Rattle.unfolded_places.proofs.PassedThere.{outer-outside, IsPassing, IsNear, call-unfolds}
use Rattle.unfolded_places.proofs.MovesAlong.{Ends}
use Rattle.unfolded_places.proofs.MethodMoves.{inside as inside_of, code-moves, lines-with}
use Rattle.command_model.specs.Asked.{text_asked}
use Rattle.command_model.specs.SameMethods.{has_super}
use Rattle.command_model.specs.Hierarchy.{is_method_of}
use Rattle.command_model.specs.Places.{users_method, is_return, is_closure_in, SendOf}
use Rattle.command_model.specs.Sequences.{with_tree}
use Rattle.command_model.specs.InlineConditions.{is_one_target, is_inlinable, are_actuals_plain, captures_nothing, makes_no_control, makes_control}
use Rattle.moved_code_laws.specs.WellWritten.{IsWellWritten}
use Rattle.moved_code_laws.proofs.NodeAbove.{stays-among}
use Rattle.moved_code_laws.proofs.PlainThere.{no-control}
use Rattle.moved_code_laws.proofs.PassedSteady.{IsPassed, ArePassed, all-passed, passed-one, passed-for, near-at}
use Rattle.moved_code_laws.proofs.Targets.{user-apart, one-target, one-side}
use Rattle.moved_code_laws.proofs.SendFound.{StandsAt, expression_of, unfolded-so}
use Rattle.moved_code_laws.proofs.BodyThere.{answer-filled, answer-may}
use Rattle.moved_code_laws.proofs.MethodImages.{outer_of, image-onward}

-- of two of which one holds, the second does where the first does not
pub second-holds : (a b : Bool) → (a || b) ≡ true → a ≡ false → b ≡ true
second-holds true b e f = absurd (false≢true (sym f))
second-holds false b e f = e

-- no items
empty-list : (xs : List Name) → is_empty xs ≡ true → xs ≡ []
empty-list [] e = refl
empty-list (x ∷ xs) e = absurd (false≢true e)

-- a message of the user's method, and the method that it runs
pub record Scene (i : ImageOf Name) (c : Name) (meta : Bool) (m : EntryOf Name) (e : SendOf Name) (target : EntryOf Name) : Type 0 where
  pub user : is_user_class text_eq i c ≡ true
  pub class : m.class ≡ Some c
  pub side : m.meta ≡ meta
  pub stands : StandsAt m e
  pub to_self : e.receiver ≡ var (codes "self")
  pub one : is_one_target text_asked i c meta e.selector ≡ true
  pub finds : lookup text_words i (Some c) meta e.selector ≡ Some target
  pub own : target.kernel ≡ false
  pub inlinable : is_inlinable text_asked i c m e target ≡ true
  pub captures : captures_nothing text_asked i m e target ≡ true
  pub plain : are_actuals_plain text_asked i m e target ≡ true
  pub formed : WellFormed (send e.receiver e.selector e.arguments)
  pub counted : length target.tree.arguments ≡ count e.arguments

-- a method of the user is no primitive
pub no-primitive : (o : Option ℕ) (ts : List Name) (ss : StatementsOf Name) → FitsPrimitive false o ts ss → o ≡ None
no-primitive None ts ss f = refl
no-primitive (Some n) ts ss f = absurd (false≢true f.0)

-- each class has a name
pub named-classes : (i : ImageOf Name) → IsWellWritten i → AllByRecursion (λ (c : ClassOf Name). text_eq [] c.name ≡ false) i.classes
named-classes i sound = all-implies (λ (c : ClassOf Name). c.name ≢ []) (λ (c : ClassOf Name). text_eq [] c.name ≡ false) (λ x apart. by_cases (text_eq [] x.name) (λ t. absurd (apart (sym (text-same [] x.name t)))) (λ f. f)) i.classes sound.behind.ordered.named

-- no class of the user is `Class` or above it
pub not-class : (i : ImageOf Name) → IsWellWritten i → (c : Name) → is_user_class text_eq i c ≡ true → IsBelow (map plain_class i.classes) (codes "Class") c → ⊥
not-class i sound c user =
    user-apart i sound.behind.ordered (codes "Class") c (all-at (λ (v : Name). AllByRecursion (λ (e : ClassOf Name). IsTrue e.kernel) (chain text_eq i.classes (Some v))) value_classes 9 (codes "Class") sound.kernel_chains refl) user

module _ (i : ImageOf Name) (sound : IsWellWritten i) (c : Name) (meta : Bool) (m : EntryOf Name) (e : SendOf Name) (target : EntryOf Name) (scene : Scene i c meta m e target) where
  -- the target is a method of the image
  pub there : IsIn i target
  there = subst (OptionNames (IsIn i)) scene.finds (lookup-in i (Some c) meta e.selector)

  pub formed : WellFormedMethod false target.tree
  formed = all-at (λ (n : EntryOf Name). n.kernel ≡ false → WellFormedMethod false n.tree) i.methods there.0 target sound.formed there.1 scene.own

  pub fixed : AssignsNothingFixed (means text_words i target) target.tree.body
  fixed = all-at (λ (n : EntryOf Name). AssignsNothingFixed (means text_words i n) n.tree.body) i.methods there.0 target sound.behind.methods there.1

  pub plain-code : target.tree.primitive ≡ None
  plain-code = no-primitive target.tree.primitive target.tree.body.temporaries target.tree.body.statements formed.primitive

  -- what the condition on its body says
  abbrev returns_inside : Bool
  returns_inside = list_any (λ (x : Placed Name). is_return x.1 && nat_lt 1 (length x.0)) (nodes target.tree.body)

  abbrev above_fits : Bool
  above_fits = not (has_super (text_eq (codes "super")) target) || is_method_of text_eq c target

  pub none : target.tree.body.temporaries ≡ []
  none = empty-list target.tree.body.temporaries (and-true_left (is_empty target.tree.body.temporaries) _ (and-true_right (not target.kernel) _ scene.inlinable))

  pub inside : returns_inside ≡ false
  inside = denied returns_inside (and-true_left (not returns_inside) _ (and-true_right (is_empty target.tree.body.temporaries) _ (and-true_right (not target.kernel) _ scene.inlinable)))

  pub above : above_fits ≡ true
  above = and-true_left above_fits _ (and-true_right (not returns_inside) _ (and-true_right (is_empty target.tree.body.temporaries) _ (and-true_right (not target.kernel) _ scene.inlinable)))

  -- what is passed
  pub passes : ArePassed i m e target e.arguments
  passes = all-passed i m e target target.tree.arguments e.arguments scene.counted (passed-one i m e target (send e.receiver e.selector e.arguments) scene.stands.there scene.plain) scene.formed.3

  pub for-name : (n : Name) (t : TreeOf Name) → passed_for target.tree.arguments e.arguments n ≡ Some t → (is_among text_eq target.tree.arguments n ≡ true) × IsPassed i m e.path target n t
  for-name = passed-for i m e target (send e.receiver e.selector e.arguments) scene.stands.there scene.plain scene.formed.3

  -- the method opens the place
  pub opens : IsOpen (resolved_image i) none_gone (resolved_entry i m) (c, meta)
  opens = record { class = scene.class; meta = scene.side; user = not-class i sound c scene.user }

  abbrev pub around : List (PlacedScope Name)
  around = scopes_round (method_scope m.tree) e.path

  abbrev pub supers : Bool
  supers = has_super (text_eq (codes "super")) target

  -- the names of the method, where its body is put
  abbrev pub moved : Filling
  moved = record { arguments = target.tree.arguments; passed = e.arguments; before = λ n. means_outside text_words i target.class target.meta n; after = λ n. means_outside text_words i m.class m.meta n; round = declared_in around }

  -- a part of its body that may stand there
  pub part-fills : (t : TreeOf Name) → MayFill moved supers (λ s. false) [] t → Becomes (filling moved supers (λ s. false)) (opened target.tree.arguments [] []) (declared_in around) t (filled_tree target.tree.arguments e.arguments [] t)
  part-fills t may = tree-fills-with moved supers (λ s. false) (λ n u q. (for-name n u q).1.unblocked) scene.counted [] t may

  module _ (control : ControlLaw) where
    -- the message
    abbrev pub passing : IsPassing control i none_gone m c meta around e.selector e.arguments
    passing = record {
      message = no-control (control_form e.selector) (var (codes "self")) e.arguments passes.unblocked;
      target = target;
      found = one-target i sound.behind.ordered c meta e.selector target scene.user scene.one scene.finds none_gone;
      primitive = plain-code;
      temporaries = none;
      supers = supers;
      above = λ t.
          let own = class-there c target.class (second-holds (not (has_super (text_eq (codes "super")) target)) (is_method_of text_eq c target) above (ap not t)) in
          (own, one-side i sound.behind.ordered c meta e.selector target scene.user scene.one scene.finds (not-class i sound c scene.user) own);
      actuals = passes.actuals;
      passes = passes.passes;
      count = scene.counted ∙ passes.counted;
    }

    -- no closure in a part of the body reads an argument for which a temporary is passed
    pub part-near : (base : List ℕ) (w : TreeOf Name) → part_in target.tree.body base ≡ Some w → ((r : List ℕ) → is_closure_in control_form target.tree.body (base ++ r) ≡ is_closure_at control_form false w r) → 1 ≤ length base → scopes_round (method_scope target.tree) base ≡ (0, method_scope target.tree) ∷ [] →
        IsNear control i none_gone m c meta around e.selector e.arguments passing w
    part-near base w found closed deep own n y p q o k =
        let at = for-name n (var y) q in
        near-at target.tree base w found closed deep n p (ap (λ ps. local_by text_eq ps n) own ∙ ap (λ b. if b then Argument 0 else if is_among text_eq target.tree.body.temporaries n then Temporary 0 else NotLocal) at.0) (at.1.near y refl o k)

    abbrev pub inside_method : Context
    inside_method = inside_of control (resolved_image i) none_gone (outer_of i m) (outer-outside control i none_gone m c meta around) (Some (c, meta)) m.tree

    -- where the method answers an expression
    module _ (note : Notes) (answer : TreeOf Name) (answers : target.tree.body.statements ≡ more_statements note (return answer) no_statements) (stays : makes_no_control text_asked i m e target ≡ true) where
      -- the expression there
      abbrev pub expression : TreeOf Name
      expression = expression_of target e answer

      no-super : answer ≡ var (codes "super") → ⊥
      no-super q =
          let answering = subst WellFormedStatements answers formed.body.statements in
          let value : IsValue (var (codes "super")) = subst IsValue q answering.1.1 in
          false≢true (sym value)

      near : IsNear control i none_gone m c meta around e.selector e.arguments passing answer
      near =
          part-near (0 ∷ 0 ∷ []) answer (ap (λ ss. part_among (statement_trees ss) (0 ∷ 0 ∷ [])) answers) (λ r. ap (λ ss. option_map_or (λ t. is_closure_at control_form false t (0 ∷ r)) (nth (statement_trees ss) 0) false) answers) (omega arith)
          (ap (λ ss. unwrap_or (option_map (λ t. entered 1 t (0 ∷ [])) (nth (statement_trees ss) 0)) [] ++ (0, method_scope target.tree) ∷ []) answers)

      becomes : Becomes (filling moved supers (λ s. false)) (opened target.tree.arguments [] []) (declared_in around) answer expression
      becomes =
          subst (λ w. Becomes (filling moved supers (λ s. false)) (opened target.tree.arguments [] []) (declared_in around) answer w) (sym (answer-filled i m e target scene.captures inside fixed note answer answers))
          (part-fills answer (answer-may i m e target scene.captures inside fixed note answer answers (λ n. means-outside i.classes (chain text_eq i.classes target.class) target.meta n) none scene.counted))

      -- its statements unfold to those after
      still : StaysMessageAmong m.tree.body.statements e.path (send e.receiver e.selector e.arguments) expression
      still =
          stays-among expression m.tree e.path (send e.receiver e.selector e.arguments) scene.stands.there
          (denied (makes_control control_form m.tree e.path expression) (ap (λ o. not (option_map_or (makes_control control_form m.tree e.path) o false)) (sym (unfolded-so target e.arguments note answer answers)) ∙ stays))

      ends : Ends control (resolved_image i) none_gone (outer_of i m) (outer-outside control i none_gone m c meta around) (Some (c, meta)) (send e.receiver e.selector e.arguments) expression refl around
      ends z h =
          subst (λ r. Unfolds (resolved_image i) none_gone z (tree_in (outer_of i m) (declared_in around) (send r e.selector e.arguments)) (tree_in (outer_of i m) (declared_in around) expression)) (sym scene.to_self)
          (call-unfolds control i none_gone m c meta around e.selector e.arguments passing z [] h note answer expression answers no-super near becomes)

      pub lines : UnfoldsLines (resolved_image i) none_gone inside_method (statements_in (outer_of i m) (opened m.tree.arguments m.tree.body.temporaries []) m.tree.body.statements)
          (statements_in (outer_of i m) (opened m.tree.arguments m.tree.body.temporaries []) (statements_replaced m.tree.body.statements e.path expression))
      lines =
          subst (λ ss. UnfoldsLines (resolved_image i) none_gone inside_method (statements_in (outer_of i m) (opened m.tree.arguments m.tree.body.temporaries []) ss) (statements_in (outer_of i m) (opened m.tree.arguments m.tree.body.temporaries []) (statements_replaced m.tree.body.statements e.path expression)))
          (part-again m e.path (send e.receiver e.selector e.arguments) scene.stands.there)
          (lines-with control (resolved_image i) none_gone (outer_of i m) (outer-outside control i none_gone m c meta around) (Some (c, meta)) m.tree (send e.receiver e.selector e.arguments) expression (send e.receiver e.selector e.arguments) e.path refl scene.stands.there (inl refl)
          (all-statements (λ s. false ≡ false) (λ s. refl) m.tree.body.statements) still ends)

      -- so does the image
      pub image-inlined : (writing : WritingOf Name) (s : Name) → users_method text_eq i c meta s ≡ Some m → m.tree.primitive ≡ None → IsUnfolded (resolved_image i) (resolved_image (with_tree text_eq writing c meta s (method_replaced m.tree e.path expression) i))
      image-inlined writing s found plain =
          image-onward writing i sound c meta s m found (method_replaced m.tree e.path expression) (record { selector = refl; primitive = plain; no_primitive = plain; arguments = refl; temporaries = refl }) opens (named-classes i sound)
          (unfolds_code (code-moves control (resolved_image i) none_gone (outer_of i m) (outer-outside control i none_gone m c meta around) (Some (c, meta)) m.tree m.tree.body.statements (statements_replaced m.tree.body.statements e.path expression) lines))
