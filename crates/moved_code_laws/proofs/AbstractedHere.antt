-- What `abstractInstVar` makes of an image, where its conditions hold, is the image in which the variable is reached by messages.
use Rattle.std.proofs.Common.{◌≡◌, ℕ, List, [], ◌∷◌, ◌++◌, Option, Some, None, refl, sym, ap, ◌∙◌, subst, append_assoc}
use Rattle.std.specs.Prelude.{Bool, true, false, not, ◌&&◌, ◌||◌, cond, if◌then◌else◌, find, map, slice_get, option_map, IsTrue, codes, length}
use Rattle.std.specs.Bool.{beq}
use Rattle.std.specs.List.{AllByRecursion, list_any}
use Rattle.std.specs.Option.{option_map_or}
use Rattle.std.proofs.lemmas.Bool.{false≢true}
use Rattle.rb_base.specs.Names.{text_eq}
use Rattle.rb_base.proofs.NamesLemmas.{text_eq-refl}
use Rattle.tree_model.specs.Tree.{var, literal, send, cascade, assign, block, brace, return, StatementsOf, SequenceOf}
use Rattle.tree_model.specs.Nodes.{Placed, nodes}
use Rattle.scope_model.specs.declared.local.Local.{Local}
use Rattle.scope_model.specs.declared.local.Local.TheVariants.{Argument, Temporary, NotLocal}
use Rattle.scope_model.specs.declared.local.ControlForm.TheVariants.{OneBlock, TwoBlocks, Loop, NoControl}
use Rattle.scope_model.specs.SpecialNames.{is_pseudo_variable, is_one_of, one_block_selectors, two_block_selectors, loop_selectors, control_form}
use Rattle.scope_model.specs.Scope.{local_in_doit, local_in}
use Rattle.st_kernel.specs.Selectors.{is_control}
use Rattle.image_model.specs.Image.{ClassOf, EntryOf, DoItOf, ImageOf}
use Rattle.image_model.specs.Words.{text_words}
use Rattle.image_model.specs.Chain.{class_named, chain, superclass_of}
use Rattle.image_model.specs.Lookup.{is_method, own_method}
use Rattle.image_model.specs.Means.{of_instance, MeaningOf, pseudo, variable, definer, means_by, means, means_in_doit, means_outside}
use Rattle.image_model.specs.Uses.{name_used, is_variable}
use Rattle.image_model.specs.Valid.{HasClass}
use Rattle.image_model.proofs.Ends.{find-place}
use Rattle.image_model.proofs.Lists.{all-map}
use Rattle.image_model.proofs.SearchLemmas.{means_along-side, definer-first}
use Rattle.image_model.proofs.UpwardsLemmas.{upwards-none}
use Rattle.run_model.specs.Values.{Name}
use Rattle.run_model.specs.ObjectPrimitives.{value_classes}
use Rattle.run_model.proofs.Finite.{by_cases, and-true_left, and-true_right}
use Rattle.run_model.proofs.RenamingLemmas.{text-same}
use Rattle.resolved_model.specs.Resolving.{meant_in}
use Rattle.resolved_model.specs.ResolvedImages.{plain_class, resolved_entry, resolved_image}
use Rattle.resolved_model.specs.Environments.{opened}
use Rattle.mapped_model.proofs.RenamedVariableLemmas.{all-at, at-all}
use Rattle.rename_model.specs.ClassRenamed.{WritingOf}
use Rattle.rename_laws.proofs.Unnamed.{denied, neither_left, neither_right}
use Rattle.parameter_laws.proofs.KernelApart.{control-apart}
use Rattle.unfolded_calls.specs.Unfolding.{IsBelow, IsTarget}
use Rattle.unfolded_calls.proofs.Running.{none-some, some-same, find-passes}
use Rattle.unfolded_calls.specs.SendsOnly.{StatementsSendOnly}
use Rattle.unfolded_places.specs.Accessed.{accessed_statements}
use Rattle.command_model.specs.Asked.{text_asked}
use Rattle.command_model.specs.CodeAllowed.{MayAbstractVariable}
use Rattle.command_model.specs.Commands.{AbstractInstVar}
use Rattle.command_model.specs.Effects.{effect}
use Rattle.command_model.specs.Walk.{rebuilt_statements, rebuilt_sequence, rebuilt_method}
use Rattle.command_model.specs.Accessors.{getter, setter_of, accessing, made, is_meant, method_made, doit_made}
use Rattle.command_model.specs.MethodEffects.{new_method}
use Rattle.moved_code_laws.specs.WellWritten.{IsWellWritten}
use Rattle.moved_code_laws.specs.AccessorNames.{AreAccessorNames}
use Rattle.moved_code_laws.specs.VariableAbstracted.{accessors_gone, SendsNeither, MethodAccessed, stays, accessed, MethodsAccessed, accessed_none, accessed_more, IsVariableAbstracted}
use Rattle.moved_code_laws.proofs.Saying.{own_round, in-method}
use Rattle.moved_code_laws.proofs.Unsent.{lines-both}
use Rattle.moved_code_laws.proofs.FreshSelector.{other-selector, unsent, unsent-doits}
use Rattle.moved_code_laws.proofs.PartStands.{of-among}
use Rattle.moved_code_laws.proofs.Targets.{test-there, chain-of, new-target}
use Rattle.moved_code_laws.proofs.InlinedHere.{not-class}
use Rattle.moved_code_laws.proofs.AccessedThere.{Makes, statements-accessed}
use Rattle.moved_code_laws.proofs.VariableMeant.{is-variable, IsDefinedAlong, defined-along, chain-above, definer-above, IsAbove}
use Rattle.moved_code_laws.proofs.NewMethod.{last-fails}

-- a selector that makes no control send
no-form : (s : Name) → is_control s ≡ false → control_form s ≡ NoControl
unfolding is_control control_form
no-form s h =
    let a = neither_right (text_eq s (codes "ifTrue:")) _ h in
    let b = neither_right (text_eq s (codes "ifFalse:")) _ a in
    let c = neither_right (text_eq s (codes "ifTrue:ifFalse:")) _ b in
    let d = neither_right (text_eq s (codes "ifFalse:ifTrue:")) _ c in
    let e = neither_right (text_eq s (codes "and:")) _ d in
    let f = neither_right (text_eq s (codes "or:")) _ e in
    let g = neither_right (text_eq s (codes "whileTrue:")) _ f in
    let one : is_one_of one_block_selectors s ≡ false = λ k. neither_left (text_eq s (codes "ifTrue:")) _ h k || (neither_left (text_eq s (codes "ifFalse:")) _ a k || (neither_left (text_eq s (codes "and:")) _ d k || (neither_left (text_eq s (codes "or:")) _ e k || false))) in
    let two : is_one_of two_block_selectors s ≡ false = λ k. neither_left (text_eq s (codes "ifTrue:ifFalse:")) _ b k || (neither_left (text_eq s (codes "ifFalse:ifTrue:")) _ c k || false) in
    let three : is_one_of loop_selectors s ≡ false = λ k. neither_left (text_eq s (codes "whileTrue:")) _ f k || (neither_left (text_eq s (codes "whileFalse:")) _ g k || false) in
    λ k. if one k then OneBlock else if two k then TwoBlocks else if three k then Loop else NoControl

-- an item that passes a test
any-there : {X : Type 0} (p : X → Bool) (xs : List X) → list_any p xs ≡ true → (x : X) × (p x ≡ true)
any-there p [] e = absurd (false≢true e)
any-there p (x ∷ xs) e = by_cases (p x) (λ t. (x, t)) (λ f. any-there p xs (sym (ap (λ b. b || list_any p xs) f) ∙ e))

-- items that stay
all-same : {X : Type 0} (f : X → X) (xs : List X) → AllByRecursion (λ x. f x ≡ x) xs → map f xs ≡ xs
all-same f [] a = refl
all-same f (x ∷ xs) a = λ k. a.0 k ∷ all-same f xs a.1 k

-- a search passes by what fails
find-behind : {X : Type 0} (p : X → Bool) (xs ys : List X) → AllByRecursion (λ x. p x ≡ false) xs → find p (xs ++ ys) ≡ find p ys
find-behind p [] ys a = refl
find-behind p (x ∷ xs) ys a = ap (λ b. cond b (Some x) (find p (xs ++ ys))) a.0 ∙ find-behind p xs ys a.1

-- what a name means outside that means an instance variable inside
outer-of : (c : Name) (b : Bool) (l : Local) (g : MeaningOf Name) → (if b then pseudo else means_by l g) ≡ variable of_instance c → g ≡ variable of_instance c
outer-of c true l g e = absurd (cc)
outer-of c false (Argument k) g e = absurd (cc)
outer-of c false (Temporary k) g e = absurd (cc)
outer-of c false NotLocal g e = e

module _ (writing : WritingOf Name) (i : ImageOf Name) (sound : IsWellWritten i) (c x setter given : Name) (hold : MayAbstractVariable text_asked i (AbstractInstVar c x setter given) c x setter) (names : AreAccessorNames x setter given) where
  -- the class that defines the variable
  definer-is : (y : ClassOf Name) × (class_named text_eq i.classes c ≡ Some y) × (list_any (text_eq x) y.instance ≡ true)
  definer-is = test-there (λ (e : ClassOf Name). list_any (text_eq x) e.instance) (class_named text_eq i.classes c) hold.has_variable

  place : (k : ℕ) × (slice_get i.classes k ≡ Some definer-is.0)
  place = find-place (λ (e : ClassOf Name). text_eq c e.name) i.classes definer-is.0 definer-is.1

  called : c ≡ definer-is.0.name
  called = text-same c definer-is.0.name (find-passes (λ (e : ClassOf Name). text_eq c e.name) i.classes definer-is.0 definer-is.1)

  plain : is_pseudo_variable x ≡ false
  plain = of-among (λ n. is_pseudo_variable n ≡ false) definer-is.0.instance x (all-at (λ (e : ClassOf Name). AllByRecursion (λ n. is_pseudo_variable n ≡ false) e.instance) i.classes place.0 definer-is.0 sound.variables place.1) definer-is.2

  own-meaning : means_outside text_words i (Some c) false x ≡ variable of_instance c
  own-meaning =
      means_along-side text_words i.classes (chain text_eq i.classes (Some c)) false x definer-is.0
      (ap (λ l. definer text_eq of_instance l x) (chain-of i sound.behind.ordered c definer-is.0 definer-is.1) ∙ definer-first text_eq of_instance definer-is.0 (chain text_eq i.classes definer-is.0.superclass) x definer-is.2)
      ∙ ap (variable of_instance) (sym called)

  -- code that means the variable
  abbrev tests : (List ℕ → Name → MeaningOf Name) → Placed Name → Bool
  tests at e = option_map_or (λ n. text_eq x n && is_variable text_eq of_instance c (at e.0 n)) (name_used e.1) false

  code-means : (at : List ℕ → Name → MeaningOf Name) (b : SequenceOf Name) → list_any (tests at) (nodes b) ≡ true → (path : List ℕ) × (at path x ≡ variable of_instance c)
  code-means at b h =
      let e = any-there (tests at) (nodes b) h in
      let n = test-there (λ n. text_eq x n && is_variable text_eq of_instance c (at e.0.0 n)) (name_used e.0.1) e.1 in
      let same = text-same x n.0 (and-true_left (text_eq x n.0) _ n.2) in
      (e.0.0, ap (at e.0.0) same ∙ is-variable c (at e.0.0 n.0) (and-true_right (text_eq x n.0) _ n.2))

  -- messages of both selectors are sent nowhere
  neither : (ss : StatementsOf Name) → StatementsSendOnly (λ s. text_eq s x ≡ false) ss → StatementsSendOnly (λ s. text_eq s setter ≡ false) ss → SendsNeither x setter ss
  neither ss a b = lines-both (λ s. text_eq s x ≡ false) (λ s. text_eq s setter ≡ false) (λ s. (text_eq s x || text_eq s setter) ≡ false) (λ s p q k. p k || q k) ss a b

  -- a method
  abbrev made_of : EntryOf Name → EntryOf Name
  made_of m = method_made text_words writing (codes "self") c x setter given i m

  abbrev meant : EntryOf Name → Bool
  meant m = is_meant text_words writing (codes "self") c x setter given i (means text_words i m) m.tree.body

  module _ (k : ℕ) (m : EntryOf Name) (at : slice_get i.methods k ≡ Some m) where
    sends-neither : SendsNeither x setter m.tree.body.statements
    sends-neither = neither m.tree.body.statements (unsent i x hold.fresh_getter k m at) (unsent i setter hold.fresh_setter k m at)

    owner : HasClass i.classes m
    owner = all-at (HasClass i.classes) i.methods k m sound.behind.classes_there at

    module _ (h : meant m ≡ true) where
      outer : means_outside text_words i m.class m.meta x ≡ variable of_instance c
      outer =
          let e = code-means (means text_words i m) m.tree.body h in
          outer-of c (is_pseudo_variable x) (local_in text_eq is_pseudo_variable m.tree e.0 x) (means_outside text_words i m.class m.meta x) e.1

      along : IsDefinedAlong c (chain text_eq i.classes (Some owner.0)) m.meta x
      along = subst (λ o. IsDefinedAlong c (chain text_eq i.classes o) m.meta x) owner.1 (defined-along c i.classes (chain text_eq i.classes m.class) m.meta x outer)

      under : IsBelow (resolved_image i).classes owner.0 c
      under = let above = definer-above i owner.0 c m.meta x along in subst (IsBelow (map plain_class i.classes) owner.0) above.2 above.1.1

      makes : Makes c x setter (made text_words writing (codes "self") c x setter given i (means text_words i m)) (meant_in i m)
      makes path (var n) = refl
      makes path (literal l) = refl
      makes path (send r s args) = refl
      makes path (cascade r ms) = refl
      makes path (assign n t) = refl
      makes path (block ps ts ss e) = refl
      makes path (brace ts) = refl
      makes path (return t) = refl

      lines : rebuilt_statements (made text_words writing (codes "self") c x setter given i (means text_words i m)) 0 m.tree.body.statements ≡ accessed_statements x x setter (opened m.tree.arguments m.tree.body.temporaries []) m.tree.body.statements
      lines =
          statements-accessed c x setter (λ n. means_outside text_words i m.class m.meta n) outer plain m.tree.body.statements (made text_words writing (codes "self") c x setter given i (means text_words i m)) 1 0 (own_round m.tree) (meant_in i m) makes
          (in-method m.tree (λ n. means_outside text_words i m.class m.meta n) (meant_in i m) (λ path n. refl))

      changed : MethodAccessed i c x setter m (record m { tree = rebuilt_method (made text_words writing (codes "self") c x setter given i (means text_words i m)) m.tree; source = writing.method_text (rebuilt_method (made text_words writing (codes "self") c x setter given i (means text_words i m)) m.tree) })
      changed =
          subst (λ ss. MethodAccessed i c x setter m (record m { source = writing.method_text (rebuilt_method (made text_words writing (codes "self") c x setter given i (means text_words i m)) m.tree); tree = record m.tree { body = record m.tree.body { statements = ss } } })) (sym lines)
          (accessed m owner.0 (writing.method_text (rebuilt_method (made text_words writing (codes "self") c x setter given i (means text_words i m)) m.tree)) owner.1 along.side under (own-meaning ∙ sym outer) sends-neither)

    one-accessed : MethodAccessed i c x setter m (made_of m)
    one-accessed =
        by_cases (meant m) (λ h. subst (λ b. MethodAccessed i c x setter m (if b then record m { tree = rebuilt_method (made text_words writing (codes "self") c x setter given i (means text_words i m)) m.tree; source = writing.method_text (rebuilt_method (made text_words writing (codes "self") c x setter given i (means text_words i m)) m.tree) } else m)) (sym h) (changed h))
        (λ f. subst (λ b. MethodAccessed i c x setter m (if b then record m { tree = rebuilt_method (made text_words writing (codes "self") c x setter given i (means text_words i m)) m.tree; source = writing.method_text (rebuilt_method (made text_words writing (codes "self") c x setter given i (means text_words i m)) m.tree) } else m)) (sym f) (stays m sends-neither))

  -- methods
  all-accessed : (ms : List (EntryOf Name)) → AllByRecursion (λ m. MethodAccessed i c x setter m (made_of m)) ms → MethodsAccessed i c x setter ms (map made_of ms)
  all-accessed [] a = accessed_none
  all-accessed (m ∷ ms) a = accessed_more a.0 (all-accessed ms a.1)

  keeps-selector : (m : EntryOf Name) → (made_of m).tree.selector ≡ m.tree.selector
  keeps-selector m = by (meant m)
    where
      by : (b : Bool) → (if b then record m { tree = rebuilt_method (made text_words writing (codes "self") c x setter given i (means text_words i m)) m.tree; source = writing.method_text (rebuilt_method (made text_words writing (codes "self") c x setter given i (means text_words i m)) m.tree) } else m).tree.selector ≡ m.tree.selector
      by true = refl
      by false = refl

  -- do-its mean no variable of a class of the user
  module _ (o : Option (ClassOf Name)) (e : find (λ (d : ClassOf Name). text_words.is_undefined_object d.name) i.classes ≡ o) (h : means_outside text_words i (option_map (λ (d : ClassOf Name). d.name) o) false x ≡ variable of_instance c) where
    defined : IsDefinedAlong c (chain text_eq i.classes (option_map (λ (d : ClassOf Name). d.name) o)) false x
    defined = defined-along c i.classes (chain text_eq i.classes (option_map (λ (d : ClassOf Name). d.name) o)) false x h

  kernel-apart : (u : Name) → AllByRecursion (λ (e : ClassOf Name). IsTrue e.kernel) (chain text_eq i.classes (Some u)) → IsDefinedAlong c (chain text_eq i.classes (Some u)) false x → ⊥
  kernel-apart u kernel h =
      let at = find-place (λ (e : ClassOf Name). list_any (text_eq x) e.instance) (chain text_eq i.classes (Some u)) h.definer h.found in
      let own = all-at (λ (e : ClassOf Name). IsTrue e.kernel) (chain text_eq i.classes (Some u)) at.0 h.definer kernel at.1 in
      let above = all-at (IsAbove i u) (chain text_eq i.classes (Some u)) at.0 h.definer (chain-above i u) at.1 in
      let user = test-there (λ (e : ClassOf Name). not e.kernel) (class_named text_eq i.classes c) hold.user_class in
      let same = some-same (sym above.0 ∙ ap (class_named text_eq i.classes) h.name ∙ user.1) in
      false≢true (sym (denied user.0.kernel user.2) ∙ ap (λ (e : ClassOf Name). e.kernel) (sym same) ∙ own)

  no-doit : (o : Option (ClassOf Name)) → find (λ (d : ClassOf Name). text_words.is_undefined_object d.name) i.classes ≡ o → means_outside text_words i (option_map (λ (d : ClassOf Name). d.name) o) false x ≡ variable of_instance c → ⊥
  no-doit None e h = none-some (ap (find (λ (e : ClassOf Name). list_any (text_eq x) e.instance)) (sym (upwards-none (superclass_of text_eq i.classes) (length i.classes))) ∙ (defined None e h).found)
  no-doit (Some u) e h =
      let named : codes "UndefinedObject" ≡ u.name = text-same (codes "UndefinedObject") u.name (find-passes (λ (d : ClassOf Name). text_eq (codes "UndefinedObject") d.name) i.classes u e) in
      kernel-apart (codes "UndefinedObject") (all-at (λ (v : Name). AllByRecursion (λ (e : ClassOf Name). IsTrue e.kernel) (chain text_eq i.classes (Some v))) value_classes 0 (codes "UndefinedObject") sound.kernel_chains refl)
      (subst (λ n. IsDefinedAlong c (chain text_eq i.classes (Some n)) false x) (sym named) (defined (Some u) e h))

  abbrev doit_of : DoItOf Name → DoItOf Name
  doit_of d = doit_made text_words writing (codes "self") c x setter given i d

  doit-stays : (d : DoItOf Name) → doit_of d ≡ d
  doit-stays d =
      by_cases (is_meant text_words writing (codes "self") c x setter given i (means_in_doit text_words i d) d.body)
      (λ h.
      let e = code-means (means_in_doit text_words i d) d.body h in
      absurd (no-doit (find (λ (d : ClassOf Name). text_words.is_undefined_object d.name) i.classes) refl
      (outer-of c (is_pseudo_variable x) (local_in_doit text_eq is_pseudo_variable d.body e.0 x) (means_outside text_words i (option_map (λ (d : ClassOf Name). d.name) (find (λ (d : ClassOf Name). text_words.is_undefined_object d.name) i.classes)) false x) e.1)))
      (λ f. ap (λ b. if b then record { body = rebuilt_sequence (made text_words writing (codes "self") c x setter given i (means_in_doit text_words i d)) d.body; source = writing.doit_text (rebuilt_sequence (made text_words writing (codes "self") c x setter given i (means_in_doit text_words i d)) d.body) } else d) f)

  -- the image after
  abbrev reading : EntryOf Name
  reading = new_method c false accessing (writing.method_text (getter x)) (getter x)

  abbrev setting : EntryOf Name
  setting = new_method c false accessing (writing.method_text (setter_of x setter given)) (setter_of x setter given)

  abbrev methods_after : List (EntryOf Name)
  methods_after = (map made_of i.methods ++ reading ∷ []) ++ setting ∷ []

  abbrev pub image_after : ImageOf Name
  image_after = record i { methods = methods_after }

  pub effect-abstracted : effect text_asked writing (AbstractInstVar c x setter given) i ≡ image_after
  effect-abstracted = λ k. record i { methods = methods_after; doits = all-same doit_of i.doits (at-all _ i.doits (λ j d at. doit-stays d)) k }

  -- the accessors are found
  others-fail : (t : Name) → ((j : ℕ) (m : EntryOf Name) → slice_get i.methods j ≡ Some m → text_eq t m.tree.selector ≡ false) → (k : Name) → AllByRecursion (λ m. is_method text_eq k false t m ≡ false) (map made_of i.methods)
  others-fail t other k =
      all-map (λ m. is_method text_eq k false t m ≡ false) made_of i.methods
      (at-all _ i.methods (λ j m at. last-fails (option_map_or (text_eq k) (made_of m).class false && beq false (made_of m).meta) (text_eq t (made_of m).tree.selector) (ap (text_eq t) (keeps-selector m) ∙ other j m at)))

  own-after : (t : Name) → ((j : ℕ) (m : EntryOf Name) → slice_get i.methods j ≡ Some m → text_eq t m.tree.selector ≡ false) → (k : Name) →
      own_method text_eq methods_after k false t ≡ cond (text_eq k c && true && text_eq t x) (Some reading) (cond (text_eq k c && true && text_eq t setter) (Some setting) None)
  own-after t other k =
      ap (find (is_method text_eq k false t)) (append_assoc (map made_of i.methods) (reading ∷ []) (setting ∷ [])) ∙ find-behind (is_method text_eq k false t) (map made_of i.methods) (reading ∷ setting ∷ []) (others-fail t other k)

  reads : IsTarget (resolved_image image_after) (accessors_gone x setter) c false x (resolved_entry image_after reading)
  reads =
      new-target i sound.behind.ordered methods_after c false x reading hold.user_class
      (own-after x (other-selector i x hold.fresh_getter) c ∙ (λ k. cond (text_eq-refl c k && true && text_eq-refl x k) (Some reading) (cond (text_eq c c && true && text_eq x setter) (Some setting) None)))
      (λ n apart. own-after x (other-selector i x hold.fresh_getter) n ∙ (λ k. cond (apart k && true && text_eq x x) (Some reading) (cond (apart k && true && text_eq x setter) (Some setting) None))) (accessors_gone x setter)

  writes : IsTarget (resolved_image image_after) (accessors_gone x setter) c false setter (resolved_entry image_after setting)
  writes =
      new-target i sound.behind.ordered methods_after c false setter setting hold.user_class
      (own-after setter (other-selector i setter hold.fresh_setter) c ∙ (λ k. cond (text_eq-refl c k && true && names.other_selector k) (Some reading) (cond (text_eq-refl c k && true && text_eq-refl setter k) (Some setting) None)))
      (λ n apart. own-after setter (other-selector i setter hold.fresh_setter) n ∙ (λ k. cond (apart k && true && text_eq setter x) (Some reading) (cond (apart k && true && text_eq setter setter) (Some setting) None))) (accessors_gone x setter)

  -- do-its send neither
  both-doits : (ds : List (DoItOf Name)) → AllByRecursion (λ (d : DoItOf Name). StatementsSendOnly (λ s. text_eq s x ≡ false) d.body.statements) ds → AllByRecursion (λ (d : DoItOf Name). StatementsSendOnly (λ s. text_eq s setter ≡ false) d.body.statements) ds →
      AllByRecursion (λ (d : DoItOf Name). SendsNeither x setter d.body.statements) ds
  both-doits [] a b = tt
  both-doits (d ∷ ds) a b = (neither d.body.statements a.0 b.0, both-doits ds a.1 b.1)

  pub variable-abstracted : IsVariableAbstracted i image_after
  variable-abstracted = record {
    class = c;
    variable = x;
    writer = setter;
    given = given;
    methods = map made_of i.methods;
    getter_text = writing.method_text (getter x);
    setter_text = writing.method_text (setter_of x setter given);
    changed = all-accessed i.methods (at-all (λ m. MethodAccessed i c x setter m (made_of m)) i.methods one-accessed);
    after = refl;
    doits = both-doits i.doits (unsent-doits i x hold.fresh_getter) (unsent-doits i setter hold.fresh_setter);
    reads = reads;
    writes = writes;
    user = not-class i sound c hold.user_class;
    plain_variable = plain;
    plain_given = names.plain_name;
    other = names.other_name;
    message = no-form setter (control-apart i setter hold.setter_not_kernel);
  }
