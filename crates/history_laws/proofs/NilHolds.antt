-- With `nil` as one more do-it, conditions hold that hold without it.
use Rattle.std.proofs.Common.{◌≡◌, Bool, true, false, not, ◌&&◌, ◌||◌, List, [], ◌∷◌, ◌++◌, find, Some, None, refl, ap, ◌∙◌}
use Rattle.std.specs.Prelude.{codes, is_some}
use Rattle.std.specs.List.{AllByRecursion, list_any, list_all}
use Rattle.std.specs.Option.{option_map_or}
use Rattle.std.proofs.lemmas.List.Folds.{list_any-append}
use Rattle.rb_base.specs.Names.{text_eq}
use Rattle.tree_model.specs.Nodes.{nodes}
use Rattle.scope_model.specs.Control.{is_empty}
use Rattle.image_model.specs.Image.{ClassOf, DoItOf, ImageOf, plus}
use Rattle.image_model.specs.Words.{text_words}
use Rattle.image_model.specs.Lookup.{own_method, super_lookup}
use Rattle.image_model.specs.Nodes.{Use}
use Rattle.image_model.proofs.Lists.{all-implies, all-both}
use Rattle.image_model.specs.Uses.{is_sender}
use Rattle.run_model.specs.Values.{Name}
use Rattle.rename_model.specs.NamesThere.{is_named_in, is_named_by_class, is_named_in_method}
use Rattle.rename_model.specs.Conditions.{method_reflects, reflects, has_no_reflection, speaks_of, has_variable}
use Rattle.command_model.specs.Asked.{text_asked}
use Rattle.command_model.specs.Commands.{CommandOf, AddMethod, PushUpMethod, PushDownMethod, kind_of}
use Rattle.command_model.specs.Conditions.{ConditionOf, NoReflection, IsUserClass, GoodName, NameUnused, SelectorFresh, NotKernelSelector, Arity, Implements, NotImplements, Removable, NoSubclasses, NotReferenced, HasVariable, VariableFree, VariableUnused, ParentIsUser, NoSuper, MeansSame, Unreached, IsClass, ChildOf, LacksVariable, KnownSelector, AtPart, AtName, PlainArguments, Inlinable, NoCapture, NoNewControl, Shallow}
use Rattle.command_model.specs.Hierarchy.{is_class, superclass_name, is_method_of}
use Rattle.command_model.specs.SameMethods.{is_same_method}
use Rattle.command_model.specs.MethodEffects.{method_added, method_pushed_up, method_pushed_down}
use Rattle.command_model.specs.NameConditions.{adds_no_reflection}
use Rattle.command_model.specs.ClassConditions.{is_in_method_that}
use Rattle.command_model.specs.VariableConditions.{is_looked_through}
use Rattle.command_model.specs.MethodConditions.{implements, begins_in, finds_another, is_unreached}
use Rattle.command_model.specs.Holds.{holds}
use Rattle.session_model.specs.Admitted.{nil_doit}
use Rattle.command_model.proofs.Lists.{all-pass, none-fails}
use Rattle.command_model.proofs.EffectsBeside.{pushed-up-beside}
use Rattle.history_laws.proofs.NilUses.{senders-plus, class_uses-plus, variable_uses-plus}
use Rattle.history_laws.proofs.NilCode.{shallow-plus, inlinable-plus, arguments-plus}

-- a test and what is false
or-false : (b : Bool) → (b || false) ≡ b
or-false true = refl
or-false false = refl

-- a condition that speaks of no use of the name `nil`
abbrev pub SparesNil : ConditionOf Name → Type 0
SparesNil (NameUnused n) = text_eq n (codes "nil") ≡ false
SparesNil condition = Unit {0}

module _ (i : ImageOf Name) where
  -- a test of do-its that `nil` does not pass
  any-plus : (p : DoItOf Name → Bool) → p nil_doit ≡ false → list_any p (i.doits ++ nil_doit ∷ []) ≡ list_any p i.doits
  any-plus p e = list_any-append p i.doits (nil_doit ∷ []) ∙ ap (λ b. list_any p i.doits || (b || false)) e ∙ or-false (list_any p i.doits)

  -- whether a class is reached by what finds another method
  unreached-plus : (j : ImageOf Name) (meta : Bool) (s : Name) →
      is_unreached text_words text_asked.is_super (plus i nil_doit) (plus j nil_doit) meta s ≡ is_unreached text_words text_asked.is_super i j meta s
  unreached-plus j meta s =
      λ k. is_empty (senders-plus i s k)
      || not (list_any (λ (e : ClassOf Name). finds_another text_words text_asked.is_super i j e.name meta s
      && (not (is_empty (class_uses-plus i e.name k)) || list_any (begins_in text_words text_asked.is_super i e.name s) i.methods)) i.classes)

  moved-plus : (c : CommandOf Name) (s : Name) → holds text_asked (plus i nil_doit) c (Unreached s) ≡ holds text_asked i c (Unreached s)
  moved-plus (AddMethod d meta protocol text tree) s = ap (λ b. is_class text_eq i d && b) (unreached-plus (method_added d meta protocol text tree i) meta s)
  moved-plus (PushUpMethod d meta t) s =
      ap (λ b. (implements text_eq i d meta t && is_some (superclass_name text_eq i d)) && b)
      (ap (λ j. is_unreached text_words text_asked.is_super (plus i nil_doit) j meta s) (pushed-up-beside text_eq i nil_doit d meta t)
      ∙ unreached-plus (method_pushed_up text_eq d meta t i) meta s)
  moved-plus (PushDownMethod d meta t) s = ap (λ b. implements text_eq i d meta t && b) (unreached-plus (method_pushed_down text_eq d meta t i) meta s)
  moved-plus c s = refl

  pub no_reflection-plus : has_no_reflection text_asked.command_words (plus i nil_doit) ≡ has_no_reflection text_asked.command_words i
  no_reflection-plus =
      ap (λ b. not (list_any (method_reflects text_asked.command_words) i.methods || b)) (any-plus (λ (d : DoItOf Name). reflects text_asked.command_words d.body) refl)

  pub holds-plus : (c : CommandOf Name) (q : ConditionOf Name) → SparesNil q → holds text_asked (plus i nil_doit) c q ≡ holds text_asked i c q
  holds-plus c NoReflection spares =
      ap (λ b. b && adds_no_reflection text_asked.command_words c) no_reflection-plus
  holds-plus c (IsUserClass d) spares = refl
  holds-plus c (GoodName n kind) spares = refl
  holds-plus c (NameUnused n) spares =
      ap (λ b. not (list_any (is_named_by_class text_eq n) i.classes || (list_any (is_named_in_method text_eq n) i.methods || b)))
      (any-plus (λ (d : DoItOf Name). is_named_in text_eq n d.body) (ap (λ b. (b || false) || false) spares))
  holds-plus c (SelectorFresh s) spares =
      ap (λ b. not (list_any (speaks_of text_eq s) i.methods || b)) (any-plus (λ (d : DoItOf Name). list_any (λ e. is_sender text_eq s e.1) (nodes d.body)) refl)
  holds-plus c (NotKernelSelector s) spares = refl
  holds-plus c (Arity t count) spares = refl
  holds-plus c (Implements d meta s) spares = refl
  holds-plus c (NotImplements d meta s) spares = refl
  holds-plus c (Removable d meta s) spares =
      λ k. option_map_or (λ m. is_empty (senders-plus i s k) || option_map_or (is_same_method text_words text_asked.is_super i i m) (super_lookup text_words i (Some d) meta s) false)
      (own_method text_eq i.methods d meta s) false
  holds-plus c (NoSubclasses d) spares = refl
  holds-plus c (NotReferenced d) spares =
      λ k. is_class text_eq i d && list_all (λ (u : Use). is_in_method_that (is_method_of text_eq d) i u.place) (class_uses-plus i d k)
  holds-plus c (HasVariable d x) spares = refl
  holds-plus c (VariableFree d x) spares = refl
  holds-plus c (VariableUnused d x) spares =
      λ k. has_variable text_eq i (kind_of c) d x
      && not (list_any (λ (u : Use). is_in_method_that (is_looked_through text_eq i.classes c d) i u.place) (variable_uses-plus i d x (kind_of c) k))
  holds-plus c (ParentIsUser d) spares = refl
  holds-plus c (NoSuper d meta s) spares = refl
  holds-plus c (MeansSame d meta s e) spares = refl
  holds-plus c (Unreached s) spares = moved-plus c s
  holds-plus c (IsClass d) spares = refl
  holds-plus c (ChildOf d e) spares = refl
  holds-plus c (LacksVariable d x) spares = refl
  holds-plus c (KnownSelector s) spares = refl
  holds-plus c (PlainArguments s k) spares = arguments-plus i s k
  holds-plus c (Inlinable d meta s) spares = inlinable-plus i c d meta s
  holds-plus c (NoCapture d meta s (AtPart from to)) spares = refl
  holds-plus c (NoCapture d meta s (AtName x)) spares = refl
  holds-plus c (NoNewControl d meta s (AtPart from to)) spares = refl
  holds-plus c (NoNewControl d meta s (AtName x)) spares = refl
  holds-plus c Shallow spares = shallow-plus i c
  holds-plus c q spares = refl

  -- none of a list is false
  pub none-false : (c : CommandOf Name) (qs : List (ConditionOf Name)) → AllByRecursion SparesNil qs → find (λ q. not (holds text_asked i c q)) qs ≡ None →
      find (λ q. not (holds text_asked (plus i nil_doit) c q)) qs ≡ None
  none-false c qs spares e =
      none-fails (holds text_asked (plus i nil_doit) c) qs
      (all-implies (λ (q : ConditionOf Name). SparesNil q × (holds text_asked i c q ≡ true)) (λ (q : ConditionOf Name). holds text_asked (plus i nil_doit) c q ≡ true) (λ q h. holds-plus c q h.0 ∙ h.1) qs
      (all-both SparesNil (λ (q : ConditionOf Name). holds text_asked i c q ≡ true) qs spares (all-pass (holds text_asked i c) qs e)))
