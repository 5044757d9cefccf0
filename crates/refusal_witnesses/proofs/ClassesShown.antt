-- The conditions of classes and of variables hold just where what they speak of is there and nothing is in their way.
use Rattle.std.proofs.Common.{◌≡◌, List, [], ◌∷◌, ◌++◌, Option, Some, None, map, refl, ap, sym, ◌∙◌}
use Rattle.std.specs.Prelude.{Bool, true, false, cond, not, ◌&&◌, ◌||◌, filter, is_some, unwrap_or}
use Rattle.std.specs.List.{list_any, flat_map}
use Rattle.std.specs.Option.{option_map_or}
use Rattle.scope_model.specs.Control.{is_empty}
use Rattle.image_model.specs.Image.{ClassOf, EntryOf, ImageOf}
use Rattle.image_model.specs.Words.{WordsOf}
use Rattle.image_model.specs.Chain.{class_named, chain}
use Rattle.image_model.specs.Nodes.{Use}
use Rattle.image_model.specs.Uses.{class_uses, variable_uses}
use Rattle.rename_model.specs.NamesThere.{is_named_in_method}
use Rattle.rename_model.specs.Conditions.{is_user_class, has_variable, defines, stands_below, is_method_below}
use Rattle.command_model.specs.Commands.{CommandOf, PushUpInstVar, PushUpClassVar, kind_of}
use Rattle.command_model.specs.Hierarchy.{is_class, superclass_name, is_child, is_method_of}
use Rattle.command_model.specs.ClassConditions.{is_in_method_that, has_no_subclasses, is_not_referenced, has_user_parent, is_user_child}
use Rattle.command_model.specs.VariableConditions.{lacks_variable, losers, is_free_beside, is_looked_through, is_unused_for, may_come_for}
use Rattle.refusal_witnesses.specs.Witnesses.{WitnessOf, AClass, a_use, a_class_of, where_true}
use Rattle.refusal_witnesses.specs.NameWitnesses.{namings_in_method}
use Rattle.refusal_witnesses.specs.ClassWitnesses.{outer_uses, looked_uses, kernel_class, kernel_parent, children, other_parent, own_definer, overlooked, hindrances}
use Rattle.refusal_witnesses.proofs.Lists.{and-and, and-same, empty-map, empty-filter, empty-failing, flat-none, two-none, empty-where, empty-if, of-option}
use Rattle.refusal_witnesses.proofs.NamesShown.{shows-method-namings}

module _ {N : Type 0} (w : WordsOf N) (i : ImageOf N) where
  pub shows-outer-uses : (c : N) → is_not_referenced w i c ≡ (is_class w.tests.same i c && is_empty (outer_uses w i c))
  shows-outer-uses c =
      let inside : Use → Bool = λ u. is_in_method_that (is_method_of w.tests.same c) i u.place in
      ap (λ b. is_class w.tests.same i c && b)
      (sym (empty-map (a_use {N = N}) (filter (λ (u : Use). not (inside u)) (class_uses w i c)) ∙ empty-failing inside (class_uses w i c)))

  pub shows-looked-uses : (command : CommandOf N) (c x : N) → is_unused_for w i command c x ≡ (has_variable w.tests.same i (kind_of command) c x && is_empty (looked_uses w i command c x))
  shows-looked-uses command c x =
      let inside : Use → Bool = λ u. is_in_method_that (is_looked_through w.tests.same i.classes command c) i u.place in
      let uses : List Use = variable_uses w i c x (kind_of command) in
      ap (λ b. has_variable w.tests.same i (kind_of command) c x && b) (sym (empty-map (a_use {N = N}) (filter inside uses) ∙ empty-filter inside uses))

module _ {N : Type 0} (same : N → N → Bool) (i : ImageOf N) where
  pub shows-kernel-class : (c : N) → is_user_class same i c ≡ (is_class same i c && is_empty (kernel_class same i c))
  shows-kernel-class c =
      of-option (λ (e : ClassOf N). not e.kernel) (λ (e : ClassOf N). where_true e.kernel (a_class_of e)) (λ e. sym (empty-where e.kernel (a_class_of e))) (class_named same i.classes c)

  pub shows-kernel-parent : (c : N) → has_user_parent same i c ≡ (option_map_or (is_class same i) (superclass_name same i c) false && is_empty (kernel_parent same i c))
  shows-kernel-parent c = by (superclass_name same i c)
    where
      by : (o : Option N) → option_map_or (is_user_class same i) o false ≡ (option_map_or (is_class same i) o false && is_empty (option_map_or (kernel_class same i) o []))
      by None = refl
      by (Some p) = shows-kernel-class p

  pub shows-children : (c : N) → has_no_subclasses same i c ≡ (is_class same i c && is_empty (children same i c))
  shows-children c =
      ap (λ b. is_class same i c && b) (sym (empty-map a_class_of (filter (is_child same c) i.classes) ∙ empty-filter (is_child same c) i.classes))

  pub shows-other-parent : (d c : N) → is_user_child same i d c ≡ (is_class same i d && is_empty (other_parent same i d c))
  shows-other-parent d c = by (class_named same i.classes d)
    where
      flags : (k b : Bool) (v : WitnessOf N) → (not k && b) ≡ is_empty (where_true (k || not b) v)
      flags true b v = refl
      flags false true v = refl
      flags false false v = refl

      by : (o : Option (ClassOf N)) → (option_map_or (λ (e : ClassOf N). not e.kernel) o false && option_map_or (is_child same c) o false) ≡ (is_some o && is_empty (option_map_or (λ (e : ClassOf N). where_true (e.kernel || not (is_child same c e)) (AClass (unwrap_or e.superclass e.name))) o []))
      by None = refl
      by (Some e) = flags e.kernel (is_child same c e) (AClass (unwrap_or e.superclass e.name))

  pub shows-own-definer : (c x : N) → lacks_variable same i c x ≡ (is_class same i c && is_empty (own_definer same i c x))
  shows-own-definer c x =
      of-option (λ (e : ClassOf N). not (defines same x e)) (λ (e : ClassOf N). where_true (defines same x e) (a_class_of e)) (λ e. sym (empty-where (defines same x e) (a_class_of e))) (class_named same i.classes c)

  shows-hindrances : (excepted : List N) (c x : N) → is_free_beside same i excepted c x ≡ is_empty (hindrances same i excepted c x)
  shows-hindrances excepted c x =
      let up : List (ClassOf N) = chain same i.classes (Some c) in
      let outside : ClassOf N → Bool = λ e. not (list_any (λ d. stands_below same i.classes d e) excepted) in
      let below : ClassOf N → Bool = λ e. stands_below same i.classes c e && (outside e && defines same x e) in
      let looked : EntryOf N → Bool = λ m. not (list_any (λ d. is_method_below same i.classes d m) excepted) in
      let inside : EntryOf N → Bool = λ m. is_method_below same i.classes c m && looked m in
      let names : EntryOf N → Bool = λ m. is_method_below same i.classes c m && (looked m && is_named_in_method same x m) in
      let f : EntryOf N → List (WitnessOf N) = λ m. cond (inside m) (namings_in_method same x m) [] in
      sym (two-none (map a_class_of (filter (defines same x) up)) (map a_class_of (filter below i.classes) ++ flat_map f i.methods) (list_any (defines same x) up) (list_any below i.classes || list_any names i.methods)
      (empty-map a_class_of (filter (defines same x) up) ∙ empty-filter (defines same x) up)
      (two-none (map a_class_of (filter below i.classes)) (flat_map f i.methods) (list_any below i.classes) (list_any names i.methods)
      (empty-map a_class_of (filter below i.classes) ∙ empty-filter below i.classes)
      (flat-none f names (λ m. empty-if (inside m) (namings_in_method same x m) (is_named_in_method same x m) (shows-method-namings same x m) ∙ ap not (and-and (is_method_below same i.classes c m) (looked m) (is_named_in_method same x m))) i.methods)))

  pub shows-comer : (command : CommandOf N) (c x : N) → may_come_for same i command c x ≡ (is_class same i c && is_empty (hindrances same i (overlooked same i command c x) c x))
  shows-comer (PushUpInstVar b y) c x = ap (λ t. is_class same i c && t) (shows-hindrances (losers same i c x) c x)
  shows-comer (PushUpClassVar b y) c x = ap (λ t. is_class same i c && t) (shows-hindrances (b ∷ []) c x)
  shows-comer command c x = and-same (is_class same i c) (is_free_beside same i [] c x) ∙ ap (λ t. is_class same i c && t) (shows-hindrances [] c x)
