-- The classes of the kernel stay as they are and in their order, whatever a user's chunks change.
use Rattle.std.proofs.Common.{◌≡◌, ◌≢◌, ◌⊎◌, inl, inr, Bool, true, false, not, List, [], ◌∷◌, ◌++◌, length, filter, Ok, refl, sym, ap, subst, ◌∙◌, true≢false, arith}
use Rattle.std.specs.Prelude.{◌&&◌, ◌==◌, if◌then◌else◌}
use Rattle.std.specs.List.{AllByRecursion}
use Rattle.std.proofs.Math.Dec.{eqb}
use Rattle.std.proofs.lemmas.Bool.Decides.{eqb_tells}
use Rattle.rb_base.specs.Names.{text_eq}
use Rattle.rb_base.proofs.NamesLemmas.{text_eq-refl}
use Rattle.image_model.specs.Image.{ClassOf, ImageOf}
use Rattle.image_model.specs.Valid.{HasNoRepeat, SuperclassesStandBefore, class_names}
use Rattle.image_model.proofs.Ends.{filter-end}
use Rattle.file_model.specs.Changes.{DefinitionOf, ChangeOf, Define, DefineAt, Comment, SetClassSide, RemoveMethod, RemoveClass}
use Rattle.file_model.specs.Filing.{Text}
use Rattle.file_model.specs.Hierarchy.{has_class, is_kernel_class, settled}
use Rattle.file_model.specs.Places.{PlacesOf, put_again_behind, class_place, placed}
use Rattle.file_model.specs.Refusals.{definition_refusals, comment_refusals, class_side_refusals, removal_refusals, class_removal_refusals}
use Rattle.file_model.specs.Applied.{new_class, class_again, changed_class, with_definition, with_comment, with_class_side, defined, without_class, without_method, changed}
use Rattle.file_laws.specs.Settling.{IsTakenInTurn}
use Rattle.file_laws.proofs.KernelOrder.{of_kernel, kernel_settled}
use Rattle.file_laws.proofs.KernelPart.{unfiltered, filter_without, filter_replaced, user_classes}
use Rattle.file_laws.proofs.Moves.{text_equal, All-weaker}
use Rattle.file_laws.proofs.PutAgain.{put_again_behind_kernel}
use Rattle.file_laws.proofs.Refused.{allowed}
use Rattle.file_laws.proofs.Settled.{turn_of}
use Rattle.file_laws.proofs.Taking.{not_false}

module _ (kernel : List (ClassOf Text)) (before : SuperclassesStandBefore kernel) (plain : AllByRecursion (λ (c : ClassOf Text). c.class_side ≡ []) kernel) where
  -- a change of a class that is not one of the kernel
  kernel_replaced : (n : Text) (f : ClassOf Text → ClassOf Text) → ((c : ClassOf Text) → of_kernel (f c) ≡ of_kernel c) → (cs : List (ClassOf Text)) → HasNoRepeat (class_names cs) → is_kernel_class text_eq cs n ≡ false → filter of_kernel cs ≡ kernel → filter of_kernel (changed_class text_eq n f cs) ≡ kernel
  kernel_replaced n f keeps cs distinct user h =
      filter_replaced of_kernel (λ (c : ClassOf Text). text_eq n c.name) f keeps cs (All-weaker _ _ cs (λ c u same. inl (u same)) (user_classes cs n distinct user)) ∙ h

  -- a definition of one
  kernel_with : (x : DefinitionOf Text) (cs : List (ClassOf Text)) → HasNoRepeat (class_names cs) → is_kernel_class text_eq cs x.name ≡ false → filter of_kernel cs ≡ kernel → filter of_kernel (with_definition text_eq false x cs) ≡ kernel
  kernel_with x cs distinct user h = by (has_class text_eq cs x.name)
    where
      by : (b : Bool) → filter of_kernel (if b then changed_class text_eq x.name (class_again x) cs else cs ++ new_class false x ∷ []) ≡ kernel
      by true = kernel_replaced x.name (class_again x) (λ c. refl) cs distinct user h
      by false = filter-end of_kernel cs (new_class false x) refl ∙ h

  -- classes that are put in order
  kernel_in_order : (cs : List (ClassOf Text)) → filter of_kernel cs ≡ kernel → filter of_kernel (settled text_eq cs) ≡ kernel
  kernel_in_order cs h = kernel_settled cs (subst (IsTakenInTurn text_eq []) (sym h) (turn_of text_eq text_eq-refl text_equal [] kernel before)) ∙ h

  kernel_defined : (x : DefinitionOf Text) (cs : List (ClassOf Text)) → filter of_kernel (with_definition text_eq false x cs) ≡ kernel → filter of_kernel (defined text_eq false x cs) ≡ kernel
  kernel_defined x cs h = by (has_class text_eq cs x.name)
    where
      by : (b : Bool) → filter of_kernel (if b then settled text_eq (with_definition text_eq false x cs) else with_definition text_eq false x cs) ≡ kernel
      by true = kernel_in_order (with_definition text_eq false x cs) h
      by false = h

  -- other class-instance variables: a class of the kernel has none, and keeps none
  kernel_class_side : (n : Text) (ns : List Text) (cs : List (ClassOf Text)) → HasNoRepeat (class_names cs) → (is_kernel_class text_eq cs n && not (length ns == 0)) ≡ false → filter of_kernel cs ≡ kernel → filter of_kernel (with_class_side text_eq n ns cs) ≡ kernel
  kernel_class_side n ns cs distinct empty h =
      filter_replaced of_kernel (λ (c : ClassOf Text). text_eq n c.name) set (λ c. refl) cs (unchanged (is_kernel_class text_eq cs n) refl) ∙ h
    where
      set : ClassOf Text → ClassOf Text
      set c = record c { class_side = ns }

      nothing : (xs : List Text) → (length xs == 0) ≡ true → xs ≡ []
      nothing [] q = refl
      nothing (y ∷ ys) q = absurd (some (eqb_tells (length (y ∷ ys)) 0))
        where
          some : ((eqb (length (y ∷ ys)) 0 ≡ true) × (length (y ∷ ys) ≡ 0)) ⊎ ((eqb (length (y ∷ ys)) 0 ≡ false) × (length (y ∷ ys) ≢ 0)) → ⊥
          some (inl t) = omega (arith, t.1)
          some (inr t) = true≢false (sym q ∙ t.0)

      unchanged : (b : Bool) → is_kernel_class text_eq cs n ≡ b → AllByRecursion (λ (c : ClassOf Text). text_eq n c.name ≡ true → (of_kernel c ≡ false) ⊎ (set c ≡ c)) cs
      unchanged false e = All-weaker _ _ cs (λ c u same. inl (u same)) (user_classes cs n distinct e)
      unchanged true e = All-weaker _ _ cs (λ c none same. by c (of_kernel c) refl none) (unfiltered (λ (c : ClassOf Text). c.class_side ≡ []) of_kernel cs (subst (AllByRecursion (λ (c : ClassOf Text). c.class_side ≡ [])) (sym h) plain))
        where
          none_given : ns ≡ []
          none_given = nothing ns (not_false (length ns == 0) (sym (ap (λ (b : Bool). b && not (length ns == 0)) e) ∙ empty))

          by : (c : ClassOf Text) (b : Bool) → of_kernel c ≡ b → (of_kernel c ≡ true → c.class_side ≡ []) → (of_kernel c ≡ false) ⊎ (set c ≡ c)
          by c false q none = inl q
          by c true q none = inr (ap (λ (xs : List Text). let d : ClassOf Text = record c { class_side = xs } in d) (none_given ∙ sym (none q)))

  -- a change, with a place or without one
  pub kernel_changed : (c : ChangeOf Text) (i j : ImageOf Text) → changed text_eq false c i ≡ Ok j → HasNoRepeat (class_names i.classes) → filter of_kernel i.classes ≡ kernel → filter of_kernel j.classes ≡ kernel
  kernel_changed (Define x) i j e distinct h =
      let a = allowed (definition_refusals text_eq i.classes x (with_definition text_eq false x i.classes)) (record i { classes = defined text_eq false x i.classes }) j e in
      subst (λ (z : ImageOf Text). filter of_kernel z.classes ≡ kernel) a.same (kernel_defined x i.classes (kernel_with x i.classes distinct a.none.0 h))
  kernel_changed (DefineAt x k) i j e distinct h =
      let a = allowed (definition_refusals text_eq i.classes x (with_definition text_eq false x i.classes)) (record i { classes = with_definition text_eq false x i.classes }) j e in
      subst (λ (z : ImageOf Text). filter of_kernel z.classes ≡ kernel) a.same (kernel_with x i.classes distinct a.none.0 h)
  kernel_changed (Comment n t) i j e distinct h =
      let a = allowed (comment_refusals text_eq i.classes n) (record i { classes = with_comment text_eq n t i.classes }) j e in
      subst (λ (z : ImageOf Text). filter of_kernel z.classes ≡ kernel) a.same (kernel_replaced n (λ (c : ClassOf Text). record c { comment = t }) (λ c. refl) i.classes distinct a.none.1.0 h)
  kernel_changed (SetClassSide n ns) i j e distinct h =
      let a = allowed (class_side_refusals text_eq i.classes n ns (with_class_side text_eq n ns i.classes)) (record i { classes = with_class_side text_eq n ns i.classes }) j e in
      subst (λ (z : ImageOf Text). filter of_kernel z.classes ≡ kernel) a.same (kernel_class_side n ns i.classes distinct a.none.1.0 h)
  kernel_changed (RemoveMethod c meta s) i j e distinct h =
      subst (λ (z : ImageOf Text). filter of_kernel z.classes ≡ kernel) (allowed (removal_refusals text_eq i c meta s) (without_method text_eq c meta s i) j e).same h
  kernel_changed (RemoveClass n) i j e distinct h =
      let a = allowed (class_removal_refusals text_eq i.classes n) (without_class text_eq n i) j e in
      subst (λ (z : ImageOf Text). filter of_kernel z.classes ≡ kernel) a.same (filter_without of_kernel (λ (c : ClassOf Text). text_eq n c.name) i.classes (user_classes i.classes n distinct a.none.1.0) ∙ h)

  -- classes that go to the places that are stated for them
  pub kernel_placed : (i : ImageOf Text) (stated : PlacesOf Text) → filter of_kernel i.classes ≡ kernel → filter of_kernel (placed text_eq stated i).classes ≡ kernel
  kernel_placed i stated h =
      kernel_in_order (put_again_behind (λ (c : ClassOf Text). c.kernel) (class_place text_eq stated.classes) i.classes)
      (put_again_behind_kernel (λ (c : ClassOf Text). c.kernel) (class_place text_eq stated.classes) i.classes ∙ h)
