-- Commands of classes all of whose conditions hold.
use Rattle.std.proofs.Common.{◌≡◌, ◌≢◌, ℕ, List, [], map, Option, Some, None, sym, ap, ◌∙◌, subst}
use Rattle.std.specs.Prelude.{true, false, slice_get, option_map, is_some}
use Rattle.std.specs.List.{AllByRecursion}
use Rattle.std.specs.Option.{option_map_or}
use Rattle.std.proofs.lemmas.Bool.{false≢true}
use Rattle.std.proofs.lemmas.Option.{slice_get-map as mapped-there}
use Rattle.rb_base.specs.Names.{text_eq}
use Rattle.rb_base.proofs.NamesLemmas.{text_eq-refl}
use Rattle.scope_model.specs.Scope.{is_among}
use Rattle.image_model.specs.Image.{ClassOf, ImageOf}
use Rattle.image_model.specs.ImageNames.{OptionNames}
use Rattle.image_model.specs.Chain.{class_named}
use Rattle.image_model.specs.Valid.{HasNoRepeat, class_names}
use Rattle.image_model.proofs.ChainLemmas.{slice_get-map}
use Rattle.image_model.proofs.Lists.{all-implies}
use Rattle.run_model.proofs.Finite.{and-true_right}
use Rattle.run_model.proofs.RenamingLemmas.{text-same}
use Rattle.mapped_model.proofs.RenamedVariableLemmas.{all-at, at-all}
use Rattle.rename_model.specs.Conditions.{is_name_unused}
use Rattle.command_model.specs.Hierarchy.{is_class, is_child}
use Rattle.run_model.specs.Values.{Name}
use Rattle.run_model.specs.Renamings.{no_renaming}
use Rattle.mapped_model.specs.RenamedRuns.{RunsAsRenamed}
use Rattle.mapped_model.specs.NamesOfImages.{HasOrderedClasses}
use Rattle.rename_model.specs.CommandWords.{is_good_class_name}
use Rattle.rename_laws.specs.BehindKernel.{IsBehindKernel}
use Rattle.command_model.specs.Asked.{text_asked}
use Rattle.command_model.specs.ClassConditions.{has_no_subclasses, is_user_child}
use Rattle.command_model.specs.ClassEffects.{new_class, put_under, class_added, class_removed}
use Rattle.command_model.specs.Commands.{AddClass, RemoveClass}
use Rattle.command_model.specs.Judged.{first_false}
use Rattle.command_model.proofs.Held.{all-hold}
use Rattle.command_model.proofs.OrdersAfter.{StandsIn, left-all, left-once, removed-before, names-put, in-once, in-all, put-all, added-before}
use Rattle.agreement_laws.specs.KernelChains.{HasKernelChains}
use Rattle.agreement_laws.proofs.KernelChains.{IsThere, named-there}
use Rattle.rename_laws.proofs.Unnamed.{each-fails}
use Rattle.lookup_laws.proofs.RemovedClass.{removed-runs}
use Rattle.lookup_laws.proofs.AddedClass.{child-above, unnamed-classes, added-class-runs}
use Rattle.rename_laws.proofs.Unnamed.{denied}
use Rattle.rename_laws.proofs.OutsideAfter.{find-passes}
use Rattle.lookup_laws.proofs.SameRuns.{same-renamed}

-- a name that may be given is not empty
good-some : (n : Name) → is_good_class_name n ≡ true → n ≢ []
good-some n h e = false≢true (sym (ap is_good_class_name e) ∙ h)

-- the classes are in order once a class is added
added-after : (i : ImageOf Name) (before : HasOrderedClasses i) (d p : Name) (under : List Name) → is_class text_eq i p ≡ true → d ≢ [] → is_name_unused text_eq i d ≡ true → AllByRecursion (λ (s : Name). is_user_child text_eq i s p ≡ true) under → HasOrderedClasses (class_added text_eq d p under i)
added-after i before d p under there given unused children = record {
  named = in-all d p under (λ (e : ClassOf Name). e.name ≢ []) (new_class d p) (map (put_under text_eq d under) i.classes) given (put-all d p under i.classes before.named);
  distinct =
      in-once d p under (new_class d p) (map (put_under text_eq d under) i.classes) (λ s. apart (subst (λ ns. StandsIn ns d) (names-put d p under i.classes) s))
      (subst HasNoRepeat (sym (names-put d p under i.classes)) before.distinct);
  before =
      added-before d p under i.classes
      (above (class_named text_eq i.classes p) (named-there i before (Some p)) (find-passes (λ (e : ClassOf Name). text_eq p e.name) i.classes) there)
      (at-all (λ (e : ClassOf Name). is_among text_eq under e.name ≡ true → e.superclass ≡ Some p) i.classes (λ k e at t. child-above i before p e (k, at) under children t))
      before.before;
}
  where
    new : (k : ℕ) → (x : ClassOf Name) × (slice_get i.classes k ≡ Some x) × (x.name ≡ d) → ⊥
    new k (x, at, e) = false≢true (sym (all-at (λ (y : ClassOf Name). text_eq d y.name ≡ false) i.classes k x (unnamed-classes i d unused) at) ∙ ap (text_eq d) e ∙ text_eq-refl d)

    apart : StandsIn (class_names i.classes) d → ⊥
    apart (k, e) = new k (slice_get-map (λ (x : ClassOf Name). x.name) i.classes k d e)

    above : (o : Option (ClassOf Name)) → OptionNames (IsThere i before) o → OptionNames (λ (e : ClassOf Name). text_eq p e.name ≡ true) o → is_some o ≡ true → StandsIn (class_names i.classes) p
    above (Some e) at t h = (at.0, mapped-there (λ (x : ClassOf Name). x.name) i.classes at.0 ∙ ap (option_map (λ (x : ClassOf Name). x.name)) at.1 ∙ ap Some (sym (text-same p e.name t)))
    above None at t h = absurd (false≢true h)

-- and once one is removed
removed-after : (i : ImageOf Name) → HasOrderedClasses i → (c : Name) → has_no_subclasses text_eq i c ≡ true → HasOrderedClasses (class_removed text_eq c i)
removed-after i before c leaf = record {
  named = left-all c (λ (e : ClassOf Name). e.name ≢ []) i.classes before.named;
  distinct = left-once c i.classes before.distinct;
  before = removed-before c i.classes (all-implies (λ (e : ClassOf Name). is_child text_eq c e ≡ false) (λ (e : ClassOf Name). OptionNames (λ n. text_eq c n ≡ false) e.superclass) (λ e h. by e.superclass h) i.classes (each-fails (is_child text_eq c) i.classes (denied _ (and-true_right (is_class text_eq i c) _ leaf)))) before.before;
}
  where
    by : (o : Option Name) → option_map_or (text_eq c) o false ≡ false → OptionNames (λ n. text_eq c n ≡ false) o
    by None h = tt
    by (Some n) h = h

pub class-added-matched : (i : ImageOf Name) (d p : Name) (under : List Name) → IsBehindKernel i → first_false text_asked i (AddClass d p under) ≡ None → RunsAsRenamed i (class_added text_eq d p under i) no_renaming
class-added-matched i d p under behind none =
    let hold = all-hold text_asked i (AddClass d p under) none in
    let after = added-after i behind.ordered d p under hold.parent_there (good-some d hold.good_name) hold.unused_name hold.children in
    same-renamed i (class_added text_eq d p under i) (added-class-runs i behind d p under after hold.parent_there (good-some d hold.good_name) hold.unused_name hold.children)

pub class-removed-matched : (i : ImageOf Name) (c : Name) → HasOrderedClasses i → HasKernelChains i → first_false text_asked i (RemoveClass c) ≡ None → RunsAsRenamed i (class_removed text_eq c i) no_renaming
class-removed-matched i c before chains none =
    let hold = all-hold text_asked i (RemoveClass c) none in
    same-renamed i (class_removed text_eq c i) (removed-runs i c before (removed-after i before c hold.no_subclasses) chains hold.user_class hold.no_subclasses hold.not_referenced)
