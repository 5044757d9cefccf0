-- Each class at and below one finds the same method for a selector, where the condition on targets says so; and no class of the user is `Class` or above it.
use Rattle.std.proofs.Common.{◌≡◌, List, [], ◌∷◌, ◌++◌, ◌⊎◌, inl, inr, Option, Some, None, refl, sym, ap, ◌∙◌, subst, append_assoc}
use Rattle.std.specs.Prelude.{Bool, true, false, not, ◌&&◌, ◌||◌, is_some, IsTrue, if◌then◌else◌, find, map, option_map, codes}
use Rattle.std.specs.List.{AllByRecursion, list_any}
use Rattle.std.specs.Option.{option_map_or, option_or}
use Rattle.std.proofs.lemmas.Bool.{false≢true}
use Rattle.std.proofs.lemmas.List.Folds.{list_any-append}
use Rattle.rb_base.specs.Names.{text_eq}
use Rattle.rb_base.proofs.NamesLemmas.{text_eq-refl}
use Rattle.image_model.specs.Image.{ClassOf, EntryOf, ImageOf}
use Rattle.image_model.specs.Words.{text_words}
use Rattle.image_model.specs.Upwards.{first_given}
use Rattle.image_model.specs.Chain.{class_named, chain_from, chain}
use Rattle.image_model.specs.Lookup.{is_method, own_method, as_object, lookup}
use Rattle.image_model.proofs.ChainLemmas.{chain_from-step}
use Rattle.image_model.proofs.Ends.{find-place}
use Rattle.image_model.proofs.Kept.{SuperclassesStandBefore-kept}
use Rattle.image_model.proofs.Lists.{find-map}
use Rattle.image_model.proofs.Middles.{all-of}
use Rattle.run_model.specs.Values.{Name}
use Rattle.run_model.proofs.Finite.{by_cases, and-true_right}
use Rattle.run_model.proofs.RenamingLemmas.{text-same}
use Rattle.resolved_model.specs.ResolvedImages.{plain_class, resolved_entry, resolved_image, is_resolved_method}
use Rattle.resolved_model.proofs.LookupLemmas.{everywhere, plain-hierarchy, finds-resolved}
use Rattle.mapped_model.specs.NamesOfImages.{HasOrderedClasses}
use Rattle.mapped_model.proofs.RenamedVariableLemmas.{all-at}
use Rattle.rename_model.specs.Conditions.{is_user_class, stands_below}
use Rattle.rename_laws.proofs.Unnamed.{denied, each-fails}
use Rattle.parameter_laws.proofs.KernelApart.{second-fails}
use Rattle.unfolded_calls.specs.Unfolding.{Allowed, IsBelow, itself, above, IsTarget}
use Rattle.unfolded_calls.proofs.Running.{none-some, some-same, find-passes, IsFoundAt, finds-found}
use Rattle.unfolded_calls.proofs.OneTarget.{climbs}
use Rattle.command_model.specs.Asked.{text_asked}
use Rattle.command_model.specs.InlineConditions.{is_one_target}

-- what passes a test is there
pub test-there : {X : Type 0} (test : X → Bool) (o : Option X) → option_map_or test o false ≡ true → (x : X) × (o ≡ Some x) × (test x ≡ true)
test-there test None e = absurd (false≢true e)
test-there test (Some x) e = (x, refl, e)

none-there : {X : Type 0} (o : Option X) → is_some o ≡ false → o ≡ None
none-there None e = refl
none-there (Some x) e = absurd (false≢true (sym e))

-- one of two holds, or both
either-holds : (a b : Bool) → b ≡ true → (a || b) ≡ true
either-holds true b e = refl
either-holds false b e = e

module _ (i : ImageOf Name) (ordered : HasOrderedClasses i) where
  -- a class with its name and superclass alone is one of the image
  plain-there : (n : Name) (d : ClassOf Name) → class_named text_eq (map plain_class i.classes) n ≡ Some d → (x : ClassOf Name) × (class_named text_eq i.classes n ≡ Some x) × (plain_class x ≡ d)
  plain-there n d e = by (class_named text_eq i.classes n) (sym (find-map plain_class (λ c. text_eq n c.name) (λ c. text_eq n c.name) i.classes (everywhere _ (λ c. refl) i.classes)) ∙ e)
    where
      by : (o : Option (ClassOf Name)) → option_map plain_class o ≡ Some d → (x : ClassOf Name) × (o ≡ Some x) × (plain_class x ≡ d)
      by None q = none-some q
      by (Some x) q = (x, refl, some-same q)

  -- the chain of a class is it, and then the chain of its superclass
  pub chain-of : (n : Name) (x : ClassOf Name) → class_named text_eq i.classes n ≡ Some x → chain text_eq i.classes (Some n) ≡ x ∷ chain text_eq i.classes x.superclass
  chain-of n x e =
      let at = find-place (λ (c : ClassOf Name). text_eq n c.name) i.classes x e in
      ap (chain_from text_eq i.classes) e ∙ chain_from-step text_eq text_eq-refl i.classes ordered.before at.0 x at.1

  -- the chain of a class ends as that of each class above it
  chain-ends : (k n : Name) → IsBelow (map plain_class i.classes) k n → (front : List (ClassOf Name)) × (chain text_eq i.classes (Some k) ≡ front ++ chain text_eq i.classes (Some n))
  chain-ends k _ itself = ([], refl)
  chain-ends k n (above {k = j} d b e f) =
      let rest = chain-ends k j b in
      let at = plain-there j d e in
      let super : at.0.superclass ≡ Some n = ap (λ (c : ClassOf Name). c.superclass) at.2 ∙ f in (
        rest.0 ++ at.0 ∷ [],
        rest.1 ∙ ap (λ l. rest.0 ++ l) (chain-of j at.0 at.1 ∙ ap (λ o. at.0 ∷ chain text_eq i.classes o) super) ∙ sym (append_assoc rest.0 (at.0 ∷ []) (chain text_eq i.classes (Some n))),
      )

  -- a class of the user is neither one of these classes nor above them, where all above them are the kernel's
  pub user-apart : (k c : Name) → AllByRecursion (λ (e : ClassOf Name). IsTrue e.kernel) (chain text_eq i.classes (Some k)) → is_user_class text_eq i c ≡ true → IsBelow (map plain_class i.classes) k c → ⊥
  user-apart k c kernel user b =
      let at = test-there (λ (e : ClassOf Name). not e.kernel) (class_named text_eq i.classes c) user in
      let ends = chain-ends k c b in
      let own : at.0.kernel ≡ true = all-of (λ (e : ClassOf Name). IsTrue e.kernel) ends.0 at.0 (chain text_eq i.classes at.0.superclass) (subst (AllByRecursion (λ (e : ClassOf Name). IsTrue e.kernel)) (ends.1 ∙ ap (λ l. ends.0 ++ l) (chain-of c at.0 at.1)) kernel) in
      false≢true (sym (denied at.0.kernel at.2) ∙ own)

  -- a class below another one is there
  below-there : (k c : Name) → IsBelow (map plain_class i.classes) k c → (k ≡ c) ⊎ ((x : ClassOf Name) × (class_named text_eq i.classes k ≡ Some x))
  below-there k _ itself = inl refl
  below-there k c (above {k = j} d b e f) = by (below-there k j b)
    where
      at : (x : ClassOf Name) × (class_named text_eq i.classes j ≡ Some x) × (plain_class x ≡ d)
      at = plain-there j d e

      by : (k ≡ j) ⊎ ((x : ClassOf Name) × (class_named text_eq i.classes k ≡ Some x)) → (k ≡ c) ⊎ ((x : ClassOf Name) × (class_named text_eq i.classes k ≡ Some x))
      by (inl q) = inr (at.0, ap (class_named text_eq i.classes) q ∙ at.1)
      by (inr x) = inr x

  -- it has the other one on its chain
  below-stands : (k c : Name) (x y : ClassOf Name) → class_named text_eq i.classes k ≡ Some x → class_named text_eq i.classes c ≡ Some y → IsBelow (map plain_class i.classes) k c → stands_below text_eq i.classes c x ≡ true
  below-stands k c x y e q b =
      let ends = chain-ends k c b in
      ap (λ o. list_any (λ (d : ClassOf Name). text_eq c d.name) (chain_from text_eq i.classes o)) (sym e)
      ∙ ap (list_any (λ (d : ClassOf Name). text_eq c d.name)) (ends.1 ∙ ap (λ l. ends.0 ++ l) (chain-of c y q))
      ∙ list_any-append (λ (d : ClassOf Name). text_eq c d.name) ends.0 (y ∷ chain text_eq i.classes y.superclass)
      ∙ either-holds (list_any (λ (d : ClassOf Name). text_eq c d.name) ends.0) _ (ap (λ b. b || list_any (λ (d : ClassOf Name). text_eq c d.name) (chain text_eq i.classes y.superclass)) (find-passes (λ (d : ClassOf Name). text_eq c d.name) i.classes y q))

  module _ (c : Name) (meta : Bool) (s : Name) (target : EntryOf Name) (user : is_user_class text_eq i c ≡ true) (one : is_one_target text_asked i c meta s ≡ true) (found : lookup text_words i (Some c) meta s ≡ Some target) where
    -- whether a class below has a method of its own
    abbrev has_own : ClassOf Name → Bool
    has_own e = stands_below text_eq i.classes c e && (not (text_eq c e.name) && is_some (own_method text_eq i.methods e.name meta s))

    no-own : list_any has_own i.classes ≡ false
    no-own = denied (list_any has_own i.classes) (and-true_right (option_map_or (λ (m : EntryOf Name). not m.kernel) (lookup text_words i (Some c) meta s) false) (not (list_any has_own i.classes)) one)

    -- no class below has one
    none-below : (k : Name) → IsBelow (map plain_class i.classes) k c → (k ≡ c → ⊥) → find (is_resolved_method k meta s) (resolved_image i).methods ≡ None
    none-below k b other = by (below-there k c b)
      where
        at : (y : ClassOf Name) × (class_named text_eq i.classes c ≡ Some y) × (not y.kernel ≡ true)
        at = test-there (λ (e : ClassOf Name). not e.kernel) (class_named text_eq i.classes c) user

        apart : text_eq c k ≡ false
        apart = by_cases (text_eq c k) (λ t. absurd (other (sym (text-same c k t)))) (λ f. f)

        by : (k ≡ c) ⊎ ((x : ClassOf Name) × (class_named text_eq i.classes k ≡ Some x)) → find (is_resolved_method k meta s) (resolved_image i).methods ≡ None
        by (inl q) = absurd (other q)
        by (inr x) =
            let place = find-place (λ (d : ClassOf Name). text_eq k d.name) i.classes x.0 x.1 in
            let named : k ≡ x.0.name = text-same k x.0.name (find-passes (λ (d : ClassOf Name). text_eq k d.name) i.classes x.0 x.1) in
            let fails = all-at (λ e. has_own e ≡ false) i.classes place.0 x.0 (each-fails has_own i.classes no-own) place.1 in
            let rest = second-fails (stands_below text_eq i.classes c x.0) (not (text_eq c x.0.name) && is_some (own_method text_eq i.methods x.0.name meta s)) fails (below-stands k c x.0 at.0 x.1 at.1 b) in
            let own : own_method text_eq i.methods k meta s ≡ None = ap (λ n. own_method text_eq i.methods n meta s) named ∙ none-there (own_method text_eq i.methods x.0.name meta s) (second-fails (not (text_eq c x.0.name)) (is_some (own_method text_eq i.methods x.0.name meta s)) rest (ap not (ap (text_eq c) (sym named) ∙ apart))) in
            find-map (resolved_entry i) (is_method text_eq k meta s) (is_resolved_method k meta s) i.methods (everywhere _ (λ m. refl) i.methods) ∙ ap (option_map (resolved_entry i)) own

    -- each class at and below it finds the method
    pub one-target : (gone : Allowed) → IsTarget (resolved_image i) gone c meta s (resolved_entry i target)
    one-target gone k b =
        climbs (resolved_image i) (SuperclassesStandBefore-kept plain_class i.classes (plain-hierarchy i.classes) ordered.before) meta s k c b none-below
        ∙ finds-resolved i (Some c) meta s ∙ ap (option_map (resolved_entry i)) found

    -- where the method is one of the class, it is one of the side
    pub one-side : (IsBelow (map plain_class i.classes) (codes "Class") c → ⊥) → target.class ≡ Some c → target.meta ≡ meta
    one-side apart own = by (finds-found (resolved_image i) (Some c) meta s (resolved_entry i target) (finds-resolved i (Some c) meta s ∙ ap (option_map (resolved_entry i)) found))
      where
        by : ((k : Name) × (Some c ≡ Some k) × IsFoundAt (resolved_image i) k meta (resolved_entry i target)) ⊎ IsFoundAt (resolved_image i) (codes "Class") false (resolved_entry i target) → target.meta ≡ meta
        by (inl f) = f.2.side
        by (inr f) = absurd (apart (subst (IsBelow (map plain_class i.classes) (codes "Class")) (some-same (sym f.holder ∙ own)) f.below))

  -- a method of the class that alone has a selector is found from each class at and below it
  module _ (methods : List (EntryOf Name)) (c : Name) (meta : Bool) (s : Name) (new : EntryOf Name) (user : is_user_class text_eq i c ≡ true) (own : own_method text_eq methods c meta s ≡ Some new) (none : (k : Name) → text_eq k c ≡ false → own_method text_eq methods k meta s ≡ None) where
    abbrev there : ImageOf Name
    there = record i { methods = methods }

    class-is : (x : ClassOf Name) × (class_named text_eq i.classes c ≡ Some x) × (not x.kernel ≡ true)
    class-is = test-there (λ (e : ClassOf Name). not e.kernel) (class_named text_eq i.classes c) user

    found-there : lookup text_words there (Some c) meta s ≡ Some new
    found-there =
        ap (λ cs. option_or (first_given (λ (d : ClassOf Name). own_method text_eq methods d.name meta s) cs) (if meta then as_object text_words there s else None)) (chain-of c class-is.0 class-is.1)
        ∙ ap (λ o. option_or (option_or o (first_given (λ (d : ClassOf Name). own_method text_eq methods d.name meta s) (chain text_eq i.classes class-is.0.superclass))) (if meta then as_object text_words there s else None))
        (ap (λ n. own_method text_eq methods n meta s) (sym (text-same c class-is.0.name (find-passes (λ (d : ClassOf Name). text_eq c d.name) i.classes class-is.0 class-is.1))) ∙ own)

    none-lower : (k : Name) → IsBelow (resolved_image there).classes k c → (k ≡ c → ⊥) → find (is_resolved_method k meta s) (resolved_image there).methods ≡ None
    none-lower k b other =
        find-map (resolved_entry there) (is_method text_eq k meta s) (is_resolved_method k meta s) methods (everywhere _ (λ n. refl) methods)
        ∙ ap (option_map (resolved_entry there)) (none k (by_cases (text_eq k c) (λ h. absurd (other (text-same k c h))) (λ f. f)))

    pub new-target : (gone : Allowed) → IsTarget (resolved_image there) gone c meta s (resolved_entry there new)
    new-target gone k b =
        climbs (resolved_image there) (SuperclassesStandBefore-kept plain_class i.classes (plain-hierarchy i.classes) ordered.before) meta s k c b none-lower
        ∙ finds-resolved there (Some c) meta s ∙ ap (option_map (resolved_entry there)) found-there
