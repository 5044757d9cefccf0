-- An image has no names but those of its lists, and its classes have the variables of their superclasses.
use Rattle.std.proofs.Common.{◌≡◌, ℕ, zero, suc, List, [], ◌∷◌, ◌++◌, Option, Some, None, refl, sym, ap, ◌∙◌, subst, arith}
use Rattle.std.specs.Prelude.{Bool, false, ◌||◌, ◌≢◌, IsTrue, cond, find, map, flat_map, slice_get, option_map}
use Rattle.std.specs.List.{AllByRecursion, list_any}
use Rattle.std.proofs.lemmas.Bool.{false≢true}
use Rattle.std.proofs.lemmas.List.Folds.{list_any-append}
use Rattle.std.proofs.lemmas.Option.{slice_get-map}
use Rattle.rb_base.specs.Names.{text_eq}
use Rattle.rb_base.proofs.NamesLemmas.{text_eq-refl}
use Rattle.image_model.specs.Image.{ClassOf, ImageOf}
use Rattle.image_model.specs.Chain.{chain_from, chain}
use Rattle.image_model.specs.Means.{VariableKind, of_instance, of_class_side, variables}
use Rattle.image_model.specs.Valid.{HasNoRepeat, class_names}
use Rattle.image_model.proofs.Lists.{all-implies, all-both, all-map}
use Rattle.image_model.proofs.ChainLemmas.{chain_from-step}
use Rattle.run_model.specs.Values.{Name}
use Rattle.run_model.specs.Store.{same_pair}
use Rattle.run_model.proofs.Finite.{by_cases, and-true_left, and-true_right}
use Rattle.run_model.proofs.RenamingLemmas.{text-same}
use Rattle.resolved_model.specs.ResolvedTrees.{ResolvedCode}
use Rattle.resolved_model.specs.Resolving.{resolved_doit}
use Rattle.resolved_model.specs.ResolvedImages.{ResolvedMethod, plain_class, resolved_entry, resolved_image, class_of_doits}
use Rattle.resolved_model.proofs.LookupLemmas.{everywhere, doits-class}
use Rattle.mapped_model.specs.NameMaps.{NameMaps}
use Rattle.mapped_model.specs.MappedImages.{class_or_none}
use Rattle.mapped_model.specs.OwnVariables.{OwnDoing, OwnStatements}
use Rattle.mapped_model.specs.NamesInUse.{IsAmong, IsAmongPairs, HasInstance, HasClassSide, UsesMethod, UsesDoIt, UsesOnly, IsInherited, AreInherited}
use Rattle.mapped_model.specs.NamesOfImages.{used_if_any, used_by_method, used_by_doit, variables_along, variables_with, variables_of, names_in, CallsAsAbove, HasOrderedClasses}
use Rattle.mapped_model.proofs.Tests.{or_right}
use Rattle.mapped_model.proofs.NamesFound.{all-left, all-right, InUse, statements-use, doing-uses, any-uses, classes-used, methods-used, doits-used}
use Rattle.mapped_model.proofs.OwnResolved.{pair-in, method-own, doit-own}

-- nothing is no class
nothing-there : (c : ClassOf Name) → None ≡ Some c → ⊥
nothing-there c e = cc

-- one of two lists has it
any-either : {X P : Type 0} (p : X → Bool) (xs ys : List X) → IsTrue (list_any p (xs ++ ys)) → (IsTrue (list_any p xs) → P) → (IsTrue (list_any p ys) → P) → P
any-either p xs ys t h k = by_cases (list_any p xs) h (λ e. k (sym (ap (λ b. b || list_any p ys) e) ∙ sym (list_any-append p xs ys) ∙ t))

module _ (i : ImageOf Name) where
  -- a method has no variables but its own, and a do-it
  abbrev Own : ResolvedMethod → Type 0
  Own m = OwnDoing (HasInstance (names_in i) (class_or_none m.class)) (HasClassSide (names_in i) (class_or_none m.class) m.meta) m.doing

  abbrev OwnDoIt : ResolvedCode → Type 0
  OwnDoIt c = OwnStatements (HasInstance (names_in i) (class_or_none (class_of_doits (resolved_image i)))) (HasClassSide (names_in i) (class_or_none (class_of_doits (resolved_image i))) false) c.statements

  -- an image has no names but those that are collected
  pub uses-names : UsesOnly (names_in i) (resolved_image i)
  uses-names = record {
    classes = classes-used i;
    methods =
        all-implies (λ (m : ResolvedMethod). AllByRecursion (InUse (names_in i)) (used_by_method m) × Own m) (UsesMethod (names_in i))
        (λ m h.
        let rest = all-right (InUse (names_in i)) (used_if_any m.class) _ h.0 in
        record { class = any-uses (names_in i) m.class (all-left (InUse (names_in i)) (used_if_any m.class) _ h.0); selector = rest.0; doing = doing-uses (names_in i) m.doing rest.1; own = h.1 })
        (resolved_image i).methods
        (all-both (λ (m : ResolvedMethod). AllByRecursion (InUse (names_in i)) (used_by_method m)) Own (resolved_image i).methods (methods-used i)
        (all-map Own (resolved_entry i) i.methods (everywhere (λ m. Own (resolved_entry i m)) (method-own i) i.methods)));
    doits =
        all-implies (λ (c : ResolvedCode). AllByRecursion (InUse (names_in i)) (used_by_doit c) × OwnDoIt c) (UsesDoIt (names_in i) (class_or_none (class_of_doits (resolved_image i))))
        (λ c h. record { statements = statements-use (names_in i) c.statements h.0; own = h.1 }) (resolved_image i).doits
        (all-both (λ (c : ResolvedCode). AllByRecursion (InUse (names_in i)) (used_by_doit c)) OwnDoIt (resolved_image i).doits (doits-used i)
        (all-map OwnDoIt (resolved_doit i) i.doits
        (everywhere (λ d. OwnDoIt (resolved_doit i d)) (λ d. subst (λ o. OwnStatements (HasInstance (names_in i) (class_or_none o)) (HasClassSide (names_in i) (class_or_none o) false) (resolved_doit i d).statements) (sym (doits-class i)) (doit-own i d)) i.doits)));
  }

  -- the variables of one class, with its name
  own-pair : (kind : VariableKind) (d n : Name) (c : ClassOf Name) (ns : List Name) → IsTrue (list_any (same_pair (d, n)) (map (λ x. (c.name, x)) ns)) → (d ≡ c.name) × IsAmong ns n
  own-pair kind d n c [] t = absurd (false≢true t)
  own-pair kind d n c (x ∷ ns) t =
      by_cases (same_pair (d, n) (c.name, x))
      (λ e. (text-same d c.name (and-true_left (text_eq d c.name) (text_eq n x) e), ap (λ b. b || list_any (text_eq n) ns) (and-true_right (text_eq d c.name) (text_eq n x) e)))
      (λ e. let rest = own-pair kind d n c ns (sym (ap (λ b. b || list_any (same_pair (d, n)) (map (λ y. (c.name, y)) ns)) e) ∙ t) in (rest.0, or_right (text_eq n x) (list_any (text_eq n) ns) rest.1))

  -- a variable of a class is one of its chain
  pub pair-out : (kind : VariableKind) (d n : Name) (cs : List (ClassOf Name)) → IsTrue (list_any (same_pair (d, n)) (flat_map (variables_with i kind) cs)) → IsAmong (variables_along i kind d) n
  pair-out kind d n [] t = absurd (false≢true t)
  pair-out kind d n (c ∷ cs) t =
      any-either (same_pair (d, n)) (variables_with i kind c) (flat_map (variables_with i kind) cs) t
      (λ e. let own = own-pair kind d n c (variables_along i kind c.name) e in subst (λ z. IsAmong (variables_along i kind z) n) (sym own.0) own.1)
      (λ e. pair-out kind d n cs e)

  module _ (ordered : HasOrderedClasses i) where
    -- a class is the one of its name
    pub named-found : (cs : List (ClassOf Name)) → HasNoRepeat (class_names cs) → (j : ℕ) (c : ClassOf Name) → slice_get cs j ≡ Some c → find (λ (b : ClassOf Name). text_eq c.name b.name) cs ≡ Some c
    named-found [] once j c e = absurd (nothing-there c e)
    named-found (b ∷ cs) once zero c e =
        let same : b ≡ c = cc in
        ap (λ z. cond z (Some b) (find (λ (x : ClassOf Name). text_eq c.name x.name) cs)) (ap (λ (x : ClassOf Name). text_eq c.name x.name) same ∙ text_eq-refl c.name) ∙ ap Some same
    named-found (b ∷ cs) once (suc j) c e =
        by_cases (text_eq c.name b.name)
        (λ t. absurd (apart (once 0 (suc j) c.name (ap Some (sym (text-same c.name b.name t))) (slice_get-map (λ (x : ClassOf Name). x.name) cs j ∙ ap (λ o. name_of o) e))))
        (λ t. ap (λ z. cond z (Some b) (find (λ (x : ClassOf Name). text_eq c.name x.name) cs)) t ∙ named-found cs (λ k l x p q. less (once (suc k) (suc l) x p q)) j c e)
      where
        name_of : Option (ClassOf Name) → Option Name
        name_of o = option_map (λ (x : ClassOf Name). x.name) o

        apart : 0 ≡ suc j → ⊥
        apart q = absurd (omega (arith, q))

        less : {k l : ℕ} → suc k ≡ suc l → k ≡ l
        less q = omega (arith, q)

    -- the chain of a class is it, and then the chain of its superclass
    pub chain-step : (j : ℕ) (c : ClassOf Name) → slice_get i.classes j ≡ Some c → chain text_eq i.classes (Some c.name) ≡ c ∷ chain text_eq i.classes c.superclass
    chain-step j c e = ap (chain_from text_eq i.classes) (named-found i.classes ordered.distinct j c e) ∙ chain_from-step text_eq text_eq-refl i.classes ordered.before j c e

    -- what the superclass of a class has, the class has
    has-above : (kind : VariableKind) (j : ℕ) (c : ClassOf Name) (d n : Name) → slice_get i.classes j ≡ Some c → c.superclass ≡ Some d → IsAmong (variables_along i kind d) n → IsAmong (variables_along i kind c.name) n
    has-above kind j c d n e q t =
        subst (λ cs. IsAmong (flat_map (variables kind) cs) n) (sym (chain-step j c e))
        (list_any-append (text_eq n) (variables kind c) (flat_map (variables kind) (chain text_eq i.classes c.superclass))
        ∙ or_right (list_any (text_eq n) (variables kind c)) _ (subst (λ o. IsAmong (flat_map (variables kind) (chain text_eq i.classes o)) n) (sym q) t))

    -- a class is one of those of its name
    class-in : (cs : List (ClassOf Name)) (j : ℕ) (c : ClassOf Name) → slice_get cs j ≡ Some c → IsTrue (list_any (λ (b : ClassOf Name). text_eq c.name b.name) cs)
    class-in [] j c e = absurd (nothing-there c e)
    class-in (b ∷ cs) zero c e =
        let same : b ≡ c = cc in
        ap (λ z. z || list_any (λ (x : ClassOf Name). text_eq c.name x.name) cs) (ap (λ (x : ClassOf Name). text_eq c.name x.name) same ∙ text_eq-refl c.name)
    class-in (b ∷ cs) (suc j) c e = or_right (text_eq c.name b.name) _ (class-in cs j c e)

    -- a variable of the superclass is one of a class
    pair-above : (kind : VariableKind) (j : ℕ) (c : ClassOf Name) (d n : Name) → slice_get i.classes j ≡ Some c → c.superclass ≡ Some d → IsAmongPairs (variables_of i kind) (d, n) → IsAmongPairs (variables_of i kind) (c.name, n)
    pair-above kind j c d n e q t = pair-in i kind c.name n (class-in i.classes j c e) (has-above kind j c d n e q (pair-out kind d n i.classes t))

    module _ (f : NameMaps) where
      -- one class
      one-inherited : (j : ℕ) (c : ClassOf Name) → slice_get i.classes j ≡ Some c → c.name ≢ [] → CallsAsAbove i f c → IsInherited (names_in i) f (plain_class c)
      one-inherited j c e named calls = record {
        named = named;
        superclass = λ d q. record {
          instance = λ n t. (pair-above of_instance j c d n e q t, calls.instance d n q (pair-out of_instance d n i.classes t));
          class_side = λ n t. (pair-above of_class_side j c d n e q t, calls.class_side d n q (pair-out of_class_side d n i.classes t));
        };
      }

      -- classes from a place on
      each-inherited : (cs : List (ClassOf Name)) → ((j : ℕ) (c : ClassOf Name) → slice_get cs j ≡ Some c → (l : ℕ) × (slice_get i.classes l ≡ Some c)) → AllByRecursion (λ (c : ClassOf Name). c.name ≢ []) cs → AllByRecursion (CallsAsAbove i f) cs → AllByRecursion (IsInherited (names_in i) f) (map plain_class cs)
      each-inherited [] there named calls = tt
      each-inherited (c ∷ cs) there named calls =
          let place = there 0 c refl in
          (one-inherited place.0 c place.1 named.0 calls.0, each-inherited cs (λ j b e. there (suc j) b e) named.1 calls.1)

      -- all classes
      pub all-inherited : AllByRecursion (CallsAsAbove i f) i.classes → AreInherited (names_in i) f (resolved_image i)
      all-inherited calls = each-inherited i.classes (λ j c e. (j, e)) ordered.named calls
