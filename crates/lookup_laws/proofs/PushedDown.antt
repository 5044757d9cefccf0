-- A method that goes down to the direct subclasses of its class.
use Rattle.std.proofs.Common.{◌≡◌, ℕ, suc, List, [], ◌∷◌, Option, Some, None, refl, sym, ap, ◌∙◌, subst}
use Rattle.std.specs.Prelude.{Bool, true, false, not, ◌&&◌, cond, map, filter, IsTrue, is_none, slice_get}
use Rattle.std.proofs.Math.Bool.{beq}
use Rattle.std.specs.List.{AllByRecursion}
use Rattle.std.specs.Option.{option_map_or}
use Rattle.std.proofs.lemmas.Bool.{false≢true}
use Rattle.rb_base.specs.Names.{text_eq}
use Rattle.image_model.specs.Image.{ClassOf, ImageOf}
use Rattle.image_model.specs.ImageNames.{OptionNames}
use Rattle.image_model.specs.Words.{text_words}
use Rattle.image_model.specs.Chain.{class_named, class_of_name, superclass_of, chain_from}
use Rattle.image_model.specs.Lookup.{own_method}
use Rattle.run_model.specs.Values.{Name}
use Rattle.run_model.specs.ObjectPrimitives.{value_classes}
use Rattle.run_model.specs.Runs.{run}
use Rattle.run_model.proofs.Finite.{by_cases, and-true_left}
use Rattle.run_model.proofs.RenamingLemmas.{text-same}
use Rattle.mapped_model.specs.NamesOfImages.{HasOrderedClasses}
use Rattle.rename_model.specs.Conditions.{is_user_class}
use Rattle.command_model.specs.Hierarchy.{is_child, receivers}
use Rattle.command_model.specs.MethodConditions.{is_unreached}
use Rattle.command_model.specs.MethodEffects.{method_pushed_down}
use Rattle.agreement_laws.specs.KernelChains.{HasKernelChains}
use Rattle.lookup_laws.proofs.Differences.{pushed_down-differ}
use Rattle.agreement_laws.proofs.KernelChains.{IsThere, named-there, one-named, user-other, chain-kernel_up}
use Rattle.agreement_laws.specs.Reaching.{is_super}
use Rattle.lookup_laws.proofs.MethodsApart.{is_place}
use Rattle.lookup_laws.proofs.MovedMethods.{by-class, own-moved, others-moved}
use Rattle.lookup_laws.proofs.Reached.{unreached-runs}

-- what holds of each class that passes holds of their names
names-all : (Q : Name → Type 0) (test : ClassOf Name → Bool) (cs : List (ClassOf Name)) → ((k : ℕ) (x : ClassOf Name) → slice_get cs k ≡ Some x → test x ≡ true → Q x.name) → AllByRecursion Q (map (λ (x : ClassOf Name). x.name) (filter test cs))
names-all Q test [] h = tt
names-all Q test (x ∷ cs) h = by (test x) refl (names-all Q test cs (λ k y at t. h (suc k) y at t))
  where
    by : (b : Bool) → test x ≡ b → AllByRecursion Q (map (λ (y : ClassOf Name). y.name) (filter test cs)) → AllByRecursion Q (map (λ (y : ClassOf Name). y.name) (cond b (x ∷ filter test cs) (filter test cs)))
    by true e rest = (h 0 x refl e, rest)
    by false e rest = rest

module _ (i : ImageOf Name) (ordered : HasOrderedClasses i) (chains : HasKernelChains i) (c : Name) (meta : Bool) (s : Name) (user : is_user_class text_eq i c ≡ true) where
  -- a class whose superclass is one of the kernel, if it has one, is no subclass of one of the user
  no-child : (e : ClassOf Name) → OptionNames (λ (x : ClassOf Name). IsTrue x.kernel) (superclass_of text_eq i.classes e) → is_child text_eq c e ≡ false
  no-child e kernel = by e.superclass kernel
    where
      user-by : (o : Option (ClassOf Name)) → OptionNames (λ (x : ClassOf Name). IsTrue x.kernel) o → option_map_or (λ (x : ClassOf Name). not x.kernel) o false ≡ true → ⊥
      user-by (Some x) k u = false≢true (sym (ap not k) ∙ u)
      user-by None k u = false≢true u

      by : (o : Option Name) → OptionNames (λ (x : ClassOf Name). IsTrue x.kernel) (class_of_name text_eq i.classes o) → option_map_or (text_eq c) o false ≡ false
      by None k = refl
      by (Some d) k = by_cases (text_eq c d) (λ t. absurd (user-by (class_named text_eq i.classes c) (subst (λ n. OptionNames (λ (x : ClassOf Name). IsTrue x.kernel) (class_named text_eq i.classes n)) (sym (text-same c d t)) k) user)) (λ t. t)

  -- it is none of those that receive the method
  apart : (e : ClassOf Name) → IsThere i ordered e → OptionNames (λ (x : ClassOf Name). IsTrue x.kernel) (superclass_of text_eq i.classes e) → AllByRecursion (λ (p : Name). text_eq e.name p ≡ false) (receivers text_eq i c meta s)
  apart e at kernel =
      names-all (λ (p : Name). text_eq e.name p ≡ false) (λ (x : ClassOf Name). is_child text_eq c x && is_none (own_method text_eq i.methods x.name meta s)) i.classes
      (λ k x there t.
      by_cases (text_eq e.name x.name)
      (λ h. absurd (false≢true (sym (no-child e kernel) ∙ ap (is_child text_eq c) (one (sym (one-named i ordered e at) ∙ ap (class_named text_eq i.classes) (text-same e.name x.name h) ∙ one-named i ordered x (k, there))) ∙ and-true_left (is_child text_eq c x) _ t)))
      (λ h. h))
    where
      one : {x : ClassOf Name} → Some e ≡ Some x → e ≡ x
      one {x} q = cc

  places : (e : ClassOf Name) (ps : List Name) → AllByRecursion (λ (p : Name). text_eq e.name p ≡ false) ps → AllByRecursion (λ (p : Name). is_place p meta s e.name meta s ≡ false) ps
  places e [] a = tt
  places e (p ∷ ps) a = (by-class (text_eq e.name p) (beq meta meta) (text_eq s s) a.0, places e ps a.1)

  -- classes of which the language speaks keep their methods
  kernel-kept : AllByRecursion (λ (v : Name). AllByRecursion (λ (e : ClassOf Name). own_method text_eq (method_pushed_down text_eq c meta s i).methods e.name meta s ≡ own_method text_eq i.methods e.name meta s) (chain_from text_eq i.classes (class_named text_eq i.classes v))) value_classes
  kernel-kept = each value_classes chains
    where
      each : (vs : List Name) → AllByRecursion (λ (v : Name). AllByRecursion (λ (e : ClassOf Name). IsTrue e.kernel) (chain_from text_eq i.classes (class_named text_eq i.classes v))) vs →
          AllByRecursion (λ (v : Name). AllByRecursion (λ (e : ClassOf Name). own_method text_eq (method_pushed_down text_eq c meta s i).methods e.name meta s ≡ own_method text_eq i.methods e.name meta s) (chain_from text_eq i.classes (class_named text_eq i.classes v))) vs
      each [] a = tt
      each (v ∷ vs) a = (
        chain-kernel_up i ordered (λ (e : ClassOf Name). own_method text_eq (method_pushed_down text_eq c meta s i).methods e.name meta s ≡ own_method text_eq i.methods e.name meta s)
            (λ e at kernel up. own-moved i c meta s (receivers text_eq i c meta s) e.name meta s (by-class (text_eq e.name c) (beq meta meta) (text_eq s s) (user-other i ordered c user e at kernel)) (places e (receivers text_eq i c meta s) (apart e at up)))
            (class_named text_eq i.classes v) (named-there i ordered (Some v)) a.0,
        each vs a.1,
      )

  -- the runs are the same
  pub pushed_down-runs : is_unreached text_words is_super i (method_pushed_down text_eq c meta s i) meta s ≡ true → (n : ℕ) → run (method_pushed_down text_eq c meta s i) n ≡ run i n
  pushed_down-runs unreached =
      unreached-runs i (method_pushed_down text_eq c meta s i) ordered meta s (pushed_down-differ s c meta i) (others-moved i c meta s (receivers text_eq i c meta s)) kernel-kept unreached
