-- Facts of the classes on a chain.
use Rattle.std.proofs.Common.{◌≡◌, ℕ, zero, suc, ◌<◌, List, [], ◌∷◌, ◌++◌, length, Option, Some, None, slice_get, refl, sym, ap, ◌∙◌, subst, arith}
use Rattle.std.specs.Prelude.{Bool, true, false, cond, find, not, ◌||◌, ◌&&◌, IsTrue, flat_map}
use Rattle.std.specs.List.{AllByRecursion, list_any}
use Rattle.std.specs.Option.{option_map_or}
use Rattle.std.proofs.lemmas.Bool.{false≢true}
use Rattle.std.proofs.lemmas.List.Folds.{list_any-append}
use Rattle.rb_base.specs.Names.{text_eq}
use Rattle.rb_base.proofs.NamesLemmas.{text_eq-refl}
use Rattle.image_model.specs.Image.{ClassOf, ImageOf}
use Rattle.image_model.specs.ImageNames.{OptionNames}
use Rattle.image_model.specs.Chain.{class_named, class_of_name, superclass_of, chain_from, chain}
use Rattle.image_model.specs.Means.{VariableKind, variables, definer}
use Rattle.image_model.specs.Valid.{HasNoRepeat, DefinesOnceOnChain}
use Rattle.image_model.proofs.ChainLemmas.{superclass_before, chain_from-step}
use Rattle.image_model.proofs.Ends.{find-place}
use Rattle.image_model.proofs.Lists.{find-all}
use Rattle.image_model.proofs.UpwardsLemmas.{upwards-all, upwards-none}
use Rattle.run_model.specs.Values.{Name}
use Rattle.run_model.proofs.Finite.{by_cases, and-true_right, any-flat_map}
use Rattle.run_model.proofs.RenamingLemmas.{text-same}
use Rattle.mapped_model.specs.NamesOfImages.{HasOrderedClasses}
use Rattle.mapped_model.proofs.NamesOfImagesHold.{named-found}
use Rattle.mapped_model.proofs.RenamedVariableLemmas.{all-at}
use Rattle.rename_model.specs.Conditions.{is_user_class, has_variable, defines, stands_below}
use Rattle.rename_laws.proofs.OutsideAfter.{find-passes}
use Rattle.rename_laws.proofs.Unnamed.{each-fails}
use Rattle.rename_laws.proofs.VariableOutside.{and-false_right}

-- the second of two alternatives
or-right : (a b : Bool) → b ≡ true → (a || b) ≡ true
or-right true b e = refl
or-right false b e = e

-- where the first of two alternatives fails, the second holds
pub other-holds : (a b : Bool) → a ≡ false → (a || b) ≡ true → b ≡ true
other-holds a b e h = sym (ap (λ x. x || b) e) ∙ h

-- the class of a name on a list
abbrev pub is_on : Name → List (ClassOf Name) → Bool
is_on c cs = list_any (λ (e : ClassOf Name). text_eq c e.name) cs

module _ (classes : List (ClassOf Name)) where
  -- a fact of all classes is one of those on a chain
  of_name-all : (P : ClassOf Name → Type 0) → AllByRecursion P classes → (o : Option Name) → OptionNames P (class_of_name text_eq classes o)
  of_name-all P a None = tt
  of_name-all P a (Some n) = find-all P (λ e. text_eq n e.name) classes a

  pub chain-all : (P : ClassOf Name → Type 0) → AllByRecursion P classes → (o : Option Name) → AllByRecursion P (chain text_eq classes o)
  chain-all P a o = upwards-all P (superclass_of text_eq classes) (λ e p. of_name-all P a e.superclass) (length classes) (class_of_name text_eq classes o) (of_name-all P a o)

  -- a class is the one that is found by its name
  abbrev pub IsFound : ClassOf Name → Type 0
  IsFound e = class_named text_eq classes e.name ≡ Some e

  found-by : (n : Name) (o : Option (ClassOf Name)) → class_named text_eq classes n ≡ o → OptionNames (λ (e : ClassOf Name). text_eq n e.name ≡ true) o → OptionNames IsFound o
  found-by n None q h = tt
  found-by n (Some e) q h = ap (class_named text_eq classes) (sym (text-same n e.name h)) ∙ q

  of_name-found : (o : Option Name) → OptionNames IsFound (class_of_name text_eq classes o)
  of_name-found None = tt
  of_name-found (Some n) = found-by n (class_named text_eq classes n) refl (find-passes (λ e. text_eq n e.name) classes)

  -- so is each class on a chain
  pub chain-found : (o : Option Name) → AllByRecursion IsFound (chain text_eq classes o)
  chain-found o = upwards-all IsFound (superclass_of text_eq classes) (λ e p. of_name-found e.superclass) (length classes) (class_of_name text_eq classes o) (of_name-found o)

  -- no variable of a kind is defined twice on a chain
  pub chain-once : (kind : VariableKind) → AllByRecursion (DefinesOnceOnChain text_eq classes kind) classes → (o : Option Name) → HasNoRepeat (flat_map (variables kind) (chain text_eq classes o))
  chain-once kind a o = by (class_of_name text_eq classes o) (of_name-all (DefinesOnceOnChain text_eq classes kind) a o)
    where
      nothing : (k : ℕ) (x : Name) → slice_get [] k ≡ Some x → ⊥
      nothing k x e = cc

      by : (q : Option (ClassOf Name)) → OptionNames (DefinesOnceOnChain text_eq classes kind) q → HasNoRepeat (flat_map (variables kind) (chain_from text_eq classes q))
      by None h = subst (λ cs. HasNoRepeat (flat_map (variables kind) cs)) (sym (upwards-none (superclass_of text_eq classes) (length classes))) (λ j k x p q. absurd (nothing j x p))
      by (Some e) h = h

-- a class of the user is none of the kernel's classes on a chain
pub user-apart : (i : ImageOf Name) (c : Name) → is_user_class text_eq i c ≡ true → (cs : List (ClassOf Name)) → AllByRecursion (IsFound i.classes) cs → AllByRecursion (λ (e : ClassOf Name). IsTrue e.kernel) cs → is_on c cs ≡ false
user-apart i c user [] found kernel = refl
user-apart i c user (e ∷ es) found kernel = λ k. own k || user-apart i c user es found.1 kernel.1 k
  where
    own : text_eq c e.name ≡ false
    own =
        by_cases (text_eq c e.name)
        (λ t. absurd (false≢true (sym (ap not kernel.0) ∙ sym (ap (λ o. option_map_or (λ (z : ClassOf Name). not z.kernel) o false) (ap (class_named text_eq i.classes) (text-same c e.name t) ∙ found.0)) ∙ user)))
        (λ t. t)

-- a list without repeats has none in its rest
less : {X : Type 0} (x : X) (xs : List X) → HasNoRepeat (x ∷ xs) → HasNoRepeat xs
less x xs once j k z p q = before (once (suc j) (suc k) z p q)
  where
    before : suc j ≡ suc k → j ≡ k
    before e = omega (arith, e)

-- nor in its second part
repeats-right : (xs ys : List Name) → HasNoRepeat (xs ++ ys) → HasNoRepeat ys
repeats-right [] ys once = once
repeats-right (x ∷ xs) ys once = repeats-right xs ys (less x (xs ++ ys) once)

-- where a name stands
place-of : (x : Name) (xs : List Name) → list_any (text_eq x) xs ≡ true → (j : ℕ) × (slice_get xs j ≡ Some x)
place-of x [] h = absurd (false≢true h)
place-of x (y ∷ ys) h =
    by_cases (text_eq x y) (λ t. (0, ap Some (sym (text-same x y t)))) (λ t. let rest = place-of x ys (other-holds (text_eq x y) (list_any (text_eq x) ys) t h) in (suc rest.0, rest.1))

-- and no name of the first part stands in the second
pub twice-apart : (x : Name) (xs ys : List Name) → HasNoRepeat (xs ++ ys) → list_any (text_eq x) xs ≡ true → list_any (text_eq x) ys ≡ true → ⊥
twice-apart x [] ys once p q = false≢true p
twice-apart x (z ∷ zs) ys once p q =
    by_cases (text_eq x z)
    (λ t.
    let later = place-of x (zs ++ ys) (list_any-append (text_eq x) zs ys ∙ or-right (list_any (text_eq x) zs) (list_any (text_eq x) ys) q) in
    apart later.0 (once 0 (suc later.0) x (ap Some (sym (text-same x z t))) later.1))
    (λ t. twice-apart x zs ys (less z (zs ++ ys) once) (other-holds (text_eq x z) (list_any (text_eq x) zs) t p) q)
  where
    apart : (k : ℕ) → 0 ≡ suc k → ⊥
    apart k e = absurd (omega (arith, e))

module _ (kind : VariableKind) (c x : Name) where
  -- the class of the name, which defines the variable
  abbrev defines_it : ClassOf Name → Bool
  defines_it e = text_eq c e.name && list_any (text_eq x) (variables kind e)

  -- where the class stands among found classes, it defines its variable there
  pub defined-there : (i : ImageOf Name) → has_variable text_eq i kind c x ≡ true → (cs : List (ClassOf Name)) → AllByRecursion (IsFound i.classes) cs → is_on c cs ≡ true → list_any defines_it cs ≡ true
  defined-there i has [] found on = on
  defined-there i has (e ∷ es) found on =
      by_cases (text_eq c e.name)
      (λ t.
      let own : list_any (text_eq x) (variables kind e) ≡ true =
      sym (ap (λ o. option_map_or (λ (z : ClassOf Name). list_any (text_eq x) (variables kind z)) o false) (ap (class_named text_eq i.classes) (text-same c e.name t) ∙ found.0)) ∙ has in
      λ k. (t k && own k) || list_any defines_it es)
      (λ t. or-right (defines_it e) (list_any defines_it es) (defined-there i has es found.1 (other-holds (text_eq c e.name) (is_on c es) t on)))

  -- and it is the definer, if none is defined twice
  pub once-definer : (cs : List (ClassOf Name)) → HasNoRepeat (flat_map (variables kind) cs) → list_any defines_it cs ≡ true → OptionNames (λ (e : ClassOf Name). text_eq c e.name ≡ true) (definer text_eq kind cs x)
  once-definer [] once h = tt
  once-definer (e ∷ es) once h = by (list_any (text_eq x) (variables kind e)) refl (once-definer es (repeats-right (variables kind e) (flat_map (variables kind) es) once))
    where
      by : (b : Bool) → list_any (text_eq x) (variables kind e) ≡ b → (list_any defines_it es ≡ true → OptionNames (λ (z : ClassOf Name). text_eq c z.name ≡ true) (find (λ z. list_any (text_eq x) (variables kind z)) es)) →
          OptionNames (λ (z : ClassOf Name). text_eq c z.name ≡ true) (cond b (Some e) (find (λ z. list_any (text_eq x) (variables kind z)) es))
      by true q rest =
          by_cases (text_eq c e.name) (λ t. t)
          (λ t.
          let later : list_any defines_it es ≡ true = other-holds (defines_it e) (list_any defines_it es) (ap (λ b. b && list_any (text_eq x) (variables kind e)) t) h in
          absurd (twice-apart x (variables kind e) (flat_map (variables kind) es) once q (any-flat_map defines_it (text_eq x) (variables kind) (λ z g. and-true_right (text_eq c z.name) (list_any (text_eq x) (variables kind z)) g) es later)))
      by false q rest = rest (other-holds (defines_it e) (list_any defines_it es) (and-false_right (text_eq c e.name) (list_any (text_eq x) (variables kind e)) q) h)

module _ (i : ImageOf Name) (ordered : HasOrderedClasses i) (c y : Name) (top : list_any (defines text_eq y) (chain text_eq i.classes (Some c)) ≡ false) (under : list_any (λ e. stands_below text_eq i.classes c e && defines text_eq y e) i.classes ≡ false) where
  -- no class defines the name from a class below upwards
  free-from : (bound j : ℕ) (e : ClassOf Name) → j < bound → slice_get i.classes j ≡ Some e → is_on c (chain_from text_eq i.classes (Some e)) ≡ true → AllByRecursion (λ (d : ClassOf Name). defines text_eq y d ≡ false) (chain_from text_eq i.classes (Some e))
  free-from zero j e h at on = absurd (omega (arith, h))
  free-from (suc bound) j e h at on =
      by_cases (text_eq c e.name)
      (λ t.
      let found : class_named text_eq i.classes c ≡ Some e = ap (class_named text_eq i.classes) (text-same c e.name t) ∙ named-found i ordered i.classes ordered.distinct j e at in
      each-fails (defines text_eq y) (chain_from text_eq i.classes (Some e)) (ap (λ o. list_any (defines text_eq y) (chain_from text_eq i.classes o)) (sym found) ∙ top))
      (λ t.
      subst (AllByRecursion (λ (d : ClassOf Name). defines text_eq y d ≡ false)) (sym step) (
        own,
        above (superclass_of text_eq i.classes e) refl (other-holds (text_eq c e.name) (is_on c (chain_from text_eq i.classes (superclass_of text_eq i.classes e))) t (sym (ap (is_on c) step) ∙ on))
            (λ k d less there up. free-from bound k d (omega (arith, h, less)) there up),
      ))
    where
      step : chain_from text_eq i.classes (Some e) ≡ e ∷ chain_from text_eq i.classes (superclass_of text_eq i.classes e)
      step = chain_from-step text_eq text_eq-refl i.classes ordered.before j e at

      own : defines text_eq y e ≡ false
      own =
          sym (ap (λ b. b && defines text_eq y e) on)
          ∙ all-at (λ (d : ClassOf Name). (stands_below text_eq i.classes c d && defines text_eq y d) ≡ false) i.classes j e (each-fails (λ d. stands_below text_eq i.classes c d && defines text_eq y d) i.classes under) at

      above : (o : Option (ClassOf Name)) → superclass_of text_eq i.classes e ≡ o → is_on c (chain_from text_eq i.classes o) ≡ true →
          ((k : ℕ) (d : ClassOf Name) → k < j → slice_get i.classes k ≡ Some d → is_on c (chain_from text_eq i.classes (Some d)) ≡ true → AllByRecursion (λ (z : ClassOf Name). defines text_eq y z ≡ false) (chain_from text_eq i.classes (Some d))) →
          AllByRecursion (λ (z : ClassOf Name). defines text_eq y z ≡ false) (chain_from text_eq i.classes o)
      above None q up rest = absurd (false≢true (sym (ap (is_on c) (upwards-none (superclass_of text_eq i.classes) (length i.classes))) ∙ up))
      above (Some d) q up rest =
          let there = superclass_before text_eq text_eq-refl i.classes ordered.before j e d at q in
          rest there.0 d there.1 there.2 up

  -- so it is on each chain on which the class stands
  pub chain-free : (o : Option Name) → is_on c (chain text_eq i.classes o) ≡ true → AllByRecursion (λ (d : ClassOf Name). defines text_eq y d ≡ false) (chain text_eq i.classes o)
  chain-free None on = absurd (false≢true (sym (ap (is_on c) (upwards-none (superclass_of text_eq i.classes) (length i.classes))) ∙ on))
  chain-free (Some n) on = by (class_named text_eq i.classes n) refl on
    where
      by : (q : Option (ClassOf Name)) → class_named text_eq i.classes n ≡ q → is_on c (chain_from text_eq i.classes q) ≡ true → AllByRecursion (λ (d : ClassOf Name). defines text_eq y d ≡ false) (chain_from text_eq i.classes q)
      by None e up = absurd (false≢true (sym (ap (is_on c) (upwards-none (superclass_of text_eq i.classes) (length i.classes))) ∙ up))
      by (Some d) e up =
          let there = find-place (λ (z : ClassOf Name). text_eq n z.name) i.classes d e in
          free-from (suc there.0) there.0 d (omega arith) there.1 up
