-- What primitives do where classes are replaced that keep their names and superclasses.
use Rattle.std.proofs.Common.{◌≡◌, ℕ, List, length, [], ◌∷◌, Option, Some, None, refl, ap, ◌∙◌}
use Rattle.std.specs.Prelude.{Bool, true, false, ◌==◌, cond, if◌then◌else◌, map, find}
use Rattle.std.specs.List.{list_any, AllByRecursion}
use Rattle.std.specs.Option.{option_map_or}
use Rattle.rb_base.specs.Names.{text_eq}
use Rattle.image_model.specs.Image.{ClassOf}
use Rattle.image_model.specs.Chain.{class_of_name, superclass_of, chain}
use Rattle.image_model.specs.ImageNames.{OptionNames}
use Rattle.image_model.specs.Replaced.{KeepsHierarchy}
use Rattle.image_model.proofs.Lists.{all-implies, any-map, find-all}
use Rattle.image_model.proofs.UpwardsLemmas.{upwards-all}
use Rattle.image_model.proofs.Kept.{chain-kept}
use Rattle.run_model.specs.Values.{Name, true_value, false_value, bad_argument}
use Rattle.run_model.specs.Calls.{Call, PrimResult, faults, argument, as_class, demands, at_once}
use Rattle.run_model.specs.ObjectPrimitives.{is_on_chain, is_kind_of, instance_class}
use Rattle.run_model.specs.Primitives.{rows, primitive}

module _ (h : ClassOf Name → ClassOf Name) (classes : List (ClassOf Name)) (keeps : AllByRecursion (KeepsHierarchy h) classes) where
  -- what is known of the class of a name
  named-keeps : (o : Option Name) → OptionNames (KeepsHierarchy h) (class_of_name text_eq classes o)
  named-keeps None = tt
  named-keeps (Some n) = find-all (KeepsHierarchy h) (λ c. text_eq n c.name) classes keeps

  -- what is known of the classes of a chain
  chain-keeps : (o : Option Name) → AllByRecursion (KeepsHierarchy h) (chain text_eq classes o)
  chain-keeps o = upwards-all (KeepsHierarchy h) (superclass_of text_eq classes) (λ c k. named-keeps c.superclass) (length classes) (class_of_name text_eq classes o) (named-keeps o)

  -- the same chain
  on_chain-kept : (d n : Name) → is_on_chain (map h classes) d n ≡ is_on_chain classes d n
  on_chain-kept d n =
      ap (λ b. if b then true_value else false_value)
      (ap (λ cs. list_any (λ (k : ClassOf Name). text_eq d k.name) cs) (chain-kept text_eq h classes keeps (Some n))
      ∙ any-map h (λ (k : ClassOf Name). text_eq d k.name) (λ (k : ClassOf Name). text_eq d k.name) (chain text_eq classes (Some n))
      (all-implies _ _ (λ k e. ap (text_eq d) e.name) (chain text_eq classes (Some n)) (chain-keeps (Some n))))

  -- what a primitive is given, with these classes
  abbrev given : Call → Call
  given c = record c { classes = classes }

  -- what it is given, with what stands for them
  abbrev given_after : Call → Call
  given_after c = record c { classes = map h classes }

  -- the primitive that looks at classes
  kind-kept : (c : Call) → is_kind_of (given_after c) ≡ is_kind_of (given c)
  kind-kept c = by (as_class (argument c 0))
    where
      by : (o : Option Name) → demands (given_after c) o (λ d. at_once (given_after c) (is_on_chain (map h classes) d (instance_class c.heap c.receiver))) ≡ demands (given c) o (λ d. at_once (given c) (is_on_chain classes d (instance_class c.heap c.receiver)))
      by (Some d) = ap (λ v. at_once c v) (on_chain-kept d (instance_class c.heap c.receiver))
      by None = refl

  -- a row that comes to the same
  abbrev IsSameRow : Call → ℕ × (Call → PrimResult) → Type 0
  IsSameRow c row = row.1 (given_after c) ≡ row.1 (given c)

  -- the row that is found
  found-kept : (c : Call) (xs : List (ℕ × (Call → PrimResult))) → AllByRecursion (IsSameRow c) xs → option_map_or (λ row. row.1 (given_after c)) (find (λ row. row.0 == c.number) xs) (faults (bad_argument c.number)) ≡ option_map_or (λ row. row.1 (given c)) (find (λ row. row.0 == c.number) xs) (faults (bad_argument c.number))
  found-kept c [] all = refl
  found-kept c (x ∷ xs) all = by (x.0 == c.number) (found-kept c xs all.1)
    where
      by : (b : Bool) → option_map_or (λ row. row.1 (given_after c)) (find (λ row. row.0 == c.number) xs) (faults (bad_argument c.number)) ≡ option_map_or (λ row. row.1 (given c)) (find (λ row. row.0 == c.number) xs) (faults (bad_argument c.number)) →
          option_map_or (λ row. row.1 (given_after c)) (cond b (Some x) (find (λ row. row.0 == c.number) xs)) (faults (bad_argument c.number)) ≡ option_map_or (λ row. row.1 (given c)) (cond b (Some x) (find (λ row. row.0 == c.number) xs)) (faults (bad_argument c.number))
      by true ih = all.0
      by false ih = ih

  -- each row comes to the same
  rows-kept : (c : Call) → AllByRecursion (IsSameRow c) rows
  rows-kept c = (
    refl,
    (
      refl,
      (
        kind-kept c,
        (
          refl,
          (
            refl,
            (
              refl,
              (
                refl,
                (
                  refl,
                  (
                    refl,
                    (
                      refl,
                      (
                        refl,
                        (
                          refl,
                          (
                            refl,
                            (
                              refl,
                              (
                                refl,
                                (
                                  refl,
                                  (
                                    refl,
                                    (
                                      refl,
                                      (
                                        refl,
                                        (
                                          refl,
                                          (
                                            refl,
                                            (
                                              refl,
                                              (
                                                refl,
                                                (
                                                  refl,
                                                  (
                                                    refl,
                                                    (refl, (refl, (refl, (refl, (refl, (refl, (refl, (refl, (refl, (refl, (refl, (refl, (refl, (refl, (refl, tt))))))))))))))),
                                                  ),
                                                ),
                                              ),
                                            ),
                                          ),
                                        ),
                                      ),
                                    ),
                                  ),
                                ),
                              ),
                            ),
                          ),
                        ),
                      ),
                    ),
                  ),
                ),
              ),
            ),
          ),
        ),
      ),
    ),
  )

  -- a primitive comes to the same
  pub primitive-kept : (c : Call) → primitive (record c { classes = map h classes }) ≡ primitive (record c { classes = classes })
  unfolding primitive
  primitive-kept c = found-kept c rows (rows-kept c)
