-- The classes after one of them has a new name.
use Rattle.std.proofs.Common.{◌≡◌, ℕ, List, [], ◌∷◌, length, Option, Some, None, refl, ap, ◌∙◌}
use Rattle.std.specs.Prelude.{Bool, false, cond, map, find, option_map}
use Rattle.std.specs.List.{AllByRecursion, list_any}
use Rattle.rb_base.specs.Names.{text_eq}
use Rattle.image_model.specs.Image.{ClassOf}
use Rattle.image_model.specs.ImageNames.{OptionNames}
use Rattle.image_model.specs.Upwards.{upwards}
use Rattle.image_model.specs.Chain.{class_named, class_of_name, superclass_of, chain_from, chain}
use Rattle.image_model.specs.Means.{VariableKind, of_instance, of_class_side, of_class, variables, definer}
use Rattle.image_model.proofs.Lists.{all-implies, length-map, find-map, find-all}
use Rattle.image_model.proofs.UpwardsLemmas.{upwards-all, upwards-map}
use Rattle.run_model.specs.Values.{Name}
use Rattle.resolved_model.proofs.LookupLemmas.{everywhere}
use Rattle.rename_laws.proofs.NewNames.{new, Other, same-after}

-- nothing is found where nothing passes
pub find-nothing : {X : Type 0} (p : X → Bool) (xs : List X) → AllByRecursion (λ x. p x ≡ false) xs → find p xs ≡ None
find-nothing p [] a = refl
find-nothing p (x ∷ xs) a = ap (λ b. cond b (Some x) (find p xs)) a.0 ∙ find-nothing p xs a.1

module _ (c d : Name) where
  -- a class, with its new name and that of its superclass
  abbrev pub after : ClassOf Name → ClassOf Name
  after e = record e { name = new c d e.name; superclass = option_map (new c d) e.superclass }

  -- neither a class nor its superclass nor a variable of it has the new name
  pub record IsOther (e : ClassOf Name) : Type 0 where
    pub name : Other c d e.name
    pub superclass : OptionNames (Other c d) e.superclass
    pub lacks : (kind : VariableKind) → list_any (text_eq d) (variables kind e) ≡ false

  -- a class keeps its variables
  variables-after : (kind : VariableKind) (e : ClassOf Name) → variables kind (after e) ≡ variables kind e
  variables-after of_instance e = refl
  variables-after of_class_side e = refl
  variables-after of_class e = refl

  -- so the same class defines them
  pub definer-after : (kind : VariableKind) (cs : List (ClassOf Name)) (n : Name) → definer text_eq kind (map after cs) n ≡ option_map after (definer text_eq kind cs n)
  definer-after kind cs n =
      find-map after (λ e. list_any (text_eq n) (variables kind e)) (λ e. list_any (text_eq n) (variables kind e)) cs (everywhere _ (λ e. ap (list_any (text_eq n)) (variables-after kind e)) cs)

  -- no class defines the new name
  pub definer-new : (kind : VariableKind) (cs : List (ClassOf Name)) → AllByRecursion IsOther cs → definer text_eq kind cs d ≡ None
  definer-new kind cs a = find-nothing (λ e. list_any (text_eq d) (variables kind e)) cs (all-implies IsOther _ (λ e k. k.lacks kind) cs a)

  module _ (classes : List (ClassOf Name)) (others : AllByRecursion IsOther classes) where
    -- the class of a name
    pub named-after : (n : Name) → Other c d n → class_named text_eq (map after classes) (new c d n) ≡ option_map after (class_named text_eq classes n)
    named-after n o =
        find-map after (λ e. text_eq n e.name) (λ e. text_eq (new c d n) e.name) classes (all-implies IsOther _ (λ e k. same-after c d n e.name o k.name) classes others)

    -- the class of a name that there may be
    of_name-after : (o : Option Name) → OptionNames (Other c d) o → class_of_name text_eq (map after classes) (option_map (new c d) o) ≡ option_map after (class_of_name text_eq classes o)
    of_name-after None k = refl
    of_name-after (Some n) k = named-after n k

    found-other : (o : Option Name) → OptionNames IsOther (class_of_name text_eq classes o)
    found-other None = tt
    found-other (Some n) = find-all IsOther (λ e. text_eq n e.name) classes others

    -- the chain of a class
    pub chain-after : (o : Option Name) → OptionNames (Other c d) o → chain text_eq (map after classes) (option_map (new c d) o) ≡ map after (chain text_eq classes o)
    chain-after o k =
        ap (chain_from text_eq (map after classes)) (of_name-after o k)
        ∙ ap (λ (n : ℕ). upwards (superclass_of text_eq (map after classes)) n (option_map after (class_of_name text_eq classes o))) (length-map after classes)
        ∙ upwards-map after (superclass_of text_eq classes) (superclass_of text_eq (map after classes)) IsOther (λ e a. found-other e.superclass) (λ e a. of_name-after e.superclass a.superclass) (length classes) (class_of_name text_eq classes o) (found-other o)

    -- and what is known of the classes there
    pub chain-other : (o : Option Name) → AllByRecursion IsOther (chain text_eq classes o)
    chain-other o = upwards-all IsOther (superclass_of text_eq classes) (λ e a. found-other e.superclass) (length classes) (class_of_name text_eq classes o) (found-other o)
