-- What is found among classes is the same in another order of them: classes by name, chains, and what stands on them.
use Rattle.std.proofs.Common.{◌≡◌, Bool, true, false, not, List, length, filter, Option, Some, sym, ap, ◌∙◌}
use Rattle.std.specs.Prelude.{◌&&◌, is_some, nat_le}
use Rattle.std.specs.List.{list_any, flat_map}
use Rattle.std.specs.Option.{option_map_or, option_and_then}
use Rattle.std.proofs.lemmas.List.Sorted.{list_any-IsPermutation, length_permutation}
use Rattle.image_model.specs.Image.{ClassOf}
use Rattle.image_model.specs.Upwards.{upwards}
use Rattle.image_model.specs.Chain.{class_named, class_of_name, chain_from, chain}
use Rattle.image_model.specs.Means.{VariableKind, variables}
use Rattle.file_model.specs.Changes.{DefinitionOf}
use Rattle.file_model.specs.Hierarchy.{has_class, is_kernel_class, stands_in, has_subclass, has_repeat, chain_variables, tree_below, stands_twice}
use Rattle.file_model.specs.Refusals.{class_limit, lacks_superclass, makes_cycle, is_one_class_too_many}
use Rattle.file_laws.specs.Orders.{AreSameClasses}
use Rattle.file_laws.proofs.OtherOrder.{filter_moved, named_same}

-- over names that a test tells apart
module _ {N : Type 0} (is_same : N → N → Bool) (reflexive : (n : N) → is_same n n ≡ true) (equal : (s t : N) → is_same s t ≡ true → s ≡ t)
    (cs ds : List (ClassOf N)) (m : AreSameClasses cs ds) where
  -- as many classes
  pub length_same : length cs ≡ length ds
  length_same = sym (length_permutation cs ds m.permutation)

  -- the class of a name, as a function
  named_by : class_named is_same cs ≡ class_named is_same ds
  named_by = λ i n. named_same is_same reflexive equal cs ds m n i

  -- whether there is a class of a name, and whether it is one of the kernel
  pub has_same : (n : N) → has_class is_same cs n ≡ has_class is_same ds n
  has_same n = ap is_some (named_same is_same reflexive equal cs ds m n)

  pub is_kernel_same : (n : N) → is_kernel_class is_same cs n ≡ is_kernel_class is_same ds n
  is_kernel_same n = ap (λ o. option_map_or (λ (c : ClassOf N). c.kernel) o false) (named_same is_same reflexive equal cs ds m n)

  -- whether a class of a name stands in the list, and whether one has a subclass
  pub stands_same : (n : N) → stands_in is_same n cs ≡ stands_in is_same n ds
  stands_same n = list_any-IsPermutation (λ (c : ClassOf N). is_same n c.name) cs ds m.permutation

  pub has_subclass_same : (n : N) → has_subclass is_same cs n ≡ has_subclass is_same ds n
  has_subclass_same n = list_any-IsPermutation (λ (c : ClassOf N). option_map_or (is_same n) c.superclass false) cs ds m.permutation

  -- the class of a name, if there is one
  pub of_name_same : (o : Option N) → class_of_name is_same cs o ≡ class_of_name is_same ds o
  of_name_same o = ap (λ (find_class : N → Option (ClassOf N)). option_and_then find_class o) named_by

  -- chains
  pub chain_from_same : (o : Option (ClassOf N)) → chain_from is_same cs o ≡ chain_from is_same ds o
  chain_from_same o = λ i. upwards (λ (c : ClassOf N). option_and_then (named_by i) c.superclass) (length_same i) o

  pub chain_same : (o : Option N) → chain is_same cs o ≡ chain is_same ds o
  chain_same o = chain_from_same (class_of_name is_same cs o) ∙ ap (chain_from is_same ds) (of_name_same o)

  -- the variables on a chain
  pub variables_same : (kind : VariableKind) (c : ClassOf N) → chain_variables is_same cs kind c ≡ chain_variables is_same ds kind c
  variables_same kind c = ap (flat_map (variables kind)) (chain_from_same (Some c))

  -- what a definition says of its superclass
  pub lacks_same : (d : DefinitionOf N) → lacks_superclass is_same cs d ≡ lacks_superclass is_same ds d
  lacks_same d = λ i. option_map_or (λ p. not (has_same p i)) d.superclass false

  pub makes_cycle_same : (d : DefinitionOf N) → makes_cycle is_same cs d ≡ makes_cycle is_same ds d
  makes_cycle_same d = ap (stands_in is_same d.name) (chain_same d.superclass)

  -- whether a class is one too many
  pub too_many_same : (n : N) → is_one_class_too_many is_same cs n ≡ is_one_class_too_many is_same ds n
  too_many_same n = λ i. not (has_same n i) && nat_le class_limit (length_same i)

  -- whether a variable stands twice on the chain of a class or of one below it
  pub stands_twice_same : (kind : VariableKind) (n : N) → stands_twice is_same cs kind n ≡ stands_twice is_same ds kind n
  stands_twice_same kind n =
      list_any-IsPermutation (λ (c : ClassOf N). has_repeat is_same (chain_variables is_same cs kind c)) (tree_below is_same cs n) (filter (λ (c : ClassOf N). stands_in is_same n (chain_from is_same cs (Some c))) ds)
      (filter_moved (λ (c : ClassOf N). stands_in is_same n (chain_from is_same cs (Some c))) cs ds m.permutation)
      ∙ (λ i. list_any (λ (c : ClassOf N). has_repeat is_same (variables_same kind c i)) (filter (λ (c : ClassOf N). stands_in is_same n (chain_from_same (Some c) i)) ds))
