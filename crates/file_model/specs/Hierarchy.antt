-- Which classes stand above and below a class, and the order of classes.
use Rattle.std.specs.Prelude.{ℕ, zero, suc, List, [], ◌∷◌, ◌++◌, length, filter, find, Bool, true, false, ◌||◌, if◌then◌else◌, is_some, Some}
use Rattle.std.specs.List.{list_any, flat_map}
use Rattle.std.specs.Option.{option_map_or}
use Rattle.image_model.specs.Image.{ClassOf}
use Rattle.image_model.specs.Chain.{class_named, chain_from}
use Rattle.image_model.specs.Means.{VariableKind, variables}

-- whether there is a class of a name
abbrev pub has_class : {N : Type 0} → (N → N → Bool) → List (ClassOf N) → N → Bool
has_class same classes n = is_some (class_named same classes n)

-- whether the class of a name is one of the kernel
abbrev pub is_kernel_class : {N : Type 0} → (N → N → Bool) → List (ClassOf N) → N → Bool
is_kernel_class same classes n = option_map_or (λ (c : ClassOf _). c.kernel) (class_named same classes n) false

-- whether a class of a name is one of these
abbrev pub stands_in : {N : Type 0} → (N → N → Bool) → N → List (ClassOf N) → Bool
stands_in same n classes = list_any (λ (c : ClassOf _). same n c.name) classes

-- whether a class is the superclass of another
abbrev pub has_subclass : {N : Type 0} → (N → N → Bool) → List (ClassOf N) → N → Bool
has_subclass same classes n = list_any (λ (c : ClassOf _). option_map_or (same n) c.superclass false) classes

-- whether something stands twice in a list
abbrev pub has_repeat : {N : Type 0} → (N → N → Bool) → List N → Bool
has_repeat same [] = false
has_repeat same (x ∷ xs) = list_any (same x) xs || has_repeat same xs

-- the variables of a kind on the chain of a class, its own first
abbrev pub chain_variables : {N : Type 0} → (N → N → Bool) → List (ClassOf N) → VariableKind → ClassOf N → List N
chain_variables same classes kind c = flat_map (variables kind) (chain_from same classes (Some c))

-- the class of a name and the classes below it, in their order
abbrev pub tree_below : {N : Type 0} → (N → N → Bool) → List (ClassOf N) → N → List (ClassOf N)
tree_below same classes n = filter (λ (c : ClassOf _). stands_in same n (chain_from same classes (Some c))) classes

-- whether a variable of a kind stands twice on the chain of a class or of one below it
abbrev pub stands_twice : {N : Type 0} → (N → N → Bool) → List (ClassOf N) → VariableKind → N → Bool
stands_twice same classes kind n =
    list_any (λ (c : ClassOf _). has_repeat same (chain_variables same classes kind c)) (tree_below same classes n)

-- whether a class can be taken behind these: its superclass is one of them, or it has none
abbrev pub can_follow : {N : Type 0} → (N → N → Bool) → List (ClassOf N) → ClassOf N → Bool
can_follow same taken c = option_map_or (λ n. stands_in same n taken) c.superclass true

-- the list without the first item that passes
abbrev pub without_first : {X : Type 0} → (X → Bool) → List X → List X
without_first p [] = []
without_first p (x ∷ xs) = if p x then xs else x ∷ without_first p xs

-- at most k times the first class that can be taken is taken out of those that are left
abbrev pub settle_behind : {N : Type 0} → (N → N → Bool) → ℕ → List (ClassOf N) → List (ClassOf N) → List (ClassOf N)
settle_behind same zero taken left = taken
settle_behind same (suc k) taken left =
    option_map_or (λ c. settle_behind same k (taken ++ c ∷ []) (without_first (can_follow same taken) left))
    (find (can_follow same taken) left) taken

-- the classes in order: again and again the first one whose superclass is taken is taken
abbrev pub settled : {N : Type 0} → (N → N → Bool) → List (ClassOf N) → List (ClassOf N)
settled same classes = settle_behind same (length classes) [] classes
