-- How classes are put in order where one of them gets a superclass that stands behind it.
use Rattle.std.specs.Prelude.{◌≡◌, List, [], ◌∷◌, ◌++◌, filter, Bool, false, not, ◌||◌, if◌then◌else◌, IsTrue, Option, None, Some}
use Rattle.std.specs.List.{AllByRecursion}
use Rattle.std.specs.Option.{option_map_or}
use Rattle.image_model.specs.Image.{ClassOf}
use Rattle.image_model.specs.Valid.{HasNoRepeat, class_names, SuperclassesStandBefore}
use Rattle.file_model.specs.Hierarchy.{stands_in, can_follow}

-- each of the classes can be taken behind those that are taken and those before it
abbrev pub IsTakenInTurn : {N : Type 0} → (N → N → Bool) → List (ClassOf N) → List (ClassOf N) → Type 0
IsTakenInTurn same taken [] = Unit {0}
IsTakenInTurn same taken (c ∷ cs) = IsTrue (can_follow same taken c) × IsTakenInTurn same (taken ++ c ∷ []) cs

-- a class can not be taken behind these
abbrev pub IsHeld : {N : Type 0} → (N → N → Bool) → List (ClassOf N) → ClassOf N → Type 0
IsHeld same taken c = can_follow same taken c ≡ false

-- the classes that move, and those that stay
abbrev pub moving : {N : Type 0} → (ClassOf N → Bool) → List (ClassOf N) → List (ClassOf N)
moving moves classes = filter moves classes

abbrev pub staying : {N : Type 0} → (ClassOf N → Bool) → List (ClassOf N) → List (ClassOf N)
staying moves classes = filter (λ c. not (moves c)) classes

-- A class stands before the one that it waits for. Between them stand classes that move with it, since they can not be taken before it, and others, which stay; behind both everything is in order.
pub record WaitsFor {N : Type 0} (same : N → N → Bool) (moves : ClassOf N → Bool) (front : List (ClassOf N)) (c : ClassOf N) (middle : List (ClassOf N)) (above : ClassOf N) (back : List (ClassOf N)) : Type 0 where
  pub front_in_turn : IsTakenInTurn same [] front
  pub stay_in_turn : IsTakenInTurn same front (staying moves middle)
  pub waits : IsHeld same (front ++ staying moves middle) c
  pub wait_too : AllByRecursion (IsHeld same (front ++ staying moves middle)) (moving moves middle)
  pub above_follows : IsTrue (can_follow same (front ++ staying moves middle) above)
  pub then_in_turn : IsTakenInTurn same ((front ++ staying moves middle) ++ above ∷ []) (c ∷ (moving moves middle ++ back))

-- no two classes have one name, and each superclass stands before its subclasses
pub record AreInOrder {N : Type 0} (classes : List (ClassOf N)) : Type 0 where
  pub distinct : HasNoRepeat (class_names classes)
  pub before : SuperclassesStandBefore classes

-- whether a class stands before another, by their names
abbrev pub comes_first : {N : Type 0} → (N → N → Bool) → N → N → List (ClassOf N) → Bool
comes_first same p n [] = false
comes_first same p n (c ∷ cs) = if same n c.name then false else same p c.name || comes_first same p n cs

-- whether a class waits: it is the one of a name, or its superclass is one of those that wait
abbrev pub waits : {N : Type 0} → (N → N → Bool) → N → List (ClassOf N) → ClassOf N → Bool
waits same n waiting c = same n c.name || option_map_or (λ s. stands_in same s waiting) c.superclass false

-- the classes in one pass: those that wait go behind the one of another name
abbrev pub passed : {N : Type 0} → (N → N → Bool) → N → N → List (ClassOf N) → List (ClassOf N) → List (ClassOf N)
passed same n p waiting [] = waiting
passed same n p waiting (c ∷ cs) =
    if waits same n waiting c
    then passed same n p (waiting ++ c ∷ []) cs
    else c ∷ (if same p c.name then waiting ++ passed same n p [] cs else passed same n p waiting cs)

-- the classes once the one of a name is defined again with a superclass or without one: where the superclass stands before, nothing moves
abbrev pub put_behind : {N : Type 0} → (N → N → Bool) → N → Option N → List (ClassOf N) → List (ClassOf N)
put_behind same n None classes = classes
put_behind same n (Some p) classes = if comes_first same p n classes then classes else passed same n p [] classes
