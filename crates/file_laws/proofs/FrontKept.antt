-- Where what is of the kernel stands in front, it stands there after each change of a user.
use Rattle.std.proofs.Common.{◌≡◌, ℕ, Bool, true, false, not, cond, List, [], ◌∷◌, ◌++◌, map, filter, find, Option, Some, None, Result, Ok, Err, refl, sym, ap, subst, ◌∙◌, append_assoc, true≢false}
use Rattle.std.specs.Prelude.{◌||◌, if◌then◌else◌}
use Rattle.std.specs.List.{AllByRecursion}
use Rattle.std.specs.Option.{option_map_or}
use Rattle.std.proofs.lemmas.List.{map-append}
use Rattle.tree_model.specs.Tree.{MethodOf}
use Rattle.image_model.specs.Image.{ClassOf, EntryOf, ImageOf}
use Rattle.image_model.specs.Lookup.{is_method}
use Rattle.image_model.specs.Means.{of_instance, of_class_side}
use Rattle.image_model.specs.Valid.{SuperclassesStandBefore}
use Rattle.file_model.specs.Applied.{new_class, class_again, changed_class, with_definition, defined, with_class_side, with_comment, without_class, without_method, is_of_class, changed, entry_in, with_method, method_added}
use Rattle.file_model.specs.Causes.{Cause, Condition, first_cause, unless, when, UnknownSuperclass, Cycle, VariableTwice, KernelReplaced, TooMany}
use Rattle.file_model.specs.Changes.{DefinitionOf, ChangeOf, Define, DefineAt, Comment, SetClassSide, RemoveMethod, RemoveClass, RunOf}
use Rattle.file_model.specs.Hierarchy.{has_class, is_kernel_class, has_repeat, stands_twice, settled}
use Rattle.file_model.specs.Refusals.{has_method, is_kernel_method, lacks_superclass, makes_cycle, is_one_class_too_many, is_one_method_too_many, definition_refusals, comment_refusals, class_side_refusals, removal_refusals, class_removal_refusals, method_refusals}
use Rattle.file_laws.specs.Fronts.{class_of_kernel, method_of_kernel, IsKernelInFront, HasKernelInFront, IsAllOfKernel}
use Rattle.file_laws.specs.Settling.{IsTakenInTurn}
use Rattle.file_laws.proofs.Refused.{first_none}
use Rattle.file_laws.proofs.Settled.{turn_of}
use Rattle.file_laws.proofs.Moves.{All-append, turn_front}
use Rattle.file_laws.proofs.KernelInFront.{front_is, front_all, front_end, front_filter, front_map, front_settled}

-- In a list in which those of the kernel stand in front, others are replaced: those of the kernel are the same and stand in front.
pub record IsFrontKept {X : Type 0} (is_kernel : X → Bool) (xs ys : List X) : Type 0 where
  pub in_front : IsKernelInFront is_kernel ys
  pub same : filter is_kernel ys ≡ filter is_kernel xs

-- what is given under conditions is given where none holds
pub given : {X : Type 0} (rs : List Condition) (x y : X) → ◌≡◌ {A = Result X Cause} (unless rs x) (Ok y) → (first_cause rs ≡ None) × (x ≡ y)
given {X} rs x y h = by (first_cause rs) refl h
  where
    by : (o : Option Cause) → first_cause rs ≡ o → ◌≡◌ {A = Result X Cause} (option_map_or Err o (Ok x)) (Ok y) → (first_cause rs ≡ None) × (x ≡ y)
    by None e k = (e, (let same : x ≡ y = cc in same))
    by (Some cause) e k = absurd (differ k)
      where
        differ : ◌≡◌ {A = Result X Cause} (Err cause) (Ok y) → ⊥
        differ q = cc

-- where a definition is not refused, it is of no class of the kernel
defines_user : {N : Type 0} (same : N → N → Bool) (cs : List (ClassOf N)) (d : DefinitionOf N) (new : List (ClassOf N)) → first_cause (definition_refusals same cs d new) ≡ None → is_kernel_class same cs d.name ≡ false
defines_user same cs d new none =
    (first_none (when (is_kernel_class same cs d.name) KernelReplaced)
    (when (lacks_superclass same cs d) UnknownSuperclass
    ∷ when (makes_cycle same cs d) Cycle
    ∷ when (stands_twice same new of_instance d.name || (stands_twice same new of_class_side d.name || has_repeat same d.shared)) VariableTwice
    ∷ when (is_one_class_too_many same cs d.name) TooMany ∷ []) none).0

-- where a method is not refused, it is none of the kernel
adds_user : {N : Type 0} (same : N → N → Bool) (ms : List (EntryOf N)) (r : RunOf N) (s : N) → first_cause (method_refusals same ms r s) ≡ None → is_kernel_method same ms r.class r.meta s ≡ false
adds_user same ms r s none = (first_none (when (is_kernel_method same ms r.class r.meta s) KernelReplaced) (when (is_one_method_too_many same ms r.class r.meta s) TooMany ∷ []) none).0

module _ {X : Type 0} (is_kernel : X → Bool) where
  -- where the first item that passes is none of the kernel, no item in front passes
  none_in_front : (p : X → Bool) (front back : List X) → AllByRecursion (λ x. is_kernel x ≡ true) front → option_map_or is_kernel (find p (front ++ back)) false ≡ false → AllByRecursion (λ x. p x ≡ false) front
  none_in_front p [] back mine h = tt
  none_in_front p (x ∷ xs) back mine h = by (p x) refl h (none_in_front p xs back mine.1)
    where
      by : (b : Bool) → p x ≡ b → option_map_or is_kernel (cond b (Some x) (find p (xs ++ back))) false ≡ false → (option_map_or is_kernel (find p (xs ++ back)) false ≡ false → AllByRecursion (λ y. p y ≡ false) xs) → (p x ≡ false) × AllByRecursion (λ y. p y ≡ false) xs
      by true e k rest = absurd (true≢false (sym mine.0 ∙ k))
      by false e k rest = (e, rest k)

  -- items that do not pass are not replaced
  none_replaced : (p : X → Bool) (f : X → X) (xs : List X) → AllByRecursion (λ x. p x ≡ false) xs → map (λ x. if p x then f x else x) xs ≡ xs
  none_replaced p f [] all = refl
  none_replaced p f (x ∷ xs) all = ap (λ (b : Bool). (if b then f x else x) ∷ map (λ y. if p y then f y else y) xs) all.0 ∙ ap (λ ys. x ∷ ys) (none_replaced p f xs all.1)

  -- items of a user are replaced by items of a user
  user_replaced : (p : X → Bool) (f : X → X) → ((x : X) → is_kernel x ≡ false → is_kernel (f x) ≡ false) → (xs : List X) → AllByRecursion (λ x. is_kernel x ≡ false) xs → AllByRecursion (λ x. is_kernel x ≡ false) (map (λ x. if p x then f x else x) xs)
  user_replaced p f user [] all = tt
  user_replaced p f user (x ∷ xs) all = (by (p x), user_replaced p f user xs all.1)
    where
      by : (b : Bool) → is_kernel (if b then f x else x) ≡ false
      by true = user x all.0
      by false = all.0

  -- a list with the same items in front, and others of a user behind them
  front_again : (xs ys back : List X) (k : IsKernelInFront is_kernel xs) → ys ≡ k.front ++ back → AllByRecursion (λ x. is_kernel x ≡ false) back → IsFrontKept is_kernel xs ys
  front_again xs ys back k whole user = record {
    in_front = record { front = k.front; back = back; whole = whole; of_kernel = k.of_kernel; of_user = user };
    same = front_is is_kernel ys (record { front = k.front; back = back; whole = whole; of_kernel = k.of_kernel; of_user = user }) ∙ sym (front_is is_kernel xs k);
  }

  -- items are replaced of which the first is none of the kernel
  pub replaced_front : (p : X → Bool) (f : X → X) → ((x : X) → is_kernel x ≡ false → is_kernel (f x) ≡ false) → (xs : List X) → IsKernelInFront is_kernel xs → option_map_or is_kernel (find p xs) false ≡ false
      → IsFrontKept is_kernel xs (map (λ x. if p x then f x else x) xs)
  replaced_front p f user xs k h =
      front_again xs (map (λ x. if p x then f x else x) xs) (map (λ x. if p x then f x else x) k.back) k
      (ap (map (λ (x : X). if p x then f x else x)) k.whole
      ∙ map-append (λ (x : X). if p x then f x else x) k.front k.back
      ∙ ap (λ (ys : List X). ys ++ map (λ x. if p x then f x else x) k.back)
      (none_replaced p f k.front (none_in_front p k.front k.back k.of_kernel (sym (ap (λ (ys : List X). option_map_or is_kernel (find p ys) false) k.whole) ∙ h))))
      (user_replaced p f user k.back k.of_user)

  -- one more item of a user
  pub more_front : (xs : List X) (y : X) → IsKernelInFront is_kernel xs → is_kernel y ≡ false → IsFrontKept is_kernel xs (xs ++ y ∷ [])
  more_front xs y k user =
      front_again xs (xs ++ y ∷ []) (k.back ++ y ∷ []) k (ap (λ (ys : List X). ys ++ y ∷ []) k.whole ∙ append_assoc k.front k.back (y ∷ [])) (All-append (λ x. is_kernel x ≡ false) k.back (y ∷ []) k.of_user (user, tt))

-- over names that a test tells apart
module _ {N : Type 0} (is_same : N → N → Bool) (reflexive : (n : N) → is_same n n ≡ true) (equal : (s t : N) → is_same s t ≡ true → s ≡ t) where
  -- a definition of a user
  pub with_definition_front : (d : DefinitionOf N) (cs : List (ClassOf N)) → IsKernelInFront class_of_kernel cs → is_kernel_class is_same cs d.name ≡ false → IsFrontKept class_of_kernel cs (with_definition is_same false d cs)
  with_definition_front d cs k user = by (has_class is_same cs d.name)
    where
      by : (b : Bool) → IsFrontKept class_of_kernel cs (if b then changed_class is_same d.name (class_again d) cs else cs ++ new_class false d ∷ [])
      by true = replaced_front class_of_kernel (λ (c : ClassOf N). is_same d.name c.name) (class_again d) (λ c h. h) cs k user
      by false = more_front class_of_kernel cs (new_class false d) k refl

  -- and the classes with it in order
  pub defined_front : (d : DefinitionOf N) (cs : List (ClassOf N)) → SuperclassesStandBefore cs → IsKernelInFront class_of_kernel cs → is_kernel_class is_same cs d.name ≡ false → IsKernelInFront class_of_kernel (defined is_same false d cs)
  defined_front d cs before k user = by (has_class is_same cs d.name)
    where
      new : IsFrontKept class_of_kernel cs (with_definition is_same false d cs)
      new = with_definition_front d cs k user

      turn : IsTakenInTurn is_same [] (filter class_of_kernel (with_definition is_same false d cs))
      turn =
          subst (IsTakenInTurn is_same []) (sym (new.same ∙ front_is class_of_kernel cs k))
          (turn_front is_same reflexive equal [] k.front k.back (subst (IsTakenInTurn is_same []) k.whole (turn_of is_same reflexive equal [] cs before)))

      by : (b : Bool) → IsKernelInFront class_of_kernel (if b then settled is_same (with_definition is_same false d cs) else with_definition is_same false d cs)
      by true = front_settled is_same reflexive equal class_of_kernel (with_definition is_same false d cs) new.in_front turn
      by false = new.in_front

  -- a class is changed
  pub changed_class_front : (n : N) (f : ClassOf N → ClassOf N) → ((c : ClassOf N) → (f c).kernel ≡ c.kernel) → (cs : List (ClassOf N)) → IsKernelInFront class_of_kernel cs → IsKernelInFront class_of_kernel (changed_class is_same n f cs)
  changed_class_front n f keeps cs k = front_map class_of_kernel (λ (c : ClassOf N). if is_same n c.name then f c else c) (λ c. by c (is_same n c.name)) cs k
    where
      by : (c : ClassOf N) (b : Bool) → (if b then f c else c).kernel ≡ c.kernel
      by c true = keeps c
      by c false = refl

  -- a method of a user's run
  pub with_method_front : (r : RunOf N) (source : List ℕ) (m : MethodOf N) (ms : List (EntryOf N)) → IsKernelInFront method_of_kernel ms → is_kernel_method is_same ms r.class r.meta m.selector ≡ false → IsKernelInFront method_of_kernel (with_method is_same false r source m ms)
  with_method_front r source m ms k user = by (has_method is_same ms r.class r.meta m.selector)
    where
      by : (b : Bool) → IsKernelInFront method_of_kernel (if b then map (λ e. if is_method is_same r.class r.meta m.selector e then entry_in false r source m else e) ms else ms ++ entry_in false r source m ∷ [])
      by true = (replaced_front method_of_kernel (is_method is_same r.class r.meta m.selector) (λ e. entry_in false r source m) (λ e h. refl) ms k user).in_front
      by false = front_end method_of_kernel ms (entry_in false r source m) refl k

  -- a change of a user
  pub changed_front : (c : ChangeOf N) (i j : ImageOf N) → SuperclassesStandBefore i.classes → HasKernelInFront i → ◌≡◌ {A = Result (ImageOf N) Cause} (changed is_same false c i) (Ok j) → HasKernelInFront j
  changed_front (Define d) i j before k h =
      let new = with_definition is_same false d i.classes in
      let g = given (definition_refusals is_same i.classes d new) (record i { classes = defined is_same false d i.classes }) j h in
      subst HasKernelInFront g.1 (record { classes = defined_front d i.classes before k.classes (defines_user is_same i.classes d new g.0); methods = k.methods })
  changed_front (DefineAt d place) i j before k h =
      let new = with_definition is_same false d i.classes in
      let g = given (definition_refusals is_same i.classes d new) (record i { classes = new }) j h in
      subst HasKernelInFront g.1 (record { classes = (with_definition_front d i.classes k.classes (defines_user is_same i.classes d new g.0)).in_front; methods = k.methods })
  changed_front (Comment n text) i j before k h =
      let g = given (comment_refusals is_same i.classes n) (record i { classes = with_comment is_same n text i.classes }) j h in
      subst HasKernelInFront g.1 (record { classes = changed_class_front n (λ c. record c { comment = text }) (λ c. refl) i.classes k.classes; methods = k.methods })
  changed_front (SetClassSide n names) i j before k h =
      let g = given (class_side_refusals is_same i.classes n names (with_class_side is_same n names i.classes)) (record i { classes = with_class_side is_same n names i.classes }) j h in
      subst HasKernelInFront g.1 (record { classes = changed_class_front n (λ c. record c { class_side = names }) (λ c. refl) i.classes k.classes; methods = k.methods })
  changed_front (RemoveMethod c meta s) i j before k h =
      let g = given (removal_refusals is_same i c meta s) (without_method is_same c meta s i) j h in
      subst HasKernelInFront g.1 (record { classes = k.classes; methods = front_filter method_of_kernel (λ m. not (is_method is_same c meta s m)) i.methods k.methods })
  changed_front (RemoveClass n) i j before k h =
      let g = given (class_removal_refusals is_same i.classes n) (without_class is_same n i) j h in
      subst HasKernelInFront g.1 (record {
        classes = front_filter class_of_kernel (λ c. not (is_same n c.name)) i.classes k.classes;
        methods = front_filter method_of_kernel (λ m. not (is_of_class is_same n m)) i.methods k.methods;
      })

  -- a method of a user's run
  pub method_added_front : (r : RunOf N) (source : List ℕ) (m : MethodOf N) (i j : ImageOf N) → HasKernelInFront i → ◌≡◌ {A = Result (ImageOf N) Cause} (method_added is_same false r source m i) (Ok j) → HasKernelInFront j
  method_added_front r source m i j k h =
      let g = given (method_refusals is_same i.methods r m.selector) (record i { methods = with_method is_same false r source m i.methods }) j h in
      subst HasKernelInFront g.1 (record { classes = k.classes; methods = with_method_front r source m i.methods k.methods (adds_user is_same i.methods r m.selector g.0) })

-- an image of which all is of the kernel
pub all_in_front : {N : Type 0} (i : ImageOf N) → IsAllOfKernel i → HasKernelInFront i
all_in_front i all = record { classes = front_all class_of_kernel i.classes all.classes; methods = front_all method_of_kernel i.methods all.methods }
