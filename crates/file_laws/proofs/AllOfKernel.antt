-- Where all is of the kernel, all is so after each change of the kernel's own.
use Rattle.std.proofs.Common.{◌≡◌, ℕ, Bool, true, false, not, List, [], ◌∷◌, ◌++◌, map, Result, Ok, refl, subst, ◌∙◌}
use Rattle.std.specs.Prelude.{if◌then◌else◌}
use Rattle.std.specs.List.{AllByRecursion}
use Rattle.tree_model.specs.Tree.{MethodOf}
use Rattle.image_model.specs.Image.{ClassOf, EntryOf, ImageOf}
use Rattle.image_model.specs.Lookup.{is_method}
use Rattle.file_model.specs.Applied.{new_class, class_again, changed_class, with_definition, defined, with_class_side, with_comment, without_class, without_method, is_of_class, changed, entry_in, with_method, method_added}
use Rattle.file_model.specs.Causes.{Cause}
use Rattle.file_model.specs.Changes.{DefinitionOf, ChangeOf, Define, DefineAt, Comment, SetClassSide, RemoveMethod, RemoveClass, RunOf}
use Rattle.file_model.specs.Hierarchy.{has_class, settled}
use Rattle.file_model.specs.Refusals.{has_method, definition_refusals, comment_refusals, class_side_refusals, removal_refusals, class_removal_refusals, method_refusals}
use Rattle.file_laws.specs.Fronts.{class_of_kernel, method_of_kernel, IsAllOfKernel}
use Rattle.file_laws.proofs.KernelInFront.{filter_keeps, All-settled}
use Rattle.file_laws.proofs.Moves.{All-append}
use Rattle.file_laws.proofs.FrontKept.{given}

-- items are replaced
all_replaced : {X : Type 0} (is_kernel : X → Bool) (p : X → Bool) (f : X → X) → ((x : X) → is_kernel x ≡ true → is_kernel (f x) ≡ true) → (xs : List X) → AllByRecursion (λ x. is_kernel x ≡ true) xs → AllByRecursion (λ x. is_kernel x ≡ true) (map (λ x. if p x then f x else x) xs)
all_replaced is_kernel p f keeps [] all = tt
all_replaced is_kernel p f keeps (x ∷ xs) all = (by (p x), all_replaced is_kernel p f keeps xs all.1)
  where
    by : (b : Bool) → is_kernel (if b then f x else x) ≡ true
    by true = keeps x all.0
    by false = all.0

-- over names that a test tells apart
module _ {N : Type 0} (is_same : N → N → Bool) (reflexive : (n : N) → is_same n n ≡ true) (equal : (s t : N) → is_same s t ≡ true → s ≡ t) where
  all_changed : (n : N) (f : ClassOf N → ClassOf N) → ((c : ClassOf N) → (f c).kernel ≡ c.kernel) → (cs : List (ClassOf N)) → AllByRecursion (λ (c : ClassOf N). class_of_kernel c ≡ true) cs → AllByRecursion (λ (c : ClassOf N). class_of_kernel c ≡ true) (changed_class is_same n f cs)
  all_changed n f keeps cs all = all_replaced class_of_kernel (λ (c : ClassOf N). is_same n c.name) f (λ c h. keeps c ∙ h) cs all

  all_with_definition : (d : DefinitionOf N) (cs : List (ClassOf N)) → AllByRecursion (λ (c : ClassOf N). class_of_kernel c ≡ true) cs → AllByRecursion (λ (c : ClassOf N). class_of_kernel c ≡ true) (with_definition is_same true d cs)
  all_with_definition d cs all = by (has_class is_same cs d.name)
    where
      by : (b : Bool) → AllByRecursion (λ (c : ClassOf N). class_of_kernel c ≡ true) (if b then changed_class is_same d.name (class_again d) cs else cs ++ new_class true d ∷ [])
      by true = all_changed d.name (class_again d) (λ c. refl) cs all
      by false = All-append (λ (c : ClassOf N). class_of_kernel c ≡ true) cs (new_class true d ∷ []) all (refl, tt)

  all_defined : (d : DefinitionOf N) (cs : List (ClassOf N)) → AllByRecursion (λ (c : ClassOf N). class_of_kernel c ≡ true) cs → AllByRecursion (λ (c : ClassOf N). class_of_kernel c ≡ true) (defined is_same true d cs)
  all_defined d cs all = by (has_class is_same cs d.name) (all_with_definition d cs all)
    where
      by : (b : Bool) → AllByRecursion (λ (c : ClassOf N). class_of_kernel c ≡ true) (with_definition is_same true d cs) → AllByRecursion (λ (c : ClassOf N). class_of_kernel c ≡ true) (if b then settled is_same (with_definition is_same true d cs) else with_definition is_same true d cs)
      by true new = All-settled is_same reflexive equal (λ (c : ClassOf N). class_of_kernel c ≡ true) (with_definition is_same true d cs) new
      by false new = new

  all_with_method : (r : RunOf N) (source : List ℕ) (m : MethodOf N) (ms : List (EntryOf N)) → AllByRecursion (λ (e : EntryOf N). method_of_kernel e ≡ true) ms → AllByRecursion (λ (e : EntryOf N). method_of_kernel e ≡ true) (with_method is_same true r source m ms)
  all_with_method r source m ms all = by (has_method is_same ms r.class r.meta m.selector)
    where
      by : (b : Bool) → AllByRecursion (λ (e : EntryOf N). method_of_kernel e ≡ true) (if b then map (λ e. if is_method is_same r.class r.meta m.selector e then entry_in true r source m else e) ms else ms ++ entry_in true r source m ∷ [])
      by true = all_replaced method_of_kernel (is_method is_same r.class r.meta m.selector) (λ e. entry_in true r source m) (λ e h. refl) ms all
      by false = All-append (λ (e : EntryOf N). method_of_kernel e ≡ true) ms (entry_in true r source m ∷ []) all (refl, tt)

  -- a change of the kernel's own
  pub changed_all : (c : ChangeOf N) (i j : ImageOf N) → IsAllOfKernel i → ◌≡◌ {A = Result (ImageOf N) Cause} (changed is_same true c i) (Ok j) → IsAllOfKernel j
  changed_all (Define d) i j all h =
      let g = given (definition_refusals is_same i.classes d (with_definition is_same true d i.classes)) (record i { classes = defined is_same true d i.classes }) j h in
      subst IsAllOfKernel g.1 (record { classes = all_defined d i.classes all.classes; methods = all.methods })
  changed_all (DefineAt d place) i j all h =
      let g = given (definition_refusals is_same i.classes d (with_definition is_same true d i.classes)) (record i { classes = with_definition is_same true d i.classes }) j h in
      subst IsAllOfKernel g.1 (record { classes = all_with_definition d i.classes all.classes; methods = all.methods })
  changed_all (Comment n text) i j all h =
      let g = given (comment_refusals is_same i.classes n) (record i { classes = with_comment is_same n text i.classes }) j h in
      subst IsAllOfKernel g.1 (record { classes = all_changed n (λ c. record c { comment = text }) (λ c. refl) i.classes all.classes; methods = all.methods })
  changed_all (SetClassSide n names) i j all h =
      let g = given (class_side_refusals is_same i.classes n names (with_class_side is_same n names i.classes)) (record i { classes = with_class_side is_same n names i.classes }) j h in
      subst IsAllOfKernel g.1 (record { classes = all_changed n (λ c. record c { class_side = names }) (λ c. refl) i.classes all.classes; methods = all.methods })
  changed_all (RemoveMethod c meta s) i j all h =
      let g = given (removal_refusals is_same i c meta s) (without_method is_same c meta s i) j h in
      subst IsAllOfKernel g.1 (record { classes = all.classes; methods = filter_keeps (λ m. method_of_kernel m ≡ true) (λ m. not (is_method is_same c meta s m)) i.methods all.methods })
  changed_all (RemoveClass n) i j all h =
      let g = given (class_removal_refusals is_same i.classes n) (without_class is_same n i) j h in
      subst IsAllOfKernel g.1 (record {
        classes = filter_keeps (λ c. class_of_kernel c ≡ true) (λ c. not (is_same n c.name)) i.classes all.classes;
        methods = filter_keeps (λ m. method_of_kernel m ≡ true) (λ m. not (is_of_class is_same n m)) i.methods all.methods;
      })

  -- a method of a run of the kernel's own
  pub method_added_all : (r : RunOf N) (source : List ℕ) (m : MethodOf N) (i j : ImageOf N) → IsAllOfKernel i → ◌≡◌ {A = Result (ImageOf N) Cause} (method_added is_same true r source m i) (Ok j) → IsAllOfKernel j
  method_added_all r source m i j all h =
      let g = given (method_refusals is_same i.methods r m.selector) (record i { methods = with_method is_same true r source m i.methods }) j h in
      subst IsAllOfKernel g.1 (record { classes = all.classes; methods = all_with_method r source m i.methods all.methods })
