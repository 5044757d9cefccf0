-- What changes make of a draft.
use Rattle.std.proofs.Common.{◌≡◌, ℕ, Bool, true, false, not, List, [], ◌∷◌, map, filter, is_some, Option, Some, None, Result, Ok, Err, IfNone, IfOk, nat_eq, refl, sym, ap, subst, ◌∙◌, true≢false}
use Rattle.std.specs.List.{AllByRecursion}
use Rattle.std.specs.Option.{option_map_or}
use Rattle.rb_base.specs.declared.memory.Memory.{Memory}
use Rattle.st_tree.specs.View.{method_of}
use Rattle.image_model.specs.Image.{ClassOf, EntryOf, ImageOf}
use Rattle.image_model.specs.Lookup.{is_method}
use Rattle.image_model.specs.Valid.{SuperclassesStandBefore, HasClass}
use Rattle.file_model.specs.Causes.{Cause, Condition, first_cause, unless}
use Rattle.file_model.specs.Changes.{ChangeOf, RunOf}
use Rattle.file_model.specs.Hierarchy.{has_class}
use Rattle.file_model.specs.Refusals.{method_refusals}
use Rattle.file_model.specs.Applied.{is_of_class, changed, with_method, method_added}
use Rattle.file_faults.specs.declared.fault.ImageCause.{ImageCause}
use Rattle.file_faults.specs.Faults.{cause_of}
use Rattle.file_numbers.proofs.Mapped.{filter-map}
use Rattle.image_draft.specs.declared.method_draft.MethodDraft.{MethodDraft}
use Rattle.image_draft.specs.declared.draft.Draft.{Draft}
use Rattle.image_draft.specs.Entries.{entry_of, run_of}
use Rattle.image_draft.specs.Early.{told}
use Rattle.image_draft.specs.Names.{NamesDiffer}
use Rattle.image_draft.specs.Drafted.{image_of, Makes, IsWhole}
use Rattle.image_draft.proofs.MethodClasses.{all_kept, all_left, all_of_filter, all_with_method}

-- the value, unless there is a cause
abbrev given : {X : Type 0} → Option Cause → X → Result X Cause
given o x = option_map_or Err o (Ok x)

-- what is told is the cause of the first condition that holds, and where none holds the value is made
pub makes : {X : Type 0} (cause : Option ImageCause) (conditions : List Condition) (x y : X) → told cause ≡ first_cause conditions → is_some cause ≡ is_some (first_cause conditions) → IfNone cause (x ≡ y)
    → Makes cause (unless conditions x) y
makes {X} None conditions x y t s e = ap (λ (o : Option Cause). given o x) (sym t) ∙ ap (λ (z : X). given None z) e
makes {X} (Some c) conditions x y t s e = by (first_cause conditions) t s
  where
    by : (o : Option Cause) → cause_of c ≡ o → true ≡ is_some o → (k : Cause) × (cause_of c ≡ Some k) × (given o x ≡ Err k)
    by None t s = absurd (true≢false s)
    by (Some k) t s = (k, t, refl)

-- the methods that are left are those that stand for what is left
pub without-method : (c : ℕ) (meta : Bool) (s : ℕ) (ms : List MethodDraft)
    → filter (λ (m : EntryOf ℕ). not (is_method nat_eq c meta s m)) (map entry_of ms) ≡ map entry_of (filter (λ (m : MethodDraft). not (is_method nat_eq c meta s (entry_of m))) ms)
without-method c meta s ms = filter-map entry_of (λ (m : MethodDraft). not (is_method nat_eq c meta s (entry_of m))) (λ (m : EntryOf ℕ). not (is_method nat_eq c meta s m)) ms (all ms)
  where
    all : (xs : List MethodDraft) → AllByRecursion (λ (m : MethodDraft). not (is_method nat_eq c meta s (entry_of m)) ≡ not (is_method nat_eq c meta s (entry_of m))) xs
    all [] = tt
    all (x ∷ xs) = (refl, all xs)

pub without-methods_of : (n : ℕ) (ms : List MethodDraft)
    → filter (λ (m : EntryOf ℕ). not (is_of_class nat_eq n m)) (map entry_of ms) ≡ map entry_of (filter (λ (m : MethodDraft). not (nat_eq n m.class)) ms)
without-methods_of n ms = filter-map entry_of (λ (m : MethodDraft). not (nat_eq n m.class)) (λ (m : EntryOf ℕ). not (is_of_class nat_eq n m)) ms (all ms)
  where
    all : (xs : List MethodDraft) → AllByRecursion (λ (m : MethodDraft). not (is_of_class nat_eq n (entry_of m)) ≡ not (nat_eq n m.class)) xs
    all [] = tt
    all (x ∷ xs) = (refl, all xs)

-- what is told is nothing, and the value is made
pub makes-none : {X : Type 0} (cause : Option ImageCause) (conditions : List Condition) (x y : X) → is_some cause ≡ false → told cause ≡ first_cause conditions → x ≡ y → unless conditions x ≡ Ok y
makes-none {X} None conditions x y h t e = ap (λ (o : Option Cause). given o x) (sym t) ∙ ap (λ (z : X). given None z) e
makes-none (Some c) conditions x y h t e = absurd (true≢false h)

pub if_none-weaker : {X P Q : Type 0} (o : Option X) → (P → Q) → IfNone o P → IfNone o Q
if_none-weaker None h p = h p
if_none-weaker (Some x) h p = tt

-- a change that is the same in the kernel and behind it
pub at_kernel : (answer : Result (Option ImageCause) Memory) (change : ChangeOf ℕ) (old new : ImageOf ℕ) → IfOk answer (λ cause. (kernel : Bool) → Makes cause (changed nat_eq kernel change old) new) → (kernel : Bool)
    → IfOk answer (λ cause. Makes cause (changed nat_eq kernel change old) new)
at_kernel (Ok cause) change old new h kernel = h kernel
at_kernel (Err e) change old new h kernel = tt

no_run : (r : RunOf ℕ) → ◌≡◌ {A = Option (RunOf ℕ)} None (Some r) → ⊥
no_run r e = cc

-- a draft stays whole where other classes take the place of its classes, and none is gone
abbrev pub Kept : List (ClassOf ℕ) → List (ClassOf ℕ) → Type 0
Kept old new = (n : ℕ) → has_class nat_eq old n ≡ true → has_class nat_eq new n ≡ true

pub whole-classes : (d : Draft) (new : List (ClassOf ℕ)) → IsWhole d → d.run ≡ None → NamesDiffer new → SuperclassesStandBefore new → Kept d.classes new → IsWhole (record d { classes = new })
whole-classes d new whole outside differ before kept = record {
  names_differ = differ;
  superclasses_before = before;
  method_classes_there = all_kept d.classes new kept (map entry_of d.methods) whole.method_classes_there;
  run_class_there = λ r e. absurd (no_run r (sym outside ∙ e));
  heads_within = whole.heads_within;
}

pub whole-after : (answer : Result (Option ImageCause) Memory) (d : Draft) (new : List (ClassOf ℕ)) → IsWhole d → d.run ≡ None → NamesDiffer new → SuperclassesStandBefore new → IfOk answer (λ cause. IfNone cause (Kept d.classes new))
    → IfOk answer (λ cause. IfNone cause (IsWhole (record d { classes = new })))
whole-after (Ok cause) d new whole outside differ before kept = if_none-weaker cause (whole-classes d new whole outside differ before) kept
whole-after (Err e) d new whole outside differ before kept = tt

-- where methods are gone
pub whole-fewer : (d : Draft) (p : MethodDraft → Bool) (ms : List MethodDraft) → IsWhole d → ms ≡ filter p d.methods → IsWhole (record d { methods = ms })
whole-fewer d p ms whole e = record {
  names_differ = whole.names_differ;
  superclasses_before = whole.superclasses_before;
  method_classes_there = subst (λ (xs : List MethodDraft). AllByRecursion (HasClass d.classes) (map entry_of xs)) (sym e) (all_of_filter (HasClass d.classes) entry_of p d.methods whole.method_classes_there);
  run_class_there = whole.run_class_there;
  heads_within = whole.heads_within;
}

-- where a class is gone with its methods
pub whole-without : (d : Draft) (name : ℕ) (new : List (ClassOf ℕ)) (ms : List MethodDraft) → IsWhole d → d.run ≡ None → NamesDiffer new → SuperclassesStandBefore new
    → ((n : ℕ) → nat_eq name n ≡ false → has_class nat_eq d.classes n ≡ true → has_class nat_eq new n ≡ true) → ms ≡ filter (λ (m : MethodDraft). not (nat_eq name m.class)) d.methods
    → IsWhole (record d { classes = new; methods = ms })
whole-without d name new ms whole outside differ before kept e = record {
  names_differ = differ;
  superclasses_before = before;
  method_classes_there = subst (λ (xs : List MethodDraft). AllByRecursion (HasClass new) (map entry_of xs)) (sym e) (all_left d.classes new name kept d.methods whole.method_classes_there);
  run_class_there = λ r h. absurd (no_run r (sym outside ∙ h));
  heads_within = whole.heads_within;
}

-- where a method is put in
module _ (answer : Result (Option ImageCause) Memory) (d : Draft) (m : MethodDraft) (ms : List MethodDraft) where
  pub made-with : IfOk answer (λ cause. told cause ≡ first_cause (method_refusals nat_eq (map entry_of d.methods) (run_of m) m.tree.selector))
      → IfOk answer (λ cause. is_some cause ≡ is_some (first_cause (method_refusals nat_eq (map entry_of d.methods) (run_of m) m.tree.selector)))
      → IfOk answer (λ cause. IfNone cause (map entry_of ms ≡ with_method nat_eq m.kernel (run_of m) m.source (method_of m.tree) (map entry_of d.methods)))
      → IfOk answer (λ cause. Makes cause (method_added nat_eq m.kernel (run_of m) m.source (method_of m.tree) (image_of d)) (image_of (record d { methods = ms; at_head = false })))
  made-with t s e = by answer t s e
    where
      by : (a : Result (Option ImageCause) Memory) → IfOk a (λ cause. told cause ≡ first_cause (method_refusals nat_eq (map entry_of d.methods) (run_of m) m.tree.selector))
          → IfOk a (λ cause. is_some cause ≡ is_some (first_cause (method_refusals nat_eq (map entry_of d.methods) (run_of m) m.tree.selector)))
          → IfOk a (λ cause. IfNone cause (map entry_of ms ≡ with_method nat_eq m.kernel (run_of m) m.source (method_of m.tree) (map entry_of d.methods)))
          → IfOk a (λ cause. Makes cause (method_added nat_eq m.kernel (run_of m) m.source (method_of m.tree) (image_of d)) (image_of (record d { methods = ms; at_head = false })))
      by (Ok cause) t s e =
          makes cause (method_refusals nat_eq (map entry_of d.methods) (run_of m) m.tree.selector) (record (image_of d) { methods = with_method nat_eq m.kernel (run_of m) m.source (method_of m.tree) (map entry_of d.methods) })
          (record (image_of d) { methods = map entry_of ms }) t s (if_none-weaker cause (λ f i. record (image_of d) { methods = sym f i }) e)
      by (Err x) t s e = tt

  pub whole-with : IsWhole d → d.run ≡ Some (run_of m) → IfOk answer (λ cause. IfNone cause (map entry_of ms ≡ with_method nat_eq m.kernel (run_of m) m.source (method_of m.tree) (map entry_of d.methods)))
      → IfOk answer (λ cause. IfNone cause (IsWhole (record d { methods = ms; at_head = false })))
  whole-with whole inside e = by answer e
    where
      its : map entry_of ms ≡ with_method nat_eq m.kernel (run_of m) m.source (method_of m.tree) (map entry_of d.methods) → IsWhole (record d { methods = ms; at_head = false })
      its f = record {
        names_differ = whole.names_differ;
        superclasses_before = whole.superclasses_before;
        method_classes_there = subst (AllByRecursion (HasClass d.classes)) (sym f) (all_with_method d.classes m.kernel (run_of m) m.source (method_of m.tree) (map entry_of d.methods) (whole.run_class_there (run_of m) inside) whole.method_classes_there);
        run_class_there = whole.run_class_there;
        heads_within = whole.heads_within;
      }

      by : (a : Result (Option ImageCause) Memory) → IfOk a (λ cause. IfNone cause (map entry_of ms ≡ with_method nat_eq m.kernel (run_of m) m.source (method_of m.tree) (map entry_of d.methods)))
          → IfOk a (λ cause. IfNone cause (IsWhole (record d { methods = ms; at_head = false })))
      by (Ok cause) f = if_none-weaker cause its f
      by (Err x) f = tt
