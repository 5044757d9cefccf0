-- What is answered where a change is made of a draft whose order is noted.
use Rattle.std.proofs.Common.{◌≡◌, ℕ, Bool, true, false, List, [], ◌∷◌, ◌++◌, filter, not, is_some, Option, Some, None, Result, Ok, Err, IfNone, IfSome, IfOk, OnOk, nat_eq, sym, ap, subst, ◌∙◌, true≢false}
use Rattle.std.specs.Prelude.{if◌then◌else◌}
use Rattle.std.proofs.lemmas.Result.{IfOk-weaker}
use Rattle.rb_base.specs.declared.memory.Memory.{Memory}
use Rattle.tree_model.specs.Tree.{MethodOf}
use Rattle.image_model.specs.Image.{ImageOf}
use Rattle.file_model.specs.Causes.{Cause, unless}
use Rattle.file_model.specs.Changes.{ChangeOf, RunOf, DefinitionOf, Define, DefineAt, RemoveClass}
use Rattle.file_model.specs.Hierarchy.{has_class, settled}
use Rattle.file_model.specs.Refusals.{definition_refusals, method_refusals, run_refusals}
use Rattle.file_model.specs.Applied.{changed, with_definition, with_method, method_added}
use Rattle.file_faults.specs.declared.fault.ImageCause.{ImageCause}
use Rattle.file_laws.specs.Orders.{with_classes}
use Rattle.file_laws.proofs.OtherOrderRefusals.{run_refusals_same}
use Rattle.image_draft.specs.declared.draft.Draft.{Draft}
use Rattle.image_draft.specs.Drafted as drafted
use Rattle.image_draft.specs.Drafted.{Makes}
use Rattle.placed_draft.specs.declared.placed_draft.PlacedDraft.{PlacedDraft}
use Rattle.placed_draft.specs.Placed.{ordered, image_of, IsOrder, NamesEach, LeavesOrder, IsWhole}
use Rattle.placed_draft.proofs.Numbers.{nat_itself, nat_equal}
use Rattle.placed_draft.proofs.OrderKept.{noted_same}
use Rattle.placed_draft.proofs.Made.{arranged, made_then, kept_made, kept_each, removed_made, removed_each, stated_made, defined_each}
use Rattle.placed_draft.proofs.Moved.{whole_once}

-- a run is refused alike in each order
pub runs_alike : (p : PlacedDraft) → IsWhole p → (r : RunOf ℕ) → run_refusals nat_eq (image_of p).classes r ≡ run_refusals nat_eq p.draft.classes r
runs_alike p whole r =
    run_refusals_same nat_eq nat_itself nat_equal (ordered p.order p.draft.classes) p.draft.classes (noted_same p.order p.draft.classes (whole_once p.draft whole.draft) whole.order) r

-- two facts where there is no cause give a third one
both_none : {X A B C : Type 0} (o : Option X) → (A → B → C) → IfNone o A → IfNone o B → IfNone o C
both_none None f a b = f a b
both_none (Some x) f a b = tt

-- a fact where there is no error
pub on_ok_weaker : {X E P Q : Type 0} (r : Result X E) → (P → Q) → OnOk r P → OnOk r Q
on_ok_weaker (Ok x) f p = f p
on_ok_weaker (Err e) f p = tt

-- a fact where there is no cause
pub where_none : {X A : Type 0} (o : Option X) → is_some o ≡ false → IfNone o A → A
where_none None h a = a
where_none (Some x) h a = absurd (true≢false h)

-- of a refusal nothing is said of what is made
pub makes_refused : {X : Type 0} (o : Option ImageCause) (r : Result X Cause) (x y : X) → is_some o ≡ true → Makes o r x → Makes o r y
makes_refused None r x y h made = absurd (true≢false (sym h))
makes_refused (Some c) r x y h made = made

-- where there is no cause the value is made
pub makes_none : {X : Type 0} (o : Option ImageCause) (r : Result X Cause) (x : X) → is_some o ≡ false → Makes o r x → r ≡ Ok x
makes_none None r x h made = made
makes_none (Some c) r x h made = absurd (true≢false h)

-- where no order is noted
pub image_unordered : (p : PlacedDraft) → p.order ≡ None → image_of p ≡ drafted.image_of p.draft
image_unordered p e = ap (λ (o : Option (List ℕ)). with_classes (ordered o p.draft.classes) (drafted.image_of p.draft)) e

pub whole_unordered : (p : PlacedDraft) (d : Draft) → p.draft ≡ d → p.order ≡ None → drafted.IsWhole d → IsWhole p
whole_unordered p d is none whole = record {
  draft = subst drafted.IsWhole (sym is) whole;
  order = subst (λ (o : Option (List ℕ)). IsOrder o p.draft.classes) (sym none) tt;
}

-- a draft is whole where its draft is, and the order has each class
pub whole_after : (answer : Result (Option ImageCause) Memory) (p : PlacedDraft) → IfOk answer (λ cause. IfNone cause (drafted.IsWhole p.draft)) → IfOk answer (λ cause. IfNone cause (IsOrder p.order p.draft.classes))
    → IfOk answer (λ cause. IfNone cause (IsWhole p))
whole_after (Ok cause) p a b = both_none cause (λ x y. record { draft = x; order = y }) a b
whole_after (Err e) p a b = tt

-- what a call answers of a draft and of the draft after it
module _ (answer : Result (Option ImageCause) Memory) (kernel : Bool) (d e : Draft) (names : List ℕ) (whole : drafted.IsWhole d) (each : NamesEach names d.classes) (o : Option (List ℕ)) where
  abbrev i : ImageOf ℕ
  i = drafted.image_of d

  abbrev j : ImageOf ℕ
  j = drafted.image_of e

  pub kept_answer : (c : ChangeOf ℕ) → LeavesOrder c → o ≡ Some names → IfOk answer (λ cause. Makes cause (changed nat_eq kernel c i) j) → IfOk answer (λ cause. Makes cause (changed nat_eq kernel c (arranged names i)) (with_classes (ordered o e.classes) j))
  kept_answer c leaves is made =
      subst (λ (q : Option (List ℕ)). IfOk answer (λ cause. Makes cause (changed nat_eq kernel c (arranged names i)) (with_classes (ordered q e.classes) j))) (sym is)
      (IfOk-weaker answer (λ cause. Makes cause (changed nat_eq kernel c i) j) (λ cause. Makes cause (changed nat_eq kernel c (arranged names i)) (arranged names j)) (λ cause m. kept_made kernel names i j (whole_once d whole) each cause c leaves m) made)

  pub kept_order : (c : ChangeOf ℕ) → LeavesOrder c → o ≡ Some names → IfOk answer (λ cause. Makes cause (changed nat_eq kernel c i) j) → IfOk answer (λ cause. IfNone cause (IsOrder o e.classes))
  kept_order c leaves is made =
      subst (λ (q : Option (List ℕ)). IfOk answer (λ cause. IfNone cause (IsOrder q e.classes))) (sym is)
      (IfOk-weaker answer (λ cause. Makes cause (changed nat_eq kernel c i) j) (λ cause. IfNone cause (NamesEach names e.classes)) (λ cause m. kept_each kernel names i j (whole_once d whole) each cause c leaves m) made)

  pub removed_answer : (n : ℕ) (others : List ℕ) → o ≡ Some others → others ≡ filter (λ m. not (nat_eq n m)) names → IfOk answer (λ cause. Makes cause (changed nat_eq kernel (RemoveClass n) i) j)
      → IfOk answer (λ cause. Makes cause (changed nat_eq kernel (RemoveClass n) (arranged names i)) (with_classes (ordered o e.classes) j))
  removed_answer n others is those made =
      subst (λ (q : Option (List ℕ)). IfOk answer (λ cause. Makes cause (changed nat_eq kernel (RemoveClass n) (arranged names i)) (with_classes (ordered q e.classes) j))) (sym (is ∙ ap Some those))
      (IfOk-weaker answer (λ cause. Makes cause (changed nat_eq kernel (RemoveClass n) i) j) (λ cause. Makes cause (changed nat_eq kernel (RemoveClass n) (arranged names i)) (arranged (filter (λ m. not (nat_eq n m)) names) j)) (λ cause m. removed_made kernel names i j (whole_once d whole) each cause n m) made)

  pub removed_order : (n : ℕ) (others : List ℕ) → o ≡ Some others → others ≡ filter (λ m. not (nat_eq n m)) names → IfOk answer (λ cause. Makes cause (changed nat_eq kernel (RemoveClass n) i) j)
      → IfOk answer (λ cause. IfNone cause (IsOrder o e.classes))
  removed_order n others is those made =
      subst (λ (q : Option (List ℕ)). IfOk answer (λ cause. IfNone cause (IsOrder q e.classes))) (sym (is ∙ ap Some those))
      (IfOk-weaker answer (λ cause. Makes cause (changed nat_eq kernel (RemoveClass n) i) j) (λ cause. IfNone cause (NamesEach (filter (λ m. not (nat_eq n m)) names) e.classes)) (λ cause m. removed_each kernel names i j (whole_once d whole) each cause n m) made)

  -- the names with that of a definition
  abbrev pub with_defined : (def : DefinitionOf ℕ) → List ℕ
  with_defined def = if has_class nat_eq d.classes def.name then names else names ++ def.name ∷ []

  pub stated_answer : (def : DefinitionOf ℕ) → o ≡ Some (with_defined def) → IfOk answer (λ cause. Makes cause (changed nat_eq kernel (Define def) i) j)
      → IfOk answer (λ cause. (place : ℕ) → Makes cause (changed nat_eq kernel (DefineAt def place) (arranged names i)) (with_classes (ordered o e.classes) j))
  stated_answer def is made =
      subst (λ (q : Option (List ℕ)). IfOk answer (λ cause. (place : ℕ) → Makes cause (changed nat_eq kernel (DefineAt def place) (arranged names i)) (with_classes (ordered q e.classes) j))) (sym is)
      (IfOk-weaker answer (λ cause. Makes cause (changed nat_eq kernel (Define def) i) j) (λ cause. (place : ℕ) → Makes cause (changed nat_eq kernel (DefineAt def place) (arranged names i)) (arranged (with_defined def) j))
      (λ cause m place. stated_made kernel names i j (whole_once d whole) whole.superclasses_before each cause def place m) made)

  pub stated_order : (def : DefinitionOf ℕ) → o ≡ Some (with_defined def) → IfOk answer (λ cause. Makes cause (changed nat_eq kernel (Define def) i) j) → IfOk answer (λ cause. IfNone cause (IsOrder o e.classes))
  stated_order def is made =
      subst (λ (q : Option (List ℕ)). IfOk answer (λ cause. IfNone cause (IsOrder q e.classes))) (sym is)
      (IfOk-weaker answer (λ cause. Makes cause (changed nat_eq kernel (Define def) i) j) (λ cause. IfNone cause (NamesEach (with_defined def) e.classes)) (λ cause m. defined_each kernel names i j (whole_once d whole) whole.superclasses_before each cause def m) made)

-- a definition of a class that is new leaves the order, with or without a place
pub stated_new : (kernel : Bool) (d : DefinitionOf ℕ) (i : ImageOf ℕ) (place : ℕ) → has_class nat_eq i.classes d.name ≡ false → ◌≡◌ {A = Result (ImageOf ℕ) Cause} (changed nat_eq kernel (Define d) i) (changed nat_eq kernel (DefineAt d place) i)
stated_new kernel d i place fresh =
    ap (λ (b : Bool). unless (definition_refusals nat_eq i.classes d (with_definition nat_eq kernel d i.classes)) (with_classes (if b then settled nat_eq (with_definition nat_eq kernel d i.classes) else with_definition nat_eq kernel d i.classes) i)) fresh

-- a method leaves the classes
pub method_order : (answer : Result (Option ImageCause) Memory) (kernel : Bool) (d e : Draft) (source : List ℕ) (m : MethodOf ℕ) (o : Option (List ℕ)) → IsOrder o d.classes → is_some d.run ≡ true
    → IfOk answer (λ cause. IfSome d.run (λ r. Makes cause (method_added nat_eq kernel r source m (drafted.image_of d)) (drafted.image_of e))) → IfOk answer (λ cause. IfNone cause (IsOrder o e.classes))
method_order (Err x) kernel d e source m o order inside made = tt
method_order (Ok cause) kernel d e source m o order inside made = by d.run inside made
  where
    by : (q : Option (RunOf ℕ)) → is_some q ≡ true → IfSome q (λ r. Makes cause (method_added nat_eq kernel r source m (drafted.image_of d)) (drafted.image_of e)) → IfNone cause (IsOrder o e.classes)
    by None h f = absurd (true≢false (sym h))
    by (Some r) h f =
        made_then cause (method_refusals nat_eq (drafted.image_of d).methods r m.selector) (record (drafted.image_of d) { methods = with_method nat_eq kernel r source m (drafted.image_of d).methods }) (drafted.image_of e)
        (λ none is. subst (λ (k : ImageOf ℕ). IsOrder o k.classes) is order) f
