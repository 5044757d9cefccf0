-- The names and the order of the classes of each file-out.
use Rattle.std.proofs.Common.{◌≡◌, ℕ, Bool, true, false, not, List, [], ◌∷◌, ◌++◌, Option, Some, None, Ok, refl, sym, ap, subst, ◌∙◌, true≢false}
use Rattle.std.specs.Prelude.{◌&&◌, ◌||◌, if◌then◌else◌, codes, IsTrue}
use Rattle.std.specs.List.{list_all, AllByRecursion}
use Rattle.std.specs.Option.{option_map_or}
use Rattle.std.specs.List.Sorted.{IsPermutation}
use Rattle.std.proofs.lemmas.List.Sorted.{All-permutation, IsPermutation-refl, IsPermutation-sym, IsPermutation-trans}
use Rattle.std.proofs.lemmas.List.Elements.{All-from_recursion, recursion_from_All}
use Rattle.rb_base.specs.Names.{text_eq}
use Rattle.rb_base.proofs.NamesLemmas.{text_eq-refl}
use Rattle.token_model.specs.declared.kind.Dialect.{Dialect}
use Rattle.token_model.specs.declared.kind.Dialect.TheVariants.{First, Second}
use Rattle.tree_model.specs.Tree.{SequenceOf}
use Rattle.image_model.specs.Image.{ClassOf, ImageOf}
use Rattle.image_model.specs.Replaced.{KeepsHierarchy}
use Rattle.image_model.specs.Valid.{HasNoRepeat, class_names, SuperclassesStandBefore, GivesNames}
use Rattle.image_model.proofs.Kept.{SuperclassesStandBefore-kept}
use Rattle.file_model.specs.Words.{may_name, may_name_all, words_of, is_blank_string}
use Rattle.file_model.specs.Causes.{Cause, PoolsNotEmpty, UnknownDefinition, when, first_cause, Cycle, UnknownSuperclass, VariableTwice, KernelReplaced, TooMany, UnknownClass}
use Rattle.file_model.specs.Changes.{DefinitionOf, ChangeOf, Define, DefineAt, Comment, SetClassSide, RemoveMethod, RemoveClass, stated_at}
use Rattle.file_model.specs.Forms.{Argument, Symbol, String, Numeral, Other, Form, Evaluates, Changes, Opens, OpensAt, Settles, Refuses, PlacedStrings, placed_strings, placed_definition_selector, at_place, placed_subclass_form, placed_run_form, is_to_system, replaces_doit, further_form, no_form, Sent, sent_of, definition_selector, DefinitionStrings, definition_strings, the_argument, definition_form, subclass_form, comment_form, run_form, removal_form, class_removal_form, has_class_side, class_side_form, other_form, sent_form, form_of}
use Rattle.st_kernel.specs.Selectors.{is_reserved_selector}
use Rattle.file_model.specs.Hierarchy.{has_class, settled, is_kernel_class, has_subclass, has_repeat, stands_twice}
use Rattle.file_model.specs.Refusals.{lacks_superclass, makes_cycle, is_one_class_too_many, definition_refusals, comment_refusals, class_side_refusals, removal_refusals, class_removal_refusals, method_refusals}
use Rattle.image_model.specs.Means.{of_instance, of_class_side}
use Rattle.file_model.specs.Applied.{new_class, class_again, changed_class, with_definition, with_comment, with_class_side, defined, without_class, without_method, changed, with_method}
use Rattle.file_model.specs.Filing.{Text}
use Rattle.file_model.specs.Reading.{IsKernelOf, IsImageOf}
use Rattle.file_model.proofs.OneImage.{one_kernel}
use Rattle.file_model.specs.Numerals.{place_in}
use Rattle.file_model.specs.Places.{PlacesOf, placed}
use Rattle.file_laws.specs.Orders.{AreSameClasses, unplaced}
use Rattle.file_laws.proofs.Braces.{names_of_blanks}
use Rattle.file_laws.proofs.OtherOrderChanges.{changed_alike}
use Rattle.file_laws.proofs.PlacedImages.{placed_in_order}
use Rattle.file_laws.proofs.Taking.{not_false, IsKeptByChunks, kept_end}
use Rattle.file_laws.proofs.Sound.{All-last, All-filter}
use Rattle.file_laws.proofs.Refused.{first_none, second_none, third_none, unless_none, unless_ok}
use Rattle.file_laws.proofs.Moves.{text_equal}
use Rattle.file_laws.proofs.Redefined.{again_settled}
use Rattle.file_laws.proofs.Repeats.{names_changed, no_repeat_moved}
use Rattle.file_laws.proofs.Defined.{Leaves, defined_leaves, removed_order}

-- a fact of each class in another order
pub all_moved : (P : ClassOf Text → Type 0) (cs ds : List (ClassOf Text)) → IsPermutation cs ds → AllByRecursion P cs → AllByRecursion P ds
all_moved P cs ds p all = recursion_from_All P ds (All-permutation P cs ds p (All-from_recursion P cs all))

-- a name may be given
abbrev pub MayName : Text → Type 0
MayName n = IsTrue (may_name n)

-- the names of an image: no class has that of another, each superclass stands before its subclasses, and all names may be given
pub record IsNamed (i : ImageOf Text) : Type 0 where
  pub distinct : HasNoRepeat (class_names i.classes)
  pub before : SuperclassesStandBefore i.classes
  pub given : AllByRecursion (GivesNames MayName) i.classes

-- each item passes
all_pass : (q : Text → Bool) (xs : List Text) → list_all q xs ≡ true → AllByRecursion (λ x. q x ≡ true) xs
all_pass q [] h = tt
all_pass q (x ∷ xs) h = by (q x) refl h (all_pass q xs)
  where
    by : (b : Bool) → q x ≡ b → (b && list_all q xs) ≡ true → (list_all q xs ≡ true → AllByRecursion (λ y. q y ≡ true) xs) → (q x ≡ true) × AllByRecursion (λ y. q y ≡ true) xs
    by true e k rest = (e, rest k)
    by false e k rest = absurd (true≢false (sym k))

-- what a user's chunk may ask for: names that may be given, and a superclass
pub record IsGoodDefinition (d : DefinitionOf Text) : Type 0 where
  pub above : Text
  pub under : d.superclass ≡ Some above
  pub name : MayName d.name
  pub instance : AllByRecursion MayName d.instance
  pub shared : AllByRecursion MayName d.shared

abbrev pub IsGood : ChangeOf Text → Type 0
IsGood (Define d) = IsGoodDefinition d
IsGood (DefineAt d k) = IsGoodDefinition d
IsGood (Comment n t) = Unit {0}
IsGood (SetClassSide n ns) = AllByRecursion MayName ns
IsGood (RemoveMethod c meta s) = Unit {0}
IsGood (RemoveClass n) = Unit {0}

abbrev pub IsGoodForm : Form → Type 0
IsGoodForm Evaluates = Unit {0}
IsGoodForm (Changes c) = IsGood c
IsGoodForm (Opens r) = Unit {0}
IsGoodForm (OpensAt r k) = Unit {0}
IsGoodForm Settles = Unit {0}
IsGoodForm (Refuses cause) = Unit {0}

-- both of two tests pass
and_parts : (a b : Bool) → (a && b) ≡ true → (a ≡ true) × (b ≡ true)
and_parts true b h = (refl, h)
and_parts false b h = absurd (true≢false (sym h))

good_definition : (p : Text) (x : DefinitionStrings) → IsGoodForm (definition_form false p x)
good_definition p x = by (first_cause (when (not (may_name x.name && (may_name_all x.instance && may_name_all x.shared))) UnknownDefinition ∷ when (not (is_blank_string x.pools)) PoolsNotEmpty ∷ [])) refl
  where
    by : (o : Option Cause) → first_cause (when (not (may_name x.name && (may_name_all x.instance && may_name_all x.shared))) UnknownDefinition ∷ when (not (is_blank_string x.pools)) PoolsNotEmpty ∷ []) ≡ o
        → IsGoodForm (option_map_or Refuses o (Changes (Define (record { name = x.name; superclass = Some p; instance = words_of x.instance; shared = words_of x.shared; category = x.category }))))
    by (Some cause) e = tt
    by None e =
        let names = and_parts (may_name x.name) (may_name_all x.instance && may_name_all x.shared) (not_false (may_name x.name && (may_name_all x.instance && may_name_all x.shared)) (first_none (when (not (may_name x.name && (may_name_all x.instance && may_name_all x.shared))) UnknownDefinition) (when (not (is_blank_string x.pools)) PoolsNotEmpty ∷ []) e).0) in
        let variables = and_parts (may_name_all x.instance) (may_name_all x.shared) names.1 in
        record { above = p; under = refl; name = names.0; instance = all_pass may_name (words_of x.instance) variables.0; shared = all_pass may_name (words_of x.shared) variables.1 }

good_subclass : (p : Text) (meta : Bool) (o : Option DefinitionStrings) → IsGoodForm (subclass_form false p meta o)
good_subclass p false (Some x) = good_definition p x
good_subclass p false None = tt
good_subclass p true (Some x) = tt
good_subclass p true None = tt

-- a place that is stated asks for nothing more
good_stated : (k : ℕ) (c : ChangeOf Text) → IsGood c → IsGood (stated_at k c)
good_stated k (Define d) h = h
good_stated k (DefineAt d j) h = h
good_stated k (Comment n t) h = tt
good_stated k (SetClassSide n ns) h = h
good_stated k (RemoveMethod c meta s) h = tt
good_stated k (RemoveClass n) h = tt

good_at : (k : ℕ) (form : Form) → IsGoodForm form → IsGoodForm (at_place k form)
good_at k Evaluates h = tt
good_at k (Changes c) h = good_stated k c h
good_at k (Opens r) h = tt
good_at k (OpensAt r j) h = tt
good_at k Settles h = tt
good_at k (Refuses cause) h = tt

good_placed : (p : Text) (meta : Bool) (o : Option PlacedStrings) → IsGoodForm (placed_subclass_form false p meta o)
good_placed p false (Some x) = by (place_in x.numeral)
  where
    by : (o : Option ℕ) → IsGoodForm (option_map_or (λ k. at_place k (definition_form false p x.strings)) o no_form)
    by None = tt
    by (Some k) = good_at k (definition_form false p x.strings) (good_definition p x.strings)
good_placed p false None = tt
good_placed p true (Some x) = tt
good_placed p true None = tt

good_class_side : (d : Dialect) (n : Text) (meta : Bool) (x : Argument) → IsGoodForm (class_side_form d n meta x)
good_class_side d n true (String s) = by (has_class_side d s) refl
  where
    names : (e : Dialect) → has_class_side e s ≡ true → may_name_all s ≡ true
    names First h = names_of_blanks s h
    names Second h = h

    by : (b : Bool) → has_class_side d s ≡ b → IsGoodForm (if b then Changes (SetClassSide n (words_of s)) else no_form)
    by true e = all_pass may_name (words_of s) (names d e)
    by false e = tt
good_class_side d n true (Symbol s) = tt
good_class_side d n true Other = tt
good_class_side d n true (Numeral s) = tt
good_class_side d n false (String s) = tt
good_class_side d n false (Symbol s) = tt
good_class_side d n false Other = tt
good_class_side d n false (Numeral s) = tt

good_comment : (n : Text) (meta : Bool) (x : Argument) → IsGoodForm (comment_form n meta x)
good_comment n false (String s) = tt
good_comment n false (Symbol s) = tt
good_comment n false Other = tt
good_comment n false (Numeral s) = tt
good_comment n true (String s) = tt
good_comment n true (Symbol s) = tt
good_comment n true Other = tt
good_comment n true (Numeral s) = tt

good_run : (n : Text) (meta : Bool) (x : Argument) → IsGoodForm (run_form n meta x)
good_run n meta (String s) = tt
good_run n meta (Symbol s) = tt
good_run n meta Other = tt
good_run n meta (Numeral s) = tt

good_placed_run : (n : Text) (meta : Bool) (xs : List Argument) → IsGoodForm (placed_run_form n meta xs)
good_placed_run n meta (String t ∷ Numeral k ∷ []) = by (place_in k)
  where
    by : (o : Option ℕ) → IsGoodForm (option_map_or (OpensAt (record { class = n; meta = meta; protocol = t })) o no_form)
    by None = tt
    by (Some j) = tt
good_placed_run n meta [] = tt
good_placed_run n meta (Symbol t ∷ xs) = tt
good_placed_run n meta (Numeral t ∷ xs) = tt
good_placed_run n meta (Other ∷ xs) = tt
good_placed_run n meta (String t ∷ []) = tt
good_placed_run n meta (String t ∷ Symbol k ∷ xs) = tt
good_placed_run n meta (String t ∷ String k ∷ xs) = tt
good_placed_run n meta (String t ∷ Other ∷ xs) = tt
good_placed_run n meta (String t ∷ Numeral k ∷ y ∷ xs) = tt

good_removal : (n : Text) (meta : Bool) (x : Argument) → IsGoodForm (removal_form n meta x)
good_removal n meta (String s) = tt
good_removal n meta (Symbol s) = tt
good_removal n meta Other = tt
good_removal n meta (Numeral s) = tt

good_class_removal : (n : Text) (meta : Bool) (x : Argument) → IsGoodForm (class_removal_form n meta x)
good_class_removal n false (Symbol c) = by (text_eq n (codes "Smalltalk"))
  where
    by : (b : Bool) → IsGoodForm (if b then Changes (RemoveClass c) else no_form)
    by true = tt
    by false = tt
good_class_removal n false (String s) = tt
good_class_removal n false Other = tt
good_class_removal n false (Numeral s) = tt
good_class_removal n true (String s) = tt
good_class_removal n true (Symbol s) = tt
good_class_removal n true Other = tt
good_class_removal n true (Numeral s) = tt

good_other : (n : Text) (meta : Bool) (s : Text) (x : Argument) → IsGoodForm (other_form n meta s x)
good_other n meta s x = by (text_eq s (codes "comment:")) (text_eq s (codes "methodsFor:")) (text_eq s (codes "removeSelector:")) (text_eq s (codes "removeClassNamed:")) (is_reserved_selector s)
  where
    by : (a b c d e : Bool) → IsGoodForm (if a then comment_form n meta x else (if b then run_form n meta x else (if c then removal_form n meta x else (if d then class_removal_form n meta x else (if e then no_form else Evaluates)))))
    by true b c d e = good_comment n meta x
    by false true c d e = good_run n meta x
    by false false true d e = good_removal n meta x
    by false false false true e = good_class_removal n meta x
    by false false false false true = tt
    by false false false false false = tt

good_further : (m : Sent) → IsGoodForm (further_form false m)
good_further m = by (text_eq m.selector placed_definition_selector) (text_eq m.selector (codes "methodsFor:at:")) (is_to_system m && text_eq m.selector (codes "settlePlaces")) (replaces_doit m)
  where
    by : (a b c e : Bool) → IsGoodForm (if a then placed_subclass_form false m.class m.meta (placed_strings m.arguments) else (if b then placed_run_form m.class m.meta m.arguments else (if c then Settles else (if e then no_form else other_form m.class m.meta m.selector (the_argument m.arguments)))))
    by true b c e = good_placed m.class m.meta (placed_strings m.arguments)
    by false true c e = good_placed_run m.class m.meta m.arguments
    by false false true e = tt
    by false false false true = tt
    by false false false false = good_other m.class m.meta m.selector (the_argument m.arguments)

pub good_form : (d : Dialect) (b : SequenceOf Text) → IsGoodForm (form_of d false b)
good_form d b = by (sent_of b b.temporaries)
  where
    at : (m : Sent) (a c : Bool) → IsGoodForm (if a then subclass_form false m.class m.meta (definition_strings m.arguments) else (if c then class_side_form d m.class m.meta (the_argument m.arguments) else further_form false m))
    at m true c = good_subclass m.class m.meta (definition_strings m.arguments)
    at m false true = good_class_side d m.class m.meta (the_argument m.arguments)
    at m false false = good_further m

    by : (o : Option Sent) → IsGoodForm (option_map_or (sent_form d false) o Evaluates)
    by None = tt
    by (Some m) = at m (text_eq m.selector definition_selector) (text_eq m.selector (codes "instanceVariableNames:"))

-- a change of one class that keeps its name and its superclass, and gives names that may be given
pub record Keeps (f : ClassOf Text → ClassOf Text) : Type 0 where
  pub name : (c : ClassOf Text) → (f c).name ≡ c.name
  pub superclass : (c : ClassOf Text) → (f c).superclass ≡ c.superclass
  pub given : (c : ClassOf Text) → GivesNames MayName c → GivesNames MayName (f c)

given_changed : (n : Text) (f : ClassOf Text → ClassOf Text) → ((c : ClassOf Text) → GivesNames MayName c → GivesNames MayName (f c)) → (cs : List (ClassOf Text)) → AllByRecursion (GivesNames MayName) cs → AllByRecursion (GivesNames MayName) (changed_class text_eq n f cs)
given_changed n f keeps [] all = tt
given_changed n f keeps (c ∷ cs) all = (by (text_eq n c.name), given_changed n f keeps cs all.1)
  where
    by : (b : Bool) → GivesNames MayName (if b then f c else c)
    by true = keeps c all.0
    by false = all.0

pub hierarchy_kept : (n : Text) (f : ClassOf Text → ClassOf Text) → Keeps f → (cs : List (ClassOf Text)) → AllByRecursion (KeepsHierarchy (λ (c : ClassOf Text). if text_eq n c.name then f c else c)) cs
hierarchy_kept n f k [] = tt
hierarchy_kept n f k (c ∷ cs) = (record { name = named (text_eq n c.name); superclass = under (text_eq n c.name) }, hierarchy_kept n f k cs)
  where
    named : (b : Bool) → (if b then f c else c).name ≡ c.name
    named true = k.name c
    named false = refl

    under : (b : Bool) → (if b then f c else c).superclass ≡ c.superclass
    under true = k.superclass c
    under false = refl

named_kept : (n : Text) (f : ClassOf Text → ClassOf Text) (i : ImageOf Text) → Keeps f → IsNamed i → IsNamed (record i { classes = changed_class text_eq n f i.classes })
named_kept n f i k h = record {
  distinct = subst HasNoRepeat (sym (names_changed text_eq text_eq-refl text_equal n f k.name i.classes)) h.distinct;
  before = SuperclassesStandBefore-kept (λ (c : ClassOf Text). if text_eq n c.name then f c else c) i.classes (hierarchy_kept n f k i.classes) h.before;
  given = given_changed n f k.given i.classes h.given;
}

-- a definition keeps it
named_defined : (kernel : Bool) (x : DefinitionOf Text) (i : ImageOf Text) → IsGoodDefinition x → first_cause (definition_refusals text_eq i.classes x (with_definition text_eq kernel x i.classes)) ≡ None → IsNamed i
    → IsNamed (record i { classes = defined text_eq kernel x i.classes })
named_defined kernel x i g none h = record {
  distinct = leaves.order.distinct;
  before = leaves.order.before;
  given = by (has_class text_eq i.classes x.name) refl;
}
  where
    lacks : lacks_superclass text_eq i.classes x ≡ false
    lacks =
        second_none (when (is_kernel_class text_eq i.classes x.name) KernelReplaced) (when (lacks_superclass text_eq i.classes x) UnknownSuperclass)
        (when (makes_cycle text_eq i.classes x) Cycle
        ∷ when (stands_twice text_eq (with_definition text_eq kernel x i.classes) of_instance x.name || (stands_twice text_eq (with_definition text_eq kernel x i.classes) of_class_side x.name || has_repeat text_eq x.shared)) VariableTwice
        ∷ when (is_one_class_too_many text_eq i.classes x.name) TooMany ∷ []) none

    no_cycle : makes_cycle text_eq i.classes x ≡ false
    no_cycle =
        third_none (when (is_kernel_class text_eq i.classes x.name) KernelReplaced) (when (lacks_superclass text_eq i.classes x) UnknownSuperclass) (when (makes_cycle text_eq i.classes x) Cycle)
        (when (stands_twice text_eq (with_definition text_eq kernel x i.classes) of_instance x.name || (stands_twice text_eq (with_definition text_eq kernel x i.classes) of_class_side x.name || has_repeat text_eq x.shared)) VariableTwice
        ∷ when (is_one_class_too_many text_eq i.classes x.name) TooMany ∷ []) none

    above_there : has_class text_eq i.classes g.above ≡ true
    above_there = not_false (has_class text_eq i.classes g.above) (ap (λ o. option_map_or (λ p. not (has_class text_eq i.classes p)) o false) (sym g.under) ∙ lacks)

    leaves : Leaves text_eq i.classes (defined text_eq kernel x i.classes)
    leaves = defined_leaves text_eq text_eq-refl text_equal i.classes x kernel (record { distinct = h.distinct; before = h.before }) lacks no_cycle

    by : (b : Bool) → has_class text_eq i.classes x.name ≡ b → AllByRecursion (GivesNames MayName) (defined text_eq kernel x i.classes)
    by true there =
        let s = again_settled text_eq text_eq-refl text_equal i.classes x g.above kernel (record { before = h.before; distinct = h.distinct; there = there; under = g.under; above_there = above_there; no_cycle = no_cycle }) in
        let put : with_definition text_eq kernel x i.classes ≡ changed_class text_eq x.name (class_again x) i.classes =
        ap (λ (b : Bool). if b then changed_class text_eq x.name (class_again x) i.classes else i.classes ++ new_class kernel x ∷ []) there in
        all_moved (GivesNames MayName) (with_definition text_eq kernel x i.classes) (defined text_eq kernel x i.classes) s.same
        (subst (AllByRecursion (GivesNames MayName)) (sym put) (given_changed x.name (class_again x) (λ c gives. record { name = gives.name; instance = g.instance; class_side = gives.class_side; shared = g.shared }) i.classes h.given))
    by false fresh =
        let put : defined text_eq kernel x i.classes ≡ i.classes ++ new_class kernel x ∷ [] =
        ap (λ (b : Bool). if b then settled text_eq (with_definition text_eq kernel x i.classes) else with_definition text_eq kernel x i.classes) fresh
        ∙ ap (λ (b : Bool). if b then changed_class text_eq x.name (class_again x) i.classes else i.classes ++ new_class kernel x ∷ []) fresh in
        subst (AllByRecursion (GivesNames MayName)) (sym put) (All-last (GivesNames MayName) i.classes (new_class kernel x) h.given (record { name = g.name; instance = g.instance; class_side = tt; shared = g.shared }))

-- the removal of a class keeps it
named_without : (n : Text) (i : ImageOf Text) → has_subclass text_eq i.classes n ≡ false → IsNamed i → IsNamed (without_class text_eq n i)
named_without n i none h =
    let order = removed_order text_eq text_eq-refl text_equal i.classes n (record { distinct = h.distinct; before = h.before }) none in
    record {
      distinct = order.distinct;
      before = order.before;
      given = All-filter (GivesNames MayName) (λ (c : ClassOf Text). not (text_eq n c.name)) i.classes h.given;
    }

-- so does a definition that is taken
named_again : (kernel : Bool) (x : DefinitionOf Text) (i j : ImageOf Text) → IsGoodDefinition x → changed text_eq kernel (Define x) i ≡ Ok j → IsNamed i → IsNamed j
named_again kernel x i j g e h =
    subst IsNamed (unless_ok (definition_refusals text_eq i.classes x (with_definition text_eq kernel x i.classes)) (record i { classes = defined text_eq kernel x i.classes }) j e)
    (named_defined kernel x i g (unless_none (definition_refusals text_eq i.classes x (with_definition text_eq kernel x i.classes)) (record i { classes = defined text_eq kernel x i.classes }) j e) h)

-- a change keeps it, apart from the place that it states
pub named_changed : (kernel : Bool) (c : ChangeOf Text) (i j : ImageOf Text) → IsGood c → changed text_eq kernel (unplaced c) i ≡ Ok j → IsNamed i → IsNamed j
named_changed kernel (Define x) i j g e h = named_again kernel x i j g e h
named_changed kernel (DefineAt x k) i j g e h = named_again kernel x i j g e h
named_changed kernel (Comment n t) i j g e h =
    subst IsNamed (unless_ok (comment_refusals text_eq i.classes n) (record i { classes = with_comment text_eq n t i.classes }) j e)
    (named_kept n (λ (c : ClassOf Text). record c { comment = t }) i (record { name = λ c. refl; superclass = λ c. refl; given = λ c gives. record { name = gives.name; instance = gives.instance; class_side = gives.class_side; shared = gives.shared } }) h)
named_changed kernel (SetClassSide n ns) i j g e h =
    subst IsNamed (unless_ok (class_side_refusals text_eq i.classes n ns (with_class_side text_eq n ns i.classes)) (record i { classes = with_class_side text_eq n ns i.classes }) j e)
    (named_kept n (λ (c : ClassOf Text). record c { class_side = ns }) i (record { name = λ c. refl; superclass = λ c. refl; given = λ c gives. record { name = gives.name; instance = gives.instance; class_side = g; shared = gives.shared } }) h)
named_changed kernel (RemoveMethod c meta t) i j g e h =
    subst IsNamed (unless_ok (removal_refusals text_eq i c meta t) (without_method text_eq c meta t i) j e) (record { distinct = h.distinct; before = h.before; given = h.given })
named_changed kernel (RemoveClass n) i j g e h =
    let none = unless_none (class_removal_refusals text_eq i.classes n) (without_class text_eq n i) j e in
    subst IsNamed (unless_ok (class_removal_refusals text_eq i.classes n) (without_class text_eq n i) j e)
    (named_without n i (third_none (when (not (has_class text_eq i.classes n)) UnknownClass) (when (is_kernel_class text_eq i.classes n) KernelReplaced) (when (has_subclass text_eq i.classes n) UnknownSuperclass) [] none) h)

-- the names of an image whose classes may stand in another order until they are settled
pub record IsNamedAs (i : ImageOf Text) : Type 0 where
  pub classes : List (ClassOf Text)
  pub same : AreSameClasses i.classes classes
  pub named : IsNamed (record i { classes = classes })

-- in order from the start
named_so : (i : ImageOf Text) → IsNamed i → IsNamedAs i
named_so i h = record {
  classes = i.classes;
  same = record { permutation = IsPermutation-refl i.classes; distinct = h.distinct };
  named = record { distinct = h.distinct; before = h.before; given = h.given };
}

-- classes that go to the places that are stated for them are in order
pub named_end : (i : ImageOf Text) (stated : PlacesOf Text) → IsNamedAs i → IsNamed (placed text_eq stated i)
named_end i stated h =
    let new : List (ClassOf Text) = (placed text_eq stated i).classes in
    let order = placed_in_order text_eq text_eq-refl text_equal stated i h.classes h.same.permutation h.named.before in
    record {
      distinct = no_repeat_moved text_eq text_eq-refl text_equal i.classes new order.1 h.same.distinct;
      before = order.0;
      given = all_moved (GivesNames MayName) h.classes new (IsPermutation-trans h.classes i.classes new (IsPermutation-sym i.classes h.classes h.same.permutation) order.1) h.named.given;
    }

-- all that chunks make keeps it
named_keeps : (d : Dialect) → IsKeptByChunks d false IsNamedAs
named_keeps d = record {
  changes = λ b c i j says e h.
      let other = changed_alike text_eq text_eq-refl text_equal false c i j h.classes h.same h.named.before e in
      record {
        classes = other.classes;
        same = other.alike;
        named = named_changed false c (record i { classes = h.classes }) (record j { classes = other.classes }) (subst IsGoodForm says (good_form d b)) other.gives h.named;
      };
  adds = λ r source m i j spells stands there e h.
      subst IsNamedAs (unless_ok (method_refusals text_eq i.methods r m.selector) (record i { methods = with_method text_eq false r source m i.methods }) j e)
      (record { classes = h.classes; same = h.same; named = record { distinct = h.named.distinct; before = h.named.before; given = h.named.given } });
  counts = λ i x at_head chunk h. record { classes = h.classes; same = h.same; named = record { distinct = h.named.distinct; before = h.named.before; given = h.named.given } };
  replaces = λ i numeral x chunk h. record { classes = h.classes; same = h.same; named = record { distinct = h.named.distinct; before = h.named.before; given = h.named.given } };
  places = λ i stated h. named_so (placed text_eq stated i) (named_end i stated h);
}

-- the image of a file-out, where that of the kernel is so
pub named_image : (d : Dialect) (prelude text : Text) (kernel i : ImageOf Text) → IsKernelOf d prelude kernel → IsNamed kernel → IsImageOf d prelude text i → IsNamed i
named_image d prelude text kernel i k h r =
    let same : kernel ≡ r.kernel = one_kernel d prelude kernel r.kernel k r.is_kernel in
    kept_end d IsNamedAs IsNamed (named_keeps d) named_end prelude text i r (named_so r.kernel (subst IsNamed same h))
