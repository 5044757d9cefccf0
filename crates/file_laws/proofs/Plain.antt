-- In the first dialect no class has class-instance variables.
use Rattle.std.proofs.Common.{◌≡◌, ℕ, zero, suc, Bool, true, false, not, List, [], ◌∷◌, ◌++◌, length, find, Option, Some, None, Ok, refl, subst}
use Rattle.std.specs.Prelude.{◌&&◌, if◌then◌else◌, codes}
use Rattle.std.specs.List.{AllByRecursion}
use Rattle.std.specs.Option.{option_map_or}
use Rattle.rb_base.specs.Names.{text_eq}
use Rattle.token_model.specs.declared.kind.Dialect.TheVariants.{First}
use Rattle.tree_model.specs.Tree.{SequenceOf}
use Rattle.image_model.specs.Image.{ClassOf, ImageOf}
use Rattle.image_model.proofs.Ends.{find-place}
use Rattle.st_kernel.specs.Selectors.{is_reserved_selector}
use Rattle.file_model.specs.Words.{may_name, may_name_all, words_of, is_blank_string}
use Rattle.file_model.specs.Causes.{Cause, PoolsNotEmpty, UnknownDefinition, when, first_cause}
use Rattle.file_model.specs.Changes.{DefinitionOf, ChangeOf, Define, DefineAt, Comment, SetClassSide, RemoveMethod, RemoveClass, stated_at}
use Rattle.file_model.specs.Forms.{Argument, Symbol, String, Numeral, Other, Form, Evaluates, Changes, Opens, OpensAt, Settles, Refuses, PlacedStrings, placed_strings, placed_definition_selector, definition_form, at_place, placed_subclass_form, placed_run_form, is_to_system, replaces_doit, further_form, no_form, Sent, sent_of, definition_selector, DefinitionStrings, definition_strings, the_argument, superclass_named, subclass_form, comment_form, run_form, removal_form, class_removal_form, class_side_form, other_form, sent_form, form_of}
use Rattle.file_model.specs.Hierarchy.{has_class, can_follow, without_first, settle_behind, settled}
use Rattle.file_model.specs.Refusals.{definition_refusals, comment_refusals, class_side_refusals, removal_refusals, class_removal_refusals, method_refusals}
use Rattle.file_model.specs.Applied.{new_class, class_again, changed_class, with_definition, with_comment, with_class_side, defined, without_class, without_method, changed, with_method}
use Rattle.file_model.specs.Filing.{Text, taken}
use Rattle.file_model.specs.Reading.{IsKernelOf, IsImageOf}
use Rattle.file_model.specs.Numerals.{place_in}
use Rattle.file_model.specs.Places.{PlacesOf, put_again_behind, class_place, placed}
use Rattle.file_laws.proofs.Beside.{all_changed}
use Rattle.file_laws.proofs.OtherOrder.{all_reordered}
use Rattle.file_laws.proofs.PutAgain.{put_again_behind_same}
use Rattle.file_laws.proofs.Refused.{unless_ok}
use Rattle.file_laws.proofs.Taking.{IsKeptByChunks, kept_kernel, kept_image}
use Rattle.file_laws.proofs.Braces.{no_words}
use Rattle.file_laws.proofs.Chains.{all_place}
use Rattle.file_laws.proofs.Moves.{All-weaker}
use Rattle.file_laws.proofs.Sound.{All-filter, All-last}

-- a class has no class-instance variables
abbrev pub IsPlain : ClassOf Text → Type 0
IsPlain c = c.class_side ≡ []

-- what holds of each class holds of each in another order
all_without : {X : Type 0} (P : X → Type 0) (p : X → Bool) (xs : List X) → AllByRecursion P xs → AllByRecursion P (without_first p xs)
all_without P p [] all = tt
all_without {X} P p (x ∷ xs) all = by (p x) (all_without P p xs all.1)
  where
    by : (b : Bool) → AllByRecursion P (without_first p xs) → AllByRecursion P (if b then xs else x ∷ without_first p xs)
    by true rest = all.1
    by false rest = (all.0, rest)

all_settle : (P : ClassOf Text → Type 0) (k : ℕ) (taken left : List (ClassOf Text)) → AllByRecursion P taken → AllByRecursion P left → AllByRecursion P (settle_behind text_eq k taken left)
all_settle P zero taken left t l = t
all_settle P (suc k) taken left t l = by (find (can_follow text_eq taken) left) refl (λ c h. all_settle P k (taken ++ c ∷ []) (without_first (can_follow text_eq taken) left) (All-last P taken c t h) (all_without P (can_follow text_eq taken) left l))
  where
    by : (o : Option (ClassOf Text)) → find (can_follow text_eq taken) left ≡ o → ((c : ClassOf Text) → P c → AllByRecursion P (settle_behind text_eq k (taken ++ c ∷ []) (without_first (can_follow text_eq taken) left)))
        → AllByRecursion P (option_map_or (λ c. settle_behind text_eq k (taken ++ c ∷ []) (without_first (can_follow text_eq taken) left)) o taken)
    by None e next = t
    by (Some c) e next = let place = find-place (can_follow text_eq taken) left c e in next c (all_place P left place.0 c l place.1)

-- a change gives no class-instance variables
abbrev IsPlainChange : ChangeOf Text → Type 0
IsPlainChange (Define d) = Unit {0}
IsPlainChange (DefineAt d k) = Unit {0}
IsPlainChange (Comment n t) = Unit {0}
IsPlainChange (SetClassSide n ns) = ns ≡ []
IsPlainChange (RemoveMethod c meta s) = Unit {0}
IsPlainChange (RemoveClass n) = Unit {0}

abbrev IsPlainForm : Form → Type 0
IsPlainForm Evaluates = Unit {0}
IsPlainForm (Changes c) = IsPlainChange c
IsPlainForm (Opens r) = Unit {0}
IsPlainForm (OpensAt r k) = Unit {0}
IsPlainForm Settles = Unit {0}
IsPlainForm (Refuses cause) = Unit {0}

plain_subclass : (kernel : Bool) (p : Text) (meta : Bool) (o : Option DefinitionStrings) → IsPlainForm (subclass_form kernel p meta o)
plain_subclass kernel p false (Some x) = by (first_cause (when (not (may_name x.name && (may_name_all x.instance && may_name_all x.shared))) UnknownDefinition ∷ when (not (is_blank_string x.pools)) PoolsNotEmpty ∷ []))
  where
    by : (o : Option Cause) → IsPlainForm (option_map_or Refuses o (Changes (Define (record { name = x.name; superclass = superclass_named kernel p; instance = words_of x.instance; shared = words_of x.shared; category = x.category }))))
    by (Some cause) = tt
    by None = tt
plain_subclass kernel p false None = tt
plain_subclass kernel p true (Some x) = tt
plain_subclass kernel p true None = tt

-- nor does the same change with a place stated
plain_stated : (k : ℕ) (c : ChangeOf Text) → IsPlainChange c → IsPlainChange (stated_at k c)
plain_stated k (Define d) h = tt
plain_stated k (DefineAt d j) h = tt
plain_stated k (Comment n t) h = tt
plain_stated k (SetClassSide n ns) h = h
plain_stated k (RemoveMethod c meta s) h = tt
plain_stated k (RemoveClass n) h = tt

plain_at : (k : ℕ) (form : Form) → IsPlainForm form → IsPlainForm (at_place k form)
plain_at k Evaluates h = tt
plain_at k (Changes c) h = plain_stated k c h
plain_at k (Opens r) h = tt
plain_at k (OpensAt r j) h = tt
plain_at k Settles h = tt
plain_at k (Refuses cause) h = tt

plain_placed : (kernel : Bool) (p : Text) (meta : Bool) (o : Option PlacedStrings) → IsPlainForm (placed_subclass_form kernel p meta o)
plain_placed kernel p false (Some x) = by (place_in x.numeral)
  where
    by : (o : Option ℕ) → IsPlainForm (option_map_or (λ k. at_place k (definition_form kernel p x.strings)) o no_form)
    by None = tt
    by (Some k) = plain_at k (definition_form kernel p x.strings) (plain_subclass kernel p false (Some x.strings))
plain_placed kernel p false None = tt
plain_placed kernel p true (Some x) = tt
plain_placed kernel p true None = tt

plain_class_side : (n : Text) (meta : Bool) (x : Argument) → IsPlainForm (class_side_form First n meta x)
plain_class_side n true (String s) = by (is_blank_string s) refl
  where
    by : (b : Bool) → is_blank_string s ≡ b → IsPlainForm (if b then Changes (SetClassSide n (words_of s)) else no_form)
    by true e = no_words s e
    by false e = tt
plain_class_side n true (Symbol s) = tt
plain_class_side n true Other = tt
plain_class_side n true (Numeral s) = tt
plain_class_side n false (String s) = tt
plain_class_side n false (Symbol s) = tt
plain_class_side n false Other = tt
plain_class_side n false (Numeral s) = tt

plain_comment : (n : Text) (meta : Bool) (x : Argument) → IsPlainForm (comment_form n meta x)
plain_comment n false (String s) = tt
plain_comment n false (Symbol s) = tt
plain_comment n false Other = tt
plain_comment n false (Numeral s) = tt
plain_comment n true (String s) = tt
plain_comment n true (Symbol s) = tt
plain_comment n true Other = tt
plain_comment n true (Numeral s) = tt

plain_run : (n : Text) (meta : Bool) (x : Argument) → IsPlainForm (run_form n meta x)
plain_run n meta (String s) = tt
plain_run n meta (Symbol s) = tt
plain_run n meta Other = tt
plain_run n meta (Numeral s) = tt

plain_placed_run : (n : Text) (meta : Bool) (xs : List Argument) → IsPlainForm (placed_run_form n meta xs)
plain_placed_run n meta (String t ∷ Numeral k ∷ []) = by (place_in k)
  where
    by : (o : Option ℕ) → IsPlainForm (option_map_or (OpensAt (record { class = n; meta = meta; protocol = t })) o no_form)
    by None = tt
    by (Some j) = tt
plain_placed_run n meta [] = tt
plain_placed_run n meta (Symbol t ∷ xs) = tt
plain_placed_run n meta (Numeral t ∷ xs) = tt
plain_placed_run n meta (Other ∷ xs) = tt
plain_placed_run n meta (String t ∷ []) = tt
plain_placed_run n meta (String t ∷ Symbol k ∷ xs) = tt
plain_placed_run n meta (String t ∷ String k ∷ xs) = tt
plain_placed_run n meta (String t ∷ Other ∷ xs) = tt
plain_placed_run n meta (String t ∷ Numeral k ∷ y ∷ xs) = tt

plain_removal : (n : Text) (meta : Bool) (x : Argument) → IsPlainForm (removal_form n meta x)
plain_removal n meta (String s) = tt
plain_removal n meta (Symbol s) = tt
plain_removal n meta Other = tt
plain_removal n meta (Numeral s) = tt

plain_class_removal : (n : Text) (meta : Bool) (x : Argument) → IsPlainForm (class_removal_form n meta x)
plain_class_removal n false (Symbol c) = by (text_eq n (codes "Smalltalk"))
  where
    by : (b : Bool) → IsPlainForm (if b then Changes (RemoveClass c) else no_form)
    by true = tt
    by false = tt
plain_class_removal n false (String s) = tt
plain_class_removal n false Other = tt
plain_class_removal n false (Numeral s) = tt
plain_class_removal n true (String s) = tt
plain_class_removal n true (Symbol s) = tt
plain_class_removal n true Other = tt
plain_class_removal n true (Numeral s) = tt

plain_other : (n : Text) (meta : Bool) (s : Text) (x : Argument) → IsPlainForm (other_form n meta s x)
plain_other n meta s x = by (text_eq s (codes "comment:")) (text_eq s (codes "methodsFor:")) (text_eq s (codes "removeSelector:")) (text_eq s (codes "removeClassNamed:")) (is_reserved_selector s)
  where
    by : (a b c d e : Bool) → IsPlainForm (if a then comment_form n meta x else (if b then run_form n meta x else (if c then removal_form n meta x else (if d then class_removal_form n meta x else (if e then no_form else Evaluates)))))
    by true b c d e = plain_comment n meta x
    by false true c d e = plain_run n meta x
    by false false true d e = plain_removal n meta x
    by false false false true e = plain_class_removal n meta x
    by false false false false true = tt
    by false false false false false = tt

plain_further : (kernel : Bool) (m : Sent) → IsPlainForm (further_form kernel m)
plain_further kernel m = by (text_eq m.selector placed_definition_selector) (text_eq m.selector (codes "methodsFor:at:")) (is_to_system m && text_eq m.selector (codes "settlePlaces")) (replaces_doit m)
  where
    by : (a b c e : Bool) → IsPlainForm (if a then placed_subclass_form kernel m.class m.meta (placed_strings m.arguments) else (if b then placed_run_form m.class m.meta m.arguments else (if c then Settles else (if e then no_form else other_form m.class m.meta m.selector (the_argument m.arguments)))))
    by true b c e = plain_placed kernel m.class m.meta (placed_strings m.arguments)
    by false true c e = plain_placed_run m.class m.meta m.arguments
    by false false true e = tt
    by false false false true = tt
    by false false false false = plain_other m.class m.meta m.selector (the_argument m.arguments)

plain_form : (kernel : Bool) (b : SequenceOf Text) → IsPlainForm (form_of First kernel b)
plain_form kernel b = by (sent_of b b.temporaries)
  where
    at : (m : Sent) (a c : Bool) → IsPlainForm (if a then subclass_form kernel m.class m.meta (definition_strings m.arguments) else (if c then class_side_form First m.class m.meta (the_argument m.arguments) else further_form kernel m))
    at m true c = plain_subclass kernel m.class m.meta (definition_strings m.arguments)
    at m false true = plain_class_side m.class m.meta (the_argument m.arguments)
    at m false false = plain_further kernel m

    by : (o : Option Sent) → IsPlainForm (option_map_or (sent_form First kernel) o Evaluates)
    by None = tt
    by (Some m) = at m (text_eq m.selector definition_selector) (text_eq m.selector (codes "instanceVariableNames:"))

-- classes with a definition
plain_with : (kernel : Bool) (x : DefinitionOf Text) (cs : List (ClassOf Text)) → AllByRecursion IsPlain cs → AllByRecursion IsPlain (with_definition text_eq kernel x cs)
plain_with kernel x cs all = by (has_class text_eq cs x.name)
  where
    by : (b : Bool) → AllByRecursion IsPlain (if b then changed_class text_eq x.name (class_again x) cs else cs ++ new_class kernel x ∷ [])
    by true = all_changed IsPlain x.name (class_again x) cs (All-weaker _ _ cs (λ c h. (h, (λ same. h))) all)
    by false = All-last IsPlain cs (new_class kernel x) all refl

plain_defined : (kernel : Bool) (x : DefinitionOf Text) (cs : List (ClassOf Text)) → AllByRecursion IsPlain cs → AllByRecursion IsPlain (defined text_eq kernel x cs)
plain_defined kernel x cs all = by (has_class text_eq cs x.name) (plain_with kernel x cs all)
  where
    by : (b : Bool) → AllByRecursion IsPlain (with_definition text_eq kernel x cs) → AllByRecursion IsPlain (if b then settled text_eq (with_definition text_eq kernel x cs) else with_definition text_eq kernel x cs)
    by true h = all_settle IsPlain _ [] (with_definition text_eq kernel x cs) tt h
    by false h = h

abbrev pub IsPlainImage : ImageOf Text → Type 0
IsPlainImage i = AllByRecursion IsPlain i.classes

-- a change keeps it
plain_changed : (kernel : Bool) (c : ChangeOf Text) (i j : ImageOf Text) → IsPlainChange c → changed text_eq kernel c i ≡ Ok j → IsPlainImage i → IsPlainImage j
plain_changed kernel (Define x) i j plain e h =
    subst IsPlainImage (unless_ok (definition_refusals text_eq i.classes x (with_definition text_eq kernel x i.classes)) (record i { classes = defined text_eq kernel x i.classes }) j e) (plain_defined kernel x i.classes h)
plain_changed kernel (DefineAt x k) i j plain e h =
    subst IsPlainImage (unless_ok (definition_refusals text_eq i.classes x (with_definition text_eq kernel x i.classes)) (record i { classes = with_definition text_eq kernel x i.classes }) j e) (plain_with kernel x i.classes h)
plain_changed kernel (Comment n t) i j plain e h =
    subst IsPlainImage (unless_ok (comment_refusals text_eq i.classes n) (record i { classes = with_comment text_eq n t i.classes }) j e)
    (all_changed IsPlain n (λ (c : ClassOf Text). record c { comment = t }) i.classes (All-weaker _ _ i.classes (λ c p. (p, (λ same. p))) h))
plain_changed kernel (SetClassSide n ns) i j plain e h =
    subst IsPlainImage (unless_ok (class_side_refusals text_eq i.classes n ns (with_class_side text_eq n ns i.classes)) (record i { classes = with_class_side text_eq n ns i.classes }) j e)
    (all_changed IsPlain n (λ (c : ClassOf Text). record c { class_side = ns }) i.classes (All-weaker _ _ i.classes (λ c p. (p, (λ same. plain))) h))
plain_changed kernel (RemoveMethod c meta s) i j plain e h = subst IsPlainImage (unless_ok (removal_refusals text_eq i c meta s) (without_method text_eq c meta s i) j e) h
plain_changed kernel (RemoveClass n) i j plain e h =
    subst IsPlainImage (unless_ok (class_removal_refusals text_eq i.classes n) (without_class text_eq n i) j e) (All-filter IsPlain (λ (c : ClassOf Text). not (text_eq n c.name)) i.classes h)

-- classes that go to the places that are stated for them keep it
plain_put : (i : ImageOf Text) (stated : PlacesOf Text) → IsPlainImage i → IsPlainImage (placed text_eq stated i)
plain_put i stated h =
    let put = put_again_behind (λ (c : ClassOf Text). c.kernel) (class_place text_eq stated.classes) i.classes in
    all_settle IsPlain (length put) [] put tt (all_reordered IsPlain i.classes put (put_again_behind_same (λ (c : ClassOf Text). c.kernel) (class_place text_eq stated.classes) i.classes) h)

-- all that chunks make keeps it
plain_keeps : (kernel : Bool) → IsKeptByChunks First kernel IsPlainImage
plain_keeps kernel = record {
  changes = λ b c i j says e h. plain_changed kernel c i j (subst IsPlainForm says (plain_form kernel b)) e h;
  adds = λ r source m i j spells stands there e h.
      subst IsPlainImage (unless_ok (method_refusals text_eq i.methods r m.selector) (record i { methods = with_method text_eq kernel r source m i.methods }) j e) h;
  counts = λ i x at_head chunk h. h;
  replaces = λ i numeral x chunk h. h;
  places = plain_put;
}

-- the image of the kernel in the first dialect
pub plain_kernel : (prelude : Text) (k : ImageOf Text) → IsKernelOf First prelude k → IsPlainImage k
plain_kernel prelude k h = kept_kernel First IsPlainImage (plain_keeps true) prelude k h tt

-- the image of a file-out in the first dialect
pub plain_image : (prelude text : Text) (i : ImageOf Text) → IsImageOf First prelude text i → IsPlainImage i
plain_image prelude text i h = kept_image First IsPlainImage (plain_keeps false) prelude text i h (plain_kernel prelude h.kernel h.is_kernel)
