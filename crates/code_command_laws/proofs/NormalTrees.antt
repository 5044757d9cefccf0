-- Commands that change code leave comments in normal form.
use Rattle.std.proofs.Common.{◌≡◌, List, [], ◌∷◌, ◌++◌, map, Bool, true, false, not, ◌&&◌, ◌-◌, Option, Some, None, option_map, refl, ◌∙◌, subst}
use Rattle.std.specs.Prelude.{if◌then◌else◌, option_and_then, remove}
use Rattle.std.proofs.Math.Bool.{beq}
use Rattle.std.specs.List.{AllByRecursion, list_any}
use Rattle.tree_model.specs.Tree.{Notes, TreesOf, no_trees, more_trees, StatementsOf, no_statements, more_statements, MethodOf}
use Rattle.tree_model.specs.Path.{append}
use Rattle.tree_model.specs.Normal.{leading_of, normal, IsNormal}
use Rattle.tree_model.proofs.NormalLemmas.{IsNormal-normal}
use Rattle.image_model.specs.Image.{EntryOf, ImageOf}
use Rattle.image_model.specs.Lookup.{is_method}
use Rattle.image_model.specs.Words.{WordsOf}
use Rattle.image_model.specs.Means.{means}
use Rattle.rename_model.specs.ClassRenamed.{WritingOf}
use Rattle.rename_model.specs.Conditions.{speaks_of}
use Rattle.same_trees.specs.SameTrees.{same_code}
use Rattle.command_model.specs.Hierarchy.{is_method_of}
use Rattle.command_model.specs.MethodEffects.{new_method}
use Rattle.command_model.specs.Parts.{Part}
use Rattle.command_model.specs.Asked.{AskedOf}
use Rattle.command_model.specs.Commands.{CommandOf, AddParameter, RemoveParameter, AbstractInstVar, ExtractMethod, InlineMethod, ExtractTemp, InlineTemp, RenameTemp}
use Rattle.command_model.specs.Walk.{Making, rebuilt_statements, rebuilt_method}
use Rattle.command_model.specs.Sequences.{retold, with_tree}
use Rattle.command_model.specs.Parameters.{node_passed, tree_passed, method_passed, passing_changed, parameter_added, parameter_removed, without_nth}
use Rattle.command_model.specs.Plain.{literal_node}
use Rattle.command_model.specs.Accessors.{made, method_made, variable_abstracted, is_meant, getter, setter_of, accessing}
use Rattle.command_model.specs.Extracted.{put_behind_last, statements_of_part, part_replaced, free_temporaries, call_of, method_of, method_extracted}
use Rattle.command_model.specs.Inlined.{tree_inlined}
use Rattle.command_model.specs.Temporaries.{let_of, temporary_extracted, temporary_inlined, temporary_renamed}
use Rattle.command_model.specs.CodeEffects.{path_of_expression, part_at, method_at, send_at, target_of, retreed, code_effect}
use Rattle.code_command_laws.specs.NormalTrees.{HaveNormalTrees}

-- of each item, once each is changed
all-map : {X : Type 0} (P : X → Type 0) (f : X → X) → ((x : X) → P x → P (f x)) → (xs : List X) → AllByRecursion P xs → AllByRecursion P (map f xs)
all-map P f keeps [] all = tt
all-map P f keeps (x ∷ xs) all = (keeps x all.0, all-map P f keeps xs all.1)

-- of each item and a further one at the end
all-last : {X : Type 0} (P : X → Type 0) (x : X) → P x → (xs : List X) → AllByRecursion P xs → AllByRecursion P (xs ++ x ∷ [])
all-last P x p [] all = (p, tt)
all-last P x p (y ∷ ys) all = (all.0, all-last P x p ys all.1)

-- or behind the last one that passes
all-put : {X : Type 0} (P : X → Type 0) (passes : X → Bool) (x : X) → P x → (xs : List X) → AllByRecursion P xs → AllByRecursion P (put_behind_last passes x xs)
all-put P passes x p [] all = tt
all-put {X} P passes x p (y ∷ ys) all = by (passes y && not (list_any passes ys)) (all-put P passes x p ys all.1)
  where
    by : (b : Bool) → AllByRecursion P (put_behind_last passes x ys) → AllByRecursion P (if b then y ∷ x ∷ ys else y ∷ put_behind_last passes x ys)
    by true later = (all.0, (p, all.1))
    by false later = (all.0, later)

module _ {N : Type 0} where
  -- the first comments stay where they are
  leading-rebuilt : (f : Making N) (ss : StatementsOf N) (tail : Notes) → leading_of (rebuilt_statements f 0 ss) tail ≡ leading_of ss tail
  leading-rebuilt f no_statements tail = refl
  leading-rebuilt f (more_statements c t ss) tail = refl

  rebuilt-normal : (f : Making N) (m : MethodOf N) → IsNormal m → IsNormal (rebuilt_method f m)
  rebuilt-normal f m is none = leading-rebuilt f m.body.statements m.body.tail ∙ is none

module _ {N : Type 0} (same : N → N → Bool) (writing : WritingOf N) where
  -- another tree is put in normal form
  retold-normal : (m : EntryOf N) (tree : MethodOf N) → IsNormal m.tree → IsNormal (retold same writing m tree).tree
  retold-normal m tree is = by (same_code same m.tree (normal tree))
    where
      by : (b : Bool) → IsNormal (if b then m else record m { tree = normal tree; source = writing.method_text (normal tree) }).tree
      by true = is
      by false = IsNormal-normal tree

  with_tree-normal : (c : N) (meta : Bool) (s : N) (tree : MethodOf N) (i : ImageOf N) → HaveNormalTrees i → HaveNormalTrees (with_tree same writing c meta s tree i)
  with_tree-normal c meta s tree i all =
      all-map (λ (m : EntryOf N). IsNormal m.tree) (λ m. if is_method same c meta s m && not m.kernel then retold same writing m tree else m)
      (λ m is. by m is (is_method same c meta s m && not m.kernel)) i.methods all
    where
      by : (m : EntryOf N) → IsNormal m.tree → (b : Bool) → IsNormal (if b then retold same writing m tree else m).tree
      by m is true = retold-normal m tree is
      by m is false = is

  -- messages pass other arguments
  module _ (s t : N) (passed : TreesOf N → TreesOf N) (taken : List N → List N) where
    tree_passed-normal : (m : MethodOf N) → IsNormal m → IsNormal (tree_passed same writing s t passed taken m)
    tree_passed-normal m is = by (same s m.selector)
      where
        b : MethodOf N
        b = rebuilt_method (λ path n. node_passed same writing s t passed taken n) m

        by : (c : Bool) → IsNormal (if c then record b { selector = t; arguments = taken m.arguments } else b)
        by true = rebuilt-normal (λ path n. node_passed same writing s t passed taken n) m is
        by false = rebuilt-normal (λ path n. node_passed same writing s t passed taken n) m is

    passing-normal : (i : ImageOf N) → HaveNormalTrees i → HaveNormalTrees (passing_changed same writing s t passed taken i)
    passing-normal i all = all-map (λ (m : EntryOf N). IsNormal m.tree) (method_passed same writing s t passed taken) (λ m is. by m is (speaks_of same s m)) i.methods all
      where
        by : (m : EntryOf N) → IsNormal m.tree → (b : Bool)
            → IsNormal (if b then record m { tree = tree_passed same writing s t passed taken m.tree; source = writing.method_text (tree_passed same writing s t passed taken m.tree) } else m).tree
        by m is true = tree_passed-normal m.tree is
        by m is false = is

-- a variable is reached by messages
module _ {N : Type 0} (w : WordsOf N) (writing : WritingOf N) (self_name c x setter given : N) (i : ImageOf N) where
  made-normal : (m : EntryOf N) → IsNormal m.tree → IsNormal (method_made w writing self_name c x setter given i m).tree
  made-normal m is = by (is_meant w writing self_name c x setter given i (means w i m) m.tree.body)
    where
      tree : MethodOf N
      tree = rebuilt_method (made w writing self_name c x setter given i (means w i m)) m.tree

      by : (b : Bool) → IsNormal (if b then record m { tree = tree; source = writing.method_text tree } else m).tree
      by true = rebuilt-normal (made w writing self_name c x setter given i (means w i m)) m.tree is
      by false = is

  abstracted-normal : HaveNormalTrees i → HaveNormalTrees (variable_abstracted w writing self_name c x setter given i)
  abstracted-normal all =
      all-last (λ (m : EntryOf N). IsNormal m.tree) (new_method c false accessing (writing.method_text (setter_of x setter given)) (setter_of x setter given)) (λ none. refl)
      (map (method_made w writing self_name c x setter given i) i.methods ++ new_method c false accessing (writing.method_text (getter x)) (getter x) ∷ [])
      (all-last (λ (m : EntryOf N). IsNormal m.tree) (new_method c false accessing (writing.method_text (getter x)) (getter x)) (λ none. refl)
      (map (method_made w writing self_name c x setter given i) i.methods)
      (all-map (λ (m : EntryOf N). IsNormal m.tree) (method_made w writing self_name c x setter given i) made-normal i.methods all))

module _ {N : Type 0} (a : AskedOf N) (writing : WritingOf N) (i : ImageOf N) (all : HaveNormalTrees i) where
  -- a part becomes a method
  extracted-normal : (c : N) (meta : Bool) (s : N) (m : EntryOf N) (part : Part) (t : N) → HaveNormalTrees (method_extracted a writing c meta s m part t i)
  extracted-normal c meta s m part t =
      all-put (λ (e : EntryOf N). IsNormal e.tree) (λ (e : EntryOf N). is_method_of a.words.tests.same c e && beq meta e.meta)
      (new_method c meta m.protocol (writing.method_text (method_of a t m.tree part)) (method_of a t m.tree part)) (new_normal a t m.tree part)
      (with_tree a.words.tests.same writing c meta s (part_replaced m.tree part (call_of a t m.tree part)) i).methods
      (with_tree-normal a.words.tests.same writing c meta s (part_replaced m.tree part (call_of a t m.tree part)) i all)
    where
      new_normal : (b : AskedOf N) (u : N) (tree : MethodOf N) (p : Part) → IsNormal (method_of b u tree p)
      new_normal b u tree p = IsNormal-normal (record {
        selector = u;
        arguments = free_temporaries b tree p;
        head = [];
        primitive = None;
        body = record { temporaries = []; statements = statements_of_part tree p; tail = [] };
      })

  -- what is made of what is there, if it is there
  made-of : {X : Type 0} (make : X → ImageOf N) → ((x : X) → HaveNormalTrees (make x)) → (o : Option X) (j : ImageOf N) → option_map make o ≡ Some j → HaveNormalTrees j
  made-of make normal None j e = cc
  made-of make normal (Some x) j e = let same : make x ≡ j = cc in subst HaveNormalTrees same (normal x)

  -- a method has another tree
  retreed-normal : (c : N) (meta : Bool) (s : N) (change : EntryOf N → Option (MethodOf N)) (j : ImageOf N) → retreed a i writing c meta s change ≡ Some j → HaveNormalTrees j
  retreed-normal c meta s change =
      made-of (λ tree. with_tree a.words.tests.same writing c meta s tree i) (λ tree. with_tree-normal a.words.tests.same writing c meta s tree i all)
      (option_and_then change (method_at a i c meta s))

  -- an image that is there
  there : (k j : ImageOf N) → HaveNormalTrees k → Some k ≡ Some j → HaveNormalTrees j
  there k j is e = let same : k ≡ j = cc in subst HaveNormalTrees same is

  pub effect-normal : (command : CommandOf N) (j : ImageOf N) → code_effect a i writing command ≡ Some j → HaveNormalTrees j
  effect-normal (AddParameter s t x passed) j e =
      there (parameter_added a.words.tests.same writing s t x passed i) j
      (passing-normal a.words.tests.same writing s t (λ args. append args (more_trees (literal_node passed) no_trees)) (λ xs. xs ++ x ∷ []) i all) e
  effect-normal (RemoveParameter s k t) j e =
      there (parameter_removed a.words.tests.same writing s k t i) j
      (passing-normal a.words.tests.same writing s t (without_nth (k - 1)) (λ xs. remove xs (k - 1)) i all) e
  effect-normal (AbstractInstVar c x setter given) j e =
      there (variable_abstracted a.words writing a.self_name c x setter given i) j (abstracted-normal a.words writing a.self_name c x setter given i all) e
  effect-normal (ExtractMethod c meta s from to t) j e =
      made-of (λ x. method_extracted a writing c meta s x.0 x.1 t i) (λ x. extracted-normal c meta s x.0 x.1 t) (part_at a i c meta s from to) j e
  effect-normal (InlineMethod c meta s from to) j e =
      retreed-normal c meta s (λ m. option_and_then (λ x. option_and_then (λ (target : EntryOf N). tree_inlined a m.tree x.1 target.tree) (target_of a i c meta x.1)) (send_at a i c meta s from to)) j e
  effect-normal (ExtractTemp c meta s from to x) j e =
      retreed-normal c meta s (λ m. option_and_then (λ path. temporary_extracted a m.tree path x) (option_and_then path_of_expression (a.part_of m.source from to))) j e
  effect-normal (InlineTemp c meta s x) j e = retreed-normal c meta s (λ m. option_map (temporary_inlined a m.tree x) (let_of a m.tree x)) j e
  effect-normal (RenameTemp c meta s x y) j e = retreed-normal c meta s (λ m. Some (temporary_renamed a m.tree x y)) j e
  effect-normal command j e = cc
