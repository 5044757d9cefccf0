-- An image with changed classes, in which names mean the same but for the classes that define class variables.
use Rattle.std.proofs.Common.{◌≡◌, ℕ, suc, ◌+◌, List, [], ◌∷◌, Option, Some, None, refl, sym, ap, ◌∙◌, subst}
use Rattle.std.specs.Prelude.{Bool, false, if◌then◌else◌, find, option_map}
use Rattle.std.specs.List.{AllByRecursion, AllZip}
use Rattle.std.proofs.lemmas.List.{map-id}
use Rattle.tree_model.specs.Tree.{TreeOf, var, literal, send, cascade, assign, block, brace, return, TreesOf, no_trees, more_trees, MessagesOf, no_messages, more_messages, StatementsOf, no_statements, more_statements}
use Rattle.tree_model.specs.Path.{count, part_in, part_among, statement_trees}
use Rattle.scope_model.specs.declared.local.Local.{Local}
use Rattle.scope_model.specs.declared.local.Local.TheVariants.{NotLocal}
use Rattle.scope_model.specs.SpecialNames.{is_pseudo_variable}
use Rattle.scope_model.specs.Scope.{ScopeOf, method_scope, doit_scope, local_in_scope}
use Rattle.rb_base.specs.Names.{text_eq}
use Rattle.image_model.specs.Image.{ClassOf, EntryOf, DoItOf, ImageOf}
use Rattle.image_model.specs.Words.{text_words}
use Rattle.image_model.specs.Replaced.{KeepsHierarchy}
use Rattle.image_model.specs.Means.{MeaningOf, pseudo, means, means_outside, means_by}
use Rattle.image_model.specs.Uses.{name_used}
use Rattle.image_model.proofs.Lists.{find-map}
use Rattle.run_model.specs.Values.{Name}
use Rattle.run_model.specs.Runs.{doit_class}
use Rattle.run_model.specs.Renamings.{OfClass}
use Rattle.resolved_model.specs.Resolving.{MeantAt, place_at}
use Rattle.resolved_model.proofs.LookupLemmas.{everywhere}
use Rattle.mapped_model.specs.MappedImages.{class_or_none}
use Rattle.mapped_model.specs.ChangedTrees.{changed, changed_trees, changed_messages, changed_statements, changed_scope, MeaningsAreMapped}
use Rattle.mapped_model.specs.ChangedImages.{IsChangedClass, IsChangedMethod, IsChangedDoIt, IsChangedImage}
use Rattle.rename_laws.proofs.Zips.{any-kept, zip-after}
use Rattle.rename_laws.proofs.MeaningsAfter.{meaning_at}
use Rattle.rename_laws.proofs.SentAnew.{kept_names}
use Rattle.variable_laws.proofs.Alike.{shared_by, IsMeantAlike, alike-local, image_with, Alike}

mutual
  -- a tree in which each name and each selector stays
  tree-kept : (t : TreeOf Name) → changed kept_names (λ s. s) t ≡ t
  tree-kept (var n) = refl
  tree-kept (literal l) = refl
  tree-kept (send r s args) = λ i. send (tree-kept r i) s (trees-kept args 1 i)
  tree-kept (cascade r ms) = λ i. cascade (tree-kept r i) (messages-kept ms 1 i)
  tree-kept (assign n t) = ap (assign n) (tree-kept t)
  tree-kept (block ps ts ss e) = λ i. block (map-id ps i) (map-id ts i) (lines-kept ss 0 i) e
  tree-kept (brace ts) = ap brace (trees-kept ts 0)
  tree-kept (return t) = ap return (tree-kept t)

  trees-kept : (ts : TreesOf Name) (k : ℕ) → changed_trees kept_names (λ s. s) k ts ≡ ts
  trees-kept no_trees k = refl
  trees-kept (more_trees t ts) k = λ i. more_trees (tree-kept t i) (trees-kept ts (suc k) i)

  messages-kept : (ms : MessagesOf Name) (k : ℕ) → changed_messages kept_names (λ s. s) k ms ≡ ms
  messages-kept no_messages k = refl
  messages-kept (more_messages s args ms) k = λ i. more_messages s (trees-kept args k i) (messages-kept ms (k + count args) i)

  lines-kept : (ss : StatementsOf Name) (k : ℕ) → changed_statements kept_names (λ s. s) k ss ≡ ss
  lines-kept no_statements k = refl
  lines-kept (more_statements c t ss) k = λ i. more_statements c (tree-kept t i) (lines-kept ss (suc k) i)

-- and such a scope
scope-kept : (s : ScopeOf Name) → s ≡ changed_scope kept_names (λ x. x) s
scope-kept s = λ i. record { arguments = sym (map-id s.arguments) i; temporaries = sym (map-id s.temporaries) i; statements = sym (lines-kept s.statements 0) i }

module _ (s : OfClass → OfClass) (i : ImageOf Name) (g : ClassOf Name → ClassOf Name) (keeps : (e : ClassOf Name) → KeepsHierarchy g e) where
  abbrev j : ImageOf Name
  j = image_with s i g keeps

  -- code of a class that there may be, on a side of it
  module _ (meta : Bool) (home later : Option Name) (so : later ≡ home) (code : ScopeOf Name)
      (fact : (path : List ℕ) (u : TreeOf Name) (n : Name) → part_among (statement_trees code.statements) path ≡ Some u → name_used u ≡ Some n → meaning_at code (means_outside text_words i home meta) path n ≡ means_outside text_words i home meta n → Alike s i g keeps home meta n) where
    abbrev before : MeantAt
    before path n = record { meaning = meaning_at code (means_outside text_words i home meta) path n; place = place_at code path n }

    abbrev after : MeantAt
    after path n = record { meaning = meaning_at code (means_outside text_words j later meta) path n; place = place_at code path n }

    -- a name that a node reads or assigns
    at-node : (path : List ℕ) (u : TreeOf Name) (n : Name) → part_among (statement_trees code.statements) path ≡ Some u → name_used u ≡ Some n → IsMeantAlike s (class_or_none home) n (before path n).meaning (after path n).meaning
    at-node path u n q e =
        alike-local s (class_or_none home) n (is_pseudo_variable n) (local_in_scope text_eq is_pseudo_variable code path n) (means_outside text_words i home meta n) (means_outside text_words j later meta n)
        (λ p l. subst (λ o. IsMeantAlike s (class_or_none home) n (means_outside text_words i home meta n) (means_outside text_words j o meta n)) (sym so)
        (fact path u n q e (outside p l)))
      where
        outside : is_pseudo_variable n ≡ false → local_in_scope text_eq is_pseudo_variable code path n ≡ NotLocal → meaning_at code (means_outside text_words i home meta) path n ≡ means_outside text_words i home meta n
        outside p l = λ k. by_scopes (p k) (l k)
          where
            by_scopes : Bool → Local → MeaningOf Name
            by_scopes b m = if b then pseudo else means_by m (means_outside text_words i home meta n)

    -- so all names are meant alike
    pub meanings-kept : MeaningsAreMapped (shared_by s) (class_or_none home) kept_names code before after
    meanings-kept path u q = record {
      read = λ n e. (at-node path u n q (ap name_used e)).read (place_at code path n);
      assigned = λ n t e. (at-node path u n q (ap name_used e)).assigned (place_at code path n);
    }

  -- the class of do-its
  doits-home : doit_class j ≡ doit_class i
  doits-home =
      ap (option_map (λ (e : ClassOf Name). e.name))
      (find-map g (λ e. text_words.is_undefined_object e.name) (λ e. text_words.is_undefined_object e.name) i.classes (everywhere _ (λ e. ap text_words.is_undefined_object (keeps e).name) i.classes))
      ∙ by (find (λ (e : ClassOf Name). text_words.is_undefined_object e.name) i.classes)
    where
      by : (o : Option (ClassOf Name)) → option_map (λ (e : ClassOf Name). e.name) (option_map g o) ≡ option_map (λ (e : ClassOf Name). e.name) o
      by None = refl
      by (Some e) = ap Some (keeps e).name

  -- what a name means that a node of a method reads or assigns, and that is meant behind all scopes, is alike
  abbrev pub StaysInMethod : EntryOf Name → Type 0
  StaysInMethod m = (path : List ℕ) (u : TreeOf Name) (n : Name) → part_in m.tree.body path ≡ Some u → name_used u ≡ Some n → means text_words i m path n ≡ means_outside text_words i m.class m.meta n → Alike s i g keeps m.class m.meta n

  -- a method
  method-changed : (m : EntryOf Name) → StaysInMethod m → IsChangedMethod (shared_by s) i j m m
  method-changed m fact = record {
    class = any-kept m.class;
    meta = refl;
    selector = refl;
    primitive = refl;
    names = kept_names;
    scope = λ e. scope-kept (method_scope m.tree);
    meanings = λ e. meanings-kept m.meta m.class m.class refl (method_scope m.tree) fact;
  }

  -- a do-it
  doit-changed : (d : DoItOf Name) → ((n : Name) → Alike s i g keeps (doit_class i) false n) → IsChangedDoIt (shared_by s) i j d d
  doit-changed d fact = record {
    names = kept_names;
    scope = scope-kept (doit_scope d.body);
    meanings = meanings-kept false (doit_class i) (doit_class j) doits-home (doit_scope d.body) (λ path u n q e m. fact n);
  }

  class-changed : (e : ClassOf Name) → IsChangedClass (shared_by s) e (g e)
  class-changed e = record { name = (keeps e).name; superclass = (keeps e).superclass ∙ any-kept e.superclass }

  zip-each : {X : Type 0} (P : X → Type 0) (R : X → X → Type 0) → ((x : X) → P x → R x x) → (xs : List X) → AllByRecursion P xs → AllZip R xs xs
  zip-each P R h [] a = tt
  zip-each P R h (x ∷ xs) a = (h x a.0, zip-each P R h xs a.1)

  -- the image
  pub image-stays : AllByRecursion StaysInMethod i.methods → ((n : Name) → Alike s i g keeps (doit_class i) false n) → IsChangedImage (shared_by s) i j
  image-stays methods doits = record {
    classes = zip-after (IsChangedClass (shared_by s)) g class-changed i.classes;
    methods = zip-each StaysInMethod (IsChangedMethod (shared_by s) i j) method-changed i.methods methods;
    doits = zip-each (λ (d : DoItOf Name). Unit {0}) (IsChangedDoIt (shared_by s) i j) (λ d u. doit-changed d doits) i.doits (everywhere (λ (d : DoItOf Name). Unit {0}) (λ d. tt) i.doits);
  }
