-- The maps are one to one on the names that are in use in the image, since the new name is none of them.
use Rattle.std.proofs.Common.{◌≡◌, ℕ, [], Option, Some, None, refl, ap}
use Rattle.std.specs.Prelude.{Bool, false}
use Rattle.std.specs.List.{AllByRecursion, flat_map}
use Rattle.rb_base.specs.Names.{text_eq}
use Rattle.tree_model.specs.Path.{statement_trees}
use Rattle.scope_model.specs.SpecialNames.{is_pseudo_variable, one_block_selectors, two_block_selectors, loop_selectors}
use Rattle.scope_model.specs.Scope.{local_in, local_in_doit}
use Rattle.scope_model.proofs.ListsOfNames.{AllByRecursion-append}
use Rattle.image_model.specs.Image.{EntryOf, DoItOf, ImageOf}
use Rattle.image_model.specs.ImageNames.{OptionNames}
use Rattle.image_model.specs.Words.{text_words}
use Rattle.image_model.specs.Chain.{chain}
use Rattle.image_model.specs.Means.{of_class, definer, side_kind, means_outside}
use Rattle.image_model.proofs.Lists.{all-implies, all-both, all-map, find-all}
use Rattle.run_model.specs.Values.{Name}
use Rattle.run_model.specs.ObjectPrimitives.{value_classes}
use Rattle.run_model.specs.Runs.{doit_class}
use Rattle.resolved_model.specs.Resolving.{meant_in, meant_in_doit, resolved_method, resolved_doit}
use Rattle.resolved_model.specs.ResolvedImages.{plain_class, doing_of, resolved_entry, resolved_image}
use Rattle.resolved_model.proofs.LookupLemmas.{everywhere}
use Rattle.mapped_model.specs.NameMaps.{KeepsWords}
use Rattle.mapped_model.specs.NamesInUse.{IsAmong, IsOneToOneOn}
use Rattle.mapped_model.specs.NamesOfImages.{used_by_doing, used_if_any, used_by_class, used_by_method, used_by_doit, used_in, names_in, CallsAsAbove}
use Rattle.mapped_model.proofs.NodesBelow.{among-first}
use Rattle.rename_model.specs.NamesThere.{is_named_in, is_named_in_method}
use Rattle.rename_laws.proofs.NewNames.{maps, Other, new-one, new-other}
use Rattle.rename_laws.proofs.ClassesAfter.{IsOther, chain-other}
use Rattle.rename_laws.proofs.Unnamed.{neither_right, node-unnamed}
use Rattle.rename_laws.proofs.NamesUnused.{each-flat, Fine, MeansOthers, means-others, local-others, Unnamed, lines-fine, among-others, pairs-others, classes-fine, shared-fine}
use Rattle.rename_laws.proofs.Readiness.{IsNewName, IsReady}

module _ (i : ImageOf Name) (c d : Name) (fresh : IsNewName i c d) where
  -- what a name means behind all scopes
  outside-others : (home : Option Name) (meta : Bool) (n : Name) → MeansOthers c d (means_outside text_words i home meta n)
  outside-others home meta n =
      means-others c d meta (definer text_eq (side_kind meta) (chain text_eq i.classes home) n) (definer text_eq of_class (chain text_eq i.classes home) n) _ (text_words.is_transcript n)
      (find-all (IsOther c d) _ (chain text_eq i.classes home) (chain-other c d i.classes fresh.others home))
      (find-all (IsOther c d) _ (chain text_eq i.classes home) (chain-other c d i.classes fresh.others home))
      (find-all (IsOther c d) (λ e. text_eq n e.name) i.classes fresh.others)

  -- a name that there may be
  any-fine : (o : Option Name) → OptionNames (Other c d) o → AllByRecursion (Fine c d) (used_if_any o)
  any-fine None k = tt
  any-fine (Some n) k = (k, tt)

  -- what a method does
  doing-fine : (m : EntryOf Name) → is_named_in_method text_eq d m ≡ false → (p : Option ℕ) → AllByRecursion (Fine c d) (used_by_doing (doing_of i m p))
  unfolding resolved_method
  doing-fine m unnamed (Some k) = tt
  doing-fine m unnamed None =
      lines-fine c d m.tree.body.statements (meant_in i m) 0
      (λ path n. local-others c d (is_pseudo_variable n) (local_in text_eq is_pseudo_variable m.tree path n) (means_outside text_words i m.class m.meta n) (outside-others m.class m.meta n))
      (among-first (Unnamed c d) (statement_trees m.tree.body.statements) (node-unnamed c d m.tree.body (neither_right _ (is_named_in text_eq d m.tree.body) unnamed)))

  -- a method
  method-fine : (m : EntryOf Name) → OptionNames (Other c d) m.class → is_named_in_method text_eq d m ≡ false → AllByRecursion (Fine c d) (used_by_method (resolved_entry i m))
  method-fine m k unnamed = AllByRecursion-append (Fine c d) (used_if_any m.class) _ (any-fine m.class k) (tt, doing-fine m unnamed m.tree.primitive)

  -- a do-it
  doit-fine : (e : DoItOf Name) → is_named_in text_eq d e.body ≡ false → AllByRecursion (Fine c d) (used_by_doit (resolved_doit i e))
  unfolding resolved_doit
  doit-fine e unnamed =
      lines-fine c d e.body.statements (meant_in_doit i e) 0
      (λ path n. local-others c d (is_pseudo_variable n) (local_in_doit text_eq is_pseudo_variable e.body path n) (means_outside text_words i (doit_class i) false n) (outside-others (doit_class i) false n))
      (among-first (Unnamed c d) (statement_trees e.body.statements) (node-unnamed c d e.body unnamed))

  -- the image
  image-fine : AllByRecursion (Fine c d) (used_in (resolved_image i))
  image-fine =
      AllByRecursion-append (Fine c d) (flat_map used_by_class (resolved_image i).classes) _
      (each-flat (Fine c d) used_by_class (resolved_image i).classes (all-map _ plain_class i.classes (all-implies (IsOther c d) _ (λ e k. (k.name, any-fine e.superclass k.superclass)) i.classes fresh.others)))
      (AllByRecursion-append (Fine c d) (flat_map used_by_method (resolved_image i).methods) (flat_map used_by_doit (resolved_image i).doits)
      (each-flat (Fine c d) used_by_method (resolved_image i).methods (all-map _ (resolved_entry i) i.methods (all-implies (λ (m : EntryOf Name). OptionNames (Other c d) m.class × (is_named_in_method text_eq d m ≡ false)) _ (λ m k. method-fine m k.0 k.1) i.methods (all-both _ _ i.methods fresh.homes fresh.methods))))
      (each-flat (Fine c d) used_by_doit (resolved_image i).doits (all-map _ (resolved_doit i) i.doits (all-implies (λ (e : DoItOf Name). is_named_in text_eq d e.body ≡ false) _ (λ e k. doit-fine e k) i.doits fresh.doits))))

  -- the classes in use
  classes-other : AllByRecursion (Other c d) (names_in i).classes
  classes-other = (fresh.nothing, AllByRecursion-append (Other c d) value_classes _ fresh.words_other (classes-fine c d (used_in (resolved_image i)) image-fine))

  -- so none of them is the new name
  pub not-in-use : (n : Name) → IsAmong (names_in i).classes n → text_eq d n ≡ false
  not-in-use n t = among-others c d (names_in i).classes n classes-other t

  -- no two names in use become one
  pub one-to-one : IsOneToOneOn (names_in i) (maps c d)
  one-to-one = record {
    class = λ x y t u e. new-one c d x y (among-others c d (names_in i).classes x classes-other t) (among-others c d (names_in i).classes y classes-other u) e;
    selector = λ x y t u e. e;
    shared = λ k l t u e.
        let pairs = shared-fine c d (used_in (resolved_image i)) image-fine in
        let same = new-one c d k.0 l.0 (pairs-others c d (names_in i).shared k pairs t) (pairs-others c d (names_in i).shared l pairs u) (ap (λ p. p.0) e) in
        λ n. (same n, (e n).1);
    instance = λ x n m t u e. e;
    class_side = λ x n m t u e. e;
  }

  -- each class calls variables as before
  pub calls-stay : AllByRecursion (CallsAsAbove i (maps c d)) i.classes
  calls-stay = everywhere (CallsAsAbove i (maps c d)) (λ e. record { instance = λ x n q t. refl; class_side = λ x n q t. refl }) i.classes

-- the words of the language stay
pub words-stay : (i : ImageOf Name) (c d : Name) → IsReady i c d → text_eq c [] ≡ false → KeepsWords (maps c d)
words-stay i c d ready e = record {
  nothing = new-other c d [] e;
  classes = ready.words_kept;
  one_block = everywhere (λ w. w ≡ w) (λ w. refl) one_block_selectors;
  two_blocks = everywhere (λ w. w ≡ w) (λ w. refl) two_block_selectors;
  loops = everywhere (λ w. w ≡ w) (λ w. refl) loop_selectors;
}
