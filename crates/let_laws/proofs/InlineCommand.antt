-- What the conditions of `inlineTemp` say: the image before unfolds to the image after.
use Rattle.std.proofs.Common.{◌≡◌, ℕ, List, [], ◌∷◌, Option, Some, None, map, refl, sym, ap, ◌∙◌}
use Rattle.std.specs.Prelude.{Bool, true, false, option_and_then, option_map, unwrap_or}
use Rattle.std.specs.List.{AllByRecursion}
use Rattle.std.specs.Option.{option_map_or}
use Rattle.std.proofs.lemmas.Bool.{false≢true}
use Rattle.rb_base.specs.Names.{text_eq}
use Rattle.tree_model.specs.Tree.{TreeOf, SequenceOf, MethodOf}
use Rattle.tree_model.specs.Path.{part_in, method_replaced}
use Rattle.tree_model.proofs.NormalLemmas.{bare_method-normal}
use Rattle.image_model.specs.Image.{ClassOf, EntryOf, ImageOf}
use Rattle.image_model.specs.Chain.{chain}
use Rattle.image_model.specs.Lookup.{is_method}
use Rattle.image_model.specs.Valid.{HasNoRepeat, signature}
use Rattle.image_model.proofs.Ends.{find-place}
use Rattle.run_model.specs.Values.{Name}
use Rattle.mapped_model.proofs.RenamedVariableLemmas.{all-at}
use Rattle.reread_law.specs.WholeTrees.{WellFormedMethod}
use Rattle.resolved_model.specs.ResolvedImages.{resolved_image}
use Rattle.unfolded_calls.specs.Unfolding.{IsUnfolded}
use Rattle.unfolded_calls.proofs.Untouched.{means-outside}
use Rattle.unfolded_calls.proofs.Itself.{unfolds-itself}
use Rattle.unfolded_places.specs.Standing.{outer_of}
use Rattle.unfolded_places.proofs.Congruence.{ControlLaw}
use Rattle.rename_model.specs.ClassRenamed.{WritingOf}
use Rattle.rename_laws.proofs.Unnamed.{denied}
use Rattle.command_model.specs.Allowed.{Meets}
use Rattle.command_model.specs.Asked.{text_asked}
use Rattle.command_model.specs.Commands.{InlineTemp}
use Rattle.command_model.specs.Conditions.{AtName, LetForm, NoCapture, NoNewControl}
use Rattle.command_model.specs.Effects.{effect}
use Rattle.command_model.specs.LetConditions.{is_let_form, is_value_kept, is_value_no_control}
use Rattle.command_model.specs.Places.{users_method}
use Rattle.command_model.specs.Sequences.{block_changed, sequence_changed, with_tree}
use Rattle.command_model.specs.Temporaries.{LetOf, let_of, temporary_inlined}
use Rattle.command_model.proofs.UsersMethods.{users-own}
use Rattle.temporary_laws.proofs.Images.{code-normal}
use Rattle.let_laws.specs.Lets.{LetIn}
use Rattle.let_laws.specs.LetOnce.{IsLetOnce}
use Rattle.let_laws.proofs.Images.{let-unfolds}
use Rattle.let_laws.proofs.RetoldMethod.{users-own_code, retold_image, anew, Retold, by-retold}
use Rattle.let_laws.proofs.TemporaryGone.{temporary-gone}

-- another sequence leaves selector and primitive as they are
changed-keeps : (change : SequenceOf Name → SequenceOf Name) (path : List ℕ) (m : MethodOf Name) → ((sequence_changed change path m).selector ≡ m.selector) × ((sequence_changed change path m).primitive ≡ m.primitive)
changed-keeps change [] m = (refl, refl)
changed-keeps change (k ∷ ks) m = by (part_in m.body (k ∷ ks))
  where
    after : Option (TreeOf Name) → MethodOf Name
    after o = unwrap_or (option_map (λ t. method_replaced m (k ∷ ks) (block_changed change t)) o) m

    by : (o : Option (TreeOf Name)) → ((after o).selector ≡ m.selector) × ((after o).primitive ≡ m.primitive)
    by None = (refl, refl)
    by (Some t) = (refl, refl)

module _ (control : ControlLaw) (writing : WritingOf Name) (i : ImageOf Name) (c : Name) (meta : Bool) (s x : Name) (named : AllByRecursion (λ (c : ClassOf Name). text_eq [] c.name ≡ false) i.classes) (once : HasNoRepeat (map signature i.methods)) (formed : AllByRecursion (λ (m : EntryOf Name). m.kernel ≡ false → WellFormedMethod false m.tree) i.methods) where
  -- with the tree that the method is given
  module _ (m : EntryOf Name) (found : users_method text_eq i c meta s ≡ Some m) (tree : MethodOf Name) (step : LetIn (outer_of i m) m.tree tree) (selector : tree.selector ≡ m.tree.selector) (primitive : tree.primitive ≡ m.tree.primitive) where
    abbrev j : ImageOf Name
    j = retold_image i c meta s once m found writing tree

    -- where it is retold
    let-once : Retold i c meta s once m found writing tree → IsLetOnce i j
    let-once r = record {
      earlier = r.earlier;
      later = r.later;
      method = m;
      methods = r.before;
      setting = m.tree;
      inlined = tree;
      step = step;
      code_before = refl;
      changed = anew i c meta s once m found writing tree;
      code_after = sym (code-normal (outer_of i m) tree tree.body.temporaries);
      class = refl;
      meta = refl;
      selector = sym (ap (λ (t : MethodOf Name). t.selector) (bare_method-normal tree) ∙ selector);
      primitive = sym (ap (λ (t : MethodOf Name). t.primitive) (bare_method-normal tree) ∙ primitive);
      after = λ k. record i { methods = r.after k };
    }

    retold-unfolds : IsUnfolded (resolved_image i) (resolved_image j)
    retold-unfolds = by-retold i c meta s once m found writing tree (λ z. IsUnfolded (resolved_image i) (resolved_image z)) (unfolds-itself i named) (λ r. let-unfolds control i j (let-once r) named)

  -- a method of the user that is found is well formed
  its-formed : (m : EntryOf Name) → users_method text_eq i c meta s ≡ Some m → WellFormedMethod false m.tree
  its-formed m found =
      let at = find-place (is_method text_eq c meta s) i.methods m (users-own text_eq i c meta s m found) in
      all-at (λ (n : EntryOf Name). n.kernel ≡ false → WellFormedMethod false n.tree) i.methods at.0 m formed at.1 (denied m.kernel (users-own_code i c meta s once m found))

  -- what is made of a method, by the one assignment
  abbrev change : EntryOf Name → Option (MethodOf Name)
  change m = option_map (temporary_inlined text_asked m.tree x) (let_of text_asked m.tree x)

  abbrev after_by : Option (MethodOf Name) → ImageOf Name
  after_by o = unwrap_or (option_map (λ tree. with_tree text_eq writing c meta s tree i) o) i

  -- the assignment
  let-there : (m : EntryOf Name) → users_method text_eq i c meta s ≡ Some m → (o : Option (LetOf Name)) → let_of text_asked m.tree x ≡ o → option_map_or (λ e. is_let_form text_asked i m x e) o false ≡ true → option_map_or (λ e. is_value_kept text_asked i m x e) o false ≡ true →
      option_map_or (λ e. is_value_no_control text_asked i m x e) o false ≡ true → IsUnfolded (resolved_image i) (resolved_image (after_by (option_map (temporary_inlined text_asked m.tree x) o)))
  let-there m found None q form kept free = absurd (false≢true form)
  let-there m found (Some e) q form kept free =
      let keeps = changed-keeps _ e.sequence _ in
      retold-unfolds m found (temporary_inlined text_asked m.tree x e) (temporary-gone i m (λ n. means-outside i.classes (chain text_eq i.classes m.class) m.meta n) x (its-formed m found) e q form kept free) keeps.0 keeps.1

  -- the method
  method-there : (o : Option (EntryOf Name)) → users_method text_eq i c meta s ≡ o → option_map_or (λ m. option_map_or (λ e. is_let_form text_asked i m x e) (let_of text_asked m.tree x) false) o false ≡ true →
      option_map_or (λ m. option_map_or (λ e. is_value_kept text_asked i m x e) (let_of text_asked m.tree x) false) o false ≡ true → option_map_or (λ m. option_map_or (λ e. is_value_no_control text_asked i m x e) (let_of text_asked m.tree x) false) o false ≡ true →
      IsUnfolded (resolved_image i) (resolved_image (after_by (option_and_then change o)))
  method-there None q form kept free = absurd (false≢true form)
  method-there (Some m) q form kept free = let-there m q (let_of text_asked m.tree x) refl form kept free

pub inline-unfolds : (control : ControlLaw) (writing : WritingOf Name) (i : ImageOf Name) (c : Name) (meta : Bool) (s x : Name) → AllByRecursion (λ (c : ClassOf Name). text_eq [] c.name ≡ false) i.classes → HasNoRepeat (map signature i.methods) →
    AllByRecursion (λ (m : EntryOf Name). m.kernel ≡ false → WellFormedMethod false m.tree) i.methods →
    Meets text_asked i (InlineTemp c meta s x) (LetForm c meta s x) → Meets text_asked i (InlineTemp c meta s x) (NoCapture c meta s (AtName x)) → Meets text_asked i (InlineTemp c meta s x) (NoNewControl c meta s (AtName x)) →
    IsUnfolded (resolved_image i) (resolved_image (effect text_asked writing (InlineTemp c meta s x) i))
inline-unfolds control writing i c meta s x named once formed form kept free = method-there control writing i c meta s x named once formed (users_method text_eq i c meta s) refl form kept free
