-- What the conditions of `extractTemp` say: the image after unfolds to the image before.
use Rattle.std.proofs.Common.{◌≡◌, ℕ, [], Option, Some, None, map, refl, sym, ap, ◌∙◌, subst}
use Rattle.std.specs.Prelude.{Bool, true, false, not, ◌&&◌, option_and_then, option_map, unwrap_or}
use Rattle.std.specs.List.{AllByRecursion}
use Rattle.std.specs.Option.{option_map_or}
use Rattle.std.proofs.lemmas.Bool.{false≢true}
use Rattle.rb_base.specs.Names.{text_eq}
use Rattle.tree_model.specs.Tree.{TreeOf, MethodOf}
use Rattle.tree_model.specs.Path.{part_in}
use Rattle.tree_model.proofs.NormalLemmas.{bare_method-normal}
use Rattle.scope_model.specs.SpecialNames.{is_pseudo_variable, control_form}
use Rattle.image_model.specs.Image.{ClassOf, EntryOf, ImageOf}
use Rattle.image_model.specs.Chain.{chain}
use Rattle.image_model.specs.Valid.{HasNoRepeat, signature}
use Rattle.run_model.specs.Values.{Name}
use Rattle.run_model.proofs.Finite.{and-true_left}
use Rattle.resolved_model.specs.ResolvedImages.{resolved_image}
use Rattle.unfolded_calls.specs.Unfolding.{IsUnfolded}
use Rattle.unfolded_calls.specs.SameContexts.{IsOutside}
use Rattle.unfolded_calls.proofs.Untouched.{means-outside}
use Rattle.unfolded_calls.proofs.Itself.{unfolds-itself}
use Rattle.unfolded_places.specs.Standing.{outer_of}
use Rattle.unfolded_places.proofs.Congruence.{ControlLaw}
use Rattle.rename_model.specs.NamesThere.{is_named_in_method}
use Rattle.rename_model.specs.ClassRenamed.{WritingOf}
use Rattle.rename_model.specs.CommandWords.{may_be_declared, begins_upper}
use Rattle.rename_laws.proofs.GoodNames.{proper-name}
use Rattle.rename_laws.proofs.Unnamed.{denied}
use Rattle.command_model.specs.Allowed.{Meets}
use Rattle.command_model.specs.Asked.{text_asked}
use Rattle.command_model.specs.Commands.{ExtractTemp}
use Rattle.command_model.specs.Conditions.{of_another_variable, GoodName, PartIs, NotIn, FirstEvaluated}
use Rattle.command_model.specs.Effects.{effect}
use Rattle.command_model.specs.Parts.{Part, Expression, Run}
use Rattle.command_model.specs.PartsOfText.{parts_of_text}
use Rattle.command_model.specs.CodeEffects.{path_of_expression}
use Rattle.command_model.specs.PartConditions.{is_part, is_first_evaluated}
use Rattle.command_model.specs.SameMethods.{is_super_node}
use Rattle.command_model.specs.Places.{users_method, is_return, is_in_place}
use Rattle.command_model.specs.Sequences.{with_tree}
use Rattle.command_model.specs.Temporaries.{temporary_extracted}
use Rattle.temporary_laws.proofs.Images.{code-normal}
use Rattle.let_laws.specs.Lets.{LetIn}
use Rattle.let_laws.specs.LetOnce.{IsLetOnce}
use Rattle.let_laws.proofs.Extracted.{extracted}
use Rattle.let_laws.proofs.Images.{let-unfolds}
use Rattle.let_laws.proofs.RetoldMethod.{retold_image, anew, Retold, by-retold}

module _ (control : ControlLaw) (writing : WritingOf Name) (i : ImageOf Name) (c : Name) (meta : Bool) (s : Name) (from to : ℕ) (x : Name) (named : AllByRecursion (λ (c : ClassOf Name). text_eq [] c.name ≡ false) i.classes) (once : HasNoRepeat (map signature i.methods)) (proper : is_pseudo_variable x ≡ false) where
  -- with the tree that the method is given
  module _ (m : EntryOf Name) (found : users_method text_eq i c meta s ≡ Some m) (tree : MethodOf Name) (step : LetIn (outer_of i m) tree m.tree) (selector : tree.selector ≡ m.tree.selector) (primitive : tree.primitive ≡ m.tree.primitive) where
    abbrev j : ImageOf Name
    j = retold_image i c meta s once m found writing tree

    -- where it is retold
    let-once : Retold i c meta s once m found writing tree → IsLetOnce j i
    let-once r = record {
      earlier = r.earlier;
      later = r.later;
      method = anew i c meta s once m found writing tree;
      methods = r.after;
      setting = tree;
      inlined = m.tree;
      step = step;
      code_before = sym (code-normal (outer_of i m) tree tree.body.temporaries);
      changed = m;
      code_after = refl;
      class = refl;
      meta = refl;
      selector = ap (λ (t : MethodOf Name). t.selector) (bare_method-normal tree) ∙ selector;
      primitive = ap (λ (t : MethodOf Name). t.primitive) (bare_method-normal tree) ∙ primitive;
      after = λ k. record i { methods = r.before k };
    }

    pub retold-unfolds : IsUnfolded (resolved_image j) (resolved_image i)
    retold-unfolds = by-retold i c meta s once m found writing tree (λ z. IsUnfolded (resolved_image z) (resolved_image i)) (unfolds-itself i named) (λ r. let-unfolds control j i (let-once r) named)

  -- what is made of a method, by what its source says of the part
  abbrev change : EntryOf Name → Option (MethodOf Name)
  change m = option_and_then (λ path. temporary_extracted text_asked m.tree path x) (option_and_then path_of_expression (parts_of_text m.source from to))

  abbrev after_by : Option (MethodOf Name) → ImageOf Name
  after_by o = unwrap_or (option_map (λ tree. with_tree text_eq writing c meta s tree i) o) i

  -- the part
  part-unfolds : (m : EntryOf Name) → users_method text_eq i c meta s ≡ Some m → is_named_in_method text_eq x m ≡ false → (o : Option Part) → option_map_or (λ p. is_part text_asked m.tree p) o false ≡ true → option_map_or (λ p. is_first_evaluated text_asked i m p) o false ≡ true →
      IsUnfolded (resolved_image (after_by (option_and_then (λ path. temporary_extracted text_asked m.tree path x) (option_and_then path_of_expression o)))) (resolved_image i)
  part-unfolds m found unnamed None h first = absurd (false≢true h)
  part-unfolds m found unnamed (Some (Run path n k)) h first = absurd (false≢true first)
  part-unfolds m found unnamed (Some (Expression path)) h first = by (part_in m.tree.body path) refl h
    where
      outside : (n : Name) → IsOutside (outer_of i m n)
      outside n = means-outside i.classes (chain text_eq i.classes m.class) m.meta n

      by : (o : Option (TreeOf Name)) → part_in m.tree.body path ≡ o → is_part text_asked m.tree (Expression path) ≡ true → IsUnfolded (resolved_image (after_by (temporary_extracted text_asked m.tree path x))) (resolved_image i)
      by None q h = absurd (false≢true (subst (λ (o : Option (TreeOf Name)). option_map_or (λ t. not (is_return t) && (not (is_super_node text_asked.is_super t) && not (is_in_place control_form m.tree.body path))) o false ≡ true) q h))
      by (Some part) q h =
          let e = extracted i m outside x proper unnamed part path q h first in
          subst (λ o. IsUnfolded (resolved_image (after_by o)) (resolved_image i)) (sym e.1) (retold-unfolds m found e.0 e.2 e.3 e.4)

  -- the method
  method-unfolds : (o : Option (EntryOf Name)) → users_method text_eq i c meta s ≡ o → option_map_or (λ m. not (is_named_in_method text_eq x m)) o false ≡ true →
      option_map_or (λ (e : EntryOf Name × Part). is_part text_asked e.0.tree e.1) (option_and_then (λ (m : EntryOf Name). option_map (λ p. (m, p)) (parts_of_text m.source from to)) o) false ≡ true →
      option_map_or (λ (e : EntryOf Name × Part). is_first_evaluated text_asked i e.0 e.1) (option_and_then (λ (m : EntryOf Name). option_map (λ p. (m, p)) (parts_of_text m.source from to)) o) false ≡ true →
      IsUnfolded (resolved_image (after_by (option_and_then change o))) (resolved_image i)
  method-unfolds None q n h first = absurd (false≢true n)
  method-unfolds (Some m) q n h first = part-unfolds m q (denied (is_named_in_method text_eq x m) n) (parts_of_text m.source from to) (of-part (λ (n : EntryOf Name) q. is_part text_asked n.tree q) (parts_of_text m.source from to) h) (of-part (λ (n : EntryOf Name) q. is_first_evaluated text_asked i n q) (parts_of_text m.source from to) first)
    where
      of-part : (test : EntryOf Name → Part → Bool) (o : Option Part) → option_map_or (λ (e : EntryOf Name × Part). test e.0 e.1) (option_map (λ q. (m, q)) o) false ≡ true → option_map_or (test m) o false ≡ true
      of-part test None e = e
      of-part test (Some q) e = e

pub extract-unfolds : (control : ControlLaw) (writing : WritingOf Name) (i : ImageOf Name) (c : Name) (meta : Bool) (s : Name) (from to : ℕ) (x : Name) → AllByRecursion (λ (c : ClassOf Name). text_eq [] c.name ≡ false) i.classes → HasNoRepeat (map signature i.methods) →
    Meets text_asked i (ExtractTemp c meta s from to x) (PartIs c meta s from to) → Meets text_asked i (ExtractTemp c meta s from to x) (FirstEvaluated c meta s from to) →
    Meets text_asked i (ExtractTemp c meta s from to x) (GoodName x of_another_variable) → Meets text_asked i (ExtractTemp c meta s from to x) (NotIn c meta s x) →
    IsUnfolded (resolved_image (effect text_asked writing (ExtractTemp c meta s from to x) i)) (resolved_image i)
extract-unfolds control writing i c meta s from to x named once part first good free =
    method-unfolds control writing i c meta s from to x named once (proper-name x (and-true_left (may_be_declared x) (not (begins_upper x)) good)) (users_method text_eq i c meta s) refl free part first
