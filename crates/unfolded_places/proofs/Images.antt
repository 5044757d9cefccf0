-- Images in whose methods parts are others that they unfold to, unfold to each other.
use Rattle.std.proofs.Common.{◌≡◌, ℕ, List, [], map, Option, Some, None, refl, sym, ap, ◌∙◌, subst}
use Rattle.std.specs.Prelude.{false}
use Rattle.std.specs.List.{AllByRecursion}
use Rattle.rb_base.specs.Names.{text_eq}
use Rattle.image_model.specs.Image.{ClassOf, EntryOf, DoItOf, ImageOf}
use Rattle.image_model.specs.Words.{text_words}
use Rattle.image_model.specs.Chain.{chain}
use Rattle.image_model.specs.Means.{means_outside, means_along}
use Rattle.run_model.specs.Values.{Name}
use Rattle.run_model.specs.Runs.{doit_class}
use Rattle.resolved_model.specs.ResolvedImages.{plain_class, doing_of, resolved_entry, resolved_image}
use Rattle.resolved_model.specs.Resolving.{resolved_method, resolved_doit}
use Rattle.resolved_model.specs.Environments.{code_in}
use Rattle.resolved_model.proofs.ResolvingLemmas.{method-resolved, doit-resolved}
use Rattle.unfolded_calls.specs.Unfolding.{Allowed, outermost_context, UnfoldsCode, UnfoldsDoing, same_primitive, unfolds_code, UnfoldsMethods, no_methods, kept, missing, UnfoldsDoIts, no_doits, next_doit, IsUnfolded}
use Rattle.unfolded_calls.proofs.Untouched.{means-outside}
use Rattle.unfolded_calls.proofs.Itself.{named-so, doit-same}
use Rattle.unfolded_places.specs.PartsReplaced.{parts_stored}
use Rattle.unfolded_places.specs.ImagesChanged.{PartsOf, StoresOf, MethodBecomes, MethodsBecome, methods_end, method_next, method_gone, DoItsStay, doits_end, doit_next, ImageBecomes}
use Rattle.unfolded_places.proofs.Congruence.{ControlLaw, code-becomes}
use Rattle.unfolded_places.specs.Standing.{outer_of, IsHere, AllPartsUnfold, AllPartsNoBlocks, AllStoresUnfold}
use Rattle.unfolded_places.proofs.Unchanged.{none-paired, kept-here}

module _ (control : ControlLaw) (i j : ImageOf Name) (gone : Allowed) (here : PartsOf) (stores : StoresOf) where
  module _ (p : AllPartsUnfold i gone here stores) (q : AllPartsNoBlocks i gone here stores) (r : AllStoresUnfold i gone here stores) (classes : i.classes ≡ j.classes) where
    code-so : (m m' : EntryOf Name) → (h : MethodBecomes i gone here stores m m') → UnfoldsCode (resolved_image i) gone (outermost_context h.place) (resolved_method i m) (resolved_method j m')
    code-so m m' h =
        subst (λ c. UnfoldsCode (resolved_image i) gone (outermost_context h.place) c (resolved_method j m')) (sym (method-resolved i m))
        (subst (λ c. UnfoldsCode (resolved_image i) gone (outermost_context h.place) (code_in (outer_of i m) [] m.tree.arguments m.tree.body) c) (outer-same ∙ sym (method-resolved j m'))
        (code-becomes control (resolved_image i) gone (parts_stored (here m h.place) (stores m h.place) gone.is_gone) (outer_of i m) (outer_of i m) (IsHere h.place)
        (kept-here (resolved_image i) gone (outer_of i m) (λ n. means-outside i.classes (chain text_eq i.classes m.class) m.meta n) (here m h.place) (stores m h.place) h.place control (p m h.place) (none-paired (resolved_image i) gone (outer_of i m) (λ n. means-outside i.classes (chain text_eq i.classes m.class) m.meta n) (here m h.place) (stores m h.place) h.place (q m h.place)) (r m h.place))
        (outermost_context h.place) [] [] m.tree.arguments m.tree.body m'.tree.body (record { same = refl; keeps = record { locals = refl; returns = refl; supers = refl }; standing = refl }) h.temporaries h.statements))
      where
        outer-same : code_in (outer_of i m) [] m.tree.arguments m'.tree.body ≡ code_in (outer_of j m') [] m'.tree.arguments m'.tree.body
        outer-same = λ k. code_in (λ n. means_along text_words (classes k) (chain text_eq (classes k) (h.class k)) (h.meta k) n) [] (h.arguments k) m'.tree.body

    doing-so : (m m' : EntryOf Name) → (h : MethodBecomes i gone here stores m m') → (o o' : Option ℕ) → o ≡ o' → UnfoldsDoing (resolved_image i) gone h.place (doing_of i m o) (doing_of j m' o')
    doing-so m m' h (Some n) (Some k) e = subst (λ x. UnfoldsDoing (resolved_image i) gone h.place (doing_of i m (Some n)) (doing_of j m' x)) e (same_primitive n)
    doing-so m m' h (Some n) None e = absurd (cc)
    doing-so m m' h None (Some k) e = absurd (cc)
    doing-so m m' h None None e = unfolds_code (code-so m m' h)

    methods-so : (ms ms' : List (EntryOf Name)) → MethodsBecome i gone here stores ms ms' → UnfoldsMethods (resolved_image i) gone (map (resolved_entry i) ms) (map (resolved_entry j) ms')
    methods-so _ _ methods_end = no_methods
    methods-so _ _ (method_next {m = m} {m' = m'} {ms = ms} {ms' = ms'} h r) =
        kept (record { class = h.class; meta = h.meta; selector = h.selector; place = h.place; opens = h.opens; doing = doing-so m m' h m.tree.primitive m'.tree.primitive h.primitive }) (methods-so ms ms' r)
    methods-so _ _ (method_gone {m = m} {ms = ms} {ms' = ms'} e r) = missing e (methods-so ms ms' r)

    doits-so : (ds ds' : List (DoItOf Name)) → DoItsStay i gone here stores ds ds' → UnfoldsDoIts (resolved_image i) gone (map (resolved_doit i) ds) (map (resolved_doit j) ds')
    doits-so _ _ doits_end = no_doits
    doits-so _ _ (doit_next {d = d} {d' = d'} {ds = ds} {ds' = ds'} e k r) =
        next_doit (subst (λ c. UnfoldsCode (resolved_image i) gone (outermost_context None) (resolved_doit i d) c) (doit-resolved i d ∙ same ∙ sym (doit-resolved j d')) (doit-same i gone d k)) (doits-so ds ds' r)
      where
        same : code_in (λ n. means_outside text_words i (doit_class i) false n) [] [] d.body ≡ code_in (λ n. means_outside text_words j (doit_class j) false n) [] [] d'.body
        same = λ k. code_in (λ n. means_outside text_words (record i { classes = classes k }) (doit_class (record i { classes = classes k })) false n) [] [] (e k)

  pub images-become : AllPartsUnfold i gone here stores → AllPartsNoBlocks i gone here stores → AllStoresUnfold i gone here stores → AllByRecursion (λ (c : ClassOf Name). text_eq [] c.name ≡ false) i.classes → ImageBecomes i gone here stores j → IsUnfolded (resolved_image i) (resolved_image j)
  images-become p q r named h = record {
    gone = gone;
    classes = ap (map plain_class) h.classes;
    named = named-so i i.classes named;
    methods = methods-so p q r h.classes i.methods j.methods h.methods;
    doits = doits-so p q r h.classes i.doits j.doits h.doits;
  }
