-- An image in which one method sets a temporary once unfolds to the one without it.
use Rattle.std.proofs.Common.{◌≡◌, ℕ, List, [], ◌∷◌, ◌++◌, map, Option, Some, None, refl, sym, ◌∙◌, subst, le_refl}
use Rattle.std.specs.Prelude.{false}
use Rattle.std.specs.List.{AllByRecursion}
use Rattle.rb_base.specs.Names.{text_eq}
use Rattle.image_model.specs.Image.{ClassOf, EntryOf, DoItOf, ImageOf}
use Rattle.image_model.specs.Chain.{chain}
use Rattle.image_model.specs.Means.{means_along}
use Rattle.image_model.specs.Words.{text_words}
use Rattle.run_model.specs.Values.{Name}
use Rattle.resolved_model.specs.ResolvedImages.{doing_of, resolved_entry, resolved_image}
use Rattle.resolved_model.specs.Resolving.{resolved_method, resolved_doit}
use Rattle.resolved_model.specs.Environments.{code_in}
use Rattle.resolved_model.proofs.ResolvingLemmas.{method-resolved, doit-resolved}
use Rattle.unfolded_calls.specs.Unfolding.{Allowed, outermost_context, UnfoldsCode, UnfoldsDoing, same_primitive, unfolds_code, UnfoldsMethods, no_methods, kept, UnfoldsDoIts, no_doits, next_doit, IsUnfolded}
use Rattle.unfolded_calls.proofs.Untouched.{means-outside}
use Rattle.unfolded_calls.proofs.Itself.{all-statements, method-same, doit-same, named-so}
use Rattle.unfolded_places.specs.Standing.{outer_of}
use Rattle.unfolded_places.proofs.Congruence.{ControlLaw}
use Rattle.let_laws.specs.LetOnce.{IsLetOnce}
use Rattle.let_laws.proofs.Methods.{method-reach, let-method}

module _ (control : ControlLaw) (i : ImageOf Name) (ms : List (EntryOf Name)) (reach : ℕ) where
  -- no method is missing, and paths are at most so long
  abbrev gone : Allowed
  gone = record { is_gone = λ s. false; reach = reach }

  -- the image with other methods
  abbrev j : ImageOf Name
  j = record i { methods = ms }

  -- a method that stays
  doing-stays : (m : EntryOf Name) (o : Option ℕ) → UnfoldsDoing (resolved_image i) gone None (doing_of i m o) (doing_of j m o)
  doing-stays m (Some n) = same_primitive n
  doing-stays m None =
      unfolds_code (subst (λ c. UnfoldsCode (resolved_image i) gone (outermost_context None) (resolved_method i m) c) (method-resolved i m ∙ sym (method-resolved j m))
      (method-same i gone m (all-statements (λ s. gone.is_gone s ≡ false) (λ s. refl) m.tree.body.statements)))

  methods-stay : (xs : List (EntryOf Name)) → UnfoldsMethods (resolved_image i) gone (map (resolved_entry i) xs) (map (resolved_entry j) xs)
  methods-stay [] = no_methods
  methods-stay (m ∷ xs) = kept (record { class = refl; meta = refl; selector = refl; place = None; opens = tt; doing = doing-stays m m.tree.primitive }) (methods-stay xs)

  doits-stay : (ds : List (DoItOf Name)) → UnfoldsDoIts (resolved_image i) gone (map (resolved_doit i) ds) (map (resolved_doit j) ds)
  doits-stay [] = no_doits
  doits-stay (d ∷ ds) =
      next_doit (subst (λ c. UnfoldsCode (resolved_image i) gone (outermost_context None) (resolved_doit i d) c) (doit-resolved i d ∙ sym (doit-resolved j d)) (doit-same i gone d (all-statements (λ s. gone.is_gone s ≡ false) (λ s. refl) d.body.statements))) (doits-stay ds)

module _ (control : ControlLaw) (i : ImageOf Name) (l : ImageOf Name) (h : IsLetOnce i l) where
  abbrev reach : ℕ
  reach = method-reach h.step

  abbrev after_methods : List (EntryOf Name)
  after_methods = h.earlier ++ h.changed ∷ h.later

  abbrev allowed : Allowed
  allowed = gone control i after_methods reach

  -- the method that changes
  code-changes : UnfoldsCode (resolved_image i) allowed (outermost_context None) (resolved_method i h.method) (resolved_method (j control i after_methods reach) h.changed)
  code-changes =
      subst (λ c. UnfoldsCode (resolved_image i) allowed (outermost_context None) c (resolved_method (j control i after_methods reach) h.changed)) (h.code_before ∙ sym (method-resolved i h.method))
      (subst (λ c. UnfoldsCode (resolved_image i) allowed (outermost_context None) (code_in (outer_of i h.method) [] h.setting.arguments h.setting.body) c) (h.code_after ∙ other ∙ sym (method-resolved (j control i after_methods reach) h.changed))
      (let-method control (resolved_image i) allowed (outer_of i h.method) (λ n. means-outside i.classes (chain text_eq i.classes h.method.class) h.method.meta n) (λ s. refl) h.setting h.inlined h.step (le_refl reach)))
    where
      other : code_in (outer_of i h.method) [] h.changed.tree.arguments h.changed.tree.body ≡ code_in (outer_of (j control i after_methods reach) h.changed) [] h.changed.tree.arguments h.changed.tree.body
      other = λ k. code_in (λ n. means_along text_words i.classes (chain text_eq i.classes (h.class k)) (h.meta k) n) [] h.changed.tree.arguments h.changed.tree.body

  doing-changes : (o o' : Option ℕ) → o ≡ o' → UnfoldsDoing (resolved_image i) allowed None (doing_of i h.method o) (doing_of (j control i after_methods reach) h.changed o')
  doing-changes (Some n) (Some k) e = subst (λ x. UnfoldsDoing (resolved_image i) allowed None (doing_of i h.method (Some n)) (doing_of (j control i after_methods reach) h.changed x)) e (same_primitive n)
  doing-changes (Some n) None e = absurd (cc)
  doing-changes None (Some k) e = absurd (cc)
  doing-changes None None e = unfolds_code code-changes

  methods-change : (xs : List (EntryOf Name)) → UnfoldsMethods (resolved_image i) allowed (map (resolved_entry i) (xs ++ h.method ∷ h.later)) (map (resolved_entry (j control i after_methods reach)) (xs ++ h.changed ∷ h.later))
  methods-change [] =
      kept (record { class = h.class; meta = h.meta; selector = h.selector; place = None; opens = tt; doing = doing-changes h.method.tree.primitive h.changed.tree.primitive h.primitive }) (methods-stay control i after_methods reach h.later)
  methods-change (m ∷ xs) =
      kept (record { class = refl; meta = refl; selector = refl; place = None; opens = tt; doing = doing-stays control i after_methods reach m m.tree.primitive }) (methods-change xs)

  pub let-unfolds : AllByRecursion (λ (c : ClassOf Name). text_eq [] c.name ≡ false) i.classes → IsUnfolded (resolved_image i) (resolved_image l)
  let-unfolds named =
      subst (λ x. IsUnfolded (resolved_image i) (resolved_image x)) (sym h.after)
      (record {
        gone = allowed;
        classes = refl;
        named = named-so i i.classes named;
        methods = subst (λ xs. UnfoldsMethods (resolved_image i) allowed (map (resolved_entry i) xs) (map (resolved_entry (j control i after_methods reach)) after_methods)) (sym h.methods) (methods-change h.earlier);
        doits = doits-stay control i after_methods reach i.doits;
      })
