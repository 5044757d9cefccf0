-- A send to self unfolds to the expression that its method answers.
use Rattle.std.proofs.Common.{◌≡◌, ℕ, ◌+◌, List, [], length, Some, refl, sym, ap, ◌∙◌, subst, arith}
use Rattle.std.specs.Prelude.{false, not, slice_get, codes}
use Rattle.std.proofs.lemmas.Bool.{false_from_ne_true}
use Rattle.rb_base.specs.Names.{text_eq}
use Rattle.tree_model.specs.Tree.{TreeOf, var, return, TreesOf, StatementsOf, no_statements, more_statements}
use Rattle.scope_model.specs.SpecialNames.{is_pseudo_variable}
use Rattle.image_model.specs.Image.{EntryOf, ImageOf}
use Rattle.image_model.specs.Words.{text_words}
use Rattle.image_model.specs.Chain.{chain}
use Rattle.image_model.specs.Means.{MeaningOf, means_outside}
use Rattle.run_model.specs.Values.{Name}
use Rattle.run_model.specs.Shapes.{shape_of}
use Rattle.resolved_model.specs.ResolvedTrees.{of_word, ResolvedTree, reading, sending, returning, no_lines, more_lines, ResolvedCode}
use Rattle.resolved_model.specs.ResolvedImages.{by_code, doing_of, resolved_entry, resolved_image}
use Rattle.resolved_model.specs.ResolvedEval.{reads_super}
use Rattle.resolved_model.specs.ResolvedShapes.{plain_code, resolved_shape}
use Rattle.resolved_model.specs.Resolving.{reference_of}
use Rattle.resolved_model.specs.Environments.{Declared, opened, kind_in, place_in, tree_in, trees_in, statements_in, code_in}
use Rattle.resolved_model.proofs.ResolvingLemmas.{method-resolved}
use Rattle.resolved_model.proofs.ShapeLemmas.{shape-in}
use Rattle.unfolded_calls.specs.Unfolding.{Allowed, StandIn, an_argument, a_self, a_nil, a_true, a_false, a_class, Context, opened as opened_context, Actual, self_actual, nil_actual, true_actual, false_actual, number_actual, string_actual, symbol_actual, char_actual, class_actual, argument_actual, Actuals, no_actuals, more_actuals, Unfolds, unfolded_value}
use Rattle.unfolded_calls.specs.SameContexts.{same_locals}
use Rattle.unfolded_calls.proofs.Untouched.{local-at, means-outside}
use Rattle.unfolded_places.specs.Inlining.{PlainActual, plain_self, plain_nil, plain_true, plain_false, plain_number, plain_string, plain_symbol, plain_char, plain_argument, plain_class, PlainActuals, plain_none, plain_more, Filling, filling, IsInlined, IsStored}
use Rattle.unfolded_places.proofs.Congruence.{ControlLaw, so-message, super-named, tree-becomes}
use Rattle.unfolded_places.proofs.NamesThere.{word-read, local-read, outer-read}
use Rattle.unfolded_places.specs.Standing.{AllPartsUnfold, AllPartsNoBlocks}
use Rattle.unfolded_places.proofs.Filled.{IsFilled, kept-filled, filled-first}

-- actuals at the place, where arguments stand at theirs
abbrev pub HasArguments : Context → List Declared → Type 0
HasArguments g A = (n : Name) → is_pseudo_variable n ≡ false → kind_in A n ≡ Some false → slice_get g.locals (place_in A n) ≡ Some (an_argument (place_in A n))

pub actual-there : (f : Name → MeaningOf Name) (g : Context) (A : List Declared) → HasArguments g A → (t : TreeOf Name) (a : StandIn) → PlainActual f A t a → Actual g (tree_in f A t) a
unfolding is_pseudo_variable
actual-there f g A there _ _ plain_self = subst (λ r. Actual g (reading r) a_self) (sym (word-read A (f (codes "self")) (codes "self") refl)) self_actual
actual-there f g A there _ _ plain_nil = subst (λ r. Actual g (reading r) a_nil) (sym (word-read A (f (codes "nil")) (codes "nil") refl)) nil_actual
actual-there f g A there _ _ plain_true = subst (λ r. Actual g (reading r) a_true) (sym (word-read A (f (codes "true")) (codes "true") refl)) true_actual
actual-there f g A there _ _ plain_false = subst (λ r. Actual g (reading r) a_false) (sym (word-read A (f (codes "false")) (codes "false") refl)) false_actual
actual-there f g A there _ _ (plain_number t z e) = number_actual t z e
actual-there f g A there _ _ (plain_string t) = string_actual t
actual-there f g A there _ _ (plain_symbol t) = symbol_actual t
actual-there f g A there _ _ (plain_char b) = char_actual b
actual-there f g A there _ _ (plain_argument n p e) =
    subst (λ r. Actual g (reading r) (an_argument (place_in A n))) (sym (local-read A (f n) n false p e)) (argument_actual (place_in A n) (place_in A n) (there n p e))
actual-there f g A there _ _ (plain_class n c p e q) =
    subst (λ r. Actual g (reading r) (a_class c)) (sym (outer-read A (f n) n p e ∙ ap (λ m. reference_of m (place_in A n) n) q)) (class_actual c)

pub actuals-there : (f : Name → MeaningOf Name) (g : Context) (A : List Declared) → g.locals ≡ same_locals A 0 → (ts : TreesOf Name) (actuals : List StandIn) → PlainActuals f A ts actuals → Actuals g (trees_in f A ts) actuals
actuals-there f g A same _ _ plain_none = no_actuals
actuals-there f g A same _ _ (plain_more {t = t} {ts = ts} {a = a} {rest = rest} p r) =
    more_actuals (actual-there f g A (λ n q e. ap (λ l. slice_get l (place_in A n)) same ∙ local-at A n false 0 e ∙ ap (λ k. Some (an_argument k)) (none (place_in A n))) t a p) (actuals-there f g A same ts rest r)
  where
    none : (k : ℕ) → 0 + k ≡ k
    none k = omega arith

-- `self`
pub self-there : (f : Name → MeaningOf Name) (A : List Declared) → tree_in f A (var (codes "self")) ≡ reading (of_word (codes "self"))
unfolding is_pseudo_variable
self-there f A = ap reading (word-read A (f (codes "self")) (codes "self") refl)

module _ (control : ControlLaw) (i : ImageOf Name) (gone : Allowed) where
  -- the code of a method that answers an expression
  abbrev answering : ℕ → ResolvedTree → ResolvedCode
  answering n e = record { parameters = n; temporaries = 0; statements = more_lines (returning e) no_lines }

  pub code-answers : (m : EntryOf Name) (f : Name → MeaningOf Name) (ts : List Name) (ss : StatementsOf Name) (n : ℕ) → m.tree.body.temporaries ≡ ts → m.tree.body.statements ≡ ss → length m.tree.arguments ≡ n →
      code_in f [] m.tree.arguments m.tree.body ≡ record { parameters = n; temporaries = length ts; statements = statements_in f (opened m.tree.arguments ts []) ss }
  code-answers m f ts ss n p q r = λ k. record { parameters = r k; temporaries = length (p k); statements = statements_in f (opened m.tree.arguments (p k) []) (q k) }

  -- a send that is inlined
  pub inlined-unfolds : AllPartsUnfold i gone (IsInlined i gone) (IsStored i gone)
  inlined-unfolds m place g A t u h x =
      subst (λ y. Unfolds (resolved_image i) gone g (tree_in f A y) (tree_in f A u)) (sym x.sends)
      (subst (λ y. Unfolds (resolved_image i) gone g (sending y x.selector (trees_in f A x.passed)) (tree_in f A u)) (sym (self-there f A))
      (unfolded_value x.actuals x.supers
      (record {
        class = x.class;
        meta = x.meta;
        method = resolved_entry i x.target;
        here = h.standing ∙ x.here;
        target = x.found;
        doing =
            ap (doing_of i x.target) x.primitive
            ∙ ap by_code (method-resolved i x.target ∙ code-answers x.target before [] (more_statements x.note (return x.answer) no_statements) (length x.actuals) x.temporaries x.answers x.count);
        shape =
            ap (λ y. resolved_shape x.selector y (trees_in f A x.passed)) (sym (self-there f A)) ∙ shape-in f A x.selector (var (codes "self")) x.passed
            ∙ so-message control f f A A (shape_of x.selector (var (codes "self")) x.passed) (control x.selector (var (codes "self")) x.passed ∙ ap not x.message);
        above = λ e. (h.keeps.supers, (x.above e).0, (x.above e).1);
      })
      (actuals-there f g A h.keeps.locals x.passed x.actuals x.plain)
      (false_from_ne_true (reads_super (tree_in before (opened x.target.tree.arguments [] []) x.answer)) (λ e. x.no_super (super-named before (opened x.target.tree.arguments [] []) x.answer e)))
      (tree-becomes control (resolved_image i) gone (filling z x.supers gone.is_gone) before f (IsFilled (resolved_image i) gone z x.supers outside x.actuals x.plain)
      (kept-filled (resolved_image i) gone z x.supers outside x.actuals x.plain control)
      (opened_context x.actuals x.supers) (opened x.target.tree.arguments [] []) A x.answer u (filled-first (resolved_image i) gone z x.supers outside x.actuals x.plain) x.filled)))
    where
      f : Name → MeaningOf Name
      f n = means_outside text_words i m.class m.meta n

      before : Name → MeaningOf Name
      before n = means_outside text_words i x.target.class x.target.meta n

      outside : (n : Name) → Rattle.unfolded_calls.specs.SameContexts.IsOutside (before n)
      outside n = means-outside i.classes (chain text_eq i.classes x.target.class) x.target.meta n

      z : Filling
      z = record { arguments = x.target.tree.arguments; passed = x.passed; before = λ n. means_outside text_words i x.target.class x.target.meta n; after = λ n. means_outside text_words i m.class m.meta n; round = A }

  pub inlined-blocks : AllPartsNoBlocks i gone (IsInlined i gone) (IsStored i gone)
  inlined-blocks m place A t u x = ap (λ y. plain_code (tree_in (λ n. means_outside text_words i m.class m.meta n) A y)) x.sends
