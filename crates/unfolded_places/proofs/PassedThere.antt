-- A send to self that passes temporaries which no closure assigns unfolds to the expression that its method answers.
use Rattle.std.proofs.Common.{◌≡◌, ℕ, List, [], length, Option, Some, None, refl, sym, ap, ◌∙◌, subst}
use Rattle.std.specs.Prelude.{Bool, true, false, not, slice_get, codes}
use Rattle.std.specs.List.{list_any}
use Rattle.std.proofs.lemmas.Bool.{false_from_ne_true}
use Rattle.rb_base.specs.Names.{text_eq}
use Rattle.tree_model.specs.Tree.{TreeOf, var, send, return, TreesOf, no_statements, more_statements, Notes}
use Rattle.scope_model.specs.SpecialNames.{is_pseudo_variable, control_form}
use Rattle.scope_model.specs.Control.{is_control}
use Rattle.scope_model.specs.Scope.{PlacedScope}
use Rattle.scope_model.specs.Uses.{UseOf}
use Rattle.image_model.specs.Image.{EntryOf, ImageOf}
use Rattle.image_model.specs.Words.{text_words}
use Rattle.image_model.specs.Chain.{chain}
use Rattle.image_model.specs.Means.{MeaningOf, means_outside}
use Rattle.run_model.specs.Values.{Name}
use Rattle.run_model.specs.Shapes.{shape_of}
use Rattle.resolved_model.specs.ResolvedTrees.{of_local, reading, sending, returning, no_lines, more_lines}
use Rattle.resolved_model.specs.ResolvedImages.{by_code, doing_of, resolved_entry, resolved_image}
use Rattle.resolved_model.specs.ResolvedEval.{reads_super}
use Rattle.resolved_model.specs.ResolvedShapes.{resolved_shape}
use Rattle.resolved_model.specs.ResolvedTrees.{ResolvedStatements}
use Rattle.resolved_model.specs.Environments.{opened, kind_in, place_in, declared_in, tree_in, trees_in, statements_in}
use Rattle.resolved_model.proofs.ResolvingLemmas.{method-resolved}
use Rattle.resolved_model.proofs.ShapeLemmas.{shape-in}
use Rattle.unfolded_calls.specs.Unfolding.{Allowed, StandIn, an_argument, a_lent, Context, opened as opened_context, Actual, temporary_actual, far_actual, Actuals, no_actuals, more_actuals, IsTarget, IsPlace, Unfolds, unfolded_value}
use Rattle.unfolded_calls.specs.SameContexts.{IsOutside}
use Rattle.unfolded_calls.proofs.Untouched.{means-outside}
use Rattle.unfolded_places.specs.Becoming.{Becomes}
use Rattle.unfolded_places.specs.Inlining.{passed_for, Filling, filling}
use Rattle.unfolded_places.specs.Passed.{PassedActual, passed_plain, passed_temporary, PassedActuals, passed_none, passed_more}
use Rattle.unfolded_places.proofs.Congruence.{ControlLaw, so-message, super-named}
use Rattle.unfolded_places.proofs.NamesThere.{local-read}
use Rattle.unfolded_places.proofs.Inlined.{HasArguments, actual-there, self-there, code-answers}
use Rattle.unfolded_places.proofs.UsesApart.{uses_of, is_read_far}
use Rattle.unfolded_places.proofs.Moves.{tree-moves}
use Rattle.unfolded_places.proofs.Slots.{IsSlot, slot_argument, slot_shared, slot_steady, slot_far}
use Rattle.unfolded_places.proofs.StandsThere.{keeps_in, Stands}
use Rattle.unfolded_places.proofs.LentFilled.{IsLent, lent-held, lent-first}

-- an argument at its place
argument-slot : (n : Name) (us : List (UseOf Name)) (s : Bool) (k : ℕ) (o : Option StandIn) → IsSlot n us s false k o → o ≡ Some (an_argument k)
argument-slot n us _ k _ slot_argument = refl

-- a temporary that no closure assigns
kept-slot : (n : Name) (us : List (UseOf Name)) (g : Context) (s : Bool) (k : ℕ) (o : Option StandIn) → slice_get g.locals k ≡ o → s ≡ true → IsSlot n us s true k o → Actual g (reading (of_local k)) (a_lent k)
kept-slot n us g _ k _ e q slot_shared = absurd (cc)
kept-slot n us g _ k _ e q (slot_steady r) = temporary_actual k k e
kept-slot n us g _ k _ e q (slot_far r) = far_actual k k e

module _ (i : ImageOf Name) (gone : Allowed) (f : Name → MeaningOf Name) (outside : (n : Name) → IsOutside (f n)) (place : Option (Name × Bool)) (g : Context) (C : List (PlacedScope Name)) (us : List (UseOf Name)) (h : Stands (resolved_image i) gone f outside place g C us) where
  arguments-there : HasArguments g (declared_in C)
  arguments-there n p e = argument-slot n us (keeps_in C n) (place_in (declared_in C) n) (slice_get g.locals (place_in (declared_in C) n)) (h.slots n false p e)

  passed-there : (t : TreeOf Name) (a : StandIn) → PassedActual f (declared_in C) (keeps_in C) t a → Actual g (tree_in f (declared_in C) t) a
  passed-there t a (passed_plain p) = actual-there f g (declared_in C) arguments-there t a p
  passed-there _ _ (passed_temporary n p e k) =
      subst (λ r. Actual g (reading r) (a_lent (place_in (declared_in C) n))) (sym (local-read (declared_in C) (f n) n true p e))
      (kept-slot n us g (keeps_in C n) (place_in (declared_in C) n) (slice_get g.locals (place_in (declared_in C) n)) refl k (h.slots n true p e))

  pub all-passed : (ts : TreesOf Name) (actuals : List StandIn) → PassedActuals f (declared_in C) (keeps_in C) ts actuals → Actuals g (trees_in f (declared_in C) ts) actuals
  all-passed _ _ passed_none = no_actuals
  all-passed _ _ (passed_more {t = t} {ts = ts} {a = a} {rest = rest} p r) = more_actuals (passed-there t a p) (all-passed ts rest r)

module _ (control : ControlLaw) (i : ImageOf Name) (gone : Allowed) (m : EntryOf Name) (class : Name) (meta : Bool) (C : List (PlacedScope Name)) where
  abbrev pub outer : Name → MeaningOf Name
  outer n = means_outside text_words i m.class m.meta n

  pub outer-outside : (n : Name) → IsOutside (outer n)
  outer-outside n = means-outside i.classes (chain text_eq i.classes m.class) m.meta n

  -- A message to self in a method, inside these scopes, and the method that it runs, which has no temporaries and is no primitive; what it passes is plain, or a temporary that no closure assigns. `super` stands in that method only where both are of one class and side.
  pub record IsPassing (selector : Name) (passed : TreesOf Name) : Type 0 where
    pub message : is_control control_form (send (var (codes "self")) selector passed) ≡ false
    pub target : EntryOf Name
    pub found : IsTarget (resolved_image i) gone class meta selector (resolved_entry i target)
    pub primitive : target.tree.primitive ≡ None
    pub temporaries : target.tree.body.temporaries ≡ []
    pub supers : Bool
    pub above : supers ≡ true → (target.class ≡ Some class) × (target.meta ≡ meta)
    pub actuals : List StandIn
    pub passes : PassedActuals outer (declared_in C) (keeps_in C) passed actuals
    pub count : length target.tree.arguments ≡ length actuals

  module _ (selector : Name) (passed : TreesOf Name) (x : IsPassing selector passed) where
    abbrev pub before : Name → MeaningOf Name
    before n = means_outside text_words i x.target.class x.target.meta n

    pub before-outside : (n : Name) → IsOutside (before n)
    before-outside n = means-outside i.classes (chain text_eq i.classes x.target.class) x.target.meta n

    abbrev pub passing : Filling
    passing = record { arguments = x.target.tree.arguments; passed = passed; before = before; after = outer; round = declared_in C }

    -- no argument for which a temporary is passed is read in a closure of this part
    abbrev pub IsNear : TreeOf Name → Type 0
    IsNear t = (n y : Name) → is_pseudo_variable n ≡ false → passed_for x.target.tree.arguments passed n ≡ Some (var y) → is_pseudo_variable y ≡ false → kind_in (declared_in C) y ≡ Some true → list_any (is_read_far n) (uses_of false t) ≡ false

    -- its code
    pub code-there : (ss : ResolvedStatements) → statements_in before (opened x.target.tree.arguments [] []) x.target.tree.body.statements ≡ ss → doing_of i x.target x.target.tree.primitive ≡ by_code (record { parameters = length x.actuals; temporaries = 0; statements = ss })
    code-there ss e =
        ap (doing_of i x.target) x.primitive
        ∙ ap by_code (method-resolved i x.target ∙ code-answers control i gone x.target before [] x.target.tree.body.statements (length x.actuals) x.temporaries refl x.count ∙ ap (λ (y : ResolvedStatements). record { parameters = length x.actuals; temporaries = 0; statements = y }) e)

    -- a part of its body there
    pub part-passed : (t u : TreeOf Name) → IsNear t → Becomes (filling passing x.supers gone.is_gone) (opened x.target.tree.arguments [] []) (declared_in C) t u →
        Unfolds (resolved_image i) gone (opened_context x.actuals x.supers) (tree_in before (opened x.target.tree.arguments [] []) t) (tree_in outer (declared_in C) u)
    part-passed t u near b =
        (tree-moves control (resolved_image i) gone (filling passing x.supers gone.is_gone) before outer (IsLent (resolved_image i) gone passing x.supers before-outside) (lent-held (resolved_image i) gone passing x.supers before-outside control)
        false (opened_context x.actuals x.supers) (opened x.target.tree.arguments [] []) (declared_in C) t u
        (lent-first (resolved_image i) gone passing x.supers before-outside (keeps_in C) x.actuals (uses_of false t) x.passes near) b).whole refl

    module _ (g : Context) (us : List (UseOf Name)) (h : Stands (resolved_image i) gone outer outer-outside (Some (class, meta)) g C us) where
      pub place-there : (ss : ResolvedStatements) → statements_in before (opened x.target.tree.arguments [] []) x.target.tree.body.statements ≡ ss →
          IsPlace (resolved_image i) gone g selector (trees_in outer (declared_in C) passed) (record { parameters = length x.actuals; temporaries = 0; statements = ss }) x.supers
      place-there ss e = record {
        class = class;
        meta = meta;
        method = resolved_entry i x.target;
        here = h.standing;
        target = x.found;
        doing = code-there ss e;
        shape =
            ap (λ y. resolved_shape selector y (trees_in outer (declared_in C) passed)) (sym (self-there outer (declared_in C))) ∙ shape-in outer (declared_in C) selector (var (codes "self")) passed
            ∙ so-message control outer outer (declared_in C) (declared_in C) (shape_of selector (var (codes "self")) passed) (control selector (var (codes "self")) passed ∙ ap not x.message);
        above = λ e. (h.supers, (x.above e).0, (x.above e).1);
      }

      -- the expression that it answers
      pub call-unfolds : (note : Notes) (answer u : TreeOf Name) → x.target.tree.body.statements ≡ more_statements note (return answer) no_statements → (answer ≡ var (codes "super") → ⊥) → IsNear answer →
          Becomes (filling passing x.supers gone.is_gone) (opened x.target.tree.arguments [] []) (declared_in C) answer u →
          Unfolds (resolved_image i) gone g (tree_in outer (declared_in C) (send (var (codes "self")) selector passed)) (tree_in outer (declared_in C) u)
      call-unfolds note answer u answers no_super near b =
          subst (λ y. Unfolds (resolved_image i) gone g (sending y selector (trees_in outer (declared_in C) passed)) (tree_in outer (declared_in C) u)) (sym (self-there outer (declared_in C)))
          (unfolded_value x.actuals x.supers
          (place-there (more_lines (returning (tree_in before (opened x.target.tree.arguments [] []) answer)) no_lines) (ap (statements_in before (opened x.target.tree.arguments [] [])) answers))
          (all-passed i gone outer outer-outside (Some (class, meta)) g C us h passed x.actuals x.passes)
          (false_from_ne_true (reads_super (tree_in before (opened x.target.tree.arguments [] []) answer)) (λ e. no_super (super-named before (opened x.target.tree.arguments [] []) answer e)))
          (part-passed answer u near b))
