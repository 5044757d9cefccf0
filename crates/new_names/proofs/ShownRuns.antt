-- Renamings that say the same of classes and selectors match the same images.
use Rattle.std.proofs.Common.{◌≡◌, List, [], ◌∷◌, map, refl, sym, ap, ◌∙◌, subst}
use Rattle.image_model.specs.Image.{ImageOf}
use Rattle.run_model.specs.Values.{Name, Atom, class_atom, object_atom, View, one, items, Event, shown, printed, RunError, does_not_understand, not_assignable, Outcome, done, failed, spent}
use Rattle.run_model.specs.Prefixes.{IsPrefixOf}
use Rattle.run_model.specs.Runs.{RunOf, run}
use Rattle.run_model.specs.Renamings.{Renaming, class_image, selector_image, renamed_atom, renamed_view, renamed_event, renamed_events, renamed_error, renamed_outcome}
use Rattle.run_model.specs.Matched.{IsMatchedBy, IsMatchedBefore, AreMatched}
use Rattle.new_names.specs.Shown.{ShowsTheSame}

module _ (r q : Renaming) (same : ShowsTheSame r q) where
  atom-shown : (a : Atom) → renamed_atom r a ≡ renamed_atom q a
  atom-shown (class_atom c) = ap class_atom (same.classes c)
  atom-shown (object_atom c) = ap object_atom (same.classes c)
  atom-shown a = refl

  atoms-shown : (xs : List Atom) → map (renamed_atom r) xs ≡ map (renamed_atom q) xs
  atoms-shown [] = refl
  atoms-shown (a ∷ xs) = ap (λ b. b ∷ map (renamed_atom r) xs) (atom-shown a) ∙ ap (λ bs. renamed_atom q a ∷ bs) (atoms-shown xs)

  view-shown : (v : View) → renamed_view r v ≡ renamed_view q v
  view-shown (one a) = ap one (atom-shown a)
  view-shown (items xs) = ap items (atoms-shown xs)

  event-shown : (e : Event) → renamed_event r e ≡ renamed_event q e
  event-shown (shown t) = refl
  event-shown (printed v) = ap printed (view-shown v)

  events-shown : (es : List Event) → renamed_events r es ≡ renamed_events q es
  events-shown [] = refl
  events-shown (e ∷ es) = ap (λ b. b ∷ renamed_events r es) (event-shown e) ∙ ap (λ bs. renamed_event q e ∷ bs) (events-shown es)

  error-shown : (e : RunError) → renamed_error r e ≡ renamed_error q e
  error-shown (does_not_understand c meta s) =
      ap (λ d. does_not_understand d meta (selector_image r s)) (same.classes c) ∙ ap (λ t. does_not_understand (class_image q c) meta t) (same.selectors s)
  error-shown (not_assignable n) = ap not_assignable (same.classes n)
  error-shown e = refl

  outcome-shown : (o : Outcome) → renamed_outcome r o ≡ renamed_outcome q o
  outcome-shown (done v) = ap done (view-shown v)
  outcome-shown (failed e) = ap failed (error-shown e)
  outcome-shown spent = refl

  by-shown : (x y : RunOf) → IsMatchedBy r x y → IsMatchedBy q x y
  by-shown x y m = record {
    ended = λ e. let a = m.ended e in (a.0, a.1 ∙ events-shown x.events, a.2 ∙ outcome-shown x.outcome);
    spent = λ e. subst (λ es. IsPrefixOf es y.events) (events-shown x.events) (m.spent e);
  }

  before-shown : (x y : RunOf) → IsMatchedBefore r x y → IsMatchedBefore q x y
  before-shown x y m = record {
    ended = λ e. let a = m.ended e in (a.0, sym (events-shown y.events) ∙ a.1, sym (outcome-shown y.outcome) ∙ a.2);
    spent = λ e. subst (λ es. IsPrefixOf x.events es) (events-shown y.events) (m.spent e);
  }

  pub images-shown : (i j : ImageOf Name) → AreMatched i j r → AreMatched i j q
  images-shown i j m = record {
    forward = λ n. let a = m.forward n in (a.0, by-shown (run i n) (run j a.0) a.1);
    backward = λ n. let a = m.backward n in (a.0, before-shown (run j n) (run i a.0) a.1);
  }
