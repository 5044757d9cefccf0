-- Where no condition of `inlineMethod` is false, the image before unfolds to the one after.
use Rattle.std.proofs.Common.{◌≡◌, ℕ, Option, Some, None, refl, sym, subst}
use Rattle.std.specs.Prelude.{Bool}
use Rattle.rb_base.specs.Names.{text_eq}
use Rattle.tree_model.specs.Tree.{TreeOf}
use Rattle.image_model.specs.Image.{EntryOf, ImageOf}
use Rattle.run_model.specs.Values.{Name}
use Rattle.resolved_model.specs.ResolvedImages.{resolved_image}
use Rattle.rename_model.specs.ClassRenamed.{WritingOf}
use Rattle.unfolded_calls.specs.Unfolding.{IsUnfolded}
use Rattle.unfolded_places.proofs.Congruence.{ControlLaw}
use Rattle.command_model.specs.Asked.{text_asked}
use Rattle.command_model.specs.CodeAllowed.{MayInlineMethod}
use Rattle.command_model.specs.Commands.{InlineMethod}
use Rattle.command_model.specs.Effects.{effect}
use Rattle.command_model.specs.Inlined.{answered}
use Rattle.command_model.specs.Judged.{first_false}
use Rattle.command_model.specs.Places.{SendOf}
use Rattle.command_model.specs.Sequences.{with_tree}
use Rattle.command_model.proofs.Held.{all-hold}
use Rattle.moved_code_laws.specs.WellWritten.{IsWellWritten}
use Rattle.moved_code_laws.proofs.SendFound.{answered-so, effect-so}
use Rattle.moved_code_laws.proofs.InlinedHere.{Scene, image-inlined}
use Rattle.moved_code_laws.proofs.ConditionsInlined.{sent, runs, found, scene, plain, control as makes-none}
use Rattle.moved_code_laws.proofs.StatementsThere.{AnswersLast, last-answers, message-there}
use Rattle.moved_code_laws.proofs.RunInlined.{tree_after, image-unfolds, effect-run}

module _ (control : ControlLaw) (writing : WritingOf Name) (i : ImageOf Name) (c : Name) (meta : Bool) (s : Name) (from to : ℕ) (sound : IsWellWritten i) (none : first_false text_asked i (InlineMethod c meta s from to) ≡ None) where
  abbrev after : ImageOf Name
  after = effect text_asked writing (InlineMethod c meta s from to) i

  hold : MayInlineMethod text_asked i (InlineMethod c meta s from to) c meta s from to
  hold = all-hold text_asked i (InlineMethod c meta s from to) none

  -- the method with the message, the message, and the method that it runs
  abbrev m : EntryOf Name
  m = (sent i sound c meta s from to hold).0.0

  abbrev e : SendOf Name
  e = (sent i sound c meta s from to hold).0.1

  abbrev target : EntryOf Name
  target = (runs i sound c meta s from to hold).0

  abbrev of_it : Scene i c meta m e target
  of_it = scene i sound c meta s from to hold

  -- that answers an expression
  by-answer : (t : TreeOf Name) → answered target.tree.body.statements ≡ Some t → IsUnfolded (resolved_image i) (resolved_image after)
  by-answer t h =
      let answers = answered-so target.tree.body.statements t h in
      subst (λ j. IsUnfolded (resolved_image i) (resolved_image j))
      (sym (effect-so i c meta s from to (m, e) (sent i sound c meta s from to hold).1 target (runs i sound c meta s from to hold).1 answers.0 t answers.1 writing))
      (image-inlined i sound c meta m e target of_it control answers.0 t answers.1 (makes-none i sound c meta s from to hold) writing s (found i sound c meta s from to hold) (plain i sound c meta s from to hold))

  -- or does more, or less
  by-statements : answered target.tree.body.statements ≡ None → IsUnfolded (resolved_image i) (resolved_image after)
  by-statements quiet =
      let last : AnswersLast target.tree.body.statements = last-answers i c meta m e target of_it quiet in
      let at = message-there i c meta m e target of_it quiet in
      let then : ImageOf Name = with_tree text_eq writing c meta s (tree_after control i sound c meta m e target of_it last at) i in
      subst (λ j. IsUnfolded (resolved_image i) (resolved_image j)) {x = then}
      (sym {b = then} (effect-run control i sound c meta m e target of_it last at quiet writing s from to (m, e) (sent i sound c meta s from to hold).1 refl refl (runs i sound c meta s from to hold).1))
      (image-unfolds control i sound c meta m e target of_it last at writing s (found i sound c meta s from to hold) (plain i sound c meta s from to hold))

  pub message-unfolds : IsUnfolded (resolved_image i) (resolved_image after)
  message-unfolds = by (answered target.tree.body.statements) refl
    where
      by : (o : Option (TreeOf Name)) → answered target.tree.body.statements ≡ o → IsUnfolded (resolved_image i) (resolved_image after)
      by (Some t) h = by-answer t h
      by None h = by-statements h
