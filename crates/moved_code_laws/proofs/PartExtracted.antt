-- Where no condition of `extractMethod` is false, the image after unfolds to the one before.
use Rattle.std.proofs.Common.{◌≡◌, ℕ, List, None, refl, sym, subst}
use Rattle.std.specs.Prelude.{Bool}
use Rattle.tree_model.specs.Tree.{StatementsOf}
use Rattle.scope_model.specs.FreeNames.{statements_at}
use Rattle.image_model.specs.Image.{EntryOf, ImageOf}
use Rattle.run_model.specs.Values.{Name}
use Rattle.resolved_model.specs.ResolvedImages.{resolved_image}
use Rattle.rename_model.specs.ClassRenamed.{WritingOf}
use Rattle.unfolded_calls.specs.Unfolding.{IsUnfolded}
use Rattle.unfolded_places.proofs.Congruence.{ControlLaw}
use Rattle.command_model.specs.Asked.{text_asked}
use Rattle.command_model.specs.CodeAllowed.{MayExtractMethod}
use Rattle.command_model.specs.Commands.{ExtractMethod}
use Rattle.command_model.specs.Effects.{effect}
use Rattle.command_model.specs.Judged.{first_false}
use Rattle.command_model.specs.Parts.{Part, Expression, Run}
use Rattle.command_model.proofs.Held.{all-hold}
use Rattle.moved_code_laws.specs.WellWritten.{IsWellWritten}
use Rattle.moved_code_laws.proofs.InlinedHere.{named-classes}
use Rattle.moved_code_laws.proofs.ExtractedHere.{effect-extracted, image-extracted}
use Rattle.moved_code_laws.proofs.RunTaken.{used-there, image-unfolds, effect-taken}
use Rattle.moved_code_laws.proofs.ConditionsExtracted.{part, node, plain, taking, taking_run}

module _ (control : ControlLaw) (writing : WritingOf Name) (i : ImageOf Name) (c : Name) (meta : Bool) (s : Name) (from to : ℕ) (t : Name) (sound : IsWellWritten i) (none : first_false text_asked i (ExtractMethod c meta s from to t) ≡ None) where
  abbrev after : ImageOf Name
  after = effect text_asked writing (ExtractMethod c meta s from to t) i

  hold : MayExtractMethod text_asked i (ExtractMethod c meta s from to t) c meta s from to t
  hold = all-hold text_asked i (ExtractMethod c meta s from to t) none

  -- the method with the part
  abbrev m : EntryOf Name
  m = (part i c meta s from to sound t hold).0.0

  -- an expression
  by-expression : (path : List ℕ) → (part i c meta s from to sound t hold).0.1 ≡ Expression path → IsUnfolded (resolved_image after) (resolved_image i)
  by-expression path is =
      let u = node i c meta s from to sound t hold path is in
      let scene = taking i c meta s from to sound t hold path is in
      subst (λ j. IsUnfolded (resolved_image j) (resolved_image i))
      (sym (effect-extracted writing i sound c meta s t m path u.0 scene from to (part i c meta s from to sound t hold).0 (part i c meta s from to sound t hold).1 refl is))
      (image-extracted writing i sound c meta s t m path u.0 scene control (plain i c meta s from to sound t hold) (named-classes i sound))

  -- or statements
  by-run : (path : List ℕ) (first n : ℕ) → (part i c meta s from to sound t hold).0.1 ≡ Run path first n → IsUnfolded (resolved_image after) (resolved_image i)
  by-run path first n is =
      let scene = taking_run i c meta s from to sound t hold path first n is in
      let ss : StatementsOf Name = statements_at m.tree.body path in
      let used = used-there m.tree path first n scene.unused in
      subst (λ j. IsUnfolded (resolved_image j) (resolved_image i))
      (sym (effect-taken control writing i sound c meta s t m path first n scene ss used.0 used.1 refl from to (part i c meta s from to sound t hold).0 (part i c meta s from to sound t hold).1 refl is))
      (image-unfolds control writing i sound c meta s t m path first n scene ss used.0 used.1 refl (named-classes i sound))

  pub part-unfolds : IsUnfolded (resolved_image after) (resolved_image i)
  part-unfolds = by (part i c meta s from to sound t hold).0.1 refl
    where
      by : (p : Part) → (part i c meta s from to sound t hold).0.1 ≡ p → IsUnfolded (resolved_image after) (resolved_image i)
      by (Expression path) is = by-expression path is
      by (Run path first n) is = by-run path first n is
