-- The trees of methods and parts that are found.
use Rattle.std.proofs.Common.{◌≡◌, ℕ, List, Option, None, Some, option_map, sym, ap, ◌∙◌}
use Rattle.std.specs.Option.{option_and_then}
use Rattle.tree_model.specs.Tree.{MethodOf}
use Rattle.tree_model.specs.Normal.{normal}
use Rattle.image_model.specs.Image.{EntryOf}
use Rattle.class_table.specs.Slots.{Slots}
use Rattle.class_table.specs.View.{number_image}
use Rattle.command_model.specs.CodeEffects.{method_at, path_of_expression}
use Rattle.command_model.specs.Parts.{Part}
use Rattle.command_model.specs.Temporaries.{LetOf, let_of, temporary_extracted, temporary_inlined}
use Rattle.commands.specs.declared.command.MethodName.{MethodName}
use Rattle.commands.specs.declared.command.MethodPart.{MethodPart}
use Rattle.st_tree.specs.declared.path.Part as declared
use Rattle.part_questions.specs.Parts.{part_of}
use Rattle.code_conditions.specs.Trees.{asked, users_part, inlined_at, with_temporary, with_body, with_value}

module _ (s : Slots) where
  module _ (p : MethodPart) where
    -- a temporary in place of a part
    module _ (x : ℕ) where
      abbrev pub extracted_of : EntryOf ℕ × Part → Option (MethodOf ℕ)
      extracted_of e = option_and_then {U = MethodOf ℕ} (λ (path : List ℕ). temporary_extracted (asked s) e.0.tree path x) (path_of_expression e.1)

      abbrev temporary_for : Option (EntryOf ℕ × Part) → Option (MethodOf ℕ)
      temporary_for o = option_map {U = MethodOf ℕ} (normal {N = ℕ}) (option_and_then {U = MethodOf ℕ} extracted_of o)

      pub temporary_none : ◌≡◌ {A = Option (EntryOf ℕ × Part)} None (users_part s p) → None ≡ option_map normal (with_temporary s p x)
      temporary_none e = ap temporary_for e

      pub temporary_at : (m : EntryOf ℕ) (part : declared.Part) (q : declared.Part) → ◌≡◌ {A = Option (EntryOf ℕ × Part)} (Some (m, part_of part)) (users_part s p) → part ≡ q
          → option_map {U = MethodOf ℕ} normal (extracted_of (m, part_of q)) ≡ option_map normal (with_temporary s p x)
      temporary_at m part q found e = ap (λ (r : declared.Part). temporary_for (Some (m, part_of r))) (sym e) ∙ ap temporary_for found

    -- a body in place of a message
    abbrev body_of : EntryOf ℕ × Part → Option (MethodOf ℕ)
    body_of e = inlined_at s p.method.class p.method.meta e.0.tree e.1

    abbrev body_for_part : Option (EntryOf ℕ × Part) → Option (MethodOf ℕ)
    body_for_part o = option_map {U = MethodOf ℕ} (normal {N = ℕ}) (option_and_then {U = MethodOf ℕ} body_of o)

    pub body_none : ◌≡◌ {A = Option (EntryOf ℕ × Part)} None (users_part s p) → None ≡ option_map normal (with_body s p)
    body_none e = ap body_for_part e

    pub body_at : (m : EntryOf ℕ) (part : Part) → ◌≡◌ {A = Option (EntryOf ℕ × Part)} (Some (m, part)) (users_part s p)
        → option_map {U = MethodOf ℕ} normal (inlined_at s p.method.class p.method.meta m.tree part) ≡ option_map normal (with_body s p)
    body_at m part e = ap body_for_part e

  -- a value in place of a temporary
  module _ (n : MethodName) (x : ℕ) where
    abbrev named : Option (EntryOf ℕ)
    named = method_at (asked s) (number_image s) n.class n.meta n.selector

    abbrev valued_of : EntryOf ℕ → Option (MethodOf ℕ)
    valued_of m = option_map {U = MethodOf ℕ} (temporary_inlined (asked s) m.tree x) (let_of (asked s) m.tree x)

    abbrev value_for : Option (EntryOf ℕ) → Option (MethodOf ℕ)
    value_for o = option_map {U = MethodOf ℕ} (normal {N = ℕ}) (option_and_then {U = MethodOf ℕ} valued_of o)

    pub value_none : None ≡ named → None ≡ option_map normal (with_value s n x)
    value_none e = ap value_for e

    pub let_at : (m : EntryOf ℕ) (e : Option (LetOf ℕ)) → Some m ≡ named → e ≡ let_of (asked s) m.tree x
        → option_map {U = MethodOf ℕ} normal (option_map {U = MethodOf ℕ} (temporary_inlined (asked s) m.tree x) e) ≡ option_map normal (with_value s n x)
    let_at m e is one =
        ap (λ (o : Option (LetOf ℕ)). option_map {U = MethodOf ℕ} (normal {N = ℕ}) (option_map {U = MethodOf ℕ} (temporary_inlined (asked s) m.tree x) o)) one
        ∙ ap value_for is
