-- The lines of a single command that is refused.
use Rattle.std.proofs.Common.{◌≡◌, ◌<◌, false, List, ◌++◌, length, map, inl, inr, sym, ap, subst, ◌∙◌}
use Rattle.rb_base.specs.Names.{name_at}
use Rattle.query_model.specs.Lines.{Text}
use Rattle.class_table.specs.Slots.{Slots}
use Rattle.class_table.specs.View.{image_of}
use Rattle.command_model.specs.Asked.{text_asked}
use Rattle.command_model.specs.CodeEffects.{method_at}
use Rattle.command_numbers.specs.CommandNames.{ConditionNames}
use Rattle.command_numbers.specs.MappedCommands.{map_condition}
use Rattle.commands.specs.Views.{command_of, condition_of}
use Rattle.commands.specs.declared.command.MethodPart.{MethodPart}
use Rattle.commands.specs.declared.condition.Condition.{Condition}
use Rattle.commands.specs.declared.condition.Condition.TheVariants as condition
use Rattle.refusal_witnesses.specs.Lines.{AreLines}
use Rattle.refusal_witnesses.specs.Refused.{witnesses}
use Rattle.refusal_witnesses.specs.Witnesses.{WitnessOf}
use Rattle.witness_numbers.specs.MappedWitnesses.{map_witness}
use Rattle.why_model.specs.Explained.{AreLinesOf, AreRoundIn}
use Rattle.explained_scripts.specs.declared.judging.Refused.{Refused}
use Rattle.explained_scripts.specs.Brought.{brought_after, brought_before}
use Rattle.explained_scripts.specs.Families.{standing}
use Rattle.explained_scripts.specs.Refused.{command_text, judging_of, reason_text, is_part_there, IsKnownRefused, IsPartThere}
use Rattle.explained_scripts.proofs.AllStanding.{all-standing}
use Rattle.explained_scripts.proofs.AtTexts.{LawAt, part-text}

-- the names of a part that a command has in its condition
pub part-known : (s : Slots) (r : Refused) → IsKnownRefused s r → (p : MethodPart) → r.condition ≡ condition.PartIs p → (p.method.class < length s.names) × (p.method.selector < length s.names)
part-known s r known p is = subst (λ (q : Condition). ConditionNames (λ n. n < length s.names) (condition_of q)) is known.condition

module _ (s : Slots) (law : LawAt s) (r : Refused) (texts : List Text) where
  -- the lines of any condition that is no part which is missing
  of-condition : (q : Condition) → IsPartThere s q → ConditionNames (λ n. n < length s.names) (condition_of q)
      → AreLines (image_of s) (witnesses text_asked (image_of s) (command_text s r.command) (map_condition (name_at s.names) (condition_of q))) texts → AreLinesOf (judging_of s r) (reason_text s q) texts
  of-condition (condition.PartIs p) there known are = inl (part-text s law p.method.class p.method.meta p.method.selector known.0 known.1 p.from p.to ∙ there, are)
  of-condition other there known are = are

  pub lines-there : IsKnownRefused s r → IsPartThere s r.condition
      → AreLines (image_of s) (map (map_witness (name_at s.names)) ((brought_before s (command_of r.command) (condition_of r.condition) ++ standing s (command_of r.command) (condition_of r.condition)) ++ brought_after s (command_of r.command) (condition_of r.condition))) texts
      → AreLinesOf (judging_of s r) (reason_text s r.condition) texts
  lines-there known there are =
      of-condition r.condition there known.condition
      (subst (λ (ws : List (WitnessOf Text)). AreLines (image_of s) ws texts)
      (ap (map (map_witness (name_at s.names))) (sym (all-standing s (command_of r.command) (condition_of r.condition))) ∙ sym (law (command_of r.command) (condition_of r.condition) known.command known.condition)) are)

  -- the lines round a part that is missing
  pub lines-round : IsKnownRefused s r → (p : MethodPart) → r.condition ≡ condition.PartIs p → is_part_there s p ≡ false
      → AreRoundIn (image_of s) (method_at text_asked (image_of s) (name_at s.names p.method.class) p.method.meta (name_at s.names p.method.selector)) p.from p.to texts
      → AreLinesOf (judging_of s r) (reason_text s r.condition) texts
  lines-round known p is none are =
      let names = part-known s r known p is in
      subst (λ (q : Condition). AreLinesOf (judging_of s r) (reason_text s q) texts) (sym is)
      (inr (part-text s law p.method.class p.method.meta p.method.selector names.0 names.1 p.from p.to ∙ none, are))
