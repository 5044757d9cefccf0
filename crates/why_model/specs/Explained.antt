-- The text of a refusal explained.
use Rattle.std.specs.Prelude.{◌≡◌, ℕ, ◌-◌, Bool, true, false, not, ◌&&◌, nat_le, ◌⊎◌, List, [], ◌++◌, map, filter, slice_get, Option, Some, None, codes, is_some}
use Rattle.std.specs.List.{flat_map, enumerate_from}
use Rattle.std.specs.Option.{option_map_or}
use Rattle.std.specs.Fmt.{decimal}
use Rattle.rb_base.specs.Names.{text_eq}
use Rattle.token_model.specs.declared.kind.Dialect.TheVariants.{Second}
use Rattle.tree_model.specs.Nodes.{nodes}
use Rattle.scope_model.specs.FreeNames.{each_once}
use Rattle.grammar_model.specs.Spanned.{SpannedSequence, SpannedMethod, plain_sequence}
use Rattle.grammar_model.specs.Spans.{Span, span_at}
use Rattle.grammar_model.specs.Spelling.{SpellsMethodAt}
use Rattle.image_model.specs.Image.{EntryOf, ImageOf}
use Rattle.query_model.specs.Lines.{Text}
use Rattle.history_model.specs.Verdicts.{IsRefusedAt}
use Rattle.command_model.specs.Conditions.{PartIs}
use Rattle.command_model.specs.CodeEffects.{method_at, part_at}
use Rattle.command_model.specs.Asked.{text_asked}
use Rattle.script_model.specs.Lines.{lines_of, is_skipped}
use Rattle.script_model.specs.Scripts.{Says}
use Rattle.apply_model.specs.Lines.{refusal_line}
use Rattle.rule_model.specs.RuleCommands.{Reason, Unmet}
use Rattle.ruled_model.specs.RuledScripts.{Line, Refusal, ruled}
use Rattle.refusal_witnesses.specs.Witnesses.{InMethod, a_node}
use Rattle.refusal_witnesses.specs.Lines.{line_of, AreLines}
use Rattle.why_model.specs.Reasons.{change_witnesses, reason_sentence}
use Rattle.why_model.specs.Refusals.{Judging, line_refused}

-- the lines of a script that say something, with their numbers from 1
abbrev pub numbered_lines : Text → List (ℕ × Text)
numbered_lines script = filter (λ e. not (is_skipped e.1)) (enumerate_from 1 (lines_of script))

-- the step of a composite
abbrev pub step_text : Option ℕ → Text
step_text o = option_map_or (λ k. codes " step " ++ decimal k) o []

-- the text: the line that `apply` prints; the script's line with its number, and the step; the sentence of the condition; and the lines of the witnesses, each once
abbrev pub explained : Refusal → ℕ → Text → Option ℕ → List Text → Text
explained refusal number line step witness_lines =
    refusal_line refusal
    ++ line_of (codes "line " ++ decimal number ++ codes " " ++ line ++ step_text step)
    ++ line_of (reason_sentence refusal.condition)
    ++ flat_map (λ (text : Text). text) (each_once text_eq witness_lines)

-- whether a span reaches round the places from one offset up to another
abbrev pub reaches_round : (from to : ℕ) → Span → Bool
reaches_round from to span = nat_le span.from from && nat_le to span.to

-- the paths of the nodes that do, each before those below it
abbrev pub round_paths : SpannedSequence → (from to : ℕ) → List (List ℕ)
round_paths s from to =
    filter (λ (path : List ℕ). option_map_or (reaches_round from to) (span_at s path) false) (map (λ e. e.0) (nodes (plain_sequence s)))

-- the lines of the nodes of a method that stand round two offsets
pub record AreRound (i : ImageOf Text) (m : EntryOf Text) (from to : ℕ) (texts : List Text) : Type 0 where
  pub tree : SpannedMethod
  pub spells : SpellsMethodAt Second false m.source tree
  pub lines : AreLines i (map (a_node (InMethod m)) (round_paths tree.body from to)) texts

abbrev pub AreRoundIn : ImageOf Text → Option (EntryOf Text) → (from to : ℕ) → List Text → Type 0
AreRoundIn i None from to texts = texts ≡ []
AreRoundIn i (Some m) from to texts = AreRound i m from to texts

-- the lines of what is in the way of a change; if no part stands at two offsets, those of the nodes round them
abbrev pub AreLinesOf : Judging → Reason → List Text → Type 0
AreLinesOf j (Unmet (PartIs c meta s from to)) texts =
    ((is_some (part_at text_asked j.image c meta s from to) ≡ true) × AreLines j.image (change_witnesses j.image j.change (Unmet (PartIs c meta s from to))) texts)
    ⊎ ((is_some (part_at text_asked j.image c meta s from to) ≡ false) × AreRoundIn j.image (method_at text_asked j.image c meta s) from to texts)
AreLinesOf j reason texts = AreLines j.image (change_witnesses j.image j.change reason) texts

-- the lines of a reason where a change was judged; of the history there are none
abbrev pub AreWitnessLines : Option Judging → Reason → List Text → Type 0
AreWitnessLines None reason texts = texts ≡ []
AreWitnessLines (Some j) reason texts = AreLinesOf j reason texts

-- which step was judged
abbrev pub step_of : Option Judging → Option ℕ
step_of None = None
step_of (Some j) = j.step

-- the text explains why a script is refused in an image
pub record IsExplained (i : ImageOf Text) (script text : Text) : Type 0 where
  pub requests : List Line
  pub says : Says script requests
  pub refusal : Refusal
  pub refused : IsRefusedAt ruled i requests refusal
  pub number : ℕ
  pub line : Text
  pub at : slice_get (numbered_lines script) (refusal.number - 1) ≡ Some (number, line)
  pub witness_lines : List Text
  pub are : AreWitnessLines (line_refused refused.history.now.image refused.line) refusal.condition witness_lines
  pub is : text ≡ explained refusal number line (step_of (line_refused refused.history.now.image refused.line)) witness_lines
