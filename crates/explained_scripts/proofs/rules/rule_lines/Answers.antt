use Rattle.std.proofs.Common.{◌≡◌, List, [], ◌∷◌, ◌++◌, map, sym, ap, subst, ◌∙◌}
use Rattle.std.specs.Prelude.{vec_len}
use Rattle.std.proofs.lemmas.Result.{IfOk-weaker}
use Rattle.rb_base.specs.Names.{name_at}
use Rattle.class_table.specs.View.{image_of, number_image}
use Rattle.command_model.specs.Numbers.{number_command_words}
use Rattle.certificates.specs.Asked.{command_in}
use Rattle.refusal_witnesses.specs.Lines.{AreLines}
use Rattle.refusal_witnesses.specs.NameWitnesses.{reflections_there}
use Rattle.witness_lists.specs.declared.witness.Witness.{Witness}
use Rattle.witness_lists.specs.declared.witness.Witness.TheVariants as witness
use Rattle.witness_lists.specs.Views.{shown}
use Rattle.witness_numbers.specs.MappedWitnesses.{map_witness}
use Rattle.explained_scripts.proofs.AtTexts.{law-at}
use Rattle.explained_scripts.proofs.RuleReasons.{named-orderly}
use Rattle.explained_scripts.proofs.RuleLines.{empty-by-length, filled-by-length, nothing-there, lines-reflections, lines-certificate, lines-heights, known-among}
use Rattle.explained_scripts.proofs.rules.rule_lines.Goals as goal

pub returns-then-not-is_empty : goal.returns-then-not-is_empty
returns-then-not-is_empty g c =
    let s = c.args.image.now in
    let found = c.reflections_there.new.found in
    let is : shown s found.items ≡ reflections_there (number_command_words s.names) (number_image s) =
    c.in_ok-reflections_there.ensures ∙ ap (λ (ws : List Witness). shown s ws ++ reflections_there (number_command_words s.names) (number_image s)) c.new-found.ensures.items in
    IfOk-weaker c.witness_lines.result _ _
    (λ lines are. lines-reflections s (law-at c.witnesses_by_numbers.ensures s c.requires.orderly c.requires.self_known) c.requires.self_known c.args.request.now (c.law_rules.ensures.shown (image_of s) (command_in s.names c.args.request.now))
    found.items is (filled-by-length found.items (vec_len found) found.ok.0 (sym c.is_empty.ensures ∙ c.if-not-is_empty.true)) lines.items
    (subst (λ (ws : List Witness). AreLines (image_of s) (map (map_witness (name_at s.names)) (shown s ws)) lines.items) c.as_slice.ensures.value are))
    c.witness_lines.ensures

pub witness_lines-requires-in-Some : goal.witness_lines-requires-in-Some
witness_lines-requires-in-Some g c = named-orderly c.args.image.now c.stuck_in.new.image c.requires.closed c.stuck_in.ensures.rest c.stuck_in.ensures.grows c.stuck_in.ensures.once c.requires.orderly

pub returns-in-Some : goal.returns-in-Some
returns-in-Some g c =
    let s = c.args.image.now in
    let p = c.stuck_in.new.image in
    let found = c.reflections_there.new.found in
    let none = empty-by-length found.items (vec_len found) found.ok.0 (sym c.is_empty.ensures ∙ c.if-not-is_empty.false) in
    let is : shown s found.items ≡ reflections_there (number_command_words s.names) (number_image s) =
    c.in_ok-reflections_there.ensures ∙ ap (λ (ws : List Witness). shown s ws ++ reflections_there (number_command_words s.names) (number_image s)) c.new-found.ensures.items in
    IfOk-weaker c.witness_lines-in-Some.result _ _
    (λ lines are. lines-certificate s (law-at c.witnesses_by_numbers.ensures s c.requires.orderly c.requires.self_known) c.requires.self_known c.args.request.now (c.law_rules.ensures.shown (image_of s) (command_in s.names c.args.request.now))
    found.items is none p c.requires.closed c.stuck_in.ensures.rest c.stuck_in.ensures.grows c.stuck_in.ensures.once c.in-Some.step (sym c.in_ok-step.ensures.exact ∙ c.in-Some.is) lines.items
    (subst (λ (ws : List Witness). AreLines (image_of p) (map (map_witness (name_at p.names)) (shown p ws)) lines.items)
    (c.as_slice-in-Some.ensures.value ∙ c.in_ok-push-in-Some.ensures.items ∙ ap (λ (ws : List Witness). ws ++ witness.Step c.in-Some.step ∷ []) (nothing-there found.items none)) are))
    c.witness_lines-in-Some.ensures

pub high_lines-requires-clause-orderly : goal.high_lines-requires-clause-orderly
high_lines-requires-clause-orderly g c = named-orderly c.args.image.now c.stuck_in.new.image c.requires.closed c.stuck_in.ensures.rest c.stuck_in.ensures.grows c.stuck_in.ensures.once c.requires.orderly

pub high_lines-requires-clause-pattern : goal.high_lines-requires-clause-pattern
high_lines-requires-clause-pattern g c = (known-among c.args.image.now.names c.stuck_in.new.image.names c.args.request.now c.stuck_in.ensures.grows c.requires.known).pattern

pub high_lines-requires-clause-replacement : goal.high_lines-requires-clause-replacement
high_lines-requires-clause-replacement g c = (known-among c.args.image.now.names c.stuck_in.new.image.names c.args.request.now c.stuck_in.ensures.grows c.requires.known).replacement

pub returns : goal.returns
returns g c =
    let s = c.args.image.now in
    let found = c.reflections_there.new.found in
    let none = empty-by-length found.items (vec_len found) found.ok.0 (sym c.is_empty.ensures ∙ c.if-not-is_empty.false) in
    let is : shown s found.items ≡ reflections_there (number_command_words s.names) (number_image s) =
    c.in_ok-reflections_there.ensures ∙ ap (λ (ws : List Witness). shown s ws ++ reflections_there (number_command_words s.names) (number_image s)) c.new-found.ensures.items in
    IfOk-weaker c.high_lines.result _ _
    (λ lines are. lines-heights s (law-at c.witnesses_by_numbers.ensures s c.requires.orderly c.requires.self_known) c.requires.self_known c.args.request.now (c.law_rules.ensures.shown (image_of s) (command_in s.names c.args.request.now))
    found.items is none c.stuck_in.new.image c.requires.closed c.stuck_in.ensures.rest c.stuck_in.ensures.grows c.stuck_in.ensures.once c.requires.known (sym c.in_ok-step.ensures.exact ∙ c.in-None.is) lines.items are)
    c.high_lines.ensures
