use Rattle.std.proofs.Common.{ℕ, List, ◌++◌, length, refl, sym, ap, subst, ◌∙◌}
use Rattle.std.proofs.lemmas.Result.{IfOk-weaker}
use Rattle.rb_base.specs.Names.{name_at}
use Rattle.image_model.specs.Image.{EntryOf, map_entry}
use Rattle.image_model.specs.Nodes.{in_method}
use Rattle.query_model.specs.Lines.{Text}
use Rattle.st_tree.specs.View.{method_of}
use Rattle.command_model.specs.MethodEffects.{new_method}
use Rattle.refusal_witnesses.specs.Lines.{AreLines}
use Rattle.refusal_witnesses.specs.Witnesses.{AtPlace, WitnessOf}
use Rattle.witness_lists.specs.declared.nodes.Sought.TheVariants as sought
use Rattle.witness_lists.specs.declared.witness.Witness.{Witness}
use Rattle.witness_lists.specs.Views.{shown}
use Rattle.witness_lists.specs.Walks.{standing_in}
use Rattle.explained_scripts.proofs.BroughtLines.{all-brought}
use Rattle.explained_scripts.proofs.witnesses.added_lines.Goals as goal

pub returns : goal.returns
returns c =
    let s = c.args.image.now in
    let new = c.args.new.now in
    let m : EntryOf ℕ = new_method new.class new.meta new.protocol new.source (method_of new.tree) in
    let owner = AtPlace (in_method (length s.method_order)) in
    let there = ap (shown s) c.as_slice-3.ensures.value ∙ c.in_ok-reflections_brought.ensures ∙ ap (λ (xs : List Witness). shown s xs ++ standing_in s.names sought.Reflection owner (method_of new.tree)) c.new-found.ensures.items in
    IfOk-weaker c.lines_inside.result _ _
    (λ lines are i. subst (λ (ws : List (WitnessOf Text)). AreLines i ws lines.items) (all-brought s m refl owner c.as_slice-3.result.now there)
    (are s i (map_entry (name_at s.names) m) (record {
      users = refl;
      title_is = sym (c.as_slice.ensures ∙ c.in_ok-title.ensures);
      source_is = sym c.as_slice-2.ensures;
    }))) c.lines_inside.ensures
