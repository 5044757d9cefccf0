use Rattle.std.proofs.Common.{ℕ, ◌<◌, List, [], ◌∷◌, ◌++◌, length, map, sym, ap, subst, ◌∙◌, append_assoc}
use Rattle.std.specs.List.{AllByRecursion}
use Rattle.std.proofs.lemmas.List.{map-id}
use Rattle.std.proofs.lemmas.Iterator.Adapters.{YieldsList-from_vec}
use Rattle.std.proofs.lemmas.Iterator.Consumers.{YieldsList-so_far, YieldsList-turn}
use Rattle.tree_model.specs.AllNames.{SequenceNames}
use Rattle.st_tree.specs.View.{sequence_of}
use Rattle.image_model.specs.ImageNames.{DoItNames}
use Rattle.class_table.specs.declared.record.DoIt.{DoIt}
use Rattle.class_table.specs.Slots.{Slots}
use Rattle.class_table.specs.View.{doit_of}
use Rattle.class_table.specs.Valid.{IsOrderly}
use Rattle.class_table.proofs.KeptLemmas.{doit-added}
use Rattle.live_slots.specs.Live.{AllLive}
use Rattle.live_slots.proofs.Keeping.{all-doits}
use Rattle.image_building.proofs.Turns.{at_turn, all_next_mapped}
use Rattle.image_building.proofs.doits.add_doits.Goals as goal

pub loop-doit-preserved : goal.loop-doit-preserved
loop-doit-preserved c =
    let gives = c.into_iter-doit-iterator.ensures.into_iter_gives in
    let road = YieldsList-from_vec {s = c.into_iter-doit-iterator.result} c.args.doits.items gives.0 (gives.1 ∙ c.args.doits.ok.0) in
    let past = YieldsList-so_far road c.loop-doit.yielded c.loop-doit.doit-iterator c.loop-doit.yielded_by in
    let next = YieldsList-turn road c.loop-doit.yielded c.loop-doit.doit-iterator c.loop-doit.yielded_by c.next.result c.next.new.self c.in-Some.doit c.in-Some.is c.next.ensures.steps in
    let turn = at_turn c.args.doits.items c.loop-doit.yielded c.in-Some.doit (sym (map-id c.loop-doit.yielded) ∙ past) next.0 next.1 in
    let names = ap (λ (s : Slots). s.names) c.loop-doit.invariant.doits in
    let known = all_next_mapped (DoItNames (λ n. n < length c.args.image.now.names)) doit_of c.loop-doit.yielded c.in-Some.doit turn.0 (subst (λ (ds : List DoIt). AllByRecursion (DoItNames (λ n. n < length c.args.image.now.names)) (map doit_of ds)) turn.1 c.requires.known) in
    record {
      doits =
          c.in_ok-add_doit.ensures
          ∙ ap (λ (s : Slots). let t : Slots = record s { doits = s.doits ++ c.in-Some.doit ∷ [] } in t) c.loop-doit.invariant.doits
          ∙ ap (λ (ds : List DoIt). let t : Slots = record c.args.image.now { doits = ds } in t) (append_assoc c.args.image.now.doits c.loop-doit.yielded (c.in-Some.doit ∷ []));
      orderly =
          subst IsOrderly (sym c.in_ok-add_doit.ensures)
          (doit-added c.loop-doit.image c.loop-doit.invariant.orderly c.in-Some.doit (subst (λ (ns : List (List ℕ)). SequenceNames (λ n. n < length ns) (sequence_of c.in-Some.doit.body)) (sym names) known));
      live = subst AllLive (sym c.in_ok-add_doit.ensures) (all-doits c.loop-doit.image (c.loop-doit.image.doits ++ c.in-Some.doit ∷ []) c.loop-doit.invariant.live);
    }
