use Rattle.std.proofs.Common.{ℕ, ◌<◌, List, length, map, vec_items, sym, ap, subst, ◌∙◌}
use Rattle.std.specs.List.{AllByRecursion}
use Rattle.image_model.specs.Image.{ClassOf}
use Rattle.image_model.specs.ImageNames.{ClassNames, EntryNames, DoItNames}
use Rattle.image_model.specs.Valid.{SuperclassesStandBefore}
use Rattle.class_table.specs.declared.record.DoIt.{DoIt}
use Rattle.class_table.specs.Slots.{Slots}
use Rattle.class_table.specs.View.{doit_of}
use Rattle.class_table.specs.Valid.{IsOrderly}
use Rattle.live_slots.specs.Live.{AllLive}
use Rattle.live_slots.proofs.Keeping.{all-heads}
use Rattle.image_draft.specs.declared.method_draft.MethodDraft.{MethodDraft}
use Rattle.image_draft.specs.Entries.{entry_of}
use Rattle.image_draft.specs.MethodSlots.{those_there}
use Rattle.image_building.proofs.Heads.{orderly_heads}
use Rattle.image_building.proofs.build.fill.Goals as goal

pub add_classes-requires-clause-known : goal.add_classes-requires-clause-known
add_classes-requires-clause-known c = subst (AllByRecursion (ClassNames (λ n. n < length c.args.image.now.names))) (sym c.in_ok-parts.ensures.classes) c.requires.known.classes

pub add_classes-requires-clause-superclasses_before : goal.add_classes-requires-clause-superclasses_before
add_classes-requires-clause-superclasses_before c = subst (λ (cs : List (ClassOf ℕ)). SuperclassesStandBefore cs) (sym c.in_ok-parts.ensures.classes) c.requires.whole.superclasses_before

pub add_methods-requires-clause-known : goal.add_methods-requires-clause-known
add_methods-requires-clause-known c =
    let names = ap (λ (s : Slots). s.names) c.in_ok-add_classes.ensures.rest in
    subst (λ (ns : List (List ℕ)). AllByRecursion (EntryNames (λ n. n < length ns)) (map entry_of (those_there c.in_ok-parts.parts.methods.items))) (sym names)
    (subst (λ (ms : List MethodDraft). AllByRecursion (EntryNames (λ n. n < length c.args.image.now.names)) (map entry_of ms)) (sym c.in_ok-parts.ensures.methods) c.requires.known.methods)

pub add_doits-requires-clause-known : goal.add_doits-requires-clause-known
add_doits-requires-clause-known c =
    let names = ap (λ (s : Slots). s.names) c.in_ok-add_methods.ensures.rest ∙ ap (λ (s : Slots). s.names) c.in_ok-add_classes.ensures.rest in
    subst (λ (ns : List (List ℕ)). AllByRecursion (DoItNames (λ n. n < length ns)) (map doit_of c.in_ok-parts.parts.doits.items)) (sym names)
    (subst (λ (ds : List DoIt). AllByRecursion (DoItNames (λ n. n < length c.args.image.now.names)) (map doit_of ds)) (sym (ap vec_items c.in_ok-parts.ensures.doits)) c.requires.known.doits)

pub returns-clause-orderly : goal.returns-clause-orderly
returns-clause-orderly c = subst IsOrderly (sym c.set_heads.ensures) (orderly_heads c.add_doits.new.image c.in_ok-parts.parts.heads c.in_ok-add_doits.ensures.orderly)

pub returns-clause-live : goal.returns-clause-live
returns-clause-live c = subst AllLive (sym c.set_heads.ensures) (all-heads c.add_doits.new.image c.in_ok-parts.parts.heads c.in_ok-add_doits.ensures.live)
