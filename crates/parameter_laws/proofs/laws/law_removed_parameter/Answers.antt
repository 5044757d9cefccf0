use Rattle.std.proofs.Common.{◌≡◌, ℕ, ◌-◌}
use Rattle.std.specs.Prelude.{true, false, remove}
use Rattle.rb_base.specs.Names.{text_eq}
use Rattle.image_model.specs.Image.{ImageOf}
use Rattle.st_kernel.specs.Selectors.{is_control}
use Rattle.run_model.specs.Values.{Name}
use Rattle.run_model.specs.Matched.{AreMatched}
use Rattle.run_model.specs.Renamings.{no_renaming}
use Rattle.run_model.proofs.Finite.{and-true_left}
use Rattle.resolved_model.specs.ResolvedImages.{resolved_image}
use Rattle.argument_laws.specs.PlainArguments.{ImageMayLose}
use Rattle.rename_model.specs.ClassRenamed.{WritingOf}
use Rattle.rename_model.specs.CommandWords.{text_command_words}
use Rattle.rename_model.specs.Conditions.{has_no_reflection, is_selector_fresh}
use Rattle.rename_model.specs.OneRenamed.{one_selector}
use Rattle.rename_model.specs.SelectorRenamed.{selector_renamed}
use Rattle.rename_laws.specs.BehindKernel.{IsBehindKernel}
use Rattle.command_model.specs.Asked.{text_asked}
use Rattle.command_model.specs.Commands.{RemoveParameter}
use Rattle.command_model.specs.Effects.{effect}
use Rattle.command_model.specs.Parameters.{without_nth}
use Rattle.parameter_laws.specs.ArgumentsChanged.{argument_dropped}
use Rattle.parameter_laws.proofs.Composed.{nothing-first, nothing-last}
use Rattle.parameter_laws.proofs.ConditionsMet.{conditions-may}
use Rattle.parameter_laws.proofs.KernelApart.{control-apart}
use Rattle.parameter_laws.proofs.OneStep.{nth-natural, image-both}
use Rattle.parameter_laws.proofs.SelectorsKept.{nth-none, fresh-kept}
use Rattle.parameter_laws.proofs.laws.law_removed_parameter.Goals as goal

pub returns : goal.returns
returns c =
    let matched : (writing : WritingOf Name) (i : ImageOf Name) (s t : Name) (k : ℕ) → is_control s ≡ false → is_control t ≡ false → is_selector_fresh text_eq i t ≡ true → IsBehindKernel i → ImageMayLose s (k - 1) (resolved_image i) →
    AreMatched i (effect text_asked writing (RemoveParameter s k t) i) (one_selector s t) =
    λ writing i s t k old new fresh behind may.
    let between = argument_dropped text_eq writing s (k - 1) i in
    let renamed = selector_renamed text_eq writing between s t in
    c.law_matched.ensures.composed i renamed (effect text_asked writing (RemoveParameter s k t) i) (one_selector s t) no_renaming (one_selector s t) (nothing-last s t)
    (c.law_matched.ensures.composed i between renamed no_renaming (one_selector s t) (one_selector s t) (nothing-first s t) (c.law_dropped_argument.ensures writing i s (k - 1) old behind may)
    (c.law_renamed_selector.ensures.matched writing between s t old new (fresh-kept t s (without_nth (k - 1)) (λ ts h. nth-none t (k - 1) ts h) writing (λ ns. remove ns (k - 1)) i fresh)).matched)
    (c.law_same_resolved.ensures.matched renamed (effect text_asked writing (RemoveParameter s k t) i)
    (image-both s t (without_nth (k - 1)) writing (λ ns. remove ns (k - 1)) (λ ts. nth-natural _ (k - 1) ts) i)) in
    record {
      matched = matched;
      by_command = λ writing i s t k behind written mirror p q fresh unread plain.
          matched writing i s t k (control-apart i s p) (control-apart i t q) fresh behind (conditions-may i s k (and-true_left (has_no_reflection text_command_words i) true mirror) p unread plain written);
    }
