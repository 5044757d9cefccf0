-- Commands of methods all of whose conditions hold.
use Rattle.std.proofs.Common.{◌≡◌, ℕ, List, Option, Some, None, refl}
use Rattle.std.specs.Prelude.{Bool, true, false, ◌&&◌, is_some}
use Rattle.std.specs.Option.{option_map_or}
use Rattle.std.proofs.lemmas.Bool.{false≢true}
use Rattle.rb_base.specs.Names.{text_eq}
use Rattle.tree_model.specs.Tree.{MethodOf}
use Rattle.image_model.specs.Image.{ImageOf}
use Rattle.image_model.specs.Words.{text_words}
use Rattle.run_model.specs.Values.{Name}
use Rattle.run_model.specs.Renamings.{no_renaming}
use Rattle.mapped_model.specs.RenamedRuns.{RunsAsRenamed}
use Rattle.run_model.proofs.Finite.{and-true_right}
use Rattle.mapped_model.specs.NamesOfImages.{HasOrderedClasses}
use Rattle.rename_model.specs.Conditions.{is_user_class}
use Rattle.command_model.specs.Asked.{text_asked}
use Rattle.command_model.specs.Commands.{AddMethod, RemoveMethod, PushUpMethod, PushDownMethod}
use Rattle.command_model.specs.Conditions.{Unreached}
use Rattle.command_model.specs.Hierarchy.{is_class, superclass_name}
use Rattle.command_model.specs.Holds.{holds}
use Rattle.command_model.specs.Judged.{first_false}
use Rattle.command_model.specs.MethodConditions.{implements, is_unreached}
use Rattle.command_model.specs.MethodEffects.{method_added, method_removed, method_pushed_up, method_pushed_down}
use Rattle.command_model.proofs.Held.{all-hold}
use Rattle.agreement_laws.specs.KernelChains.{HasKernelChains}
use Rattle.lookup_laws.proofs.MovedMethods.{added-runs, pushed_up-runs}
use Rattle.lookup_laws.proofs.PushedDown.{pushed_down-runs}
use Rattle.lookup_laws.proofs.Removal.{removal-runs}
use Rattle.agreement_laws.specs.Reaching.{is_super}
use Rattle.lookup_laws.proofs.SameRuns.{same-renamed}

module _ (i : ImageOf Name) (ordered : HasOrderedClasses i) where
  pub removed-matched : (c : Name) (meta : Bool) (s : Name) → first_false text_asked i (RemoveMethod c meta s) ≡ None → RunsAsRenamed i (method_removed text_eq c meta s i) no_renaming
  removed-matched c meta s none = let hold = all-hold text_asked i (RemoveMethod c meta s) none in same-renamed i (method_removed text_eq c meta s i) (λ n. removal-runs i ordered c meta s n hold.class_there hold.removable)

  module _ (chains : HasKernelChains i) where
    pub added-matched : (c : Name) (meta : Bool) (protocol text : List ℕ) (tree : MethodOf Name) → first_false text_asked i (AddMethod c meta protocol text tree) ≡ None → RunsAsRenamed i (method_added c meta protocol text tree i) no_renaming
    added-matched c meta protocol text tree none =
        let hold = all-hold text_asked i (AddMethod c meta protocol text tree) none in
        same-renamed i (method_added c meta protocol text tree i)
        (added-runs i ordered chains c meta protocol text tree hold.user_class (and-true_right (is_class text_eq i c) (is_unreached text_words is_super i (method_added c meta protocol text tree i) meta tree.selector) hold.unreached))

    pub pushed_up-matched : (c : Name) (meta : Bool) (s : Name) → first_false text_asked i (PushUpMethod c meta s) ≡ None → RunsAsRenamed i (method_pushed_up text_eq c meta s i) no_renaming
    pushed_up-matched c meta s none =
        let hold = all-hold text_asked i (PushUpMethod c meta s) none in
        by (superclass_name text_eq i c) refl hold.user_parent hold.unreached hold.user_class
      where
        by : (o : Option Name) → superclass_name text_eq i c ≡ o → option_map_or (is_user_class text_eq i) o false ≡ true → ((p : Name) → superclass_name text_eq i c ≡ Some p → holds text_asked i (PushUpMethod c meta s) (Unreached s) ≡ true) → is_user_class text_eq i c ≡ true → RunsAsRenamed i (method_pushed_up text_eq c meta s i) no_renaming
        by None q parent unreached user = absurd (false≢true parent)
        by (Some p) q parent unreached user =
            same-renamed i (method_pushed_up text_eq c meta s i)
            (pushed_up-runs i ordered chains c meta s p user q parent (and-true_right (implements text_eq i c meta s && is_some (superclass_name text_eq i c)) (is_unreached text_words is_super i (method_pushed_up text_eq c meta s i) meta s) (unreached p q)))

    pub pushed_down-matched : (c : Name) (meta : Bool) (s : Name) → first_false text_asked i (PushDownMethod c meta s) ≡ None → RunsAsRenamed i (method_pushed_down text_eq c meta s i) no_renaming
    pushed_down-matched c meta s none =
        let hold = all-hold text_asked i (PushDownMethod c meta s) none in
        same-renamed i (method_pushed_down text_eq c meta s i)
        (pushed_down-runs i ordered chains c meta s hold.user_class (and-true_right (implements text_eq i c meta s) (is_unreached text_words is_super i (method_pushed_down text_eq c meta s i) meta s) hold.unreached))
