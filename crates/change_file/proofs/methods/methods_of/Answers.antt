use Rattle.std.proofs.Common.{List, map, sym, ap, subst, ◌∙◌}
use Rattle.class_table.specs.View.{image_of}
use Rattle.file_model.specs.Written.{user_methods}
use Rattle.change_file.specs.declared.methods.SignedMethod.{SignedMethod}
use Rattle.change_file.specs.Shown.{shown_method, key_shown, AreShownApart}
use Rattle.change_file.proofs.MethodTexts.{shown_apart, shown_keys}
use Rattle.change_file.proofs.methods.methods_of.Goals as goal

pub keys_of-requires : goal.keys_of-requires
keys_of-requires c =
    subst AreShownApart (sym (ap (map shown_method) c.as_slice.ensures.value ∙ c.in_ok-items.ensures)) (shown_apart (user_methods (image_of c.args.image.now)) c.requires.apart.methods)

pub returns-clause-methods : goal.returns-clause-methods
returns-clause-methods c = record {
  items = c.in_ok-items.ensures;
  keys =
      c.in_ok-keys.ensures ∙ ap (λ (ms : List SignedMethod). map key_shown (map shown_method ms)) c.as_slice.ensures.value ∙ ap (map key_shown) c.in_ok-items.ensures
      ∙ shown_keys (user_methods (image_of c.args.image.now));
}
