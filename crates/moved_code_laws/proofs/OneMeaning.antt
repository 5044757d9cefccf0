-- Meanings that are told to be one.
use Rattle.std.proofs.Common.{◌≡◌, refl, ap}
use Rattle.std.specs.Prelude.{true}
use Rattle.std.proofs.lemmas.Bool.{false≢true}
use Rattle.rb_base.specs.Names.{text_eq}
use Rattle.scope_model.specs.declared.local.Local.{Local}
use Rattle.scope_model.specs.declared.local.Local.TheVariants.{Argument, Temporary, NotLocal}
use Rattle.image_model.specs.Means.{VariableKind, of_instance, of_class_side, of_class, MeaningOf, pseudo, argument, temporary, variable, a_class, transcript, undeclared, means_by}
use Rattle.image_model.specs.Uses.{same_kind}
use Rattle.run_model.specs.Values.{Name}
use Rattle.run_model.proofs.Finite.{and-true_left, and-true_right}
use Rattle.run_model.proofs.RenamingLemmas.{text-same}
use Rattle.unfolded_calls.specs.SameContexts.{IsOutside}
use Rattle.command_model.specs.SameMethods.{same_meaning}

-- kinds
one-kind : (j k : VariableKind) → same_kind j k ≡ true → j ≡ k
one-kind of_instance of_instance e = refl
one-kind of_instance of_class_side e = absurd (false≢true e)
one-kind of_instance of_class e = absurd (false≢true e)
one-kind of_class_side of_instance e = absurd (false≢true e)
one-kind of_class_side of_class_side e = refl
one-kind of_class_side of_class e = absurd (false≢true e)
one-kind of_class of_instance e = absurd (false≢true e)
one-kind of_class of_class_side e = absurd (false≢true e)
one-kind of_class of_class e = refl

-- what is outside all scopes
pub one-meaning : (g h : MeaningOf Name) → IsOutside g → same_meaning text_eq g h ≡ true → g ≡ h
one-meaning pseudo pseudo o e = refl
one-meaning pseudo (argument t) o e = absurd (false≢true e)
one-meaning pseudo (temporary t) o e = absurd (false≢true e)
one-meaning pseudo (variable k d) o e = absurd (false≢true e)
one-meaning pseudo (a_class d) o e = absurd (false≢true e)
one-meaning pseudo transcript o e = absurd (false≢true e)
one-meaning pseudo undeclared o e = absurd (false≢true e)
one-meaning (argument s) h o e = absurd o
one-meaning (temporary s) h o e = absurd o
one-meaning (variable j c) pseudo o e = absurd (false≢true e)
one-meaning (variable j c) (argument t) o e = absurd (false≢true e)
one-meaning (variable j c) (temporary t) o e = absurd (false≢true e)
one-meaning (variable j c) (variable k d) o e = λ z. variable (one-kind j k (and-true_left (same_kind j k) (text_eq c d) e) z) (text-same c d (and-true_right (same_kind j k) (text_eq c d) e) z)
one-meaning (variable j c) (a_class d) o e = absurd (false≢true e)
one-meaning (variable j c) transcript o e = absurd (false≢true e)
one-meaning (variable j c) undeclared o e = absurd (false≢true e)
one-meaning (a_class c) pseudo o e = absurd (false≢true e)
one-meaning (a_class c) (argument t) o e = absurd (false≢true e)
one-meaning (a_class c) (temporary t) o e = absurd (false≢true e)
one-meaning (a_class c) (variable k d) o e = absurd (false≢true e)
one-meaning (a_class c) (a_class d) o e = ap a_class (text-same c d e)
one-meaning (a_class c) transcript o e = absurd (false≢true e)
one-meaning (a_class c) undeclared o e = absurd (false≢true e)
one-meaning transcript pseudo o e = absurd (false≢true e)
one-meaning transcript (argument t) o e = absurd (false≢true e)
one-meaning transcript (temporary t) o e = absurd (false≢true e)
one-meaning transcript (variable k d) o e = absurd (false≢true e)
one-meaning transcript (a_class d) o e = absurd (false≢true e)
one-meaning transcript transcript o e = refl
one-meaning transcript undeclared o e = absurd (false≢true e)
one-meaning undeclared pseudo o e = absurd (false≢true e)
one-meaning undeclared (argument t) o e = absurd (false≢true e)
one-meaning undeclared (temporary t) o e = absurd (false≢true e)
one-meaning undeclared (variable k d) o e = absurd (false≢true e)
one-meaning undeclared (a_class d) o e = absurd (false≢true e)
one-meaning undeclared transcript o e = absurd (false≢true e)
one-meaning undeclared undeclared o e = refl

-- is none of a local
pub outside-alike : (g : MeaningOf Name) (l : Local) (h : MeaningOf Name) → IsOutside g → same_meaning text_eq g (means_by l h) ≡ true → (l ≡ NotLocal) × (g ≡ h)
outside-alike g NotLocal h o e = (refl, one-meaning g h o e)
outside-alike pseudo (Argument s) h o e = absurd (false≢true e)
outside-alike pseudo (Temporary s) h o e = absurd (false≢true e)
outside-alike (argument s) (Argument k) h o e = absurd o
outside-alike (argument s) (Temporary k) h o e = absurd o
outside-alike (temporary s) (Argument k) h o e = absurd o
outside-alike (temporary s) (Temporary k) h o e = absurd o
outside-alike (variable j c) (Argument s) h o e = absurd (false≢true e)
outside-alike (variable j c) (Temporary s) h o e = absurd (false≢true e)
outside-alike (a_class c) (Argument s) h o e = absurd (false≢true e)
outside-alike (a_class c) (Temporary s) h o e = absurd (false≢true e)
outside-alike transcript (Argument s) h o e = absurd (false≢true e)
outside-alike transcript (Temporary s) h o e = absurd (false≢true e)
outside-alike undeclared (Argument s) h o e = absurd (false≢true e)
outside-alike undeclared (Temporary s) h o e = absurd (false≢true e)
