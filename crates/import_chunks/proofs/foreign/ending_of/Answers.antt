use Rattle.std.proofs.Common.{◌≡◌, ℕ, List, refl, sym}
use Rattle.std.specs.Borrow.{Bor}
use Rattle.chunk_forms.specs.declared.sent.Argument.{Argument}
use Rattle.chunk_forms.specs.declared.sent.Argument.TheVariants as argument
use Rattle.file_model.specs.Forms as forms
use Rattle.chunk_forms.specs.Told.{argument_text}
use Rattle.import_chunks.proofs.Arguments.{no_ending}
use Rattle.import_chunks.proofs.foreign.ending_of.Goals as goal

pub returns-in_default : goal.returns-in_default
returns-in_default c =
    λ f. no_ending f c.args.selector.now c.args.first.now c.args.others.now c.one_argument.result (sym c.if-is_empty.ensures) (c.one_argument.ensures f)
    (λ u. by c.one_argument.result c.in_default.not-String u)
  where
    by : (a : Argument) → ((t : Bor (List ℕ)) → a ≡ argument.String t → ⊥) → (u : List ℕ) → argument_text a ≡ forms.String u → ⊥
    by (argument.Symbol t) n u e = cc
    by (argument.String t) n u e = n t refl
    by (argument.Numeral t) n u e = cc
    by argument.Other n u e = cc
