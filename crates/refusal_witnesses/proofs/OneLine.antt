-- A witness has one line.
use Rattle.std.proofs.Common.{◌≡◌, List, [], ◌∷◌, Some, refl, ap, sym, subst, ◌∙◌}
use Rattle.std.specs.Prelude.{Bool, true, false}
use Rattle.std.proofs.lemmas.Bool.{false≢true}
use Rattle.token_model.specs.declared.kind.Dialect.TheVariants.{Second}
use Rattle.grammar_model.specs.Spanned.{SpannedSequence, SpannedMethod}
use Rattle.grammar_model.specs.Spans.{Span}
use Rattle.grammar_model.specs.Spelling.{SpellsDoItAt, SpellsMethodAt}
use Rattle.grammar_model.proofs.Texts.{one_SpellsDoItAt, one_SpellsMethodAt}
use Rattle.image_model.specs.Image.{EntryOf, DoItOf, ImageOf}
use Rattle.image_model.specs.Nodes.{in_method, in_doit}
use Rattle.query_model.specs.Lines.{Text, node_line}
use Rattle.command_model.specs.Parts.{Part}
use Rattle.command_model.specs.PartsOfText.{span_of_part}
use Rattle.refusal_witnesses.specs.Witnesses.{OwnerOf, AtPlace, InMethod, WitnessOf, APart, AWhole, AClass, ASelector, AStep, TwoMeanings}
use Rattle.refusal_witnesses.specs.Lines.{owner_title, is_of_user, IsInMethod, IsInDoIt, StandsIn, meanings_text, name_line, IsLine, part_line, kernel_line, whole_line, class_line, selector_line, step_line, meanings_line, kernel_meanings_line, AreLines, no_lines, more_lines}

-- a part of a method stands at one place of its source
in-one-method : (m n : EntryOf Text) (part : Part) (x y : Span) → m ≡ n → IsInMethod m part x → IsInMethod n part y → x ≡ y
in-one-method m n part x y same a b =
    let trees : a.tree ≡ b.tree = one_SpellsMethodAt Second false n.source a.tree b.tree (subst (λ (e : EntryOf Text). SpellsMethodAt Second false e.source a.tree) same a.spells) b.spells in
    let found : Some x ≡ Some y = sym a.at ∙ ap (λ (t : SpannedMethod). span_of_part t.body part) trees ∙ b.at in
    cc

-- so of a do-it
in-one-doit : (d e : DoItOf Text) (part : Part) (x y : Span) → d ≡ e → IsInDoIt d part x → IsInDoIt e part y → x ≡ y
in-one-doit d e part x y same a b =
    let trees : a.tree ≡ b.tree = one_SpellsDoItAt Second e.source a.tree b.tree (subst (λ (f : DoItOf Text). SpellsDoItAt Second f.source a.tree) same a.spells) b.spells in
    let found : Some x ≡ Some y = sym a.at ∙ ap (λ (t : SpannedSequence). span_of_part t part) trees ∙ b.at in
    cc

module _ (i : ImageOf Text) where
  one-span : (owner : OwnerOf Text) (part : Part) (x y : Span) → StandsIn i owner part x → StandsIn i owner part y → x ≡ y
  one-span (AtPlace (in_method k)) part x y (m, p, a) (n, q, b) =
      let found : Some m ≡ Some n = sym p ∙ q in
      let same : m ≡ n = cc in
      in-one-method m n part x y same a b
  one-span (AtPlace (in_doit k)) part x y (d, p, a) (e, q, b) =
      let found : Some d ≡ Some e = sym p ∙ q in
      let same : d ≡ e = cc in
      in-one-doit d e part x y same a b
  one-span (InMethod m) part x y a b = in-one-method m m part x y refl a b

  -- code is the user's or is not
  not-both : {P : Type 0} (b : Bool) → b ≡ true → b ≡ false → P
  not-both b users kernels = absurd (false≢true (sym kernels ∙ users))

  one-line : (w : WitnessOf Text) (t u : Text) → IsLine i w t → IsLine i w u → t ≡ u
  one-line (APart owner part) t u (part_line x users a) (part_line y also b) = ap (λ (s : Span). node_line (owner_title i owner) s) (one-span owner part x y a b)
  one-line (APart owner part) t u (part_line x users a) (kernel_line kernels) = not-both (is_of_user i owner) users kernels
  one-line (APart owner part) t u (kernel_line kernels) (part_line y users b) = not-both (is_of_user i owner) users kernels
  one-line (APart owner part) t u (kernel_line kernels) (kernel_line also) = refl
  one-line (AWhole owner) t u whole_line whole_line = refl
  one-line (AClass c) t u class_line class_line = refl
  one-line (ASelector s) t u selector_line selector_line = refl
  one-line (AStep k) t u step_line step_line = refl
  one-line (TwoMeanings owner path n one other) t u (meanings_line x users a) (meanings_line y also b) =
      ap (λ (s : Span). name_line (owner_title i owner) s (meanings_text n one other)) (one-span owner _ x y a b)
  one-line (TwoMeanings owner path n one other) t u (meanings_line x users a) (kernel_meanings_line kernels) = not-both (is_of_user i owner) users kernels
  one-line (TwoMeanings owner path n one other) t u (kernel_meanings_line kernels) (meanings_line y users b) = not-both (is_of_user i owner) users kernels
  one-line (TwoMeanings owner path n one other) t u (kernel_meanings_line kernels) (kernel_meanings_line also) = refl

  pub one-lines : (ws : List (WitnessOf Text)) (ts us : List Text) → AreLines i ws ts → AreLines i ws us → ts ≡ us
  one-lines [] ts us no_lines no_lines = refl
  one-lines (w ∷ ws) ts us (more_lines {text = t} {texts = rest} a more) (more_lines {text = u} {texts = others} b others_more) =
      let first : t ≡ u = one-line w t u a b in
      let later : rest ≡ others = one-lines ws rest others more others_more in
      λ k. first k ∷ later k
