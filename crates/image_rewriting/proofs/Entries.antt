-- Methods and do-its over texts to which a rule is applied.
use Rattle.std.proofs.Common.{◌≡◌, ◌<◌, Bool, true, false, List, length, refl, sym, ap, ◌∙◌}
use Rattle.std.specs.Prelude.{if◌then◌else◌, IsTrue, ◌↔◌}
use Rattle.std.specs.List.{concat}
use Rattle.rb_base.specs.Names.{text_eq, HasNoTwice}
use Rattle.query_model.specs.Lines.{Text}
use Rattle.tree_model.specs.Tree.{SequenceOf}
use Rattle.tree_model.specs.AllNames.{SequenceNames}
use Rattle.tree_model.proofs.AllNamesLemmas.{SequenceNames-implies}
use Rattle.st_tree.specs.View.{sequence_of}
use Rattle.st_tree.specs.declared.tree.Sequence.{Sequence}
use Rattle.text_model.specs.Whole.{canonical_method, canonical_doit}
use Rattle.event_trees.specs.Naming.{Grows}
use Rattle.image_model.specs.Image.{EntryOf, DoItOf}
use Rattle.pattern_model.specs.Words.{text_pattern_words}
use Rattle.pattern_model.specs.Rewritten.{RuleOf, rewritten_sequence, rewritten_method}
use Rattle.pattern_laws.proofs.FoundRight.{none_rewritten}
use Rattle.patterns.specs.declared.tree.Rule.{Rule}
use Rattle.pattern_match.proofs.Numbers.{search_texts}
use Rattle.rewrite_model.specs.Notes.{equal_sequence}
use Rattle.rewrite_model.specs.Rewritten.{retold_entry, rewritten_entry, rewritten_doit}
use Rattle.image_rewriting.specs.Equal.{AreEqual}
use Rattle.image_rewriting.specs.Changed.{rule_of, KnowsRule, body_of, body_after, HasNoMatch}
use Rattle.image_rewriting.proofs.Grown.{longer}
use Rattle.image_rewriting.proofs.Equal.{equal-texts, equal-self, equal-method}

-- where the pattern matches nowhere, the rule makes an equal body
pub nothing-made : (names : List Text) (r : Rule) (b : Sequence) → HasNoTwice names → KnowsRule names r → SequenceNames (λ n. n < length names) (sequence_of b)
    → HasNoMatch names r b → equal_sequence text_eq (body_of names b) (body_after names r b) ≡ true
nothing-made names r b once knows known none =
    ap (equal_sequence text_eq (body_of names b)) (none_rewritten text_pattern_words concat (rule_of names r) (body_of names b) (search_texts names once r.pattern knows.pattern (sequence_of b) known ∙ none))
    ∙ equal-self (body_of names b)

-- whether an equal body is made
pub told-made : (before names : List Text) (r : Rule) (b c : Sequence) (are : Bool) → HasNoTwice names → Grows before names
    → SequenceNames (λ n. n < length before) (sequence_of b) → SequenceNames (λ n. n < length names) (sequence_of c)
    → body_of names c ≡ body_after names r b → IsTrue are ↔ AreEqual (sequence_of b) (sequence_of c)
    → equal_sequence text_eq (body_of names b) (body_after names r b) ≡ are
told-made before names r b c are once g known also made h =
    ap (equal_sequence text_eq (body_of names b)) (sym made)
    ∙ sym (equal-texts names once are (sequence_of b) (sequence_of c)
    (SequenceNames-implies (λ n. n < length before) (λ n. n < length names) (longer before names g) (sequence_of b) known) also h)

-- what the rule makes of a sequence
abbrev pub made_of : RuleOf Text → SequenceOf Text → SequenceOf Text
made_of r b = rewritten_sequence text_pattern_words concat r b

module _ (r : RuleOf Text) (e : EntryOf Text) where
  -- a method of the kernel stays
  pub kernel-stays : e.kernel ≡ true → rewritten_entry r e ≡ e
  kernel-stays kernel = ap (λ (b : Bool). if b then e else retold_entry e (rewritten_method text_pattern_words concat r e.tree)) kernel

  -- so does one of whose body an equal one is made
  pub equal-stays : equal_sequence text_eq e.tree.body (made_of r e.tree.body) ≡ true → rewritten_entry r e ≡ e
  equal-stays equal = by e.kernel
    where
      by : (b : Bool) → (if b then e else retold_entry e (rewritten_method text_pattern_words concat r e.tree)) ≡ e
      by true = refl
      by false =
          ap (λ (b : Bool). if b then e else record e { tree = rewritten_method text_pattern_words concat r e.tree; source = canonical_method (rewritten_method text_pattern_words concat r e.tree) })
          (equal-method e.tree (made_of r e.tree.body) ∙ equal)

  -- any other one of a user gets another body, and the canonical text
  pub entry-made : (b : SequenceOf Text) (text : Text) → e.kernel ≡ false → equal_sequence text_eq e.tree.body (made_of r e.tree.body) ≡ false
      → b ≡ made_of r e.tree.body → text ≡ canonical_method (record e.tree { body = b })
      → record e { tree = record e.tree { body = b }; source = text } ≡ rewritten_entry r e
  entry-made b text user other made is =
      (λ i. record e { tree = record e.tree { body = made i }; source = (is ∙ ap (λ (c : SequenceOf Text). canonical_method (record e.tree { body = c })) made) i })
      ∙ sym (ap (λ (q : Bool). if q then e else record e { tree = rewritten_method text_pattern_words concat r e.tree; source = canonical_method (rewritten_method text_pattern_words concat r e.tree) })
      (equal-method e.tree (made_of r e.tree.body) ∙ other))
      ∙ sym (ap (λ (q : Bool). if q then e else retold_entry e (rewritten_method text_pattern_words concat r e.tree)) user)

module _ (r : RuleOf Text) (d : DoItOf Text) where
  -- a do-it stays of whose body an equal one is made
  pub doit-stays : equal_sequence text_eq d.body (made_of r d.body) ≡ true → rewritten_doit r d ≡ d
  doit-stays equal = ap (λ (b : Bool). if b then d else record d { body = made_of r d.body; source = canonical_doit (made_of r d.body) }) equal

  -- any other one gets another body, and the canonical text
  pub doit-made : (b : SequenceOf Text) (text : Text) → equal_sequence text_eq d.body (made_of r d.body) ≡ false
      → b ≡ made_of r d.body → text ≡ canonical_doit b → record d { body = b; source = text } ≡ rewritten_doit r d
  doit-made b text other made is =
      (λ i. record d { body = made i; source = (is ∙ ap canonical_doit made) i })
      ∙ sym (ap (λ (q : Bool). if q then d else record d { body = made_of r d.body; source = canonical_doit (made_of r d.body) }) other)
