-- What is told of the records in slots.
use Rattle.std.proofs.Common.{◌≡◌, ℕ, ◌+◌, true, false, Bool, List, [], ◌++◌, Option, Some, None, option_map, sym, subst, ◌∙◌, true≢false}
use Rattle.std.specs.Prelude.{codes}
use Rattle.std.specs.Fmt.{decimal}
use Rattle.st_tree.specs.View.{sequence_of}
use Rattle.st_tree.specs.declared.tree.Method.{Method}
use Rattle.st_tree.specs.declared.tree.Sequence.{Sequence}
use Rattle.class_table.specs.declared.record.MethodRec.{MethodRec}
use Rattle.class_table.specs.declared.record.MethodInfo.{MethodInfo}
use Rattle.class_table.specs.declared.record.DoIt.{DoIt}
use Rattle.class_table.specs.Info.{IsInfoOf}
use Rattle.class_table.specs.Slots.{Slots}
use Rattle.pattern_model.specs.Patterns.{PatternOf}
use Rattle.pattern_model.specs.Search.{all_matches}
use Rattle.pattern_match.specs.Words.{number_words}
use Rattle.image_queries.specs.Parts.{title_of}
use Rattle.image_search.specs.Parts.{StandsInMethodText, StandsInDoItText, AreNodeLines, IsMethodText, IsDoItText}

module _ (s : Slots) (p : PatternOf ℕ) (text : List ℕ) where
  -- the text is that of the nodes that match in a tree of a class, a side, a selector and a source
  abbrev AreTreeLines : ℕ → Bool → ℕ → List ℕ → Method → Type 0
  AreTreeLines class meta selector source tree =
      AreNodeLines (title_of s.names s.classes class meta selector) (StandsInMethodText source) (all_matches (number_words s.names) p (sequence_of tree.body)) text

  -- the lines of a method of the kernel
  pub kernel_told : (o : Option MethodRec) (info : MethodInfo) → IsInfoOf (Some info) o → info.kernel ≡ true → text ≡ [] → (m : MethodRec) → o ≡ Some m → IsMethodText s p text m
  kernel_told None info told kernel e m is = absurd told
  kernel_told (Some x) info told kernel e m is =
      let same : x ≡ m = cc in
      subst (IsMethodText s p text) same (record { kernel = λ k. e; user = λ user. absurd (true≢false (sym kernel ∙ told.kernel ∙ user)) })

  -- the lines of a user's method
  pub slot_told : (o : Option MethodRec) (info : MethodInfo) (tree : Method) → IsInfoOf (Some info) o → info.kernel ≡ false → Some tree ≡ option_map (λ (m : MethodRec). m.tree) o
      → AreTreeLines info.class info.meta info.selector info.source.now tree → (m : MethodRec) → o ≡ Some m → IsMethodText s p text m
  slot_told None info tree told user held lines m is = absurd told
  slot_told (Some x) info tree told user held lines m is =
      let same : x ≡ m = cc in
      let trees : tree ≡ x.tree = cc in
      subst (IsMethodText s p text) same
      (record {
        kernel = λ kernel. absurd (true≢false (sym kernel ∙ sym told.kernel ∙ user));
        user = λ mine.
            subst (λ (c : ℕ). AreTreeLines c x.meta x.tree.selector x.source x.tree) told.class
            (subst (λ (b : Bool). AreTreeLines info.class b x.tree.selector x.source x.tree) told.meta
            (subst (λ (n : ℕ). AreTreeLines info.class info.meta n x.source x.tree) told.selector
            (subst (λ (t : List ℕ). AreTreeLines info.class info.meta info.selector t x.tree) told.source
            (subst (λ (t : Method). AreTreeLines info.class info.meta info.selector info.source.now t) trees lines))));
      })

  -- the lines of a do-it
  pub doit_told : (number : ℕ) (o : Option DoIt) (source : List ℕ) (body : Sequence) → Some source ≡ option_map (λ (d : DoIt). d.source) o → Some body ≡ option_map (λ (d : DoIt). d.body) o
      → AreNodeLines (codes "doit " ++ decimal (number + 1)) (StandsInDoItText source) (all_matches (number_words s.names) p (sequence_of body)) text
      → (d : DoIt) → o ≡ Some d → IsDoItText s p number d text
  doit_told number None source body e f lines d is = let none : Some source ≡ None = e in cc
  doit_told number (Some x) source body e f lines d is =
      let same : x ≡ d = cc in
      let sources : source ≡ x.source = cc in
      let bodies : body ≡ x.body = cc in
      subst (λ (y : DoIt). IsDoItText s p number y text) same
      (subst (λ (t : List ℕ). AreNodeLines (codes "doit " ++ decimal (number + 1)) (StandsInDoItText t) (all_matches (number_words s.names) p (sequence_of x.body)) text) sources
      (subst (λ (b : Sequence). AreNodeLines (codes "doit " ++ decimal (number + 1)) (StandsInDoItText source) (all_matches (number_words s.names) p (sequence_of b)) text) bodies lines))
