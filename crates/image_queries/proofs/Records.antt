-- What is told of the records in slots.
use Rattle.std.proofs.Common.{◌≡◌, ℕ, ◌+◌, false, List, ◌++◌, Option, Some, None, option_map, sym, subst, ◌∙◌, true≢false}
use Rattle.std.specs.Prelude.{codes}
use Rattle.std.specs.Fmt.{decimal}
use Rattle.token_model.specs.declared.kind.Dialect.TheVariants.{Second}
use Rattle.grammar_model.specs.Spanned.{SpannedSequence, SpannedMethod}
use Rattle.grammar_model.specs.Spelling.{SpellsDoItAt, SpellsMethodAt}
use Rattle.event_spans.specs.Answers.{sequence_spans}
use Rattle.st_tree.specs.View.{statements_of, method_of, sequence_of}
use Rattle.st_tree.specs.declared.tree.Method.{Method}
use Rattle.st_tree.specs.declared.tree.Sequence.{Sequence}
use Rattle.class_table.specs.declared.record.MethodRec.{MethodRec}
use Rattle.class_table.specs.declared.record.MethodInfo.{MethodInfo}
use Rattle.class_table.specs.declared.record.DoIt.{DoIt}
use Rattle.class_table.specs.Info.{IsInfoOf}
use Rattle.class_table.specs.Slots.{Slots}
use Rattle.query_model.specs.Queries.{QueryOf}
use Rattle.image_queries.specs.Asked.{mentions, is_meant, meaning_in_tree, meaning_in_body}
use Rattle.image_queries.specs.Marks.{statements_marks, marked_lines}
use Rattle.image_queries.specs.Parts.{title_of, IsMethodText, IsDoItText}

-- the lines of a user's method
pub slot_told : (s : Slots) (q : QueryOf ℕ) (o : Option MethodRec) (info : MethodInfo) (tree : Method) (text : List ℕ) → IsInfoOf (Some info) o → info.kernel ≡ false → Some tree ≡ option_map (λ (m : MethodRec). m.tree) o
    → ((spelled : SpannedMethod) → SpellsMethodAt Second false info.source.now spelled
    → text ≡ marked_lines (λ path. is_meant q (meaning_in_tree s info.class info.meta (method_of tree) path)) (title_of s.names s.classes info.class info.meta info.selector) (sequence_spans spelled.body) (statements_marks (mentions q) (statements_of tree.body.statements)))
    → (m : MethodRec) → o ≡ Some m → IsMethodText s q text m
slot_told s q None info tree text told user held lines m e = absurd told
slot_told s q (Some x) info tree text told user held lines m e =
    let same : x ≡ m = cc in
    let trees : tree ≡ x.tree = cc in
    subst (IsMethodText s q text) same
    (record {
      kernel = λ kernel. absurd (true≢false (sym kernel ∙ sym told.kernel ∙ user));
      user = λ mine spelled spells.
          lines spelled (subst (λ (source : List ℕ). SpellsMethodAt Second false source spelled) (sym told.source) spells)
          ∙ (λ i. marked_lines (λ path. is_meant q (meaning_in_tree s (told.class i) (told.meta i) (method_of (trees i)) path)) (title_of s.names s.classes (told.class i) (told.meta i) (told.selector i)) (sequence_spans spelled.body) (statements_marks (mentions q) (statements_of (trees i).body.statements)));
    })

-- the lines of a do-it
pub doit_told : (s : Slots) (q : QueryOf ℕ) (number : ℕ) (o : Option DoIt) (source : List ℕ) (body : Sequence) (text : List ℕ) → Some source ≡ option_map (λ (d : DoIt). d.source) o → Some body ≡ option_map (λ (d : DoIt). d.body) o
    → ((spelled : SpannedSequence) → SpellsDoItAt Second source spelled
    → text ≡ marked_lines (λ path. is_meant q (meaning_in_body s (sequence_of body) path)) (codes "doit " ++ decimal (number + 1)) (sequence_spans spelled) (statements_marks (mentions q) (statements_of body.statements)))
    → (d : DoIt) → o ≡ Some d → IsDoItText s q number d text
doit_told s q number None source body text p r lines d e = let none : Some source ≡ None = p in cc
doit_told s q number (Some x) source body text p r lines d e =
    let same : x ≡ d = cc in
    let sources : source ≡ x.source = cc in
    let bodies : body ≡ x.body = cc in
    subst (λ (y : DoIt). IsDoItText s q number y text) same
    (λ spelled spells.
    lines spelled (subst (λ (t : List ℕ). SpellsDoItAt Second t spelled) (sym sources) spells)
    ∙ (λ i. marked_lines (λ path. is_meant q (meaning_in_body s (sequence_of (bodies i)) path)) (codes "doit " ++ decimal (number + 1)) (sequence_spans spelled) (statements_marks (mentions q) (statements_of (bodies i).statements))))
