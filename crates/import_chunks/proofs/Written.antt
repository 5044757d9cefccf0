-- Texts that are written piece by piece.
use Rattle.std.proofs.Common.{◌≡◌, [], ◌++◌, sym, ap, ◌∙◌, append_assoc, append-nil}
use Rattle.std.specs.Prelude.{codes, if◌then◌else◌}
use Rattle.text_model.specs.Literals.{quoted_text}
use Rattle.file_model.specs.Changes.{RunOf}
use Rattle.file_model.specs.Filing.{Text}
use Rattle.file_model.specs.Forms.{DefinitionStrings}
use Rattle.file_model.specs.Written.{side_text}
use Rattle.import_model.specs.Steps.{run_source, definition_source}

-- the beginning of a run
pub run_joined : (r : RunOf Text) (o q s side : Text) → o ≡ r.class → side ≡ (if r.meta then codes " class" else []) → q ≡ o ++ side → s ≡ q ++ (codes " methodsFor: " ++ quoted_text r.protocol) → s ≡ run_source r
run_joined r o q s side e f g h =
    h ∙ ap (λ (x : Text). x ++ (codes " methodsFor: " ++ quoted_text r.protocol)) (g ∙ (λ i. e i ++ f i)) ∙ sym (append_assoc (side_text r) (codes " methodsFor: ") (quoted_text r.protocol))

-- the definition of a class
pub definition_joined : (p : Text) (d : DefinitionStrings) (o a b q r s t category : Text) → o ≡ p → a ≡ o ++ codes " subclass: #" → b ≡ a ++ d.name
    → q ≡ b ++ (codes "\n\tinstanceVariableNames: " ++ quoted_text d.instance) → r ≡ q ++ (codes "\n\tclassVariableNames: " ++ quoted_text d.shared) → s ≡ r ++ (codes "\n\tpoolDictionaries: " ++ quoted_text []) → t ≡ s ++ (codes "\n\tcategory: " ++ quoted_text category)
    → category ≡ d.category → t ≡ definition_source p d
definition_joined p d o a b q r s t category e f g h i j k is =
    let instance : d.instance ≡ d.instance ++ [] = sym (append-nil d.instance) in
    let shared : d.shared ≡ d.shared ++ [] = sym (append-nil d.shared) in
    k ∙ ap (λ (x : Text). x ++ (codes "\n\tcategory: " ++ quoted_text category)) (j ∙ ap (λ (x : Text). x ++ (codes "\n\tpoolDictionaries: " ++ quoted_text [])) (i ∙ ap (λ (x : Text). x ++ (codes "\n\tclassVariableNames: " ++ quoted_text d.shared)) (h ∙ ap (λ (x : Text). x ++ (codes "\n\tinstanceVariableNames: " ++ quoted_text d.instance)) (g ∙ ap (λ (x : Text). x ++ d.name) (f ∙ ap (λ (x : Text). x ++ codes " subclass: #") e)))))
    ∙ (λ z. p ++ codes " subclass: #" ++ d.name ++ (codes "\n\tinstanceVariableNames: " ++ quoted_text (instance z)) ++ (codes "\n\tclassVariableNames: " ++ quoted_text (shared z)) ++ (codes "\n\tpoolDictionaries: " ++ quoted_text []) ++ (codes "\n\tcategory: " ++ quoted_text (is z)))
